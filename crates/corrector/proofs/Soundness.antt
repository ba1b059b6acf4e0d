-- What the corrector leaves is a code word that differs in as many symbols as it says.
use Rattle.std.proofs.Common.{◌≡◌, ℕ, suc, ◌-◌, ◌<◌, ◌≢◌, List, [], ◌∷◌, length, get_or, sym, refl, ap, ◌∙◌, ap₂, arith, get_or-set_other}
use Rattle.algebra.specs.Operations.{Ops, In, minus}
use Rattle.algebra.specs.Powers.{power}
use Rattle.algebra.specs.Identities.{two_terms}
use Rattle.algebra.proofs.Elements.{by_ring, reads}
use Rattle.code.specs.Blocks.{Elements, Sum}
use Rattle.code.proofs.Powers.{power_in, power_nonzero}
use Rattle.code.proofs.Polynomials.{four_exponents}
use Rattle.code.proofs.Counting.{differ_self}
use Rattle.corrector.specs.Errors.{AllZero, Ratio, det, locator_sum, locator_product, Pair, FirstPlace, magnitude, amended, Corrects}
use Rattle.corrector.specs.declared.syndromes.Syndromes.{Syndromes}
use Rattle.corrector.proofs.Received.{Received, of_block}
use Rattle.corrector.proofs.OneWrong as one
use Rattle.corrector.proofs.TwoWrong as two
use Rattle.corrector.proofs.Amendments.{sum_amended, amended_in, length_amended, differ_amended}

module _ {E : Type 0} {o : Ops E} {α : E} {n : ℕ} {block : List E} {s : Syndromes E} (r : Received o α n block s) where
  open r use {laws as l, generator as g, elements as hs, sums as is, inside as hi}
  open o use {zero as 𝟘, add as ◌⊹◌, mul as ◌·◌, inv}

  infixl 65 ◌⊹◌
  infixl 70 ◌·◌
  pub zero_corrects : AllZero o s → Corrects o α block block 0
  zero_corrects z = record {
    word = record {
      long = refl;
      inside = hs;
      zeros = four_exponents (λ j. Sum o α j block ≡ 𝟘) (sym is.one ∙ z.0) (sym is.two ∙ z.1) (sym is.three ∙ z.2) (sym is.four ∙ z.3);
    };
    count = differ_self l block hs;
    few = omega arith;
  }

  pub one_corrects : (x : E) (k : ℕ) → Ratio o s x → (s.s1 ≡ 𝟘 → ⊥) → FirstPlace o α n x k → Corrects o α block (amended o block k (s.s1 · inv x)) 1
  one_corrects x k ratio nz f =
      let x_nonzero : x ≡ 𝟘 → ⊥ = λ z. power_nonzero l α k g.inside g.nonzero (f.here ∙ z) in
      let e_in = one.e_in l s hi x ratio x_nonzero in
      let zero_at : (j : ℕ) → Sum o α j block ≡ s.s1 · inv x · power o x j → Sum o α j (amended o block k (s.s1 · inv x)) ≡ 𝟘 =
      λ j q. sum_amended l α j block k (s.s1 · inv x) g.inside (of_block r k f.below) hs e_in
      ∙ ap₂ (λ a b. minus o a (s.s1 · inv x · power o b j)) q f.here
      ∙ l.add_neg _ (l.mul_in _ _ e_in (power_in l x j ratio.inside)) in
      record {
        word = record {
          long = length_amended l block k _;
          inside = amended_in l block k _ (of_block r k f.below) hs e_in;
          zeros = four_exponents (λ j. Sum o α j (amended o block k (s.s1 · inv x)) ≡ 𝟘)
              (zero_at 1 (sym is.one ∙ one.sum_one l s hi x ratio x_nonzero)) (zero_at 2 (sym is.two ∙ one.sum_two l s hi x ratio x_nonzero))
              (zero_at 3 (sym is.three ∙ one.sum_three l s hi x ratio x_nonzero)) (zero_at 4 (sym is.four ∙ one.sum_four l s hi x ratio x_nonzero));
        };
        count = differ_amended l block block k (s.s1 · inv x) refl (of_block r k f.below) hs e_in (one.e_nonzero l s hi x ratio x_nonzero nz) refl
            ∙ ap suc (differ_self l block hs);
        few = omega arith;
      }

  module _ (x y : E) (p : Pair o (locator_sum o s) (locator_product o s) x y) (nonzero : det o s ≡ 𝟘 → ⊥) (apart : x ≡ y → ⊥) (i k : ℕ)
      (fx : FirstPlace o α n x i) (fy : FirstPlace o α n y k) where
    x_nonzero : x ≡ 𝟘 → ⊥
    x_nonzero z = power_nonzero l α i g.inside g.nonzero (fx.here ∙ z)

    y_nonzero : y ≡ 𝟘 → ⊥
    y_nonzero z = power_nonzero l α k g.inside g.nonzero (fy.here ∙ z)

    abbrev e₁ : E
    e₁ = magnitude o s x y

    abbrev e₂ : E
    e₂ = magnitude o s y x

    h₁ : In o e₁
    h₁ = two.magnitude_in l s hi x y p.left p.right

    h₂ : In o e₂
    h₂ = two.magnitude_in l s hi y x p.right p.left

    abbrev once : List E
    once = amended o block i e₁

    abbrev twice : List E
    twice = amended o once k e₂

    long : length once ≡ length block
    long = length_amended l block i e₁

    k_below : k < length once
    k_below = rw long (of_block r k fy.below)

    once_in : Elements o once
    once_in = amended_in l block i e₁ (of_block r i fx.below) hs h₁

    zero_at : (j : ℕ) → Sum o α j block ≡ two_terms o e₁ x e₂ y j → Sum o α j twice ≡ 𝟘
    zero_at j q =
        sum_amended l α j once k e₂ g.inside k_below once_in h₂
        ∙ ap₂ (λ a b. minus o a (e₂ · power o b j)) (sum_amended l α j block i e₁ g.inside (of_block r i fx.below) hs h₁) fy.here
        ∙ ap₂ (λ a b. minus o (minus o a (e₁ · power o b j)) (e₂ · power o y j)) q fx.here
        ∙ by_ring l ((e₁, h₁) ∷ (power o x j, power_in l x j p.left) ∷ (e₂, h₂) ∷ (power o y j, power_in l y j p.right) ∷ []) (search reads depth 40 fits 5000) refl

    places_differ : i ≢ k
    places_differ q = apart (sym fx.here ∙ ap (power o α) q ∙ fy.here)

    untouched : get_or block (length once - 1 - k) 𝟘 ≡ get_or once (length once - 1 - k) 𝟘
    untouched =
        let h1 = of_block r i fx.below in
        let h2 = of_block r k fy.below in
        let ne : (length once - 1 - k) ≢ (length block - 1 - i) = λ q. places_differ (omega (arith, q, long)) in
        sym (get_or-set_other block (length block - 1 - i) (length once - 1 - k) _ 𝟘 ne)

    pub two_corrects : Corrects o α block (amended o (amended o block i (magnitude o s x y)) k (magnitude o s y x)) 2
    two_corrects = record {
      word = record {
        long = length_amended l once k e₂ ∙ long;
        inside = amended_in l once k e₂ k_below once_in h₂;
        zeros = four_exponents (λ j. Sum o α j twice ≡ 𝟘)
            (zero_at 1 (sym is.one ∙ two.sum_one l s hi x y p x_nonzero y_nonzero apart nonzero)) (zero_at 2 (sym is.two ∙ two.sum_two l s hi x y p x_nonzero y_nonzero apart nonzero))
            (zero_at 3 (sym is.three ∙ two.sum_three l s hi x y p x_nonzero y_nonzero apart nonzero)) (zero_at 4 (sym is.four ∙ two.sum_four l s hi x y p x_nonzero y_nonzero apart nonzero));
      };
      count = differ_amended l block once k e₂ (sym long) k_below hs h₂ (two.second_nonzero l s hi x y p x_nonzero y_nonzero apart nonzero) untouched
          ∙ ap suc (differ_amended l block block i e₁ refl (of_block r i fx.below) hs h₁ (two.first_nonzero l s hi x y p x_nonzero y_nonzero apart nonzero) refl)
          ∙ ap (λ m. suc (suc m)) (differ_self l block hs);
      few = omega arith;
    }
