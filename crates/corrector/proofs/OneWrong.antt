-- One wrong symbol: the sums are a geometric sequence, and back.
use Rattle.std.proofs.Common.{◌≡◌, ℕ, [], ◌∷◌, sym, refl, ap, ◌∙◌}
use Rattle.algebra.specs.Operations.{Ops, In}
use Rattle.algebra.specs.Laws.{Arithmetic}
use Rattle.algebra.specs.Powers.{power}
use Rattle.algebra.proofs.Elements.{by_ring, reads}
use Rattle.code.specs.Generator.{Generates}
use Rattle.code.proofs.Powers.{power_in, power_nonzero, product_nonzero}
use Rattle.corrector.specs.Errors.{Inside, Ratio, cross, det, OneError}
use Rattle.corrector.specs.declared.syndromes.Syndromes.{Syndromes}
use Rattle.corrector.proofs.Quotients.{quotient_times, quotient_unique}

module _ {E : Type 0} {o : Ops E} (l : Arithmetic o) (s : Syndromes E) (hs : Inside o s) where
  open o use {zero as 𝟘, mul as ◌·◌, inv}

  infixl 70 ◌·◌
  pub ratio_unique : (x y : E) → Ratio o s x → Ratio o s y → (s.s1 ≡ 𝟘 → ⊥) → x ≡ y
  ratio_unique x y p q n =
      quotient_unique l s.s2 s.s1 x hs.two hs.one p.inside n p.two
      ∙ sym (quotient_unique l s.s2 s.s1 y hs.two hs.one q.inside n q.two)

  -- from a ratio x: the sums are e·x^j, with e = S₁ / x
  module _ (x : E) (r : Ratio o s x) (x_nonzero : x ≡ 𝟘 → ⊥) where
    abbrev e : E
    e = s.s1 · inv x

    pub e_in : In o (s.s1 · inv x)
    e_in = l.mul_in _ _ hs.one (l.inv_in _ r.inside)

    pub sum_one : s.s1 ≡ s.s1 · inv x · power o x 1
    sum_one = quotient_times l s.s1 x hs.one r.inside x_nonzero ∙ by_ring l ((x, r.inside) ∷ (e, e_in) ∷ []) (search reads depth 40) refl

    pub sum_two : s.s2 ≡ s.s1 · inv x · power o x 2
    sum_two = r.two ∙ ap (λ y. x · y) sum_one ∙ by_ring l ((x, r.inside) ∷ (e, e_in) ∷ []) (search reads depth 40) refl

    pub sum_three : s.s3 ≡ s.s1 · inv x · power o x 3
    sum_three = r.three ∙ ap (λ y. x · y) sum_two ∙ by_ring l ((x, r.inside) ∷ (e, e_in) ∷ []) (search reads depth 40) refl

    pub sum_four : s.s4 ≡ s.s1 · inv x · power o x 4
    sum_four = r.four ∙ ap (λ y. x · y) sum_three ∙ by_ring l ((x, r.inside) ∷ (e, e_in) ∷ []) (search reads depth 40) refl

    pub e_nonzero : (s.s1 ≡ 𝟘 → ⊥) → s.s1 · inv x ≡ 𝟘 → ⊥
    e_nonzero n z = n (sum_one ∙ ap (λ y. y · power o x 1) z ∙ by_ring l ((x, r.inside) ∷ []) (search reads depth 40) refl)

  -- from one wrong symbol: the ratio is the power of its place
  module _ (α : E) (n : ℕ) (g : Generates o α n) (k : ℕ) (f : E) (w : OneError o α n s k f) where
    abbrev X : E
    X = power o α k

    hX : In o X
    hX = power_in l α k g.inside

    pub one_ratio : Ratio o s (power o α k)
    one_ratio = record {
      inside = hX;
      two = w.two ∙ by_ring l ((X, hX) ∷ (f, w.inside) ∷ []) (search reads depth 40) refl ∙ ap (λ y. X · y) (sym w.one);
      three = w.three ∙ by_ring l ((X, hX) ∷ (f, w.inside) ∷ []) (search reads depth 40) refl ∙ ap (λ y. X · y) (sym w.two);
      four = w.four ∙ by_ring l ((X, hX) ∷ (f, w.inside) ∷ []) (search reads depth 40) refl ∙ ap (λ y. X · y) (sym w.three);
    }

    pub one_first : s.s1 ≡ 𝟘 → ⊥
    one_first z =
        product_nonzero l f (power o X 1) w.inside (power_in l X 1 hX) w.nonzero
        (power_nonzero l X 1 hX (power_nonzero l α k g.inside g.nonzero)) (sym w.one ∙ z)

    pub one_det : det o s ≡ 𝟘
    one_det =
        (λ i. cross o (w.one i) (w.two i) (w.two i) (w.three i)) ∙ by_ring l ((X, hX) ∷ (f, w.inside) ∷ []) (search reads depth 40 fits 5000) refl
