-- A code word within two symbols shows in the sums as none, one or two wrong symbols, and none of these escapes the corrector.
use Rattle.std.proofs.Common.{◌≡◌, ℕ, ◌+◌, ◌<◌, ◌≤◌, ◌⊎◌, List, [], ◌∷◌, length, sym, refl, ap, ◌∙◌, ap₂, inl, inr, ⊎_elim, arith}
use Rattle.std.specs.List.{AllByRecursion}
use Rattle.algebra.specs.Operations.{Ops, minus}
use Rattle.algebra.specs.Powers.{power}
use Rattle.algebra.specs.Identities.{two_terms}
use Rattle.algebra.proofs.Elements.{by_ring, reads}
use Rattle.code.specs.Blocks.{Sum, CodeWord₁, differ}
use Rattle.code.specs.Generator.{Generates}
use Rattle.code.proofs.Powers.{power_in}
use Rattle.code.proofs.Polynomials.{sum_in}
use Rattle.code.proofs.Elimination.{Term, weighted, Apart}
use Rattle.code.proofs.Differences.{terms, length_terms, weighted_terms, nonzero_terms, Placed, placed_terms, apart_terms}
use Rattle.corrector.specs.Errors.{AllZero, Ratio, det, locator_sum, locator_product, Pair, OneError, TwoErrors}
use Rattle.corrector.specs.declared.syndromes.Syndromes.{Syndromes}
use Rattle.corrector.proofs.Received.{Received, generates_block, of_code}
use Rattle.corrector.proofs.Locators.{pair_unique}
use Rattle.corrector.proofs.OneWrong.{ratio_unique, one_ratio, one_first, one_det}
use Rattle.corrector.proofs.TwoWrong.{two_pair, two_det}

module _ {E : Type 0} {o : Ops E} {α : E} {n : ℕ} {block : List E} {s : Syndromes E} (r : Received o α n block s) where
  open r use {laws as l, elements as hs, sums as is, inside as hi}

  abbrev g : Generates o α (length block)
  g = generates_block r

  open o use {zero as 𝟘, one as 𝟙, add as ◌⊹◌, mul as ◌·◌}

  infixl 65 ◌⊹◌
  infixl 70 ◌·◌
  -- no, one or two wrong symbols
  abbrev Errors : Type 0
  Errors =
      AllZero o s ⊎ (((k : ℕ) × (e : E) × OneError o α (length block) s k e)
      ⊎ ((i : ℕ) × (d : E) × (k : ℕ) × (e : E) × TwoErrors o α (length block) s i d k e))

  -- the sums are those of the terms
  abbrev SumsAre : List (Term o) → Type 0
  SumsAre ts = (i : ℕ) → i < 4 → Sum o α (1 + i) block ≡ weighted o (λ _. 𝟙) ts (1 + i)

  by_terms : (ts : List (Term o)) → AllByRecursion (λ t. t.e ≡ 𝟘 → ⊥) ts → AllByRecursion (Placed l α (length block) g (length block)) ts → Apart ts → length ts ≤ 2
      → SumsAre ts → Errors
  by_terms [] nonzero placed apart h w =
      inl (is.one ∙ w 0 (omega arith), is.two ∙ w 1 (omega arith), is.three ∙ w 2 (omega arith), is.four ∙ w 3 (omega arith))
  by_terms (t ∷ []) nonzero placed apart h w =
      let hX = power_in l α placed.0.0 g.inside in
      let one : (j : ℕ) → weighted o (λ _. 𝟙) (t ∷ []) j ≡ t.e · power o (power o α placed.0.0) j =
      λ j. ap (λ X. t.e · (𝟙 · power o X j) ⊹ 𝟘) placed.0.2
      ∙ by_ring l ((t.e, t.e_in) ∷ (power o (power o α placed.0.0) j, power_in l (power o α placed.0.0) j hX) ∷ []) (search reads depth 40) refl in
      inr (inl (
        placed.0.0,
        t.e,
        record {
          below = placed.0.1;
          inside = t.e_in;
          nonzero = nonzero.0;
          one = is.one ∙ w 0 (omega arith) ∙ one 1;
          two = is.two ∙ w 1 (omega arith) ∙ one 2;
          three = is.three ∙ w 2 (omega arith) ∙ one 3;
          four = is.four ∙ w 3 (omega arith) ∙ one 4;
        },
      ))
  by_terms (t ∷ (u ∷ [])) nonzero placed apart h w =
      let i = placed.0.0 in
      let k = placed.1.0.0 in
      let X_is : t.X ≡ power o α i = placed.0.2 in
      let Y_is : u.X ≡ power o α k = placed.1.0.2 in
      let hX = power_in l α i g.inside in
      let hY = power_in l α k g.inside in
      let two : (j : ℕ) → weighted o (λ _. 𝟙) (t ∷ (u ∷ [])) j ≡ two_terms o t.e (power o α i) u.e (power o α k) j =
      λ j. ap₂ (λ X Y. t.e · (𝟙 · power o X j) ⊹ (u.e · (𝟙 · power o Y j) ⊹ 𝟘)) X_is Y_is
      ∙ by_ring l ((t.e, t.e_in) ∷ (power o (power o α i) j, power_in l (power o α i) j hX)
      ∷ (u.e, u.e_in) ∷ (power o (power o α k) j, power_in l (power o α k) j hY) ∷ []) (search reads depth 40) refl in
      inr (inr (
        i,
        t.e,
        k,
        u.e,
        record {
          i_below = placed.0.1;
          k_below = placed.1.0.1;
          apart = λ q. apart.0.0 (Y_is ∙ sym q ∙ sym X_is);
          d_in = t.e_in;
          e_in = u.e_in;
          d_nonzero = nonzero.0;
          e_nonzero = nonzero.1.0;
          one = is.one ∙ w 0 (omega arith) ∙ two 1;
          two = is.two ∙ w 1 (omega arith) ∙ two 2;
          three = is.three ∙ w 2 (omega arith) ∙ two 3;
          four = is.four ∙ w 3 (omega arith) ∙ two 4;
        },
      ))
  by_terms (t ∷ (u ∷ (v ∷ ts))) nonzero placed apart h w = absurd (omega (arith, h))

  errors : (word : List E) → CodeWord₁ o α (length block) word → differ o block word ≤ 2 → Errors
  errors word w d =
      by_terms (terms l α (length block) g block word hs w.inside) (nonzero_terms l α (length block) g block word hs w.inside)
      (placed_terms l α (length block) g block word hs w.inside) (apart_terms l α (length block) g block word hs w.inside (omega arith))
      (rw (length_terms l α (length block) g block word hs w.inside) d)
      (λ i h. sym (weighted_terms l α (length block) g block word hs w.inside (1 + i) (sym w.long)
      ∙ ap (minus o (Sum o α (1 + i) block)) (w.zeros i h)
      ∙ by_ring l ((Sum o α (1 + i) block, sum_in l α (1 + i) block g.inside hs) ∷ []) (search reads depth 40) refl))

  -- refusals of one wrong symbol
  pub no_first : s.s1 ≡ 𝟘 → (k : ℕ) (e : E) → OneError o α (length block) s k e → ⊥
  no_first z k e w = one_first l s hi α (length block) g k e w z

  pub no_ratio : ((x : E) → Ratio o s x → ⊥) → (k : ℕ) (e : E) → OneError o α (length block) s k e → ⊥
  no_ratio none k e w = none _ (one_ratio l s hi α (length block) g k e w)

  pub no_place : (x : E) → Ratio o s x → ((k : ℕ) → k < n → power o α k ≡ x → ⊥) → (k : ℕ) (e : E) → OneError o α (length block) s k e → ⊥
  no_place x ratio none k e w =
      none k (of_code r k w.below) (ratio_unique l s hi (power o α k) x (one_ratio l s hi α (length block) g k e w) ratio (one_first l s hi α (length block) g k e w))

  -- refusals of two wrong symbols
  pub no_pair : ((x y : E) → Pair o (locator_sum o s) (locator_product o s) x y → ⊥) → (i : ℕ) (d : E) (k : ℕ) (e : E) → TwoErrors o α (length block) s i d k e → ⊥
  no_pair none i d k e w = none _ _ (two_pair l s hi α (length block) g i d k e w)

  module _ (x y : E) (p : Pair o (locator_sum o s) (locator_product o s) x y) where
    matched : (i : ℕ) (d : E) (k : ℕ) (e : E) → TwoErrors o α (length block) s i d k e
        → ((x ≡ power o α i) × (y ≡ power o α k)) ⊎ ((x ≡ power o α k) × (y ≡ power o α i))
    matched i d k e w = pair_unique l _ _ x y _ _ p (two_pair l s hi α (length block) g i d k e w)

    pub no_double : x ≡ y → (i : ℕ) (d : E) (k : ℕ) (e : E) → TwoErrors o α (length block) s i d k e → ⊥
    no_double q i d k e w =
        ⊎_elim (λ m. w.apart (sym m.0 ∙ q ∙ m.1)) (λ m. w.apart (sym m.1 ∙ sym q ∙ m.0)) (matched i d k e w)

    pub no_left : ((k : ℕ) → k < n → power o α k ≡ x → ⊥) → (i : ℕ) (d : E) (k : ℕ) (e : E) → TwoErrors o α (length block) s i d k e → ⊥
    no_left none i d k e w =
        ⊎_elim (λ m. none i (of_code r i w.i_below) (sym m.0)) (λ m. none k (of_code r k w.k_below) (sym m.0)) (matched i d k e w)

    pub no_right : ((k : ℕ) → k < n → power o α k ≡ y → ⊥) → (i : ℕ) (d : E) (k : ℕ) (e : E) → TwoErrors o α (length block) s i d k e → ⊥
    no_right none i d k e w =
        ⊎_elim (λ m. none k (of_code r k w.k_below) (sym m.1)) (λ m. none i (of_code r i w.i_below) (sym m.1)) (matched i d k e w)

  -- what neither case corrects has no code word near
  far : (word : List E) → (differ o block word ≤ 2 → ⊥) → 2 < differ o block word
  far word n = omega arith

  pub far_from_one : (AllZero o s → ⊥) → det o s ≡ 𝟘 → ((k : ℕ) (e : E) → OneError o α (length block) s k e → ⊥)
      → (word : List E) → CodeWord₁ o α (length block) word → 2 < differ o block word
  far_from_one nonzero z none word w =
      far word (λ d. ⊎_elim nonzero (⊎_elim (λ f. none f.0 f.1 f.2)
      (λ f. two_det l s hi α (length block) g f.0 f.1 f.2 f.3 f.4 z)) (errors word w d))

  pub far_from_two : (AllZero o s → ⊥) → (det o s ≡ 𝟘 → ⊥) → ((i : ℕ) (d : E) (k : ℕ) (e : E) → TwoErrors o α (length block) s i d k e → ⊥)
      → (word : List E) → CodeWord₁ o α (length block) word → 2 < differ o block word
  far_from_two nonzero n none word w =
      far word (λ d. ⊎_elim nonzero (⊎_elim (λ f. n (one_det l s hi α (length block) g f.0 f.1 f.2))
      (λ f. none f.0 f.1 f.2 f.3 f.4)) (errors word w d))
