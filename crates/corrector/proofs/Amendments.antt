-- What the correction of one symbol does to the sums and to the count of differences.
use Rattle.std.proofs.Common.{◌≡◌, ℕ, zero, suc, ◌-◌, ◌*◌, ◌<◌, List, [], ◌∷◌, length, get_or, set, sym, refl, ap, ◌∙◌, subst, ap₂, mul_comm, arith, length-set}
use Rattle.std.proofs.ByRecursion.{All-set, All-get_or}
use Rattle.algebra.specs.Operations.{Ops, In, minus}
use Rattle.algebra.specs.Laws.{Arithmetic}
use Rattle.algebra.specs.Powers.{power}
use Rattle.algebra.proofs.Elements.{by_ring, by_ring_from, times, reads}
use Rattle.code.specs.Blocks.{Elements, Sum, differ}
use Rattle.code.proofs.Powers.{minus_in, power_in, power-*}
use Rattle.code.proofs.Polynomials.{sum_in}
use Rattle.code.proofs.Counting.{differ_set}
use Rattle.corrector.specs.Errors.{amended}

module _ {E : Type 0} {o : Ops E} (l : Arithmetic o) where
  open o use {zero as 𝟘, one as 𝟙, add as ◌⊹◌, mul as ◌·◌}

  infixl 65 ◌⊹◌
  infixl 70 ◌·◌
  -- by index
  sum_set : (α : E) (j : ℕ) (xs : List E) (i : ℕ) (e : E) → In o α → i < length xs → Elements o xs → In o e
      → Sum o α j (set xs i (minus o (get_or xs i 𝟘) e)) ≡ minus o (Sum o α j xs) (e · power o α (j * (length xs - 1 - i)))
  sum_set α j [] i e hα h hs he = absurd (omega (arith, h))
  sum_set α j (x ∷ xs) zero e hα h hs he =
      let at : length xs ≡ length (x ∷ xs) - 1 - 0 = omega arith in
      by_ring l ((x, hs.0) ∷ (e, he) ∷ (power o α (j * length xs), power_in l α (j * length xs) hα)
      ∷ (Sum o α j xs, sum_in l α j xs hα hs.1) ∷ []) (search reads depth 40) refl
      ∙ ap (λ m. minus o (x · power o α (j * length xs) ⊹ Sum o α j xs) (e · power o α (j * m))) at
  sum_set α j (x ∷ xs) (suc i) e hα h hs he =
      let at : length xs - 1 - i ≡ length (x ∷ xs) - 1 - suc i = omega arith in
      ap₂ (λ m r. x · power o α (j * m) ⊹ r) (length-set xs i _) (sum_set α j xs i e hα (omega (arith, h)) hs.1 he)
      ∙ by_ring l ((x, hs.0) ∷ (e, he) ∷ (power o α (j * length xs), power_in l α (j * length xs) hα)
      ∷ (Sum o α j xs, sum_in l α j xs hα hs.1) ∷ (power o α (j * (length xs - 1 - i)), power_in l α (j * (length xs - 1 - i)) hα) ∷ []) (search reads depth 40) refl
      ∙ ap (λ m. minus o (x · power o α (j * length xs) ⊹ Sum o α j xs) (e · power o α (j * m))) at

  -- by place, with the power of the place
  pub sum_amended : (α : E) (j : ℕ) (xs : List E) (k : ℕ) (e : E) → In o α → k < length xs → Elements o xs → In o e
      → Sum o α j (amended o xs k e) ≡ minus o (Sum o α j xs) (e · power o (power o α k) j)
  sum_amended α j xs k e hα h hs he =
      let at : length xs - 1 - (length xs - 1 - k) ≡ k = omega arith in
      let p : power o α (j * (length xs - 1 - (length xs - 1 - k))) ≡ power o (power o α k) j =
      ap (λ m. power o α (j * m)) at ∙ ap (power o α) (mul_comm j k) ∙ power-* l α k j hα in
      sum_set α j xs (length xs - 1 - k) e hα (omega arith) hs he ∙ ap (λ q. minus o (Sum o α j xs) (e · q)) p

  pub amended_in : (xs : List E) (k : ℕ) (e : E) → k < length xs → Elements o xs → In o e → Elements o (amended o xs k e)
  amended_in xs k e h hs he =
      All-set (In o) xs (length xs - 1 - k) _ (minus_in l (All-get_or (In o) xs (length xs - 1 - k) 𝟘 (omega arith) hs) he) hs

  pub length_amended : (xs : List E) (k : ℕ) (e : E) → length (amended o xs k e) ≡ length xs
  length_amended xs k e = length-set xs _ _

  -- an amended symbol is another
  amended_other : (a e : E) → In o a → In o e → (e ≡ 𝟘 → ⊥) → a ≡ minus o a e → ⊥
  amended_other a e ha he n q =
      n (by_ring_from l ((a, ha) ∷ (e, he) ∷ []) (times l 𝟙 q (search reads depth 40) (search reads depth 40) ∷ []) (search reads depth 40) refl)

  pub differ_amended : (xs ys : List E) (k : ℕ) (e : E) → length xs ≡ length ys → k < length ys → Elements o xs → In o e → (e ≡ 𝟘 → ⊥)
      → get_or xs (length ys - 1 - k) 𝟘 ≡ get_or ys (length ys - 1 - k) 𝟘 → differ o xs (amended o ys k e) ≡ suc (differ o xs ys)
  differ_amended xs ys k e q h hs he n same =
      let hi : In o (get_or xs (length ys - 1 - k) 𝟘) = All-get_or (In o) xs (length ys - 1 - k) 𝟘 (omega (arith, q)) hs in
      differ_set l xs ys (length ys - 1 - k) _ 𝟘 q (omega (arith, q)) hs (minus_in l (subst (In o) same hi) he) same
      (λ z. amended_other (get_or xs (length ys - 1 - k) 𝟘) e hi he n (z ∙ ap (λ a. minus o a e) (sym same)))
