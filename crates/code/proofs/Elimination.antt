-- Terms e·X^j at different X: where as many successive sums are zero as there are terms, each e is zero.
use Rattle.std.proofs.Common.{◌≡◌, ℕ, suc, ◌+◌, ◌<◌, List, [], ◌∷◌, length, refl, ap, ◌∙◌, ap₂, add-zero, add-suc, arith}
use Rattle.std.specs.List.{AllByRecursion}
use Rattle.algebra.specs.Operations.{Ops, In, minus}
use Rattle.algebra.specs.Laws.{Arithmetic}
use Rattle.algebra.specs.Powers.{power}
use Rattle.algebra.proofs.Elements.{by_ring, by_ring_from, times, reads}
use Rattle.algebra.proofs.Products.{other_zero, minus_zero}
use Rattle.code.proofs.Powers.{power_in, power_nonzero, minus_in}

-- the factor e at the value X
pub record Term {E : Type 0} (o : Ops E) : Type 0 where
  pub e : E
  pub X : E
  pub e_in : In o e
  pub X_in : In o X
  pub X_nonzero : X ≡ o.zero → ⊥

-- Σ e · w(X) · X^j
abbrev pub weighted : {E : Type 0} (o : Ops E) → (E → E) → List (Term o) → ℕ → E
weighted o w [] j = o.zero
weighted o w (t ∷ ts) j = o.add (o.mul t.e (o.mul (w t.X) (power o t.X j))) (weighted o w ts j)

-- no two terms have the same X
abbrev pub Apart : {E : Type 0} {o : Ops E} → List (Term o) → Type 0
Apart [] = Unit {0}
Apart (t ∷ ts) = AllByRecursion (λ u. u.X ≡ t.X → ⊥) ts × Apart ts

-- w gives elements, and at the terms none that is zero
pub record Weight {E : Type 0} (o : Ops E) (w : E → E) (ts : List (Term o)) : Type 0 where
  pub inside : (x : E) → In o x → In o (w x)
  pub nonzero : AllByRecursion (λ t. w t.X ≡ o.zero → ⊥) ts

module _ {E : Type 0} {o : Ops E} (l : Arithmetic o) where
  open o use {zero as 𝟘, one as 𝟙, add as ◌⊹◌, mul as ◌·◌, neg}

  infixl 65 ◌⊹◌
  infixl 70 ◌·◌
  pub weighted_in : (w : E → E) (ts : List (Term o)) (j : ℕ) → ((x : E) → In o x → In o (w x)) → In o (weighted o w ts j)
  weighted_in w [] j h = l.zero_in
  weighted_in w (t ∷ ts) j h =
      l.add_in _ _ (l.mul_in _ _ t.e_in (l.mul_in _ _ (h _ t.X_in) (power_in l _ j t.X_in))) (weighted_in w ts j h)

  -- the weight times x - y, which is zero at y
  abbrev vanishing : E → (E → E) → E → E
  vanishing y w x = w x · minus o x y

  -- the sum with it, at j, is the sum at j + 1 less y times that at j
  weighted_vanishing : (y : E) (w : E → E) (ts : List (Term o)) (j : ℕ) → In o y → ((x : E) → In o x → In o (w x))
      → weighted o (vanishing y w) ts j ≡ minus o (weighted o w ts (suc j)) (y · weighted o w ts j)
  weighted_vanishing y w [] j hy hw = by_ring l ((y, hy) ∷ []) (search reads depth 40) refl
  weighted_vanishing y w (t ∷ ts) j hy hw =
      ap (λ s. t.e · (w t.X · minus o t.X y · power o t.X j) ⊹ s) (weighted_vanishing y w ts j hy hw)
      ∙ by_ring l ((y, hy) ∷ (t.e, t.e_in) ∷ (t.X, t.X_in) ∷ (w t.X, hw t.X t.X_in) ∷ (power o t.X j, power_in l t.X j t.X_in)
      ∷ (weighted o w ts (suc j), weighted_in w ts (suc j) hw) ∷ (weighted o w ts j, weighted_in w ts j hw) ∷ []) (search reads depth 40 fits 5000) refl

  -- so two successive sums that are zero leave one without the first term that is zero
  without_first : (w : E → E) (t : Term o) (ts : List (Term o)) (j : ℕ) → ((x : E) → In o x → In o (w x))
      → weighted o w (t ∷ ts) j ≡ 𝟘 → weighted o w (t ∷ ts) (suc j) ≡ 𝟘 → weighted o (vanishing t.X w) ts j ≡ 𝟘
  without_first w t ts j hw p q =
      weighted_vanishing t.X w ts j t.X_in hw
      ∙ by_ring_from l ((t.e, t.e_in) ∷ (t.X, t.X_in) ∷ (w t.X, hw t.X t.X_in) ∷ (power o t.X j, power_in l t.X j t.X_in)
      ∷ (weighted o w ts (suc j), weighted_in w ts (suc j) hw) ∷ (weighted o w ts j, weighted_in w ts j hw) ∷ [])
      (times l 𝟙 q (search reads depth 40 fits 5000) (search reads depth 40) ∷ times l (neg t.X) p (search reads depth 40 fits 5000) (search reads depth 40) ∷ [])
      (search reads depth 40 fits 5000) refl

  vanishing_nonzero : (w : E → E) (t : Term o) (ts : List (Term o)) → ((x : E) → In o x → In o (w x))
      → AllByRecursion (λ u. u.X ≡ t.X → ⊥) ts → AllByRecursion (λ u. w u.X ≡ 𝟘 → ⊥) ts → AllByRecursion (λ u. vanishing t.X w u.X ≡ 𝟘 → ⊥) ts
  vanishing_nonzero w t [] hw a n = tt
  vanishing_nonzero w t (u ∷ ts) hw a n = (
    λ z. a.0 (minus_zero l u.X t.X u.X_in t.X_in
        (other_zero l (w u.X) (minus o u.X t.X) (hw u.X u.X_in) (minus_in l u.X_in t.X_in) z n.0)),
    vanishing_nonzero w t ts hw a.1 n.1,
  )

  -- where each e is zero, so is the sum
  weighted_zero : (w : E → E) (ts : List (Term o)) (j : ℕ) → ((x : E) → In o x → In o (w x)) → AllByRecursion (λ t. t.e ≡ 𝟘) ts → weighted o w ts j ≡ 𝟘
  weighted_zero w [] j hw z = refl
  weighted_zero w (t ∷ ts) j hw z =
      ap₂ (λ e s. e · (w t.X · power o t.X j) ⊹ s) z.0 (weighted_zero w ts j hw z.1)
      ∙ by_ring l ((w t.X, hw t.X t.X_in) ∷ (power o t.X j, power_in l t.X j t.X_in) ∷ []) (search reads depth 40) refl

  pub eliminate : (w : E → E) (ts : List (Term o)) (j : ℕ) → Weight o w ts → Apart ts
      → ((k : ℕ) → k < length ts → weighted o w ts (j + k) ≡ 𝟘) → AllByRecursion (λ t. t.e ≡ 𝟘) ts
  eliminate w [] j hw a z = tt
  eliminate w (t ∷ ts) j hw a z =
      let next : (k : ℕ) → k < length ts → weighted o (vanishing t.X w) ts (j + k) ≡ 𝟘 =
      λ k h. let up : weighted o w (t ∷ ts) (suc (j + k)) ≡ 𝟘 = rw add-suc at (z (suc k) (omega arith)) in
      without_first w t ts (j + k) hw.inside (z k (omega arith)) up in
      let others : AllByRecursion (λ u. u.e ≡ 𝟘) ts =
      eliminate (vanishing t.X w) ts j
      (record {
        inside = λ x hx. l.mul_in _ _ (hw.inside x hx) (minus_in l hx t.X_in);
        nonzero = vanishing_nonzero w t ts hw.inside a.0 hw.nonzero.1;
      }) a.1 next in
      let first : weighted o w (t ∷ ts) j ≡ 𝟘 = rw add-zero at (z 0 (omega arith)) in
      let hp = power_in l t.X j t.X_in in
      let wx = hw.inside t.X t.X_in in
      let alone : w t.X · power o t.X j · t.e ≡ 𝟘 =
      by_ring_from l ((t.e, t.e_in) ∷ (w t.X, wx) ∷ (power o t.X j, hp) ∷ (weighted o w ts j, weighted_in w ts j hw.inside) ∷ [])
      (times l 𝟙 first (search reads depth 40) (search reads depth 40) ∷ times l (neg 𝟙) (weighted_zero w ts j hw.inside others) (search reads depth 40) (search reads depth 40) ∷ [])
      (search reads depth 40) refl in (
        other_zero l (w t.X · power o t.X j) t.e (l.mul_in _ _ wx hp) t.e_in alone
            (λ z'. power_nonzero l t.X j t.X_in t.X_nonzero (other_zero l (w t.X) (power o t.X j) wx hp z' hw.nonzero.0)),
        others,
      )
