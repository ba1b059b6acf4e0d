-- Quotients in a field.
use Rattle.std.proofs.Common.{◌≡◌, [], ◌∷◌, refl}
use Rattle.algebra.specs.Operations.{Ops, In, minus}
use Rattle.algebra.specs.Laws.{Arithmetic}
use Rattle.algebra.proofs.Elements.{by_ring_from, times, reads}

module _ {E : Type 0} {o : Ops E} (l : Arithmetic o) where
  open o use {zero as 𝟘, mul as ◌·◌, neg, inv}

  infixl 70 ◌·◌
  -- a factor that is not zero goes
  pub cancel : (t a b : E) → In o t → In o a → In o b → (t ≡ 𝟘 → ⊥) → t · a ≡ t · b → a ≡ b
  cancel t a b ht ha hb n e =
      by_ring_from l ((t, ht) ∷ (a, ha) ∷ (b, hb) ∷ (inv t, l.inv_in t ht) ∷ [])
      (times l (inv t) e (search reads depth 40) (search reads depth 40) ∷ times l (neg (minus o a b)) (l.mul_inv t ht n) (search reads depth 40) (search reads depth 40) ∷ [])
      (search reads depth 40) refl

  pub quotient_times : (a t : E) → In o a → In o t → (t ≡ 𝟘 → ⊥) → a ≡ a · inv t · t
  quotient_times a t ha ht n =
      by_ring_from l ((a, ha) ∷ (t, ht) ∷ (inv t, l.inv_in t ht) ∷ [])
      (times l (neg a) (l.mul_inv t ht n) (search reads depth 40) (search reads depth 40) ∷ []) (search reads depth 40) refl

  pub quotient_unique : (a t x : E) → In o a → In o t → In o x → (t ≡ 𝟘 → ⊥) → a ≡ x · t → x ≡ a · inv t
  quotient_unique a t x ha ht hx n e =
      by_ring_from l ((a, ha) ∷ (t, ht) ∷ (x, hx) ∷ (inv t, l.inv_in t ht) ∷ [])
      (times l (neg (inv t)) e (search reads depth 40) (search reads depth 40) ∷ times l (neg x) (l.mul_inv t ht n) (search reads depth 40) (search reads depth 40) ∷ [])
      (search reads depth 40) refl
