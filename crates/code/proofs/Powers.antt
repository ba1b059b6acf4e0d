-- Powers of an element, and of a generator.
use Rattle.std.proofs.Common.{◌≡◌, ℕ, zero, suc, ◌+◌, ◌-◌, ◌*◌, ◌<◌, [], ◌∷◌, sym, refl, ap, ◌∙◌, add-zero, add-suc, mul-zero, mul-suc, arith}
use Rattle.algebra.specs.Operations.{Ops, In, minus}
use Rattle.algebra.specs.Laws.{Arithmetic}
use Rattle.algebra.specs.Powers.{power}
use Rattle.algebra.proofs.Elements.{by_ring, by_ring_from, times, reads}
use Rattle.algebra.proofs.Products.{other_zero, minus_zero}
use Rattle.code.specs.Generator.{Generates}

module _ {E : Type 0} {o : Ops E} (l : Arithmetic o) where
  open o use {zero as 𝟘, one as 𝟙, add as ◌⊹◌, mul as ◌·◌, neg, inv}

  infixl 65 ◌⊹◌
  infixl 70 ◌·◌
  pub minus_in : {a b : E} → In o a → In o b → In o (minus o a b)
  minus_in {a} {b} ha hb = l.add_in a (neg b) ha (l.neg_in b hb)

  -- a product of two that are not zero
  pub product_nonzero : (a b : E) → In o a → In o b → (a ≡ 𝟘 → ⊥) → (b ≡ 𝟘 → ⊥) → a · b ≡ 𝟘 → ⊥
  product_nonzero a b ha hb na nb e = nb (other_zero l a b ha hb e na)

  pub power_in : (x : E) (k : ℕ) → In o x → In o (power o x k)
  power_in x zero h = l.one_in
  power_in x (suc k) h = l.mul_in x (power o x k) h (power_in x k h)

  pub power_nonzero : (x : E) (k : ℕ) → In o x → (x ≡ 𝟘 → ⊥) → power o x k ≡ 𝟘 → ⊥
  power_nonzero x zero h n e = l.one_not_zero e
  power_nonzero x (suc k) h n e = power_nonzero x k h n (other_zero l x (power o x k) h (power_in x k h) e n)

  pub power_one : (x : E) → In o x → x ≡ power o x 1
  power_one x h = sym (l.mul_one x h)

  pub power-+ : (x : E) (a b : ℕ) → In o x → power o x (a + b) ≡ power o x a · power o x b
  power-+ x a zero h = rw add-zero (sym (l.mul_one _ (power_in x a h)))
  power-+ x a (suc b) h =
      rw add-suc (ap (λ y. x · y) (power-+ x a b h)
      ∙ by_ring l ((x, h) ∷ (power o x a, power_in x a h) ∷ (power o x b, power_in x b h) ∷ []) (search reads depth 40) refl)

  pub power-* : (x : E) (a b : ℕ) → In o x → power o x (a * b) ≡ power o (power o x a) b
  power-* x a zero h = rw mul-zero
  power-* x a (suc b) h =
      rw mul-suc (power-+ x (a * b) a h ∙ ap (λ y. y · power o x a) (power-* x a b h)
      ∙ l.mul_comm _ _ (power_in (power o x a) b (power_in x a h)) (power_in x a h))

  -- the powers of a generator below n are different
  pub powers_differ : (α : E) (n : ℕ) → Generates o α n → (a b : ℕ) → a < b → b < n → power o α a ≡ power o α b → ⊥
  powers_differ α n g a b h k e =
      let hα = g.inside in
      let ha = power_in α a hα in
      let hd = power_in α (b - a) hα in
      let more : b ≡ a + (b - a) = omega arith in
      let split : power o α b ≡ power o α a · power o α (b - a) = ap (power o α) more ∙ power-+ α a (b - a) hα in
      let z : power o α a · minus o (power o α (b - a)) 𝟙 ≡ 𝟘 =
      by_ring_from l ((power o α a, ha) ∷ (power o α (b - a), hd) ∷ [])
      (times l (neg 𝟙) (e ∙ split) (search reads depth 40) (search reads depth 40) ∷ []) (search reads depth 40) refl in
      g.apart (b - a) (omega arith) (omega arith)
      (minus_zero l _ _ hd l.one_in (other_zero l (power o α a) _ ha (minus_in hd l.one_in) z (power_nonzero α a hα g.nonzero)))
