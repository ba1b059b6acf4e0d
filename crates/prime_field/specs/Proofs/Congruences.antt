-- Congruences modulo p, for all numbers.
use Rattle.std.specs.Prelude.{◌≡◌, ℕ, pred, ◌+◌, ◌*◌, ◌%◌, ◌<◌, refl}
use Rattle.std.proofs.Common.{sym, ◌∙◌, ap, ap₂}
use Rattle.std.proofs.Math.Nat as N
use Rattle.std.proofs.Math.Nat.{suc-pred-eq_of_pos}
use Rattle.std.proofs.lemmas.Nat.{mul-mod}

pub mod_eq : (p : ℕ) {a b : ℕ} → a ≡ b → a % p ≡ b % p
mod_eq p e = ap (λ (v : ℕ). v % p) e

pub add_congr : (p a b c d : ℕ) → a % p ≡ b % p → c % p ≡ d % p → (a + c) % p ≡ (b + d) % p
add_congr p a b c d e f = N.add-mod a c p ∙ ap₂ (λ (u v : ℕ). (u + v) % p) e f ∙ sym (N.add-mod b d p)

pub mul_congr : (p a b c d : ℕ) → a % p ≡ b % p → c % p ≡ d % p → (a * c) % p ≡ (b * d) % p
mul_congr p a b c d e f = mul-mod a c p ∙ ap₂ (λ (u v : ℕ). (u * v) % p) e f ∙ sym (mul-mod b d p)

-- what is added on both sides cancels
pub add_cancel : (p x b c : ℕ) → 0 < p → (x + b) % p ≡ (x + c) % p → b % p ≡ c % p
add_cancel p x b c pos e = sym (back b) ∙ add_congr p n n (x + b) (x + c) refl e ∙ back c
  where
    n : ℕ
    n = x * pred p

    is : n + x ≡ x * p
    is = sym (N.mul-suc x (pred p)) ∙ ap (λ (v : ℕ). x * v) (suc-pred-eq_of_pos pos)

    back : (y : ℕ) → (n + (x + y)) % p ≡ y % p
    back y = mod_eq p (sym (N.add_assoc n x y) ∙ ap (λ (v : ℕ). v + y) is) ∙ N.mul-add-mod_self_right x p y
