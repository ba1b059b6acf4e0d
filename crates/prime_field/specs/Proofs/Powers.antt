-- The laws of the power modulo p.
use Rattle.std.specs.Prelude.{◌≡◌, ℕ, zero, suc, ◌+◌, ◌-◌, ◌*◌, ◌%◌, ◌^◌, ◌<◌}
use Rattle.std.proofs.Common.{sym, ◌∙◌, ap, arith, pow-add}
use Rattle.std.proofs.Math.Nat as N
use Rattle.std.proofs.lemmas.Nat.{mul-mod, mul-mod_first, mul-pow, pow-mod}
use Rattle.prime_field.specs.Primes.{Prime}
use Rattle.prime_field.specs.Modular.{power}
use Rattle.prime_field.specs.Proofs.Congruences.{mod_eq}
use Rattle.prime_field.specs.Proofs.Euler.{fermat}

pow_mul : (a m n : ℕ) → a ^ (m * n) ≡ (a ^ m) ^ n
pow_mul a m zero = ap (λ (v : ℕ). a ^ v) (N.mul-zero m) ∙ N.pow-zero a ∙ sym (N.pow-zero (a ^ m))
pow_mul a m (suc n) =
    ap (λ (v : ℕ). a ^ v) (N.mul-suc m n) ∙ pow-add a (m * n) m ∙ ap (λ (v : ℕ). v * a ^ m) (pow_mul a m n) ∙ sym (N.pow-suc (a ^ m) n)

pub power_lt : (p a n : ℕ) → 0 < p → power p a n < p
unfolding power
power_lt p a n h = N.mod-lt (a ^ n) h

pub power_zero : (p a : ℕ) → 1 < p → power p a 0 ≡ 1
unfolding power
power_zero p a h = mod_eq p (N.pow-zero a) ∙ N.mod-eq_of_lt h

pub power_one : (p a : ℕ) → a < p → power p a 1 ≡ a
unfolding power
power_one p a h = mod_eq p (N.pow-suc a 0 ∙ ap (λ (v : ℕ). v * a) (N.pow-zero a) ∙ N.one-mul a) ∙ N.mod-eq_of_lt h

pub power_suc : (p a n : ℕ) → (power p a n * a) % p ≡ power p a (n + 1)
unfolding power
power_suc p a n =
    let e : suc n ≡ n + 1 = omega arith in
    mul-mod_first (a ^ n) a p ∙ mod_eq p (sym (N.pow-suc a n) ∙ ap (λ (v : ℕ). a ^ v) e)

pub power_add : (p a m n : ℕ) → (power p a m * power p a n) % p ≡ power p a (m + n)
unfolding power
power_add p a m n =
    sym (mul-mod (a ^ m) (a ^ n) p) ∙ mod_eq p (sym (pow-add a m n))

pub power_power : (p a m n : ℕ) → power p (power p a m) n ≡ power p a (m * n)
unfolding power
power_power p a m n = pow-mod (a ^ m) n p ∙ mod_eq p (sym (pow_mul a m n))

pub mul_power : (p a b n : ℕ) → power p ((a * b) % p) n ≡ (power p a n * power p b n) % p
unfolding power
mul_power p a b n =
    pow-mod (a * b) n p ∙ mod_eq p (mul-pow a b n)
    ∙ mul-mod (a ^ n) (b ^ n) p

pub square_power : (p a n : ℕ) → power p ((a * a) % p) n ≡ power p a (n + n)
square_power p a n = mul_power p a a n ∙ power_add p a n n

pub zero_power : (p n : ℕ) → 0 < n → power p 0 n ≡ 0
unfolding power
zero_power p zero pos = absurd (omega arith)
zero_power p (suc n) pos = mod_eq p (N.pow-suc 0 n ∙ N.mul-zero (0 ^ n)) ∙ N.zero-mod p

pub power_inverse : {p : ℕ} → Prime p → p % 2 ≡ 1 → (a : ℕ) → 0 < a → a < p → (a * power p a (p - 2)) % p ≡ 1
power_inverse {p} P odd a pos lt =
    let e : p - 2 + 1 ≡ p - 1 = omega (arith, P.above_one) in
    mod_eq p (N.mul_comm a (power p a (p - 2))) ∙ power_suc p a (p - 2) ∙ ap (λ (v : ℕ). power p a v) e ∙ fermat P odd a pos lt
