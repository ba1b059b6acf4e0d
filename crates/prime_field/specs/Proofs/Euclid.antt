-- Inverses modulo a prime, by descent from a to p % a; cancelling a factor; Euclid's lemma.
use Rattle.std.specs.Prelude.{◌≡◌, ℕ, zero, suc, ◌+◌, ◌*◌, ◌/◌, ◌%◌, ◌<◌, ◌≤◌, ◌≢◌, ◌⊎◌, refl}
use Rattle.std.proofs.Common.{sym, ◌∙◌, ap, inl, inr, mod-eq_of_lt, mod-lt, arith}
use Rattle.std.proofs.Math.Nat as N
use Rattle.std.proofs.Math.Nat.{zero-mod, mul-mod_left, div-add-mod, add-mod-mod}
use Rattle.std.proofs.lemmas.Bool.{cases_eq}
use Rattle.std.proofs.lemmas.Nat.{mul-mod_first}
use Rattle.prime_field.specs.Primes.{Prime}
use Rattle.prime_field.specs.Proofs.Congruences.{mod_eq, mul_congr}

-- a number above 1 and below a prime does not divide it
remains : {p : ℕ} → Prime p → (a : ℕ) → 1 < a → a < p → p % a ≢ 0
remains {p} P a above lt z = go (p / a) (sym (N.add-zero (a * (p / a))) ∙ ap (λ (v : ℕ). a * (p / a) + v) (sym z) ∙ div-add-mod p a)
  where
    go : (q : ℕ) → a * q ≢ p
    go zero e = let k : 0 ≡ p = sym (N.mul-zero a) ∙ e in omega arith
    go (suc zero) e = let k : a ≡ p = sym (N.mul-one a) ∙ e in omega arith
    go (suc (suc q)) e = P.undivided a (suc (suc q)) above (omega arith) e

-- where x is - 1, x times - 1 is 1
minus_one : (m x : ℕ) → 0 < m → (x + 1) % suc m ≡ 0 → (x * m) % suc m ≡ 1
minus_one m x pos z =
    let p : ℕ = suc m in
    let e : x * m + (x + 1) ≡ 1 + x * suc m = omega arith in
    mod_eq p (sym (N.add-zero (x * m))) ∙ ap (λ (v : ℕ). (x * m + v) % p) (sym z) ∙ add-mod-mod (x * m) (x + 1) p
    ∙ mod_eq p e ∙ N.add-mul-mod_self_right 1 x p ∙ mod-eq_of_lt (omega arith)

-- from an inverse j of the remainder r of p by a to one of a
descend : (m a q r j : ℕ) → 0 < m → a * q + r ≡ suc m → (r * j) % suc m ≡ 1 → (a * (q * j * m)) % suc m ≡ 1
descend m a q r j pos pe e = mod_eq p (sym (N.mul_assoc a (q * j) m)) ∙ minus_one m x pos z
  where
    p : ℕ
    p = suc m

    x : ℕ
    x = a * (q * j)

    s : x + r * j ≡ j * p
    s = ap (λ (v : ℕ). v + r * j) (sym (N.mul_assoc a q j)) ∙ sym (N.add-mul (a * q) r j) ∙ ap (λ (v : ℕ). v * j) pe ∙ N.mul_comm p j

    z : (x + 1) % p ≡ 0
    z = ap (λ (v : ℕ). (x + v) % p) (sym e) ∙ add-mod-mod x (r * j) p ∙ mod_eq p s ∙ mul-mod_left j p

invert : (m : ℕ) → Prime (suc m) → (f a : ℕ) → a ≤ f → 0 < a → a < suc m → (i : ℕ) × ((a * i) % suc m ≡ 1)
invert m P zero a le pos lt = absurd (omega arith)
invert m P (suc f) a le pos lt = go (cases_eq a 1) (λ r. invert m P f r)
  where
    go : (a ≡ 1) ⊎ (a ≢ 1) → ((r : ℕ) → r ≤ f → 0 < r → r < suc m → (i : ℕ) × ((r * i) % suc m ≡ 1)) → (i : ℕ) × ((a * i) % suc m ≡ 1)
    go (inl o) ih = (1, mod_eq (suc m) (N.mul-one a ∙ o) ∙ mod-eq_of_lt P.above_one)
    go (inr o) ih =
        let small : suc m % a < a = mod-lt (suc m) pos in
        let nz : suc m % a ≢ 0 = remains P a (omega arith) lt in
        let (j, e) = ih (suc m % a) (omega arith) (omega arith) (omega arith) in
        (suc m / a * j * m, descend m a (suc m / a) (suc m % a) j (omega (arith, P.above_one)) (div-add-mod (suc m) a) e)

pub inverse : {p : ℕ} → Prime p → (a : ℕ) → 0 < a → a < p → (i : ℕ) × ((a * i) % p ≡ 1)
inverse {p = zero} P a pos lt = absurd (N.not-suc-le-zero lt)
inverse {p = suc m} P a pos lt = invert m P a a (N.le_refl a) pos lt

-- a factor that is not 0 cancels
pub mul_cancel : {p : ℕ} → Prime p → (a b c : ℕ) → 0 < a → a < p → (a * b) % p ≡ (a * c) % p → b % p ≡ c % p
mul_cancel {p} P a b c pos lt e =
    let (i, w) = inverse P a pos lt in
    let back : (y : ℕ) → (i * (a * y)) % p ≡ y % p = λ y.
    mod_eq p (sym (N.mul_assoc i a y) ∙ ap (λ (v : ℕ). v * y) (N.mul_comm i a)) ∙ sym (mul-mod_first (a * i) y p)
    ∙ ap (λ (v : ℕ). (v * y) % p) w ∙ mod_eq p (N.one-mul y) in
    sym (back b) ∙ mul_congr p i i (a * b) (a * c) refl e ∙ back c

-- Euclid's lemma
pub euclid : {p : ℕ} → Prime p → (a b : ℕ) → (a * b) % p ≡ 0 → (a % p ≡ 0) ⊎ (b % p ≡ 0)
euclid {p} P a b e =
    elim (cases_eq (a % p) 0) [
      | inl z ↦ inl z
      | inr n ↦
          inr (mul_cancel P (a % p) b 0 (omega arith) (mod-lt a (omega (arith, P.above_one)))
          (mul-mod_first a b p ∙ e ∙ sym (zero-mod p) ∙ mod_eq p (sym (N.mul-zero (a % p)))) ∙ zero-mod p)
    ]
