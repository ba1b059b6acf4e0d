-- The steps of the loops that compute powers by squaring, and what is split off an even number.
use Rattle.std.proofs.Common.{◌≡◌, ℕ, zero, suc, ◌+◌, ◌-◌, ◌*◌, ◌/◌, ◌%◌, ◌^◌, ◌<◌, ◌≢◌, sym, ap, ◌∙◌, inl, inr, arith}
use native.Mathlib.Nat as N
use Rattle.std.specs.Int.{w32, bit_at, trailing_zeros}
use Rattle.std.specs.Int.Count.{count_leading_zeros}
use Rattle.std.proofs.lemmas.Nat.{leading_length, mod-pow-add, shr_split}
use Rattle.std.proofs.lemmas.Nat.Bits.{bit_at-trailing_zeros}
use Rattle.std.proofs.lemmas.Bool.{cases_eq}
use Rattle.prime_field.specs.Modular.{power}
use Rattle.prime_field.specs.Exponents.{NoExponent}
use Rattle.prime_field.specs.Proofs.Powers.{power_zero, power_one, power_add, power_suc}

-- a number whose k lowest digits are 0 is a multiple of 2 ^ k
low_digits : (n k : ℕ) → ((i : ℕ) → i < k → bit_at n i ≡ 0) → n % 2 ^ k ≡ 0
low_digits n zero h = N.mod-one n
low_digits n (suc k) h =
    let digit : n / 2 ^ k % 2 ≡ 0 = h k (N.le_refl (suc k)) in
    let rest = low_digits n k (λ i l. h i (N.le_step l)) in
    let e : suc k ≡ 1 + k = omega arith in
    ap (λ (v : ℕ). n % 2 ^ v) e ∙ mod-pow-add n 1 k ∙ ap (λ (v : ℕ). v * 2 ^ k + n % 2 ^ k) digit ∙ omega (arith, N.zero-mul (2 ^ k))

pub whole_split : (n : ℕ) → 0 < n → n < 2 ^ 32 → n ≡ 2 ^ trailing_zeros w32 n * (n / 2 ^ trailing_zeros w32 n)
whole_split n pos fits =
    let k : ℕ = trailing_zeros w32 n in
    let low = low_digits n k (bit_at-trailing_zeros w32 n pos fits).2 in
    let whole = shr_split n k in
    omega (arith, N.mul_comm (2 ^ k) (n / 2 ^ k))

pub odd_split : (n : ℕ) → 0 < n → n < 2 ^ 32 → n / 2 ^ trailing_zeros w32 n % 2 ≡ 1
odd_split n pos fits = (bit_at-trailing_zeros w32 n pos fits).1

-- one more squaring
pub square_more : (p a k : ℕ) → power p a (2 ^ (k + 1)) ≡ (power p a (2 ^ k) * power p a (2 ^ k)) % p
square_more p a k =
    let q : k + 1 ≡ suc k = omega arith in
    ap (λ (v : ℕ). power p a (2 ^ v)) q ∙ ap (λ (v : ℕ). power p a v) (N.two-pow-succ k) ∙ sym (power_add p a (2 ^ k) (2 ^ k))

-- the same, from the exponent before
pub square_at : (p a k : ℕ) → 0 < k → power p a (2 ^ k) ≡ (power p a (2 ^ (k - 1)) * power p a (2 ^ (k - 1))) % p
square_at p a k pos =
    let q : k ≡ k - 1 + 1 = omega arith in
    ap (λ (v : ℕ). power p a (2 ^ v)) q ∙ square_more p a (k - 1)

-- one more exponent without success
pub none_more : (p b j : ℕ) → NoExponent p b j → power p b (2 ^ j) ≢ 1 → NoExponent p b (j + 1)
none_more p b j none here k pos lt one =
    elim (cases_eq k j) [ inl e ↦ here (ap (λ (v : ℕ). power p b (2 ^ v)) (sym e) ∙ one) | inr n ↦ none k pos (omega arith) one ]

-- a number of 32 bits has no binary digit above its highest
pub no_digits : (p a n : ℕ) → 1 < p → n < 2 ^ 32 → power p a (n / 2 ^ (32 - count_leading_zeros 32 n)) ≡ 1
no_digits p a n above h =
    let (m, e, l, _) = leading_length 32 n h in
    let q : 32 - count_leading_zeros 32 n ≡ m = omega arith in
    ap (λ (v : ℕ). power p a (n / 2 ^ v)) q ∙ ap (λ (v : ℕ). power p a v) (N.div-eq_of_lt l) ∙ power_zero p a above

-- the digits of n down to the one before k, from those down to k
digit_more : (n k : ℕ) → 0 < k → n / 2 ^ (k - 1) ≡ (n / 2 ^ k + n / 2 ^ k) + (n / 2 ^ (k - 1)) % 2
digit_more n k pos =
    let q : k ≡ suc (k - 1) = omega arith in
    let e : n / 2 ^ k ≡ n / 2 ^ (k - 1) / 2 =
    ap (λ (v : ℕ). n / 2 ^ v) q ∙ ap (λ (v : ℕ). n / v) (N.pow-suc 2 (k - 1)) ∙ sym (N.div-div-eq-div-mul n (2 ^ (k - 1)) 2) in
    omega arith

-- one more digit, 0 or 1
pub digit_zero : (p a n k : ℕ) → 0 < k → (n / 2 ^ (k - 1)) % 2 ≡ 0 → power p a (n / 2 ^ (k - 1)) ≡ (power p a (n / 2 ^ k) * power p a (n / 2 ^ k)) % p
digit_zero p a n k pos z =
    let h : ℕ = n / 2 ^ k in
    let g : n / 2 ^ (k - 1) ≡ h + h = omega (arith, digit_more n k pos) in
    ap (λ (v : ℕ). power p a v) g ∙ sym (power_add p a h h)

pub digit_one : (p a n k : ℕ) → 0 < k → (n / 2 ^ (k - 1)) % 2 ≡ 1 → power p a (n / 2 ^ (k - 1)) ≡ ((power p a (n / 2 ^ k) * power p a (n / 2 ^ k)) % p * a) % p
digit_one p a n k pos z =
    let h : ℕ = n / 2 ^ k in
    let g : n / 2 ^ (k - 1) ≡ h + h + 1 = omega (arith, digit_more n k pos) in
    ap (λ (v : ℕ). power p a v) g ∙ sym (power_suc p a (h + h)) ∙ ap (λ (v : ℕ). (v * a) % p) (sym (power_add p a h h))

pub ruleset digits = (no_digits, digit_zero, digit_one)

pub ruleset squarings = (power_one, square_more)

pub ruleset splits = (whole_split, odd_split)

pub ruleset searches = (power_one, square_at, none_more)
