-- A computed test that finds primes only: division by the odd numbers up to the root.
use Rattle.std.specs.Prelude.{◌≡◌, ℕ, zero, suc, ◌+◌, ◌-◌, ◌*◌, ◌/◌, ◌%◌, ◌^◌, ◌<◌, ◌≤◌, Bool, true, not, ◌&&◌, ◌||◌, ltb, ◌≢◌, ◌⊎◌, ◌==◌, nat_lt}
use Rattle.std.proofs.Common.{sym, subst, ◌∙◌, ap, inl, inr, mul-le-mul, mul-le-mul_left, mul_assoc, mul_comm, arith}
use Rattle.std.proofs.Math.Nat.{mul-mod_right}
use Rattle.std.proofs.lemmas.Bool.{cases_lt, cases_eq, and_parts, or_cases, ltb-true, eqb-false, not-true}
use Rattle.prime_field.specs.Primes.{Prime}

-- the i-th odd divisor is above the root of p, or leaves a remainder
abbrev clears : ℕ → ℕ → Bool
clears p i = nat_lt p ((2 * i + 3) * (2 * i + 3)) || not (p % (2 * i + 3) == 0)

-- and so do the 2 ^ k divisors from the i-th on
abbrev all_clear : ℕ → ℕ → ℕ → Bool
all_clear p i zero = clears p i
all_clear p i (suc k) = all_clear p i k && all_clear p (i + 2 ^ k) k

-- the test with 2 ^ k odd divisors, which have to reach the root
abbrev pub trial : ℕ → ℕ → Bool
trial p k =
    nat_lt 1 p && ((nat_lt p 4 || not (p % 2 == 0)) && (nat_lt p ((2 * 2 ^ k + 3) * (2 * 2 ^ k + 3)) && all_clear p 0 k))

all_clear_each : (p k i : ℕ) → all_clear p i k ≡ true → (j : ℕ) → i ≤ j → j < i + 2 ^ k → clears p j ≡ true
all_clear_each p zero i t j h l =
    let e : i ≡ j = omega arith in
    subst (λ (v : ℕ). clears p v ≡ true) e t
all_clear_each p (suc k) i t j h l =
    let (low, high) = and_parts (all_clear p i k) (all_clear p (i + 2 ^ k) k) t in
    elim (cases_lt j (i + 2 ^ k)) [
      | inl a ↦ all_clear_each p k i low j h a
      | inr b ↦ all_clear_each p k (i + 2 ^ k) high j b (omega arith)
    ]

record Passed (p k : ℕ) : Type 0 where
  above_one : 1 < p
  odd : (p < 4) ⊎ (p % 2 ≢ 0)
  root : p < (2 * 2 ^ k + 3) * (2 * 2 ^ k + 3)
  rest : (i : ℕ) → i < 2 ^ k → (p < (2 * i + 3) * (2 * i + 3)) ⊎ (p % (2 * i + 3) ≢ 0)

below_or_apart : (a b c d : ℕ) → (nat_lt a b || not (c == d)) ≡ true → (a < b) ⊎ (c ≢ d)
below_or_apart a b c d t =
    elim (or_cases (nat_lt a b) (not (c == d)) t) [
      | inl x ↦ inl (ltb-true a b x)
      | inr y ↦ inr (eqb-false c d (not-true (c == d) y))
    ]

passed : (p k : ℕ) → trial p k ≡ true → Passed p k
passed p k t =
    let b : Bool = nat_lt p 4 || not (p % 2 == 0) in
    let c : Bool = ltb p ((2 * 2 ^ k + 3) * (2 * 2 ^ k + 3)) in
    let d : Bool = all_clear p 0 k in
    let (t1, u) = and_parts (nat_lt 1 p) (b && (c && d)) t in
    let (t2, v) = and_parts b (c && d) u in
    let (t3, t4) = and_parts c d v in
    record {
      above_one = ltb-true 1 p t1;
      odd = below_or_apart p 4 (p % 2) 0 t2;
      root = ltb-true p ((2 * 2 ^ k + 3) * (2 * 2 ^ k + 3)) t3;
      rest = λ i h.
          below_or_apart p ((2 * i + 3) * (2 * i + 3)) (p % (2 * i + 3)) 0 (all_clear_each p k 0 t4 i (omega arith) (omega arith));
    }

-- the smaller factor m is 2 times a number, or one of the divisors
no_factors : (p k : ℕ) → Passed p k → (m n : ℕ) → 1 < m → m ≤ n → m * n ≢ p
no_factors p k t m n above le e =
    let sq : m * m ≤ p = subst (λ (v : ℕ). m * m ≤ v) e (mul-le-mul_left m le) in
    let four : 2 * 2 ≤ m * m = mul-le-mul above above in
    elim (cases_eq (m % 2) 0) [
      | inl even ↦
          (let h : m ≡ 2 * (m / 2) = omega arith in
          let pe : p ≡ 2 * (m / 2 * n) = sym e ∙ ap (λ (v : ℕ). v * n) h ∙ mul_assoc 2 (m / 2) n in
          elim t.odd [ inl s ↦ omega arith | inr o ↦ o (ap (λ (v : ℕ). v % 2) pe ∙ mul-mod_right 2 (m / 2 * n)) ])
      | inr odd ↦
          (let i : ℕ = (m - 3) / 2 in
          let h : m ≡ 2 * i + 3 = omega arith in
          elim (cases_lt m (2 * 2 ^ k + 3)) [
            | inl s ↦
                elim (t.rest i (omega arith)) [
                  | inl q ↦ (let q' : p < m * m = subst (λ (v : ℕ). p < v * v) (sym h) q in omega arith)
                  | inr q ↦ q (subst (λ (v : ℕ). p % v ≡ 0) h (ap (λ (v : ℕ). v % m) (sym e) ∙ mul-mod_right m n))
                ]
            | inr g ↦ (let s = mul-le-mul g g in let r = t.root in omega arith)
          ])
    ]

pub trial_prime : (p k : ℕ) → trial p k ≡ true → Prime p
trial_prime p k t =
    let h = passed p k t in
    record {
      above_one = h.above_one;
      undivided = λ d e ld le q.
          elim (cases_lt d e) [
            | inl l ↦ no_factors p k h d e ld (omega arith) q
            | inr l ↦ no_factors p k h e d le l (mul_comm e d ∙ q)
          ];
    }
