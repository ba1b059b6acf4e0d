-- Euler's criterion as fields apply it: where p - 1 = 2 ^ s t, by the power t squared s - 1 times.
use Rattle.std.specs.Prelude.{◌≡◌, ℕ, zero, suc, ◌+◌, ◌-◌, ◌*◌, ◌/◌, ◌%◌, ◌^◌, ◌<◌, ◌≢◌}
use Rattle.std.proofs.Common.{sym, ◌∙◌, ap, inl, inr, arith}
use Rattle.std.proofs.Math.Nat as N
use Rattle.algebra.specs.Roots.{Square}
use Rattle.prime_field.specs.Primes.{Prime}
use Rattle.prime_field.specs.Modular.{power, modular}
use Rattle.prime_field.specs.Making.{Listed, Nonresidue}
use Rattle.prime_field.specs.declared.PrimeField.{PrimeField}
use Rattle.prime_field.specs.Proofs.Euler.{euler}
use Rattle.prime_field.specs.Proofs.ListedPrimes.{listed_prime, listed_odd}
use Rattle.prime_field.specs.Proofs.Powers.{power_power}

-- p is an odd prime, and p - 1 is 2 ^ s times an odd t
pub record Split (p s t : ℕ) : Type 0 where
  pub prime : Prime p
  pub odd : p % 2 ≡ 1
  pub whole : p ≡ 2 ^ s * t + 1
  pub rest : t % 2 ≡ 1

pub field_split : (f : PrimeField) → Split f.modulus f.exponent f.cofactor
field_split f = record { prime = f.is_prime; odd = f.odd; whole = f.whole; rest = f.rest }

pub listed_split : {p s t : ℕ} → Listed p → p - 1 ≡ 2 ^ s * t → t % 2 ≡ 1 → Split p s t
listed_split {p} l w r =
    let P = listed_prime p l in
    record { prime = P; odd = listed_odd p l; whole = omega (arith, P.above_one); rest = r }

-- an odd p has a factor 2 in p - 1
pub exponent_pos : {p s t : ℕ} → Split p s t → 0 < s
exponent_pos {p} {s = zero} {t} h = let e : 2 ^ 0 * t ≡ t = N.one-mul t in absurd (omega (arith, h.odd, h.whole, h.rest))
exponent_pos {p} {s = suc s} {t} h = omega arith

pub double : (k : ℕ) → 0 < k → 2 ^ (k - 1) + 2 ^ (k - 1) ≡ 2 ^ k
double k pos =
    let q : suc (k - 1) ≡ k = omega arith in
    sym (N.two-pow-succ (k - 1)) ∙ ap (λ (v : ℕ). 2 ^ v) q

euler_power : {p s t : ℕ} → Split p s t → (a b : ℕ) → b ≡ power p a t → power p b (2 ^ (s - 1)) ≡ power p a ((p - 1) / 2)
euler_power {p} {s} {t} h a b eb =
    let e : t * 2 ^ (s - 1) + t * 2 ^ (s - 1) ≡ 2 ^ s * t =
    sym (N.mul-add t (2 ^ (s - 1)) (2 ^ (s - 1))) ∙ ap (λ (v : ℕ). t * v) (double s (exponent_pos h)) ∙ N.mul_comm t (2 ^ s) in
    let k : t * 2 ^ (s - 1) ≡ (p - 1) / 2 = omega (arith, h.whole) in
    ap (λ (v : ℕ). power p v (2 ^ (s - 1))) eb ∙ power_power p a t (2 ^ (s - 1)) ∙ ap (λ (v : ℕ). power p a v) k

pub square_order : {p s t : ℕ} → Split p s t → (a b : ℕ) → b ≡ power p a t → 0 < a → a < p → Square (modular p) a → power p b (2 ^ (s - 1)) ≡ 1
square_order h a b eb pos lt r =
    elim (euler h.prime h.odd a pos lt) [ inl y ↦ euler_power h a b eb ∙ y.1 | inr n ↦ absurd (n.0 r) ]

pub nonresidue : {p s t r c z : ℕ} → Split p s t → c ≡ power p r t → z ≡ power p c (2 ^ (s - 1)) → z ≡ p - 1 → 0 < r → r < p → Nonresidue p r
nonresidue {r = r} {c} h ec ez e pos lt =
    record {
      positive = pos;
      inside = lt;
      rootless = λ y.
          let k = square_order h r c ec pos lt y in
          omega (arith, h.odd);
    }

pub residue : {p s t r c z : ℕ} → Split p s t → c ≡ power p r t → z ≡ power p c (2 ^ (s - 1)) → z ≢ p - 1 → Nonresidue p r → ⊥
residue {r = r} {c} h ec ez ne n =
    elim (euler h.prime h.odd r n.positive n.inside) [ inl y ↦ n.rootless y.0 | inr m ↦ ne (ez ∙ euler_power h r c ec ∙ m.1) ]
