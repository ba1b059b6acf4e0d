-- The listed moduli are odd primes.
use Rattle.std.specs.Prelude.{◌≡◌, ℕ, ◌%◌, refl}
use Rattle.std.proofs.Common.{sym, subst, inl, inr}
use Rattle.prime_field.specs.Primes.{Prime}
use Rattle.prime_field.specs.Making.{Listed}
use Rattle.prime_field.specs.Proofs.TrialDivision.{trial_prime}

-- what holds of each listed modulus
each_listed : (P : ℕ → Type 0) → P 3 → P 7 → P 23 → P 29 → P 929 → P 2013265921 → P 4294967291 → (p : ℕ) → Listed p → P p
each_listed P a b c d e f g p (inl q) = subst P (sym q) a
each_listed P a b c d e f g p (inr (inl q)) = subst P (sym q) b
each_listed P a b c d e f g p (inr (inr (inl q))) = subst P (sym q) c
each_listed P a b c d e f g p (inr (inr (inr (inl q)))) = subst P (sym q) d
each_listed P a b c d e f g p (inr (inr (inr (inr (inl q))))) = subst P (sym q) e
each_listed P a b c d e f g p (inr (inr (inr (inr (inr (inl q)))))) = subst P (sym q) f
each_listed P a b c d e f g p (inr (inr (inr (inr (inr (inr q)))))) = subst P (sym q) g

pub listed_prime : (p : ℕ) → Listed p → Prime p
listed_prime =
    each_listed Prime (trial_prime 3 0 refl) (trial_prime 7 0 refl) (trial_prime 23 0 refl) (trial_prime 29 1 refl) (trial_prime 929 4 refl)
    (trial_prime 2013265921 15 refl) (trial_prime 4294967291 15 refl)

pub listed_odd : (p : ℕ) → Listed p → p % 2 ≡ 1
listed_odd = each_listed (λ p. p % 2 ≡ 1) refl refl refl refl refl refl refl
