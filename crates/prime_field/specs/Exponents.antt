-- How often a number is squared until it is 1.
use Rattle.std.specs.Prelude.{◌≡◌, ℕ, ◌^◌, ◌<◌, ◌≢◌}
use Rattle.prime_field.specs.Modular.{power}

-- b squared k times is 1 modulo p at no k from 1 to m - 1
abbrev pub NoExponent : ℕ → ℕ → ℕ → Type 0
NoExponent p b m = (k : ℕ) → 0 < k → k < m → power p b (2 ^ k) ≢ 1

-- i is the least number from 1 to m - 1 such that b squared i times is 1 modulo p
pub record LeastExponent (p b m i : ℕ) : Type 0 where
  pub positive : 0 < i
  pub below : i < m
  pub one : power p b (2 ^ i) ≡ 1
  pub least : NoExponent p b i
