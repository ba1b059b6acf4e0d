-- Prime numbers.
use Rattle.std.specs.Prelude.{ℕ, ◌*◌, ◌<◌, ◌≢◌}

-- p is no product of two factors above 1; since this only denies, it has at most one proof
abbrev pub Undivided : ℕ → Type 0
Undivided p = (d e : ℕ) → 1 < d → 1 < e → d * e ≢ p

pub record Prime (p : ℕ) : Type 0 where
  pub above_one : 1 < p
  pub undivided : Undivided p
