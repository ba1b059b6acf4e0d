-- Generators: elements whose powers tell the places of a block apart.
use Rattle.std.specs.Prelude.{ℕ, ◌<◌, ◌≤◌, ◌≢◌}
use Rattle.algebra.specs.Operations.{Ops, In}
use Rattle.algebra.specs.Powers.{power}

-- α is an element other than zero, and none of its powers α^1 to α^(n-1) is one
pub record Generates {E : Type 0} (o : Ops E) (α : E) (n : ℕ) : Type 0 where
  pub inside : In o α
  pub nonzero : α ≢ o.zero
  pub apart : (k : ℕ) → 1 ≤ k → k < n → power o α k ≢ o.one
