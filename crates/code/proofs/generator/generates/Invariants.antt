use Rattle.std.proofs.Common.{◌≡◌, ℕ, ◌<◌, ◌≤◌}
use Rattle.algebra.specs.Operations.{In}
use Rattle.algebra.specs.Powers.{power}
use Rattle.code.proofs.generator.generates.Given as goal

-- the running power is that of the counter, and no power below it is one
abbrev pub invariant-loop-k : goal.invariant-loop-k
invariant-loop-k g l =
    let o = g.F.Field.ops l.field in
    (In o l.power) × (l.power ≡ power o l.alpha l._k) × ((i : ℕ) → 1 ≤ i → i < l._k → power o l.alpha i ≡ o.one → ⊥)
