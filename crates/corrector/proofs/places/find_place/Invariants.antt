-- What the loop keeps: the locator is that of the place k, and no place before it has the locator x.
use Rattle.std.proofs.Common.{◌≡◌, ℕ, ◌-◌, ◌<◌, ◌≤◌}
use Rattle.algebra.specs.Operations.{In}
use Rattle.algebra.specs.Powers.{power}
use Rattle.corrector.proofs.places.find_place.Given as goal

abbrev pub invariant-loop-k : goal.invariant-loop-k
invariant-loop-k g l =
    let o = g.F.Field.ops l.code.field.now in
    (l.k ≤ l.n) × (In o l.locator) × (l.locator ≡ power o l.code.alpha l.k) × ((i : ℕ) → i < l.k → power o l.code.alpha i ≡ l.x → ⊥)

abbrev pub decreases-loop-k : goal.decreases-loop-k
decreases-loop-k g l = l.n - l.k
