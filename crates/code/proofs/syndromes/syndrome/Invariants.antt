-- What the loop keeps: Horner's form of the block's value.
use Rattle.std.proofs.Common.{◌≡◌, drop}
use Rattle.algebra.specs.Operations.{In}
use Rattle.code.proofs.Polynomials.{Value, Horner}
use Rattle.code.proofs.syndromes.syndrome.Given as goal

abbrev pub invariant-loop-symbol : goal.invariant-loop-symbol
invariant-loop-symbol g l =
    let o = g.F.Field.ops l.field in
    (In o l.sum) × (Horner o l.x l.sum (drop l.symbol-index l.block) ≡ Value o l.x l.block)
