-- What the loop keeps: at each root, the remainder so far and the symbols to come are x⁴ times the data.
use Rattle.std.proofs.Common.{◌≡◌, drop}
use Rattle.algebra.specs.Operations.{In}
use Rattle.algebra.specs.Powers.{power}
use Rattle.code.proofs.Polynomials.{Value}
use Rattle.writer.specs.Division.{Inside, Root}
use Rattle.writer.proofs.Remainders.{Dividend}
use Rattle.writer.proofs.division.Divisor.remainder.Given as goal

abbrev pub invariant-loop-symbol : goal.invariant-loop-symbol
invariant-loop-symbol g l =
    let o = g.F.Field.ops l.self.field.now in
    Inside o l.rest
    × ((x : g.row.F-Elem.Denot) → In o x → Root o l.self.rest x → Dividend o x l.rest (drop l.symbol-index l.symbols) ≡ o.mul (Value o x l.symbols) (power o x 4))
