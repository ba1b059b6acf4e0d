-- The step is one of the division, at every root.
use Rattle.std.proofs.Common.{◌≡◌, subst}
use Rattle.writer.specs.Division.{Steps}
use Rattle.writer.proofs.Remainders.{stepped, stepped_is, cubic-≡}
use Rattle.writer.proofs.division.Divisor.step.Goals as goal

pub returns-clause-value : goal.returns-clause-value
returns-clause-value g c =
    let d = c.args.self.now in
    let o = g.F.Field.ops d.field.now in
    let l = (g.met.F.Field.laws d.field.now).arithmetic in
    let p = d.rest in
    let r = c.args.rest in
    let s = c.args.symbol in
    let e3 : (stepped o p r s).c3 ≡ c.add.result = cc in
    let e2 : (stepped o p r s).c2 ≡ c.add-2.result = cc in
    let e1 : (stepped o p r s).c1 ≡ c.add-3.result = cc in
    let e0 : (stepped o p r s).c0 ≡ c.mul-4.result = cc in
    subst (Steps o p r s) (cubic-≡ e3 e2 e1 e0) (stepped_is l p r s d.inside c.requires.rest c.requires.member)
