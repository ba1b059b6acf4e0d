use Rattle.quadratic.specs.Proofs.PairRoots.{sum_is, difference_is, answered_by}
use Rattle.quadratic.proofs.extension.Quad.root_by_norm.Goals as goal

pub root_by_half_sum-requires-clause-sum : goal.root_by_half_sum-requires-clause-sum
root_by_half_sum-requires-clause-sum g c =
    let q = c.args.self.now in
    sum_is (g.met.F.Field.laws q.base) q.beta q.nonsquare c.args.a c.args.d c.requires.element c.requires.root c.mul.result (cc)

pub root_by_half_sum-requires-2-clause-sum : goal.root_by_half_sum-requires-2-clause-sum
root_by_half_sum-requires-2-clause-sum g c =
    let q = c.args.self.now in
    difference_is (g.met.F.Field.laws q.base) q.beta q.nonsquare c.args.a c.args.d c.requires.element c.requires.root c.mul-2.result (cc)

pub returns : goal.returns
returns g c =
    let q = c.args.self.now in
    answered_by (g.met.F.Field.laws q.base) q.beta q.nonsquare c.args.a c.args.d c.requires.element c.requires.root
    c.mul.result c.mul-2.result (cc) (cc) c.in_default.ensures c.root_by_half_sum-2.result c.root_by_half_sum-2.ensures
