use Rattle.quadratic.specs.Proofs.PairRoots.{root_by_half_sum}
use Rattle.quadratic.proofs.extension.Quad.root_by_half_sum.Goals as goal

pub returns : goal.returns
returns g c =
    let q = c.args.self.now in
    root_by_half_sum (g.met.F.Field.laws q.base) q.beta q.nonsquare c.args.a c.args.t c.in_ok-x0.x0 c.mul.result (cc)
    c.requires.element c.requires.high c.requires.inside c.requires.sum c.in_ok-x0.ensures
