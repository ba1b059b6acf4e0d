use Rattle.quadratic.specs.Proofs.PairRoots.{root_low, root_high, some_low}
use Rattle.quadratic.proofs.extension.Quad.root_of_low.Goals as goal

pub returns-in-Some : goal.returns-in-Some
returns-in-Some g c =
    let q = c.args.self.now in
    root_low (g.met.F.Field.laws q.base) q.beta q.nonsquare c.args.a0 c.in-Some.r c.zero.result c.zero.ensures.value c.in-Some.ensures

pub returns-in_err-s : goal.returns-in_err-s
returns-in_err-s g c =
    let q = c.args.self.now in
    rw c.from_residual.ensures
    (λ _. some_low (g.met.F.Field.laws q.base) q.beta q.nonsquare c.args.a0 c.mul.result (cc) c.requires c.in_default.ensures c.in_err-s.ensures)

pub returns : goal.returns
returns g c =
    let q = c.args.self.now in
    root_high (g.met.F.Field.laws q.base) q.beta q.nonsquare c.args.a0 c.mul.result c.in_ok-s.s c.zero-2.result (cc) c.zero-2.ensures.value
    c.requires c.in_ok-s.ensures
