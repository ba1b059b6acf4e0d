use Rattle.std.proofs.Common.{◌≡◌, sym, refl, ◌∙◌, subst}
use Rattle.algebra.specs.Roots.{AnswersRoot}
use Rattle.quadratic.specs.Pairs.{pairs}
use Rattle.quadratic.specs.Proofs.PairRoots.{no_root_by_norm}
use Rattle.quadratic.proofs.roots.QuadRootedField.root.Goals as goal

pub returns-then-equal : goal.returns-then-equal
returns-then-equal g c =
    let q = c.args.self.now in
    let o = g.F.Field.ops q.base in
    let a = c.args.a in
    let flat : a.1 ≡ o.zero = c.if-equal.ensures.tells.0 refl ∙ c.zero.ensures.value in
    subst (λ y. AnswersRoot (pairs o q.beta) (a.0, y) c.root_of_low.result) (sym flat) c.root_of_low.ensures

pub returns-in_err-d : goal.returns-in_err-d
returns-in_err-d g c =
    let q = c.args.self.now in
    rw c.from_residual.ensures
    (no_root_by_norm (g.met.F.Field.laws q.base) q.beta q.nonsquare c.args.a c.norm.result c.norm.ensures.value c.in_err-d.ensures)
