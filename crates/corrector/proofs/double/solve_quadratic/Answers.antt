-- A root of the discriminant gives the pair, and a pair gives a root.
use Rattle.std.proofs.Common.{◌≡◌, refl, ◌∙◌, subst}
use Rattle.algebra.specs.Operations.{minus}
use Rattle.algebra.specs.Roots.{Square}
use Rattle.corrector.specs.Errors.{Pair}
use Rattle.corrector.proofs.Locators.{discriminant, pair_square, root_pair}
use Rattle.corrector.proofs.double.solve_quadratic.Goals as goal

pub returns-in_default : goal.returns-in_default
returns-in_default g c =
    let o = g.F.Field.ops c.args.field.now in
    let l = (g.met.F.Field.laws c.args.field.now).arithmetic in
    let e : discriminant o c.args.u c.args.v ≡ c.subtract-discriminant.result = cc in
    record {
      none = λ x y p. c.in_default.ensures (subst (Square o) e (pair_square l c.args.u c.args.v x y p));
      told = refl;
    }

pub returns : goal.returns
returns g c =
    let o = g.F.Field.ops c.args.field.now in
    let l = (g.met.F.Field.laws c.args.field.now).arithmetic in
    let u = c.args.u in
    let v = c.args.v in
    let d = c.in-Some.d in
    let root = c.in-Some.ensures in
    let e : c.subtract-discriminant.result ≡ discriminant o u v = cc in
    let a : o.mul (o.add u d) (o.inv (o.add o.one o.one)) ≡ c.mul-2.result = cc in
    let b : o.mul (minus o u d) (o.inv (o.add o.one o.one)) ≡ c.mul-3.result = cc in
    let p = root_pair l u v d c.requires.sum c.requires.product root.inside (root.squares ∙ e) in
    subst (λ y. Pair o u v c.mul-2.result y) b (subst (λ x. Pair o u v x (o.mul (minus o u d) (o.inv (o.add o.one o.one)))) a p)
