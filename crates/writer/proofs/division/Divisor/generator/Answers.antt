-- The coefficients are those of the polynomial with the four roots.
use Rattle.std.proofs.Common.{◌≡◌, ℕ, ◌+◌, ◌<◌, subst}
use Rattle.algebra.specs.Powers.{power}
use Rattle.writer.specs.Division.{Root}
use Rattle.writer.proofs.Remainders.{of_points, points_are_roots, cubic-≡}
use Rattle.writer.proofs.division.Divisor.generator.Goals as goal

pub returns-clause-roots : goal.returns-clause-roots
returns-clause-roots g c =
    let code = c.args.code.now in
    let o = g.F.Field.ops code.field.now in
    let l = (g.met.F.Field.laws code.field.now).arithmetic in
    let p = c.points-first.result in
    let e3 : (of_points o p).c3 ≡ c.add.result = cc in
    let e2 : (of_points o p).c2 ≡ c.neg.result = cc in
    let e1 : (of_points o p).c1 ≡ c.add-4.result = cc in
    let e0 : (of_points o p).c0 ≡ c.neg-2.result = cc in
    subst (λ q. (i : ℕ) → i < 4 → Root o q (power o code.alpha (1 + i))) (cubic-≡ e3 e2 e1 e0)
    (points_are_roots l code.alpha code.generator.inside p c.points-first.ensures.value)
