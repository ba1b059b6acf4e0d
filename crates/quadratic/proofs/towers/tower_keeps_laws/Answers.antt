use Rattle.quadratic.proofs.Heights.{towers_keep_laws}
use Rattle.quadratic.proofs.towers.tower_keeps_laws.Goals as goal

pub returns : goal.returns
returns g c =
    let f = c.args.field.now in
    towers_keep_laws (g.F.Field.ops f) (g.met.F.Field.laws f) (g.met.F.RootedField.rooted f)
