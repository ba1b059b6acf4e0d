use Rattle.algebra.proofs.Products.{root_unique}
use Rattle.algebra.proofs.roots.roots_are_unique.Goals as goal

pub returns : goal.returns
returns g c = root_unique (g.met.F.Field.laws c.args.field.now)
