-- The theorem rests on the arithmetic laws alone.
use Rattle.unit.proofs.Once.{ordered_once}
use Rattle.unit.proofs.orders.orders_have_one_outcome.Goals as goal

pub returns : goal.returns
returns g c = ordered_once (g.F.Field.ops c.args.field.now) (g.met.F.Field.laws c.args.field.now).arithmetic
