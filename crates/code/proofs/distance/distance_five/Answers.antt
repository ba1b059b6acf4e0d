-- The theorem rests on the arithmetic laws alone.
use Rattle.code.proofs.MinimumDistance.{distance_five}
use Rattle.code.proofs.distance.distance_five.Goals as goal

pub returns : goal.returns
returns g c = distance_five (g.met.F.Field.laws c.args.field.now).arithmetic
