use Rattle.unit.proofs.Lawful.{field_law}
use Rattle.unit.proofs.TaskEvents.{worked, worked_blocks, worked_orders}
use Rattle.unit.proofs.days.work_day.Goals as goal

pub returns : goal.returns
returns g c =
    let f = c.args.unit.field in
    let done = worked c.in_ok-sealed.ensures.answer c.in_ok-sealed.ensures.parked c.carry_out.ensures in
    record {
      field = field_law (g.F.Field.ops f) (g.met.F.Field.laws f) (g.met.F.RootedField.rooted f);
      blocks = worked_blocks done;
      orders = worked_orders done;
      tasks = done;
    }

pub returns-in_err-sealed-clause-field : goal.returns-in_err-sealed-clause-field
returns-in_err-sealed-clause-field g c =
    let f = c.args.unit.field in field_law (g.F.Field.ops f) (g.met.F.Field.laws f) (g.met.F.RootedField.rooted f)
