use Rattle.std.proofs.Common.{◌≡◌, [], length, get_or, vec_len, Some, refl, sym, arith}
use Rattle.std.specs.Vec.{with_items}
use Rattle.std.proofs.lemmas.List.{with_items_is}
use Rattle.unit.specs.Days.{Event, event}
use Rattle.unit.specs.Tasks.{Came, none}
use Rattle.unit.specs.declared.tasks.Task.{Task}
use Rattle.unit.proofs.TaskEvents.{carried_next}
use Rattle.unit.proofs.units.Sealed.carry_out.Goals as goal

pub loop-task-init : goal.loop-task-init
loop-task-init g c = (
  record { same = record { field_is = refl; alpha_is = refl; length_is = refl }; day = []; came = none; lived = λ h l. l },
  refl,
)

pub loop-task-preserved : goal.loop-task-preserved
loop-task-preserved g c =
    let i = c.loop-task.task-index in
    let us = c.loop-task.tasks in
    let t : Task g.row.F-Elem.Denot = get_or us i c.task-item.result in
    let after = c.order.new.block in
    let long : length after ≡ vec_len t.block = omega (arith, c.as_mut_slice.ensures.len) in
    let x : Task g.row.F-Elem.Denot = record { kind = t.kind; number = t.number; block = with_items t.block after; answer = Some c.order.result } in
    let e : Event g.row.F-Elem.Denot = event t.kind t.number c.as_mut_slice.result.now after c.order.result in
    let came : Came t x e = record { kind_is = (refl, refl); number_is = (refl, refl); offered_is = c.as_mut_slice.ensures.value; left_is = sym (with_items_is t.block after long); answer_is = refl } in
    carried_next {e = e} c.args.tasks.now us i c.task-item.result (omega arith) (omega arith) c.loop-task.invariant.1 c.loop-task.invariant.0 c.order.ensures came
