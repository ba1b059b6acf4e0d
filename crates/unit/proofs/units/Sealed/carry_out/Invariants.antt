use Rattle.std.proofs.Common.{◌≡◌, take, drop}
use Rattle.unit.specs.Tasks.{Carried}
use Rattle.unit.proofs.units.Sealed.carry_out.Given as goal

-- the tasks so far are carried out, and the others are as they came
abbrev pub invariant-loop-task : goal.invariant-loop-task
invariant-loop-task g l =
    Carried l.initial.self l.self (take l.task-index l.initial.tasks) (take l.task-index l.tasks)
    × (drop l.task-index l.tasks ≡ drop l.task-index l.initial.tasks)
