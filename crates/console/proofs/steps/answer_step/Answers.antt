use Rattle.std.proofs.Common.{codes, sym, refl, subst, inl}
use Rattle.lines.specs.Lines.{step}
use Rattle.console.specs.Conversation.{unsealed, accepted, refused}
use Rattle.console.specs.Steps.{StepHandled, StepOutcome, same, higher, stepped, step_refused}
use Rattle.console.specs.declared.commissions.Commission.TheVariants.{Open}
use Rattle.console.specs.declared.faults.ShiftFault.TheVariants.{Unit}
use Rattle.console.proofs.Coordinated.{no_element}
use Rattle.console.proofs.Climbs.{step_out_of_order, step_element}
use Rattle.console.proofs.steps.answer_step.Goals as goal

pub returns-in_default-clause-handled : goal.returns-in_default-clause-handled
returns-in_default-clause-handled g c =
    let f = g.F.Elem.Coordinates.flat in
    let xs = c.args.numbers.now in
    (
    step_out_of_order (g.F.Field.ops c.args.unit.field) f (step xs) c.args.number (Open c.args.unit) c.unreadable.result c.unreadable.ensures.left c.unreadable.ensures.reply
    (λ h. let (_, (β, is)) = step_element h in no_element f g.F.Elem.Coordinates.width g.met.F.Elem.Coordinates.long xs c.in_default.ensures β is)).0

pub returns-in-Ok-clause-handled : goal.returns-in-Ok-clause-handled
returns-in-Ok-clause-handled g c =
    let o = g.F.Field.ops c.args.unit.field in
    let f = g.F.Elem.Coordinates.flat in
    let (nonsquare, base, beta) = c.in-Ok.ensures in
    subst (λ b. StepHandled o f unsealed c.args.number (step c.args.numbers.now) (higher b) (accepted (codes "step"))) (sym beta)
    (inl (stepped c.in-Some.beta refl c.in-Some.ensures nonsquare))

pub returns-in-Err-clause-handled : goal.returns-in-Err-clause-handled
returns-in-Err-clause-handled g c =
    let o = g.F.Field.ops c.args.unit.field in
    let f = g.F.Elem.Coordinates.flat in
    let (square, (due, kept)) = c.in-Err.ensures in
    inl (subst (λ e. StepOutcome o f unsealed (step c.args.numbers.now) (same unsealed) (refused (Unit e))) (sym due)
    (step_refused c.in-Some.beta refl c.in-Some.ensures square))
