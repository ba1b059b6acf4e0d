use Rattle.std.proofs.Common.{◌≡◌, rules, subst}
use Rattle.lines.specs.Lines.{meant}
use Rattle.console.specs.Commissions.{field_of, phase}
use Rattle.console.specs.Steps.{StepInOrder}
use Rattle.console.specs.declared.steps.Stepped.TheVariants.{Same}
use Rattle.console.proofs.Outcomes.{open_phase}
use Rattle.console.proofs.Climbs.{answered_as_unit, step_out_of_order, step_element}
use Rattle.console.proofs.steps.answer_steps.Goals as goal

pub returns-in_default : goal.returns-in_default
returns-in_default g c =
    let b = c.in_ok-answer_unit.field-0 in
    let left : c.map.result.left ≡ Same b.left = search rules in
    answered_as_unit (g.F.Field.ops (field_of c.args.unit)) g.F.Elem.Coordinates.flat c.args.input.number c.args.input.line c.args.unit b c.map.result
    c.in_default.not-Step left c.map.ensures.reply c.in_ok-answer_unit.ensures

pub returns-in_default-unit : goal.returns-in_default-unit
returns-in_default-unit g c =
    let f = g.F.Elem.Coordinates.flat in
    let u = c.args.unit in
    step_out_of_order (g.F.Field.ops (field_of u)) f (meant c.args.input.line) c.args.input.number u c.unreadable.result c.unreadable.ensures.left c.unreadable.ensures.reply
    (λ h.
    let (open_still, _) = step_element (subst (λ l. StepInOrder f (phase u) (meant l)) c.in-Step.is h) in
    open_phase u open_still c.in_default-unit.not-Open)
