use Rattle.std.proofs.Common.{sym, refl, ◌∙◌, subst}
use Rattle.lines.specs.Lines.{meant}
use Rattle.console.specs.Conversation.{sealed, UnitInOrder}
use Rattle.console.specs.Handling.{UnitHandled, Finds}
use Rattle.console.specs.Replies.{response}
use Rattle.console.specs.declared.commissions.Commission.TheVariants.{Sealed}
use Rattle.console.proofs.Coordinated.{no_element}
use Rattle.console.proofs.Outcomes.{unit_out_of_order, only_find, find_element, root_answered}
use Rattle.console.proofs.units.answer_sealed.Goals as goal

pub returns-in_default : goal.returns-in_default
returns-in_default g c =
    let f = g.F.Elem.Coordinates.flat in
    unit_out_of_order (g.F.Field.ops c.args.unit.field) f (meant c.args.input.line) c.args.input.number (Sealed c.args.unit) c.unreadable.result c.unreadable.ensures.left c.unreadable.ensures.reply
    (only_find f c.args.unit.alpha c.args.unit.length c.args.input.line c.in_default.not-Find)

pub returns-in_default-from_numbers : goal.returns-in_default-from_numbers
returns-in_default-from_numbers g c =
    let f = g.F.Elem.Coordinates.flat in
    let a = c.unreadable-in_default-from_numbers in
    unit_out_of_order (g.F.Field.ops c.args.unit.field) f (meant c.args.input.line) c.args.input.number (Sealed c.args.unit) a.result a.ensures.left a.ensures.reply
    (λ h.
    let (x, is) = find_element f (subst (λ l. UnitInOrder f (sealed c.args.unit.alpha c.args.unit.length) (meant l)) c.in-Find.is h) in
    no_element f g.F.Elem.Coordinates.width g.met.F.Elem.Coordinates.long c.as_slice.result.now c.in_default-from_numbers.ensures x (c.as_slice.ensures.value ∙ is))

pub returns : goal.returns
returns g c =
    let ops = g.F.Field.ops in
    let f = g.F.Elem.Coordinates.flat in
    let u = c.args.unit in
    let s = sealed u.alpha u.length in
    let r = response c.in_ok-reply.reply in (
      subst (λ l. UnitHandled (ops u.field) f s c.args.input.number (meant l) s r) (sym c.in-Find.is)
          (root_answered (ops u.field) f u.alpha u.length c.args.input.number _ c.in-Some.x r (sym c.as_slice.ensures.value ∙ c.in-Some.ensures)
          (subst (λ v. Finds (ops v) f c.in-Some.x r) c.field.ensures c.in_ok-reply.ensures)),
      refl,
    )
