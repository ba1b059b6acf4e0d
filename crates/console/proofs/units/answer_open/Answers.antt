use Rattle.std.proofs.Common.{codes, sym, refl, ◌∙◌, subst, inl}
use Rattle.lines.specs.Lines.{meant}
use Rattle.console.specs.Conversation.{unsealed, alpha_given, accepted, UnitInOrder, alpha_kept}
use Rattle.console.specs.Handling.{UnitHandled}
use Rattle.console.specs.declared.commissions.Commission.TheVariants.{Open}
use Rattle.console.proofs.Coordinated.{no_element}
use Rattle.console.proofs.Outcomes.{unit_out_of_order, only_alpha, alpha_element}
use Rattle.console.proofs.units.answer_open.Goals as goal

pub returns-in_default : goal.returns-in_default
returns-in_default g c =
    let f = g.F.Elem.Coordinates.flat in
    unit_out_of_order (g.F.Field.ops c.args.unit.field) f (meant c.args.input.line) c.args.input.number (Open c.args.unit) c.unreadable.result c.unreadable.ensures.left c.unreadable.ensures.reply
    (only_alpha f c.args.input.line c.in_default.not-Alpha)

pub returns-in-Some : goal.returns-in-Some
returns-in-Some g c =
    let o = g.F.Field.ops c.args.unit.field in
    let f = g.F.Elem.Coordinates.flat in (
      subst (λ l. UnitHandled o f unsealed c.args.input.number (meant l) (alpha_given c.in-Some.alpha) (accepted (codes "alpha"))) (sym c.in-Alpha.is)
          (inl (alpha_kept c.in-Some.alpha (sym c.as_slice.ensures.value ∙ c.in-Some.ensures))),
      refl,
    )

pub returns : goal.returns
returns g c =
    let f = g.F.Elem.Coordinates.flat in
    unit_out_of_order (g.F.Field.ops c.args.unit.field) f (meant c.args.input.line) c.args.input.number (Open c.args.unit) c.unreadable-in-None.result c.unreadable-in-None.ensures.left c.unreadable-in-None.ensures.reply
    (λ h.
    let (a, is) = alpha_element f (subst (λ l. UnitInOrder f unsealed (meant l)) c.in-Alpha.is h) in
    no_element f g.F.Elem.Coordinates.width g.met.F.Elem.Coordinates.long c.as_slice.result.now c.in-None.ensures a (c.as_slice.ensures.value ∙ is))
