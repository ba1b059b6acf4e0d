use Rattle.std.proofs.Common.{codes, sym, ap, ◌∙◌, subst, inl}
use Rattle.lines.specs.Lines.{meant, len}
use Rattle.console.specs.Conversation.{alpha_given, sealed, accepted, refused, UnitOutcome, sealed_with, not_sealed}
use Rattle.console.specs.Handling.{UnitHandled}
use Rattle.console.specs.declared.commissions.Commission.TheVariants.{Generator}
use Rattle.console.specs.declared.faults.ShiftFault.TheVariants.{Unit}
use Rattle.console.proofs.Outcomes.{unit_out_of_order, only_length}
use Rattle.console.proofs.units.answer_generator.Goals as goal

pub returns-in_default : goal.returns-in_default
returns-in_default g c =
    let f = g.F.Elem.Coordinates.flat in
    unit_out_of_order (g.F.Field.ops c.args.unit.field) f (meant c.args.input.line) c.args.input.number (Generator c.args.unit c.args.alpha) c.unreadable.result c.unreadable.ensures.left c.unreadable.ensures.reply
    (only_length f c.args.alpha c.args.input.line c.in_default.not-Length)

pub returns-in-Ok : goal.returns-in-Ok
returns-in-Ok g c =
    let o = g.F.Field.ops c.args.unit.field in
    let f = g.F.Elem.Coordinates.flat in
    let a = c.args.alpha in
    let u = c.in-Ok.sealed in
    let (allowed, field, alpha, length) = c.in-Ok.ensures.answer in (
      subst (λ l. UnitHandled o f (alpha_given a) c.args.input.number (meant l) (sealed u.alpha u.length) (accepted (codes "length"))) (sym c.in-Length.is)
          (inl (subst (λ s. UnitOutcome o f (alpha_given a) (len c.in-Length.n) s (accepted (codes "length"))) (ap (λ b. sealed b c.in-Length.n) (sym alpha) ∙ ap (sealed u.alpha) (sym length)) (sealed_with allowed))),
      field,
    )

pub returns-in-Err : goal.returns-in-Err
returns-in-Err g c =
    let o = g.F.Field.ops c.args.unit.field in
    let f = g.F.Elem.Coordinates.flat in
    let a = c.args.alpha in (
      subst (λ l. UnitHandled o f (alpha_given a) c.args.input.number (meant l) (alpha_given a) (refused (Unit c.in-Err.rejected.fault))) (sym c.in-Length.is)
          (inl (not_sealed c.in-Err.rejected.fault c.in-Err.ensures.answer.0)),
      ap (λ u. u.field) c.in-Err.ensures.answer.1,
    )
