use Rattle.std.proofs.Common.{Err, refl, ap, ◌∙◌, rules}
use Rattle.std.proofs.lemmas.Result.{err_from_is_err_and}
use Rattle.unit.specs.Days.{Event}
use Rattle.unit.specs.Law.{Ordered}
use Rattle.unit.specs.Orders.{Transition, wrong_state, block_count, opened, out_of_turn, not_corrected, taken, granted, released}
use Rattle.unit.specs.Sealing.{Allowed}
use Rattle.unit.specs.declared.progress.Progress.{Progress}
use Rattle.unit.specs.declared.units.Sealed.{Sealed}
use Rattle.unit.proofs.Lawful.{by_transition}
use Rattle.unit.proofs.units.Sealed.order.Given as given
use Rattle.unit.proofs.units.Sealed.order.Goals as goal

-- by what the order did, where field, generator and length stay
by : (g : given.Over) {u : Sealed g.row.F.Denot g.row.F-Elem.Denot g.F.Field} {q : Progress} {ok : Allowed (g.F.Field.ops u.field) u.alpha u.length} {e : Event g.row.F-Elem.Denot}
    → Transition (g.F.Field.ops u.field) u.alpha u.length u.progress q e
    → Ordered u (record { field = u.field; alpha = u.alpha; length = u.length; progress = q; allowed = ok }) e
by g t = by_transition g.met.F.Field.laws g.met.F.RootedField.rooted (record { field_is = refl; alpha_is = refl; length_is = refl }) t

pub returns-in-1-to-4096 : goal.returns-in-1-to-4096
returns-in-1-to-4096 g c = by g (search (rules, opened))

pub returns-in_default-number : goal.returns-in_default-number
returns-in_default-number g c = by g (search (rules, block_count))

pub returns-in_default-number-2 : goal.returns-in_default-number-2
returns-in_default-number-2 g c = by g (search (rules, block_count))

pub returns-then-number-self : goal.returns-then-number-self
returns-then-number-self g c = by g (search (rules, out_of_turn))

pub returns-in_err-changed-in-Block-Loading : goal.returns-in_err-changed-in-Block-Loading
returns-in_err-changed-in-Block-Loading g c =
    let p = err_from_is_err_and c.from_residual.result c.from_residual.ensures.1 in
    let w = c.in_err-changed-in-Block-Loading.ensures in
    by g
    (not_corrected c.in-Block-Loading.is-0 c.in-Block-Loading.is-1 c.if-number-self.false w.due (record { answer_is = p.1 ∙ ap Err (p.2 ∙ w.fault_is); progress_is = refl; block_is = w.due.kept }))

pub returns-in_ok-changed-in-Block-Loading : goal.returns-in_ok-changed-in-Block-Loading
returns-in_ok-changed-in-Block-Loading g c =
    by g (taken c.in-Block-Loading.is-0 c.in-Block-Loading.is-1 c.if-number-self.false c.in_ok-changed-in-Block-Loading.ensures refl c.advance.ensures)

pub returns-in-Engage-Ready : goal.returns-in-Engage-Ready
returns-in-Engage-Ready g c = by g (search (rules, granted))

pub returns-in-Release-Steering : goal.returns-in-Release-Steering
returns-in-Release-Steering g c = by g (search (rules, released))

pub returns-in-Open-Steering : goal.returns-in-Open-Steering
returns-in-Open-Steering g c = by g (search (rules, wrong_state))

pub returns-in_default : goal.returns-in_default
returns-in_default g c = by g (search (rules, wrong_state))

pub returns-in_default-2 : goal.returns-in_default-2
returns-in_default-2 g c = by g (search (rules, wrong_state))

pub returns-in_default-3 : goal.returns-in_default-3
returns-in_default-3 g c = by g (search (rules, wrong_state))
