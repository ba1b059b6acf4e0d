-- The counts of a unit are those of every day that it has lived.
use Rattle.std.proofs.Common.{◌≡◌, ℕ, suc, ◌+◌, ◌<◌, List, ◌∷◌, is_ok, Ok, sym, ap, subst, add-one, arith}
use Rattle.algebra.specs.Operations.{Ops}
use Rattle.unit.specs.Days.{Event, Accepted, here, later, none, one, skip}
use Rattle.unit.specs.Orders.{Refused, Stands, Transition, wrong_state, block_count, opened, out_of_turn, not_corrected, taken, granted, released, Lived, sealed, ordered}
use Rattle.unit.specs.Reports.{InState, nothing, adds, passes, Tally, unopened, Reports, Told}
use Rattle.unit.specs.Reports as reports
use Rattle.unit.specs.declared.faults.UnitFault.{UnitFault}
use Rattle.unit.specs.declared.progress.Progress.{Progress}
use Rattle.unit.specs.declared.reports.Report.{Report}
use Rattle.unit.specs.declared.states.Kind.TheVariants.{Open, Block}
use Rattle.unit.specs.declared.states.State.{State}
use Rattle.unit.specs.declared.states.State.TheVariants.{Parked, Loading, Ready, Steering}
use Rattle.unit.proofs.Summary.{parked_not_loads, refused_not_accepted, Summary, turn_from, grant_from, summary}

-- the counts of the progress are those of the day
abbrev Tallied : {E : Type 0} → List (Event E) → Progress → Type 0
Tallied h p = Tally h p.named p.taken p.changed

-- from equal counts
stands : {E : Type 0} {h : List (Event E)} {p : Progress} {s : State} {m c d : ℕ} → Stands p s m c d → Tally h m c d → Tallied h p
stands {h = h} {p = p} w t = rw (w.named_is, w.taken_is, w.changed_is) t

module _ {E : Type 0} {h : List (Event E)} {e : Event E} where
  -- neither an opening nor a block was accepted
  tally_same : {m c d : ℕ} → ¬ Accepted Open e → ¬ Accepted Block e → Tally h m c d → Tally (e ∷ h) m c d
  tally_same p q (unopened n) = unopened (p, n)
  tally_same p q (reports.opened i c d) = reports.opened (later p i) (skip q c) (passes q d)

  tally_block : {m c d b : ℕ} → ¬ Accepted Open e → e.kind ≡ Block → e.answer ≡ Ok b → c < m → Tally h m c d → Tally (e ∷ h) m (suc c) (d + b)
  tally_block p k a l (unopened n) = absurd (omega arith)
  tally_block p k a l (reports.opened i c d) = reports.opened (later p i) (one (k, ap is_ok a) c) (adds k a d)

  still : {p q : Progress} {f : UnitFault} → Refused p q e f → Tallied h p → Tallied (e ∷ h) q
  still r t = subst (Tallied (e ∷ h)) (sym r.progress_is) (tally_same (refused_not_accepted r Open) (refused_not_accepted r Block) t)

  next_tally : {o : Ops E} {α : E} {n : ℕ} {p q : Progress} → Transition o α n p q e → Tallied h p → Tallied (e ∷ h) q
  next_tally (wrong_state _ r) t = still r t
  next_tally (block_count _ _ _ r) t = still r t
  next_tally (out_of_turn _ _ _ r) t = still r t
  next_tally (not_corrected _ _ _ _ r) t = still r t
  next_tally (opened k _ _ a w _) t = stands w (reports.opened (here (k, ap is_ok a)) none nothing)
  next_tally {p = p} (taken k s _ _ a w) t =
      rw (w.named_is, w.taken_is, w.changed_is, add-one) (tally_block (λ x. cc) k a (p.room s) t)
  next_tally (granted k _ _ w _) t = stands w (tally_same (λ x. cc) (λ x. cc) t)
  next_tally (released k _ _ w _) t = stands w (tally_same (λ x. cc) (λ x. cc) t)

pub tally : {E : Type 0} {o : Ops E} {α : E} {n : ℕ} {h : List (Event E)} {p : Progress} → Lived o α n h p → Tallied h p
tally (sealed s) = stands s (unopened tt)
tally (ordered l t) = next_tally t (tally l)

-- the state of a unit is that of the day
pub in_state : {E : Type 0} {h : List (Event E)} {p : Progress} → Summary h p → (s : State) → p.state ≡ s → InState h s
in_state v Parked q = (λ x. let is = v.steering.0 x in cc, λ m c x. parked_not_loads q ((v.loaded m c).0 x).0)
in_state {p = p} v Loading q = (p.taken, turn_from v q)
in_state v Ready q = grant_from v q
in_state v Steering q = v.steering.1 q

-- what tells the progress of a unit is a report of every day that it has lived
pub reports_of_lived : {E : Type 0} {o : Ops E} {α : E} {n : ℕ} {h : List (Event E)} {p : Progress} {r : Report} → Told p r → Lived o α n h p → Reports h r
reports_of_lived {r = r} t l = record {
  state_is = in_state (summary l) r.state (sym t.state_is);
  tally_is = rw (t.named_is, t.taken_is, t.changed_is) (tally l);
}
