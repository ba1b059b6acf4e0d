-- What a report says of the day that a unit has lived.
use Rattle.std.specs.Prelude.{◌≡◌, ℕ, ◌+◌, List, [], ◌∷◌, Ok}
use Rattle.unit.specs.Days.{Event, Accepted, Since, NoneOf, Count, IsSteering, Loaded, InTurn, Grantable}
use Rattle.unit.specs.declared.progress.Progress.{Progress}
use Rattle.unit.specs.declared.reports.Report.{Report}
use Rattle.unit.specs.declared.states.Kind.TheVariants.{Open, Block}
use Rattle.unit.specs.declared.states.State.{State}
use Rattle.unit.specs.declared.states.State.TheVariants.{Parked, Loading, Ready, Steering}

-- the state of a unit after the day h
abbrev pub InState : {E : Type 0} → List (Event E) → State → Type 0
InState h Parked = ¬ IsSteering h × ((m c : ℕ) → ¬ Loaded h m c)
InState h Loading = (k : ℕ) × InTurn h k
InState h Ready = Grantable h
InState h Steering = IsSteering h

-- the numbers returned for the blocks taken among the events s add up to c
pub data Changed {E : Type 0} : List (Event E) → ℕ → Type 0 where
  nothing : Changed [] 0
  adds : {e : Event E} {s : List (Event E)} {c d : ℕ} → e.kind ≡ Block → e.answer ≡ Ok d → Changed s c → Changed (e ∷ s) (c + d)
  passes : {e : Event E} {s : List (Event E)} {c : ℕ} → ¬ Accepted Block e → Changed s c → Changed (e ∷ s) c

-- blocks named, blocks taken and symbols changed, since the last opening accepted on the day h: all zero before any
pub data Tally {E : Type 0} (h : List (Event E)) : ℕ → ℕ → ℕ → Type 0 where
  unopened : NoneOf Open h → Tally h 0 0 0
  opened : {s : List (Event E)} {m c d : ℕ} → Since Open h m s → Count Block s c → Changed s d → Tally h m c d

-- the report is that of the day h
pub record Reports {E : Type 0} (h : List (Event E)) (r : Report) : Type 0 where
  pub state_is : InState h r.state
  pub tally_is : Tally h r.named r.taken r.changed

-- the report tells the progress
pub record Told (p : Progress) (r : Report) : Type 0 where
  pub state_is : r.state ≡ p.state
  pub named_is : r.named ≡ p.named
  pub taken_is : r.taken ≡ p.taken
  pub changed_is : r.changed ≡ p.changed
