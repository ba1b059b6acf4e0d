-- What each order does to a unit, exactly: the answer, the block and the progress afterwards.
use Rattle.std.specs.Prelude.{◌≡◌, ℕ, ◌+◌, ◌<◌, ◌≤◌, List, [], ◌∷◌, Ok, Err, Result, ◌≢◌}
use Rattle.algebra.specs.Operations.{Ops}
use Rattle.algebra.specs.declared.Field.{Ghosts}
use Rattle.code.specs.Generator.{Generates}
use Rattle.code.specs.declared.faults.CodeFault.{CodeFault}
use Rattle.corrector.specs.Correction.{Corrected, Uncorrected}
use Rattle.unit.specs.Days.{Event, event}
use Rattle.unit.specs.States.{Fits}
use Rattle.unit.specs.declared.faults.UnitFault.{UnitFault}
use Rattle.unit.specs.declared.faults.UnitFault.TheVariants as fault
use Rattle.unit.specs.declared.progress.Progress.{Progress}
use Rattle.unit.specs.declared.states.Kind.{Kind}
use Rattle.unit.specs.declared.states.Kind.TheVariants.{Open, Block, Engage, Release}
use Rattle.unit.specs.declared.states.State.{State}
use Rattle.unit.specs.declared.states.State.TheVariants.{Parked, Loading, Ready, Steering}
use Rattle.unit.specs.declared.units.Sealed.{Sealed}

-- the progress p is as said
pub record Stands (p : Progress) (state : State) (named taken changed : ℕ) : Type 0 where
  pub state_is : p.state ≡ state
  pub named_is : p.named ≡ named
  pub taken_is : p.taken ≡ taken
  pub changed_is : p.changed ≡ changed

-- an opening may name m blocks
abbrev pub AllowedCount : ℕ → Type 0
AllowedCount m = (1 ≤ m) × (m ≤ 4096)

-- newly sealed: parked, with nothing counted
abbrev pub IsNew : Progress → Type 0
IsNew p = Stands p Parked 0 0 0

-- from p to q one more block is taken, with c symbols changed; the last that was named makes the unit ready
pub record Advances (p q : Progress) (c : ℕ) : Type 0 where
  pub more : p.taken + 1 < p.named → q.state ≡ Loading
  pub last : p.taken + 1 ≡ p.named → q.state ≡ Ready
  pub named_is : q.named ≡ p.named
  pub taken_is : q.taken ≡ p.taken + 1
  pub changed_is : q.changed ≡ p.changed + c

-- the order is refused with the fault, and leaves progress and block as they came
pub record Refused {E : Type 0} (p q : Progress) (e : Event E) (f : UnitFault) : Type 0 where
  pub answer_is : e.answer ≡ Err f
  pub progress_is : q ≡ p
  pub block_is : e.left ≡ e.offered

-- The order e takes a unit, sealed with α and n, from the progress p to q: one case for each outcome.
pub data Transition {E : Type 0} (o : Ops E) (α : E) (n : ℕ) (p q : Progress) (e : Event E) : Type 0 where
  wrong_state : ¬ Fits e.kind p.state → Refused p q e (fault.WrongState p.state) → Transition o α n p q e
  block_count : e.kind ≡ Open → Fits Open p.state → ¬ AllowedCount e.number
      → Refused p q e (fault.BlockCount e.number) → Transition o α n p q e
  opened : e.kind ≡ Open → Fits Open p.state → AllowedCount e.number
      → e.answer ≡ Ok 0 → Stands q Loading e.number 0 0 → e.left ≡ e.offered → Transition o α n p q e
  out_of_turn : e.kind ≡ Block → p.state ≡ Loading → e.number ≢ p.taken
      → Refused p q e (fault.OutOfTurn e.number) → Transition o α n p q e
  not_corrected : {f : CodeFault} → e.kind ≡ Block → p.state ≡ Loading → e.number ≡ p.taken → Uncorrected o α n e.offered e.left f
      → Refused p q e (fault.Block e.number f) → Transition o α n p q e
  taken : {c : ℕ} → e.kind ≡ Block → p.state ≡ Loading → e.number ≡ p.taken → Corrected o α n e.offered e.left c
      → e.answer ≡ Ok c → Advances p q c → Transition o α n p q e
  granted : e.kind ≡ Engage → p.state ≡ Ready
      → e.answer ≡ Ok 0 → Stands q Steering p.named p.taken p.changed → e.left ≡ e.offered → Transition o α n p q e
  released : e.kind ≡ Release → p.state ≡ Steering
      → e.answer ≡ Ok 0 → Stands q Parked p.named p.taken p.changed → e.left ≡ e.offered → Transition o α n p q e

-- an order has one outcome: answer, block and progress afterwards follow from the order, the block offered and the progress before
abbrev pub OrderedOnce : {E : Type 0} → Ops E → Type 0
OrderedOnce {E} o =
    (α : E) (n : ℕ) → Generates o α n → (kind : Kind) (number : ℕ) (block : List E) (p q q' : Progress) (left left' : List E) (r r' : Result ℕ UnitFault)
    → Transition o α n p q (event kind number block left r) → Transition o α n p q' (event kind number block left' r')
    → (q ≡ q') × (left ≡ left') × (r ≡ r')

-- h is a day of a unit: newly sealed at first, and each order of h in turn brought it to p
pub data Lived {E : Type 0} (o : Ops E) (α : E) (n : ℕ) : List (Event E) → Progress → Type 0 where
  sealed : {p : Progress} → IsNew p → Lived o α n [] p
  ordered : {h : List (Event E)} {p q : Progress} {e : Event E} → Lived o α n h p → Transition o α n p q e → Lived o α n (e ∷ h) q

-- the fault names the block k and has inside it the corrector's fault, of which P holds
pub record UncorrectedAt (k : ℕ) (P : CodeFault → Type 0) (f : UnitFault) : Type 0 where
  pub inner : CodeFault
  pub fault_is : f ≡ fault.Block k inner
  pub due : P inner

-- field, generator and length stay
pub record Same {F E : Type 0} {meaning : Ghosts F E} (u v : Sealed F E meaning) : Type 0 where
  pub field_is : v.field ≡ u.field
  pub alpha_is : v.alpha ≡ u.alpha
  pub length_is : v.length ≡ u.length
