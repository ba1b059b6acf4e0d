-- Lines to a unit that may still step up.
use Rattle.std.specs.Prelude.{◌≡◌, ℕ, suc, ◌⊎◌, List, codes}
use Rattle.algebra.specs.Operations.{Ops}
use Rattle.algebra.specs.declared.Field.{Ghosts}
use Rattle.algebra.specs.declared.faults.FieldFault.TheVariants.{NotNonsquare}
use Rattle.lines.specs.Lines.{Content, meant, step}
use Rattle.quadratic.specs.Pairs.{Nonsquare, pairs}
use Rattle.quadratic.specs.Towers.{Height}
use Rattle.unit.specs.declared.faults.UnitFault.TheVariants as unit_fault
use Rattle.console.specs.Commissions.{field_of, phase}
use Rattle.console.specs.Conversation.{Phase, unsealed, Position, unit_on, Response, accepted, refused, UnitInOrder, UnitOutcome}
use Rattle.console.specs.Replies.{response}
use Rattle.console.specs.declared.commissions.Commission.{Commission}
use Rattle.console.specs.declared.faults.ShiftFault.TheVariants.{Unreadable, Unit}
use Rattle.console.specs.declared.inputs.NumberedLine.{NumberedLine}
use Rattle.console.specs.declared.replies.Answer.{Answer}
use Rattle.console.specs.declared.steps.Stepped.{Stepped}
use Rattle.console.specs.declared.steps.Stepped.TheVariants.{Same, Higher}

-- where a unit is after a line: on its field, in some phase, or open on the extension by an element
pub data Place (E : Type 0) : Type 0 where
  same : Phase E → Place E
  higher : E → Place E

-- the field that it was on
abbrev pub ground : {F E : Type 0} {meaning : Ghosts F E} → Stepped F E meaning → F
ground (Same u) = field_of u
ground (Higher u) = u.field.base

abbrev pub place : {F E : Type 0} {meaning : Ghosts F E} → Stepped F E meaning → Place E
place (Same u) = same (phase u)
place (Higher u) = higher u.field.beta

-- the position of a unit that was on the field of these operations, after n steps
abbrev pub placed : (n : ℕ) → Ops (Height n ℕ) → Place (Height n ℕ) → Position
placed n o (same t) = unit_on n o t
placed n o (higher β) = unit_on (suc n) (pairs o β) unsealed

-- The lines that are in order. An element is written by its coordinates.
pub data StepInOrder {E : Type 0} (coordinates_of : E → List ℕ) (s : Phase E) : Content → Type 0 where
  then_step : {xs : List ℕ} (β : E) → s ≡ unsealed → xs ≡ coordinates_of β → StepInOrder coordinates_of s (step xs)
  unit_line : {x : Content} → UnitInOrder coordinates_of s x → StepInOrder coordinates_of s x

-- what comes of them
pub data StepOutcome {E : Type 0} (o : Ops E) (coordinates_of : E → List ℕ) (s : Phase E) : Content → Place E → Response → Type 0 where
  stepped : {xs : List ℕ} (β : E) → s ≡ unsealed → xs ≡ coordinates_of β → Nonsquare o β
      → StepOutcome o coordinates_of s (step xs) (higher β) (accepted (codes "step"))
  step_refused : {xs : List ℕ} (β : E) → s ≡ unsealed → xs ≡ coordinates_of β → (Nonsquare o β → ⊥)
      → StepOutcome o coordinates_of s (step xs) (same unsealed) (refused (Unit (unit_fault.Field NotNonsquare)))
  unit_line : {x : Content} {t : Phase E} {r : Response} → UnitOutcome o coordinates_of s x t r
      → StepOutcome o coordinates_of s x (same t) r

-- what comes of line number k, in order or not
abbrev pub StepHandled : {E : Type 0} → Ops E → (E → List ℕ) → Phase E → ℕ → Content → Place E → Response → Type 0
StepHandled o coordinates_of s k x p r =
    StepOutcome o coordinates_of s x p r ⊎ ((StepInOrder coordinates_of s x → ⊥) × (p ≡ same s) × (r ≡ refused (Unreadable k)))

-- the same of a unit: it stays on its field, or is open on the extension of it
abbrev pub StepAnswered : {F E : Type 0} {meaning : Ghosts F E} → (E → List ℕ) → Commission F E meaning → NumberedLine → Answer (Stepped F E meaning) → Type 0
StepAnswered {meaning = m} coordinates_of u i a =
    StepHandled (m.ops (field_of u)) coordinates_of (phase u) i.number (meant i.line) (place a.left) (response a.reply)
    × (ground a.left ≡ field_of u)
