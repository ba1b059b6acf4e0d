-- What comes of a line that was read, in order or not.
use Rattle.std.specs.Prelude.{◌≡◌, ℕ, ◌⊎◌, List}
use Rattle.algebra.specs.Operations.{Ops}
use Rattle.algebra.specs.declared.Field.{Ghosts}
use Rattle.lines.specs.Lines.{Content, meant}
use Rattle.algebra.specs.Refusals.{RefusesRoot}
use Rattle.algebra.specs.Roots.{RootOf}
use Rattle.console.specs.Conversation.{Phase, Position, Response, accepted, found, refused, UnitInOrder, UnitOutcome, InOrder, Outcome}
use Rattle.console.specs.Commissions.{field_of, phase}
use Rattle.console.specs.Replies.{response}
use Rattle.console.specs.declared.commissions.Commission.{Commission}
use Rattle.console.specs.declared.faults.ShiftFault.TheVariants.{Unreadable, Field}
use Rattle.console.specs.declared.inputs.NumberedLine.{NumberedLine}
use Rattle.console.specs.declared.replies.Answer.{Answer}

abbrev pub UnitHandled : {E : Type 0} → Ops E → (E → List ℕ) → Phase E → ℕ → Content → Phase E → Response → Type 0
UnitHandled o coordinates_of s k x t r =
    UnitOutcome o coordinates_of s x t r ⊎ ((UnitInOrder coordinates_of s x → ⊥) × (t ≡ s) × (r ≡ refused (Unreadable k)))

-- the same of a unit, which stays on its field
abbrev pub UnitAnswered : {F E : Type 0} {meaning : Ghosts F E} → (E → List ℕ) → Commission F E meaning → NumberedLine → Answer (Commission F E meaning) → Type 0
UnitAnswered {meaning = m} coordinates_of u i a =
    UnitHandled (m.ops (field_of u)) coordinates_of (phase u) i.number (meant i.line) (phase a.left) (response a.reply)
    × (field_of a.left ≡ field_of u)

abbrev pub Handled : Position → ℕ → Content → Position → Response → Type 0
Handled s k x t r = Outcome s x t r ⊎ ((InOrder s x → ⊥) × (t ≡ s) × (r ≡ refused (Unreadable k)))

-- the response to the search for the root of x
abbrev pub Finds : {E : Type 0} → Ops E → (E → List ℕ) → E → Response → Type 0
Finds o coordinates_of x (accepted key) = ⊥
Finds {E} o coordinates_of x (found values) = (y : E) × (values ≡ coordinates_of y) × RootOf o x y
Finds o coordinates_of x (refused e) = (fault : _) × (e ≡ Field fault) × RefusesRoot o x fault
