-- Tasks, and the day that they make.
use Rattle.std.specs.Prelude.{◌≡◌, ℕ, List, [], ◌∷◌, ◌++◌, reverse, Some, vec_items}
use Rattle.algebra.specs.declared.Field.{Ghosts}
use Rattle.unit.specs.Commissioning.{SealedWith}
use Rattle.unit.specs.Days.{Event, Throughout}
use Rattle.unit.specs.Law.{HasLived}
use Rattle.unit.specs.Orders.{Same}
use Rattle.unit.specs.declared.tasks.Task.{Task}
use Rattle.unit.specs.declared.units.Sealed.{Sealed}

-- e is what came of a task that was given as t and left as u
pub record Came {E : Type 0} (t u : Task E) (e : Event E) : Type 0 where
  pub kind_is : (e.kind ≡ t.kind) × (u.kind ≡ t.kind)
  pub number_is : (e.number ≡ t.number) × (u.number ≡ t.number)
  pub offered_is : e.offered ≡ vec_items t.block
  pub left_is : e.left ≡ vec_items u.block
  pub answer_is : u.answer ≡ Some e.answer

-- the events are what came of the tasks, one of each, in their order
pub data Events {E : Type 0} : List (Task E) → List (Task E) → List (Event E) → Type 0 where
  none : Events [] [] []
  next : {t u : Task E} {e : Event E} {ts us : List (Task E)} {es : List (Event E)} → Came t u e → Events ts us es → Events (t ∷ ts) (u ∷ us) (e ∷ es)

-- h is the day of tasks that were given as `before` and left as `after`: their events, newest first
abbrev pub Day : {E : Type 0} → List (Task E) → List (Task E) → List (Event E) → Type 0
Day before after h = Events before after (reverse h)

-- P holds at every order of the day of the tasks, given the events before it
abbrev pub ThroughoutDay : {E : Type 0} → (List (Event E) → Event E → Type 0) → List (Task E) → List (Task E) → Type 0
ThroughoutDay {E} P before after = (h : List (Event E)) → Day before after h → Throughout P h

-- the unit u was given the orders of the tasks and is v then
pub record Carried {F E : Type 0} {meaning : Ghosts F E} (u v : Sealed F E meaning) (before after : List (Task E)) : Type 0 where
  pub same : Same u v
  pub day : List (Event E)
  pub came : Day before after day
  pub lived : (h : List (Event E)) → HasLived h u → HasLived (day ++ h) v

-- A unit was sealed on the field f with α and n, given the orders of the tasks, and is u then: the day of the tasks is the one that it has lived.
pub record Worked {F E : Type 0} {meaning : Ghosts F E} (f : F) (α : E) (n : ℕ) (before after : List (Task E)) (u : Sealed F E meaning) : Type 0 where
  pub sealed : SealedWith f α n u
  pub day : List (Event E)
  pub came : Day before after day
  pub lived : HasLived day u
