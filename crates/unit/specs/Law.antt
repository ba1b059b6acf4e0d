-- The law over working days: what holds at every order e, refused or not, after the events h.
use Rattle.std.specs.Prelude.{◌≡◌, ℕ, ◌≤◌, List, ◌∷◌, length, Ok, ◌↔◌}
use Rattle.algebra.specs.Laws.{Laws}
use Rattle.algebra.specs.Operations.{Ops}
use Rattle.algebra.specs.Roots.{Rooted}
use Rattle.algebra.specs.declared.Field.{Ghosts}
use Rattle.quadratic.specs.Towers.{TowersKeepLaws}
use Rattle.code.specs.Blocks.{Elements, CodeWord₁, differ}
use Rattle.corrector.specs.Correction.{Corrected}
use Rattle.unit.specs.Days.{Event, Accepted, IsSteering, InTurn, Grantable}
use Rattle.unit.specs.Orders.{AllowedCount, Transition, Lived, Same}
use Rattle.unit.specs.declared.states.Kind.TheVariants.{Open, Block, Engage, Release}
use Rattle.unit.specs.declared.units.Sealed.{Sealed}

-- The unit's field, and every tower of quadratic steps above it, keeps the laws and decides which elements have a root.
pub record FieldLaw {E : Type 0} (o : Ops E) : Type 0 where
  pub laws : Laws o
  pub rooted : Rooted o
  pub towers : TowersKeepLaws o

-- a code word differs from the block in at most two symbols
abbrev pub Near : {E : Type 0} → Ops E → E → ℕ → List E → Type 0
Near {E} o α n block = (word : List E) × CodeWord₁ o α n word × (differ o block word ≤ 2)

-- Blocks, with the generator α and the length n that were sealed.
-- `taken`: a block is taken exactly when it is in its turn, has n symbols, all of them elements, and a code word is near.
-- `corrected`: then that code word stands in it, every other differs from the block offered in more than two symbols,
-- and the number returned is that of the symbols changed.
-- `kept`: whatever else is ordered, or refused, leaves the block lent as it came.
pub record BlockLaw {E : Type 0} (o : Ops E) (α : E) (n : ℕ) (h : List (Event E)) (e : Event E) : Type 0 where
  pub taken : e.kind ≡ Block → (Accepted Block e ↔ (InTurn h e.number × (length e.offered ≡ n) × Elements o e.offered × Near o α n e.offered))
  pub corrected : (c : ℕ) → e.kind ≡ Block → e.answer ≡ Ok c → Corrected o α n e.offered e.left c
  pub kept : ¬ Accepted Block e → e.left ≡ e.offered

-- Openings, engage orders and releases.
-- `opening`: accepted exactly when it names 1 to 4096 blocks and the unit is not steering.
-- `engage`: granted exactly when an opening was accepted and, since the last such, as many blocks were taken as it named
-- and no engage order was granted.
-- `release`: accepted exactly when the unit is steering.
pub record OrderLaw {E : Type 0} (h : List (Event E)) (e : Event E) : Type 0 where
  pub opening : e.kind ≡ Open → (Accepted Open e ↔ (¬ IsSteering h × AllowedCount e.number))
  pub engage : e.kind ≡ Engage → (Accepted Engage e ↔ Grantable h)
  pub release : e.kind ≡ Release → (Accepted Release e ↔ IsSteering h)

-- h is a day that the unit u has lived
abbrev pub HasLived : {F E : Type 0} {meaning : Ghosts F E} → List (Event E) → Sealed F E meaning → Type 0
HasLived {meaning = m} h u = Lived (m.ops u.field) u.alpha u.length h u.progress

-- The unit u was given the order e and is v then.
-- `transition`: what the order did, exactly. `lived`: every day of the unit is one order longer.
-- `field`, `blocks` and `orders`: the law holds at this order, whatever day the unit has lived.
pub record Ordered {F E : Type 0} {meaning : Ghosts F E} (u v : Sealed F E meaning) (e : Event E) : Type 0 where
  pub same : Same u v
  pub transition : Transition (meaning.ops u.field) u.alpha u.length u.progress v.progress e
  pub lived : (h : List (Event E)) → HasLived h u → HasLived (e ∷ h) v
  pub field : FieldLaw (meaning.ops u.field)
  pub blocks : (h : List (Event E)) → HasLived h u → BlockLaw (meaning.ops u.field) u.alpha u.length h e
  pub orders : (h : List (Event E)) → HasLived h u → OrderLaw h e
