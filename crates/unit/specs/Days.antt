-- Working days: the orders that a sealed unit was given, newest first, with what came of each.
use Rattle.std.specs.Prelude.{◌≡◌, ℕ, suc, ◌<◌, true, List, [], ◌∷◌, is_ok, Result, ⊤}
use Rattle.unit.specs.declared.faults.UnitFault.{UnitFault}
use Rattle.unit.specs.declared.states.Kind.{Kind}
use Rattle.unit.specs.declared.states.Kind.TheVariants.{Open, Block, Engage, Release}

-- An order, its number (of an opening: the blocks that it names), the block lent with it, as offered and as left, and the answer.
pub record Event (E : Type 0) : Type 0 where
  pub kind : Kind
  pub number : ℕ
  pub offered : List E
  pub left : List E
  pub answer : Result ℕ UnitFault

abbrev pub event : {E : Type 0} → Kind → ℕ → List E → List E → Result ℕ UnitFault → Event E
event k m before after r = record { kind = k; number = m; offered = before; left = after; answer = r }

-- e is an order of the kind k and was not refused: the opening or the release was accepted, the block taken, the engage order granted
abbrev pub Accepted : {E : Type 0} → Kind → Event E → Type 0
Accepted k e = (e.kind ≡ k) × (is_ok e.answer ≡ true)

-- an order of the kind k was accepted on the day; the last such bore the number m, and s are the events since
pub data Since {E : Type 0} (k : Kind) : List (Event E) → ℕ → List (Event E) → Type 0 where
  here : {e : Event E} {h : List (Event E)} → Accepted k e → Since k (e ∷ h) e.number []
  later : {e : Event E} {h s : List (Event E)} {m : ℕ} → ¬ Accepted k e → Since k h m s → Since k (e ∷ h) m (e ∷ s)

-- among the events s no order of the kind k was accepted
abbrev pub NoneOf : {E : Type 0} → Kind → List (Event E) → Type 0
NoneOf k [] = ⊤
NoneOf k (e ∷ s) = ¬ Accepted k e × NoneOf k s

-- among the events s, c orders of the kind k were accepted
pub data Count {E : Type 0} (k : Kind) : List (Event E) → ℕ → Type 0 where
  none : Count k [] 0
  one : {e : Event E} {s : List (Event E)} {c : ℕ} → Accepted k e → Count k s c → Count k (e ∷ s) (suc c)
  skip : {e : Event E} {s : List (Event E)} {c : ℕ} → ¬ Accepted k e → Count k s c → Count k (e ∷ s) c

-- an engage order was granted and, since the last such, no release was accepted
abbrev pub IsSteering : {E : Type 0} → List (Event E) → Type 0
IsSteering {E} h = (m : ℕ) × (s : List (Event E)) × Since Engage h m s × NoneOf Release s

-- an opening was accepted, the last such named m blocks and, since then, no engage order was granted and c blocks were taken
abbrev pub Loaded : {E : Type 0} → List (Event E) → ℕ → ℕ → Type 0
Loaded {E} h m c = (s : List (Event E)) × Since Open h m s × NoneOf Engage s × Count Block s c

-- block k is in its turn: so far k blocks were taken, fewer than the opening named
abbrev pub InTurn : {E : Type 0} → List (Event E) → ℕ → Type 0
InTurn h k = (m : ℕ) × Loaded h m k × (k < m)

-- an engage order may be granted: so far as many blocks were taken as the opening named
abbrev pub Grantable : {E : Type 0} → List (Event E) → Type 0
Grantable h = (m : ℕ) × Loaded h m m

-- P holds at every order of the day, given the events before it
abbrev pub Throughout : {E : Type 0} → (List (Event E) → Event E → Type 0) → List (Event E) → Type 0
Throughout P [] = ⊤
Throughout P (e ∷ h) = P h e × Throughout P h
