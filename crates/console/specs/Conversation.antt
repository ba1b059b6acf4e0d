-- What comes of each line: which lines are in order, the response, and what is then fixed.
use Rattle.std.specs.Prelude.{◌≡◌, ℕ, suc, ◌<◌, Bool, false, ◌||◌, List, ◌++◌, codes, ◌==◌, nat_le}
use Rattle.algebra.specs.Operations.{Ops}
use Rattle.algebra.specs.Refusals.{RefusesRoot}
use Rattle.algebra.specs.Roots.{RootOf}
use Rattle.algebra.specs.declared.faults.FieldFault.TheVariants.{UnlistedModulus, NotNonsquare}
use Rattle.lines.specs.Lines.{Content, prime, nonresidue, step, alpha, len, find, Proper, written}
use Rattle.lines.specs.Numbers.{numeral, spelled}
use Rattle.prime_field.specs.Making.{Listed, Nonresidue, RefusesMaking}
use Rattle.prime_field.specs.Modular.{modular}
use Rattle.quadratic.specs.Pairs.{Nonsquare, pairs}
use Rattle.quadratic.specs.Signs.{coordinates}
use Rattle.quadratic.specs.Towers.{Height}
use Rattle.unit.specs.Sealing.{Allowed, RefusesSealing}
use Rattle.unit.specs.declared.faults.UnitFault.TheVariants as unit_fault
use Rattle.console.specs.Refusals.{shift_number}
use Rattle.console.specs.declared.faults.ShiftFault.{ShiftFault}
use Rattle.console.specs.declared.faults.ShiftFault.TheVariants.{Unreadable, Field, Unit}

-- how far a unit over elements E is: open, open with α given, or sealed with α and n
pub data Phase (E : Type 0) : Type 0 where
  unsealed : Phase E
  alpha_given : E → Phase E
  sealed : E → ℕ → Phase E

-- what the lines so far have fixed: nothing, the prime, or a unit after n steps on the field of these operations
pub data Position : Type 0 where
  begun : Position
  prime_given : ℕ → Position
  unit_on : (n : ℕ) → Ops (Height n ℕ) → Phase (Height n ℕ) → Position

-- the response to a line: its key is accepted, the numbers of a root, or a refusal
pub data Response : Type 0 where
  accepted : List ℕ → Response
  found : List ℕ → Response
  refused : ShiftFault → Response

-- the bytes of a response
abbrev pub shown : Response → List ℕ
shown (accepted key) = key ++ codes "=ok\n"
shown (found values) = codes "find=" ++ (spelled values ++ codes "\n")
shown (refused e) = codes "refused=" ++ (numeral (shift_number e) ++ codes "\n")

-- the refusals 1 to 5 and 14 end the program
abbrev pub ends : Response → Bool
ends (accepted key) = false
ends (found values) = false
ends (refused e) = nat_le (shift_number e) 5 || shift_number e == 14

-- The lines that are in order once the steps are made. An element is written by its coordinates.
pub data UnitInOrder {E : Type 0} (coordinates_of : E → List ℕ) : Phase E → Content → Type 0 where
  then_alpha : {xs : List ℕ} (a : E) → xs ≡ coordinates_of a → UnitInOrder coordinates_of unsealed (alpha xs)
  then_length : {a : E} {n : ℕ} → UnitInOrder coordinates_of (alpha_given a) (len n)
  then_find : {a : E} {n : ℕ} {xs : List ℕ} (x : E) → xs ≡ coordinates_of x → UnitInOrder coordinates_of (sealed a n) (find xs)

-- what comes of them
pub data UnitOutcome {E : Type 0} (o : Ops E) (coordinates_of : E → List ℕ) : Phase E → Content → Phase E → Response → Type 0 where
  alpha_kept : {xs : List ℕ} (a : E) → xs ≡ coordinates_of a
      → UnitOutcome o coordinates_of unsealed (alpha xs) (alpha_given a) (accepted (codes "alpha"))
  sealed_with : {a : E} {n : ℕ} → Allowed o a n
      → UnitOutcome o coordinates_of (alpha_given a) (len n) (sealed a n) (accepted (codes "length"))
  not_sealed : {a : E} {n : ℕ} (e : _) → RefusesSealing o a n e
      → UnitOutcome o coordinates_of (alpha_given a) (len n) (alpha_given a) (refused (Unit e))
  root_found : {a : E} {n : ℕ} {xs : List ℕ} (x y : E) → xs ≡ coordinates_of x → RootOf o x y
      → UnitOutcome o coordinates_of (sealed a n) (find xs) (sealed a n) (found (coordinates_of y))
  root_refused : {a : E} {n : ℕ} {xs : List ℕ} (x : E) (e : _) → xs ≡ coordinates_of x → RefusesRoot o x e
      → UnitOutcome o coordinates_of (sealed a n) (find xs) (sealed a n) (refused (Field e))

-- the lines that are in order at a position; at most two steps may be made
pub data InOrder : Position → Content → Type 0 where
  prime_first : {p : ℕ} → InOrder begun (prime p)
  then_nonresidue : {p r : ℕ} → InOrder (prime_given p) (nonresidue r)
  then_step : {n : ℕ} {o : Ops (Height n ℕ)} {xs : List ℕ} (β : Height n ℕ) → n < 2 → xs ≡ coordinates n β
      → InOrder (unit_on n o unsealed) (step xs)
  unit_line : {n : ℕ} {o : Ops (Height n ℕ)} {s : Phase (Height n ℕ)} {x : Content} → UnitInOrder (coordinates n) s x
      → InOrder (unit_on n o s) x

-- what comes of a line that is in order: the position after it, and the response
pub data Outcome : Position → Content → Position → Response → Type 0 where
  prime_listed : {p : ℕ} → Listed p → Outcome begun (prime p) (prime_given p) (accepted (codes "prime"))
  prime_unlisted : {p : ℕ} → (Listed p → ⊥) → Outcome begun (prime p) begun (refused (Field UnlistedModulus))
  field_made : {p r : ℕ} → Listed p → Nonresidue p r
      → Outcome (prime_given p) (nonresidue r) (unit_on 0 (modular p) unsealed) (accepted (codes "nonresidue"))
  field_refused : {p r : ℕ} (e : _) → RefusesMaking p r e
      → Outcome (prime_given p) (nonresidue r) (prime_given p) (refused (Field e))
  stepped : {n : ℕ} {o : Ops (Height n ℕ)} {xs : List ℕ} (β : Height n ℕ) → n < 2 → xs ≡ coordinates n β → Nonsquare o β
      → Outcome (unit_on n o unsealed) (step xs) (unit_on (suc n) (pairs o β) unsealed) (accepted (codes "step"))
  step_refused : {n : ℕ} {o : Ops (Height n ℕ)} {xs : List ℕ} (β : Height n ℕ) → n < 2 → xs ≡ coordinates n β → (Nonsquare o β → ⊥)
      → Outcome (unit_on n o unsealed) (step xs) (unit_on n o unsealed) (refused (Unit (unit_fault.Field NotNonsquare)))
  unit_line : {n : ℕ} {o : Ops (Height n ℕ)} {s t : Phase (Height n ℕ)} {x : Content} {r : Response}
      → UnitOutcome o (coordinates n) s x t r → Outcome (unit_on n o s) x (unit_on n o t) r

-- what comes of the bytes of line number k: they write a line that is in order, or they do not,
-- and are refused as unreadable, with everything left as it was
pub data Answers (s : Position) (k : ℕ) (bytes : List ℕ) : Position → Response → Type 0 where
  in_order : {t : Position} {r : Response} (x : Content) → Proper x → bytes ≡ written x → Outcome s x t r → Answers s k bytes t r
  unreadable : ((x : Content) → Proper x → bytes ≡ written x → InOrder s x → ⊥) → Answers s k bytes s (refused (Unreadable k))
