-- What a field means: its elements, zero and one, and its operations on them.
use Rattle.std.specs.Prelude.{◌≡◌, ℕ, Bool, true}

-- The operations on values of a type E. Not every value of E need be an element:
-- `is` tells which are, and the others are none of the field's concern.
pub record Ops (E : Type 0) : Type 0 where
  pub is : E → Bool
  pub same : E → E → Bool
  pub zero : E
  pub one : E
  pub add : E → E → E
  pub mul : E → E → E
  pub neg : E → E
  pub inv : E → E
  pub sign : E → ℕ

-- x is an element
abbrev pub In : {E : Type 0} → Ops E → E → Type 0
In o x = o.is x ≡ true

-- a less b
abbrev pub minus : {E : Type 0} → Ops E → E → E → E
minus o a b = o.add a (o.neg b)
