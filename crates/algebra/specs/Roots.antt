-- Squares and roots.
use Rattle.std.specs.Prelude.{◌≡◌, ◌⊎◌, Option, MatchOption}
use Rattle.algebra.specs.Operations.{Ops, In}

-- a is the square of an element
abbrev pub Square : {E : Type 0} → Ops E → E → Type 0
Square {E} o a = (x : E) × In o x × (o.mul x x ≡ a)

-- x is the root of a: the element of sign 0 that squares to it
pub record RootOf {E : Type 0} (o : Ops E) (a x : E) : Type 0 where
  pub inside : In o x
  pub squares : o.mul x x ≡ a
  pub even : o.sign x ≡ 0

-- r answers the root of a: it is absent exactly when no element squares to a
abbrev pub AnswersRoot : {E : Type 0} → Ops E → E → Option E → Type 0
AnswersRoot o a r = MatchOption r (Square o a → ⊥) (RootOf o a)

-- each element has a root, or no element squares to it
abbrev pub Rooted : {E : Type 0} → Ops E → Type 0
Rooted {E} o = (a : E) → In o a → ((x : E) × RootOf o a x) ⊎ (Square o a → ⊥)

-- an element has one root at most
abbrev pub RootsAreUnique : {E : Type 0} → Ops E → Type 0
RootsAreUnique {E} o = (a x y : E) → RootOf o a x → RootOf o a y → x ≡ y
