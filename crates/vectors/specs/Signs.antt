-- Signs in the towers above numbers modulo p.
use Rattle.std.specs.Prelude.{◌≡◌, ℕ, ◌<◌}
use Rattle.algebra.specs.Operations.{Ops, In}
use Rattle.prime_field.specs.Modular.{modular}
use Rattle.quadratic.specs.Towers.{Height, Tower}
use Rattle.quadratic.specs.Signs.{coordinates, sgn0}

-- in every tower above the numbers modulo p, the sign of an element is sgn0 of its coordinates
abbrev pub PrimeTowerSignsAreSgn0 : Type 0
PrimeTowerSignsAreSgn0 =
    (p : ℕ) → 0 < p → (n : ℕ) (q : Ops (Height n ℕ)) → Tower ℕ (modular p) n q → (a : Height n ℕ) → In q a
    → q.sign a ≡ sgn0 (coordinates n a)
