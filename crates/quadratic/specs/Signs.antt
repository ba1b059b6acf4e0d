-- The sign of a tower's element by its coordinates.
use Rattle.std.specs.Prelude.{◌≡◌, ℕ, zero, suc, ◌%◌, cond, List, [], ◌∷◌, ◌++◌, ◌==◌, bit_and, bit_or}
use Rattle.algebra.specs.Operations.{Ops, In}
use Rattle.quadratic.specs.Towers.{Height, Tower}

-- the coordinates, low half first
abbrev pub coordinates : (n : ℕ) → Height n ℕ → List ℕ
coordinates zero a = a ∷ []
coordinates (suc n) a = coordinates n a.0 ++ coordinates n a.1

-- One turn for each coordinate x, with the bits `sign` and `leading`, that all before are zero:
-- sign := sign OR (leading AND x mod 2), and leading := leading AND (x = 0).
abbrev pub sgn0_from : ℕ → ℕ → List ℕ → ℕ
sgn0_from sign leading [] = sign
sgn0_from sign leading (x ∷ xs) = sgn0_from (bit_or sign (bit_and leading (x % 2))) (bit_and leading (cond (x == 0) 1 0)) xs

-- The function sgn0 of RFC 9380, section 4.1, by which a point is told from its negative:
-- the parity of the first coordinate that is not zero, or 0 where there is none.
abbrev pub sgn0 : List ℕ → ℕ
sgn0 = sgn0_from 0 1

-- Numbers as elements, whose sign is their parity; those below a prime are so.
pub record ParitySigns (o : Ops ℕ) : Type 0 where
  pub zero_is : o.zero ≡ 0
  pub zero_in : In o 0
  pub same_is : (a b : ℕ) → In o a → In o b → o.same a b ≡ (a == b)
  pub sign_is : (a : ℕ) → In o a → o.sign a ≡ a % 2

-- in every tower above numbers, the sign of an element is s of its coordinates
abbrev pub SignsByCoordinates : (List ℕ → ℕ) → Type 0
SignsByCoordinates s =
    (o : Ops ℕ) → ParitySigns o → (n : ℕ) (p : Ops (Height n ℕ)) → Tower ℕ o n p → (a : Height n ℕ) → In p a
    → p.sign a ≡ s (coordinates n a)
