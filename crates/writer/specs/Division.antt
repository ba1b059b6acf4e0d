-- Remainders of x⁴ times the data, as cubic polynomials.
use Rattle.std.specs.Prelude.{◌≡◌, ℕ, List}
use Rattle.algebra.specs.Operations.{Ops, In}
use Rattle.algebra.specs.Powers.{power}
use Rattle.code.specs.Blocks.{Sum}
use Rattle.writer.specs.declared.division.Cubic.{Cubic}

-- the value at x
abbrev pub at : {E : Type 0} → Ops E → Cubic E → E → E
at o p x = o.add (o.add (o.add (o.mul p.c3 (power o x 3)) (o.mul p.c2 (power o x 2))) (o.mul p.c1 x)) p.c0

-- the coefficients are elements
pub record Inside {E : Type 0} (o : Ops E) (p : Cubic E) : Type 0 where
  pub three : In o p.c3
  pub two : In o p.c2
  pub one : In o p.c1
  pub zero : In o p.c0

-- x is a root of x⁴ - p
abbrev pub Root : {E : Type 0} → Ops E → Cubic E → E → Type 0
Root o p x = power o x 4 ≡ at o p x

-- q is x·r + s·x⁴ at the roots
abbrev pub Steps : {E : Type 0} → Ops E → Cubic E → Cubic E → E → Cubic E → Type 0
Steps {E} o p r s q = (x : E) → In o x → Root o p x → at o q x ≡ o.add (o.mul x (at o r x)) (o.mul s (power o x 4))

-- q is the data times x⁴ at the roots that are powers αʲ
abbrev pub Remains : {E : Type 0} → Ops E → Cubic E → List E → Cubic E → Type 0
Remains {E} o p symbols q =
    (α : E) (j : ℕ) → In o α → Root o p (power o α j) → at o q (power o α j) ≡ o.mul (Sum o α j symbols) (power o (power o α j) 4)
