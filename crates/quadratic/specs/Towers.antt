-- Towers: quadratic extensions one above the other, of any height.
use Rattle.std.specs.Prelude.{ℕ, zero, suc}
use Rattle.algebra.specs.Operations.{Ops}
use Rattle.algebra.specs.Laws.{Laws}
use Rattle.algebra.specs.Roots.{Rooted}
use Rattle.quadratic.specs.Pairs.{Nonsquare, pairs}

-- the elements of a tower of height n, where those of its ground are E
abbrev pub Height : ℕ → Type 0 → Type 0
Height zero E = E
Height (suc n) E = Height n E × Height n E

-- p is a tower of height n above o
pub data Tower (E : Type 0) (o : Ops E) : (n : ℕ) → Ops (Height n E) → Type 0 where
  ground : Tower E o zero o
  step : (n : ℕ) (p : Ops (Height n E)) (β : Height n E) → Tower E o n p → Nonsquare p β → Tower E o (suc n) (pairs p β)

-- every tower above o keeps the laws, and decides which of its elements have a root
abbrev pub TowersKeepLaws : {E : Type 0} → Ops E → Type 0
TowersKeepLaws {E} o = (n : ℕ) (p : Ops (Height n E)) → Tower E o n p → Laws p × Rooted p
