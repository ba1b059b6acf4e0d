-- The distance of the codes.
use Rattle.std.specs.Prelude.{ℕ, ◌≤◌, List, ◌≢◌}
use Rattle.algebra.specs.Operations.{Ops}
use Rattle.code.specs.Blocks.{CodeWord, differ}
use Rattle.code.specs.Generator.{Generates}

-- For every generator, length and first exponent, different code words differ in at least five places.
abbrev pub DistanceFive : {E : Type 0} → Ops E → Type 0
DistanceFive {E} o =
    (first : ℕ) (α : E) (n : ℕ) (b c : List E) → Generates o α n → CodeWord o first α n b → CodeWord o first α n c → b ≢ c → 5 ≤ differ o b c
