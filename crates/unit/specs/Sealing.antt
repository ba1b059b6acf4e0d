-- Which generators and block lengths a unit may be sealed with.
use Rattle.std.specs.Prelude.{ℕ, ◌≤◌}
use Rattle.algebra.specs.Operations.{Ops}
use Rattle.code.specs.Generator.{Generates}
use Rattle.unit.specs.declared.faults.UnitFault.{UnitFault}
use Rattle.unit.specs.declared.faults.UnitFault.TheVariants.{Field, BlockLength, Generator, WrongState, BlockCount, OutOfTurn, Block}

-- a block has 5 to 1024 symbols
abbrev pub AllowedLength : ℕ → Type 0
AllowedLength n = (5 ≤ n) × (n ≤ 1024)

-- α and n may be sealed
abbrev pub Allowed : {E : Type 0} → Ops E → E → ℕ → Type 0
Allowed o α n = AllowedLength n × Generates o α n

-- why sealing with α and n is refused: the length is looked at first
abbrev pub RefusesSealing : {E : Type 0} → Ops E → E → ℕ → UnitFault → Type 0
RefusesSealing o α n BlockLength = ¬ AllowedLength n
RefusesSealing o α n Generator = AllowedLength n × ¬ Generates o α n
RefusesSealing o α n (Field fault) = ⊥
RefusesSealing o α n (WrongState state) = ⊥
RefusesSealing o α n (BlockCount m) = ⊥
RefusesSealing o α n (OutOfTurn k) = ⊥
RefusesSealing o α n (Block k fault) = ⊥
