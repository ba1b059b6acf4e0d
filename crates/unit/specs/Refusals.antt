-- What a unit refuses: for each case its number and its layer.
use Rattle.std.specs.Prelude.{ℕ}
use Rattle.algebra.specs.Refusals.{field_number, field_layer}
use Rattle.algebra.specs.declared.faults.Layer.{Layer}
use Rattle.algebra.specs.declared.faults.Layer.TheVariants.{Unit}
use Rattle.code.specs.Refusals.{code_number, code_layer}
use Rattle.unit.specs.declared.faults.UnitFault.{UnitFault}
use Rattle.unit.specs.declared.faults.UnitFault.TheVariants.{Field, BlockLength, Generator, WrongState, BlockCount, OutOfTurn, Block}

-- a refused step has the number of the field's fault, and a refused block that of the corrector's
abbrev pub unit_number : UnitFault → ℕ
unit_number (Field fault) = field_number fault
unit_number BlockLength = 4
unit_number Generator = 5
unit_number (WrongState state) = 8
unit_number (BlockCount m) = 9
unit_number (OutOfTurn k) = 10
unit_number (Block k fault) = code_number fault

abbrev pub unit_layer : UnitFault → Layer
unit_layer (Field fault) = field_layer fault
unit_layer BlockLength = Unit
unit_layer Generator = Unit
unit_layer (WrongState state) = Unit
unit_layer (BlockCount m) = Unit
unit_layer (OutOfTurn k) = Unit
unit_layer (Block k fault) = code_layer fault
