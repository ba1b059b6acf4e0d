-- What the program refuses: for each case its number and its layer. A fault from below keeps its own.
use Rattle.std.specs.Prelude.{ℕ}
use Rattle.algebra.specs.Refusals.{field_number, field_layer}
use Rattle.algebra.specs.declared.faults.Layer.{Layer}
use Rattle.algebra.specs.declared.faults.Layer.TheVariants.{Unit as UnitLayer}
use Rattle.unit.specs.Refusals.{unit_number, unit_layer}
use Rattle.console.specs.declared.faults.ShiftFault.{ShiftFault}
use Rattle.console.specs.declared.faults.ShiftFault.TheVariants.{Unreadable, Field, Unit}

abbrev pub shift_number : ShiftFault → ℕ
shift_number (Unreadable k) = 14
shift_number (Field e) = field_number e
shift_number (Unit e) = unit_number e

abbrev pub shift_layer : ShiftFault → Layer
shift_layer (Unreadable k) = UnitLayer
shift_layer (Field e) = field_layer e
shift_layer (Unit e) = unit_layer e
