-- What a sealed unit makes of a block, by its field, generator and length.
use Rattle.std.specs.Prelude.{ℕ, List}
use Rattle.algebra.specs.declared.Field.{Ghosts}
use Rattle.code.specs.declared.faults.CodeFault.{CodeFault}
use Rattle.corrector.specs.Correction.{Corrected, Uncorrected}
use Rattle.writer.specs.Writing.{Written, Unwritten}
use Rattle.unit.specs.declared.units.Sealed.{Sealed}

-- a block that was written: its data stayed, and it is a code word
abbrev pub WrittenBy : {F E : Type 0} {meaning : Ghosts F E} → Sealed F E meaning → List E → List E → Type 0
WrittenBy {meaning = m} u before after = Written (m.ops u.field) u.alpha u.length before after

-- a block that writing refused, with the fault: it is as it came
abbrev pub UnwrittenBy : {F E : Type 0} {meaning : Ghosts F E} → Sealed F E meaning → List E → List E → CodeFault → Type 0
UnwrittenBy {meaning = m} u before after = Unwritten (m.ops u.field) u.length before after

-- a block that was corrected in c symbols: it is the one code word near the block that came
abbrev pub CorrectedBy : {F E : Type 0} {meaning : Ghosts F E} → Sealed F E meaning → List E → List E → ℕ → Type 0
CorrectedBy {meaning = m} u before after c = Corrected (m.ops u.field) u.alpha u.length before after c

-- a block that the corrector refused, with the fault: it is as it came
abbrev pub UncorrectedBy : {F E : Type 0} {meaning : Ghosts F E} → Sealed F E meaning → List E → List E → CodeFault → Type 0
UncorrectedBy {meaning = m} u before after = Uncorrected (m.ops u.field) u.alpha u.length before after
