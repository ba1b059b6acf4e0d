-- Writing a block, damaging it, and correcting it.
use Rattle.std.specs.Prelude.{◌≡◌, ℕ, ◌-◌, ◌<◌, List, length, slice_set}
use Rattle.algebra.specs.Operations.{Ops, In}
use Rattle.code.specs.Blocks.{differ}
use Rattle.writer.specs.Writing.{Written}
use Rattle.corrector.specs.declared.restoration.Damage.{Damage}

-- the symbol at its place turned into another
abbrev pub damaged : {E : Type 0} → List E → Damage E → List E
damaged block d = slice_set block (length block - 1 - d.place) d.symbol

-- the place is one of a block of n symbols, and what comes there is an element
pub record Admissible {E : Type 0} (o : Ops E) (n : ℕ) (d : Damage E) : Type 0 where
  pub below : d.place < n
  pub inside : In o d.symbol

-- The block is what the writer alone would have left, and `count` is the number of symbols that were damaged.
pub record Restored {E : Type 0} (o : Ops E) (α : E) (n : ℕ) (first second : Damage E) (before after : List E) (count : ℕ) : Type 0 where
  pub written : Written o α n before after
  pub counted : count ≡ differ o after (damaged (damaged after first) second)
