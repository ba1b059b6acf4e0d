-- What the writer leaves in a block, and what it refuses.
use Rattle.std.specs.Prelude.{◌≡◌, ℕ, List, length}
use Rattle.algebra.specs.Operations.{Ops}
use Rattle.code.specs.Blocks.{CodeWord₁, data_of}
use Rattle.code.specs.Refusals.{Misshapen}
use Rattle.code.specs.declared.faults.CodeFault.{CodeFault}

-- The data stayed, the block is a code word, and no other checks would make it one.
pub record Written {E : Type 0} (o : Ops E) (α : E) (n : ℕ) (before after : List E) : Type 0 where
  pub long : length before ≡ n
  pub kept : data_of n after ≡ data_of n before
  pub word : CodeWord₁ o α n after
  pub only : (other : List E) → CodeWord₁ o α n other → data_of n other ≡ data_of n before → other ≡ after

-- The block was refused, and every place is as it was. Of its symbols, only the data have to be elements.
pub record Unwritten {E : Type 0} (o : Ops E) (n : ℕ) (before after : List E) (fault : CodeFault) : Type 0 where
  pub kept : after ≡ before
  pub due : Misshapen o n before (data_of n before) fault
