-- What the corrector leaves in a block, and what it refuses.
use Rattle.std.specs.Prelude.{◌≡◌, ℕ, ◌<◌, ◌≤◌, List, length, ◌≢◌}
use Rattle.algebra.specs.Operations.{Ops}
use Rattle.code.specs.Blocks.{Elements, CodeWord₁, differ}
use Rattle.code.specs.Refusals.{LengthDue, SymbolDue, NoCodeWordDue}
use Rattle.code.specs.declared.faults.CodeFault.{CodeFault}
use Rattle.code.specs.declared.faults.CodeFault.TheVariants.{Length, Symbol, NoCodeWord}

-- The block is now the one code word within two symbols of what it was, and `count` symbols were changed.
pub record Corrected {E : Type 0} (o : Ops E) (α : E) (n : ℕ) (before after : List E) (count : ℕ) : Type 0 where
  pub long : length before ≡ n
  pub inside : Elements o before
  pub word : CodeWord₁ o α n after
  pub near : differ o before after ≤ 2
  pub only : (other : List E) → CodeWord₁ o α n other → other ≢ after → 2 < differ o before other
  pub changed : count ≡ differ o before after

-- when the corrector refuses a block
abbrev pub RefusesCorrecting : {E : Type 0} → Ops E → E → ℕ → List E → CodeFault → Type 0
RefusesCorrecting o α n block (Length m) = LengthDue n block m
RefusesCorrecting o α n block (Symbol k fault) = SymbolDue o n block block k fault
RefusesCorrecting o α n block NoCodeWord = NoCodeWordDue o α n block

-- The block was refused, and is as it came.
pub record Uncorrected {E : Type 0} (o : Ops E) (α : E) (n : ℕ) (before after : List E) (fault : CodeFault) : Type 0 where
  pub kept : after ≡ before
  pub due : RefusesCorrecting o α n before fault
