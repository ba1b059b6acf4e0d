-- Why a block is refused: for each case its number, its layer and when it is due.
use Rattle.std.specs.Prelude.{◌≡◌, ℕ, ◌-◌, ◌<◌, List, length, ◌≢◌, slice_index_or}
use Rattle.algebra.specs.Operations.{Ops, In}
use Rattle.algebra.specs.declared.faults.FieldFault.{FieldFault}
use Rattle.algebra.specs.declared.faults.FieldFault.TheVariants.{NotElement}
use Rattle.algebra.specs.declared.faults.Layer.{Layer}
use Rattle.algebra.specs.declared.faults.Layer.TheVariants.{Corrector}
use Rattle.code.specs.Blocks.{Elements, CodeWord₁, differ}
use Rattle.code.specs.declared.faults.CodeFault.{CodeFault}
use Rattle.code.specs.declared.faults.CodeFault.TheVariants.{Length, Symbol, NoCodeWord}

abbrev pub code_number : CodeFault → ℕ
code_number (Length m) = 11
code_number (Symbol k fault) = 12
code_number NoCodeWord = 13

abbrev pub code_layer : CodeFault → Layer
code_layer (Length m) = Corrector
code_layer (Symbol k fault) = Corrector
code_layer NoCodeWord = Corrector

-- k is the place, in a block of n symbols that begins with these, of the first of them that is no element
pub record FirstNonElement {E : Type 0} (o : Ops E) (n : ℕ) (symbols : List E) (k : ℕ) : Type 0 where
  pub index : ℕ
  pub below : index < length symbols
  pub here : (d : E) → In o (slice_index_or symbols index d) → ⊥
  pub before : (i : ℕ) (d : E) → i < index → In o (slice_index_or symbols i d)
  pub place : k ≡ n - 1 - index

-- Length: n symbols are due, and the block has m, another number
abbrev pub LengthDue : {E : Type 0} → ℕ → List E → ℕ → Type 0
LengthDue n block m = (m ≡ length block) × (length block ≢ n)

-- Symbol: of the symbols that have to be elements, the first that is none is at the place k
abbrev pub SymbolDue : {E : Type 0} → Ops E → ℕ → List E → List E → ℕ → FieldFault → Type 0
SymbolDue o n block symbols k fault = (length block ≡ n) × FirstNonElement o n symbols k × (fault ≡ NotElement)

-- the two refusals that come before any work: another length, or a symbol among those to be checked that is no element
abbrev pub Misshapen : {E : Type 0} → Ops E → ℕ → List E → List E → CodeFault → Type 0
Misshapen o n block symbols (Length m) = LengthDue n block m
Misshapen o n block symbols (Symbol k fault) = SymbolDue o n block symbols k fault
Misshapen o n block symbols NoCodeWord = ⊥

-- NoCodeWord: every code word differs from the block in more than two symbols
pub record NoCodeWordDue {E : Type 0} (o : Ops E) (α : E) (n : ℕ) (block : List E) : Type 0 where
  pub long : length block ≡ n
  pub inside : Elements o block
  pub far : (word : List E) → CodeWord₁ o α n word → 2 < differ o block word
