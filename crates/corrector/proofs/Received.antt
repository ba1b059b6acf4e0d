-- What the corrector has: a block of a code's length, of elements, with its sums.
use Rattle.std.proofs.Common.{◌≡◌, ℕ, ◌<◌, List, length, sym, subst, arith}
use Rattle.algebra.specs.Operations.{Ops}
use Rattle.algebra.specs.Laws.{Arithmetic}
use Rattle.code.specs.Blocks.{Elements}
use Rattle.code.specs.Generator.{Generates}
use Rattle.corrector.specs.Errors.{SumsOf, Inside}
use Rattle.corrector.specs.declared.syndromes.Syndromes.{Syndromes}

pub record Received {E : Type 0} (o : Ops E) (α : E) (n : ℕ) (block : List E) (s : Syndromes E) : Type 0 where
  pub laws : Arithmetic o
  pub generator : Generates o α n
  pub inside : Inside o s
  pub long : length block ≡ n
  pub elements : Elements o block
  pub sums : SumsOf o α block s

module _ {E : Type 0} {o : Ops E} {α : E} {n : ℕ} {block : List E} {s : Syndromes E} (r : Received o α n block s) where
  pub generates_block : Generates o α (length block)
  generates_block = subst (Generates o α) (sym r.long) r.generator

  pub of_block : (k : ℕ) → k < n → k < length block
  of_block k h = omega (arith, r.long)

  pub of_code : (k : ℕ) → k < length block → k < n
  of_code k h = omega (arith, r.long)
