-- Worked values, gathered in one list.
use Rattle.std.specs.Prelude.{ℕ, List, [], ◌∷◌, Some, None, Option}
use Rattle.std.specs.List.{AllByRecursion}
use Rattle.algebra.specs.Roots.{AnswersRoot}
use Rattle.prime_field.specs.Modular.{modular}
use Rattle.quadratic.specs.Pairs.{pairs}
use Rattle.code.specs.Refusals.{NoCodeWordDue}
use Rattle.writer.specs.Writing.{Written}

-- `root p a r`: modulo p the root of a is r, or a has none
-- `pair_root p β a r`: the same of a pair a of numbers modulo p, where y² = β
-- `encodes α n block`: modulo 929 the writer leaves this block for its data: a code word, and the only one with them
-- `refuses α n block`: modulo 929 every code word differs from the block in more than two symbols
pub data Value : Type 0 where
  root : ℕ → ℕ → Option ℕ → Value
  pair_root : ℕ → ℕ → ℕ × ℕ → Option (ℕ × ℕ) → Value
  encodes : ℕ → ℕ → List ℕ → Value
  refuses : ℕ → ℕ → List ℕ → Value

abbrev pub Holds : Value → Type 0
Holds (root p a r) = AnswersRoot (modular p) a r
Holds (pair_root p β a r) = AnswersRoot (pairs (modular p) β) a r
Holds (encodes α n block) = Written (modular 929) α n block block
Holds (refuses α n block) = NoCodeWordDue (modular 929) α n block

abbrev pub worked_values : List Value
worked_values =
    root 7 2 (Some 4)
    ∷ root 23 2 (Some 18)
    ∷ root 29 5 (Some 18)
    ∷ root 929 928 (Some 324)
    ∷ root 929 3 None
    ∷ pair_root 3 2 (2, 0) (Some (0, 2))
    ∷ pair_root 3 2 (0, 1) (Some (2, 1))
    ∷ pair_root 3 2 (1, 1) None
    ∷ pair_root 7 3 (4, 2) (Some (6, 6))
    ∷ encodes 3 5 (1 ∷ 809 ∷ 723 ∷ 568 ∷ 522 ∷ [])
    ∷ encodes 3 5 (2 ∷ 689 ∷ 517 ∷ 207 ∷ 115 ∷ [])
    ∷ refuses 3 5 (1 ∷ 1 ∷ 1 ∷ 1 ∷ 1 ∷ [])
    ∷ []

abbrev pub WorkedValuesHold : Type 0
WorkedValuesHold = AllByRecursion Holds worked_values
