-- How many numbers an element has. An `impl` names these proofs; no contract cites them.
use Rattle.std.specs.Prelude.{◌≡◌, ℕ, ◌*◌, List, ◌++◌, length}
use Rattle.std.proofs.Common.{◌∙◌, arith}
use Rattle.std.proofs.lemmas.List.{length-append}

-- a pair has the numbers of both halves
pub halves_long : (w : ℕ) (low high : List ℕ) → length low ≡ w → length high ≡ w → length (low ++ high) ≡ 2 * w
halves_long w low high p q = length-append low high ∙ omega arith
