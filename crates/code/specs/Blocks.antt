-- Blocks of symbols in sending order, their sums, code words, and how far two blocks differ.
use Rattle.std.specs.Prelude.{◌≡◌, ℕ, suc, ◌+◌, ◌-◌, ◌*◌, ◌<◌, cond, List, [], ◌∷◌, length, take}
use Rattle.std.specs.List.{AllByRecursion}
use Rattle.algebra.specs.Operations.{Ops, In}
use Rattle.algebra.specs.Powers.{power}

-- every symbol is an element
abbrev pub Elements : {E : Type 0} → Ops E → List E → Type 0
Elements o block = AllByRecursion (In o) block

-- Sⱼ: each symbol times α^(j·place), added up. The place of a symbol is the number of symbols sent after it.
abbrev pub Sum : {E : Type 0} → Ops E → E → ℕ → List E → E
Sum o α j [] = o.zero
Sum o α j (symbol ∷ later) = o.add (o.mul symbol (power o α (j * length later))) (Sum o α j later)

-- n elements, of which the four sums from the first exponent on are zero
pub record CodeWord {E : Type 0} (o : Ops E) (first : ℕ) (α : E) (n : ℕ) (block : List E) : Type 0 where
  pub long : length block ≡ n
  pub inside : Elements o block
  pub zeros : (i : ℕ) → i < 4 → Sum o α (first + i) block ≡ o.zero

-- the code words in use: S₁ to S₄ are zero
abbrev pub CodeWord₁ : {E : Type 0} → Ops E → E → ℕ → List E → Type 0
CodeWord₁ o α n block = CodeWord o 1 α n block

-- the symbols before the four checks
abbrev pub data_of : {E : Type 0} → ℕ → List E → List E
data_of n block = take (n - 4) block

-- the number of places where two blocks of one length differ
abbrev pub differ : {E : Type 0} → Ops E → List E → List E → ℕ
differ o [] c = 0
differ o (x ∷ b) [] = 0
differ o (x ∷ b) (y ∷ c) = cond (o.same x y) (differ o b c) (suc (differ o b c))
