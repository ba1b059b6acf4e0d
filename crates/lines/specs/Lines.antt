-- The lines of input: what each one says, and how it is written.
use Rattle.std.specs.Prelude.{◌≡◌, ℕ, List, ◌++◌, vec_items, codes}
use Rattle.lines.specs.Numbers.{numeral, spelled, Fits32, NumberList}
use Rattle.lines.specs.declared.Line.{Line}
use Rattle.lines.specs.declared.Line.TheVariants.{Prime, Nonresidue, Step, Alpha, Length, Find}

-- what a line says: a key with its value, a number or the numbers of a field element
pub data Content : Type 0 where
  prime : ℕ → Content
  nonresidue : ℕ → Content
  step : List ℕ → Content
  alpha : List ℕ → Content
  len : ℕ → Content
  find : List ℕ → Content

-- the content of a line as the program holds it
abbrev pub meant : Line → Content
meant (Prime v) = prime v
meant (Nonresidue v) = nonresidue v
meant (Step vs) = step (vec_items vs)
meant (Alpha vs) = alpha (vec_items vs)
meant (Length v) = len v
meant (Find vs) = find (vec_items vs)

-- the bytes of the line, without the end of line
abbrev pub written : Content → List ℕ
written (prime v) = codes "prime=" ++ numeral v
written (nonresidue v) = codes "nonresidue=" ++ numeral v
written (step vs) = codes "step=" ++ spelled vs
written (alpha vs) = codes "alpha=" ++ spelled vs
written (len v) = codes "length=" ++ numeral v
written (find vs) = codes "find=" ++ spelled vs

-- each number has at most 32 bits, and an element has at least one number
abbrev pub Proper : Content → Type 0
Proper (prime v) = Fits32 v
Proper (nonresidue v) = Fits32 v
Proper (step vs) = NumberList vs
Proper (alpha vs) = NumberList vs
Proper (len v) = Fits32 v
Proper (find vs) = NumberList vs

-- no two proper lines are written alike
abbrev pub WrittenOnce : Type 0
WrittenOnce = (s t : Content) → Proper s → Proper t → written s ≡ written t → s ≡ t
