-- How numbers and lists of numbers are written in decimal, and what it is to read a text back.
use Rattle.std.specs.Prelude.{◌≡◌, ℕ, ◌^◌, ◌<◌, List, [], ◌∷◌, ◌++◌, length, Some, None, decimal, Option, ◌≢◌}
use Rattle.std.specs.List.{flat_map, AllByRecursion}

-- the decimal digits of n, most significant first; no leading zero, but 0 itself is "0"
abbrev pub numeral : ℕ → List ℕ
numeral n = decimal n

abbrev pub Fits32 : ℕ → Type 0
Fits32 n = n < 2 ^ 32

-- the numerals in order, with a comma (byte 44) between each two
abbrev pub spelled : List ℕ → List ℕ
spelled [] = []
spelled (v ∷ vs) = numeral v ++ flat_map (λ w. 44 ∷ numeral w) vs

-- one number or more, each of at most 32 bits
abbrev pub NumberList : List ℕ → Type 0
NumberList vs = (0 < length vs) × AllByRecursion Fits32 vs

-- r is the answer of an exact reader of text: Some y means something proper, whose writing the text is;
-- None says that the text is the writing of nothing proper
abbrev pub Reads : {X Y : Type 0} → (X → List ℕ) → (X → Type 0) → (Y → X) → List ℕ → Option Y → Type 0
Reads written proper meant text None = (x : _) → proper x → text ≢ written x
Reads written proper meant text (Some y) = proper (meant y) × (text ≡ written (meant y))
