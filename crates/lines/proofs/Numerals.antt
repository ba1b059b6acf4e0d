-- Facts on the numerals of 32-bit numbers, and what `parse` reads of them.
use Rattle.std.proofs.Common.{◌≡◌, ℕ, zero, suc, ◌<◌, ◌⊎◌, List, length, get_or, Ok, Err, Result, sym, ap, ◌∙◌, subst, inl, inr, arith}
use Rattle.std.specs.Str.Iter.{LacksByte}
use Rattle.std.specs.Str.Parse.{digits_value, AllDigits, ParsesUnsigned}
use Rattle.std.specs.Result.{result_ok}
use Rattle.std.specs.Int.{IsInRange}
use Rattle.std.proofs.lemmas.Str.Parse.{IsNumeralModel, numerals_by_value, tells_digits, digit_at, parse_plain}
use Rattle.std.proofs.lemmas.Fmt.{decimal-digits_value, digits_decimal, first_decimal, decimal_nonempty, decimal_digit, decimal_injective, parse-decimal}
use Rattle.lines.specs.Numbers.{numeral, Fits32, Reads}

by_value : IsNumeralModel (AllDigits 10) (digits_value 10)
by_value = numerals_by_value (AllDigits 10) tells_digits

-- a byte that is no digit, such as a comma, stands in no numeral
pub numeral_lacks : (b v : ℕ) → (IsInRange 48 57 b → ⊥) → Fits32 v → LacksByte b (numeral v)
numeral_lacks b v n h k l e = n (subst (IsInRange 48 57) e (digit_at (numeral v) k (digits_decimal by_value v (omega arith)) l))

abbrev SignOrLeadingZero : List ℕ → Type 0
SignOrLeadingZero text = (get_or text 0 0 ≡ 43) ⊎ ((get_or text 0 0 ≡ 48) × (1 < length text))

-- a numeral has neither
pub plain : (v : ℕ) → Fits32 v → SignOrLeadingZero (numeral v) → ⊥
plain v h (inl sign) = numeral_lacks 43 v (λ i. omega arith) h 0 (decimal_nonempty v (omega arith)) sign
plain zero h (inr more) = omega (arith, ap length (decimal_digit 0 (omega arith)))
plain (suc v) h (inr more) = omega (arith, first_decimal (suc v) (omega arith) (omega arith))

pub numeral_injective : (u v : ℕ) → Fits32 u → Fits32 v → numeral u ≡ numeral v → u ≡ v
numeral_injective u v h k e = decimal_injective u v (omega arith) (omega arith) e

-- what `parse` answers for a text with neither
pub parsed : {E : Type 0} (text : List ℕ) (r : Result ℕ E) → ParsesUnsigned 32 10 text r → (SignOrLeadingZero text → ⊥) → Reads numeral Fits32 (λ v. v) text (result_ok r)
parsed {E} text (Ok v) h n =
    let p = parse_plain by_value {E = E} 32 text (Ok v) h (λ sign. n (inl sign)) in
    let lead : get_or text 0 0 ≡ 48 → length text ≡ 1 = λ zero. let m : 1 < length text → ⊥ = λ l. n (inr (zero, l)) in omega arith in
    (omega arith, sym (decimal-digits_value by_value text p.0.0 p.0.1 lead (omega arith)) ∙ ap numeral (sym p.1))
parsed {E} text (Err d) h n = λ v fits e.
    let q = parse-decimal 32 v text (Err d) fits (omega arith) e h in
    cc
