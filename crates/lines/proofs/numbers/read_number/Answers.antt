-- A numeral passes both tests, and what `parse` then reads is the number.
use Rattle.std.proofs.Common.{◌≡◌, Ok, Err, Some, Result, rules, sym, refl, subst}
use Rattle.std.specs.Result.{MatchResult, result_ok}
use Rattle.std.specs.Str.Parse.{ParsesUnsigned}
use Rattle.std.proofs.lemmas.Fmt.{IsAscii-decimal}
use Rattle.std.proofs.lemmas.Str.{IsUtf8-from_ascii}
use Rattle.lines.specs.Numbers.{numeral, Fits32, Reads}
use Rattle.lines.proofs.Numerals.{plain, parsed}
use Rattle.lines.proofs.numbers.read_number.Goals as goal

-- what is known of a value is known where `ok` keeps it
at_some : {T E : Type 0} (r : Result T E) (P : T → Type 0) (Q : E → Type 0) (x : T) → Some x ≡ result_ok r → MatchResult r P Q → P x
at_some (Ok y) P Q x e m = subst P (cc) m
at_some (Err d) P Q x e m = cc

pub returns-then-has_sign_or_leading_zero : goal.returns-then-has_sign_or_leading_zero
returns-then-has_sign_or_leading_zero c v h e = plain v h (rw e at (c.if-has_sign_or_leading_zero.ensures.0 refl))

pub returns-in_err-ok : goal.returns-in_err-ok
returns-in_err-ok c = rw c.from_residual.ensures (search (rules, IsUtf8-from_ascii, IsAscii-decimal))

pub returns : goal.returns
returns c =
    let decoded = at_some c.from_utf8.result _ _ _ c.in_ok-ok.ensures.value c.from_utf8.ensures.cases in
    let reads = subst (λ t. ParsesUnsigned 32 10 t c.parse.result) decoded.0 c.parse.ensures.value.0 in
    subst (Reads numeral Fits32 (λ v. v) c.args.text.now) (sym c.ok-2.ensures.value)
    (parsed c.args.text.now c.parse.result reads (λ p. let q = c.if-has_sign_or_leading_zero.ensures.1 p in cc))
