use Rattle.std.proofs.Common.{◌≡◌, ℕ, true, false, codes, sym, refl, subst, inl, arith}
use Rattle.algebra.specs.declared.faults.FieldFault.TheVariants.{UnlistedModulus}
use Rattle.lines.specs.Lines.{meant}
use Rattle.console.specs.Conversation.{begun, prime_given, accepted, refused, prime_listed, prime_unlisted}
use Rattle.console.specs.Handling.{Handled}
use Rattle.console.specs.declared.faults.ShiftFault.TheVariants.{Field}
use Rattle.console.proofs.answers.answer_start.Goals as goal

pub returns-then-not-is_listed : goal.returns-then-not-is_listed
returns-then-not-is_listed c =
    subst (λ l. Handled begun c.args.input.number (meant l) begun (refused (Field UnlistedModulus))) (sym c.in-Prime.is)
    (inl (prime_unlisted (λ l. let yes : false ≡ true = c.if-not-is_listed.ensures.1 l in let z : ◌≡◌ {A = ℕ} 0 1 = cc in omega arith)))

pub returns : goal.returns
returns c =
    subst (λ l. Handled begun c.args.input.number (meant l) (prime_given c.in-Prime.p) (accepted (codes "prime"))) (sym c.in-Prime.is)
    (inl (prime_listed (c.if-not-is_listed.ensures.0 refl)))
