use Rattle.std.proofs.Common.{◌≡◌, ℕ, codes, sym, ap, ◌∙◌, subst, inl}
use Rattle.lines.specs.Lines.{meant, nonresidue}
use Rattle.prime_field.specs.Modular.{modular}
use Rattle.console.specs.Conversation.{prime_given, unit_on, unsealed, accepted, refused, Outcome, field_made, field_refused}
use Rattle.console.specs.Handling.{Handled}
use Rattle.console.specs.declared.faults.ShiftFault.TheVariants.{Field}
use Rattle.console.proofs.answers.answer_prime.Goals as goal

pub returns-in-Ok : goal.returns-in-Ok
returns-in-Ok c =
    let p = c.args.p in
    let kept : p ≡ c.new-in-Ok.result.field.modulus = sym (ap (λ f. f.modulus) c.new-in-Ok.ensures ∙ c.in-Ok.ensures.2) in
    subst (λ l. Handled (prime_given p) c.args.input.number (meant l) (unit_on 0 (modular c.new-in-Ok.result.field.modulus) unsealed) (accepted (codes "nonresidue"))) (sym c.in-Nonresidue.is)
    (inl (subst (λ (m : ℕ). Outcome (prime_given p) (nonresidue c.in-Nonresidue.r) (unit_on 0 (modular m) unsealed) (accepted (codes "nonresidue"))) kept (field_made c.in-Ok.ensures.0 c.in-Ok.ensures.1)))

pub returns-in-Err : goal.returns-in-Err
returns-in-Err c =
    subst (λ l. Handled (prime_given c.args.p) c.args.input.number (meant l) (prime_given c.args.p) (refused (Field c.in-Err.fault))) (sym c.in-Nonresidue.is)
    (inl (field_refused c.in-Err.fault c.in-Err.ensures))
