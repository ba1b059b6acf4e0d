-- The text is the key and then what is read as the value, or does not begin with the key.
use Rattle.std.proofs.Common.{◌≡◌, List, ℕ, ◌++◌, IfOk, Some, None, Ok, Err, Option, Result, sym, ap, ◌∙◌}
use Rattle.std.proofs.lemmas.Bool.Decides.{Decides-eqb}
use Rattle.std.proofs.lemmas.List.{append_cancel_left}
use Rattle.std.proofs.lemmas.Slice.Eq.{strip_prefix_is}
use Rattle.lines.specs.Numbers.{Reads}
use Rattle.lines.proofs.numbers.value_after.Goals as goal

after_key : {X Y E : Type 0} (w : X → List ℕ) (proper : X → Type 0) (m : Y → X) (text key value : List ℕ) (r : Result (Option Y) E) → text ≡ key ++ value → IfOk r (λ o. Reads w proper m value o) → IfOk r (λ o. Reads (λ v. key ++ w v) proper m text o)
after_key w proper m text key value (Ok None) e h = λ v g q. h v g (append_cancel_left key value (w v) (sym e ∙ q))
after_key w proper m text key value (Ok (Some y)) e h = (h.0, e ∙ ap (λ l. key ++ l) h.1)
after_key w proper m text key value (Err d) e h = tt

pub returns-in-Some : goal.returns-in-Some
returns-in-Some g c =
    after_key g.V.Value.written g.V.Value.proper g.V.Value.meant c.args.text.now c.args.key.now c.in-Some.value.now c.read.result
    (strip_prefix_is Decides-eqb c.args.text.now c.args.key.now (Some c.in-Some.value) c.in-Some.ensures.cases) c.read.ensures

pub returns-in-None : goal.returns-in-None
returns-in-None g c x p e = strip_prefix_is Decides-eqb c.args.text.now c.args.key.now None c.in-None.ensures.cases (g.V.Value.written x) e
