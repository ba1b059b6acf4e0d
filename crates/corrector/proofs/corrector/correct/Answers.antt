-- Each way through the corrector ends in its contract.
use Rattle.std.proofs.Common.{◌≡◌, refl, sym, ◌∙◌, subst, arith}
use Rattle.std.proofs.lemmas.List.{take_all}
use Rattle.code.specs.Blocks.{Elements}
use Rattle.corrector.specs.Errors.{AllZero, det}
use Rattle.corrector.proofs.Received.{Received}
use Rattle.corrector.proofs.Soundness.{zero_corrects}
use Rattle.corrector.proofs.Outcomes.{corrected, after_one, after_two}
use Rattle.corrector.proofs.corrector.correct.Given as over
use Rattle.corrector.proofs.corrector.correct.Goals as goal
use Rattle.corrector.proofs.corrector.correct.Goals.{After-new-decoder}

received : (g : over.Over) (c : goal.After-new-decoder g) → Received (g.F.Field.ops c.args.code.now.field.now) c.args.code.now.alpha
    c.args.code.now.length c.args.block.now c.new-decoder.result.sums
received g c =
    let code = c.args.code.now in
    let shape = c.in_ok-check_shape.ensures in
    record {
      laws = (g.met.F.Field.laws code.field.now).arithmetic;
      generator = code.generator;
      inside = rw c.new-decoder.ensures.code at c.new-decoder.result.inside;
      long = shape.0;
      elements = subst (Elements (g.F.Field.ops code.field.now)) (take_all code.length c.args.block.now (omega (arith, shape.0))) shape.1;
      sums = c.new-decoder.ensures.sums;
    }

pub returns-then-all_zero : goal.returns-then-all_zero
returns-then-all_zero g c =
    let r = received g (goal.at.returns-then-all_zero g c).After-new-decoder in
    let zero = rw c.new-decoder.ensures.code at (c.if-all_zero.ensures.0 refl) in
    corrected r c.args.block.now 0 (zero_corrects r zero)

pub returns-then-equal : goal.returns-then-equal
returns-then-equal g c =
    let r = received g (goal.at.returns-then-equal g c).After-new-decoder in
    let o = g.F.Field.ops c.args.code.now.field.now in
    let e = c.new-decoder.ensures.code in
    let nonzero : AllZero o c.new-decoder.result.sums → ⊥ = λ z. cc (c.if-all_zero.ensures.1 (rw e z)) in
    let determinant = rw e at c.determinant-determinant.ensures.value in
    after_one r nonzero (sym determinant ∙ c.if-equal.ensures.tells.0 refl ∙ c.zero.ensures.value) _ _ (rw e at c.correct_one.ensures)

pub returns-else-equal : goal.returns-else-equal
returns-else-equal g c =
    let r = received g (goal.at.returns-else-equal g c).After-new-decoder in
    let o = g.F.Field.ops c.args.code.now.field.now in
    let e = c.new-decoder.ensures.code in
    let s = c.new-decoder.result.sums in
    let nonzero : AllZero o s → ⊥ = λ z. cc (c.if-all_zero.ensures.1 (rw e z)) in
    let determinant = rw e at c.determinant-determinant.ensures.value in
    let regular : det o s ≡ o.zero → ⊥ = λ z. cc (c.if-equal.ensures.tells.1 (determinant ∙ z ∙ sym c.zero.ensures.value)) in
    after_two r nonzero regular _ _ (rw e at c.correct_two.ensures)
