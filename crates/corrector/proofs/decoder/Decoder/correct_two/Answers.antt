-- Each refusal rules out two wrong symbols, and what is left is a code word.
use Rattle.std.proofs.Common.{◌∙◌, refl}
use Rattle.std.proofs.lemmas.Result.{err_from_is_err_and}
use Rattle.corrector.proofs.Amendments.{amended_in}
use Rattle.corrector.proofs.Received.{Received, of_block}
use Rattle.corrector.proofs.Soundness.{two_corrects}
use Rattle.corrector.proofs.Completeness.{no_pair, no_double, no_left, no_right}
use Rattle.corrector.proofs.decoder.Decoder.correct_two.Given as over
use Rattle.corrector.proofs.decoder.Decoder.correct_two.Goals as goal
use Rattle.corrector.proofs.decoder.Decoder.correct_two.Goals.{Start}

given : (g : over.Over) (c : goal.Start g) → Received (g.F.Field.ops c.args.self.now.code.now.field.now) c.args.self.now.code.now.alpha
    c.args.self.now.code.now.length c.args.block.now c.args.self.now.sums
given g c =
    let d = c.args.self.now in
    record {
      laws = (g.met.F.Field.laws d.code.now.field.now).arithmetic;
      generator = d.code.now.generator;
      inside = d.inside;
      long = c.requires.long;
      elements = c.requires.elements;
      sums = c.requires.sums;
    }

pub returns-in_err-x : goal.returns-in_err-x
returns-in_err-x g c =
    let r = given g (goal.at.returns-in_err-x g c).Start in
    let p = err_from_is_err_and c.from_residual.result c.from_residual.ensures.1 in
    rw (p.1, p.2) (record { kept = refl; none = no_pair r c.in_err-x.ensures.none; told = c.in_err-x.ensures.told })

pub returns-then-equal : goal.returns-then-equal
returns-then-equal g c =
    let r = given g (goal.at.returns-then-equal g c).Start in
    record { kept = refl; none = no_double r _ _ c.in_ok-x.ensures (c.if-equal.ensures.tells.0 refl); told = refl }

pub returns-in_default : goal.returns-in_default
returns-in_default g c =
    let r = given g (goal.at.returns-in_default g c).Start in
    record { kept = refl; none = no_left r _ _ c.in_ok-x.ensures c.in_default.ensures; told = refl }

pub returns-in_default-find_place : goal.returns-in_default-find_place
returns-in_default-find_place g c =
    let r = given g (goal.at.returns-in_default-find_place g c).Start in
    record { kept = refl; none = no_right r _ _ c.in_ok-x.ensures c.in_default-find_place.ensures; told = refl }

pub amend-requires-2-clause-elements : goal.amend-requires-2-clause-elements
amend-requires-2-clause-elements g c =
    let r = given g (goal.at.amend-requires-2-clause-elements g c).Start in
    rw c.amend.ensures (amended_in r.laws c.args.block.now _ _ (of_block r c.in-Some.i c.in-Some.ensures.below) r.elements c.error_magnitude.ensures.inside)

pub returns : goal.returns
returns g c =
    let r = given g (goal.at.returns g c).Start in
    rw (c.amend-2.ensures, c.amend.ensures, c.error_magnitude.ensures.value, c.error_magnitude-2.ensures.value)
    (two_corrects r _ _ c.in_ok-x.ensures (λ z. c.requires.nonzero (c.requires.value ∙ z)) (λ q. cc (c.if-equal.ensures.tells.1 q))
    c.in-Some.i c.in-Some-find_place.k c.in-Some.ensures c.in-Some-find_place.ensures)
