-- Each refusal rules out one wrong symbol, and what is left is a code word.
use Rattle.std.proofs.Common.{◌≡◌, sym, refl, ◌∙◌}
use Rattle.corrector.proofs.Received.{Received}
use Rattle.corrector.proofs.Soundness.{one_corrects}
use Rattle.corrector.proofs.Completeness.{no_first, no_ratio, no_place}
use Rattle.corrector.proofs.decoder.Decoder.correct_one.Given as over
use Rattle.corrector.proofs.decoder.Decoder.correct_one.Goals as goal
use Rattle.corrector.proofs.decoder.Decoder.correct_one.Goals.{Start}

given : (g : over.Over) (c : goal.Start g) → Received (g.F.Field.ops c.args.self.now.code.now.field.now) c.args.self.now.code.now.alpha
    c.args.self.now.code.now.length c.args.block.now c.args.self.now.sums
given g c =
    let d = c.args.self.now in
    record {
      laws = (g.met.F.Field.laws d.code.now.field.now).arithmetic;
      generator = d.code.now.generator;
      inside = d.inside;
      long = c.requires.long;
      elements = c.requires.elements;
      sums = c.requires.sums;
    }

pub returns-then-equal : goal.returns-then-equal
returns-then-equal g c =
    let r = given g (goal.at.returns-then-equal g c).Start in
    record { kept = refl; none = no_first r (c.if-equal.ensures.tells.0 refl ∙ c.zero.ensures.value); told = refl }

pub returns-in_default : goal.returns-in_default
returns-in_default g c =
    let r = given g (goal.at.returns-in_default g c).Start in
    record { kept = refl; none = no_ratio r c.in_default.ensures; told = refl }

pub returns-in_default-find_place : goal.returns-in_default-find_place
returns-in_default-find_place g c =
    let r = given g (goal.at.returns-in_default-find_place g c).Start in
    record { kept = refl; none = no_place r c.in-Some.x c.in-Some.ensures c.in_default-find_place.ensures; told = refl }

pub returns : goal.returns
returns g c =
    let d = c.args.self.now in
    let o = g.F.Field.ops d.code.now.field.now in
    let r = given g (goal.at.returns g c).Start in
    let nonzero : d.sums.s1 ≡ o.zero → ⊥ = λ z. cc (c.if-equal.ensures.tells.1 (z ∙ sym c.zero.ensures.value)) in
    rw (c.amend.ensures, c.divide.ensures.value)
    (one_corrects r c.in-Some.x c.in-Some-find_place.k c.in-Some.ensures nonzero c.in-Some-find_place.ensures)
