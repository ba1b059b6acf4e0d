-- Each part between commas is a numeral, or the text spells no list.
use Rattle.std.proofs.Common.{eqb, ◌∙◌, vec_items, sym, rules}
use Rattle.std.proofs.lemmas.Iterator.Consumers.{YieldsList-turn, YieldsList-end}
use Rattle.std.proofs.lemmas.Iterator.Splits.{YieldsList-from_slice_split}
use Rattle.lines.proofs.Spelled.{bad_part, read_all}
use Rattle.lines.proofs.numbers.VecU32Value.read.Goals as goal

pub returns-in_default : goal.returns-in_default
returns-in_default c =
    let turn = YieldsList-turn (YieldsList-from_slice_split _ (λ b. eqb b 44) c.args.text.now (cc) (cc) (cc) (λ x b q k. search rules)) c.loop-part.yielded _ c.loop-part.yielded_by _ _ c.in-Some.part c.in-Some.is c.next.ensures.steps in
    bad_part c.args.text.now c.in-Some.part.now _ turn c.in_default.ensures

pub returns : goal.returns
returns c =
    let all = YieldsList-end (YieldsList-from_slice_split _ (λ b. eqb b 44) c.args.text.now (cc) (cc) (cc) (λ x b q k. search rules)) c.loop-part.yielded _ c.loop-part.yielded_by _ _ c.in-None.is c.next.ensures.steps in
    read_all c.args.text.now (vec_items c.loop-part.values) c.loop-part.invariant.fit (sym c.loop-part.invariant.read ∙ all.0)
