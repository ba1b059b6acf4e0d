-- Each turn keeps Horner's form, and at the end it is the sum.
use Rattle.std.proofs.Common.{◌≡◌, sym, ap, ◌∙◌}
use Rattle.std.proofs.lemmas.List.{at_drop_all}
use Rattle.code.proofs.Polynomials.{Value, Horner, sum_value, horner_none, horner_more, horner_all}
use Rattle.code.proofs.syndromes.syndrome.Goals as goal

pub loop-symbol-init : goal.loop-symbol-init
loop-symbol-init g c =
    let l = (g.met.F.Field.laws c.args.field.now).arithmetic in
    (c.zero-sum.ensures.inside, rw c.zero-sum.ensures.value (horner_none l c.args.x c.args.block.now c.requires.point c.requires.elements))

pub loop-symbol-preserved : goal.loop-symbol-preserved
loop-symbol-preserved g c =
    let o = g.F.Field.ops c.args.field.now in
    let l = (g.met.F.Field.laws c.args.field.now).arithmetic in
    let r : c.add-sum.result ≡ o.add (o.mul c.loop-symbol.sum c.args.x) c.symbol-item.result = cc in (
      c.add-sum.ensures.inside,
      horner_more l c.args.x c.loop-symbol.sum c.symbol-item.result c.add-sum.result (Value o c.args.x c.args.block.now) c.args.block.now
          c.loop-symbol.symbol-index c.loop-symbol-test.true c.symbol-item.is c.requires.point c.loop-symbol.invariant.0 c.requires.elements r c.loop-symbol.invariant.1,
    )

pub returns-clause-value : goal.returns-clause-value
returns-clause-value g c = λ α j hα at_x.
    let o = g.F.Field.ops c.args.field.now in
    let l = (g.met.F.Field.laws c.args.field.now).arithmetic in
    let b = c.args.block.now in
    sym (horner_all l c.args.x _ c.loop-symbol.invariant.0)
    ∙ sym (at_drop_all (Horner o c.args.x c.loop-symbol.sum) b c.loop-symbol.symbol-index c.loop-symbol-test.false)
    ∙ c.loop-symbol.invariant.1 ∙ ap (λ x. Value o x b) at_x ∙ sym (sum_value l α j b hα)
