-- The quotient of the first two sums is a ratio of them.
use Rattle.std.proofs.Common.{sym, ap, ◌∙◌, rules}
use Rattle.corrector.proofs.Quotients.{quotient_times}
use Rattle.corrector.proofs.decoder.Decoder.common_ratio.Goals as goal

pub returns-then-equal-2 : goal.returns-then-equal-2
returns-then-equal-2 g c =
    let d = c.args.self.now in
    let o = g.F.Field.ops d.code.now.field.now in
    let l = (g.met.F.Field.laws d.code.now.field.now).arithmetic in
    let s = d.sums in
    record {
      inside = c.divide-x.ensures.inside;
      two = quotient_times l s.s2 s.s1 d.inside.two d.inside.one c.requires ∙ ap (λ y. o.mul y s.s1) (sym c.divide-x.ensures.value);
      three = search rules;
      four = search rules;
    }
