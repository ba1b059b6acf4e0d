-- Each turn keeps the dividend at every root, and at the end it is the remainder.
use Rattle.std.proofs.Common.{sym, ap, ◌∙◌}
use Rattle.std.proofs.lemmas.List.{at_drop_all}
use Rattle.algebra.specs.Powers.{power}
use Rattle.code.proofs.Powers.{power_in}
use Rattle.code.proofs.Polynomials.{sum_value}
use Rattle.writer.proofs.Remainders.{Dividend, dividend_none, dividend_more, dividend_all}
use Rattle.writer.proofs.division.Divisor.remainder.Goals as goal

pub loop-symbol-init : goal.loop-symbol-init
loop-symbol-init g c =
    let o = g.F.Field.ops c.args.self.now.field.now in
    let l = (g.met.F.Field.laws c.args.self.now.field.now).arithmetic in
    let h = c.zero-zero.ensures.inside in (
      record { three = h; two = h; one = h; zero = h },
      λ x hx root. ap (λ z. Dividend o x (record { c3 = z; c2 = z; c1 = z; c0 = z }) c.args.symbols.now) c.zero-zero.ensures.value
          ∙ dividend_none l x c.args.symbols.now hx c.requires,
    )

pub loop-symbol-preserved : goal.loop-symbol-preserved
loop-symbol-preserved g c =
    let l = (g.met.F.Field.laws c.args.self.now.field.now).arithmetic in (
      c.step-rest.ensures.inside,
      λ x hx root. dividend_more l c.args.self.now.rest c.loop-symbol.rest c.step-rest.result c.symbol-item.result x _ c.args.symbols.now c.loop-symbol.symbol-index
          c.loop-symbol-test.true c.symbol-item.is c.loop-symbol.invariant.0 hx c.requires c.step-rest.ensures.value root (c.loop-symbol.invariant.1 x hx root),
    )

pub returns-clause-value : goal.returns-clause-value
returns-clause-value g c = λ α j hα root.
    let o = g.F.Field.ops c.args.self.now.field.now in
    let l = (g.met.F.Field.laws c.args.self.now.field.now).arithmetic in
    let ds = c.args.symbols.now in
    let hx = power_in l α j hα in
    sym (dividend_all l (power o α j) c.loop-symbol.rest hx c.loop-symbol.invariant.0)
    ∙ sym (at_drop_all (Dividend o (power o α j) c.loop-symbol.rest) ds c.loop-symbol.symbol-index c.loop-symbol-test.false)
    ∙ c.loop-symbol.invariant.1 (power o α j) hx root ∙ ap (λ v. o.mul v (power o (power o α j) 4)) (sym (sum_value l α j ds hα))
