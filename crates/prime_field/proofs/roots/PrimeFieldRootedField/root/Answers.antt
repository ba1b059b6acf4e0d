-- The first round, each next one, and how the last one ends.
use Rattle.std.proofs.Common.{◌∙◌, sym, subst, arith}
use Rattle.std.proofs.lemmas.Bool.{ltb-true, lt-ltb}
use Rattle.algebra.proofs.Products.{negative_root}
use Rattle.prime_field.specs.Proofs.ModularLaws.{modular_laws}
use Rattle.prime_field.specs.Proofs.Residues.{Split, field_split}
use Rattle.prime_field.proofs.Rounds.{round_first, round_next, round_last}
use Rattle.prime_field.proofs.roots.PrimeFieldRootedField.root.Goals as goal

pub loop-b-init : goal.loop-b-init
loop-b-init c =
    let f = c.args.self.now in
    let e = c.prime-p.ensures in
    round_first (subst (λ p. Split p f.exponent f.cofactor) (sym e) (field_split f)) c.args.a _ c.pow-w.result c.product-x.result c.product-b.result
    f.generator (rw e f.inside) (rw e f.order) (omega arith) (rw e (ltb-true c.args.a f.modulus c.requires))
    c.pow-w.ensures.value c.product-x.ensures.value c.product-b.ensures.value (omega (arith, f.rest))

pub loop-b-preserved : goal.loop-b-preserved
loop-b-preserved c =
    round_next c.prime-p.result.value c.args.a c.loop-b.x c.loop-b.b c.loop-b.c c.loop-b.m c.in_ok-i.i _
    c.square_times-d.result c.product-x-in-loop-b.result c.product-c.result c.product-b-in-loop-b.result
    (rw c.prime-p.ensures c.args.self.now.is_prime) c.loop-b.invariant c.loop-b-test.true c.in_ok-i.ensures c.square_times-d.ensures.value
    c.product-x-in-loop-b.ensures.value c.product-c.ensures.value c.product-b-in-loop-b.ensures.value
    (omega (arith, c.in_ok-i.ensures.below))

pub returns-else-sign-eq0 : goal.returns-else-sign-eq0
returns-else-sign-eq0 c =
    let f = c.args.self.now in
    let x = c.loop-b.x in
    let square = round_last c.prime-p.result.value c.args.a x c.loop-b.b c.loop-b.c c.loop-b.m
    (rw c.prime-p.ensures (ltb-true c.args.a f.modulus c.requires)) c.loop-b.invariant c.loop-b-test.false in
    negative_root (modular_laws f.modulus f.is_prime f.odd) c.args.a x _ (omega arith) (lt-ltb x f.modulus (omega (arith, c.loop-b.invariant.x_in)))
    (rw c.prime-p.ensures at square) (λ even. c.if-sign-eq0.false (c.sign.ensures ∙ even))
