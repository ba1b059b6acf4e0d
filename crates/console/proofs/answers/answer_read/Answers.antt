use Rattle.std.proofs.Common.{◌≡◌, ap, rules, arith}
use Rattle.lines.specs.Lines.{meant}
use Rattle.prime_field.specs.Modular.{modular}
use Rattle.quadratic.specs.Pairs.{pairs}
use Rattle.console.specs.Commissions.{field_of, phase}
use Rattle.console.specs.Replies.{response}
use Rattle.console.specs.Stages.{position}
use Rattle.console.specs.Steps.{ground, place, placed}
use Rattle.console.specs.declared.stages.Stage.TheVariants.{Quadruple}
use Rattle.console.proofs.Climbs.{handled}
use Rattle.console.proofs.Outcomes.{unit_answered}
use Rattle.console.proofs.answers.answer_read.Goals as goal

pub returns-in_ok-answer_steps-in-Single : goal.returns-in_ok-answer_steps-in-Single
returns-in_ok-answer_steps-in-Single c =
    let u = c.in-Single.unit in
    let a = c.in_ok-answer_steps-in-Single.field-0 in
    let (h, kept) = c.in_ok-answer_steps-in-Single.ensures in
    let left : position c.map.result.left ≡ placed 0 (modular (ground a.left).modulus) (place a.left) = search rules in
    rw (c.in-Single.is, c.map.ensures.reply)
    (handled 0 (modular (field_of u).modulus) (omega arith) (modular (ground a.left).modulus) (phase u) (meant c.args.input.line) c.args.input.number (response a.reply)
    (place a.left) (position c.map.result.left) (ap (λ f. modular f.modulus) kept) left h)

pub returns-in_ok-answer_steps-in-Double : goal.returns-in_ok-answer_steps-in-Double
returns-in_ok-answer_steps-in-Double c =
    let u = c.in-Double.unit in
    let a = c.in_ok-answer_steps-in-Double.field-0 in
    let m = c.map-in-Double in
    let (h, kept) = c.in_ok-answer_steps-in-Double.ensures in
    let left : position m.result.left ≡ placed 1 (pairs (modular (ground a.left).base.modulus) (ground a.left).beta) (place a.left) = search rules in
    rw (c.in-Double.is, m.ensures.reply)
    (handled 1 (pairs (modular (field_of u).base.modulus) (field_of u).beta) (omega arith) (pairs (modular (ground a.left).base.modulus) (ground a.left).beta)
    (phase u) (meant c.args.input.line) c.args.input.number (response a.reply) (place a.left) (position m.result.left) (ap (λ f. pairs (modular f.base.modulus) f.beta) kept) left h)

pub returns-in_ok-answer_unit-in-Quadruple : goal.returns-in_ok-answer_unit-in-Quadruple
returns-in_ok-answer_unit-in-Quadruple c =
    let u = c.in-Quadruple.unit in
    let a = c.in_ok-answer_unit-in-Quadruple.field-0 in
    let m = c.map-in-Quadruple in
    let (h, kept) = c.in_ok-answer_unit-in-Quadruple.ensures in
    let left : m.result.left ≡ Quadruple a.left = search rules in
    rw (c.in-Quadruple.is, left, m.ensures.reply)
    (unit_answered 2 (pairs (pairs (modular (field_of u).base.base.modulus) (field_of u).base.beta) (field_of u).beta)
    (pairs (pairs (modular (field_of a.left).base.base.modulus) (field_of a.left).base.beta) (field_of a.left).beta)
    (phase u) (phase a.left) (meant c.args.input.line) c.args.input.number (response a.reply)
    (ap (λ f. pairs (pairs (modular f.base.base.modulus) f.base.beta) f.beta) kept) (λ xs e l. omega arith) h)
