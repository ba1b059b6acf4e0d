-- The four places set are the checks after the data.
use Rattle.std.proofs.Common.{◌≡◌, ◌+◌, ◌-◌, length, arith}
use Rattle.code.specs.Blocks.{data_of}
use Rattle.writer.specs.Division.{Inside, Remains}
use Rattle.writer.proofs.Checks.{set_last, written}
use Rattle.writer.proofs.encoder.write_checks.Goals as goal

pub returns : goal.returns
returns g c =
    let k = c.args.code.now in
    let o = g.F.Field.ops k.field.now in
    let l = (g.met.F.Field.laws k.field.now).arithmetic in
    let b = c.args.block.now in
    let q = c.remainder-rest.result in
    let room : length b ≡ (k.length - 4) + 4 = omega (arith, c.requires.long, c.requires.room) in
    let q_in : Inside o q = rw c.generator.ensures.field at c.remainder-rest.ensures.inside in
    let remains : Remains o c.generator.result.rest (data_of k.length b) q = rw c.generator.ensures.field at c.remainder-rest.ensures.value in
    rw (set_last (k.length - 4) b c.neg.result c.neg-2.result c.neg-3.result c.neg-4.result room, c.neg.ensures.value, c.neg-2.ensures.value, c.neg-3.ensures.value, c.neg-4.ensures.value)
    (written l k.alpha k.length b c.generator.result.rest q k.generator c.requires.room c.requires.long c.requires.elements
    q_in c.generator.ensures.roots remains)
