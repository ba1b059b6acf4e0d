-- The damaged block is within two symbols of the written one, which is the only code word there.
use Rattle.std.proofs.lemmas.Result.{MatchResult-weaker}
use Rattle.corrector.proofs.Outcomes.{restored, not_refused}
use Rattle.corrector.proofs.restoration.round_trip.Goals as goal

pub returns : goal.returns
returns g c =
    let k = c.args.code.now in
    let o = g.F.Field.ops k.field.now in
    let l = (g.met.F.Field.laws k.field.now).arithmetic in
    let α = k.alpha in
    let n = k.length in
    let gen = k.generator in
    let b = c.args.block.now in
    let w = c.in_ok-encode.ensures in
    let written = c.encode.new.block in
    let arrived = rw (c.inflict-2.ensures, c.inflict.ensures) at c.correct.ensures in
    MatchResult-weaker c.correct.result arrived
    (λ count r. restored l α n gen b written w c.args.first c.args.second c.requires.first c.requires.second _ count r)
    (λ fault r. absurd (not_refused l α n gen b written w c.args.first c.args.second c.requires.first c.requires.second fault r.due))
