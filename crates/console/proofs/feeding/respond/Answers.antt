use Rattle.std.proofs.Common.{vec_items}
use Rattle.std.proofs.lemmas.Option.{MatchOption-at_some}
use Rattle.console.specs.Consoles.{waiting}
use Rattle.console.proofs.Streaming.{reads_one}
use Rattle.console.proofs.feeding.respond.Goals as goal

pub loop-out-preserved : goal.loop-out-preserved
loop-out-preserved c =
    reads_one c.args.input.now (vec_items c.loop-out.out) (vec_items c.write_line.new.out) (waiting c.loop-out.console) (waiting c.write_line.new.self) c.loop-out.rest.now c.in-Some.more.now
    c.loop-out.invariant (MatchOption-at_some _ _ _ c.in-Some.is c.in_ok-more.ensures)
