use Rattle.std.proofs.Common.{length, vec_items}
use Rattle.console.specs.Consoles.{waiting}
use Rattle.console.proofs.Streaming.{Reads}
use Rattle.console.proofs.feeding.respond.Given as goal

abbrev pub invariant-loop-out : goal.invariant-loop-out
invariant-loop-out l = Reads l.input (vec_items l.out) (waiting l.console) l.rest

abbrev pub decreases-loop-out : goal.decreases-loop-out
decreases-loop-out l = length l.rest
