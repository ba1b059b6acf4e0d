use Rattle.std.proofs.Common.{length}
use Rattle.shift.proofs.answer.Given as goal

abbrev pub decreases-loop-more : goal.decreases-loop-more
decreases-loop-more g l = length l.rest
