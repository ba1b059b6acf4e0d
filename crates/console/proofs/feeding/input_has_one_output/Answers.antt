use Rattle.console.proofs.Once.{answered_once}
use Rattle.console.proofs.feeding.input_has_one_output.Goals as goal

pub returns : goal.returns
returns c = answered_once
