use Rattle.std.proofs.Common.{arith, true-eqb, false-eqb}
use Rattle.console.specs.Consoles.{waiting}
use Rattle.console.specs.Replies.{response}
use Rattle.console.proofs.Streaming.{over_none, over_ended, over_line}
use Rattle.console.proofs.console.Console.finish.Goals as goal
use Rattle.console.proofs.console.Console.finish.Goals.{then-self-via-then-self, then-self-via-else-self+then-is_empty}

pub returns-then-self : goal.returns-then-self
returns-then-self c =
    elim c.then-self.branch [
      | then-self-via-then-self w ↦ over_ended (waiting c.args.self) w.if-self.true
      | then-self-via-else-self+then-is_empty w ↦
          over_none (waiting c.args.self) (omega (arith, true-eqb _ 0 w.if-is_empty.ensures, c.args.self.held.ok.0))
    ]

pub returns : goal.returns
returns c =
    over_line (waiting c.args.self) (waiting c.answer_held.new.self) (response c.in_ok-answer_held.field-0) c.if-self.false c.args.self.line
    (omega (arith, false-eqb _ 0 c.if-is_empty.ensures, c.args.self.held.ok.0)) c.in_ok-answer_held.ensures
