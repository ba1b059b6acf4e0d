use Rattle.std.proofs.Common.{subst}
use Rattle.std.proofs.lemmas.Result.{IfOk-weaker}
use Rattle.lines.specs.Lines.{meant, written, Proper}
use Rattle.lines.specs.Numbers.{Reads}
use Rattle.console.specs.Replies.{response}
use Rattle.console.specs.Stages.{position}
use Rattle.console.proofs.Outcomes.{answered, answered_none}
use Rattle.console.proofs.answers.answer_line.Goals as goal

pub returns-in-Some : goal.returns-in-Some
returns-in-Some c =
    let bytes = c.args.bytes.now in
    let read = subst (Reads written Proper meant bytes) c.in-Some.is c.in_ok-line.ensures in
    IfOk-weaker c.answer_read.result _ _
    (λ a h. answered (position c.args.stage) c.args.k bytes (meant c.in-Some.line) read (position a.left) (response a.reply) h)
    c.answer_read.ensures

pub returns-in-None : goal.returns-in-None
returns-in-None c =
    let bytes = c.args.bytes.now in
    answered_none c.args.k bytes c.args.stage c.unreadable.result c.unreadable.ensures.left c.unreadable.ensures.reply
    (subst (Reads written Proper meant bytes) c.in-None.is c.in_ok-line.ensures)
