-- The response that the program's reply stands for.
use Rattle.std.specs.Prelude.{ℕ, List, ◌++◌, Ok, Err, vec_items, codes, Result}
use Rattle.lines.specs.Numbers.{numeral, spelled}
use Rattle.console.specs.Conversation.{Response, accepted, found, refused}
use Rattle.console.specs.Refusals.{shift_number}
use Rattle.console.specs.declared.faults.ShiftFault.{ShiftFault}
use Rattle.console.specs.declared.replies.Reply.{Reply}
use Rattle.console.specs.declared.replies.Reply.TheVariants.{Prime, Nonresidue, Step, Alpha, Length, Find}

abbrev pub response : Result Reply ShiftFault → Response
response (Ok Prime) = accepted (codes "prime")
response (Ok Nonresidue) = accepted (codes "nonresidue")
response (Ok Step) = accepted (codes "step")
response (Ok Alpha) = accepted (codes "alpha")
response (Ok Length) = accepted (codes "length")
response (Ok (Find values)) = found (vec_items values)
response (Err e) = refused e

-- what a reply and a refusal show, without the end of line
abbrev pub reply_text : Reply → List ℕ
reply_text Prime = codes "prime=ok"
reply_text Nonresidue = codes "nonresidue=ok"
reply_text Step = codes "step=ok"
reply_text Alpha = codes "alpha=ok"
reply_text Length = codes "length=ok"
reply_text (Find values) = codes "find=" ++ spelled (vec_items values)

abbrev pub fault_text : ShiftFault → List ℕ
fault_text e = codes "refused=" ++ numeral (shift_number e)
