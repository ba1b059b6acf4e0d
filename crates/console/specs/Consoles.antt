-- Where a console stands, and what feeding it answers.
use Rattle.std.specs.Prelude.{◌≡◌, ℕ, ◌<◌, true, false, List, [], ◌∷◌, ◌++◌, length, MatchBool, vec_items}
use Rattle.std.specs.List.{flat_map}
use Rattle.std.specs.Str.Iter.{LacksByte}
use Rattle.console.specs.Conversation.{Response, refused, shown, ends, Answers}
use Rattle.console.specs.Sessions.{Held, Waiting, Responds, Continues, line_after}
use Rattle.console.specs.Stages.{position}
use Rattle.console.specs.declared.console.Console.{Console}
use Rattle.console.specs.declared.faults.ShiftFault.TheVariants.{Unreadable}

abbrev pub waiting : Console → Waiting
waiting c = record { position = position c.stage; ended = c.ended; lines = c.lines; held = vec_items c.held }

-- a response is due: the session goes on, and what is held and the input are no longer one unended line that can be held
abbrev pub Due : Waiting → List ℕ → Type 0
Due w input = (w.ended ≡ false) × (Held (w.held ++ input) → ⊥)

-- nothing is held, and `rest` is what follows the first byte 10 of the input
abbrev pub Resumes : List ℕ → Waiting → List ℕ → Type 0
Resumes input w' rest = (w'.held ≡ []) × (front : List ℕ) × LacksByte 10 front × (input ≡ front ++ 10 ∷ rest)

-- one line was answered with r; where the session goes on, it does so after the end of this line
abbrev pub AnswersOne : Waiting → List ℕ → Response → Waiting → List ℕ → Type 0
AnswersOne w input r w' rest =
    Due w input × Continues w input (r ∷ []) w' rest × (length rest < length input) × (w'.ended ≡ false → Resumes input w' rest)

-- the same, with the response written
abbrev pub WritesOne : Waiting → List ℕ → Waiting → List ℕ → List ℕ → List ℕ → Type 0
WritesOne w input w' rest out out' = (r : Response) × AnswersOne w input r w' rest × (out' ≡ out ++ shown r)

-- the responses to what is held, once the input is over, were written
abbrev pub WritesLast : Waiting → List ℕ → List ℕ → Type 0
WritesLast w out out' = (rs : List Response) × Responds w [] rs × (out' ≡ out ++ flat_map shown rs)

-- the part is held too
abbrev pub Holds : Waiting → List ℕ → Waiting → Type 0
Holds w part w' = (w'.position ≡ w.position) × (w'.ended ≡ w.ended) × (w'.lines ≡ w.lines) × (w'.held ≡ w.held ++ part)

-- no response is due: all of the input is held too, as it is part of one line; or the session has ended, and nothing changes
abbrev pub Waits : Waiting → List ℕ → Waiting → Type 0
Waits w input w' = Continues w input [] w' [] × MatchBool w.ended (w' ≡ w) (Held (w.held ++ input) × Holds w input w')

-- the line held was answered with r
pub record AnswersHeld (w w' : Waiting) (r : Response) : Type 0 where
  pub answer : Answers w.position (line_after w.lines) w.held w'.position r
  pub ended : w'.ended ≡ ends r
  pub lines : w'.lines ≡ line_after w.lines
  pub held : w'.held ≡ []

-- the line held was refused as too long, which ends the session
pub record RefusesHeld (w w' : Waiting) (r : Response) : Type 0 where
  pub answer : r ≡ refused (Unreadable (line_after w.lines))
  pub ended : w'.ended ≡ true
  pub position : w'.position ≡ w.position
  pub lines : w'.lines ≡ line_after w.lines
