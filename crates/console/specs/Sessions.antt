-- What a whole input is answered with.
use Rattle.std.specs.Prelude.{◌≡◌, ℕ, ◌+◌, ◌-◌, ◌^◌, ◌<◌, ◌≤◌, min, Bool, true, false, List, [], ◌∷◌, ◌++◌, length, MatchBool}
use Rattle.std.specs.Str.Iter.{LacksByte}
use Rattle.std.specs.List.{flat_map}
use Rattle.console.specs.Conversation.{Position, begun, Response, refused, shown, ends, Answers}
use Rattle.console.specs.declared.faults.ShiftFault.TheVariants.{Unreadable}

-- the most bytes that a line may have before its end
abbrev pub longest : ℕ
longest = 49152

-- the number of the line after k lines; the count stops at the most that 64 bits hold
abbrev pub line_after : ℕ → ℕ
line_after k = min (k + 1) (2 ^ 64 - 1)

-- From a position, after k lines: the input still to come, and the responses to its lines.
-- Byte 10 ends a line, and so does the end of the input after at least one byte.
pub data Session : Position → ℕ → List ℕ → List Response → Type 0 where
  over : {s : Position} {k : ℕ} → Session s k [] []
  last : {s : Position} {k : ℕ} {l : List ℕ} (t : Position) (r : Response)
      → LacksByte 10 l → 0 < length l → length l ≤ longest → Answers s (line_after k) l t r → Session s k l (r ∷ [])
  line : {s : Position} {k : ℕ} {input : List ℕ} {rs : List Response} (l rest : List ℕ) (t : Position) (r : Response)
      → input ≡ l ++ 10 ∷ rest → LacksByte 10 l → length l ≤ longest → Answers s (line_after k) l t r → ends r ≡ false
      → Session t (line_after k) rest rs → Session s k input (r ∷ rs)
  end : {s : Position} {k : ℕ} {input : List ℕ} (l rest : List ℕ) (t : Position) (r : Response)
      → input ≡ l ++ 10 ∷ rest → LacksByte 10 l → length l ≤ longest → Answers s (line_after k) l t r → ends r ≡ true
      → Session s k input (r ∷ [])
  too_long : {s : Position} {k : ℕ} {input : List ℕ} (l rest : List ℕ)
      → input ≡ l ++ rest → LacksByte 10 l → longest < length l → Session s k input (refused (Unreadable (line_after k)) ∷ [])

-- the output of a whole input: the responses to its lines, one after the other
abbrev pub Output : List ℕ → List ℕ → Type 0
Output input out = (rs : List Response) × Session begun 0 input rs × (out ≡ flat_map shown rs)

-- an input has one list of responses
abbrev pub AnsweredOnce : Type 0
AnsweredOnce = (input : List ℕ) (rs qs : List Response) → Session begun 0 input rs → Session begun 0 input qs → rs ≡ qs

-- bytes held of a line that has not ended
abbrev pub Held : List ℕ → Type 0
Held h = LacksByte 10 h × (length h ≤ longest)

-- where a console stands between two pieces of input
pub record Waiting : Type 0 where
  pub position : Position
  pub ended : Bool
  pub lines : ℕ
  pub held : List ℕ

-- before any input
abbrev pub initial : Waiting
initial = record { position = begun; ended = false; lines = 0; held = [] }

-- the responses from here on, if `input` is still to come
abbrev pub Responds : Waiting → List ℕ → List Response → Type 0
Responds w input rs = MatchBool w.ended (rs ≡ []) (Session w.position w.lines (w.held ++ input) rs)

-- From w with `input` to read to w' with `rest` to read, with the responses rs on the way:
-- whatever is still to come, its responses follow these.
abbrev pub Continues : Waiting → List ℕ → List Response → Waiting → List ℕ → Type 0
Continues w input rs w' rest = (more : List ℕ) (qs : List Response) → Responds w' (rest ++ more) qs → Responds w (input ++ more) (rs ++ qs)
