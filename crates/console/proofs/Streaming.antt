-- How a session goes on: what is still to come does not matter to what was answered.
use Rattle.std.proofs.Common.{◌≡◌, ℕ, zero, suc, ◌<◌, ◌≤◌, Bool, true, false, List, [], ◌∷◌, ◌++◌, length, MatchBool, sym, refl, ap, ◌∙◌, subst, append_assoc, arith}
use Rattle.std.proofs.lemmas.List.{append-nil, length-append, flat_map_more}
use Rattle.std.specs.Str.Iter.{LacksByte}
use Rattle.std.specs.List.{flat_map}
use Rattle.console.specs.Consoles.{WritesOne, Holds, AnswersHeld, RefusesHeld}
use Rattle.console.specs.Conversation.{Response, refused, shown, ends, Answers}
use Rattle.console.specs.Sessions.{Session, over, last, line, end, too_long, longest, line_after, Held, Waiting, initial, Responds, Continues}
use Rattle.console.specs.declared.faults.ShiftFault.TheVariants.{Unreadable}

-- a console whose session goes on responds as the session does
running : (w : Waiting) (i : List ℕ) (rs : List Response) → w.ended ≡ false → Responds w i rs → Session w.position w.lines (w.held ++ i) rs
running w i rs e h = subst (λ b. MatchBool b (rs ≡ []) (Session w.position w.lines (w.held ++ i) rs)) e h

runs : (w : Waiting) (i : List ℕ) (rs : List Response) → w.ended ≡ false → Session w.position w.lines (w.held ++ i) rs → Responds w i rs
runs w i rs e h = subst (λ b. MatchBool b (rs ≡ []) (Session w.position w.lines (w.held ++ i) rs)) (sym e) h

-- one whose session has ended gives no response
silent : (w : Waiting) (i : List ℕ) (rs : List Response) → w.ended ≡ true → Responds w i rs → rs ≡ []
silent w i rs e h = subst (λ b. MatchBool b (rs ≡ []) (Session w.position w.lines (w.held ++ i) rs)) e h

rests : (w : Waiting) (i : List ℕ) (rs : List Response) → w.ended ≡ true → rs ≡ [] → Responds w i rs
rests w i rs e h = subst (λ b. MatchBool b (rs ≡ []) (Session w.position w.lines (w.held ++ i) rs)) (sym e) h

lacks_append : (b : ℕ) (xs ys : List ℕ) → LacksByte b xs → LacksByte b ys → LacksByte b (xs ++ ys)
lacks_append b [] ys f g k l q = g k l q
lacks_append b (x ∷ xs) ys f g zero l q = f zero (omega arith) q
lacks_append b (x ∷ xs) ys f g (suc k) l q = lacks_append b xs ys (λ j m. f (suc j) (omega arith)) g k (omega arith) q

lacks_end : (xs rest : List ℕ) → LacksByte 10 (xs ++ 10 ∷ rest) → ⊥
lacks_end [] rest f = f zero (omega arith) refl
lacks_end (x ∷ xs) rest f = lacks_end xs rest (λ j m. f (suc j) (omega arith))

regroup : (h i front rest more : List ℕ) → i ≡ front ++ rest → h ++ (i ++ more) ≡ (h ++ front) ++ (rest ++ more)
regroup h i front rest more e =
    ap (λ v. h ++ (v ++ more)) e ∙ ap (λ v. h ++ v) (append_assoc front rest more) ∙ sym (append_assoc h front (rest ++ more))

-- a line that ends in the input is no longer held
pub line_ended : (h i front rest : List ℕ) → i ≡ front ++ 10 ∷ rest → Held (h ++ i) → ⊥
line_ended h i front rest e held =
    lacks_end (h ++ front) rest (subst (LacksByte 10) (ap (λ v. h ++ v) e ∙ sym (append_assoc h front (10 ∷ rest))) held.0)

-- the line has more bytes than it may have before its end
pub continues_too_long : (w w' : Waiting) (i front rest left : List ℕ) (r : Response) → w.ended ≡ false → Held w.held
    → i ≡ front ++ rest → LacksByte 10 front → longest < length (w.held ++ front) → RefusesHeld w w' r → Continues w i (r ∷ []) w' left
continues_too_long w w' i front rest left r running_still held e free long refusal more qs h =
    subst (λ v. Responds w (i ++ more) (r ∷ v)) (sym (silent w' (left ++ more) qs refusal.ended h))
    (subst (λ v. Responds w (i ++ more) (v ∷ [])) (sym refusal.answer)
    (runs w (i ++ more) (refused (Unreadable (line_after w.lines)) ∷ []) running_still
    (too_long (w.held ++ front) (rest ++ more) (regroup w.held i front rest more e) (lacks_append 10 w.held front held.0 free) long)))

-- the line ends, and is answered
pub continues_line : (w w₁ w' : Waiting) (i front rest : List ℕ) (r : Response) → w.ended ≡ false → Held w.held
    → i ≡ front ++ 10 ∷ rest → LacksByte 10 front → length (w.held ++ front) ≤ longest → Holds w front w₁ → AnswersHeld w₁ w' r → Continues w i (r ∷ []) w' rest
continues_line w w₁ w' i front rest r running_still held e free short (same, _, lines, whole) a more qs h = go (ends r) refl
  where
    answer : Answers w.position (line_after w.lines) (w.held ++ front) w'.position r
    answer =
        subst (λ v. Answers v (line_after w.lines) (w.held ++ front) w'.position r) same
        (subst (λ v. Answers w₁.position (line_after v) (w.held ++ front) w'.position r) lines
        (subst (λ v. Answers w₁.position (line_after w₁.lines) v w'.position r) whole a.answer))

    input_is : w.held ++ (i ++ more) ≡ (w.held ++ front) ++ 10 ∷ (rest ++ more)
    input_is = regroup w.held i front (10 ∷ rest) more e

    lacks : LacksByte 10 (w.held ++ front)
    lacks = lacks_append 10 w.held front held.0 free

    go : (b : Bool) → ends r ≡ b → Responds w (i ++ more) (r ∷ qs)
    go true b =
        subst (λ v. Responds w (i ++ more) (r ∷ v)) (sym (silent w' (rest ++ more) qs (a.ended ∙ b) h))
        (runs w (i ++ more) (r ∷ []) running_still (end (w.held ++ front) (rest ++ more) w'.position r input_is lacks short answer b))
    go false b =
        runs w (i ++ more) (r ∷ qs) running_still
        (line (w.held ++ front) (rest ++ more) w'.position r input_is lacks short answer b
        (subst (λ v. Session w'.position v (rest ++ more) qs) (a.lines ∙ ap line_after lines)
        (subst (λ v. Session w'.position w'.lines (v ++ (rest ++ more)) qs) a.held (running w' (rest ++ more) qs (a.ended ∙ b) h))))

pub shorter : (i front rest : List ℕ) → i ≡ front ++ 10 ∷ rest → length rest < length i
shorter i front rest e = omega (arith, ap length e, length-append front (10 ∷ rest))

-- the input is over
pub over_none : (w : Waiting) → length w.held ≡ 0 → Responds w [] []
over_none w e = go w.ended w.held e
  where
    go : (b : Bool) (h : List ℕ) → length h ≡ 0 → MatchBool b (◌≡◌ {A = List Response} [] []) (Session w.position w.lines (h ++ []) [])
    go true h e = refl
    go false [] e = over
    go false (x ∷ h) e = absurd (omega arith)

pub over_line : (w w' : Waiting) (r : Response) → w.ended ≡ false → Held w.held → 0 < length w.held → AnswersHeld w w' r → Responds w [] (r ∷ [])
over_line w w' r running_still held some a =
    runs w [] (r ∷ []) running_still
    (subst (λ v. Session w.position w.lines v (r ∷ [])) (sym (append-nil w.held)) (last w'.position r held.0 some held.1 a.answer))

pub over_ended : (w : Waiting) → w.ended ≡ true → Responds w [] []
over_ended w e = rests w [] [] e refl

-- A whole input: the responses so far, the bytes written, and what is left to read.
abbrev pub Reads : List ℕ → List ℕ → Waiting → List ℕ → Type 0
Reads input out w rest = (rs : List Response) × (out ≡ flat_map shown rs) × Continues initial input rs w rest

pub reads_one : (input out out' : List ℕ) (w w' : Waiting) (rest left : List ℕ) → Reads input out w rest → WritesOne w rest w' left out out' → Reads input out' w' left
reads_one input out out' w w' rest left (rs, e, f) (r, (_, g, _, _), q) = (
  rs ++ r ∷ [],
  q ∙ ap (λ v. v ++ shown r) e ∙ flat_map_more shown [] rs r,
  λ more qs h. subst (Responds initial (input ++ more)) (sym (append_assoc rs (r ∷ []) qs)) (f more (r ∷ qs) (g more qs h)),
)
