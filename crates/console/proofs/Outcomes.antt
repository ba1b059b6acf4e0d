-- What the program's answers stand for: lines out of order, and lines to a unit at a position.
use Rattle.std.proofs.Common.{◌≡◌, ℕ, ◌<◌, ◌⊎◌, List, Err, Vec, sym, refl, ap, ◌∙◌, subst, inl, inr, arith}
use Rattle.std.specs.declared.alloc.Global.{Global}
use Rattle.algebra.specs.Operations.{Ops}
use Rattle.algebra.specs.declared.Field.{Ghosts}
use Rattle.lines.specs.Lines.{Content, step, alpha, find, meant, Proper, written}
use Rattle.lines.specs.declared.Line.{Line}
use Rattle.lines.specs.declared.Line.TheVariants.{Prime, Nonresidue, Step, Alpha, Length, Find}
use Rattle.lines.proofs.Once.{written_once}
use Rattle.quadratic.specs.Signs.{coordinates}
use Rattle.quadratic.specs.Towers.{Height}
use Rattle.console.specs.Commissions.{field_of, phase}
use Rattle.console.specs.Conversation.{Phase, unsealed, alpha_given, sealed, Position, begun, prime_given, unit_on, Response, accepted, found, refused, UnitInOrder, then_alpha, then_find, UnitOutcome, root_found, root_refused, InOrder, then_step, Outcome, stepped, step_refused, Answers, in_order, unreadable}
use Rattle.console.specs.Conversation as conversation
use Rattle.console.specs.Handling.{UnitHandled, Handled, Finds}
use Rattle.console.specs.Replies.{response}
use Rattle.console.specs.Stages.{position}
use Rattle.console.specs.declared.commissions.Commission.{Commission}
use Rattle.console.specs.declared.commissions.Commission.TheVariants.{Open, Generator, Sealed}
use Rattle.console.specs.declared.faults.ShiftFault.TheVariants.{Unreadable}
use Rattle.console.specs.declared.replies.Answer.{Answer}
use Rattle.console.specs.declared.stages.Stage.{Stage}

-- a line that is not in order leaves the unit as it was
pub unit_out_of_order : {F E : Type 0} {m : Ghosts F E} (o : Ops E) (f : E → List ℕ) (x : Content) (k : ℕ) (u : Commission F E m) (a : Answer (Commission F E m))
    → a.left ≡ u → a.reply ≡ Err (Unreadable k) → (UnitInOrder f (phase u) x → ⊥)
    → UnitHandled o f (phase u) k x (phase a.left) (response a.reply) × (field_of a.left ≡ field_of u)
unit_out_of_order o f x k u a e r h = (inr (h, ap phase e, ap response r), ap field_of e)

-- the lines that are not the one in order
module _ {E : Type 0} (f : E → List ℕ) where
  pub only_alpha : (l : Line) → ((a : Vec ℕ Global) → l ≡ Alpha a → ⊥) → UnitInOrder f unsealed (meant l) → ⊥
  only_alpha (Prime q) other o = elim o [ ]
  only_alpha (Nonresidue r) other o = elim o [ ]
  only_alpha (Step b) other o = elim o [ ]
  only_alpha (Alpha a) other o = other a refl
  only_alpha (Length n) other o = elim o [ ]
  only_alpha (Find x) other o = elim o [ ]

  pub only_length : (a : E) (l : Line) → ((n : ℕ) → l ≡ Length n → ⊥) → UnitInOrder f (alpha_given a) (meant l) → ⊥
  only_length a (Prime q) other o = elim o [ ]
  only_length a (Nonresidue r) other o = elim o [ ]
  only_length a (Step b) other o = elim o [ ]
  only_length a (Alpha b) other o = elim o [ ]
  only_length a (Length n) other o = other n refl
  only_length a (Find x) other o = elim o [ ]

  pub only_find : (a : E) (n : ℕ) (l : Line) → ((x : Vec ℕ Global) → l ≡ Find x → ⊥) → UnitInOrder f (sealed a n) (meant l) → ⊥
  only_find a n (Prime q) other o = elim o [ ]
  only_find a n (Nonresidue r) other o = elim o [ ]
  only_find a n (Step b) other o = elim o [ ]
  only_find a n (Alpha b) other o = elim o [ ]
  only_find a n (Length m) other o = elim o [ ]
  only_find a n (Find x) other o = other x refl

  -- an element is due
  pub alpha_element : {xs : List ℕ} → UnitInOrder f unsealed (alpha xs) → (a : E) × (xs ≡ f a)
  alpha_element (then_alpha a e) = (a, e)

  pub find_element : {a : E} {n : ℕ} {xs : List ℕ} → UnitInOrder f (sealed a n) (find xs) → (x : E) × (xs ≡ f x)
  find_element (then_find x e) = (x, e)

-- a step is due, or a line to the unit
step_or_unit : {n : ℕ} {o : Ops (Height n ℕ)} {s : Phase (Height n ℕ)} {x : Content} → InOrder (unit_on n o s) x
    → ((xs : List ℕ) × (x ≡ step xs) × (n < 2) × (s ≡ unsealed) × ((β : Height n ℕ) × (xs ≡ coordinates n β))) ⊎ UnitInOrder (coordinates n) s x
step_or_unit (then_step {xs = xs} β l e) = inl (xs, refl, l, refl, (β, e))
step_or_unit (conversation.InOrder.unit_line h) = inr h

pub no_step : (l : Line) → ((v : Vec ℕ Global) → l ≡ Step v → ⊥) → (xs : List ℕ) → meant l ≡ step xs → ⊥
no_step (Prime q) other xs e = let z : ◌≡◌ {A = ℕ} 0 1 = cc in omega arith
no_step (Nonresidue r) other xs e = let z : ◌≡◌ {A = ℕ} 0 1 = cc in omega arith
no_step (Step v) other xs e = other v refl
no_step (Alpha a) other xs e = let z : ◌≡◌ {A = ℕ} 0 1 = cc in omega arith
no_step (Length n) other xs e = let z : ◌≡◌ {A = ℕ} 0 1 = cc in omega arith
no_step (Find x) other xs e = let z : ◌≡◌ {A = ℕ} 0 1 = cc in omega arith

-- a line to the unit, where no step is due
pub unit_answered : (n : ℕ) (o q : Ops (Height n ℕ)) (s t : Phase (Height n ℕ)) (x : Content) (k : ℕ) (r : Response)
    → q ≡ o → ((xs : List ℕ) → x ≡ step xs → n < 2 → ⊥) → UnitHandled o (coordinates n) s k x t r → Handled (unit_on n o s) k x (unit_on n q t) r
unit_answered n o q s t x k r e none (inl h) = inl (subst (λ v. Outcome (unit_on n o s) x (unit_on n v t) r) (sym e) (conversation.Outcome.unit_line h))
unit_answered n o q s t x k r e none (inr (out, same, unread)) =
    inr (
      λ h. elim (step_or_unit h) [ inl (xs, is, l, _, _) ↦ none xs is l | inr u ↦ out u ],
      ap (λ v. unit_on n v t) e ∙ ap (unit_on n o) same,
      unread,
    )

-- a line that was read, in order or not, is answered
pub answered : (s : Position) (k : ℕ) (bytes : List ℕ) (x : Content) → Proper x × (bytes ≡ written x) → (t : Position) (r : Response)
    → Handled s k x t r → Answers s k bytes t r
answered s k bytes x (proper, e) t r (inl h) = in_order x proper e h
answered s k bytes x (proper, e) t r (inr (out, same, unread)) =
    subst (λ v. Answers s k bytes v r) (sym same)
    (subst (λ v. Answers s k bytes s v) (sym unread)
    (unreadable (λ y proper_y e_y o. out (subst (InOrder s) (written_once y x proper_y proper (sym e_y ∙ e)) o))))

-- bytes that write no line are answered
pub answered_none : (k : ℕ) (bytes : List ℕ) (s : Stage) (a : Answer Stage) → a.left ≡ s → a.reply ≡ Err (Unreadable k)
    → ((x : Content) → Proper x → bytes ≡ written x → ⊥) → Answers (position s) k bytes (position a.left) (response a.reply)
answered_none k bytes s a e r none =
    subst (λ v. Answers (position s) k bytes (position v) (response a.reply)) (sym e)
    (subst (λ v. Answers (position s) k bytes (position s) (response v)) (sym r) (unreadable (λ x proper e o. none x proper e)))

pub open_phase : {F E : Type 0} {m : Ghosts F E} (u : Commission F E m) → phase u ≡ unsealed → ((v : _) → u ≡ Open v → ⊥) → ⊥
open_phase (Open v) e other = other v refl
open_phase (Generator v a) e other = let z : ◌≡◌ {A = ℕ} 0 1 = cc in omega arith
open_phase (Sealed v) e other = let z : ◌≡◌ {A = ℕ} 0 1 = cc in omega arith

-- the search for a root
pub root_answered : {E : Type 0} (o : Ops E) (f : E → List ℕ) (a : E) (n k : ℕ) (xs : List ℕ) (x : E) (r : Response) → xs ≡ f x → Finds o f x r
    → UnitHandled o f (sealed a n) k (find xs) (sealed a n) r
root_answered o f a n k xs x (accepted key) e h = absurd h
root_answered o f a n k xs x (found values) e (y, is, h) = inl (subst (λ v. UnitOutcome o f (sealed a n) (find xs) (sealed a n) (found v)) (sym is) (root_found x y e h))
root_answered o f a n k xs x (refused fault) e (inner, is, h) =
    inl (subst (λ v. UnitOutcome o f (sealed a n) (find xs) (sealed a n) (refused v)) (sym is) (root_refused x inner e h))
