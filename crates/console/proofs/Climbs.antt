-- Lines to a unit that may still step up, and what they stand for at a position.
use Rattle.std.proofs.Common.{◌≡◌, ℕ, suc, ◌<◌, List, Err, codes, Vec, sym, refl, ap, ◌∙◌, subst, inl, inr}
use Rattle.std.specs.declared.alloc.Global.{Global}
use Rattle.algebra.specs.Operations.{Ops}
use Rattle.algebra.specs.declared.Field.{Ghosts}
use Rattle.lines.specs.Lines.{Content, step, meant}
use Rattle.lines.specs.declared.Line.{Line}
use Rattle.lines.specs.declared.Line.TheVariants.{Step}
use Rattle.quadratic.specs.Pairs.{pairs}
use Rattle.quadratic.specs.Signs.{coordinates}
use Rattle.quadratic.specs.Towers.{Height}
use Rattle.algebra.specs.declared.faults.FieldFault.TheVariants.{NotNonsquare}
use Rattle.unit.specs.declared.faults.UnitFault.TheVariants as unit_fault
use Rattle.console.specs.Commissions.{field_of, phase}
use Rattle.console.specs.Conversation as conversation
use Rattle.console.specs.Conversation.{Phase, unsealed, Position, unit_on, Response, accepted, refused, UnitInOrder, InOrder, then_step, Outcome}
use Rattle.console.specs.Handling.{UnitHandled, Handled}
use Rattle.console.specs.Replies.{response}
use Rattle.console.specs.Steps as steps
use Rattle.console.specs.Steps.{Place, same, ground, place, placed, StepInOrder, StepOutcome, StepHandled}
use Rattle.console.specs.declared.commissions.Commission.{Commission}
use Rattle.console.specs.declared.faults.ShiftFault.TheVariants.{Unreadable, Unit}
use Rattle.console.specs.declared.replies.Answer.{Answer}
use Rattle.console.specs.declared.steps.Stepped.{Stepped}
use Rattle.console.specs.declared.steps.Stepped.TheVariants.{Same}
use Rattle.console.proofs.Outcomes.{no_step}

-- a line that is not in order leaves the unit as it was
pub step_out_of_order : {F E : Type 0} {m : Ghosts F E} (o : Ops E) (f : E → List ℕ) (x : Content) (k : ℕ) (u : Commission F E m) (a : Answer (Stepped F E m))
    → a.left ≡ Same u → a.reply ≡ Err (Unreadable k) → (StepInOrder f (phase u) x → ⊥)
    → StepHandled o f (phase u) k x (place a.left) (response a.reply) × (ground a.left ≡ field_of u)
step_out_of_order o f x k u a e r h = (inr (h, ap place e, ap response r), ap ground e)

module _ {E : Type 0} {f : E → List ℕ} where
  -- a step line is in order with an element, and before any other line to the unit
  pub step_element : {s : Phase E} {xs : List ℕ} → StepInOrder f s (step xs) → (s ≡ unsealed) × ((β : E) × (xs ≡ f β))
  step_element (steps.StepInOrder.then_step β open_still e) = (open_still, (β, e))
  step_element (steps.StepInOrder.unit_line u) = elim u [ ]

  unit_line_of : {s : Phase E} (l : Line) → ((v : Vec ℕ Global) → l ≡ Step v → ⊥) → (x : Content) → x ≡ meant l → StepInOrder f s x → UnitInOrder f s x
  unit_line_of l other x e (steps.StepInOrder.then_step {xs = xs} β open_still is) = absurd (no_step l other xs (sym e))
  unit_line_of l other x e (steps.StepInOrder.unit_line u) = u

  -- any other line is one to the unit
  pub unit_stepped : {s : Phase E} (o : Ops E) (k : ℕ) (l : Line) (t : Phase E) (r : Response) → ((v : Vec ℕ Global) → l ≡ Step v → ⊥)
      → UnitHandled o f s k (meant l) t r → StepHandled o f s k (meant l) (same t) r
  unit_stepped o k l t r other (inl h) = inl (steps.StepOutcome.unit_line h)
  unit_stepped o k l t r other (inr (out, kept, unread)) = inr (λ h. out (unit_line_of l other (meant l) refl h), ap same kept, unread)

pub answered_as_unit : {F E : Type 0} {m : Ghosts F E} (o : Ops E) (f : E → List ℕ) (k : ℕ) (l : Line) (u : Commission F E m) (b : Answer (Commission F E m)) (a : Answer (Stepped F E m))
    → ((v : Vec ℕ Global) → l ≡ Step v → ⊥) → a.left ≡ Same b.left → a.reply ≡ b.reply
    → UnitHandled o f (phase u) k (meant l) (phase b.left) (response b.reply) × (field_of b.left ≡ field_of u)
    → StepHandled o f (phase u) k (meant l) (place a.left) (response a.reply) × (ground a.left ≡ field_of u)
answered_as_unit o f k l u b a other left reply (h, kept) = (
  subst (λ p. StepHandled o f (phase u) k (meant l) p (response a.reply)) (sym (ap place left))
      (subst (StepHandled o f (phase u) k (meant l) (same (phase b.left))) (sym (ap response reply)) (unit_stepped o k l (phase b.left) (response b.reply) other h)),
  ap ground left ∙ kept,
)

module _ (n : ℕ) (o : Ops (Height n ℕ)) (few : n < 2) where
  outcome : {s : Phase (Height n ℕ)} {x : Content} {p : Place (Height n ℕ)} {r : Response}
      → StepOutcome o (coordinates n) s x p r → Outcome (unit_on n o s) x (placed n o p) r
  outcome (steps.StepOutcome.stepped {xs = xs} β open_still e h) =
      subst (λ v. Outcome (unit_on n o v) (step xs) (unit_on (suc n) (pairs o β) unsealed) (accepted (codes "step"))) (sym open_still)
      (conversation.Outcome.stepped β few e h)
  outcome (steps.StepOutcome.step_refused {xs = xs} β open_still e h) =
      subst (λ v. Outcome (unit_on n o v) (step xs) (unit_on n o unsealed) (refused (Unit (unit_fault.Field NotNonsquare)))) (sym open_still) (conversation.Outcome.step_refused β few e h)
  outcome (steps.StepOutcome.unit_line h) = conversation.Outcome.unit_line h

  in_order : {s : Phase (Height n ℕ)} {x : Content} → InOrder (unit_on n o s) x → StepInOrder (coordinates n) s x
  in_order (then_step β l e) = steps.StepInOrder.then_step β refl e
  in_order (conversation.InOrder.unit_line h) = steps.StepInOrder.unit_line h

  -- what comes of a line to the unit is what comes of it at the position
  pub handled : (q : Ops (Height n ℕ)) (s : Phase (Height n ℕ)) (x : Content) (k : ℕ) (r : Response) (p : Place (Height n ℕ)) (t : Position)
      → q ≡ o → t ≡ placed n q p → StepHandled o (coordinates n) s k x p r → Handled (unit_on n o s) k x t r
  handled q s x k r p t e at h = subst (λ v. Handled (unit_on n o s) k x v r) (sym (at ∙ ap (λ v. placed n v p) e)) (go h)
    where
      go : StepHandled o (coordinates n) s k x p r → Handled (unit_on n o s) k x (placed n o p) r
      go (inl h) = inl (outcome h)
      go (inr (out, kept, unread)) = inr (λ h. out (in_order h), ap (placed n o) kept, unread)
