-- An order has one outcome.
use Rattle.std.proofs.Common.{◌≡◌, ℕ, ◌+◌, ◌*◌, ◌<◌, ◌≤◌, ◌⊎◌, ◌≢◌, List, Ok, Err, Result, sym, refl, ap, ◌∙◌, subst, inl, inr, ⊎_elim, arith}
use mathlib.Core.HLevel.{is_prop→PathP}
use denote.Struct.Props.{props}
use Rattle.std.proofs.lemmas.Bool.{cases_lt}
use Rattle.algebra.specs.Laws.{Arithmetic}
use Rattle.algebra.specs.Operations.{Ops}
use Rattle.code.specs.Generator.{Generates}
use Rattle.code.specs.declared.faults.CodeFault.{CodeFault}
use Rattle.corrector.specs.Correction.{Corrected, Uncorrected}
use Rattle.corrector.proofs.Once.{corrected_once, uncorrected_once, not_both_corrected}
use Rattle.unit.specs.Days.{event}
use Rattle.unit.specs.Orders.{AllowedCount, Stands, Advances, Refused, Transition, wrong_state, block_count, opened, out_of_turn, not_corrected, taken, granted, released, OrderedOnce}
use Rattle.unit.specs.States.{Fits}
use Rattle.unit.specs.declared.faults.UnitFault.{UnitFault}
use Rattle.unit.specs.declared.faults.UnitFault.TheVariants as fault
use Rattle.unit.specs.declared.progress.Progress.{Progress}
use Rattle.unit.specs.declared.states.Kind.{Kind}
use Rattle.unit.specs.declared.states.Kind.TheVariants.{Open, Block, Engage, Release}
use Rattle.unit.specs.declared.states.State.{State}
use Rattle.unit.specs.declared.states.State.TheVariants.{Parked, Loading, Ready, Steering}

-- progress is equal where its state and its numbers are: the facts beside them have one proof each
pub progress_equal : (p q : Progress) → p.state ≡ q.state → p.named ≡ q.named → p.taken ≡ q.taken → p.changed ≡ q.changed → p ≡ q
progress_equal p q s a b c i = record {
  state = s i;
  named = a i;
  taken = b i;
  changed = c i;
  most = is_prop→PathP (λ j. a j ≤ 4096) (λ j. hlevel props) p.most q.most i;
  below = is_prop→PathP (λ j. b j ≤ a j) (λ j. hlevel props) p.below q.below i;
  few = is_prop→PathP (λ j. c j ≤ 2 * b j) (λ j. hlevel props) p.few q.few i;
  room = is_prop→PathP (λ j. s j ≡ Loading → b j < a j) (λ j. hlevel props) p.room q.room i;
  full = is_prop→PathP (λ j. s j ≡ Ready → b j ≡ a j) (λ j. hlevel props) p.full q.full i;
}

pub stands_once : {p q : Progress} {s : State} {m t c : ℕ} → Stands p s m t c → Stands q s m t c → p ≡ q
stands_once {p} {q} h k = progress_equal p q (cc) (cc) (cc) (cc)

advances_once : {p q q' : Progress} {c : ℕ} → p.state ≡ Loading → Advances p q c → Advances p q' c → q ≡ q'
advances_once {p} {q} {q'} loading h k =
    let same : q.state ≡ q'.state =
    ⊎_elim (λ l. h.more l ∙ sym (k.more l)) (λ g. let e : p.taken + 1 ≡ p.named = omega (arith, p.room loading) in h.last e ∙ sym (k.last e)) (cases_lt (p.taken + 1) p.named) in
    progress_equal q q' same (cc) (cc) (cc)

module _ {E : Type 0} (o : Ops E) (α : E) (n : ℕ) (p : Progress) (m : ℕ) (b : List E) where
  -- a refusal with the fault, and what an accepted order leaves that changes no block
  abbrev Refusal : UnitFault → Progress → List E → Result ℕ UnitFault → Type 0
  Refusal f q left r = (q ≡ p) × (left ≡ b) × (r ≡ Err f)

  abbrev Move : State → ℕ → ℕ → ℕ → Progress → List E → Result ℕ UnitFault → Type 0
  Move s named count changed q left r = Stands q s named count changed × (left ≡ b) × (r ≡ Ok 0)

  -- what an order of a kind that fits the state leaves
  abbrev Fitting : Kind → Progress → List E → Result ℕ UnitFault → Type 0
  Fitting Open q left r = (¬ AllowedCount m × Refusal (fault.BlockCount m) q left r) ⊎ (AllowedCount m × Move Loading m 0 0 q left r)
  Fitting Block q left r =
      ((m ≢ p.taken) × Refusal (fault.OutOfTurn m) q left r)
      ⊎ ((m ≡ p.taken) × (((f : CodeFault) × Uncorrected o α n b left f × Refusal (fault.Block m f) q left r) ⊎ ((c : ℕ) × Corrected o α n b left c × Advances p q c × (r ≡ Ok c))))
  Fitting Engage q left r = Move Steering p.named p.taken p.changed q left r
  Fitting Release q left r = Move Parked p.named p.taken p.changed q left r

  abbrev Outcome : Kind → Progress → List E → Result ℕ UnitFault → Type 0
  Outcome k q left r = (¬ Fits k p.state × Refusal (fault.WrongState p.state) q left r) ⊎ (Fits k p.state × Fitting k q left r)

  module _ {k : Kind} {q : Progress} {left : List E} {r : Result ℕ UnitFault} where
    refusal : {f : UnitFault} → Refused p q (event k m b left r) f → Refusal f q left r
    refusal x = (x.progress_is, x.block_is, x.answer_is)

    fitting : {j : Kind} → k ≡ j → Fits j p.state × Fitting j q left r → Outcome k q left r
    fitting is x = subst (λ v. Outcome v q left r) (sym is) (inr x)

    outcome : Transition o α n p q (event k m b left r) → Outcome k q left r
    outcome (wrong_state f x) = inl (f, refusal x)
    outcome (block_count is f range x) = fitting is (f, inl (range, refusal x))
    outcome (opened is f range a s l) = fitting is (f, inr (range, (s, l, a)))
    outcome (out_of_turn is s other x) = fitting is (s, inl (other, refusal x))
    outcome (not_corrected {f} is s turn u x) = fitting is (s, inr (turn, inl (f, u, refusal x)))
    outcome (taken {c} is s turn w a x) = fitting is (s, inr (turn, inr (c, w, x, a)))
    outcome (granted is s a x l) = fitting is (s, (x, l, a))
    outcome (released is s a x l) = fitting is (s, (x, l, a))

  abbrev Same : Progress → Progress → List E → List E → Result ℕ UnitFault → Result ℕ UnitFault → Type 0
  Same q q' left left' r r' = (q ≡ q') × (left ≡ left') × (r ≡ r')

  module _ {q q' : Progress} {left left' : List E} {r r' : Result ℕ UnitFault} where
    refused_once : {f g : UnitFault} → f ≡ g → Refusal f q left r → Refusal g q' left' r' → Same q q' left left' r r'
    refused_once e (h, l, a) (h', l', a') = (h ∙ sym h', l ∙ sym l', a ∙ ap Err e ∙ sym a')

    moved_once : {s : State} {x y z : ℕ} → Move s x y z q left r → Move s x y z q' left' r' → Same q q' left left' r r'
    moved_once (h, l, a) (h', l', a') = (stands_once h h', l ∙ sym l', a ∙ sym a')

    module _ (l : Arithmetic o) (generates : Generates o α n) where
      fitting_once : (k : Kind) → Fits k p.state → Fitting k q left r → Fitting k q' left' r' → Same q q' left left' r r'
      fitting_once Open fits (inl (_, x)) (inl (_, y)) = refused_once refl x y
      fitting_once Open fits (inl (out, _)) (inr (range, _)) = absurd (out range)
      fitting_once Open fits (inr (range, _)) (inl (out, _)) = absurd (out range)
      fitting_once Open fits (inr (_, x)) (inr (_, y)) = moved_once x y
      fitting_once Block fits (inl (_, x)) (inl (_, y)) = refused_once refl x y
      fitting_once Block fits (inl (out, _)) (inr (turn, _)) = absurd (out turn)
      fitting_once Block fits (inr (turn, _)) (inl (out, _)) = absurd (out turn)
      fitting_once Block fits (inr (_, inl (f, u, x))) (inr (_, inl (g, v, y))) = refused_once (ap (fault.Block m) (uncorrected_once o α n b f g u.due v.due)) x y
      fitting_once Block fits (inr (_, inl (f, u, _))) (inr (_, inr (c, w, _, _))) = absurd (not_both_corrected o α n b left' c f w u.due)
      fitting_once Block fits (inr (_, inr (c, w, _, _))) (inr (_, inl (f, u, _))) = absurd (not_both_corrected o α n b left c f w u.due)
      fitting_once Block fits (inr (_, inr (c, w, s, a))) (inr (_, inr (c', w', s', a'))) =
          let (same, count) = corrected_once o α n b l generates left left' c c' w w' in
          (advances_once fits s (subst (Advances p q') (sym count) s'), same, a ∙ ap Ok count ∙ sym a')
      fitting_once Engage fits x y = moved_once x y
      fitting_once Release fits x y = moved_once x y

      outcome_once : (k : Kind) → Outcome k q left r → Outcome k q' left' r' → Same q q' left left' r r'
      outcome_once k (inl (_, x)) (inl (_, y)) = refused_once refl x y
      outcome_once k (inl (out, _)) (inr (fits, _)) = absurd (out fits)
      outcome_once k (inr (fits, _)) (inl (out, _)) = absurd (out fits)
      outcome_once k (inr (fits, x)) (inr (_, y)) = fitting_once k fits x y

pub ordered_once : {E : Type 0} (o : Ops E) → Arithmetic o → OrderedOnce o
ordered_once o l α n generates k m b p q q' left left' r r' t u = outcome_once o α n p m b l generates k (outcome o α n p m b t) (outcome o α n p m b u)
