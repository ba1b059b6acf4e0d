-- The law at each order of a day.
use Rattle.std.proofs.Common.{◌≡◌, ℕ, true, List, ◌∷◌, length, is_ok, Ok, ◌↔◌, ap, sym, subst}
use Rattle.algebra.specs.Laws.{Laws}
use Rattle.algebra.specs.Operations.{Ops}
use Rattle.algebra.specs.Roots.{Rooted}
use Rattle.algebra.specs.declared.Field.{Ghosts}
use Rattle.quadratic.proofs.Heights.{towers_keep_laws}
use Rattle.code.specs.Blocks.{Elements}
use Rattle.corrector.specs.Correction.{Corrected}
use Rattle.corrector.proofs.Once.{refused_far}
use Rattle.unit.specs.Days.{Event, Accepted, IsSteering, InTurn, Grantable, Throughout}
use Rattle.unit.specs.Law.{Near, FieldLaw, BlockLaw, OrderLaw, Ordered}
use Rattle.unit.specs.Orders.{AllowedCount, Refused, Transition, wrong_state, block_count, opened, out_of_turn, not_corrected, taken, granted, released, Lived, sealed, ordered, Same}
use Rattle.unit.specs.States.{Fits}
use Rattle.unit.specs.declared.faults.UnitFault.{UnitFault}
use Rattle.unit.specs.declared.progress.Progress.{Progress}
use Rattle.unit.specs.declared.states.Kind.{Kind}
use Rattle.unit.specs.declared.states.Kind.TheVariants.{Open, Block, Engage, Release}
use Rattle.unit.specs.declared.units.Sealed.{Sealed}
use Rattle.unit.proofs.Summary.{Summary, turn_to, turn_from, grant_to, grant_from, summary}

module _ {E : Type 0} (o : Ops E) (α : E) (n : ℕ) (h : List (Event E)) (e : Event E) where
  abbrev OkAnswer : Type 0
  OkAnswer = is_ok e.answer ≡ true

  -- the law at e, if it is of the kind
  abbrev Rule : Kind → Type 0
  Rule Open = OkAnswer ↔ (¬ IsSteering h × AllowedCount e.number)
  Rule Block =
      (OkAnswer ↔ (InTurn h e.number × (length e.offered ≡ n) × Elements o e.offered × Near o α n e.offered))
      × ((c : ℕ) → e.answer ≡ Ok c → Corrected o α n e.offered e.left c)
  Rule Engage = OkAnswer ↔ Grantable h
  Rule Release = OkAnswer ↔ IsSteering h

  of_kind : {k : Kind} {A : Type 0} → e.kind ≡ k → OkAnswer ↔ A → Accepted k e ↔ A
  of_kind q r = (λ a. r.0 a.1, λ x. (q, r.1 x))

  module _ {p q : Progress} (v : Summary h p) where
    not_ok : {f : UnitFault} → Refused p q e f → ¬ OkAnswer
    not_ok r a = cc r.answer_is

    -- the law of each kind, where the order does not fit the state
    unfit : {f : UnitFault} → Refused p q e f → (k : Kind) → ¬ Fits k p.state → Rule k
    unfit r Open f = (λ s. absurd (not_ok r s), λ x. absurd (f (λ s. x.0 (v.steering.1 s))))
    unfit r Block f = ((λ s. absurd (not_ok r s), λ x. absurd (f (turn_to v _ x.0).0)), λ c w. cc r.answer_is)
    unfit r Engage f = (λ s. absurd (not_ok r s), λ x. absurd (f (grant_to v x)))
    unfit r Release f = (λ s. absurd (not_ok r s), λ x. absurd (f (v.steering.0 x)))

    rule : Transition o α n p q e → Rule e.kind
    rule (wrong_state f r) = unfit r e.kind f
    rule (block_count k f m r) = subst Rule (sym k) (λ s. absurd (not_ok r s), λ x. absurd (m x.1))
    rule (opened k f m a _ _) = subst Rule (sym k) (λ s. (λ x. f (v.steering.0 x), m), λ x. ap is_ok a)
    rule (out_of_turn k s m r) =
        subst Rule (sym k) ((λ s. absurd (not_ok r s), λ x. absurd (m (turn_to v _ x.0).1)), λ c w. cc r.answer_is)
    rule (not_corrected {f} k s m b r) =
        subst Rule (sym k)
        ((λ s. absurd (not_ok r s), λ x. absurd (refused_far o α n e.offered f b.due x.1 x.2 x.3.0 x.3.1 x.3.2)), λ c w. cc r.answer_is)
    rule (taken {c} k s m b a _) =
        subst Rule (sym k) (
          (λ _. (subst (InTurn h) (sym m) (turn_from v s), b.long, b.inside, (e.left, b.word, b.near)), λ _. ap is_ok a),
          λ d w. let same : c ≡ d = cc in subst (Corrected o α n e.offered e.left) same b,
        )
    rule (granted k s a _ _) = subst Rule (sym k) (λ _. grant_from v s, λ _. ap is_ok a)
    rule (released k s a _ _) = subst Rule (sym k) (λ _. v.steering.1 s, λ _. ap is_ok a)

    left_kept : Transition o α n p q e → ¬ Accepted Block e → e.left ≡ e.offered
    left_kept (wrong_state _ r) _ = r.block_is
    left_kept (block_count _ _ _ r) _ = r.block_is
    left_kept (out_of_turn _ _ _ r) _ = r.block_is
    left_kept (not_corrected _ _ _ _ r) _ = r.block_is
    left_kept (opened _ _ _ _ _ b) _ = b
    left_kept (granted _ _ _ _ b) _ = b
    left_kept (released _ _ _ _ b) _ = b
    left_kept (taken k _ _ _ a _) not_taken = absurd (not_taken (k, ap is_ok a))

    pub block_law : Transition o α n p q e → BlockLaw o α n h e
    block_law t = record {
      taken = λ k. of_kind k (subst Rule k (rule t)).0;
      corrected = λ c k a. (subst Rule k (rule t)).1 c a;
      kept = left_kept t;
    }

    pub order_law : Transition o α n p q e → OrderLaw h e
    order_law t = record {
      opening = λ k. of_kind k (subst Rule k (rule t));
      engage = λ k. of_kind k (subst Rule k (rule t));
      release = λ k. of_kind k (subst Rule k (rule t));
    }

-- what holds of a field, a generator and a length holds of equal ones
pub along : {F E : Type 0} {f g : F} {a b : E} {m n : ℕ} → g ≡ f → b ≡ a → n ≡ m → (P : F → E → ℕ → Type 0) → P f a m → P g b n
along {g = g} {a = a} {b = b} {m = m} p q r P x =
    subst (P g b) (sym r) (subst (λ c. P g c m) (sym q) (subst (λ h. P h a m) (sym p) x))

pub field_law : {E : Type 0} (o : Ops E) → Laws o → Rooted o → FieldLaw o
field_law o laws rooted = record { laws = laws; rooted = rooted; towers = towers_keep_laws o laws rooted }

-- all that is said of an order follows from what it did
pub by_transition : {F E : Type 0} {m : Ghosts F E} → ((f : F) → Laws (m.ops f)) → ((f : F) → Rooted (m.ops f))
    → {u v : Sealed F E m} {e : Event E} → Same u v → Transition (m.ops u.field) u.alpha u.length u.progress v.progress e → Ordered u v e
by_transition {m = m} laws rooted {u} {v} {e} s t =
    let o = m.ops u.field in
    record {
      same = s;
      transition = t;
      lived = λ h l. along s.field_is s.alpha_is s.length_is (λ f a n. Lived (m.ops f) a n (e ∷ h) v.progress) (ordered l t);
      field = field_law o (laws u.field) (rooted u.field);
      blocks = λ h l. block_law o u.alpha u.length h e (summary l) t;
      orders = λ h l. order_law o u.alpha u.length h e (summary l) t;
    }

-- the law holds at every order of a day that a unit has lived
module _ {E : Type 0} {o : Ops E} {α : E} {n : ℕ} where
  pub blocks_throughout : {h : List (Event E)} {p : Progress} → Lived o α n h p → Throughout (BlockLaw o α n) h
  blocks_throughout (sealed s) = tt
  blocks_throughout (ordered l t) = (block_law o α n _ _ (summary l) t, blocks_throughout l)

  pub orders_throughout : {h : List (Event E)} {p : Progress} → Lived o α n h p → Throughout OrderLaw h
  orders_throughout (sealed s) = tt
  orders_throughout (ordered l t) = (order_law o α n _ _ (summary l) t, orders_throughout l)
