-- What the progress of a unit tells of every day that it has lived.
use Rattle.std.proofs.Common.{◌≡◌, ℕ, ◌+◌, ◌<◌, ◌≤◌, ◌⊎◌, ◌↔◌, List, [], ◌∷◌, is_ok, sym, refl, ap, ◌∙◌, subst, inl, inr, ⊎_elim, arith}
use Rattle.std.proofs.lemmas.Bool.{cases_lt}
use Rattle.algebra.specs.Operations.{Ops}
use Rattle.unit.specs.Days.{Event, Accepted, Since, IsSteering, Loaded, InTurn, Grantable}
use Rattle.unit.specs.Orders.{Advances, Refused, Transition, wrong_state, block_count, opened, out_of_turn, not_corrected, taken, granted, released, Lived, sealed, ordered}
use Rattle.unit.specs.declared.faults.UnitFault.{UnitFault}
use Rattle.unit.specs.declared.progress.Progress.{Progress}
use Rattle.unit.specs.declared.states.Kind.{Kind}
use Rattle.unit.specs.declared.states.Kind.TheVariants.{Open, Block, Engage, Release}
use Rattle.unit.specs.declared.states.State.{State}
use Rattle.unit.specs.declared.states.State.TheVariants.{Parked, Loading, Ready, Steering}
use Rattle.unit.proofs.NextEvent.{loaded_same, loaded_open, loaded_block, loaded_engage, steering_same, steering_engage, steering_release}

-- blocks named by an opening are awaited, or all of them are there
abbrev pub Loads : State → Type 0
Loads s = (s ≡ Loading) ⊎ (s ≡ Ready)

pub parked_not_loads : {s : State} → s ≡ Parked → ¬ Loads s
parked_not_loads p (inl q) = cc
parked_not_loads p (inr q) = cc

steering_not_loads : {s : State} → s ≡ Steering → ¬ Loads s
steering_not_loads p (inl q) = cc
steering_not_loads p (inr q) = cc

-- the progress p sums up the day h
pub record Summary {E : Type 0} (h : List (Event E)) (p : Progress) : Type 0 where
  pub steering : IsSteering h ↔ (p.state ≡ Steering)
  pub loaded : (m c : ℕ) → Loaded h m c ↔ (Loads p.state × (p.named ≡ m) × (p.taken ≡ c))

module _ {E : Type 0} {h : List (Event E)} {p : Progress} (v : Summary h p) where
  pub turn_to : (k : ℕ) → InTurn h k → (p.state ≡ Loading) × (k ≡ p.taken)
  turn_to k (m, l, more) =
      let (loads, named, count) = (v.loaded m k).0 l in
      ⊎_elim (λ s. (s, sym count)) (λ s. absurd (omega (arith, p.full s))) loads

  pub turn_from : p.state ≡ Loading → InTurn h p.taken
  turn_from s = (p.named, (v.loaded p.named p.taken).1 (inl s, refl, refl), p.room s)

  pub grant_to : Grantable h → p.state ≡ Ready
  grant_to (m, l) =
      let (loads, named, count) = (v.loaded m m).0 l in
      ⊎_elim (λ s. absurd (omega (arith, p.room s))) (λ s. s) loads

  pub grant_from : p.state ≡ Ready → Grantable h
  grant_from s = (p.named, (v.loaded p.named p.named).1 (inr s, refl, p.full s))

advances_to_loads : (p q : Progress) (c : ℕ) → Advances p q c → p.taken < p.named → Loads q.state
advances_to_loads p q c a r =
    ⊎_elim (λ (l : p.taken + 1 < p.named). inl (a.more l)) (λ (l : p.named ≤ p.taken + 1). inr (a.last (omega arith))) (cases_lt (p.taken + 1) p.named)

-- an order that was refused is none that was accepted
pub refused_not_accepted : {E : Type 0} {p q : Progress} {e : Event E} {f : UnitFault} → Refused p q e f → (k : Kind) → ¬ Accepted k e
refused_not_accepted r k a = cc r.answer_is

module _ {E : Type 0} {h : List (Event E)} {p q : Progress} {e : Event E} where
  -- neither state nor counts change, and no order but a block was accepted
  unchanged : {f : UnitFault} → Refused p q e f → Summary h p → Summary (e ∷ h) q
  unchanged r v =
      let not = refused_not_accepted r in
      subst (Summary (e ∷ h)) (sym r.progress_is) (record {
        steering =
            let s = steering_same {h = h} {e = e} (not Engage) (not Release) in
            (λ x. v.steering.0 (s.0 x), λ x. s.1 (v.steering.1 x));
        loaded = λ m c.
            let s = loaded_same {h = h} {e = e} (not Open) (not Block) (not Engage) m c in
            (λ x. (v.loaded m c).0 (s.0 x), λ x. s.1 ((v.loaded m c).1 x));
      })

  -- one more order
  pub next_summary : {o : Ops E} {α : E} {n : ℕ} → Transition o α n p q e → Summary h p → Summary (e ∷ h) q
  next_summary (wrong_state _ r) v = unchanged r v
  next_summary (block_count _ _ _ r) v = unchanged r v
  next_summary (out_of_turn _ _ _ r) v = unchanged r v
  next_summary (not_corrected _ _ _ _ r) v = unchanged r v
  next_summary (opened k f _ a w _) v = record {
    steering = (
      λ s. absurd (f (v.steering.0 ((steering_same {h = h} {e = e} (λ x. cc) (λ x. cc)).0 s))),
      λ s. cc w.state_is,
    );
    loaded = λ m c.
        let s = loaded_open {h = h} {e = e} (k, ap is_ok a) m c in (
          λ x. (inl w.state_is, w.named_is ∙ (s.0 x).0, w.taken_is ∙ (s.0 x).1),
          λ x. s.1 (sym w.named_is ∙ x.1, sym w.taken_is ∙ x.2),
        );
  }
  next_summary (taken {c} k s _ _ a w) v =
      let loads = advances_to_loads p q c w (p.room s) in
      record {
        steering = (
          λ x. absurd (let is = v.steering.0 ((steering_same {h = h} {e = e} (λ x. cc) (λ x. cc)).0 x) in cc),
          λ x. absurd (steering_not_loads x loads),
        );
        loaded = λ m d.
            let t = loaded_block {h = h} {e = e} (k, ap is_ok a) (λ x. cc) (λ x. cc) m d in (
              λ x. let y = t.0 x in let z = (v.loaded m y.0).0 y.2 in (loads, w.named_is ∙ z.1, omega (arith, w.taken_is, y.1, z.2)),
              λ x. t.1 (p.taken, omega (arith, w.taken_is, x.2), (v.loaded m p.taken).1 (inl s, sym w.named_is ∙ x.1, refl)),
            );
      }
  next_summary (granted k s a w _) v = record {
    steering = (λ x. w.state_is, λ x. steering_engage (k, ap is_ok a));
    loaded = λ m c. (
      λ x. absurd (loaded_engage {h = h} {e = e} (k, ap is_ok a) (λ y. cc) m c x),
      λ x. absurd (steering_not_loads w.state_is x.0),
    );
  }
  next_summary (released k s a w _) v = record {
    steering = (
      λ x. absurd (steering_release {h = h} {e = e} (k, ap is_ok a) (λ y. cc) x),
      λ x. cc w.state_is,
    );
    loaded = λ m c.
        let t = loaded_same {h = h} {e = e} (λ y. cc) (λ y. cc) (λ y. cc) m c in (
          λ x. absurd (steering_not_loads s ((v.loaded m c).0 (t.0 x)).0),
          λ x. absurd (parked_not_loads w.state_is x.0),
        );
  }

none_yet : {E : Type 0} {k : Kind} {m : ℕ} {s : List (Event E)} → ¬ Since k [] m s
none_yet i = elim i [ ]

-- the progress of a unit sums up every day that it has lived
pub summary : {E : Type 0} {o : Ops E} {α : E} {n : ℕ} {h : List (Event E)} {p : Progress} → Lived o α n h p → Summary h p
summary (sealed s) = record {
  steering = (λ x. absurd (none_yet x.2), λ x. cc s.state_is);
  loaded = λ m c. (λ x. absurd (none_yet x.1), λ x. absurd (parked_not_loads s.state_is x.0));
}
summary (ordered l t) = next_summary t (summary l)
