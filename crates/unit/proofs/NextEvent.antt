-- How what is said of a day changes with one more event.
use Rattle.std.proofs.Common.{◌≡◌, ℕ, suc, ◌↔◌, List, [], ◌∷◌, refl, subst}
use Rattle.unit.specs.Days.{Event, Accepted, here, later, none, one, skip, IsSteering, Loaded}
use Rattle.unit.specs.declared.states.Kind.TheVariants.{Open, Block, Engage, Release}

module _ {E : Type 0} {h : List (Event E)} {e : Event E} where
  same_to : ¬ Accepted Open e → ¬ Accepted Block e → {m c : ℕ} → Loaded (e ∷ h) m c → Loaded h m c
  same_to p q (_, here a, x, y) = absurd (p a)
  same_to p q (_, later n i, x, one a y) = absurd (q a)
  same_to p q (_, later n i, x, skip b y) = (_, i, x.1, y)

  -- neither an opening, nor a block, nor an engage order was accepted
  pub loaded_same : ¬ Accepted Open e → ¬ Accepted Block e → ¬ Accepted Engage e → (m c : ℕ) → Loaded (e ∷ h) m c ↔ Loaded h m c
  loaded_same p q r m c = (same_to p q, λ l. (e ∷ l.0, later p l.1, (r, l.2), skip q l.3))

  open_to : Accepted Open e → {m c : ℕ} → Loaded (e ∷ h) m c → (e.number ≡ m) × (◌≡◌ {A = ℕ} 0 c)
  open_to a (_, here b, x, none) = (refl, refl)
  open_to a (_, later n i, x, y) = absurd (n a)

  pub loaded_open : Accepted Open e → (m c : ℕ) → Loaded (e ∷ h) m c ↔ ((e.number ≡ m) × (◌≡◌ {A = ℕ} 0 c))
  loaded_open a m c =
      (open_to a, λ l. subst (λ m. Loaded (e ∷ h) m c) l.0 (subst (Loaded (e ∷ h) e.number) l.1 ([], here a, tt, none)))

  block_to : Accepted Block e → ¬ Accepted Open e → {m c : ℕ} → Loaded (e ∷ h) m c → (d : ℕ) × (suc d ≡ c) × Loaded h m d
  block_to a p (_, here b, x, y) = absurd (p b)
  block_to a p (_, later n i, x, one b y) = (_, refl, (_, i, x.1, y))
  block_to a p (_, later n i, x, skip b y) = absurd (b a)

  pub loaded_block : Accepted Block e → ¬ Accepted Open e → ¬ Accepted Engage e → (m c : ℕ)
      → Loaded (e ∷ h) m c ↔ ((d : ℕ) × (suc d ≡ c) × Loaded h m d)
  loaded_block a p r m c =
      (block_to a p, λ l. subst (Loaded (e ∷ h) m) l.1 (e ∷ l.2.0, later p l.2.1, (r, l.2.2), one a l.2.3))

  pub loaded_engage : Accepted Engage e → ¬ Accepted Open e → (m c : ℕ) → ¬ Loaded (e ∷ h) m c
  loaded_engage a p m c (_, here b, x, y) = p b
  loaded_engage a p m c (_, later n i, x, y) = x.0 a

  pub steering_same : ¬ Accepted Engage e → ¬ Accepted Release e → IsSteering (e ∷ h) ↔ IsSteering h
  steering_same p q = (to, λ l. (l.0, e ∷ l.1, later p l.2, (q, l.3)))
    where
      to : IsSteering (e ∷ h) → IsSteering h
      to (_, _, here a, x) = absurd (p a)
      to (_, _, later n i, x) = (_, _, i, x.1)

  pub steering_engage : Accepted Engage e → IsSteering (e ∷ h)
  steering_engage a = (e.number, [], here a, tt)

  pub steering_release : Accepted Release e → ¬ Accepted Engage e → ¬ IsSteering (e ∷ h)
  steering_release a p (_, _, here b, x) = p b
  steering_release a p (_, _, later n i, x) = x.0 a
