-- Every input has one list of responses: each line has one answer, at positions whose field keeps the laws, as every session's does.
use Rattle.std.proofs.Common.{◌≡◌, ℕ, suc, ◌<◌, ◌≤◌, true, false, ◌⊎◌, List, [], ◌∷◌, ◌++◌, length, get_or, sym, refl, ap, ◌∙◌, subst, ap₂, inl, inr, arith}
use Rattle.std.proofs.lemmas.List.{length-append, get_or_append_left, get_or_at}
use Rattle.std.specs.Str.Iter.{LacksByte}
use Rattle.algebra.proofs.Products.{root_unique}
use Rattle.algebra.specs.Laws.{Laws}
use Rattle.algebra.specs.Operations.{Ops, In}
use Rattle.algebra.specs.Refusals.{RefusesRoot}
use Rattle.algebra.specs.Roots.{RootOf}
use Rattle.algebra.specs.declared.faults.FieldFault.{FieldFault}
use Rattle.algebra.specs.declared.faults.FieldFault.TheVariants.{UnlistedModulus, NotNonresidue, NotNonsquare, NotElement, NoRoot}
use Rattle.lines.proofs.Cuts.{cut_unique, no_cut}
use Rattle.lines.proofs.Once.{written_once}
use Rattle.lines.specs.Lines.{Content}
use Rattle.prime_field.specs.Proofs.ListedPrimes.{listed_prime, listed_odd}
use Rattle.prime_field.specs.Proofs.ModularLaws.{modular_laws}
use Rattle.prime_field.specs.Making.{Listed, Nonresidue, RefusesMaking}
use Rattle.quadratic.specs.Proofs.PairLaws.{pair_laws}
use Rattle.quadratic.specs.Pairs.{Nonsquare, pairs}
use Rattle.quadratic.specs.Signs.{coordinates}
use Rattle.unit.specs.Sealing.{Allowed, AllowedLength, RefusesSealing}
use Rattle.code.specs.Generator.{Generates}
use Rattle.unit.specs.declared.faults.UnitFault.{UnitFault}
use Rattle.unit.specs.declared.faults.UnitFault.TheVariants as unit_fault
use Rattle.console.proofs.Coordinated.{coordinates_once}
use Rattle.console.specs.Conversation as conversation
use Rattle.console.specs.Conversation.{Phase, unsealed, alpha_given, sealed, Position, begun, prime_given, unit_on, Response, accepted, found, refused, ends, UnitInOrder, then_alpha, then_length, then_find, UnitOutcome, alpha_kept, sealed_with, not_sealed, root_found, root_refused, InOrder, prime_first, then_nonresidue, then_step, Outcome, prime_listed, prime_unlisted, field_made, field_refused, stepped, step_refused, Answers, in_order, unreadable}
use Rattle.console.specs.Sessions.{Session, over, last, line, end, too_long, longest, line_after, AnsweredOnce}
use Rattle.console.specs.declared.faults.ShiftFault.TheVariants.{Field, Unit as OfUnit}

-- the prime is listed, and the field keeps the laws
abbrev Fit : Position → Type 0
Fit begun = Unit {0}
Fit (prime_given p) = Listed p
Fit (unit_on n o s) = Laws o

-- each refusal is due for one reason
unmade_once : (p r : ℕ) → Listed p → (e : FieldFault) → RefusesMaking p r e → (e ≡ NotNonresidue) × (Nonresidue p r → ⊥)
unmade_once p r l UnlistedModulus h = absurd (h l)
unmade_once p r l NotNonresidue h = (refl, h.1)
unmade_once p r l NotNonsquare h = absurd h
unmade_once p r l NotElement h = absurd h
unmade_once p r l NoRoot h = absurd h

module _ {E : Type 0} (o : Ops E) where
  unsealed_reason : (a : E) (n : ℕ) (e : UnitFault) → RefusesSealing o a n e
      → ((e ≡ unit_fault.BlockLength) × (AllowedLength n → ⊥)) ⊎ ((e ≡ unit_fault.Generator) × AllowedLength n × (Generates o a n → ⊥))
  unsealed_reason a n (unit_fault.Field f) h = absurd h
  unsealed_reason a n unit_fault.BlockLength h = inl (refl, h)
  unsealed_reason a n unit_fault.Generator h = inr (refl, h.0, h.1)
  unsealed_reason a n (unit_fault.WrongState s) h = absurd h
  unsealed_reason a n (unit_fault.BlockCount m) h = absurd h
  unsealed_reason a n (unit_fault.OutOfTurn k) h = absurd h
  unsealed_reason a n (unit_fault.Block k f) h = absurd h

  unsealed_once : (a : E) (n : ℕ) (e f : UnitFault) → RefusesSealing o a n e → RefusesSealing o a n f → e ≡ f
  unsealed_once a n e f h k =
      elim (unsealed_reason a n e h) [
        | inl (i, short) ↦ elim (unsealed_reason a n f k) [ inl (j, _) ↦ i ∙ sym j | inr (j, long, _) ↦ absurd (short long) ]
        | inr (i, long, _) ↦ elim (unsealed_reason a n f k) [ inl (j, short) ↦ absurd (short long) | inr (j, _, _) ↦ i ∙ sym j ]
      ]

  not_both_sealed : (a : E) (n : ℕ) (e : UnitFault) → Allowed o a n → RefusesSealing o a n e → ⊥
  not_both_sealed a n e h k =
      elim (unsealed_reason a n e k) [ inl (_, short) ↦ short h.0 | inr (_, _, none) ↦ none h.1 ]

  rootless_reason : (x : E) (e : FieldFault) → RefusesRoot o x e → ((e ≡ NotElement) × (In o x → ⊥)) ⊎ ((e ≡ NoRoot) × In o x × ((y : E) → RootOf o x y → ⊥))
  rootless_reason x UnlistedModulus h = absurd h
  rootless_reason x NotNonresidue h = absurd h
  rootless_reason x NotNonsquare h = absurd h
  rootless_reason x NotElement h = inl (refl, h)
  rootless_reason x NoRoot h = inr (refl, h.0, λ y r. h.1 (y, r.inside, r.squares))

  rootless_once : (x : E) (e f : FieldFault) → RefusesRoot o x e → RefusesRoot o x f → e ≡ f
  rootless_once x e f h k =
      elim (rootless_reason x e h) [
        | inl (i, out) ↦ elim (rootless_reason x f k) [ inl (j, _) ↦ i ∙ sym j | inr (j, inside, _) ↦ absurd (out inside) ]
        | inr (i, inside, _) ↦ elim (rootless_reason x f k) [ inl (j, out) ↦ absurd (out inside) | inr (j, _, _) ↦ i ∙ sym j ]
      ]

  not_both_rooted : Laws o → (x y : E) (e : FieldFault) → RootOf o x y → RefusesRoot o x e → ⊥
  not_both_rooted laws x y e r h =
      elim (rootless_reason x e h) [
        | inl (_, out) ↦ out (subst (In o) r.squares (laws.arithmetic.mul_in y y r.inside r.inside))
        | inr (_, _, none) ↦ none y r
      ]

-- a line to a unit has one outcome, where coordinates tell elements apart
unit_once : {E : Type 0} (o : Ops E) (f : E → List ℕ) → ((x y : E) → f x ≡ f y → x ≡ y) → Laws o
    → {s t u : Phase E} {x : Content} {r q : Response} → UnitOutcome o f s x t r → UnitOutcome o f s x u q → (t ≡ u) × (r ≡ q)
unit_once o f once laws (alpha_kept a e) (alpha_kept b e') = (ap alpha_given (once a b (sym e ∙ e')), refl)
unit_once o f once laws (sealed_with h) (sealed_with k) = (refl, refl)
unit_once o f once laws (sealed_with {a = a} {n = n} h) (not_sealed e k) = absurd (not_both_sealed o a n e h k)
unit_once o f once laws (not_sealed {a = a} {n = n} e h) (sealed_with k) = absurd (not_both_sealed o a n e k h)
unit_once o f once laws (not_sealed {a = a} {n = n} e h) (not_sealed e' k) = (refl, ap (λ v. refused (OfUnit v)) (unsealed_once o a n e e' h k))
unit_once o f once laws (root_found x y e h) (root_found x' y' e' k) =
    let h' = subst (λ v. RootOf o v y) (once x x' (sym e ∙ e')) h in
    (refl, ap (λ v. found (f v)) (root_unique laws x' y y' h' k))
unit_once o f once laws (root_found x y e h) (root_refused x' fault e' k) =
    absurd (not_both_rooted o laws x' y fault (subst (λ v. RootOf o v y) (once x x' (sym e ∙ e')) h) k)
unit_once o f once laws (root_refused x fault e h) (root_found x' y e' k) =
    absurd (not_both_rooted o laws x y fault (subst (λ v. RootOf o v y) (once x' x (sym e' ∙ e)) k) h)
unit_once o f once laws (root_refused x fault e h) (root_refused x' fault' e' k) =
    (refl, ap (λ v. refused (Field v)) (rootless_once o x' fault fault' (subst (λ v. RefusesRoot o v fault) (once x x' (sym e ∙ e')) h) k))

unit_in_order : {E : Type 0} (o : Ops E) (f : E → List ℕ) {s t : Phase E} {x : Content} {r : Response} → UnitOutcome o f s x t r → UnitInOrder f s x
unit_in_order o f (alpha_kept a e) = then_alpha a e
unit_in_order o f (sealed_with h) = then_length
unit_in_order o f (not_sealed e h) = then_length
unit_in_order o f (root_found x y e h) = then_find x e
unit_in_order o f (root_refused x fault e h) = then_find x e

-- a step line is no line to a unit
no_unit_step : {E : Type 0} {o : Ops E} {f : E → List ℕ} {s t : Phase E} {xs : List ℕ} {r : Response} → UnitOutcome o f s (Content.step xs) t r → ⊥
no_unit_step h = elim h [ ]

-- a line that is in order has one outcome
outcome_once : {s : Position} {x : Content} {t u : Position} {r q : Response} → Fit s → Outcome s x t r → Outcome s x u q → (t ≡ u) × (r ≡ q)
outcome_once l (prime_listed h) (prime_listed k) = (refl, refl)
outcome_once l (prime_listed h) (prime_unlisted k) = absurd (k h)
outcome_once l (prime_unlisted h) (prime_listed k) = absurd (h k)
outcome_once l (prime_unlisted h) (prime_unlisted k) = (refl, refl)
outcome_once l (field_made w h) (field_made v k) = (refl, refl)
outcome_once l (field_made {p = p} {r = r} w h) (field_refused e k) = absurd ((unmade_once p r l e k).1 h)
outcome_once l (field_refused {p = p} {r = r} e h) (field_made w k) = absurd ((unmade_once p r l e h).1 k)
outcome_once l (field_refused {p = p} {r = r} e h) (field_refused f k) =
    (refl, ap (λ v. refused (Field v)) ((unmade_once p r l e h).0 ∙ sym (unmade_once p r l f k).0))
outcome_once l (stepped {n = n} {o = o} β b e h) (stepped β' b' e' k) = (ap (λ v. unit_on (suc n) (pairs o v) unsealed) (coordinates_once n β β' (sym e ∙ e')), refl)
outcome_once l (stepped {n = n} {o = o} β b e h) (step_refused β' b' e' k) = absurd (k (subst (Nonsquare o) (coordinates_once n β β' (sym e ∙ e')) h))
outcome_once l (stepped β b e h) (conversation.Outcome.unit_line k) = absurd (no_unit_step k)
outcome_once l (step_refused {n = n} {o = o} β b e h) (stepped β' b' e' k) = absurd (h (subst (Nonsquare o) (coordinates_once n β' β (sym e' ∙ e)) k))
outcome_once l (step_refused β b e h) (step_refused β' b' e' k) = (refl, refl)
outcome_once l (step_refused β b e h) (conversation.Outcome.unit_line k) = absurd (no_unit_step k)
outcome_once l (conversation.Outcome.unit_line h) (stepped β b e k) = absurd (no_unit_step h)
outcome_once l (conversation.Outcome.unit_line h) (step_refused β b e k) = absurd (no_unit_step h)
outcome_once l (conversation.Outcome.unit_line {n = n} {o = o} h) (conversation.Outcome.unit_line k) =
    let (phase, response) = unit_once o (coordinates n) (coordinates_once n) l h k in
    (ap (unit_on n o) phase, response)

outcome_in_order : {s : Position} {x : Content} {t : Position} {r : Response} → Outcome s x t r → InOrder s x
outcome_in_order (prime_listed h) = prime_first
outcome_in_order (prime_unlisted h) = prime_first
outcome_in_order (field_made w h) = then_nonresidue
outcome_in_order (field_refused e h) = then_nonresidue
outcome_in_order (stepped β b e h) = then_step β b e
outcome_in_order (step_refused β b e h) = then_step β b e
outcome_in_order (conversation.Outcome.unit_line {n = n} {o = o} h) = conversation.InOrder.unit_line (unit_in_order o (coordinates n) h)

fit_after : {s : Position} {x : Content} {t : Position} {r : Response} → Fit s → Outcome s x t r → Fit t
fit_after l (prime_listed h) = h
fit_after l (prime_unlisted h) = tt
fit_after l (field_made {p = p} w h) = modular_laws p (listed_prime p w) (listed_odd p w)
fit_after l (field_refused e h) = l
fit_after l (stepped {o = o} β b e h) = pair_laws l β h
fit_after l (step_refused β b e h) = l
fit_after l (conversation.Outcome.unit_line h) = l

fit_answer : {s : Position} {k : ℕ} {b : List ℕ} {t : Position} {r : Response} → Fit s → Answers s k b t r → Fit t
fit_answer l (in_order x p e h) = fit_after l h
fit_answer l (unreadable h) = l

-- the bytes of a line have one answer
answers_once : (s : Position) (k : ℕ) (b : List ℕ) (t u : Position) (r q : Response) → Fit s → Answers s k b t r → Answers s k b u q → (t ≡ u) × (r ≡ q)
answers_once s k b t u r q l (in_order x p e h) (in_order y p' e' h') =
    outcome_once l h (subst (λ v. Outcome s v u q) (sym (written_once x y p p' (sym e ∙ e'))) h')
answers_once s k b t u r q l (in_order x p e h) (unreadable f) = absurd (f x p e (outcome_in_order h))
answers_once s k b t u r q l (unreadable f) (in_order y p' e' h') = absurd (f y p' e' (outcome_in_order h'))
answers_once s k b t u r q l (unreadable f) (unreadable f') = (refl, refl)

-- a line of an allowed length is no beginning of one that is too long
not_both_long : (l rest m more : List ℕ) → length l ≤ longest → longest < length m → LacksByte 10 m → l ++ 10 ∷ rest ≡ m ++ more → ⊥
not_both_long l rest m more short long free e =
    free (length l) (omega arith) (sym (get_or_append_left m more 0 (length l) (omega arith)) ∙ ap (λ x. get_or x (length l) 0) (sym e) ∙ get_or_at l 10 rest 0 (length l) refl)

-- two answers to the line that an input begins with
first_once : (s : Position) (k : ℕ) (i l l' rest rest' : List ℕ) (t t' : Position) (r r' : Response) → Fit s → i ≡ l ++ 10 ∷ rest → i ≡ l' ++ 10 ∷ rest' → LacksByte 10 l → LacksByte 10 l'
    → Answers s k l t r → Answers s k l' t' r' → (t ≡ t') × (r ≡ r') × (rest ≡ rest')
first_once s k i l l' rest rest' t t' r r' f a a' b b' d d' =
    let (same, same_rest) = cut_unique 10 l l' rest rest' b b' (sym a ∙ a') in
    let (next, response) = answers_once s k l t t' r r' f d (subst (λ v. Answers s k v t' r') (sym same) d') in
    (next, response, same_rest)

both_ends : (r r' : Response) → r ≡ r' → ends r ≡ false → ends r' ≡ true → ⊥
both_ends r r' same e e' = let z : ◌≡◌ {A = ℕ} 0 1 = cc in omega arith

session_once : {s : Position} {k : ℕ} {i : List ℕ} {rs qs : List Response} → Fit s → Session s k i rs → Session s k i qs → rs ≡ qs
session_once f over over = refl
session_once f over (last t r a b c d) = absurd (omega arith)
session_once f over (line l rest t r a b c d e h) = absurd (omega (arith, ap length a, length-append l (10 ∷ rest)))
session_once f over (end l rest t r a b c d e) = absurd (omega (arith, ap length a, length-append l (10 ∷ rest)))
session_once f over (too_long l rest a b c) = absurd (omega (arith, ap length a, length-append l rest))
session_once f (last t r a b c d) over = absurd (omega arith)
session_once {s = s} {k = k} {i = i} f (last t r a b c d) (last t' r' a' b' c' d') = ap (λ v. v ∷ []) (answers_once s (line_after k) i t t' r r' f d d').1
session_once {i = i} f (last t r a b c d) (line l rest t' r' a' b' c' d' e' h') = absurd (no_cut 10 i l rest a a')
session_once {i = i} f (last t r a b c d) (end l rest t' r' a' b' c' d' e') = absurd (no_cut 10 i l rest a a')
session_once f (last t r a b c d) (too_long l rest a' b' c') = absurd (omega (arith, ap length a', length-append l rest))
session_once f (line l rest t r a b c d e h) over = absurd (omega (arith, ap length a, length-append l (10 ∷ rest)))
session_once {i = i} f (line l rest t r a b c d e h) (last t' r' a' b' c' d') = absurd (no_cut 10 i l rest a' a)
session_once {s = s} {k = k} {i = i} f (line {rs = rs} l rest t r a b c d e h) (line {rs = qs} l' rest' t' r' a' b' c' d' e' h') =
    let (next, response, same) = first_once s (line_after k) i l l' rest rest' t t' r r' f a a' b b' d d' in
    let others : rs ≡ qs = session_once (fit_answer f d) h (subst (λ v. Session t (line_after k) v qs) (sym same) (subst (λ v. Session v (line_after k) rest' qs) (sym next) h')) in
    ap₂ (λ x xs. x ∷ xs) response others
session_once {s = s} {k = k} {i = i} f (line l rest t r a b c d e h) (end l' rest' t' r' a' b' c' d' e') =
    absurd (both_ends r r' (first_once s (line_after k) i l l' rest rest' t t' r r' f a a' b b' d d').1 e e')
session_once f (line l rest t r a b c d e h) (too_long l' rest' a' b' c') = absurd (not_both_long l rest l' rest' c c' b' (sym a ∙ a'))
session_once f (end l rest t r a b c d e) over = absurd (omega (arith, ap length a, length-append l (10 ∷ rest)))
session_once {i = i} f (end l rest t r a b c d e) (last t' r' a' b' c' d') = absurd (no_cut 10 i l rest a' a)
session_once {s = s} {k = k} {i = i} f (end l rest t r a b c d e) (line l' rest' t' r' a' b' c' d' e' h') =
    absurd (both_ends r' r (sym (first_once s (line_after k) i l l' rest rest' t t' r r' f a a' b b' d d').1) e' e)
session_once {s = s} {k = k} {i = i} f (end l rest t r a b c d e) (end l' rest' t' r' a' b' c' d' e') =
    ap (λ v. v ∷ []) (first_once s (line_after k) i l l' rest rest' t t' r r' f a a' b b' d d').1
session_once f (end l rest t r a b c d e) (too_long l' rest' a' b' c') = absurd (not_both_long l rest l' rest' c c' b' (sym a ∙ a'))
session_once f (too_long l rest a b c) over = absurd (omega (arith, ap length a, length-append l rest))
session_once f (too_long l rest a b c) (last t' r' a' b' c' d') = absurd (omega (arith, ap length a, length-append l rest))
session_once f (too_long l rest a b c) (line l' rest' t' r' a' b' c' d' e' h') = absurd (not_both_long l' rest' l rest c' c b (sym a' ∙ a))
session_once f (too_long l rest a b c) (end l' rest' t' r' a' b' c' d' e') = absurd (not_both_long l' rest' l rest c' c b (sym a' ∙ a))
session_once f (too_long l rest a b c) (too_long l' rest' a' b' c') = refl

pub answered_once : AnsweredOnce
answered_once input rs qs s t = session_once tt s t
