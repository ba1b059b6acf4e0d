-- Cubic polynomials modulo x⁴ - p: the polynomial of four roots, one step of the division, and its loop.
use Rattle.std.proofs.Common.{◌≡◌, ℕ, ◌+◌, ◌<◌, List, [], ◌∷◌, length, get_or, drop, sym, refl, ap, ◌∙◌, subst}
use Rattle.std.proofs.lemmas.List.{at_drop_more}
use Rattle.std.proofs.ByRecursion.{All-get_or, All-drop}
use Rattle.algebra.specs.Operations.{Ops, In}
use Rattle.algebra.specs.Laws.{Arithmetic}
use Rattle.algebra.specs.Powers.{power}
use Rattle.algebra.proofs.Elements.{by_ring, by_ring_from, is_element, times, reads}
use Rattle.code.specs.Blocks.{Elements}
use Rattle.code.proofs.Powers.{power_in, power_one}
use Rattle.code.proofs.Polynomials.{four_exponents, Value, value_in}
use Rattle.writer.specs.Division.{at, Inside, Root, Steps}
use Rattle.code.specs.declared.codes.Points.{Points}
use Rattle.writer.specs.declared.division.Cubic.{Cubic}

pub cubic-≡ : {E : Type 0} {p q : Cubic E} → p.c3 ≡ q.c3 → p.c2 ≡ q.c2 → p.c1 ≡ q.c1 → p.c0 ≡ q.c0 → p ≡ q
cubic-≡ a b c d i = record { c3 = a i; c2 = b i; c1 = c i; c0 = d i }

-- x⁴ - (x - a)(x - b)(x - c)(x - d)
abbrev pub four_roots : {E : Type 0} → Ops E → E → E → E → E → Cubic E
four_roots o a b c d = record {
  c3 = o.add (o.add a b) (o.add c d);
  c2 = o.neg (o.add (o.add (o.mul a b) (o.mul c d)) (o.mul (o.add a b) (o.add c d)));
  c1 = o.add (o.mul (o.add a b) (o.mul c d)) (o.mul (o.mul a b) (o.add c d));
  c0 = o.neg (o.mul (o.mul a b) (o.mul c d));
}

-- the same of the points of a code, where the product of the first two is the third
abbrev pub of_points : {E : Type 0} → Ops E → Points E → Cubic E
of_points o p = record {
  c3 = o.add (o.add p.first p.second) (o.add p.third p.fourth);
  c2 = o.neg (o.add (o.add p.third (o.mul p.third p.fourth)) (o.mul (o.add p.first p.second) (o.add p.third p.fourth)));
  c1 = o.add (o.mul (o.add p.first p.second) (o.mul p.third p.fourth)) (o.mul p.third (o.add p.third p.fourth));
  c0 = o.neg (o.mul p.third (o.mul p.third p.fourth));
}

abbrev pub stepped : {E : Type 0} → Ops E → Cubic E → Cubic E → E → Cubic E
stepped o p r s = record {
  c3 = o.add r.c2 (o.mul (o.add r.c3 s) p.c3);
  c2 = o.add r.c1 (o.mul (o.add r.c3 s) p.c2);
  c1 = o.add r.c0 (o.mul (o.add r.c3 s) p.c1);
  c0 = o.mul (o.add r.c3 s) p.c0;
}

-- the remainder r of the symbols so far, and those to come, as one polynomial at x
abbrev pub Dividend : {E : Type 0} → Ops E → E → Cubic E → List E → E
Dividend o x r later = o.add (o.mul (at o r x) (power o x (length later))) (o.mul (Value o x later) (power o x 4))

module _ {E : Type 0} {o : Ops E} (l : Arithmetic o) where
  open o use {zero as 𝟘, add as ◌⊹◌, mul as ◌·◌, neg}

  infixl 65 ◌⊹◌
  infixl 70 ◌·◌
  at_in : (p : Cubic E) (x : E) → Inside o p → In o x → In o (at o p x)
  at_in p x h hx =
      is_element l ((x, hx) ∷ (p.c3, h.three) ∷ (p.c2, h.two) ∷ (p.c1, h.one) ∷ (p.c0, h.zero) ∷ []) (search reads depth 40 fits 5000)

  pub stepped_is : (p r : Cubic E) (s : E) → Inside o p → Inside o r → In o s → Steps o p r s (stepped o p r s)
  stepped_is p r s hp hr hs x hx root =
      by_ring_from l ((x, hx) ∷ (s, hs) ∷ (p.c3, hp.three) ∷ (p.c2, hp.two) ∷ (p.c1, hp.one) ∷ (p.c0, hp.zero)
      ∷ (r.c3, hr.three) ∷ (r.c2, hr.two) ∷ (r.c1, hr.one) ∷ (r.c0, hr.zero) ∷ [])
      (times l (neg (r.c3 ⊹ s)) root (search reads depth 40 fits 5000) (search reads depth 40 fits 5000) ∷ []) (search reads depth 40 fits 5000) refl

  module _ (a b c d : E) (ha : In o a) (hb : In o b) (hc : In o c) (hd : In o d) where
    pub root_a : Root o (four_roots o a b c d) a
    root_a = by_ring l ((a, ha) ∷ (b, hb) ∷ (c, hc) ∷ (d, hd) ∷ []) (search reads depth 40 fits 5000) refl

    pub root_b : Root o (four_roots o a b c d) b
    root_b = by_ring l ((a, ha) ∷ (b, hb) ∷ (c, hc) ∷ (d, hd) ∷ []) (search reads depth 40 fits 5000) refl

    pub root_c : Root o (four_roots o a b c d) c
    root_c = by_ring l ((a, ha) ∷ (b, hb) ∷ (c, hc) ∷ (d, hd) ∷ []) (search reads depth 40 fits 5000) refl

    pub root_d : Root o (four_roots o a b c d) d
    root_d = by_ring l ((a, ha) ∷ (b, hb) ∷ (c, hc) ∷ (d, hd) ∷ []) (search reads depth 40 fits 5000) refl

  -- the cubic that is made of the points of a code has them as roots
  pub points_are_roots : (α : E) → In o α → (p : Points E)
      → p ≡ record { first = power o α 1; second = power o α 2; third = power o α 3; fourth = power o α 4 }
      → (i : ℕ) → i < 4 → Root o (of_points o p) (power o α (1 + i))
  points_are_roots α h p e =
      let h2 = power_in l α 2 h in
      let h3 = power_in l α 3 h in
      let h4 = power_in l α 4 h in
      let q = four_roots o α (power o α 2) (power o α 3) (power o α 4) in
      let one = power_one l α h in
      let at_powers : of_points o (record { first = α; second = power o α 2; third = power o α 3; fourth = power o α 4 }) ≡ of_points o p =
      ap (λ a. of_points o (record { first = a; second = power o α 2; third = power o α 3; fourth = power o α 4 })) one ∙ ap (of_points o) (sym e) in
      four_exponents (λ i. Root o (of_points o p) (power o α i))
      (rw (← at_powers) (subst (Root o q) one (root_a α _ _ _ h h2 h3 h4))) (rw (← at_powers) (root_b α _ _ _ h h2 h3 h4))
      (rw (← at_powers) (root_c α _ _ _ h h2 h3 h4)) (rw (← at_powers) (root_d α _ _ _ h h2 h3 h4))

  pub dividend_none : (x : E) (xs : List E) → In o x → Elements o xs → Dividend o x (record { c3 = 𝟘; c2 = 𝟘; c1 = 𝟘; c0 = 𝟘 }) xs ≡ Value o x xs · power o x 4
  dividend_none x xs hx hs =
      by_ring l ((x, hx) ∷ (power o x (length xs), power_in l x (length xs) hx) ∷ (Value o x xs, value_in l x xs hx hs) ∷ []) (search reads depth 40 fits 5000) refl

  pub dividend_all : (x : E) (r : Cubic E) → In o x → Inside o r → Dividend o x r [] ≡ at o r x
  dividend_all x r hx hr = by_ring l ((x, hx) ∷ (at o r x, at_in r x hr hx) ∷ []) (search reads depth 40 fits 5000) refl

  -- one turn of the loop, at the index i
  pub dividend_more : (p r q : Cubic E) (s x total : E) (xs : List E) (i : ℕ) → i < length xs → s ≡ get_or xs i s → Inside o r → In o x → Elements o xs
      → Steps o p r s q → Root o p x → Dividend o x r (drop i xs) ≡ total → Dividend o x q (drop (i + 1) xs) ≡ total
  dividend_more p r q s x total xs i h e hr hx hs st root inv =
      let hi : In o s = rw (← e) at (All-get_or (In o) xs i s h hs) in
      let more : Dividend o x r (drop i xs) ≡ Dividend o x r (s ∷ drop (i + 1) xs) =
      at_drop_more (Dividend o x r) xs i s h ∙ ap (λ y. Dividend o x r (y ∷ drop (i + 1) xs)) (sym e) in
      let turn : (x · at o r x ⊹ s · power o x 4) · power o x (length (drop (i + 1) xs)) ⊹ Value o x (drop (i + 1) xs) · power o x 4 ≡ Dividend o x r (s ∷ drop (i + 1) xs) =
      by_ring l ((x, hx) ∷ (s, hi) ∷ (at o r x, at_in r x hr hx) ∷ (power o x (length (drop (i + 1) xs)), power_in l x (length (drop (i + 1) xs)) hx)
      ∷ (Value o x (drop (i + 1) xs), value_in l x (drop (i + 1) xs) hx (All-drop (In o) (i + 1) xs hs)) ∷ []) (search reads depth 40 fits 5000) refl in
      ap (λ y. y · power o x (length (drop (i + 1) xs)) ⊹ Value o x (drop (i + 1) xs) · power o x 4) (st x hx root) ∙ turn ∙ sym more ∙ inv
