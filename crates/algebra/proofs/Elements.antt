-- Equations between a field's elements by the ring solver, and what the laws give of products.
-- The laws hold of elements alone, so the ring is that of the elements with the proof that they are.
use Rattle.std.proofs.Common.{◌≡◌, ℕ, suc, true, List, ◌∷◌, sym, refl, ap, ◌∙◌, subst, ap₂}
use mathlib.Core.Bool.{Bool-set}
use mathlib.Core.HLevel.{Σ_prop_path}
use Rattle.algebra.specs.Operations.{Ops, In}
use Rattle.algebra.specs.Laws.{Arithmetic}
use Rattle.algebra.proofs.Ring.{CommutativeRing, Expr, var, ◌⊕◌, ◌⊗◌, ⊝◌, 𝟎, 𝟏, same?, eval, at, solve, Given, plus_lefts, plus_rights, solve_from}

-- an element, with the proof that it is one
abbrev pub Element : {E : Type 0} → Ops E → Type 0
Element {E} o = (x : E) × In o x

pub element-≡ : {E : Type 0} (o : Ops E) {u v : Element o} → u.0 ≡ v.0 → u ≡ v
element-≡ o e = Σ_prop_path (λ x. Bool-set (o.is x) true) e

abbrev pub elements : {E : Type 0} {o : Ops E} → Arithmetic o → CommutativeRing (Element o)
elements {o = o} l = record {
  𝟘 = (o.zero, l.zero_in);
  𝟙 = (o.one, l.one_in);
  plus = λ a b. (o.add a.0 b.0, l.add_in a.0 b.0 a.1 b.1);
  times = λ a b. (o.mul a.0 b.0, l.mul_in a.0 b.0 a.1 b.1);
  neg = λ a. (o.neg a.0, l.neg_in a.0 a.1);
  plus_assoc = λ a b c. element-≡ o (l.add_assoc a.0 b.0 c.0 a.1 b.1 c.1);
  plus_comm = λ a b. element-≡ o (l.add_comm a.0 b.0 a.1 b.1);
  plus_𝟘 = λ a. element-≡ o (l.add_zero a.0 a.1);
  plus_neg = λ a. element-≡ o (l.add_neg a.0 a.1);
  times_assoc = λ a b c. element-≡ o (l.mul_assoc a.0 b.0 c.0 a.1 b.1 c.1);
  times_comm = λ a b. element-≡ o (l.mul_comm a.0 b.0 a.1 b.1);
  times_𝟙 = λ a. element-≡ o (l.mul_one a.0 a.1);
  times_plus = λ a b c. element-≡ o (l.mul_add a.0 b.0 c.0 a.1 b.1 c.1);
}

-- x is the value of an expression over the elements ρ
pub record Reads {E : Type 0} {o : Ops E} (l : Arithmetic o) (ρ : List (Element o)) (x : E) : Type 0 where
  pub form : Expr
  pub is : (eval (elements l) ρ form).0 ≡ x

-- x is one of the elements ρ
pub record Variable {E : Type 0} {o : Ops E} (l : Arithmetic o) (ρ : List (Element o)) (x : E) : Type 0 where
  pub index : ℕ
  pub is : (at (elements l) ρ index).0 ≡ x

-- both sides of an equation
pub record Sides {E : Type 0} {o : Ops E} (l : Arithmetic o) (ρ : List (Element o)) (x y : E) : Type 0 where
  pub left : Reads l ρ x
  pub right : Reads l ρ y

module _ {E : Type 0} {o : Ops E} {l : Arithmetic o} {ρ : List (Element o)} where
  abbrev pub read_add : {x y : E} → Reads l ρ x → Reads l ρ y → Reads l ρ (o.add x y)
  read_add p q = record { form = p.form ⊕ q.form; is = ap₂ o.add p.is q.is }

  abbrev pub read_mul : {x y : E} → Reads l ρ x → Reads l ρ y → Reads l ρ (o.mul x y)
  read_mul p q = record { form = p.form ⊗ q.form; is = ap₂ o.mul p.is q.is }

  abbrev pub read_neg : {x : E} → Reads l ρ x → Reads l ρ (o.neg x)
  read_neg p = record { form = ⊝ p.form; is = ap o.neg p.is }

  abbrev pub read_zero : Reads l ρ o.zero
  read_zero = record { form = 𝟎; is = refl }

  abbrev pub read_one : Reads l ρ o.one
  read_one = record { form = 𝟏; is = refl }

  abbrev pub read_variable : {x : E} → Variable l ρ x → Reads l ρ x
  read_variable v = record { form = var v.index; is = v.is }

  abbrev pub read_sides : {x y : E} → Reads l ρ x → Reads l ρ y → Sides l ρ x y
  read_sides p q = record { left = p; right = q }

  abbrev pub first : {u : Element o} → Variable l (u ∷ ρ) u.0
  first = record { index = 0; is = refl }

  abbrev pub later : {u : Element o} {x : E} → Variable l ρ x → Variable l (u ∷ ρ) x
  later v = record { index = suc v.index; is = v.is }

pub ruleset reads = (read_sides, read_add, read_mul, read_neg, read_zero, read_one, read_variable, first, later)

-- An equation between elements: ρ lists its variables, each with the proof that it is an element,
-- and the rest is `(search reads) refl`.
pub by_ring : {E : Type 0} {o : Ops E} (l : Arithmetic o) (ρ : List (Element o)) {x y : E} (s : Sides l ρ x y)
    → same? s.left.form s.right.form ≡ true → x ≡ y
by_ring {o = o} l ρ s k =
    sym s.left.is ∙ ap (λ (m : Element o). m.0) (solve (elements l) ρ s.left.form s.right.form k) ∙ s.right.is

-- an equation at hand, to be used with the factor c
abbrev pub times : {E : Type 0} {o : Ops E} (l : Arithmetic o) {ρ : List (Element o)} {u v : E} (c : E) → u ≡ v → Sides l ρ u v → Reads l ρ c → Given (elements l) ρ
times {o = o} l c h s d =
    record {
      factor = d.form;
      left = s.left.form;
      right = s.right.form;
      holds = element-≡ o (s.left.is ∙ h ∙ sym s.right.is);
    }

-- An equation that follows from others: x - y is the sum of each one's factor times (left - right).
pub by_ring_from : {E : Type 0} {o : Ops E} (l : Arithmetic o) (ρ : List (Element o)) (gs : List (Given (elements l) ρ)) {x y : E} (s : Sides l ρ x y)
    → same? (plus_rights (elements l) gs s.left.form) (plus_lefts (elements l) gs s.right.form) ≡ true → x ≡ y
by_ring_from {o = o} l ρ gs s k =
    sym s.left.is ∙ ap (λ (m : Element o). m.0) (solve_from (elements l) ρ s.left.form s.right.form gs k) ∙ s.right.is

-- what is built from elements is one
pub is_element : {E : Type 0} {o : Ops E} (l : Arithmetic o) (ρ : List (Element o)) {x : E} → Reads l ρ x → In o x
is_element {o = o} l ρ p = subst (In o) p.is (eval (elements l) ρ p.form).1
