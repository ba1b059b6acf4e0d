-- The difference of two blocks as terms at powers of the generator, one for each place where they differ.
use Rattle.std.proofs.Common.{◌≡◌, ℕ, suc, ◌*◌, ◌<◌, ◌≤◌, Bool, true, false, cond, List, [], ◌∷◌, length, sym, refl, ap, ◌∙◌, ap₂, mul_comm, arith}
use Rattle.std.specs.List.{AllByRecursion}
use Rattle.std.proofs.ByRecursion.{All-weaker}
use Rattle.algebra.specs.Operations.{Ops, In, minus}
use Rattle.algebra.specs.Laws.{Arithmetic}
use Rattle.algebra.specs.Powers.{power}
use Rattle.algebra.proofs.Elements.{by_ring, reads}
use Rattle.algebra.proofs.Products.{minus_zero}
use Rattle.code.specs.Blocks.{Elements, Sum, differ}
use Rattle.code.specs.Generator.{Generates}
use Rattle.code.proofs.Powers.{minus_in, power_in, power_nonzero, power-*, powers_differ}
use Rattle.code.proofs.Polynomials.{sum_in}
use Rattle.code.proofs.Elimination.{Term, weighted, Apart}
use Rattle.code.proofs.Counting.{same_not}

module _ {E : Type 0} {o : Ops E} (l : Arithmetic o) (α : E) (n : ℕ) (g : Generates o α n) where
  open o use {zero as 𝟘, one as 𝟙, add as ◌⊹◌, mul as ◌·◌}

  infixl 65 ◌⊹◌
  infixl 70 ◌·◌
  -- e at the place k
  abbrev pub term : (e : E) → In o e → ℕ → Term o
  term e he k =
      record { e = e; X = power o α k; e_in = he; X_in = power_in l α k g.inside; X_nonzero = power_nonzero l α k g.inside g.nonzero }

  abbrev pub terms : (xs ys : List E) → Elements o xs → Elements o ys → List (Term o)
  terms [] ys hx hy = []
  terms (x ∷ xs) [] hx hy = []
  terms (x ∷ xs) (y ∷ ys) hx hy =
      cond (o.same x y) (terms xs ys hx.1 hy.1) (term (minus o x y) (minus_in l hx.0 hy.0) (length xs) ∷ terms xs ys hx.1 hy.1)

  length_place : (b : Bool) (t : Term o) (ts : List (Term o)) → length (cond b ts (t ∷ ts)) ≡ cond b (length ts) (suc (length ts))
  length_place true t ts = refl
  length_place false t ts = refl

  pub length_terms : (xs ys : List E) (hx : Elements o xs) (hy : Elements o ys) → length (terms xs ys hx hy) ≡ differ o xs ys
  length_terms [] ys hx hy = refl
  length_terms (x ∷ xs) [] hx hy = refl
  length_terms (x ∷ xs) (y ∷ ys) hx hy =
      length_place (o.same x y) _ _ ∙ ap (λ m. cond (o.same x y) m (suc m)) (length_terms xs ys hx.1 hy.1)

  weighted_place : (b : Bool) (x y : E) (hx : In o x) (hy : In o y) (k j : ℕ) (ts : List (Term o)) (s r : E) → In o s → In o r
      → (b ≡ true → x ≡ y) → weighted o (λ _. 𝟙) ts j ≡ minus o s r
      → weighted o (λ _. 𝟙) (cond b ts (term (minus o x y) (minus_in l hx hy) k ∷ ts)) j
      ≡ minus o (x · power o α (j * k) ⊹ s) (y · power o α (j * k) ⊹ r)
  weighted_place true x y hx hy k j ts s r hs hr q e =
      e ∙ by_ring l ((y, hy) ∷ (power o α (j * k), power_in l α (j * k) g.inside) ∷ (s, hs) ∷ (r, hr) ∷ []) (search reads depth 40) refl
      ∙ ap (λ z. minus o (z · power o α (j * k) ⊹ s) (y · power o α (j * k) ⊹ r)) (sym (q refl))
  weighted_place false x y hx hy k j ts s r hs hr q e =
      let p : power o (power o α k) j ≡ power o α (j * k) = sym (power-* l α k j g.inside) ∙ ap (power o α) (mul_comm k j) in
      ap₂ (λ p s. minus o x y · (𝟙 · p) ⊹ s) p e
      ∙ by_ring l ((x, hx) ∷ (y, hy) ∷ (power o α (j * k), power_in l α (j * k) g.inside) ∷ (s, hs) ∷ (r, hr) ∷ []) (search reads depth 40 fits 5000) refl

  -- the sums of the terms are the differences of the blocks' sums
  pub weighted_terms : (xs ys : List E) (hx : Elements o xs) (hy : Elements o ys) (j : ℕ) → length xs ≡ length ys
      → weighted o (λ _. 𝟙) (terms xs ys hx hy) j ≡ minus o (Sum o α j xs) (Sum o α j ys)
  weighted_terms [] [] hx hy j e = by_ring l [] (search reads depth 40) refl
  weighted_terms [] (y ∷ ys) hx hy j e = absurd (omega (arith, e))
  weighted_terms (x ∷ xs) [] hx hy j e = absurd (omega (arith, e))
  weighted_terms (x ∷ xs) (y ∷ ys) hx hy j e =
      let e' : length xs ≡ length ys = omega (arith, e) in
      weighted_place (o.same x y) x y hx.0 hy.0 (length xs) j (terms xs ys hx.1 hy.1) (Sum o α j xs) (Sum o α j ys)
      (sum_in l α j xs g.inside hx.1) (sum_in l α j ys g.inside hy.1) (l.same_is x y hx.0 hy.0) (weighted_terms xs ys hx.1 hy.1 j e')
      ∙ ap (λ m. minus o (x · power o α (j * length xs) ⊹ Sum o α j xs) (y · power o α (j * m) ⊹ Sum o α j ys)) e'

  -- where each term is zero the blocks are equal
  equal_place : (b : Bool) (x y : E) (hx : In o x) (hy : In o y) (k : ℕ) (ts : List (Term o)) → (b ≡ true → x ≡ y)
      → AllByRecursion (λ t. t.e ≡ 𝟘) (cond b ts (term (minus o x y) (minus_in l hx hy) k ∷ ts)) → (x ≡ y) × AllByRecursion (λ t. t.e ≡ 𝟘) ts
  equal_place true x y hx hy k ts q a = (q refl, a)
  equal_place false x y hx hy k ts q a = (minus_zero l x y hx hy a.0, a.1)

  pub equal_terms : (xs ys : List E) (hx : Elements o xs) (hy : Elements o ys) → length xs ≡ length ys
      → AllByRecursion (λ t. t.e ≡ 𝟘) (terms xs ys hx hy) → xs ≡ ys
  equal_terms [] [] hx hy e a = refl
  equal_terms [] (y ∷ ys) hx hy e a = absurd (omega (arith, e))
  equal_terms (x ∷ xs) [] hx hy e a = absurd (omega (arith, e))
  equal_terms (x ∷ xs) (y ∷ ys) hx hy e a =
      let p = equal_place (o.same x y) x y hx.0 hy.0 (length xs) (terms xs ys hx.1 hy.1) (l.same_is x y hx.0 hy.0) a in
      ap₂ (λ z zs. z ∷ zs) p.0 (equal_terms xs ys hx.1 hy.1 (omega (arith, e)) p.1)

  -- no term is zero
  nonzero_place : (b : Bool) (x y : E) (hx : In o x) (hy : In o y) (k : ℕ) (ts : List (Term o)) → o.same x y ≡ b → AllByRecursion (λ t. t.e ≡ 𝟘 → ⊥) ts
      → AllByRecursion (λ t. t.e ≡ 𝟘 → ⊥) (cond b ts (term (minus o x y) (minus_in l hx hy) k ∷ ts))
  nonzero_place true x y hx hy k ts e a = a
  nonzero_place false x y hx hy k ts e a = (λ z. same_not l x y hx e (minus_zero l x y hx hy z), a)

  pub nonzero_terms : (xs ys : List E) (hx : Elements o xs) (hy : Elements o ys) → AllByRecursion (λ t. t.e ≡ 𝟘 → ⊥) (terms xs ys hx hy)
  nonzero_terms [] ys hx hy = tt
  nonzero_terms (x ∷ xs) [] hx hy = tt
  nonzero_terms (x ∷ xs) (y ∷ ys) hx hy = nonzero_place (o.same x y) x y hx.0 hy.0 (length xs) _ refl (nonzero_terms xs ys hx.1 hy.1)

  -- the term stands at a place below m
  abbrev pub Placed : ℕ → Term o → Type 0
  Placed m t = (k : ℕ) × (k < m) × (t.X ≡ power o α k)

  placed_more : (m : ℕ) (ts : List (Term o)) → AllByRecursion (Placed m) ts → AllByRecursion (Placed (suc m)) ts
  placed_more m ts a = All-weaker (Placed m) (Placed (suc m)) (λ t h. (h.0, omega (arith, h.1), h.2)) ts a

  placed_place : (b : Bool) (e : E) (he : In o e) (k : ℕ) (ts : List (Term o)) → AllByRecursion (Placed k) ts → AllByRecursion (Placed (suc k)) (cond b ts (term e he k ∷ ts))
  placed_place true e he k ts a = placed_more k ts a
  placed_place false e he k ts a = ((k, omega arith, refl), placed_more k ts a)

  pub placed_terms : (xs ys : List E) (hx : Elements o xs) (hy : Elements o ys) → AllByRecursion (Placed (length xs)) (terms xs ys hx hy)
  placed_terms [] ys hx hy = tt
  placed_terms (x ∷ xs) [] hx hy = tt
  placed_terms (x ∷ xs) (y ∷ ys) hx hy = placed_place (o.same x y) _ _ (length xs) _ (placed_terms xs ys hx.1 hy.1)

  apart_place : (b : Bool) (e : E) (he : In o e) (k : ℕ) (ts : List (Term o)) → k < n → AllByRecursion (Placed k) ts → Apart ts
      → Apart (cond b ts (term e he k ∷ ts))
  apart_place true e he k ts h a p = p
  apart_place false e he k ts h a p =
      (All-weaker (Placed k) (λ u. u.X ≡ power o α k → ⊥) (λ u v e. powers_differ l α n g v.0 k v.1 h (sym v.2 ∙ e)) ts a, p)

  pub apart_terms : (xs ys : List E) (hx : Elements o xs) (hy : Elements o ys) → length xs ≤ n → Apart (terms xs ys hx hy)
  apart_terms [] ys hx hy h = tt
  apart_terms (x ∷ xs) [] hx hy h = tt
  apart_terms (x ∷ xs) (y ∷ ys) hx hy h =
      apart_place (o.same x y) _ _ (length xs) _ (omega arith) (placed_terms xs ys hx.1 hy.1) (apart_terms xs ys hx.1 hy.1 (omega arith))
