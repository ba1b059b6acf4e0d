-- The block that the writer leaves is a code word, and the only one with these data.
use Rattle.std.proofs.Common.{◌≡◌, ℕ, zero, suc, ◌+◌, ◌-◌, ◌<◌, ◌≤◌, List, [], ◌∷◌, ◌++◌, length, take, set, sym, refl, ap, ◌∙◌, arith, length-append, length-take-le}
use lib.Seq.{take-append_seam}
use Rattle.std.proofs.ByRecursion.{All-append}
use Rattle.algebra.specs.Operations.{Ops, In}
use Rattle.algebra.specs.Laws.{Arithmetic}
use Rattle.algebra.specs.Powers.{power}
use Rattle.algebra.proofs.Elements.{by_ring, reads}
use Rattle.code.specs.Blocks.{Elements, Sum, CodeWord₁, data_of}
use Rattle.code.specs.Generator.{Generates}
use Rattle.code.proofs.Powers.{power_in}
use Rattle.code.proofs.Polynomials.{Value, value-++, sum_value}
use Rattle.code.proofs.Counting.{differ_take}
use Rattle.code.proofs.MinimumDistance.{equal_words}
use Rattle.writer.specs.Division.{Inside, Root, Remains}
use Rattle.writer.specs.Writing.{Written}
use Rattle.writer.specs.declared.division.Cubic.{Cubic}

-- the last four of a list, set
pub set_last : {E : Type 0} (k : ℕ) (xs : List E) (a b c d : E) → length xs ≡ k + 4
    → set (set (set (set xs k a) (k + 1) b) (k + 2) c) (k + 3) d ≡ take k xs ++ (a ∷ (b ∷ (c ∷ (d ∷ []))))
set_last zero [] a b c d h = absurd (omega (arith, h))
set_last zero (x ∷ []) a b c d h = absurd (omega (arith, h))
set_last zero (x ∷ (y ∷ [])) a b c d h = absurd (omega (arith, h))
set_last zero (x ∷ (y ∷ (z ∷ []))) a b c d h = absurd (omega (arith, h))
set_last zero (x ∷ (y ∷ (z ∷ (w ∷ [])))) a b c d h = refl
set_last zero (x ∷ (y ∷ (z ∷ (w ∷ (v ∷ xs))))) a b c d h = absurd (omega (arith, h))
set_last (suc k) [] a b c d h = absurd (omega (arith, h))
set_last (suc k) (x ∷ xs) a b c d h =
    let e1 : suc k + 1 ≡ suc (k + 1) = omega arith in
    let e2 : suc k + 2 ≡ suc (k + 2) = omega arith in
    let e3 : suc k + 3 ≡ suc (k + 3) = omega arith in
    rw (e1, e2, e3) (ap (λ ys. x ∷ ys) (set_last k xs a b c d (omega (arith, h))))

-- the checks that a remainder gives
abbrev pub checks : {E : Type 0} → Ops E → Cubic E → List E
checks o q = o.neg q.c3 ∷ (o.neg q.c2 ∷ (o.neg q.c1 ∷ (o.neg q.c0 ∷ [])))

module _ {E : Type 0} {o : Ops E} (l : Arithmetic o) where
  open o use {zero as 𝟘, add as ◌⊹◌, mul as ◌·◌, neg}

  infixl 65 ◌⊹◌
  infixl 70 ◌·◌
  checks_in : (q : Cubic E) → Inside o q → Elements o (checks o q)
  checks_in q hq = (l.neg_in _ hq.three, (l.neg_in _ hq.two, (l.neg_in _ hq.one, (l.neg_in _ hq.zero, tt))))

  -- the sum of data and checks at a root
  checked_zero : (p q : Cubic E) (ds : List E) (α : E) (j : ℕ) → Inside o q → Elements o ds → In o α → Root o p (power o α j) → Remains o p ds q
      → Sum o α j (ds ++ checks o q) ≡ 𝟘
  checked_zero p q ds α j hq hs hα root re =
      let hx = power_in l α j hα in
      sum_value l α j (ds ++ checks o q) hα
      ∙ value-++ l (power o α j) ds (checks o q) hx hs (checks_in q hq)
      ∙ ap (λ y. y · power o (power o α j) 4 ⊹ Value o (power o α j) (checks o q)) (sym (sum_value l α j ds hα))
      ∙ ap (λ y. y ⊹ Value o (power o α j) (checks o q)) (sym (re α j hα root))
      ∙ by_ring l ((power o α j, hx) ∷ (q.c3, hq.three) ∷ (q.c2, hq.two) ∷ (q.c1, hq.one) ∷ (q.c0, hq.zero) ∷ []) (search reads depth 40 fits 5000) refl

  pub written : (α : E) (n : ℕ) (block : List E) (p q : Cubic E) → Generates o α n → 5 ≤ n → length block ≡ n
      → Elements o (data_of n block) → Inside o q
      → ((i : ℕ) → i < 4 → Root o p (power o α (1 + i))) → Remains o p (data_of n block) q
      → Written o α n block (data_of n block ++ checks o q)
  written α n block p q g h long hs hq roots re =
      let ds = data_of n block in
      let len : length ds ≡ n - 4 = length-take-le (n - 4) block (omega (arith, long)) in
      let kept : data_of n (ds ++ checks o q) ≡ ds = ap (λ m. take m (ds ++ checks o q)) (sym len) ∙ take-append_seam ds (checks o q) in
      let word : CodeWord₁ o α n (ds ++ checks o q) = record {
        long = length-append ds (checks o q) ∙ (let m : length ds + 4 ≡ n = omega (arith, len) in m);
        inside = All-append (In o) _ _ hs (checks_in q hq);
        zeros = λ i b. checked_zero p q ds α (1 + i) hq hs g.inside (roots i b) re;
      } in
      record {
        long = long;
        kept = kept;
        word = word;
        only = λ other w same.
            let few = differ_take l (n - 4) other (ds ++ checks o q) w.inside (w.long ∙ sym word.long) (same ∙ sym kept) in
            equal_words l 1 α n other (ds ++ checks o q) g w word (omega (arith, few, w.long));
      }
