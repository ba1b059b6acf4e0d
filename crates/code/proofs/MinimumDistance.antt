-- Different code words differ in at least five places, so at most one is within two of a block.
use Rattle.std.proofs.Common.{◌≡◌, ℕ, ◌+◌, ◌<◌, ◌≤◌, List, [], ◌∷◌, length, sym, ◌∙◌, ap₂, arith}
use Rattle.std.specs.List.{AllByRecursion}
use Rattle.algebra.specs.Operations.{Ops, minus}
use Rattle.algebra.specs.Laws.{Arithmetic}
use Rattle.code.specs.Blocks.{Elements, CodeWord, differ}
use Rattle.code.specs.Distance.{DistanceFive}
use Rattle.code.specs.Generator.{Generates}
use Rattle.code.proofs.Elimination.{Term, weighted, eliminate}
use Rattle.code.proofs.Differences.{terms, length_terms, weighted_terms, equal_terms, apart_terms}
use Rattle.code.proofs.Counting.{differ_triangle}

module _ {E : Type 0} {o : Ops E} (l : Arithmetic o) where
  one_nonzero : (ts : List (Term o)) → AllByRecursion (λ t. o.one ≡ o.zero → ⊥) ts
  one_nonzero [] = tt
  one_nonzero (t ∷ ts) = (l.one_not_zero, one_nonzero ts)

  pub equal_words : (first : ℕ) (α : E) (n : ℕ) (b c : List E) → Generates o α n → CodeWord o first α n b → CodeWord o first α n c
      → differ o b c ≤ 4 → b ≡ c
  equal_words first α n b c g wb wc few =
      let hb = wb.inside in
      let hc = wc.inside in
      let ts = terms l α n g b c hb hc in
      let long : length b ≡ length c = wb.long ∙ sym wc.long in
      let at_most : length ts ≤ 4 = rw (length_terms l α n g b c hb hc) few in
      let zeros : (k : ℕ) → k < length ts → weighted o (λ _. o.one) ts (first + k) ≡ o.zero =
      λ k h. weighted_terms l α n g b c hb hc (first + k) long
      ∙ ap₂ (minus o) (wb.zeros k (omega arith)) (wc.zeros k (omega arith)) ∙ l.add_neg _ l.zero_in in
      equal_terms l α n g b c hb hc long
      (eliminate l (λ _. o.one) ts first (record { inside = λ x h. l.one_in; nonzero = one_nonzero ts })
      (apart_terms l α n g b c hb hc (omega (arith, wb.long))) zeros)

  pub distance_five : DistanceFive o
  distance_five first α n b c g wb wc other =
      let few : differ o b c ≤ 4 → ⊥ = λ h. other (equal_words first α n b c g wb wc h) in
      omega arith

  -- two code words within two symbols of a block are one
  pub equal_near : (first : ℕ) (α : E) (n : ℕ) (block b c : List E) → Generates o α n → length block ≡ n → Elements o block
      → CodeWord o first α n b → CodeWord o first α n c → differ o block b ≤ 2 → differ o block c ≤ 2 → b ≡ c
  equal_near first α n block b c g long hs wb wc nb nc =
      let h = differ_triangle l block b c hs wb.inside wc.inside (long ∙ sym wb.long) (long ∙ sym wc.long) in
      equal_words first α n b c g wb wc (omega (arith, h))

  -- so every other code word is further from a block than one that is near
  pub others_far : (first : ℕ) (α : E) (n : ℕ) (block b c : List E) → Generates o α n → length block ≡ n → Elements o block
      → CodeWord o first α n b → CodeWord o first α n c → differ o block b ≤ 2 → (c ≡ b → ⊥) → 2 < differ o block c
  others_far first α n block b c g long hs wb wc nb other =
      let near : differ o block c ≤ 2 → ⊥ = λ h. other (equal_near first α n block c b g long hs wc wb h nb) in
      omega arith
