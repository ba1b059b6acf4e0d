-- The code words of five symbols modulo 929 with the generator 3: one for each data symbol.
use Rattle.std.proofs.Common.{◌≡◌, ℕ, zero, suc, ◌+◌, ◌*◌, ◌%◌, ◌<◌, ◌≤◌, Bool, true, not, ◌&&◌, eqb, ltb, List, [], ◌∷◌, length, sym, refl, ◌∙◌, subst, arith}
use Rattle.std.proofs.lemmas.Bool.{and_parts, eqb-false, eqb-true, ltb-true, not-true}
use Rattle.algebra.specs.Laws.{Arithmetic}
use Rattle.algebra.specs.Operations.{Ops}
use Rattle.algebra.specs.Powers.{power}
use Rattle.prime_field.specs.Modular.{modular}
use Rattle.prime_field.specs.Proofs.ModularLaws.{modular_laws}
use Rattle.prime_field.specs.Proofs.TrialDivision.{trial_prime}
use Rattle.code.specs.Blocks.{Elements, Sum, CodeWord₁, data_of, differ}
use Rattle.code.specs.Generator.{Generates}
use Rattle.code.specs.Refusals.{NoCodeWordDue}
use Rattle.code.proofs.Counting.{differ_take}
use Rattle.code.proofs.MinimumDistance.{equal_words}
use Rattle.writer.specs.Writing.{Written}
use Rattle.vectors.proofs.BoundedTests.{all_below, passes}

abbrev o : Ops ℕ
o = modular 929

laws : Arithmetic o
laws = (modular_laws 929 (trial_prime 929 4 refl) refl).arithmetic

abbrev not_one? : ℕ → Bool
not_one? k = not (eqb (power o 3 (suc k)) 1)

generates : Generates o 3 5
generates = record { inside = refl; nonzero = λ e. omega arith; apart = apart }
  where
    apart : (k : ℕ) → 1 ≤ k → k < 5 → power o 3 k ≡ 1 → ⊥
    apart zero low high e = omega arith
    apart (suc k) low high e = eqb-false _ _ (not-true _ (passes not_one? 4 refl k (omega arith))) e

abbrev elements? : List ℕ → Bool
elements? [] = true
elements? (x ∷ xs) = ltb x 929 && elements? xs

elements : (block : List ℕ) → elements? block ≡ true → Elements o block
elements [] t = tt
elements (x ∷ xs) t = let (first, rest) = and_parts (ltb x 929) (elements? xs) t in (first, elements xs rest)

abbrev zero_sum? : List ℕ → ℕ → Bool
zero_sum? block i = eqb (Sum o 3 (1 + i) block) 0

-- a code word, where its length is 5
abbrev code_word? : List ℕ → Bool
code_word? block = elements? block && all_below (zero_sum? block) 4

code_word : (block : List ℕ) → length block ≡ 5 → code_word? block ≡ true → CodeWord₁ o 3 5 block
code_word block long t =
    let (inside, zeros) = and_parts (elements? block) (all_below (zero_sum? block) 4) t in
    record { long = long; inside = elements block inside; zeros = λ i h. eqb-true _ _ (passes (zero_sum? block) 4 zeros i h) }

-- the data fix the code word
only : (word other : List ℕ) → CodeWord₁ o 3 5 word → CodeWord₁ o 3 5 other → data_of 5 other ≡ data_of 5 word → other ≡ word
only word other w v same =
    let few = differ_take laws 1 other word v.inside (v.long ∙ sym w.long) same in
    equal_words laws 1 3 5 other word generates v w (omega (arith, few, v.long))

pub encoded : (block : List ℕ) → length block ≡ 5 → code_word? block ≡ true → Written o 3 5 block block
encoded block long t =
    let word = code_word block long t in
    record { long = long; kept = refl; word = word; only = λ other v same. only block other word v same }

-- d times the code word with the data symbol 1
abbrev word_of : ℕ → List ℕ
word_of d = d ∷ (809 * d) % 929 ∷ (723 * d) % 929 ∷ (568 * d) % 929 ∷ (522 * d) % 929 ∷ []

-- this is a code word, and differs from the block in more than two symbols
abbrev far? : List ℕ → ℕ → Bool
far? block d = code_word? (word_of d) && ltb 2 (differ o block (word_of d))

pub refused : (block : List ℕ) → length block ≡ 5 → elements? block ≡ true → all_below (far? block) 929 ≡ true → NoCodeWordDue o 3 5 block
refused block long inside t = record { long = long; inside = elements block inside; far = far }
  where
    far : (word : List ℕ) → CodeWord₁ o 3 5 word → 2 < differ o block word
    far [] w = absurd (omega (arith, w.long))
    far (d ∷ checks) w =
        let (is_IsWord, apart) = and_parts (code_word? (word_of d)) (ltb 2 (differ o block (word_of d))) (passes (far? block) 929 t d (ltb-true d 929 w.inside.0)) in
        let same : d ∷ checks ≡ word_of d = only (word_of d) (d ∷ checks) (code_word (word_of d) refl is_IsWord) w refl in
        subst (λ (word : List ℕ). 2 < differ o block word) (sym same) (ltb-true 2 _ apart)
