-- The sgn0 of coordinates in two parts.
use Rattle.std.proofs.Common.{◌≡◌, ℕ, zero, suc, ◌%◌, ◌<◌, Bool, true, false, cond, ◌&&◌, eqb, List, [], ◌∷◌, ◌++◌, sym, refl, ap, ◌∙◌, ap₂, arith}
use mathlib.Core.Bool.{and_assoc}
use lib.Bits.{bit_and, bit_or}
use Rattle.std.proofs.lemmas.Nat.{and_le_l, and_le_r, or_disjoint}
use Rattle.std.proofs.lemmas.Bool.{eqb-true}
use Rattle.quadratic.specs.Signs.{sgn0, sgn0_from}

-- every coordinate is zero
abbrev pub all_zero : List ℕ → Bool
all_zero [] = true
all_zero (x ∷ xs) = eqb x 0 && all_zero xs

pub all-zero-++ : (xs ys : List ℕ) → all_zero (xs ++ ys) ≡ (all_zero xs && all_zero ys)
all-zero-++ [] ys = refl
all-zero-++ (x ∷ xs) ys = ap (λ b. eqb x 0 && b) (all-zero-++ xs ys) ∙ sym (and_assoc (eqb x 0) (all_zero xs) (all_zero ys))

zero_and : (b : ℕ) → bit_and 0 b ≡ 0
zero_and b = let h = and_le_l 0 b in omega arith

or_zero : (s : ℕ) → bit_or s 0 ≡ s
or_zero s = let none : bit_and s 0 ≡ 0 = (let h = and_le_r s 0 in omega arith) in let sum = or_disjoint s 0 none in omega arith

-- the first turn takes the parity as it is
first_sign : (x : ℕ) → bit_or 0 (bit_and 1 (x % 2)) ≡ x % 2
first_sign x = go (x % 2) (omega arith)
  where
    go : (y : ℕ) → y < 2 → bit_or 0 (bit_and 1 y) ≡ y
    go zero h = refl
    go (suc zero) h = refl
    go (suc (suc y)) h = absurd (omega arith)

-- past a coordinate that is not zero the sign stays
settled : (s : ℕ) (xs : List ℕ) → sgn0_from s 0 xs ≡ s
settled s [] = refl
settled s (x ∷ xs) =
    ap₂ (λ t z. sgn0_from t z xs) (ap (bit_or s) (zero_and (x % 2)) ∙ or_zero s) (zero_and (cond (eqb x 0) 1 0)) ∙ settled s xs

pub sgn0_single : (x : ℕ) → sgn0 (x ∷ []) ≡ x % 2
sgn0_single x = first_sign x

-- the parity of the first coordinate that is not zero
sgn0-∷ : (x : ℕ) (xs : List ℕ) → sgn0 (x ∷ xs) ≡ cond (eqb x 0) (sgn0 xs) (x % 2)
sgn0-∷ x xs = ap (λ s. sgn0_from s (bit_and 1 (cond (eqb x 0) 1 0)) xs) (first_sign x) ∙ go (eqb x 0) refl
  where
    go : (b : Bool) → eqb x 0 ≡ b → sgn0_from (x % 2) (bit_and 1 (cond b 1 0)) xs ≡ cond b (sgn0 xs) (x % 2)
    go true e = ap (λ n. sgn0_from (n % 2) 1 xs) (eqb-true x 0 e)
    go false e = settled (x % 2) xs

-- low half first: the high half tells where the low one is zero
pub sgn0-++ : (xs ys : List ℕ) → sgn0 (xs ++ ys) ≡ cond (all_zero xs) (sgn0 ys) (sgn0 xs)
sgn0-++ [] ys = refl
sgn0-++ (x ∷ xs) ys =
    sgn0-∷ x (xs ++ ys) ∙ ap (λ s. cond (eqb x 0) s (x % 2)) (sgn0-++ xs ys) ∙ go (eqb x 0) ∙ ap (cond (all_zero (x ∷ xs)) (sgn0 ys)) (sym (sgn0-∷ x xs))
  where
    go : (b : Bool) → cond b (cond (all_zero xs) (sgn0 ys) (sgn0 xs)) (x % 2) ≡ cond (b && all_zero xs) (sgn0 ys) (cond b (sgn0 xs) (x % 2))
    go true = refl
    go false = refl
