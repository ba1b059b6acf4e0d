-- Lists of distinct numbers: members, taking one out, products; and the list of 1 to n.
use Rattle.std.specs.Prelude.{◌≡◌, ℕ, zero, suc, ◌*◌, ◌<◌, ◌≤◌, ◌≢◌, ◌⊎◌, List, [], ◌∷◌, length, refl}
use Rattle.std.proofs.Common.{sym, subst, ◌∙◌, ap, inl, inr, arith}
use Rattle.std.proofs.Math.Nat as N
use Rattle.std.proofs.lemmas.Bool.{cases_eq}

abbrev pub Member : ℕ → List ℕ → Type 0
Member y [] = ⊥
Member y (x ∷ xs) = (y ≡ x) ⊎ Member y xs

abbrev pub Distinct : List ℕ → Type 0
Distinct [] = Unit {0}
Distinct (x ∷ xs) = (¬ Member x xs) × Distinct xs

abbrev pub product : List ℕ → ℕ
product [] = 1
product (x ∷ xs) = x * product xs

abbrev pub remove : (y : ℕ) (xs : List ℕ) → Member y xs → List ℕ
remove y [] m = []
remove y (x ∷ xs) (inl e) = xs
remove y (x ∷ xs) (inr m) = x ∷ remove y xs m

pub length_remove : (y : ℕ) (xs : List ℕ) (m : Member y xs) → length xs ≡ suc (length (remove y xs m))
length_remove y [] m = absurd m
length_remove y (x ∷ xs) (inl e) = refl
length_remove y (x ∷ xs) (inr m) = ap suc (length_remove y xs m)

pub product_remove : (y : ℕ) (xs : List ℕ) (m : Member y xs) → product xs ≡ y * product (remove y xs m)
product_remove y [] m = absurd m
product_remove y (x ∷ xs) (inl e) = ap (λ (v : ℕ). v * product xs) (sym e)
product_remove y (x ∷ xs) (inr m) = ap (λ (v : ℕ). x * v) (product_remove y xs m) ∙ N.mul_left_comm x y (product (remove y xs m))

pub from_remove : (z y : ℕ) (xs : List ℕ) (m : Member y xs) → Member z (remove y xs m) → Member z xs
from_remove z y [] m k = absurd m
from_remove z y (x ∷ xs) (inl e) k = inr k
from_remove z y (x ∷ xs) (inr m) (inl q) = inl q
from_remove z y (x ∷ xs) (inr m) (inr k) = inr (from_remove z y xs m k)

pub to_remove : (z y : ℕ) (xs : List ℕ) (m : Member y xs) → Member z xs → z ≢ y → Member z (remove y xs m)
to_remove z y [] m k n = absurd m
to_remove z y (x ∷ xs) (inl e) (inl q) n = absurd (n (q ∙ sym e))
to_remove z y (x ∷ xs) (inl e) (inr k) n = k
to_remove z y (x ∷ xs) (inr m) (inl q) n = inl q
to_remove z y (x ∷ xs) (inr m) (inr k) n = inr (to_remove z y xs m k n)

pub distinct_remove : (y : ℕ) (xs : List ℕ) (m : Member y xs) → Distinct xs → Distinct (remove y xs m)
distinct_remove y [] m d = tt
distinct_remove y (x ∷ xs) (inl e) d = d.1
distinct_remove y (x ∷ xs) (inr m) d = (λ k. d.0 (from_remove x y xs m k), distinct_remove y xs m d.1)

pub removed : (y : ℕ) (xs : List ℕ) (m : Member y xs) → Distinct xs → ¬ Member y (remove y xs m)
removed y [] m d k = m
removed y (x ∷ xs) (inl e) d k = d.0 (subst (λ (v : ℕ). Member v xs) e k)
removed y (x ∷ xs) (inr m) d (inl q) = d.0 (subst (λ (v : ℕ). Member v xs) q m)
removed y (x ∷ xs) (inr m) d (inr k) = removed y xs m d.1 k

-- the numbers from 1 to n
abbrev pub up_to : ℕ → List ℕ
up_to zero = []
up_to (suc n) = suc n ∷ up_to n

pub length_up_to : (n : ℕ) → length (up_to n) ≡ n
length_up_to zero = refl
length_up_to (suc n) = ap suc (length_up_to n)

pub to_up_to : (n z : ℕ) → 0 < z → z ≤ n → Member z (up_to n)
to_up_to zero z pos le = absurd (N.not-suc-le-zero (N.le_trans pos le))
to_up_to (suc n) z pos le =
    elim (cases_eq z (suc n)) [ inl e ↦ inl e | inr ne ↦ inr (to_up_to n z pos (omega arith)) ]

pub from_up_to : (n z : ℕ) → Member z (up_to n) → (0 < z) × (z ≤ n)
from_up_to zero z m = absurd m
from_up_to (suc n) z (inl e) = omega arith
from_up_to (suc n) z (inr m) = let h = from_up_to n z m in omega arith

pub distinct_up_to : (n : ℕ) → Distinct (up_to n)
distinct_up_to zero = tt
distinct_up_to (suc n) = (λ k. let h = from_up_to n (suc n) k in omega arith, distinct_up_to n)
