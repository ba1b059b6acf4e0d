-- A text is parted at its first mark in one way only.
use Rattle.std.proofs.Common.{◌≡◌, ℕ, suc, List, [], ◌∷◌, ◌++◌, refl, arith}
use Rattle.std.specs.Str.Iter.{LacksByte}

lacks_tail : (b x : ℕ) (xs : List ℕ) → LacksByte b (x ∷ xs) → LacksByte b xs
lacks_tail b x xs h k l e = h (suc k) (omega arith) e

pub cut_unique : (b : ℕ) (f f' g g' : List ℕ) → LacksByte b f → LacksByte b f' → f ++ b ∷ g ≡ f' ++ b ∷ g' → (f ≡ f') × (g ≡ g')
cut_unique b [] [] g g' h h' e = (refl, cc)
cut_unique b [] (y ∷ ys) g g' h h' e = absurd (h' 0 (omega arith) (cc))
cut_unique b (x ∷ xs) [] g g' h h' e = absurd (h 0 (omega arith) (cc))
cut_unique b (x ∷ xs) (y ∷ ys) g g' h h' e =
    let p = cut_unique b xs ys g g' (lacks_tail b x xs h) (lacks_tail b y ys h') (cc) in
    (cc p.0, p.1)

-- a text that lacks the mark has no such parts
pub no_cut : (b : ℕ) (f f' g' : List ℕ) → LacksByte b f → f ≡ f' ++ b ∷ g' → ⊥
no_cut b [] [] g' h e = cc
no_cut b [] (y ∷ ys) g' h e = cc
no_cut b (x ∷ xs) [] g' h e = h 0 (omega arith) (cc)
no_cut b (x ∷ xs) (y ∷ ys) g' h e = no_cut b xs ys g' (lacks_tail b x xs h) (cc)
