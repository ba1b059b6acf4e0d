-- Coordinates of elements: how many there are, and that they tell elements apart.
use Rattle.std.proofs.Common.{◌≡◌, ℕ, zero, suc, ◌^◌, List, [], ◌∷◌, ◌++◌, length, sym, refl, ap, ◌∙◌, ap₂, arith}
use native.Mathlib.Nat as N
use Rattle.std.proofs.lemmas.List.{length-append}
use Rattle.quadratic.specs.Signs.{coordinates}
use Rattle.quadratic.specs.Towers.{Height}

-- numbers that are not as many as an element has are not the coordinates of one
pub no_element : {E : Type 0} (f : E → List ℕ) (width : ℕ) → ((x : E) → length (f x) ≡ width) → (xs : List ℕ) → (length xs ≡ width → ⊥) → (x : E) → xs ≡ f x → ⊥
no_element f width long xs none x e = none (ap length e ∙ long x)

coordinates_length : (n : ℕ) (a : Height n ℕ) → length (coordinates n a) ≡ 2 ^ n
coordinates_length zero a = refl
coordinates_length (suc n) a =
    let l = coordinates_length n a.0 in
    let h = coordinates_length n a.1 in
    let p = N.pow-suc 2 n in
    length-append (coordinates n a.0) (coordinates n a.1) ∙ omega arith

append_unique : (a b c d : List ℕ) → length a ≡ length c → a ++ b ≡ c ++ d → (a ≡ c) × (b ≡ d)
append_unique [] b [] d l e = (refl, e)
append_unique [] b (y ∷ c) d l e = absurd (omega arith)
append_unique (x ∷ a) b [] d l e = absurd (omega arith)
append_unique (x ∷ a) b (y ∷ c) d l e =
    let first : x ≡ y = cc in
    let rest : a ++ b ≡ c ++ d = cc in
    let (same, others) = append_unique a b c d (omega arith) rest in
    (cc, others)

pub coordinates_once : (n : ℕ) (a b : Height n ℕ) → coordinates n a ≡ coordinates n b → a ≡ b
coordinates_once zero a b e = cc
coordinates_once (suc n) a b e =
    let (low, high) = append_unique (coordinates n a.0) (coordinates n a.1) (coordinates n b.0) (coordinates n b.1) (coordinates_length n a.0 ∙ sym (coordinates_length n b.0)) e in
    ap₂ (λ x y. (x, y)) (coordinates_once n a.0 b.0 low) (coordinates_once n a.1 b.1 high)
