-- A list in which each number has a partner, another number of the list with the product c modulo p, has the product c ^ (half its length).
use Rattle.std.specs.Prelude.{◌≡◌, ℕ, zero, suc, ◌+◌, ◌*◌, ◌%◌, ◌^◌, ◌<◌, ◌≤◌, ◌≢◌, List, [], ◌∷◌, length, refl}
use Rattle.std.proofs.Common.{sym, subst, ◌∙◌, ap, inl, inr, mod-eq_of_lt, arith}
use Rattle.std.proofs.Math.Nat as N
use Rattle.std.proofs.Math.Nat.{mod-mod}
use Rattle.prime_field.specs.Primes.{Prime}
use Rattle.prime_field.specs.Proofs.Congruences.{mod_eq, mul_congr}
use Rattle.prime_field.specs.Proofs.Euclid.{mul_cancel}
use Rattle.prime_field.specs.Proofs.DistinctLists.{Member, Distinct, product, remove, length_remove, product_remove, from_remove, to_remove, distinct_remove, removed}

pub partner_unique : {p : ℕ} → Prime p → (c x y z : ℕ) → (0 < x) × (x < p) → y < p → z < p → (x * y) % p ≡ c → (x * z) % p ≡ c → y ≡ z
partner_unique {p} P c x y z r ly lz e f =
    sym (mod-eq_of_lt ly) ∙ mul_cancel P x y z r.0 r.1 (e ∙ sym f) ∙ mod-eq_of_lt lz

pub record Paired (p c : ℕ) (xs : List ℕ) : Type 0 where
  pub distinct : Distinct xs
  pub range : (x : ℕ) → Member x xs → (0 < x) × (x < p)
  pub partner : (x : ℕ) → Member x xs → (y : ℕ) × Member y xs × ((x * y) % p ≡ c)
  pub other : (x : ℕ) → Member x xs → (x * x) % p ≢ c

flip : (p c x y : ℕ) → (x * y) % p ≡ c → (y * x) % p ≡ c
flip p c x y e = mod_eq p (N.mul_comm y x) ∙ e

-- without x and its partner y the rest is paired
rest_paired : {p : ℕ} → Prime p → (c x : ℕ) (xs : List ℕ) → Paired p c (x ∷ xs) → (y : ℕ) (m : Member y xs) → (x * y) % p ≡ c →
    Paired p c (remove y xs m)
rest_paired {p} P c x xs h y m e =
    record {
      distinct = distinct_remove y xs m h.distinct.1;
      range = λ z k. h.range z (inr (from_remove z y xs m k));
      partner = λ z k.
          let (w, mw, f) = h.partner z (inr (from_remove z y xs m k)) in
          (w, place z k w mw f, f);
      other = λ z k. h.other z (inr (from_remove z y xs m k));
    }
  where
    rx : (0 < x) × (x < p)
    rx = h.range x (inl refl)

    ry : (0 < y) × (y < p)
    ry = h.range y (inr m)

    -- a partner w of z is neither x nor y, since z is neither
    place : (z : ℕ) → Member z (remove y xs m) → (w : ℕ) → Member w (x ∷ xs) → (z * w) % p ≡ c → Member w (remove y xs m)
    place z k w (inl q) f =
        let g : (x * z) % p ≡ c = flip p c z x (subst (λ (v : ℕ). (z * v) % p ≡ c) q f) in
        let rz = h.range z (inr (from_remove z y xs m k)) in
        let zy : z ≡ y = partner_unique P c x z y rx rz.1 ry.1 g e in
        absurd (removed y xs m h.distinct.1 (subst (λ (v : ℕ). Member v (remove y xs m)) zy k))
    place z k w (inr mw) f =
        to_remove w y xs m mw
        (λ q.
        let g : (y * z) % p ≡ c = flip p c z y (subst (λ (v : ℕ). (z * v) % p ≡ c) q f) in
        let rz = h.range z (inr (from_remove z y xs m k)) in
        let zx : z ≡ x = partner_unique P c y z x ry rz.1 rx.1 g (flip p c x y e) in
        h.distinct.0 (subst (λ (v : ℕ). Member v xs) zx (from_remove z y xs m k)))

abbrev pub PairProduct : (p c : ℕ) (xs : List ℕ) → Type 0
PairProduct p c xs = (h : ℕ) × (length xs ≡ h + h) × (product xs % p ≡ c ^ h % p)

one_pair_more : (p c x : ℕ) (xs : List ℕ) (y : ℕ) (m : Member y xs) → (x * y) % p ≡ c → PairProduct p c (remove y xs m) → PairProduct p c (x ∷ xs)
one_pair_more p c x xs y m e (h, l, q) =
    let r : ℕ = product (remove y xs m) in
    let le : suc (length xs) ≡ suc h + suc h = ap suc (length_remove y xs m) ∙ omega arith in
    let cp : (x * y) % p ≡ c % p = sym (mod-mod (x * y) p) ∙ mod_eq p e in (
      suc h,
      le,
      mod_eq p (ap (λ (v : ℕ). x * v) (product_remove y xs m) ∙ sym (N.mul_assoc x y r)) ∙ mul_congr p (x * y) c r (c ^ h) cp q
          ∙ mod_eq p (sym (N.pow-succ' c h)),
    )

-- by recursion on a bound n of the length
pub pair_product : {p : ℕ} → Prime p → (c n : ℕ) (xs : List ℕ) → length xs ≤ n → Paired p c xs → PairProduct p c xs
pair_product {p} P c n [] l h = (0, refl, mod_eq p (sym (N.pow-zero c)))
pair_product {p} P c zero (x ∷ xs) l h = absurd (N.not-suc-le-zero l)
pair_product {p} P c (suc n) (x ∷ xs) l h = go (h.partner x (inl refl)) (λ ys. pair_product P c n ys)
  where
    go : ((y : ℕ) × Member y (x ∷ xs) × ((x * y) % p ≡ c)) → ((ys : List ℕ) → length ys ≤ n → Paired p c ys → PairProduct p c ys) → PairProduct p c (x ∷ xs)
    go (y, inl q, e) ih = absurd (h.other x (inl refl) (subst (λ (v : ℕ). (x * v) % p ≡ c) q e))
    go (y, inr m, e) ih =
        let s = length_remove y xs m in
        one_pair_more p c x xs y m e (ih (remove y xs m) (omega arith) (rest_paired P c x xs h y m e))
