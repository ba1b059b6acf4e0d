-- The product of 1 to p - 1, by pairs with the product a: where a has no root, and where it has one.
use Rattle.std.specs.Prelude.{◌≡◌, ℕ, suc, pred, ◌+◌, ◌-◌, ◌*◌, ◌%◌, ◌^◌, ◌<◌, ◌≢◌, ◌⊎◌, List, length}
use Rattle.std.proofs.Math.Path.{refl, sym, ap}
use Rattle.std.proofs.Common.{subst, ◌∙◌, mod-eq_of_lt}
use Rattle.std.proofs.Math.Logic.{inl, inr}
use Rattle.std.proofs.Math.Nat as N
use Rattle.std.proofs.Math.Nat.{mod-lt, zero-mod, mul-mod_left, add-mul-mod_self_left, mod-eq-sub-mod}
use native.Mathlib.Omega.{arith}
use Rattle.std.proofs.lemmas.Bool.{cases_lt}
use Rattle.std.proofs.lemmas.Nat.{mul-mod_first, mul-mod_second}
use Rattle.prime_field.specs.Primes.{Prime}
use Rattle.prime_field.specs.Proofs.Congruences.{mod_eq, mul_congr, add_congr}
use Rattle.prime_field.specs.Proofs.Euclid.{inverse, euclid}
use Rattle.prime_field.specs.Proofs.DistinctLists.{Member, Distinct, product, remove, length_remove, product_remove, from_remove, to_remove, distinct_remove, removed, up_to, length_up_to, to_up_to, from_up_to, distinct_up_to}
use Rattle.prime_field.specs.Proofs.Pairing.{Paired, PairProduct, pair_product, partner_unique}

-- the numbers from 1 to p - 1
abbrev pub units : ℕ → List ℕ
units p = up_to (pred p)

from_units : (p x : ℕ) → Member x (units p) → (0 < x) × (x < p)
from_units p x m = let h = from_up_to (pred p) x m in omega arith

to_units : (p x : ℕ) → 0 < x → x < p → Member x (units p)
to_units p x pos lt = to_up_to (pred p) x pos (omega arith)

-- x y = a has a solution
solve : {p : ℕ} → Prime p → (a x : ℕ) → 0 < a → a < p → 0 < x → x < p → (y : ℕ) × (0 < y) × (y < p) × ((x * y) % p ≡ a)
solve {p} P a x pa la px lx = go (inverse P x px lx)
  where
    go : (i : ℕ) × ((x * i) % p ≡ 1) → (y : ℕ) × (0 < y) × (y < p) × ((x * y) % p ≡ a)
    go (i, e) = ((i * a) % p, N.pos_of_ne-zero nz, mod-lt (i * a) (omega arith), is)
      where
        is : (x * ((i * a) % p)) % p ≡ a
        is =
            mul-mod_second x (i * a) p ∙ mod_eq p (sym (N.mul_assoc x i a)) ∙ sym (mul-mod_first (x * i) a p)
            ∙ ap (λ (v : ℕ). (v * a) % p) e ∙ mod_eq p (N.one-mul a) ∙ mod-eq_of_lt la

        nz : (i * a) % p ≢ 0
        nz z =
            let b : 0 ≡ a = sym (zero-mod p) ∙ mod_eq p (sym (N.mul-zero x)) ∙ ap (λ (v : ℕ). (x * v) % p) (sym z) ∙ is in
            omega arith

-- a has no root: the product is a ^ ((p - 1) / 2)
pub product_rootless : {p : ℕ} → Prime p → (a : ℕ) → 0 < a → a < p → ((x : ℕ) → x < p → (x * x) % p ≢ a) →
    (h : ℕ) × (pred p ≡ h + h) × (product (units p) % p ≡ a ^ h % p)
product_rootless {p} P a pa la none =
    let (h, l, e) = pair_product P a (length (units p)) (units p) (N.le_refl (length (units p))) paired in
    (h, sym (length_up_to (pred p)) ∙ l, e)
  where
    paired : Paired p a (units p)
    paired =
        record {
          distinct = distinct_up_to (pred p);
          range = from_units p;
          partner = λ x m.
              let r = from_units p x m in
              let (y, py, ly, e) = solve P a x pa la r.0 r.1 in
              (y, to_units p y py ly, e);
          other = λ x m. none x (from_units p x m).1;
        }

-- a multiple of p between 0 and 2 p is p
is_modulus : (p n : ℕ) → 0 < n → n < p + p → n % p ≡ 0 → n ≡ p
is_modulus p n pos lt z =
    elim (cases_lt n p) [
      | inl a ↦ (let e = mod-eq_of_lt a in omega (arith, sym e ∙ z))
      | inr b ↦
          (let s : n - p < p = omega arith in
          let e : n - p ≡ 0 = sym (mod-eq_of_lt s) ∙ sym (mod-eq-sub-mod b) ∙ z in
          omega arith)
    ]

-- a number and its negative have the same square
pub negative_square : (p s t : ℕ) → s + t ≡ p → (t * t) % p ≡ (s * s) % p
negative_square p s t e =
    let q : t * t + (s + t) * (s + s) ≡ s * s + (s + t) * (s + t) = omega arith in
    subst (λ (v : ℕ). (t * t) % v ≡ (s * s) % v) e
    (sym (add-mul-mod_self_left (t * t) (s + t) (s + s)) ∙ mod_eq (s + t) q ∙ add-mul-mod_self_left (s * s) (s + t) (s + t))

negative_product : (p s t : ℕ) → s + t ≡ p → (s * t + s * s) % p ≡ 0
negative_product p s t e =
    let q : s * t + s * s ≡ s * (s + t) = omega arith in
    mod_eq p (q ∙ ap (λ (v : ℕ). s * v) e) ∙ mul-mod_left s p

-- what squares to s s is s or its negative t
square_roots : {p : ℕ} → Prime p → (s t x : ℕ) → s + t ≡ p → 0 < s → 0 < t → 0 < x → x < p → (x * x) % p ≡ (s * s) % p → (x ≡ s) ⊎ (x ≡ t)
square_roots {p} P s t x e ps pt px lx q =
    let f : (x + s) * (x + t) ≡ x * x + s * t + x * (s + t) = omega arith in
    let g : (x * x + s * t) % p ≡ 0 =
    add_congr p (x * x) (s * s) (s * t) (s * t) q refl ∙ mod_eq p (N.add_comm (s * s) (s * t)) ∙ negative_product p s t e in
    let z : ((x + s) * (x + t)) % p ≡ 0 =
    mod_eq p (f ∙ ap (λ (v : ℕ). x * x + s * t + x * v) e) ∙ N.add-mul-mod_self_right (x * x + s * t) x p ∙ g in
    elim (euclid P (x + s) (x + t) z) [
      | inl a ↦ (let w : x + s ≡ p = is_modulus p (x + s) (omega arith) (omega arith) a in inr (omega arith))
      | inr b ↦ (let w : x + t ≡ p = is_modulus p (x + t) (omega arith) (omega arith) b in inl (omega arith))
    ]

-- the square of s: without s and its negative, 1 to p - 1 are in pairs
module _ {p : ℕ} (P : Prime p) (odd : p % 2 ≡ 1) (s : ℕ) (ps : 0 < s) (ls : s < p) where
  t : ℕ
  t = p - s

  st : s + t ≡ p
  unfolding t
  st = omega arith

  pt : 0 < t
  unfolding t
  pt = omega arith

  lt : t < p
  unfolding t
  lt = omega arith

  t_not_s : t ≢ s
  t_not_s e = omega (arith, st)

  a : ℕ
  a = (s * s) % p

  a_is : a ≡ (s * s) % p
  unfolding a
  a_is = refl

  ms : Member s (units p)
  ms = to_units p s ps ls

  mt : Member t (remove s (units p) ms)
  mt = to_remove t s (units p) ms (to_units p t pt lt) t_not_s

  others : List ℕ
  others = remove t (remove s (units p) ms) mt

  from_others : (x : ℕ) → Member x others → Member x (units p) × (x ≢ s) × (x ≢ t)
  unfolding others
  from_others x m =
      let k = from_remove x t (remove s (units p) ms) mt m in
      let d = distinct_up_to (pred p) in (
        from_remove x s (units p) ms k,
        λ e. removed s (units p) ms d (subst (λ (v : ℕ). Member v (remove s (units p) ms)) e k),
        λ e. removed t (remove s (units p) ms) mt (distinct_remove s (units p) ms d) (subst (λ (v : ℕ). Member v (remove t (remove s (units p) ms) mt)) e m),
      )

  to_others : (x : ℕ) → Member x (units p) → x ≢ s → x ≢ t → Member x others
  unfolding others
  to_others x m n o = to_remove x t (remove s (units p) ms) mt (to_remove x s (units p) ms m n) o

  others_distinct : Distinct others
  unfolding others
  others_distinct = distinct_remove t (remove s (units p) ms) mt (distinct_remove s (units p) ms (distinct_up_to (pred p)))

  a_pos : 0 < a
  unfolding a
  a_pos =
      let nonzero : s % p ≢ 0 = λ z. (let e : s ≡ 0 = sym (mod-eq_of_lt ls) ∙ z in omega arith) in
      N.pos_of_ne-zero (λ z. elim (euclid P s s z) [ inl k ↦ nonzero k | inr k ↦ nonzero k ])

  a_lt : a < p
  unfolding a
  a_lt = mod-lt (s * s) (omega arith)

  others_partner : (x : ℕ) → Member x others → (y : ℕ) × Member y others × ((x * y) % p ≡ a)
  others_partner x m = go (solve P a x a_pos a_lt r.0 r.1)
    where
      i : Member x (units p) × (x ≢ s) × (x ≢ t)
      i = from_others x m

      r : (0 < x) × (x < p)
      r = from_units p x i.0

      -- the partner of a root w of a is w
      same : (w : ℕ) → 0 < w → w < p → (w * w) % p ≡ a → (y : ℕ) → (x * y) % p ≡ a → y ≡ w → x ≡ w
      same w pw lw sq y e q =
          partner_unique P a w x w (pw, lw) r.1 lw (mod_eq p (N.mul_comm w x) ∙ ap (λ (v : ℕ). (x * v) % p) (sym q) ∙ e) sq

      go : (y : ℕ) × (0 < y) × (y < p) × ((x * y) % p ≡ a) → (y : ℕ) × Member y others × ((x * y) % p ≡ a)
      go (y, py, ly, e) = (
        y,
        to_others y (to_units p y py ly) (λ q. i.1 (same s ps ls (sym a_is) y e q))
            (λ q. i.2 (same t pt lt (negative_square p s t st ∙ sym a_is) y e q)),
        e,
      )

  others_paired : Paired p a others
  others_paired =
      record {
        distinct = others_distinct;
        range = λ x m. from_units p x (from_others x m).0;
        partner = others_partner;
        other = λ x m e.
            let i = from_others x m in
            let r = from_units p x i.0 in
            elim (square_roots P s t x st ps pt r.0 r.1 (e ∙ a_is)) [ inl q ↦ i.1 q | inr q ↦ i.2 q ];
      }

  units_length : (h : ℕ) → length others ≡ h + h → pred p ≡ suc h + suc h
  unfolding others
  units_length h l =
      let b = length_remove s (units p) ms in
      let c = length_remove t (remove s (units p) ms) mt in
      sym (length_up_to (pred p)) ∙ omega arith

  units_product : product (units p) ≡ s * t * product others
  unfolding others
  units_product =
      product_remove s (units p) ms ∙ ap (λ (v : ℕ). s * v) (product_remove t (remove s (units p) ms) mt)
      ∙ sym (N.mul_assoc s t (product (remove t (remove s (units p) ms) mt)))

  product_square : (h : ℕ) × (pred p ≡ h + h) × ((product (units p) + a ^ h) % p ≡ 0)
  product_square = go (pair_product P a (length others) others (N.le_refl (length others)) others_paired)
    where
      go : PairProduct p a others → (h : ℕ) × (pred p ≡ h + h) × ((product (units p) + a ^ h) % p ≡ 0)
      go (h, l, e) = (suc h, units_length h l, sum)
        where
          w : ℕ
          w = a ^ h

          first : product (units p) % p ≡ (s * t * w) % p
          first = mod_eq p units_product ∙ mul_congr p (s * t) (s * t) (product others) w refl e

          second : (a ^ suc h) % p ≡ (s * s * w) % p
          second = mod_eq p (N.pow-succ' a h ∙ ap (λ (v : ℕ). v * w) a_is) ∙ mul-mod_first (s * s) w p

          sum : (product (units p) + a ^ suc h) % p ≡ 0
          sum =
              add_congr p (product (units p)) (s * t * w) (a ^ suc h) (s * s * w) first second
              ∙ mod_eq p (sym (N.add-mul (s * t) (s * s) w)) ∙ sym (mul-mod_first (s * t + s * s) w p)
              ∙ ap (λ (v : ℕ). (v * w) % p) (negative_product p s t st) ∙ mod_eq p (N.zero-mul w) ∙ zero-mod p

-- a has the root s: the product is - a ^ ((p - 1) / 2)
pub product_rooted : {p : ℕ} → Prime p → p % 2 ≡ 1 → (a s : ℕ) → 0 < s → s < p → (s * s) % p ≡ a →
    (h : ℕ) × (pred p ≡ h + h) × ((product (units p) + a ^ h) % p ≡ 0)
product_rooted {p} P odd c s ps ls e =
    subst (λ (v : ℕ). (h : ℕ) × (pred p ≡ h + h) × ((product (units p) + v ^ h) % p ≡ 0)) (a_is P odd s ps ls ∙ e) (product_square P odd s ps ls)
