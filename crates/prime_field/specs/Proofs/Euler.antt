-- Wilson's theorem, Euler's criterion both ways, and Fermat's little theorem, at an odd prime.
use Rattle.std.specs.Prelude.{◌≡◌, ℕ, zero, suc, pred, ◌+◌, ◌-◌, ◌*◌, ◌/◌, ◌%◌, ◌^◌, ◌<◌, ◌≢◌, ◌⊎◌, refl}
use Rattle.std.proofs.Common.{sym, subst, ◌∙◌, ap, inl, inr, mod-eq_of_lt, arith, pow-add}
use Rattle.std.proofs.Math.Nat as N
use Rattle.std.proofs.Math.Nat.{zero-mod}
use Rattle.std.proofs.lemmas.Bool.{cases_eq, lt-ltb, ltb-true}
use Rattle.algebra.specs.Roots.{Square}
use Rattle.prime_field.specs.Primes.{Prime}
use Rattle.prime_field.specs.Modular.{power, modular}
use Rattle.prime_field.specs.Proofs.Congruences.{mod_eq, mul_congr, add_congr, add_cancel}
use Rattle.prime_field.specs.Proofs.DistinctLists.{product}
use Rattle.prime_field.specs.Proofs.UnitProducts.{units, product_rootless, product_rooted}

one_pow : (n : ℕ) → 1 ^ n ≡ 1
one_pow zero = N.pow-zero 1
one_pow (suc n) = N.pow-suc 1 n ∙ N.mul-one (1 ^ n) ∙ one_pow n

wilson : {p : ℕ} → Prime p → p % 2 ≡ 1 → (product (units p) + 1) % p ≡ 0
wilson {p} P odd =
    let (h, _, e) = product_rooted P odd 1 1 (omega arith) P.above_one (mod-eq_of_lt P.above_one) in
    ap (λ (v : ℕ). (product (units p) + v) % p) (sym (one_pow h)) ∙ e

-- a root of a below n, or the fact that there is none
decide_root : (p a n : ℕ) → ((x : ℕ) × (x < n) × ((x * x) % p ≡ a)) ⊎ ((x : ℕ) → x < n → (x * x) % p ≢ a)
decide_root p a zero = inr (λ x h. absurd (N.not-suc-le-zero h))
decide_root p a (suc n) = go (decide_root p a n) (cases_eq ((n * n) % p) a)
  where
    go : ((x : ℕ) × (x < n) × ((x * x) % p ≡ a)) ⊎ ((x : ℕ) → x < n → (x * x) % p ≢ a) → ((n * n) % p ≡ a) ⊎ ((n * n) % p ≢ a) →
        ((x : ℕ) × (x < suc n) × ((x * x) % p ≡ a)) ⊎ ((x : ℕ) → x < suc n → (x * x) % p ≢ a)
    go (inl (x, l, e)) d = inl (x, N.le_step l, e)
    go (inr f) (inl e) = inl (n, N.le_refl (suc n), e)
    go (inr f) (inr ne) =
        inr (λ x h. elim (cases_eq x n) [
          | inl q ↦ subst (λ (v : ℕ). (v * v) % p ≢ a) (sym q) ne
          | inr q ↦ f x (omega arith)
        ])

-- Euler's criterion: a to the power (p - 1) / 2 is 1 where a is a square, and - 1 where it is none
abbrev pub Criterion : ℕ → ℕ → Type 0
Criterion p a =
    (Square (modular p) a × (power p a ((p - 1) / 2) ≡ 1)) ⊎ ((Square (modular p) a → ⊥) × (power p a ((p - 1) / 2) ≡ p - 1))

pub euler : {p : ℕ} → Prime p → p % 2 ≡ 1 → (a : ℕ) → 0 < a → a < p → Criterion p a
unfolding power
euler {p} P odd a pa la = go (decide_root p a p)
  where
    W : ℕ
    W = product (units p)

    half : (h : ℕ) → pred p ≡ h + h → h ≡ (p - 1) / 2
    half h e = omega arith

    -- W + y = 0 = W + 1
    is_one : (y : ℕ) → (W + y) % p ≡ 0 → y % p ≡ 1
    is_one y e = add_cancel p W y 1 (omega arith) (e ∙ sym (wilson P odd)) ∙ mod-eq_of_lt P.above_one

    -- 1 + y = 1 + W = 0
    is_minus_one : (y : ℕ) → W % p ≡ y % p → y % p ≡ p - 1
    is_minus_one y e =
        let above : 1 < p = P.above_one in
        let b : p ≡ 1 + (p - 1) = omega arith in
        let z : (1 + y) % p ≡ (1 + (p - 1)) % p =
        mod_eq p (N.add_comm 1 y) ∙ add_congr p y W 1 1 (sym e) refl ∙ wilson P odd ∙ sym (N.mod_self p) ∙ mod_eq p b in
        add_cancel p 1 y (p - 1) (omega arith) z ∙ mod-eq_of_lt (omega arith)

    go : ((x : ℕ) × (x < p) × ((x * x) % p ≡ a)) ⊎ ((x : ℕ) → x < p → (x * x) % p ≢ a) → Criterion p a
    go (inl (zero, l, e)) = let z : 0 ≡ a = sym (zero-mod p) ∙ e in absurd (omega arith)
    go (inl (suc x, l, e)) =
        let (h, q, s) = product_rooted P odd a (suc x) (omega arith) l e in
        inl ((suc x, lt-ltb (suc x) p l, e), subst (λ (v : ℕ). a ^ v % p ≡ 1) (half h q) (is_one (a ^ h) s))
    go (inr none) =
        let (h, q, s) = product_rootless P a pa la none in
        inr (λ r. none r.0 (ltb-true r.0 p r.1) r.2, subst (λ (v : ℕ). a ^ v % p ≡ p - 1) (half h q) (is_minus_one (a ^ h) s))

-- (- 1) (- 1) = 1
pub minus_one_squared : (p : ℕ) → 1 < p → ((p - 1) * (p - 1)) % p ≡ 1
minus_one_squared p above =
    let w : ℕ = p - 2 in
    let pe : p ≡ w + 2 = omega arith in
    let me : p - 1 ≡ w + 1 = omega arith in
    let q : (w + 1) * (w + 1) ≡ 1 + w * (w + 2) = omega arith in
    ap (λ (v : ℕ). (v * v) % p) me ∙ mod_eq p (q ∙ ap (λ (v : ℕ). 1 + w * v) (sym pe)) ∙ N.add-mul-mod_self_right 1 w p ∙ mod-eq_of_lt above

-- Fermat's little theorem: the square of what Euler's criterion says
pub fermat : {p : ℕ} → Prime p → p % 2 ≡ 1 → (a : ℕ) → 0 < a → a < p → power p a (p - 1) ≡ 1
unfolding power
fermat {p} P odd a pa la = go (euler P odd a pa la)
  where
    h : ℕ
    h = (p - 1) / 2

    hh : h + h ≡ p - 1
    hh = omega arith

    squared : (z : ℕ) → a ^ h % p ≡ z → a ^ (p - 1) % p ≡ (z * z) % p
    squared z e =
        let f : a ^ h % p ≡ z % p = sym (N.mod-mod (a ^ h) p) ∙ mod_eq p e in
        mod_eq p (ap (λ (v : ℕ). a ^ v) (sym hh) ∙ pow-add a h h) ∙ mul_congr p (a ^ h) z (a ^ h) z f f

    go : Criterion p a → a ^ (p - 1) % p ≡ 1
    go (inl r) = squared 1 r.1 ∙ mod-eq_of_lt P.above_one
    go (inr r) = squared (p - 1) r.1 ∙ minus_one_squared p P.above_one
