-- The rounds that find a root: what they keep, and what they give at the end.
use Rattle.std.proofs.Common.{◌≡◌, ℕ, zero, suc, ◌+◌, ◌-◌, ◌*◌, ◌%◌, ◌^◌, ◌<◌, ◌≢◌, sym, refl, ap, ◌∙◌, subst, inl, inr, arith, pow-add}
use native.Mathlib.Nat as N
use Rattle.std.proofs.lemmas.Bool.{cases_eq}
use Rattle.algebra.specs.Roots.{Square}
use Rattle.std.proofs.lemmas.Nat.{mul-mod_first, mul-mod_second}
use Rattle.prime_field.specs.Primes.{Prime}
use Rattle.prime_field.specs.Modular.{power, modular}
use Rattle.prime_field.specs.Exponents.{NoExponent, LeastExponent}
use Rattle.prime_field.specs.Proofs.Congruences.{mod_eq, mul_congr, add_cancel}
use Rattle.prime_field.specs.Proofs.Euclid.{euclid}
use Rattle.prime_field.specs.Proofs.Euler.{minus_one_squared}
use Rattle.prime_field.specs.Proofs.Residues.{Split, exponent_pos, double, square_order}
use Rattle.prime_field.specs.Proofs.Powers.{power_lt, power_one, power_add, power_suc, power_power, mul_power, square_power}

-- 1 and - 1 are the only numbers whose square is 1
unit_roots : {p : ℕ} → Prime p → (z : ℕ) → z < p → (z * z) % p ≡ 1 → z ≢ 1 → z ≡ p - 1
unit_roots {p} P zero lz e n1 = let k : ◌≡◌ {A = ℕ} 0 1 = sym (N.zero-mod p) ∙ e in absurd (omega arith)
unit_roots {p} P (suc w) lz e n1 =
    elim (euclid P w (suc (suc w)) zeroed) [
      | inl a ↦ (let k : w ≡ 0 = sym (N.mod-eq_of_lt (omega arith)) ∙ a in absurd (n1 (ap suc k)))
      | inr b ↦ elim (cases_eq (suc (suc w)) p) [
        | inl q ↦ omega arith
        | inr q ↦ (let lt : suc (suc w) < p = omega arith in let k : suc (suc w) ≡ 0 = sym (N.mod-eq_of_lt lt) ∙ b in absurd (omega arith))
      ]
    ]
  where
    -- (w + 1) (w + 1) = 1 + w (w + 2)
    zeroed : (w * suc (suc w)) % p ≡ 0
    zeroed =
        let q : 1 + w * suc (suc w) ≡ suc w * suc w = omega arith in
        let s : (1 + w * suc (suc w)) % p ≡ (1 + 0) % p = mod_eq p q ∙ e ∙ sym (N.mod-eq_of_lt P.above_one) in
        add_cancel p 1 (w * suc (suc w)) 0 (omega arith) s ∙ N.zero-mod p

-- what each round keeps
pub record Round (p a x b c m : ℕ) : Type 0 where
  pub x_in : x < p
  pub b_in : b < p
  pub c_in : c < p
  pub more : 0 < m
  pub square : (x * x) % p ≡ (a * b) % p
  pub c_order : power p c (2 ^ (m - 1)) ≡ p - 1
  pub b_order : Square (modular p) a → power p b (2 ^ (m - 1)) ≡ 1

pub round_first : {p s t : ℕ} → Split p s t → (a k w x b g : ℕ) → g < p → power p g (2 ^ (s - 1)) ≡ p - 1 → 0 < a → a < p →
    w ≡ power p a k → x ≡ (a * w) % p → b ≡ (x * w) % p → k + k + 1 ≡ t → Round p a x b g s
round_first {p} {s} {t} h a k w x b g lg order pa la ew ex eb q =
    record {
      x_in = subst (λ (v : ℕ). v < p) (sym ex) (N.mod-lt (a * w) pos);
      b_in = subst (λ (v : ℕ). v < p) (sym eb) (N.mod-lt (x * w) pos);
      c_in = lg;
      more = exponent_pos h;
      square = square;
      c_order = order;
      b_order = square_order h a b b_power pa la;
    }
  where
    pos : 0 < p
    pos = omega arith

    square : (x * x) % p ≡ (a * b) % p
    square =
        ap (λ (v : ℕ). (x * v) % p) ex ∙ mul-mod_second x (a * w) p ∙ mod_eq p (N.mul_left_comm x a w)
        ∙ sym (mul-mod_second a (x * w) p) ∙ ap (λ (v : ℕ). (a * v) % p) (sym eb)

    b_power : b ≡ power p a t
    b_power =
        let g : a * w * w ≡ w * w * a = omega arith in
        eb ∙ ap (λ (v : ℕ). (v * w) % p) ex ∙ mul-mod_first (a * w) w p ∙ mod_eq p g ∙ sym (mul-mod_first (w * w) a p)
        ∙ ap (λ (v : ℕ). ((v * v) % p * a) % p) ew ∙ ap (λ (v : ℕ). (v * a) % p) (power_add p a k k) ∙ power_suc p a (k + k)
        ∙ ap (λ (v : ℕ). power p a v) q

-- the search found no exponent, and b is not 1
pub round_none : (p a x b c m : ℕ) → Round p a x b c m → b ≢ 1 → NoExponent p b m → Square (modular p) a → ⊥
round_none p a x b c m r nb none y = go (m - 1) refl
  where
    one : power p b (2 ^ (m - 1)) ≡ 1
    one = r.b_order y

    go : (k : ℕ) → m - 1 ≡ k → ⊥
    go zero e = nb (sym (power_one p b r.b_in) ∙ sym (ap (λ (v : ℕ). power p b (2 ^ v)) e) ∙ one)
    go (suc k) e = none (m - 1) (omega arith) (omega arith) one

-- the search found i
pub round_next : (p a x b c m i n d x' c' b' : ℕ) → Prime p → Round p a x b c m → b ≢ 1 → LeastExponent p b m i →
    d ≡ power p c (2 ^ n) → x' ≡ (x * d) % p → c' ≡ (d * d) % p → b' ≡ (b * c') % p → n + i + 1 ≡ m → Round p a x' b' c' i
round_next p a x b c m i n d x' c' b' P r nb l ed ex ec eb em =
    record {
      x_in = subst (λ (v : ℕ). v < p) (sym ex) (N.mod-lt (x * d) pos);
      b_in = subst (λ (v : ℕ). v < p) (sym eb) (N.mod-lt (b * c') pos);
      c_in = subst (λ (v : ℕ). v < p) (sym ec) (N.mod-lt (d * d) pos);
      more = l.positive;
      square = square;
      c_order = c_order;
      b_order = λ _.
          ap (λ (v : ℕ). power p v (2 ^ (i - 1))) eb ∙ mul_power p b c' (2 ^ (i - 1)) ∙ ap (λ (v : ℕ). (v * power p c' (2 ^ (i - 1))) % p) b_last
          ∙ ap (λ (v : ℕ). ((p - 1) * v) % p) c_order ∙ minus_one_squared p P.above_one;
    }
  where
    pos : 0 < p
    pos = omega (arith, P.above_one)

    square : (x' * x') % p ≡ (a * b') % p
    square =
        ap (λ (v : ℕ). (v * v) % p) ex
        ∙ mul_congr p ((x * d) % p) (x * d) ((x * d) % p) (x * d) (N.mod-mod (x * d) p) (N.mod-mod (x * d) p)
        ∙ mod_eq p (N.mul-mul-mul_comm x d x d)
        ∙ mul_congr p (x * x) (a * b) (d * d) c' r.square (sym (mod_eq p ec ∙ N.mod-mod (d * d) p))
        ∙ mod_eq p (N.mul_assoc a b c')
        ∙ sym (mul-mod_second a (b * c') p) ∙ ap (λ (v : ℕ). (a * v) % p) (sym eb)

    c_order : power p c' (2 ^ (i - 1)) ≡ p - 1
    c_order =
        let q : n + i ≡ m - 1 = omega arith in
        ap (λ (v : ℕ). power p v (2 ^ (i - 1))) ec ∙ square_power p d (2 ^ (i - 1)) ∙ ap (λ (v : ℕ). power p d v) (double i l.positive)
        ∙ ap (λ (v : ℕ). power p v (2 ^ i)) ed ∙ power_power p c (2 ^ n) (2 ^ i)
        ∙ ap (λ (v : ℕ). power p c v) (sym (pow-add 2 n i) ∙ ap (λ (v : ℕ). 2 ^ v) q) ∙ r.c_order

    -- squared i - 1 times, b is not yet 1
    not_yet : (k : ℕ) → k < i → power p b (2 ^ k) ≢ 1
    not_yet zero h e = nb (sym (power_one p b r.b_in) ∙ e)
    not_yet (suc k) h e = l.least (suc k) (omega arith) h e

    b_last : power p b (2 ^ (i - 1)) ≡ p - 1
    b_last =
        unit_roots P (power p b (2 ^ (i - 1))) (power_lt p b (2 ^ (i - 1)) pos)
        (power_add p b (2 ^ (i - 1)) (2 ^ (i - 1)) ∙ ap (λ (v : ℕ). power p b v) (double i l.positive) ∙ l.one)
        (not_yet (i - 1) (omega (arith, l.positive)))

-- b is 1: x or its negative is the root
pub round_last : (p a x b c m : ℕ) → a < p → Round p a x b c m → b ≡ 1 → (x * x) % p ≡ a
round_last p a x b c m la r e = r.square ∙ ap (λ (v : ℕ). (a * v) % p) e ∙ mod_eq p (N.mul-one a) ∙ N.mod-eq_of_lt la
