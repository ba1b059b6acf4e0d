-- The field laws of arithmetic modulo an odd prime.
use Rattle.std.specs.Prelude.{◌≡◌, ℕ, zero, suc, ◌+◌, ◌-◌, ◌*◌, ◌/◌, ◌%◌, ◌<◌, ◌⊎◌, refl}
use Rattle.std.proofs.Common.{sym, ◌∙◌, ap, inl, inr, mod-lt, mod-eq_of_lt, arith}
use Rattle.std.proofs.Math.Nat as N
use Rattle.std.proofs.Math.Nat.{mod-add-mod, add-mod-mod, mod_self, zero-mod}
use Rattle.std.proofs.lemmas.Bool.{lt-ltb, ltb-true, eqb-true, eq-eqb}
use Rattle.algebra.specs.Operations.{In}
use Rattle.algebra.specs.Roots.{Square, Rooted}
use Rattle.algebra.specs.Laws.{Arithmetic, SquareLaw, SignLaw, Laws}
use Rattle.algebra.proofs.Products.{square_has_root}
use Rattle.std.proofs.lemmas.Nat.{mul-mod_first, mul-mod_second}
use Rattle.prime_field.specs.Primes.{Prime}
use Rattle.prime_field.specs.Modular.{power, modular}
use Rattle.prime_field.specs.Proofs.Congruences.{mod_eq}
use Rattle.prime_field.specs.Proofs.Euler.{euler, minus_one_squared}
use Rattle.prime_field.specs.Proofs.Powers.{power_lt, power_inverse, zero_power, mul_power}

module _ (p : ℕ) (P : Prime p) (odd : p % 2 ≡ 1) where
  two : 2 < p
  two = omega (arith, P.above_one)

  reduced : (a : ℕ) → In (modular p) (a % p)
  reduced a = lt-ltb (a % p) p (mod-lt a (omega (arith, two)))

  add_neg : (a : ℕ) → a < p → (a + (p - a) % p) % p ≡ 0
  add_neg a h =
      let e : a + (p - a) ≡ p = omega arith in
      add-mod-mod a (p - a) p ∙ mod_eq p e ∙ mod_self p

  two_not_zero : 2 % p ≡ 0 → ⊥
  two_not_zero e = let k : 2 % p ≡ 2 = mod-eq_of_lt two in omega arith

  add_assoc : (a b c : ℕ) → ((a + b) % p + c) % p ≡ (a + (b + c) % p) % p
  add_assoc a b c = simp (mod-add-mod, add-mod-mod, N.add_assoc)

  mul_assoc : (a b c : ℕ) → ((a * b) % p * c) % p ≡ (a * ((b * c) % p)) % p
  mul_assoc a b c = simp (mul-mod_first, mul-mod_second, N.mul_assoc)

  mul_add : (a b c : ℕ) → (a * ((b + c) % p)) % p ≡ ((a * b) % p + (a * c) % p) % p
  mul_add a b c = simp (mul-mod_second, N.mul-add, mod-add-mod, add-mod-mod)

  arithmetic : Arithmetic (modular p)
  arithmetic =
      record {
        zero_in = lt-ltb 0 p (omega (arith, two));
        one_in = lt-ltb 1 p P.above_one;
        add_in = λ a b _ _. reduced (a + b);
        mul_in = λ a b _ _. reduced (a * b);
        neg_in = λ a _. reduced (p - a);
        inv_in = λ a _. lt-ltb (power p a (p - 2)) p (power_lt p a (p - 2) (omega (arith, two)));
        same_is = λ a b _ _ e. eqb-true a b e;
        is_same = λ a _. eq-eqb a a refl;
        add_comm = λ a b _ _. mod_eq p (N.add_comm a b);
        add_assoc = λ a b c _ _ _. add_assoc a b c;
        mul_comm = λ a b _ _. mod_eq p (N.mul_comm a b);
        mul_assoc = λ a b c _ _ _. mul_assoc a b c;
        mul_add = λ a b c _ _ _. mul_add a b c;
        add_zero = λ a h. mod_eq p (N.add-zero a) ∙ mod-eq_of_lt (ltb-true a p h);
        mul_one = λ a h. mod_eq p (N.mul-one a) ∙ mod-eq_of_lt (ltb-true a p h);
        add_neg = λ a h. add_neg a (ltb-true a p h);
        mul_inv = λ a h n. power_inverse P odd a (N.pos_of_ne-zero n) (ltb-true a p h);
        inv_zero = zero_power p (p - 2) (omega (arith, two));
        one_not_zero = λ e. omega arith;
        two_not_zero = two_not_zero;
      }

  -- a is a square, or - 1 at the power of Euler's criterion
  square_or_not : (a : ℕ) → In (modular p) a → Square (modular p) a ⊎ (power p a ((p - 1) / 2) ≡ p - 1)
  square_or_not zero h = inl (0, h, zero-mod p)
  square_or_not (suc a) h =
      elim (euler P odd (suc a) (omega arith) (ltb-true (suc a) p h)) [ inl s ↦ inl s.0 | inr n ↦ inr n.1 ]

  squares : SquareLaw (modular p)
  squares a b ha hb = go (square_or_not a ha) (square_or_not b hb) (square_or_not c (reduced (a * b)))
    where
      c : ℕ
      c = (a * b) % p

      h : ℕ
      h = (p - 1) / 2

      go : Square (modular p) a ⊎ (power p a h ≡ p - 1) → Square (modular p) b ⊎ (power p b h ≡ p - 1) → Square (modular p) c ⊎ (power p c h ≡ p - 1) →
          Square (modular p) a ⊎ (Square (modular p) b ⊎ Square (modular p) c)
      go (inl s) _ _ = inl s
      go (inr _) (inl s) _ = inr (inl s)
      go (inr _) (inr _) (inl s) = inr (inr s)
      go (inr e) (inr f) (inr g) =
          -- (- 1) (- 1) = 1, which is not - 1
          let k : p - 1 ≡ 1 =
          sym g ∙ mul_power p a b h ∙ ap (λ (v : ℕ). (v * power p b h) % p) e ∙ ap (λ (v : ℕ). ((p - 1) * v) % p) f ∙ minus_one_squared p P.above_one in
          absurd (omega (arith, two))

  signs : SignLaw (modular p)
  signs =
      record {
        of_zero = refl;
        of_negative = λ a h n.
            let l : a < p = ltb-true a p h in
            let e : (p - a) % p ≡ p - a = mod-eq_of_lt (omega arith) in
            ap (λ (v : ℕ). a % 2 + v % 2) e ∙ omega arith;
      }

pub modular_laws : (p : ℕ) → Prime p → p % 2 ≡ 1 → Laws (modular p)
modular_laws p P odd = record { arithmetic = arithmetic p P odd; squares = squares p P odd; signs = signs p P odd }

-- each number below p has a root modulo p, or is no square
pub modular_rooted : (p : ℕ) → Prime p → p % 2 ≡ 1 → Rooted (modular p)
modular_rooted p P odd zero h = inl (square_has_root (modular_laws p P odd) 0 (0, h, zero-mod p))
modular_rooted p P odd (suc a) h =
    elim (euler P odd (suc a) (omega arith) (ltb-true (suc a) p h)) [
      | inl s ↦ inl (square_has_root (modular_laws p P odd) (suc a) s.0)
      | inr n ↦ inr n.0
    ]
