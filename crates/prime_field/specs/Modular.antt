-- Arithmetic modulo p, on the numbers below p.
use Rattle.std.specs.Prelude.{ℕ, ◌+◌, ◌-◌, ◌*◌, ◌%◌, ◌^◌, nat_lt, eqb}
use Rattle.algebra.specs.Operations.{Ops}

-- a to the power n, modulo p. It stays shut, since a ^ n at large numerals would be computed in full.
unfoldable pub power : ℕ → ℕ → ℕ → ℕ
power p a n = a ^ n % p

-- The operations modulo p. At a prime p the power p - 2 inverts, by Fermat's little theorem.
-- At an odd p a number and its negative differ in parity, so parity is the sign.
abbrev pub modular : ℕ → Ops ℕ
modular p =
    record {
      is = λ a. nat_lt a p;
      same = eqb;
      zero = 0;
      one = 1;
      add = λ a b. (a + b) % p;
      mul = λ a b. (a * b) % p;
      neg = λ a. (p - a) % p;
      inv = λ a. power p a (p - 2);
      sign = λ a. a % 2;
    }
