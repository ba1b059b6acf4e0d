-- No exponent below j is one at which b is 1.
use Rattle.std.proofs.Common.{◌≡◌, ◌-◌, ◌^◌, ◌<◌}
use Rattle.prime_field.specs.Modular.{power}
use Rattle.prime_field.specs.Exponents.{NoExponent}
use Rattle.prime_field.proofs.arithmetic.Modulus.least_exponent.Given as goal

-- e is b squared j - 1 times
abbrev pub invariant-loop-j : goal.invariant-loop-j
invariant-loop-j l = record {
  positive : 0 < l.j;
  inside : l.e < l.self.value;
  value : l.e ≡ power l.self.value l.b (2 ^ (l.j - 1));
  none : NoExponent l.self.value l.b l.j;
}

abbrev pub decreases-loop-j : goal.decreases-loop-j
decreases-loop-j l = l.m - l.j
