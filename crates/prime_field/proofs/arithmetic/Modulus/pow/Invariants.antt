-- Before the digit at k, r is a to the power of the digits above it.
use Rattle.std.proofs.Common.{◌≡◌, ◌/◌, ◌^◌, ◌<◌}
use Rattle.prime_field.specs.Modular.{power}
use Rattle.prime_field.proofs.arithmetic.Modulus.pow.Given as goal

abbrev pub invariant-loop-k : goal.invariant-loop-k
invariant-loop-k l = record {
  value : l.r ≡ power l.self.value l.a (l.n / 2 ^ l.k);
  inside : l.r < l.self.value;
}
