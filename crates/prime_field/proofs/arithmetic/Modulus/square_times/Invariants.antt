-- After each squaring, r is a to the power 2 ^ (their number).
use Rattle.std.proofs.Common.{◌≡◌, ◌^◌, ◌<◌}
use Rattle.prime_field.specs.Modular.{power}
use Rattle.prime_field.proofs.arithmetic.Modulus.square_times.Given as goal

abbrev pub invariant-loop : goal.invariant-loop
invariant-loop l = record {
  value : l.r ≡ power l.self.value l.a (2 ^ l.counter);
  inside : l.r < l.self.value;
}
