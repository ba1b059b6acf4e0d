-- A field is made exactly of a listed modulus and a nonresidue, by Euler's criterion.
use Rattle.std.proofs.Common.{refl, arith}
use Rattle.prime_field.specs.Proofs.ListedPrimes.{listed_prime}
use Rattle.prime_field.specs.Proofs.Residues.{listed_split, nonresidue, residue}
use Rattle.prime_field.proofs.PrimeField.new.Goals as goal

pub returns-then-square_times-modulus : goal.returns-then-square_times-modulus
returns-then-square_times-modulus c =
    let listed = c.is_listed.ensures.0 c.if-not-is_listed.false in
    let split = listed_split listed c.split_twos-exponent.ensures.whole c.split_twos-exponent.ensures.odd in
    (listed, residue split c.pow-generator.ensures.value c.square_times.ensures.value c.if-square_times-modulus.true)

pub invariant_of-result-clause-is_prime : goal.invariant_of-result-clause-is_prime
invariant_of-result-clause-is_prime c = listed_prime c.args.modulus (c.is_listed.ensures.0 c.if-not-is_listed.false)

pub returns : goal.returns
returns c =
    let listed = c.is_listed.ensures.0 c.if-not-is_listed.false in
    let split = listed_split listed c.split_twos-exponent.ensures.whole c.split_twos-exponent.ensures.odd in (
      listed,
      nonresidue split c.pow-generator.ensures.value c.square_times.ensures.value c.if-square_times-modulus.false (omega arith) (omega arith),
      refl,
      c.pow-generator.ensures.value,
    )
