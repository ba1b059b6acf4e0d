-- What the rounds keep, and m, which falls with each.
use Rattle.prime_field.proofs.Rounds.{Round}
use Rattle.prime_field.proofs.roots.PrimeFieldRootedField.root.Given as goal

abbrev pub invariant-loop-b : goal.invariant-loop-b
invariant-loop-b l = Round l.p.value l.a l.x l.b l.c l.m

abbrev pub decreases-loop-b : goal.decreases-loop-b
decreases-loop-b l = l.m
