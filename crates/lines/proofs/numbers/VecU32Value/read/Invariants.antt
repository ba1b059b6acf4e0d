-- Each part read so far is the numeral of its value.
use Rattle.std.proofs.Common.{◌≡◌, map, vec_items}
use Rattle.std.specs.List.{AllByRecursion}
use Rattle.lines.specs.Numbers.{numeral, Fits32}
use Rattle.lines.proofs.numbers.VecU32Value.read.Given as goal

abbrev pub invariant-loop-part : goal.invariant-loop-part
invariant-loop-part l = record {
  fit : AllByRecursion Fits32 (vec_items l.values);
  read : map (λ part. part.now) l.yielded ≡ map numeral (vec_items l.values);
}
