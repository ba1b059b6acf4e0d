-- What has been written since the first number: each further one after a comma.
use Rattle.std.proofs.Common.{◌∷◌, take}
use Rattle.std.specs.Fmt.{HasWritten, IsPlainFormatter}
use Rattle.std.specs.List.{flat_map}
use Rattle.lines.specs.Numbers.{numeral}
use Rattle.lines.proofs.numbers.NumbersDisplay.fmt.Given as goal

abbrev pub invariant-loop-v : goal.invariant-loop-v
invariant-loop-v g l =
    IsPlainFormatter l.initial.f → HasWritten g.W.Write.write_str_gives l.initial.f (flat_map (λ v. 44 ∷ numeral v) (take l.v-index l.others)) l.f
