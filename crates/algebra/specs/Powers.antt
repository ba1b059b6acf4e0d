-- Powers in a field.
use Rattle.std.specs.Prelude.{ℕ, zero, suc}
use Rattle.algebra.specs.Operations.{Ops}

-- x to the power k
abbrev pub power : {E : Type 0} → Ops E → E → ℕ → E
power o x zero = o.one
power o x (suc k) = o.mul x (power o x k)
