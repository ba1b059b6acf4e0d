-- The states of a sealed unit: for each its number, and the orders that fit it.
use Rattle.std.specs.Prelude.{◌≡◌, ℕ, ◌≢◌}
use Rattle.unit.specs.declared.states.Kind.{Kind}
use Rattle.unit.specs.declared.states.Kind.TheVariants.{Open, Block, Engage, Release}
use Rattle.unit.specs.declared.states.State.{State}
use Rattle.unit.specs.declared.states.State.TheVariants.{Parked, Loading, Ready, Steering}

abbrev pub state_number : State → ℕ
state_number Parked = 0
state_number Loading = 1
state_number Ready = 2
state_number Steering = 3

-- an order of the kind fits the state
abbrev pub Fits : Kind → State → Type 0
Fits Open s = s ≢ Steering
Fits Block s = s ≡ Loading
Fits Engage s = s ≡ Ready
Fits Release s = s ≡ Steering
