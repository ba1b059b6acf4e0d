-- What a field refuses: for each case its number and its layer; and when a root is found or refused.
-- When a field is not made, or not extended, stands with the calls that make it.
use Rattle.std.specs.Prelude.{ℕ, Result, MatchResult}
use Rattle.algebra.specs.Operations.{Ops, In}
use Rattle.algebra.specs.Roots.{Square, RootOf}
use Rattle.algebra.specs.declared.faults.FieldFault.{FieldFault}
use Rattle.algebra.specs.declared.faults.FieldFault.TheVariants.{UnlistedModulus, NotNonresidue, NotNonsquare, NotElement, NoRoot}
use Rattle.algebra.specs.declared.faults.Layer.{Layer}
use Rattle.algebra.specs.declared.faults.Layer.TheVariants.{Field}

abbrev pub field_number : FieldFault → ℕ
field_number UnlistedModulus = 1
field_number NotNonresidue = 2
field_number NotNonsquare = 3
field_number NotElement = 6
field_number NoRoot = 7

abbrev pub field_layer : FieldFault → Layer
field_layer UnlistedModulus = Field
field_layer NotNonresidue = Field
field_layer NotNonsquare = Field
field_layer NotElement = Field
field_layer NoRoot = Field

-- why the root of a is refused
abbrev pub RefusesRoot : {E : Type 0} → Ops E → E → FieldFault → Type 0
RefusesRoot o a NotElement = In o a → ⊥
RefusesRoot o a NoRoot = In o a × (Square o a → ⊥)
RefusesRoot o a UnlistedModulus = ⊥
RefusesRoot o a NotNonresidue = ⊥
RefusesRoot o a NotNonsquare = ⊥

-- r answers the root of a value a that need not be an element
abbrev pub FindsRoot : {E : Type 0} → Ops E → E → Result E FieldFault → Type 0
FindsRoot o a r = MatchResult r (λ x. In o a × RootOf o a x) (RefusesRoot o a)
