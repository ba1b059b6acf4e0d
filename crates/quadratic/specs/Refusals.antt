-- When an extension is refused.
use Rattle.algebra.specs.Operations.{Ops}
use Rattle.algebra.specs.declared.faults.FieldFault.{FieldFault}
use Rattle.algebra.specs.declared.faults.FieldFault.TheVariants.{UnlistedModulus, NotNonresidue, NotNonsquare, NotElement, NoRoot}
use Rattle.quadratic.specs.Pairs.{Nonsquare}

-- why the extension by β is refused
abbrev pub RefusesExtension : {E : Type 0} → Ops E → E → FieldFault → Type 0
RefusesExtension o β NotNonsquare = Nonsquare o β → ⊥
RefusesExtension o β UnlistedModulus = ⊥
RefusesExtension o β NotNonresidue = ⊥
RefusesExtension o β NotElement = ⊥
RefusesExtension o β NoRoot = ⊥
