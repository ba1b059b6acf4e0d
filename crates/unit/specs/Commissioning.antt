-- How an open unit is commissioned: what a step makes of it, and what sealing does.
use Rattle.std.specs.Prelude.{◌≡◌, ℕ}
use Rattle.algebra.specs.Operations.{Ops}
use Rattle.algebra.specs.declared.Field.{Ghosts}
use Rattle.algebra.specs.declared.faults.FieldFault.TheVariants.{NotNonsquare}
use Rattle.quadratic.specs.Pairs.{Nonsquare}
use Rattle.quadratic.specs.declared.extension.Quad.{Quad}
use Rattle.quadratic.specs.declared.extension.Unextended.{Unextended}
use Rattle.unit.specs.Sealing.{Allowed, RefusesSealing}
use Rattle.unit.specs.declared.faults.UnitFault.{UnitFault}
use Rattle.unit.specs.declared.faults.UnitFault.TheVariants as fault
use Rattle.unit.specs.declared.units.Open.{Open}
use Rattle.unit.specs.declared.units.Rejected.{Rejected}
use Rattle.unit.specs.declared.units.Sealed.{Sealed}

-- the refusal bears the fault, and hands back the open unit u
abbrev pub HandsBack : {F E : Type 0} → UnitFault → Open F E → Rejected F E → Type 0
HandsBack f u e = (e.fault ≡ f) × (e.open ≡ u)

-- the field's refusal has become the unit's, with the field in an open unit again
abbrev pub Reopened : {F E : Type 0} → Unextended F → Rejected F E → Type 0
Reopened e r = (r.fault ≡ fault.Field e.fault) × (r.open.field ≡ e.base)

-- β is an element with no root in the field of the open unit u, and v is open on that field with a root of β added
abbrev pub Stepped : {F E D : Type 0} {meaning : Ghosts F E} → Open F E → E → Open (Quad F E meaning) D → Type 0
Stepped {meaning = m} u β v = Nonsquare (m.ops u.field) β × (v.field.base ≡ u.field) × (v.field.beta ≡ β)

-- β is no such element, and the open unit u is handed back
abbrev pub StepRefused : {F E : Type 0} → Ops E → Open F E → E → Rejected F E → Type 0
StepRefused o u β e = ¬ Nonsquare o β × HandsBack (fault.Field NotNonsquare) u e

-- the unit u is sealed on the field f with α and n, as it may be
abbrev pub SealedWith : {F E : Type 0} {meaning : Ghosts F E} → F → E → ℕ → Sealed F E meaning → Type 0
SealedWith {meaning = m} f α n u = Allowed (m.ops f) α n × (u.field ≡ f) × (u.alpha ≡ α) × (u.length ≡ n)

-- α and n may not be sealed, and the open unit u is handed back
abbrev pub SealingRefused : {F E : Type 0} → Ops E → Open F E → E → ℕ → Rejected F E → Type 0
SealingRefused o u α n e = RefusesSealing o α n e.fault × (e.open ≡ u)
