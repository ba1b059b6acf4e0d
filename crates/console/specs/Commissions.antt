-- A unit that is being commissioned: its field, and how far it is.
use Rattle.algebra.specs.declared.Field.{Ghosts}
use Rattle.console.specs.Conversation.{Phase, unsealed, alpha_given, sealed}
use Rattle.console.specs.declared.commissions.Commission.{Commission}
use Rattle.console.specs.declared.commissions.Commission.TheVariants.{Open, Generator, Sealed}

abbrev pub field_of : {F E : Type 0} {meaning : Ghosts F E} → Commission F E meaning → F
field_of (Open u) = u.field
field_of (Generator u a) = u.field
field_of (Sealed u) = u.field

abbrev pub phase : {F E : Type 0} {meaning : Ghosts F E} → Commission F E meaning → Phase E
phase (Open u) = unsealed
phase (Generator u a) = alpha_given a
phase (Sealed u) = sealed u.alpha u.length
