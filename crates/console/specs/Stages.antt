-- The position that the program's stage stands for.
use Rattle.prime_field.specs.Modular.{modular}
use Rattle.quadratic.specs.Pairs.{pairs}
use Rattle.console.specs.Commissions.{field_of, phase}
use Rattle.console.specs.Conversation.{Position, begun, prime_given, unit_on}
use Rattle.console.specs.declared.stages.Stage.{Stage}
use Rattle.console.specs.declared.stages.Stage.TheVariants.{Start, Prime, Single, Double, Quadruple}

abbrev pub position : Stage → Position
position Start = begun
position (Prime p) = prime_given p
position (Single u) = unit_on 0 (modular (field_of u).modulus) (phase u)
position (Double u) = unit_on 1 (pairs (modular (field_of u).base.modulus) (field_of u).beta) (phase u)
position (Quadruple u) =
    unit_on 2 (pairs (pairs (modular (field_of u).base.base.modulus) (field_of u).base.beta) (field_of u).beta) (phase u)
