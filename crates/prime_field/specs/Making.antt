-- What the making of a field answers.
use Rattle.std.specs.Prelude.{◌≡◌, ℕ, ◌<◌, ◌⊎◌}
use Rattle.algebra.specs.Roots.{Square}
use Rattle.algebra.specs.declared.faults.FieldFault.{FieldFault}
use Rattle.algebra.specs.declared.faults.FieldFault.TheVariants.{UnlistedModulus, NotNonresidue, NotNonsquare, NotElement, NoRoot}
use Rattle.prime_field.specs.Modular.{power, modular}
use Rattle.prime_field.specs.declared.PrimeField.{PrimeField}

-- the moduli that a field is made of
abbrev pub Listed : ℕ → Type 0
Listed p = (p ≡ 3) ⊎ (p ≡ 7) ⊎ (p ≡ 23) ⊎ (p ≡ 29) ⊎ (p ≡ 929) ⊎ (p ≡ 2013265921) ⊎ (p ≡ 4294967291)

-- r is from 1 to p - 1 and has no root modulo p
pub record Nonresidue (p r : ℕ) : Type 0 where
  pub positive : 0 < r
  pub inside : r < p
  pub rootless : Square (modular p) r → ⊥

-- f is the field that is made of p and r
abbrev pub MadeOf : ℕ → ℕ → PrimeField → Type 0
MadeOf p r f = Listed p × Nonresidue p r × (f.modulus ≡ p) × (f.generator ≡ power p r f.cofactor)

-- why no field is made of p and r
abbrev pub RefusesMaking : ℕ → ℕ → FieldFault → Type 0
RefusesMaking p r UnlistedModulus = Listed p → ⊥
RefusesMaking p r NotNonresidue = Listed p × (Nonresidue p r → ⊥)
RefusesMaking p r NotNonsquare = ⊥
RefusesMaking p r NotElement = ⊥
RefusesMaking p r NoRoot = ⊥
