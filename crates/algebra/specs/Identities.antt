-- Identities that hold of the elements of every field, by sum, product and negative alone.
use Rattle.std.specs.Prelude.{◌≡◌, ℕ}
use Rattle.algebra.specs.Operations.{Ops, In, minus}
use Rattle.algebra.specs.Powers.{power}

module _ {E : Type 0} (o : Ops E) where
  open o use {add as ◌⊹◌, mul as ◌·◌}

  infixl 65 ◌⊹◌
  infixl 70 ◌·◌
  -- (a + b)(a - b) = a² - b²
  abbrev pub DifferenceOfSquares : Type 0
  DifferenceOfSquares = (a b : E) → In o a → In o b → (a ⊹ b) · minus o a b ≡ minus o (a · a) (b · b)

  -- the product of pairs (a₀ + a₁·y)(b₀ + b₁·y) with y² = β, by halves
  abbrev pub pair_product : E → E × E → E × E → E × E
  pair_product β a b = (a.0 · b.0 ⊹ β · (a.1 · b.1), a.0 · b.1 ⊹ a.1 · b.0)

  abbrev pub PairsAssociate : Type 0
  PairsAssociate =
      (β a₀ a₁ b₀ b₁ c₀ c₁ : E) → In o β → In o a₀ → In o a₁ → In o b₀ → In o b₁ → In o c₀ → In o c₁
      → pair_product β (pair_product β (a₀, a₁) (b₀, b₁)) (c₀, c₁) ≡ pair_product β (a₀, a₁) (pair_product β (b₀, b₁) (c₀, c₁))

  -- e·Xʲ + f·Yʲ
  abbrev pub two_terms : E → E → E → E → ℕ → E
  two_terms e X f Y j = e · power o X j ⊹ f · power o Y j

  -- the determinant S₁S₃ - S₂² of sums Sⱼ
  abbrev pub determinant : (ℕ → E) → E
  determinant S = minus o (S 1 · S 3) (S 2 · S 2)

  -- Of the sums Sⱼ = e·Xʲ + f·Yʲ with the determinant D: D = efXY(X - Y)², S₁S₄ - S₂S₃ = D(X + Y) and S₂S₄ - S₃² = DXY.
  pub record Determinants (e X f Y : E) (S : ℕ → E) : Type 0 where
    pub product : determinant S ≡ e · f · (X · Y) · (minus o X Y · minus o X Y)
    pub sum : minus o (S 1 · S 4) (S 2 · S 3) ≡ determinant S · (X ⊹ Y)
    pub last : minus o (S 2 · S 4) (S 3 · S 3) ≡ determinant S · (X · Y)

  abbrev pub DeterminantsOfTwoTerms : Type 0
  DeterminantsOfTwoTerms = (e X f Y : E) → In o e → In o X → In o f → In o Y → Determinants e X f Y (two_terms e X f Y)
