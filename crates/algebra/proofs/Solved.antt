-- Identities that the ring solver proves, each in a line.
use Rattle.std.proofs.Common.{[], ◌∷◌, refl, ap₂}
use Rattle.algebra.specs.Operations.{Ops}
use Rattle.algebra.specs.Laws.{Arithmetic}
use Rattle.algebra.specs.Identities.{DifferenceOfSquares, PairsAssociate, DeterminantsOfTwoTerms}
use Rattle.algebra.proofs.Elements.{by_ring, reads}

module _ {E : Type 0} {o : Ops E} (l : Arithmetic o) where
  pub difference_of_squares : DifferenceOfSquares o
  difference_of_squares a b ha hb = by_ring l ((a, ha) ∷ (b, hb) ∷ []) (search reads depth 40 fits 5000) refl

  pub pairs_associate : PairsAssociate o
  pairs_associate β a₀ a₁ b₀ b₁ c₀ c₁ hβ h₀ h₁ k₀ k₁ m₀ m₁ =
      let ρ = (β, hβ) ∷ (a₀, h₀) ∷ (a₁, h₁) ∷ (b₀, k₀) ∷ (b₁, k₁) ∷ (c₀, m₀) ∷ (c₁, m₁) ∷ [] in
      ap₂ (λ x y. (x, y)) (by_ring l ρ (search reads depth 40 fits 5000) refl) (by_ring l ρ (search reads depth 40 fits 5000) refl)

  pub determinants_of_two_terms : DeterminantsOfTwoTerms o
  determinants_of_two_terms e X f Y he hX hf hY =
      let ρ = (e, he) ∷ (X, hX) ∷ (f, hf) ∷ (Y, hY) ∷ [] in
      record {
        product = by_ring l ρ (search reads depth 40 fits 5000) refl;
        sum = by_ring l ρ (search reads depth 40 fits 5000) refl;
        last = by_ring l ρ (search reads depth 40 fits 5000) refl;
      }
