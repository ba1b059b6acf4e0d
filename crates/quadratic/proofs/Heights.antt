-- Towers of any height, by induction.
use Rattle.std.proofs.Common.{◌≡◌, ℕ, cond, ◌&&◌, eqb, sym, ap, ◌∙◌, ap₂}
use mathlib.Core.Bool.{and-true}
use Rattle.algebra.specs.Operations.{Ops, In}
use Rattle.algebra.specs.Laws.{Laws}
use Rattle.algebra.specs.Roots.{Rooted}
use Rattle.std.proofs.lemmas.Bool.{and_parts}
use Rattle.quadratic.specs.Towers.{Height, Tower, ground, step, TowersKeepLaws}
use Rattle.quadratic.specs.Signs.{coordinates, sgn0, ParitySigns, SignsByCoordinates}
use Rattle.quadratic.specs.Proofs.PairLaws.{pair_laws}
use Rattle.quadratic.specs.Proofs.PairRoots.{pair_rooted}
use Rattle.quadratic.proofs.Sgn0.{all_zero, all-zero-++, sgn0_single, sgn0-++}

pub towers_keep_laws : {E : Type 0} (o : Ops E) → Laws o → Rooted o → TowersKeepLaws o
towers_keep_laws o laws rooted _ _ ground = (laws, rooted)
towers_keep_laws o laws rooted _ _ (step n p β below up) =
    let (l, r) = towers_keep_laws o laws rooted n p below in
    (pair_laws l β up, pair_rooted l β up r)

-- what the coordinates tell of an element: its sign, and whether it is zero
pub record ByCoordinates (n : ℕ) (p : Ops (Height n ℕ)) (a : Height n ℕ) : Type 0 where
  pub sign : p.sign a ≡ sgn0 (coordinates n a)
  pub is_zero : p.same a p.zero ≡ all_zero (coordinates n a)

by_coordinates : (o : Ops ℕ) → ParitySigns o → (n : ℕ) (p : Ops (Height n ℕ)) → Tower ℕ o n p → (a : Height n ℕ) → In p a → ByCoordinates n p a
by_coordinates o signs _ _ ground a ha = record {
  sign = signs.sign_is a ha ∙ sym (sgn0_single a);
  is_zero = ap (o.same a) signs.zero_is ∙ signs.same_is a 0 ha signs.zero_in ∙ sym (and-true (eqb a 0));
}
by_coordinates o signs _ _ (step n p β below up) a ha =
    let inside = and_parts (p.is a.0) (p.is a.1) ha in
    let low = by_coordinates o signs n p below a.0 inside.0 in
    let high = by_coordinates o signs n p below a.1 inside.1 in
    record {
      sign =
          ap (λ b. cond b (p.sign a.1) (p.sign a.0)) low.is_zero
          ∙ ap₂ (λ s t. cond (all_zero (coordinates n a.0)) s t) high.sign low.sign
          ∙ sym (sgn0-++ (coordinates n a.0) (coordinates n a.1));
      is_zero = ap₂ ◌&&◌ low.is_zero high.is_zero ∙ sym (all-zero-++ (coordinates n a.0) (coordinates n a.1));
    }

pub signs_are_sgn0 : SignsByCoordinates sgn0
signs_are_sgn0 o signs n p tower a ha = (by_coordinates o signs n p tower a ha).sign
