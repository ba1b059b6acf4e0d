use Rattle.std.proofs.Common.{◌≡◌, [], ◌∷◌, refl}
use Rattle.algebra.specs.Operations.{Ops, In}
use Rattle.algebra.specs.Roots.{RootOf}
use Rattle.vectors.proofs.CodeWords.{encoded, refused}
use Rattle.vectors.proofs.Rootless.{rootless, pair_rootless}
use Rattle.vectors.proofs.values.worked_values_hold.Goals as goal

root-of : {E : Type 0} {o : Ops E} {a x : E} → In o x → o.mul x x ≡ a → o.sign x ≡ 0 → RootOf o a x
root-of inside squares even = record { inside = inside; squares = squares; even = even }

infixr 20 ◌&◌
◌&◌ : {P Q : Type 0} → P → Q → P × Q
p & q = (p, q)

pub returns : goal.returns
returns c =
    root-of refl refl refl
    & root-of refl refl refl
    & root-of refl refl refl
    & root-of refl refl refl
    & rootless 929 3 refl
    & root-of refl refl refl
    & root-of refl refl refl
    & pair_rootless 3 2 (1, 1) refl
    & root-of refl refl refl
    & encoded (1 ∷ 809 ∷ 723 ∷ 568 ∷ 522 ∷ []) refl refl
    & encoded (2 ∷ 689 ∷ 517 ∷ 207 ∷ 115 ∷ []) refl refl
    & refused (1 ∷ 1 ∷ 1 ∷ 1 ∷ 1 ∷ []) refl refl refl
    & tt
