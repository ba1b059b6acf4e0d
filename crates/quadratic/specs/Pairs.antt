-- The quadratic extension of a field by an element β that is no square: the pair (a₀, a₁) is a₀ + a₁·y, where y² = β.
use Rattle.std.specs.Prelude.{◌≡◌, cond, ◌&&◌}
use Rattle.algebra.specs.Operations.{Ops, In, minus}
use Rattle.algebra.specs.Roots.{Square}
use Rattle.algebra.specs.Identities.{pair_product}

-- β is an element, and no element squares to it
pub record Nonsquare {E : Type 0} (o : Ops E) (β : E) : Type 0 where
  pub inside : In o β
  pub no_root : Square o β → ⊥

-- a₀² - β·a₁²
abbrev pub norm : {E : Type 0} → Ops E → E → E × E → E
norm o β a = minus o (o.mul a.0 a.0) (o.mul β (o.mul a.1 a.1))

-- The sign is that of the first half, or of the second where the first is zero.
abbrev pub pairs : {E : Type 0} → Ops E → E → Ops (E × E)
pairs o β = record {
  is = λ a. o.is a.0 && o.is a.1;
  same = λ a b. o.same a.0 b.0 && o.same a.1 b.1;
  zero = (o.zero, o.zero);
  one = (o.one, o.zero);
  add = λ a b. (o.add a.0 b.0, o.add a.1 b.1);
  mul = pair_product o β;
  neg = λ a. (o.neg a.0, o.neg a.1);
  inv = λ a. (o.mul a.0 (o.inv (norm o β a)), o.mul (o.neg a.1) (o.inv (norm o β a)));
  sign = λ a. cond (o.same a.0 o.zero) (o.sign a.1) (o.sign a.0);
}

-- t is a half sum of a₀ and a root of the norm: 2t·2(a₀ - t) = β·a₁²
abbrev pub HalfSum : {E : Type 0} → Ops E → E → E × E → E → Type 0
HalfSum o β a t =
    o.mul (o.add t t) (o.add (minus o a.0 t) (minus o a.0 t)) ≡ o.mul β (o.mul a.1 a.1)
