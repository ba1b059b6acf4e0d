-- The laws that hold of a field's elements.
use Rattle.std.specs.Prelude.{◌≡◌, ◌+◌, true, ◌⊎◌, ◌≢◌}
use Rattle.algebra.specs.Operations.{Ops, In}
use Rattle.algebra.specs.Roots.{Square}

-- Every answer is an element; sum, product, negative and inverse; one and two differ from zero; and `same` tells equality.
pub record Arithmetic {E : Type 0} (o : Ops E) : Type 0 where
  pub zero_in : In o o.zero
  pub one_in : In o o.one
  pub add_in : (a b : E) → In o a → In o b → In o (o.add a b)
  pub mul_in : (a b : E) → In o a → In o b → In o (o.mul a b)
  pub neg_in : (a : E) → In o a → In o (o.neg a)
  pub inv_in : (a : E) → In o a → In o (o.inv a)
  pub same_is : (a b : E) → In o a → In o b → o.same a b ≡ true → a ≡ b
  pub is_same : (a : E) → In o a → o.same a a ≡ true
  pub add_comm : (a b : E) → In o a → In o b → o.add a b ≡ o.add b a
  pub add_assoc : (a b c : E) → In o a → In o b → In o c → o.add (o.add a b) c ≡ o.add a (o.add b c)
  pub mul_comm : (a b : E) → In o a → In o b → o.mul a b ≡ o.mul b a
  pub mul_assoc : (a b c : E) → In o a → In o b → In o c → o.mul (o.mul a b) c ≡ o.mul a (o.mul b c)
  pub mul_add : (a b c : E) → In o a → In o b → In o c → o.mul a (o.add b c) ≡ o.add (o.mul a b) (o.mul a c)
  pub add_zero : (a : E) → In o a → o.add a o.zero ≡ a
  pub mul_one : (a : E) → In o a → o.mul a o.one ≡ a
  pub add_neg : (a : E) → In o a → o.add a (o.neg a) ≡ o.zero
  pub mul_inv : (a : E) → In o a → a ≢ o.zero → o.mul a (o.inv a) ≡ o.one
  pub inv_zero : o.inv o.zero ≡ o.zero
  pub one_not_zero : o.one ≢ o.zero
  pub two_not_zero : o.add o.one o.one ≢ o.zero

-- Of a, b and their product, at least one is a square.
abbrev pub SquareLaw : {E : Type 0} → Ops E → Type 0
SquareLaw {E} o = (a b : E) → In o a → In o b → Square o a ⊎ (Square o b ⊎ Square o (o.mul a b))

-- Zero has sign 0; of any other element and its negative, one has sign 0 and the other sign 1.
pub record SignLaw {E : Type 0} (o : Ops E) : Type 0 where
  pub of_zero : o.sign o.zero ≡ 0
  pub of_negative : (a : E) → In o a → a ≢ o.zero → o.sign a + o.sign (o.neg a) ≡ 1

-- All the laws. Only roots rest on the last two.
pub record Laws {E : Type 0} (o : Ops E) : Type 0 where
  pub arithmetic : Arithmetic o
  pub squares : SquareLaw o
  pub signs : SignLaw o
