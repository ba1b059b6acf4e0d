-- What the laws give of products that are zero, and of two roots of one element.
use Rattle.std.proofs.Common.{◌≡◌, ◌≢◌, Bool, true, false, ◌⊎◌, [], ◌∷◌, sym, refl, ap, ◌∙◌, inl, inr, arith}
use Rattle.algebra.specs.Operations.{Ops, In, minus}
use Rattle.algebra.specs.Laws.{Arithmetic, Laws}
use Rattle.std.proofs.lemmas.Bool.{cases_eq}
use Rattle.algebra.specs.Roots.{Square, RootOf}
use Rattle.algebra.proofs.Elements.{by_ring, by_ring_from, times, reads}

module _ {E : Type 0} {o : Ops E} (l : Arithmetic o) where
  open o use {zero, one, add as ◌⊹◌, mul as ◌·◌, neg, inv}

  infixl 65 ◌⊹◌
  infixl 70 ◌·◌
  -- equality of elements is decided
  pub equal_or_not : (a b : E) → In o a → In o b → (a ≡ b) ⊎ (a ≡ b → ⊥)
  equal_or_not a b ha hb = go (o.same a b) refl
    where
      go : (s : Bool) → o.same a b ≡ s → (a ≡ b) ⊎ (a ≡ b → ⊥)
      go true e = inl (l.same_is a b ha hb e)
      go false e = inr (λ q. cc (l.is_same a ha))

  -- a difference that is zero
  pub minus_zero : (a b : E) → In o a → In o b → minus o a b ≡ zero → a ≡ b
  minus_zero a b ha hb e =
      by_ring_from l ((a, ha) ∷ (b, hb) ∷ []) (times l one e (search reads depth 40) (search reads depth 40) ∷ []) (search reads depth 40) refl

  -- a product that is zero, with a factor that is not
  pub other_zero : (a b : E) → In o a → In o b → a · b ≡ zero → (a ≡ zero → ⊥) → b ≡ zero
  other_zero a b ha hb e ne =
      by_ring_from l ((a, ha) ∷ (b, hb) ∷ (inv a, l.inv_in a ha) ∷ [])
      (times l (inv a) e (search reads depth 40) (search reads depth 40) ∷ times l (neg b) (l.mul_inv a ha ne) (search reads depth 40) (search reads depth 40) ∷ [])
      (search reads depth 40) refl

  -- two elements with one square are equal or each the other's negative
  pub square_roots : (x y : E) → In o x → In o y → x · x ≡ y · y → (x ≡ y) ⊎ (y ≡ neg x)
  square_roots x y hx hy e =
      elim (equal_or_not x y hx hy) [
        | inl q ↦ inl q
        | inr n ↦ inr (by_ring_from l ((x, hx) ∷ (y, hy) ∷ []) (times l one (sum_zero n) (search reads depth 40) (search reads depth 40) ∷ []) (search reads depth 40) refl)
      ]
    where
      sum_zero : (x ≡ y → ⊥) → x ⊹ y ≡ zero
      sum_zero n =
          other_zero (minus o x y) (x ⊹ y) (l.add_in x (neg y) hx (l.neg_in y hy)) (l.add_in x y hx hy)
          (by_ring_from l ((x, hx) ∷ (y, hy) ∷ []) (times l one e (search reads depth 40) (search reads depth 40) ∷ []) (search reads depth 40) refl)
          (λ z. n (minus_zero x y hx hy z))

  pub neg_zero : neg zero ≡ zero
  neg_zero = by_ring l [] (search reads depth 40) refl

-- an element has one root at most
pub root_unique : {E : Type 0} {o : Ops E} → Laws o → (a x y : E) → RootOf o a x → RootOf o a y → x ≡ y
root_unique {o = o} laws a x y rx ry =
    elim (square_roots l x y rx.inside ry.inside (rx.squares ∙ sym ry.squares)) [
      | inl q ↦ q
      | inr n ↦ elim (equal_or_not l x o.zero rx.inside l.zero_in) [
        | inl z ↦ z ∙ sym (neg_zero l) ∙ ap o.neg (sym z) ∙ sym n
        | inr nz ↦
            (let one_sign = laws.signs.of_negative x rx.inside nz in
            let negative = ap o.sign (sym n) ∙ ry.even in
            let even = rx.even in
            absurd (omega arith))
      ]
    ]
  where
    l : Arithmetic o
    l = laws.arithmetic

-- the negative of an element of another sign than 0 has the same square and sign 0
pub negative_root : {E : Type 0} {o : Ops E} → Laws o → (a x y : E) → y ≡ o.neg x → In o x → o.mul x x ≡ a → o.sign x ≢ 0 → RootOf o a y
negative_root {o = o} laws a x y is hx e odd = rw is (record {
  inside = laws.arithmetic.neg_in x hx;
  squares = by_ring laws.arithmetic ((x, hx) ∷ []) (search reads depth 40) refl ∙ e;
  even = let one_sign = laws.signs.of_negative x hx (λ z. odd (ap o.sign z ∙ laws.signs.of_zero)) in omega arith;
})

-- of an element and its negative one has sign 0, so a square has a root
pub square_has_root : {E : Type 0} {o : Ops E} → Laws o → (a : E) → Square o a → (x : E) × RootOf o a x
square_has_root {o = o} laws a (x, hx, e) =
    elim (cases_eq (o.sign x) 0) [
      | inl even ↦ (x, record { inside = hx; squares = e; even = even })
      | inr odd ↦ (o.neg x, negative_root laws a x (o.neg x) refl hx e odd)
    ]
