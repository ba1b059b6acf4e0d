-- Two values by their sum and their product.
use Rattle.std.proofs.Common.{◌≡◌, ◌⊎◌, [], ◌∷◌, sym, refl, ◌∙◌, ap₂, inl, inr, ⊎_elim}
use Rattle.algebra.specs.Operations.{Ops, In, minus}
use Rattle.algebra.specs.Laws.{Arithmetic}
use Rattle.algebra.specs.Roots.{Square}
use Rattle.algebra.proofs.Elements.{by_ring, by_ring_from, times, reads}
use Rattle.algebra.proofs.Products.{other_zero, minus_zero, equal_or_not}
use Rattle.code.proofs.Powers.{minus_in}
use Rattle.corrector.specs.Errors.{Pair}

-- u² - 4v
abbrev pub discriminant : {E : Type 0} → Ops E → E → E → E
discriminant o u v = minus o (o.mul u u) (o.add (o.add v v) (o.add v v))

module _ {E : Type 0} {o : Ops E} (l : Arithmetic o) where
  open o use {zero as 𝟘, one as 𝟙, add as ◌⊹◌, mul as ◌·◌, neg, inv}

  infixl 65 ◌⊹◌
  infixl 70 ◌·◌
  -- the discriminant is the square of the difference
  pub pair_square : (u v x y : E) → Pair o u v x y → Square o (discriminant o u v)
  pair_square u v x y p = (
    minus o x y,
    minus_in l p.left p.right,
    by_ring l ((x, p.left) ∷ (y, p.right) ∷ []) (search reads depth 40 fits 5000) refl ∙ ap₂ (discriminant o) p.sum p.product,
  )

  -- and a root of it gives the pair
  pub root_pair : (u v d : E) → In o u → In o v → In o d → d · d ≡ discriminant o u v
      → Pair o u v ((u ⊹ d) · inv (𝟙 ⊹ 𝟙)) (minus o u d · inv (𝟙 ⊹ 𝟙))
  root_pair u v d hu hv hd e =
      let h2 = l.add_in _ _ l.one_in l.one_in in
      let hh = l.inv_in _ h2 in
      let half : (𝟙 ⊹ 𝟙) · inv (𝟙 ⊹ 𝟙) ≡ 𝟙 = l.mul_inv _ h2 l.two_not_zero in
      record {
        left = l.mul_in _ _ (l.add_in _ _ hu hd) hh;
        right = l.mul_in _ _ (minus_in l hu hd) hh;
        sum = by_ring_from l ((u, hu) ∷ (d, hd) ∷ (inv (𝟙 ⊹ 𝟙), hh) ∷ [])
            (times l u half (search reads depth 40) (search reads depth 40) ∷ []) (search reads depth 40 fits 5000) refl;
        product = by_ring_from l ((u, hu) ∷ (d, hd) ∷ (inv (𝟙 ⊹ 𝟙), hh) ∷ (v, hv) ∷ [])
            (times l (neg (inv (𝟙 ⊹ 𝟙) · inv (𝟙 ⊹ 𝟙))) e (search reads depth 40 fits 5000) (search reads depth 40)
            ∷ times l (v · ((𝟙 ⊹ 𝟙) · inv (𝟙 ⊹ 𝟙) ⊹ 𝟙)) half (search reads depth 40) (search reads depth 40) ∷ []) (search reads depth 40 fits 5000) refl;
      }

  -- the other of two is known by one and the sum
  pub other_of_sum : (a b c d : E) → In o a → In o b → In o c → In o d → a ⊹ b ≡ c ⊹ d → a ≡ c → b ≡ d
  other_of_sum a b c d ha hb hc hd e f =
      by_ring_from l ((a, ha) ∷ (b, hb) ∷ (c, hc) ∷ (d, hd) ∷ [])
      (times l 𝟙 e (search reads depth 40) (search reads depth 40) ∷ times l (neg 𝟙) f (search reads depth 40) (search reads depth 40) ∷ []) (search reads depth 40) refl

  -- there is one pair only, but for its order
  pub pair_unique : (u v x y X Y : E) → Pair o u v x y → Pair o u v X Y → ((x ≡ X) × (y ≡ Y)) ⊎ ((x ≡ Y) × (y ≡ X))
  pair_unique u v x y X Y p q =
      let hx = p.left in
      let hy = p.right in
      let hX = q.left in
      let hY = q.right in
      let sums : x ⊹ y ≡ X ⊹ Y = p.sum ∙ sym q.sum in
      let products : x · y ≡ X · Y = p.product ∙ sym q.product in
      let zero_product : minus o x X · minus o x Y ≡ 𝟘 =
      by_ring_from l ((x, hx) ∷ (y, hy) ∷ (X, hX) ∷ (Y, hY) ∷ [])
      (times l x sums (search reads depth 40) (search reads depth 40) ∷ times l (neg 𝟙) products (search reads depth 40) (search reads depth 40) ∷ []) (search reads depth 40 fits 5000) refl in
      ⊎_elim (λ e. inl (e, other_of_sum x y X Y hx hy hX hY sums e))
      (λ n.
      let e : x ≡ Y = minus_zero l x Y hx hY (other_zero l (minus o x X) (minus o x Y) (minus_in l hx hX) (minus_in l hx hY) zero_product
      (λ z. n (minus_zero l x X hx hX z))) in
      inr (e, other_of_sum x y Y X hx hy hY hX (sums ∙ l.add_comm X Y hX hY) e))
      (equal_or_not l x X hx hX)
