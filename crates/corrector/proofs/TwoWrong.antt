-- Two wrong symbols: the sums give the sum and the product of their locators, and back.
use Rattle.std.proofs.Common.{◌≡◌, ℕ, [], ◌∷◌, sym, refl, ap, ◌∙◌, ap₂}
use Rattle.algebra.specs.Operations.{Ops, In, minus}
use Rattle.algebra.specs.Laws.{Arithmetic}
use Rattle.algebra.specs.Powers.{power}
use Rattle.algebra.specs.Identities.{two_terms}
use Rattle.algebra.proofs.Elements.{by_ring, by_ring_from, is_element, times, reads}
use Rattle.algebra.proofs.Products.{other_zero, minus_zero}
use Rattle.algebra.proofs.Solved.{determinants_of_two_terms}
use Rattle.code.specs.Generator.{Generates}
use Rattle.code.proofs.Powers.{minus_in, power_in, power_nonzero, product_nonzero}
use Rattle.corrector.specs.Errors.{Inside, cross, det, locator_sum, locator_product, Pair, TwoErrors, magnitude}
use Rattle.corrector.specs.declared.syndromes.Syndromes.{Syndromes}
use Rattle.corrector.proofs.Quotients.{cancel, quotient_unique}

module _ {E : Type 0} {o : Ops E} (l : Arithmetic o) (s : Syndromes E) (hs : Inside o s) where
  open o use {zero as 𝟘, one as 𝟙, add as ◌⊹◌, mul as ◌·◌, neg, inv}

  infixl 65 ◌⊹◌
  infixl 70 ◌·◌
  abbrev u : E
  u = locator_sum o s

  abbrev v : E
  v = locator_product o s

  det_in : In o (det o s)
  det_in = is_element l ((s.s1, hs.one) ∷ (s.s2, hs.two) ∷ (s.s3, hs.three) ∷ []) (search reads depth 40)

  -- the third and the fourth sum, by those before
  third : (det o s ≡ 𝟘 → ⊥) → s.s3 ≡ minus o (u · s.s2) (v · s.s1)
  third n =
      by_ring_from l ((s.s1, hs.one) ∷ (s.s2, hs.two) ∷ (s.s3, hs.three) ∷ (s.s4, hs.four) ∷ (inv (det o s), l.inv_in _ det_in) ∷ [])
      (times l (neg s.s3) (l.mul_inv _ det_in n) (search reads depth 40 fits 5000) (search reads depth 40) ∷ []) (search reads depth 40 fits 5000) refl

  fourth : (det o s ≡ 𝟘 → ⊥) → s.s4 ≡ minus o (u · s.s3) (v · s.s2)
  fourth n =
      by_ring_from l ((s.s1, hs.one) ∷ (s.s2, hs.two) ∷ (s.s3, hs.three) ∷ (s.s4, hs.four) ∷ (inv (det o s), l.inv_in _ det_in) ∷ [])
      (times l (neg s.s4) (l.mul_inv _ det_in n) (search reads depth 40 fits 5000) (search reads depth 40) ∷ []) (search reads depth 40 fits 5000) refl

  -- what a magnitude solves
  module _ (x y : E) (hx : In o x) (hy : In o y) where
    product_in : In o (x · minus o x y)
    product_in = l.mul_in _ _ hx (minus_in l hx hy)

    pub magnitude_in : In o (magnitude o s x y)
    magnitude_in = l.mul_in _ _ (minus_in l hs.two (l.mul_in _ _ hy hs.one)) (l.inv_in _ product_in)

    magnitude_is : (x ≡ 𝟘 → ⊥) → (x ≡ y → ⊥) → x · minus o x y · magnitude o s x y ≡ minus o s.s2 (y · s.s1)
    magnitude_is x_nonzero apart =
        by_ring_from l ((s.s1, hs.one) ∷ (s.s2, hs.two) ∷ (x, hx) ∷ (y, hy) ∷ (inv (x · minus o x y), l.inv_in _ product_in) ∷ [])
        (times l (minus o s.s2 (y · s.s1)) (l.mul_inv _ product_in (λ e. apart (minus_zero l x y hx hy (other_zero l x (minus o x y) hx (minus_in l hx hy) e x_nonzero))))
        (search reads depth 40 fits 5000) (search reads depth 40) ∷ []) (search reads depth 40 fits 5000) refl

  -- from locators x and y: the sums are those of the two magnitudes there
  module _ (x y : E) (p : Pair o (locator_sum o s) (locator_product o s) x y) (x_nonzero : x ≡ 𝟘 → ⊥) (y_nonzero : y ≡ 𝟘 → ⊥) (apart : x ≡ y → ⊥)
      (n : det o s ≡ 𝟘 → ⊥) where
    abbrev hx : In o x
    hx = p.left

    abbrev hy : In o y
    hy = p.right

    abbrev e₁ : E
    e₁ = magnitude o s x y

    abbrev e₂ : E
    e₂ = magnitude o s y x

    i₁ : In o e₁
    i₁ = magnitude_in x y hx hy

    i₂ : In o e₂
    i₂ = magnitude_in y x hy hx

    apart_nonzero : minus o x y ≡ 𝟘 → ⊥
    apart_nonzero e = apart (minus_zero l x y hx hy e)

    -- the first two sums, by the equations for the magnitudes a and b
    back_one : (a b : E) → In o a → In o b → x · minus o x y · a ≡ minus o s.s2 (y · s.s1) → y · minus o y x · b ≡ minus o s.s2 (x · s.s1)
        → s.s1 ≡ two_terms o a x b y 1
    back_one a b ha hb f g =
        cancel l (minus o x y) _ _ (minus_in l hx hy) hs.one (is_element l ((x, hx) ∷ (y, hy) ∷ (a, ha) ∷ (b, hb) ∷ []) (search reads depth 40)) apart_nonzero
        (by_ring_from l ((s.s1, hs.one) ∷ (s.s2, hs.two) ∷ (x, hx) ∷ (y, hy) ∷ (a, ha) ∷ (b, hb) ∷ [])
        (times l (neg 𝟙) f (search reads depth 40) (search reads depth 40) ∷ times l 𝟙 g (search reads depth 40) (search reads depth 40) ∷ []) (search reads depth 40 fits 5000) refl)

    back_two : (a b : E) → In o a → In o b → x · minus o x y · a ≡ minus o s.s2 (y · s.s1) → y · minus o y x · b ≡ minus o s.s2 (x · s.s1)
        → s.s2 ≡ two_terms o a x b y 2
    back_two a b ha hb f g =
        cancel l (minus o x y) _ _ (minus_in l hx hy) hs.two (is_element l ((x, hx) ∷ (y, hy) ∷ (a, ha) ∷ (b, hb) ∷ []) (search reads depth 40)) apart_nonzero
        (by_ring_from l ((s.s1, hs.one) ∷ (s.s2, hs.two) ∷ (x, hx) ∷ (y, hy) ∷ (a, ha) ∷ (b, hb) ∷ [])
        (times l (neg x) f (search reads depth 40) (search reads depth 40) ∷ times l y g (search reads depth 40) (search reads depth 40) ∷ []) (search reads depth 40 fits 5000) refl)

    f₁ : x · minus o x y · e₁ ≡ minus o s.s2 (y · s.s1)
    f₁ = magnitude_is x y hx hy x_nonzero apart

    f₂ : y · minus o y x · e₂ ≡ minus o s.s2 (x · s.s1)
    f₂ = magnitude_is y x hy hx y_nonzero (λ e. apart (sym e))

    -- e·x² + f·y² and e·x + f·y give the next by x + y and x·y
    next : (a b : E) (j : ℕ) → In o a → In o b
        → minus o ((x ⊹ y) · (a · (x · power o x j) ⊹ b · (y · power o y j))) (x · y · two_terms o a x b y j) ≡ a · (x · (x · power o x j)) ⊹ b · (y · (y · power o y j))
    next a b j ha hb =
        by_ring l ((x, hx) ∷ (y, hy) ∷ (a, ha) ∷ (b, hb) ∷ (power o x j, power_in l x j hx) ∷ (power o y j, power_in l y j hy) ∷ []) (search reads depth 40 fits 5000) refl

    pub sum_one : s.s1 ≡ two_terms o (magnitude o s x y) x (magnitude o s y x) y 1
    sum_one = back_one e₁ e₂ i₁ i₂ f₁ f₂

    pub sum_two : s.s2 ≡ two_terms o (magnitude o s x y) x (magnitude o s y x) y 2
    sum_two = back_two e₁ e₂ i₁ i₂ f₁ f₂

    pub sum_three : s.s3 ≡ two_terms o (magnitude o s x y) x (magnitude o s y x) y 3
    sum_three =
        third n ∙ ap₂ (λ p q. minus o (u · p) (v · q)) sum_two sum_one
        ∙ ap₂ (λ u v. minus o (u · two_terms o e₁ x e₂ y 2) (v · two_terms o e₁ x e₂ y 1)) (sym p.sum) (sym p.product)
        ∙ next e₁ e₂ 1 i₁ i₂

    pub sum_four : s.s4 ≡ two_terms o (magnitude o s x y) x (magnitude o s y x) y 4
    sum_four =
        fourth n ∙ ap₂ (λ p q. minus o (u · p) (v · q)) sum_three sum_two
        ∙ ap₂ (λ u v. minus o (u · two_terms o e₁ x e₂ y 3) (v · two_terms o e₁ x e₂ y 2)) (sym p.sum) (sym p.product)
        ∙ next e₁ e₂ 2 i₁ i₂

    product : det o s ≡ e₁ · e₂ · (x · y) · (minus o x y · minus o x y)
    product =
        (λ t. cross o (sum_one t) (sum_two t) (sum_two t) (sum_three t)) ∙ (determinants_of_two_terms l e₁ x e₂ y i₁ hx i₂ hy).product

    -- neither magnitude is zero, since the determinant is not
    pub first_nonzero : magnitude o s x y ≡ 𝟘 → ⊥
    first_nonzero z =
        n (product ∙ ap (λ e. e · e₂ · (x · y) · (minus o x y · minus o x y)) z
        ∙ by_ring l ((x, hx) ∷ (e₂, i₂) ∷ (y, hy) ∷ []) (search reads depth 40) refl)

    pub second_nonzero : magnitude o s y x ≡ 𝟘 → ⊥
    second_nonzero z =
        n (product ∙ ap (λ e. e₁ · e · (x · y) · (minus o x y · minus o x y)) z
        ∙ by_ring l ((x, hx) ∷ (e₁, i₁) ∷ (y, hy) ∷ []) (search reads depth 40) refl)

  -- from two wrong symbols: the determinant is not zero, and u and v are the sum and the product of their locators
  module _ (α : E) (m : ℕ) (g : Generates o α m) (i : ℕ) (d : E) (k : ℕ) (e : E) (w : TwoErrors o α m s i d k e) where
    abbrev X : E
    X = power o α i

    abbrev Y : E
    Y = power o α k

    hX : In o X
    hX = power_in l α i g.inside

    hY : In o Y
    hY = power_in l α k g.inside

    XY_in : In o (minus o X Y)
    XY_in = minus_in l hX hY

    two_product : det o s ≡ d · e · (X · Y) · (minus o X Y · minus o X Y)
    two_product =
        (λ t. cross o (w.one t) (w.two t) (w.two t) (w.three t)) ∙ (determinants_of_two_terms l d X e Y w.d_in hX w.e_in hY).product

    pub two_det : det o s ≡ 𝟘 → ⊥
    two_det z =
        let nX = power_nonzero l α i g.inside g.nonzero in
        let nY = power_nonzero l α k g.inside g.nonzero in
        let nXY : minus o X Y ≡ 𝟘 → ⊥ = λ q. w.apart (minus_zero l X Y hX hY q) in
        let de_in = l.mul_in d e w.d_in w.e_in in
        let xy_in = l.mul_in X Y hX hY in
        product_nonzero l (d · e · (X · Y)) (minus o X Y · minus o X Y) (l.mul_in _ _ de_in xy_in) (l.mul_in _ _ XY_in XY_in)
        (product_nonzero l (d · e) (X · Y) de_in xy_in
        (product_nonzero l d e w.d_in w.e_in w.d_nonzero w.e_nonzero) (product_nonzero l X Y hX hY nX nY))
        (product_nonzero l _ _ XY_in XY_in nXY nXY) (sym two_product ∙ z)

    determinant_is : cross o (two_terms o d X e Y 1) (two_terms o d X e Y 2) (two_terms o d X e Y 2) (two_terms o d X e Y 3) ≡ det o s
    determinant_is = λ t. cross o (sym w.one t) (sym w.two t) (sym w.two t) (sym w.three t)

    two_sum : cross o s.s1 s.s2 s.s3 s.s4 ≡ (X ⊹ Y) · det o s
    two_sum =
        (λ t. cross o (w.one t) (w.two t) (w.three t) (w.four t)) ∙ (determinants_of_two_terms l d X e Y w.d_in hX w.e_in hY).sum
        ∙ ap (λ q. q · (X ⊹ Y)) determinant_is ∙ l.mul_comm _ _ det_in (l.add_in _ _ hX hY)

    two_last : cross o s.s2 s.s3 s.s3 s.s4 ≡ X · Y · det o s
    two_last =
        (λ t. cross o (w.two t) (w.three t) (w.three t) (w.four t)) ∙ (determinants_of_two_terms l d X e Y w.d_in hX w.e_in hY).last
        ∙ ap (λ q. q · (X · Y)) determinant_is ∙ l.mul_comm _ _ det_in (l.mul_in _ _ hX hY)

    pub two_pair : Pair o (locator_sum o s) (locator_product o s) (power o α i) (power o α k)
    two_pair = record {
      left = hX;
      right = hY;
      sum = quotient_unique l _ (det o s) (X ⊹ Y)
          (is_element l ((s.s1, hs.one) ∷ (s.s2, hs.two) ∷ (s.s3, hs.three) ∷ (s.s4, hs.four) ∷ []) (search reads depth 40))
          det_in (l.add_in _ _ hX hY) two_det two_sum;
      product = quotient_unique l _ (det o s) (X · Y)
          (is_element l ((s.s2, hs.two) ∷ (s.s3, hs.three) ∷ (s.s4, hs.four) ∷ []) (search reads depth 40))
          det_in (l.mul_in _ _ hX hY) two_det two_last;
    }
