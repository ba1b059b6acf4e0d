-- What a field gives where β is no square: doubles, norms, and which elements are squares.
use Rattle.std.specs.Prelude.{◌≡◌, ◌⊎◌, [], ◌∷◌, ◌≢◌, refl}
use Rattle.std.proofs.Common.{sym, ◌∙◌, ap, ap₂, subst, inl, inr}
use Rattle.algebra.specs.Operations.{Ops, In, minus}
use Rattle.algebra.specs.Laws.{Arithmetic, Laws}
use Rattle.algebra.specs.Roots.{Square}
use Rattle.algebra.proofs.Elements.{by_ring, by_ring_from, times, is_element, reads}
use Rattle.algebra.proofs.Products.{equal_or_not, other_zero}
use Rattle.quadratic.specs.Pairs.{Nonsquare, norm, HalfSum}

-- 1/2
abbrev pub half : {E : Type 0} → Ops E → E
half o = o.inv (o.add o.one o.one)

module _ {E : Type 0} {o : Ops E} (l : Arithmetic o) where
  open o use {zero as 𝟘, one as 𝟙, add as ◌⊹◌, mul as ◌·◌, neg, inv}

  infixl 65 ◌⊹◌
  infixl 70 ◌·◌
  two_in : In o (𝟙 ⊹ 𝟙)
  two_in = l.add_in 𝟙 𝟙 l.one_in l.one_in

  pub half_in : In o (half o)
  half_in = l.inv_in (𝟙 ⊹ 𝟙) two_in

  two_halves : (𝟙 ⊹ 𝟙) · half o ≡ 𝟙
  two_halves = l.mul_inv (𝟙 ⊹ 𝟙) two_in l.two_not_zero

  pub zero_square : Square o 𝟘
  zero_square = (𝟘, l.zero_in, by_ring l [] (search reads depth 40) refl)

  pub neg_nonzero : (a : E) → In o a → (a ≢ 𝟘) → neg a ≢ 𝟘
  neg_nonzero a ha n e =
      n (by_ring_from l ((a, ha) ∷ []) (times l (neg 𝟙) e (search reads depth 40) (search reads depth 40) ∷ []) (search reads depth 40) refl)

  pub neg_square : (d : E) → In o d → neg d · neg d ≡ d · d
  neg_square d hd = by_ring l ((d, hd) ∷ []) (search reads depth 40) refl

  pub double_inv_in : (a : E) → In o a → In o (inv (a ⊹ a))
  double_inv_in a ha = l.inv_in (a ⊹ a) (l.add_in a a ha ha)

  pub double_inv : (a : E) → In o a → (a ≢ 𝟘) → (a ⊹ a) · inv (a ⊹ a) ≡ 𝟙
  double_inv a ha n = l.mul_inv (a ⊹ a) (l.add_in a a ha ha) nonzero
    where
      nonzero : a ⊹ a ≡ 𝟘 → ⊥
      nonzero e =
          n (other_zero l (𝟙 ⊹ 𝟙) a two_in ha
          (by_ring_from l ((a, ha) ∷ []) (times l 𝟙 e (search reads depth 40) (search reads depth 40) ∷ []) (search reads depth 40) refl) l.two_not_zero)

  -- the half sums of a₀ and the two roots of the norm
  module _ (a0 d : E) (h0 : In o a0) (hd : In o d) where
    pub half_sum_in : In o ((a0 ⊹ d) · half o)
    half_sum_in = l.mul_in (a0 ⊹ d) (half o) (l.add_in a0 d h0 hd) half_in

    -- a₀ - (a₀ + d)/2 = (a₀ - d)/2
    pub half_sums : minus o a0 ((a0 ⊹ d) · half o) ≡ minus o a0 d · half o
    half_sums =
        by_ring_from l ((a0, h0) ∷ (d, hd) ∷ (half o, half_in) ∷ [])
        (times l (neg a0) two_halves (search reads depth 40) (search reads depth 40) ∷ []) (search reads depth 40) refl

    pub half_sum : (β a1 : E) → In o β → In o a1 → d · d ≡ norm o β (a0, a1) → HalfSum o β (a0, a1) ((a0 ⊹ d) · half o)
    half_sum β a1 hβ h1 root =
        ap₂ ◌·◌ (twice (a0 ⊹ d) (l.add_in a0 d h0 hd)) (ap (λ t. t ⊹ t) half_sums ∙ twice (minus o a0 d) (l.add_in a0 (neg d) h0 (l.neg_in d hd)))
        ∙ by_ring_from l ((a0, h0) ∷ (d, hd) ∷ (β, hβ) ∷ (a1, h1) ∷ [])
        (times l (neg 𝟙) root (search reads depth 40) (search reads depth 40) ∷ []) (search reads depth 40) refl
      where
        twice : (s : E) → In o s → s · half o ⊹ s · half o ≡ s
        twice s hs =
            by_ring_from l ((s, hs) ∷ (half o, half_in) ∷ []) (times l s two_halves (search reads depth 40) (search reads depth 40) ∷ []) (search reads depth 40) refl

module _ {E : Type 0} {o : Ops E} (laws : Laws o) (β : E) (up : Nonsquare o β) where
  open o use {zero as 𝟘, one as 𝟙, add as ◌⊹◌, mul as ◌·◌, neg, inv}

  infixl 65 ◌⊹◌
  infixl 70 ◌·◌
  l : Arithmetic o
  l = laws.arithmetic

  hβ : In o β
  hβ = up.inside

  beta_nonzero : β ≡ 𝟘 → ⊥
  beta_nonzero e = up.no_root (subst (Square o) (sym e) (zero_square l))

  pub beta_inv_in : In o (inv β)
  beta_inv_in = l.inv_in β hβ

  pub beta_inv : β · inv β ≡ 𝟙
  beta_inv = l.mul_inv β hβ beta_nonzero

  pub norm_in : (a0 a1 : E) → In o a0 → In o a1 → In o (norm o β (a0, a1))
  norm_in a0 a1 h0 h1 = is_element l ((a0, h0) ∷ (a1, h1) ∷ (β, hβ) ∷ []) (search reads depth 40)

  -- the norm is zero at zero alone
  module _ (a0 a1 : E) (h0 : In o a0) (h1 : In o a1) (e : norm o β (a0, a1) ≡ 𝟘) where
    pub norm_zero_high : a1 ≡ 𝟘
    norm_zero_high = go (equal_or_not l a1 𝟘 h1 l.zero_in)
      where
        hi : In o (inv a1)
        hi = l.inv_in a1 h1

        -- else a₀/a₁ squares to β
        go : (a1 ≡ 𝟘) ⊎ (a1 ≢ 𝟘) → a1 ≡ 𝟘
        go (inl z) = z
        go (inr n) =
            absurd (up.no_root (
              a0 · inv a1,
              l.mul_in a0 (inv a1) h0 hi,
              by_ring_from l ((a0, h0) ∷ (a1, h1) ∷ (β, hβ) ∷ (inv a1, hi) ∷ [])
                  (times l (inv a1 · inv a1) e (search reads depth 40) (search reads depth 40)
                  ∷ times l (β · (a1 · inv a1 ⊹ 𝟙)) (l.mul_inv a1 h1 n) (search reads depth 40) (search reads depth 40) ∷ []) (search reads depth 40) refl,
            ))

    pub norm_zero_low : a0 ≡ 𝟘
    norm_zero_low = go (equal_or_not l a0 𝟘 h0 l.zero_in)
      where
        go : (a0 ≡ 𝟘) ⊎ (a0 ≢ 𝟘) → a0 ≡ 𝟘
        go (inl z) = z
        go (inr n) =
            other_zero l a0 a0 h0 h0
            (by_ring_from l ((a0, h0) ∷ (a1, h1) ∷ (β, hβ) ∷ [])
            (times l 𝟙 e (search reads depth 40) (search reads depth 40) ∷ times l (β · a1) norm_zero_high (search reads depth 40) (search reads depth 40) ∷ [])
            (search reads depth 40) refl) n

  -- a₀ or a₀/β is a square
  pub low_squares : (a0 : E) → In o a0 → Square o a0 ⊎ Square o (a0 · inv β)
  low_squares a0 h0 = go (laws.squares a0 β h0 hβ)
    where
      go : Square o a0 ⊎ (Square o β ⊎ Square o (a0 · β)) → Square o a0 ⊎ Square o (a0 · inv β)
      go (inl s) = inl s
      go (inr (inl s)) = absurd (up.no_root s)
      go (inr (inr (s, hs, e))) =
          inr (
            s · inv β,
            l.mul_in s (inv β) hs beta_inv_in,
            by_ring_from l ((a0, h0) ∷ (s, hs) ∷ (β, hβ) ∷ (inv β, beta_inv_in) ∷ [])
                (times l (inv β · inv β) e (search reads depth 40) (search reads depth 40)
                ∷ times l (a0 · inv β) beta_inv (search reads depth 40) (search reads depth 40) ∷ []) (search reads depth 40) refl,
          )

  module _ (a0 a1 t : E) (h0 : In o a0) (h1 : In o a1) (ht : In o t) (sum : HalfSum o β (a0, a1) t) where
    -- a half sum or the other is a square
    pub half_sum_squares : Square o t ⊎ Square o (minus o a0 t)
    half_sum_squares = go (equal_or_not l t 𝟘 ht l.zero_in)
      where
        nonzero : (s : E) → s · s ≡ t · β → (t ≢ 𝟘) → s ≢ 𝟘
        nonzero s e n z =
            beta_nonzero (other_zero l t β ht hβ (sym e ∙ ap₂ ◌·◌ z z ∙ by_ring l [] (search reads depth 40) refl) n)

        -- β·a₁/(2s), where s squares to t·β
        other : (t ≢ 𝟘) → Square o (t · β) → Square o (minus o a0 t)
        other n (s, hs, e) =
            let m = inv (s ⊹ s) in
            let hm = double_inv_in l s hs in
            let r = minus o a0 t in (
              β · a1 · m,
              l.mul_in (β · a1) m (l.mul_in β a1 hβ h1) hm,
              by_ring_from l ((a0, h0) ∷ (a1, h1) ∷ (β, hβ) ∷ (t, ht) ∷ (s, hs) ∷ (inv (s ⊹ s), hm) ∷ [])
                  (times l (neg (β · (m · m))) sum (search reads depth 40) (search reads depth 40)
                  ∷ times l (neg (m · m · ((r ⊹ r) ⊹ (r ⊹ r)))) e (search reads depth 40) (search reads depth 40)
                  ∷ times l (r · ((s ⊹ s) · m ⊹ 𝟙)) (double_inv l s hs (nonzero s e n)) (search reads depth 40) (search reads depth 40)
                  ∷ []) (search reads depth 40) refl,
            )

        by_law : (t ≢ 𝟘) → Square o t ⊎ (Square o β ⊎ Square o (t · β)) → Square o t ⊎ Square o (minus o a0 t)
        by_law n (inl s) = inl s
        by_law n (inr (inl s)) = absurd (up.no_root s)
        by_law n (inr (inr s)) = inr (other n s)

        go : (t ≡ 𝟘) ⊎ (t ≢ 𝟘) → Square o t ⊎ Square o (minus o a0 t)
        go (inl z) = inl (subst (Square o) (sym z) (zero_square l))
        go (inr n) = by_law n (laws.squares t β ht hβ)

    -- x, a root of the half sum, and a₁/(2x) are the halves of a root of a
    module _ (x : E) (hx : In o x) (e : x · x ≡ t) (high : a1 ≡ 𝟘 → ⊥) where
      pub half_nonzero : x ≡ 𝟘 → ⊥
      half_nonzero z =
          let r = minus o a0 t in
          high (other_zero l a1 a1 h1 h1
          (other_zero l β (a1 · a1) hβ (l.mul_in a1 a1 h1 h1)
          (by_ring_from l ((a0, h0) ∷ (a1, h1) ∷ (β, hβ) ∷ (t, ht) ∷ (x, hx) ∷ [])
          (times l (neg 𝟙) sum (search reads depth 40) (search reads depth 40)
          ∷ times l (neg ((r ⊹ r) ⊹ (r ⊹ r))) e (search reads depth 40) (search reads depth 40)
          ∷ times l (((r ⊹ r) ⊹ (r ⊹ r)) · x) z (search reads depth 40) (search reads depth 40)
          ∷ []) (search reads depth 40) refl) beta_nonzero) high)

      pub low_half : x · x ⊹ β · (a1 · inv (x ⊹ x) · (a1 · inv (x ⊹ x))) ≡ a0
      low_half =
          let j = inv (x ⊹ x) in
          let r = minus o a0 t in
          by_ring_from l ((a0, h0) ∷ (a1, h1) ∷ (β, hβ) ∷ (t, ht) ∷ (x, hx) ∷ (inv (x ⊹ x), double_inv_in l x hx) ∷ [])
          (times l (neg (j · j)) sum (search reads depth 40) (search reads depth 40)
          ∷ times l (minus o 𝟙 (((r ⊹ r) ⊹ (r ⊹ r)) · (j · j))) e (search reads depth 40) (search reads depth 40)
          ∷ times l (r · ((x ⊹ x) · j ⊹ 𝟙)) (double_inv l x hx half_nonzero) (search reads depth 40) (search reads depth 40)
          ∷ []) (search reads depth 40) refl

      pub high_half : x · (a1 · inv (x ⊹ x)) ⊹ a1 · inv (x ⊹ x) · x ≡ a1
      high_half =
          by_ring_from l ((a1, h1) ∷ (x, hx) ∷ (inv (x ⊹ x), double_inv_in l x hx) ∷ [])
          (times l a1 (double_inv l x hx half_nonzero) (search reads depth 40) (search reads depth 40) ∷ []) (search reads depth 40) refl
