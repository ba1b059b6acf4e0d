-- The laws of the pairs above a field.
use Rattle.std.specs.Prelude.{◌≡◌, ◌+◌, Bool, true, false, cond, ◌⊎◌, List, [], ◌∷◌, ◌≢◌, refl}
use Rattle.std.proofs.Common.{sym, ◌∙◌, ap, ap₂, subst, inl, inr}
use Rattle.std.proofs.lemmas.Bool.{and_from, and_parts}
use Rattle.algebra.specs.Operations.{Ops, In, minus}
use Rattle.algebra.specs.Laws.{Arithmetic, Laws, SquareLaw, SignLaw}
use Rattle.algebra.specs.Roots.{Square}
use Rattle.algebra.proofs.Elements.{Element, by_ring, by_ring_from, times, is_element, reads}
use Rattle.algebra.proofs.Products.{equal_or_not, neg_zero}
use Rattle.algebra.proofs.Solved.{pairs_associate}
use Rattle.quadratic.specs.Pairs.{Nonsquare, norm, pairs, HalfSum}
use Rattle.quadratic.specs.Proofs.Squares.{half, half_sum_in, half_sums, half_sum, neg_nonzero, neg_square, double_inv_in, beta_inv_in, beta_inv, norm_in, norm_zero_high, norm_zero_low, low_squares, half_sum_squares, low_half, high_half}

pub pair-≡ : {E : Type 0} {a b c d : E} → a ≡ c → b ≡ d → ◌≡◌ {A = E × E} (a, b) (c, d)
pair-≡ {E} p q = ap₂ (λ (x : E) (y : E). (x, y)) p q

-- the root of a whose first half is the root x of a half sum
abbrev pub by_half_sum : {E : Type 0} → Ops E → E × E → E → E × E
by_half_sum o a x = (x, o.mul a.1 (o.inv (o.add x x)))

module _ {E : Type 0} {o : Ops E} (laws : Laws o) (β : E) (up : Nonsquare o β) where
  open o use {zero as 𝟘, one as 𝟙, add as ◌⊹◌, mul as ◌·◌, neg, inv}

  infixl 65 ◌⊹◌
  infixl 70 ◌·◌
  abbrev P : Ops (E × E)
  P = pairs o β

  l : Arithmetic o
  l = laws.arithmetic

  hβ : In o β
  hβ = up.inside

  pub pair_in : (a : E × E) → In o a.0 → In o a.1 → In P a
  pair_in a p q = and_from (o.is a.0) (o.is a.1) p q

  pub low_in : (a : E × E) → In P a → In o a.0
  low_in a h = (and_parts (o.is a.0) (o.is a.1) h).0

  pub high_in : (a : E × E) → In P a → In o a.1
  high_in a h = (and_parts (o.is a.0) (o.is a.1) h).1

  -- the halves of a before the elements ρ
  abbrev halves : (a : E × E) → In P a → List (Element o) → List (Element o)
  halves a ha ρ = (a.0, low_in a ha) ∷ (a.1, high_in a ha) ∷ ρ

  pair_norm_in : (a : E × E) → In P a → In o (norm o β a)
  pair_norm_in a ha = norm_in laws β up a.0 a.1 (low_in a ha) (high_in a ha)

  -- the root below, as first half or as second
  pub low_square : (a0 r : E) → In o r → r · r ≡ a0 → P.mul (r, 𝟘) (r, 𝟘) ≡ (a0, 𝟘)
  low_square a0 r hr e =
      pair-≡ (by_ring l ((r, hr) ∷ (β, hβ) ∷ []) (search reads depth 40) refl ∙ e) (by_ring l ((r, hr) ∷ []) (search reads depth 40) refl)

  pub high_square : (a0 s : E) → In o a0 → In o s → s · s ≡ a0 · inv β → P.mul (𝟘, s) (𝟘, s) ≡ (a0, 𝟘)
  high_square a0 s h0 hs e =
      pair-≡
      (by_ring_from l ((a0, h0) ∷ (s, hs) ∷ (β, hβ) ∷ (inv β, beta_inv_in laws β up) ∷ [])
      (times l β e (search reads depth 40) (search reads depth 40) ∷ times l a0 (beta_inv laws β up) (search reads depth 40) (search reads depth 40) ∷ [])
      (search reads depth 40) refl)
      (by_ring l ((s, hs) ∷ []) (search reads depth 40) refl)

  pub by_half_sum_in : (a : E × E) (x : E) → In P a → In o x → In P (by_half_sum o a x)
  by_half_sum_in a x ha hx = pair_in (by_half_sum o a x) hx (l.mul_in a.1 (inv (x ⊹ x)) (high_in a ha) (double_inv_in l x hx))

  pub half_sum_square : (a : E × E) (t x : E) → In P a → In o t → HalfSum o β a t → In o x → x · x ≡ t → (a.1 ≢ 𝟘)
      → P.mul (by_half_sum o a x) (by_half_sum o a x) ≡ a
  half_sum_square a t x ha ht sum hx e high =
      pair-≡
      (low_half laws β up a.0 a.1 t (low_in a ha) (high_in a ha) ht sum x hx e high)
      (high_half laws β up a.0 a.1 t (low_in a ha) (high_in a ha) ht sum x hx e high)

  norm_mul : (a b : E × E) → In P a → In P b → norm o β (P.mul a b) ≡ norm o β a · norm o β b
  norm_mul a b ha hb = by_ring l (halves a ha (halves b hb ((β, hβ) ∷ []))) (search reads depth 40 fits 5000) refl

  -- a pair is a square if its norm is
  pub square_by_norm : (a : E × E) → In P a → Square o (norm o β a) → Square P a
  square_by_norm a ha (d, hd, root) = go (equal_or_not l a.1 𝟘 h1 l.zero_in)
    where
      h0 : In o a.0
      h0 = low_in a ha

      h1 : In o a.1
      h1 = high_in a ha

      low : Square o a.0 ⊎ Square o (a.0 · inv β) → Square P (a.0, 𝟘)
      low (inl (r, hr, e)) = ((r, 𝟘), pair_in (r, 𝟘) hr l.zero_in, low_square a.0 r hr e)
      low (inr (s, hs, e)) = ((𝟘, s), pair_in (𝟘, s) l.zero_in hs, high_square a.0 s h0 hs e)

      by_half : (d : E) → In o d → d · d ≡ norm o β a → (a.1 ≢ 𝟘) → Square o ((a.0 ⊹ d) · half o) → Square P a
      by_half d hd root high (x, hx, e) = (
        by_half_sum o a x,
        by_half_sum_in a x ha hx,
        half_sum_square a ((a.0 ⊹ d) · half o) x ha (half_sum_in l a.0 d h0 hd) (half_sum l a.0 d h0 hd β a.1 hβ h1 root) hx e high,
      )

      high : (a.1 ≢ 𝟘) → Square o ((a.0 ⊹ d) · half o) ⊎ Square o (minus o a.0 ((a.0 ⊹ d) · half o)) → Square P a
      high n (inl s) = by_half d hd root n s
      high n (inr s) =
          by_half (neg d) (l.neg_in d hd) (neg_square l d hd ∙ root) n
          (subst (Square o) (half_sums l a.0 d h0 hd) s)

      go : (a.1 ≡ 𝟘) ⊎ (a.1 ≢ 𝟘) → Square P a
      go (inl z) = subst (λ (y : E). Square P (a.0, y)) (sym z) (low (low_squares laws β up a.0 h0))
      go (inr n) =
          high n (half_sum_squares laws β up a.0 a.1 ((a.0 ⊹ d) · half o) h0 h1 (half_sum_in l a.0 d h0 hd)
          (half_sum l a.0 d h0 hd β a.1 hβ h1 root))

  -- and only if
  pub norm_of_square : (a : E × E) → Square P a → Square o (norm o β a)
  norm_of_square a (x, hx, e) = (norm o β x, pair_norm_in x hx, sym (norm_mul x x hx hx) ∙ ap (norm o β) e)

  pub sign_high : (a : E × E) → In o a.0 → a.0 ≡ 𝟘 → P.sign a ≡ o.sign a.1
  sign_high a h0 z = ap (λ b. cond b (o.sign a.1) (o.sign a.0)) (ap (λ x. o.same x 𝟘) z ∙ l.is_same 𝟘 l.zero_in)

  pub sign_low : (a : E × E) → In o a.0 → (a.0 ≢ 𝟘) → P.sign a ≡ o.sign a.0
  sign_low a h0 n = go (o.same a.0 𝟘) refl
    where
      go : (b : Bool) → o.same a.0 𝟘 ≡ b → cond b (o.sign a.1) (o.sign a.0) ≡ o.sign a.0
      go true e = absurd (n (l.same_is a.0 𝟘 h0 l.zero_in e))
      go false e = refl

  pair_signs : SignLaw P
  pair_signs = record {
    of_zero = sign_high P.zero l.zero_in refl ∙ laws.signs.of_zero;
    of_negative = λ a ha n. go a ha n (equal_or_not l a.0 𝟘 (low_in a ha) l.zero_in);
  }
    where
      go : (a : E × E) (ha : In P a) → (a ≢ P.zero) → (a.0 ≡ 𝟘) ⊎ (a.0 ≢ 𝟘) → P.sign a + P.sign (P.neg a) ≡ 1
      go a ha n (inl z) =
          ap₂ ◌+◌ (sign_high a (low_in a ha) z) (sign_high (P.neg a) (l.neg_in a.0 (low_in a ha)) (ap neg z ∙ neg_zero l))
          ∙ laws.signs.of_negative a.1 (high_in a ha) (λ e. n (pair-≡ z e))
      go a ha n (inr k) =
          ap₂ ◌+◌ (sign_low a (low_in a ha) k) (sign_low (P.neg a) (l.neg_in a.0 (low_in a ha)) (neg_nonzero l a.0 (low_in a ha) k))
          ∙ laws.signs.of_negative a.0 (low_in a ha) k

  pair_mul_in : (a b : E × E) → In P a → In P b → In P (P.mul a b)
  pair_mul_in a b ha hb =
      let ρ = halves a ha (halves b hb ((β, hβ) ∷ [])) in
      pair_in (P.mul a b) (is_element l ρ (search reads depth 40)) (is_element l ρ (search reads depth 40))

  -- as the norms of a, b and their product
  pair_squares : SquareLaw P
  pair_squares a b ha hb = go (laws.squares (norm o β a) (norm o β b) (pair_norm_in a ha) (pair_norm_in b hb))
    where
      go : Square o (norm o β a) ⊎ (Square o (norm o β b) ⊎ Square o (norm o β a · norm o β b)) → Square P a ⊎ (Square P b ⊎ Square P (P.mul a b))
      go (inl s) = inl (square_by_norm a ha s)
      go (inr (inl s)) = inr (inl (square_by_norm b hb s))
      go (inr (inr s)) = inr (inr (square_by_norm (P.mul a b) (pair_mul_in a b ha hb) (subst (Square o) (sym (norm_mul a b ha hb)) s)))

  pair_inv : (a : E × E) → In P a → (a ≢ P.zero) → P.mul a (P.inv a) ≡ P.one
  pair_inv a ha n =
      let hi = l.inv_in (norm o β a) (pair_norm_in a ha) in
      let e = l.mul_inv (norm o β a) (pair_norm_in a ha) nonzero in
      let ρ = halves a ha ((β, hβ) ∷ (inv (norm o β a), hi) ∷ []) in
      pair-≡
      (by_ring_from l ρ (times l 𝟙 e (search reads depth 40) (search reads depth 40) ∷ []) (search reads depth 40 fits 5000) refl)
      (by_ring l ρ (search reads depth 40 fits 5000) refl)
    where
      nonzero : norm o β a ≡ 𝟘 → ⊥
      nonzero z =
          n (pair-≡ (norm_zero_low laws β up a.0 a.1 (low_in a ha) (high_in a ha) z)
          (norm_zero_high laws β up a.0 a.1 (low_in a ha) (high_in a ha) z))

  pair_arithmetic : Arithmetic P
  pair_arithmetic = record {
    zero_in = pair_in P.zero l.zero_in l.zero_in;
    one_in = pair_in P.one l.one_in l.zero_in;
    add_in = λ a b ha hb.
        pair_in (P.add a b) (l.add_in a.0 b.0 (low_in a ha) (low_in b hb)) (l.add_in a.1 b.1 (high_in a ha) (high_in b hb));
    mul_in = pair_mul_in;
    neg_in = λ a ha. pair_in (P.neg a) (l.neg_in a.0 (low_in a ha)) (l.neg_in a.1 (high_in a ha));
    inv_in = λ a ha.
        let ρ = halves a ha ((inv (norm o β a), l.inv_in (norm o β a) (pair_norm_in a ha)) ∷ []) in
        pair_in (P.inv a) (is_element l ρ (search reads depth 40)) (is_element l ρ (search reads depth 40));
    same_is = λ a b ha hb e.
        let both = and_parts (o.same a.0 b.0) (o.same a.1 b.1) e in
        pair-≡ (l.same_is a.0 b.0 (low_in a ha) (low_in b hb) both.0) (l.same_is a.1 b.1 (high_in a ha) (high_in b hb) both.1);
    is_same = λ a ha. and_from (o.same a.0 a.0) (o.same a.1 a.1) (l.is_same a.0 (low_in a ha)) (l.is_same a.1 (high_in a ha));
    add_comm = λ a b ha hb. pair-≡ (l.add_comm a.0 b.0 (low_in a ha) (low_in b hb)) (l.add_comm a.1 b.1 (high_in a ha) (high_in b hb));
    add_assoc = λ a b c ha hb hc.
        pair-≡
        (l.add_assoc a.0 b.0 c.0 (low_in a ha) (low_in b hb) (low_in c hc))
        (l.add_assoc a.1 b.1 c.1 (high_in a ha) (high_in b hb) (high_in c hc));
    mul_comm = λ a b ha hb.
        let ρ = halves a ha (halves b hb ((β, hβ) ∷ [])) in
        pair-≡ (by_ring l ρ (search reads depth 40) refl) (by_ring l ρ (search reads depth 40) refl);
    mul_assoc = λ a b c ha hb hc.
        pairs_associate l β a.0 a.1 b.0 b.1 c.0 c.1 hβ (low_in a ha) (high_in a ha) (low_in b hb) (high_in b hb) (low_in c hc) (high_in c hc);
    mul_add = λ a b c ha hb hc.
        let ρ = halves a ha (halves b hb (halves c hc ((β, hβ) ∷ []))) in
        pair-≡ (by_ring l ρ (search reads depth 40 fits 5000) refl) (by_ring l ρ (search reads depth 40 fits 5000) refl);
    add_zero = λ a ha. pair-≡ (l.add_zero a.0 (low_in a ha)) (l.add_zero a.1 (high_in a ha));
    mul_one = λ a ha.
        let ρ = halves a ha ((β, hβ) ∷ []) in
        pair-≡ (by_ring l ρ (search reads depth 40) refl) (by_ring l ρ (search reads depth 40) refl);
    add_neg = λ a ha. pair-≡ (l.add_neg a.0 (low_in a ha)) (l.add_neg a.1 (high_in a ha));
    mul_inv = pair_inv;
    inv_zero =
        let ρ = (inv (norm o β P.zero), l.inv_in (norm o β P.zero) (norm_in laws β up 𝟘 𝟘 l.zero_in l.zero_in)) ∷ [] in
        pair-≡ (by_ring l ρ (search reads depth 40) refl) (by_ring l ρ (search reads depth 40) refl);
    one_not_zero = λ e. l.one_not_zero (ap (λ (p : E × E). p.0) e);
    two_not_zero = λ e. l.two_not_zero (ap (λ (p : E × E). p.0) e);
  }

  pub pair_laws : Laws P
  pair_laws = record { arithmetic = pair_arithmetic; squares = pair_squares; signs = pair_signs }
