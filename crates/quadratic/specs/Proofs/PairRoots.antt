-- Roots of the pairs above a field, from roots in the field.
use Rattle.std.specs.Prelude.{◌≡◌, ◌⊎◌, Some, None, Option, MatchOption, ◌≢◌, refl}
use Rattle.std.proofs.Common.{sym, ◌∙◌, ap, subst, inl, inr}
use Rattle.algebra.specs.Operations.{Ops, In, minus}
use Rattle.algebra.specs.Laws.{Arithmetic, Laws}
use Rattle.algebra.specs.Roots.{Square, RootOf, Rooted, AnswersRoot}
use Rattle.algebra.proofs.Products.{equal_or_not, square_has_root}
use Rattle.quadratic.specs.Pairs.{Nonsquare, norm, pairs, HalfSum}
use Rattle.quadratic.specs.Proofs.Squares.{half, half_sum_in, half_sums, half_sum, neg_square, norm_in, low_squares, half_sum_squares, half_nonzero}
use Rattle.quadratic.specs.Proofs.PairLaws.{pair_in, low_in, high_in, low_square, high_square, by_half_sum, by_half_sum_in, half_sum_square, square_by_norm, norm_of_square, sign_high, sign_low, pair_laws}

module _ {E : Type 0} {o : Ops E} (laws : Laws o) (β : E) (up : Nonsquare o β) where
  open o use {zero as 𝟘, add as ◌⊹◌, mul as ◌·◌, neg, inv}

  infixl 65 ◌⊹◌
  infixl 70 ◌·◌
  abbrev P : Ops (E × E)
  P = pairs o β

  l : Arithmetic o
  l = laws.arithmetic

  -- of (a₀, 0): the root of a₀ as first half
  pub root_low : (a0 r z : E) → z ≡ 𝟘 → RootOf o a0 r → RootOf P (a0, 𝟘) (r, z)
  root_low a0 r z e w = rw e (record {
    inside = pair_in laws β up (r, 𝟘) w.inside l.zero_in;
    squares = low_square laws β up a0 r w.inside w.squares;
    even = go (equal_or_not l r 𝟘 w.inside l.zero_in);
  })
    where
      go : (r ≡ 𝟘) ⊎ (r ≢ 𝟘) → P.sign (r, 𝟘) ≡ 0
      go (inl z) = sign_high laws β up (r, 𝟘) w.inside z ∙ laws.signs.of_zero
      go (inr n) = sign_low laws β up (r, 𝟘) w.inside n ∙ w.even

  -- or the root of q = a₀/β as second half
  pub root_high : (a0 q s z : E) → q ≡ a0 · inv β → z ≡ 𝟘 → In o a0 → RootOf o q s → RootOf P (a0, 𝟘) (z, s)
  root_high a0 q s z f e h0 w = rw e (record {
    inside = pair_in laws β up (𝟘, s) l.zero_in w.inside;
    squares = high_square laws β up a0 s h0 w.inside (w.squares ∙ f);
    even = sign_high laws β up (𝟘, s) l.zero_in refl ∙ w.even;
  })

  -- and one of them has a root
  pub some_low : (a0 q : E) → q ≡ a0 · inv β → In o a0 → (Square o a0 → ⊥) → (Square o q → ⊥) → ⊥
  some_low a0 q f h0 n k = go (low_squares laws β up a0 h0)
    where
      go : Square o a0 ⊎ Square o (a0 · inv β) → ⊥
      go (inl s) = n s
      go (inr s) = k (subst (Square o) (sym f) s)

  -- of any other pair: the root of a half sum as first half
  pub root_by_half_sum : (a : E × E) (t x y : E) → y ≡ a.1 · inv (x ⊹ x) → In P a → (a.1 ≢ 𝟘) → In o t → HalfSum o β a t → RootOf o t x → RootOf P a (x, y)
  root_by_half_sum a t x y e ha high ht sum w = rw e (record {
    inside = by_half_sum_in laws β up a x ha w.inside;
    squares = half_sum_square laws β up a t x ha ht sum w.inside w.squares high;
    even =
        sign_low laws β up (by_half_sum o a x) w.inside
        (half_nonzero laws β up a.0 a.1 t (low_in laws β up a ha) (high_in laws β up a ha) ht sum x w.inside w.squares high)
        ∙ w.even;
  })

  -- and one of the half sums has a root
  pub some_half_sum : (a : E × E) (d : E) → In P a → In o d → d · d ≡ norm o β a
      → (Square o ((a.0 ⊹ d) · half o) → ⊥) → (Square o (minus o a.0 d · half o) → ⊥) → ⊥
  some_half_sum a d ha hd root n k =
      go (half_sum_squares laws β up a.0 a.1 ((a.0 ⊹ d) · half o) h0 h1 (half_sum_in l a.0 d h0 hd) (half_sum l a.0 d h0 hd β a.1 up.inside h1 root))
    where
      h0 : In o a.0
      h0 = low_in laws β up a ha

      h1 : In o a.1
      h1 = high_in laws β up a ha

      go : Square o ((a.0 ⊹ d) · half o) ⊎ Square o (minus o a.0 ((a.0 ⊹ d) · half o)) → ⊥
      go (inl s) = n s
      go (inr s) = k (subst (Square o) (half_sums l a.0 d h0 hd) s)

  -- what is answered by the last half sum that can have a root
  pub answers_by_half_sum : (a : E × E) (t : E) (r : Option (E × E)) → MatchOption r (Square o t → ⊥) (RootOf P a) → ((Square o t → ⊥) → ⊥) → AnswersRoot P a r
  answers_by_half_sum a t None n some = absurd (some n)
  answers_by_half_sum a t (Some x) w some = w

  -- the two half sums, s and t, of a and a root d of its norm
  module _ (a : E × E) (d : E) (ha : In P a) (root : RootOf o (norm o β a) d) where
    hd : In o d
    hd = root.inside

    h0 : In o a.0
    h0 = low_in laws β up a ha

    h1 : In o a.1
    h1 = high_in laws β up a ha

    pub sum_is : (s : E) → s ≡ (a.0 ⊹ d) · half o → HalfSum o β a s
    sum_is s e = subst (HalfSum o β a) (sym e) (half_sum l a.0 d h0 hd β a.1 up.inside h1 root.squares)

    pub difference_is : (t : E) → t ≡ minus o a.0 d · half o → HalfSum o β a t
    difference_is t e =
        subst (HalfSum o β a) (sym e) (half_sum l a.0 (neg d) h0 (l.neg_in d hd) β a.1 up.inside h1 (neg_square l d hd ∙ root.squares))

    -- s or t has a root, so where s has none, what t answers is the answer
    pub answered_by : (s t : E) → s ≡ (a.0 ⊹ d) · half o → t ≡ minus o a.0 d · half o → (Square o s → ⊥)
        → (r : Option (E × E)) → MatchOption r (Square o t → ⊥) (RootOf P a) → AnswersRoot P a r
    answered_by s t e f n r k =
        answers_by_half_sum a t r k
        (λ m. some_half_sum a d ha hd root.squares (λ q. n (subst (Square o) (sym e) q)) (λ q. m (subst (Square o) (sym f) q)))

  -- a pair whose norm has no root
  pub no_root_by_norm : (a : E × E) (n : E) → n ≡ norm o β a → (Square o n → ⊥) → Square P a → ⊥
  no_root_by_norm a n e none s = none (subst (Square o) (sym e) (norm_of_square laws β up a s))

  -- a pair has a root exactly when its norm has one
  pub pair_rooted : Rooted o → Rooted P
  pair_rooted rooted a ha =
      elim (rooted (norm o β a) (norm_in laws β up a.0 a.1 (low_in laws β up a ha) (high_in laws β up a ha))) [
        | inl w ↦ inl (square_has_root (pair_laws laws β up) a (square_by_norm laws β up a ha (w.0, w.1.inside, w.1.squares)))
        | inr n ↦ inr (λ s. n (norm_of_square laws β up a s))
      ]
