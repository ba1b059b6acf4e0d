-- Counting the places where two blocks differ.
use Rattle.std.proofs.Common.{◌≡◌, ℕ, zero, suc, ◌+◌, ◌-◌, ◌<◌, ◌≤◌, Bool, true, false, cond, List, [], ◌∷◌, length, get_or, take, set, sym, refl, ap, ◌∙◌, subst, arith}
use Rattle.algebra.specs.Operations.{Ops, In}
use Rattle.algebra.specs.Laws.{Arithmetic}
use Rattle.code.specs.Blocks.{Elements, differ}

-- one place more, of three blocks
triangle_place : (b c d : Bool) (x y z : ℕ) → (b ≡ true → c ≡ true → d ≡ true) → z ≤ x + y → cond d z (suc z) ≤ cond b x (suc x) + cond c y (suc y)
triangle_place true true true x y z q h = omega arith
triangle_place true true false x y z q h = cc (q refl refl)
triangle_place true false true x y z q h = omega arith
triangle_place true false false x y z q h = omega arith
triangle_place false true true x y z q h = omega arith
triangle_place false true false x y z q h = omega arith
triangle_place false false true x y z q h = omega arith
triangle_place false false false x y z q h = omega arith

cond-≤ : (b : Bool) (x z : ℕ) → x ≤ z → cond b x (suc x) ≤ suc z
cond-≤ true x z h = omega arith
cond-≤ false x z h = omega arith

cond_mono : (b : Bool) (x z : ℕ) → x ≤ suc z → cond b x (suc x) ≤ suc (cond b z (suc z))
cond_mono true x z h = h
cond_mono false x z h = omega arith

cond_grows : (b : Bool) (z : ℕ) → z ≤ cond b z (suc z)
cond_grows true z = omega arith
cond_grows false z = omega arith

cond_suc : (b : Bool) (z : ℕ) → cond b (suc z) (suc (suc z)) ≡ suc (cond b z (suc z))
cond_suc true z = refl
cond_suc false z = refl

module _ {E : Type 0} {o : Ops E} (l : Arithmetic o) where
  pub not_same : (a b : E) → In o a → In o b → (a ≡ b → ⊥) → o.same a b ≡ false
  not_same a b ha hb n = go (o.same a b) refl
    where
      go : (s : Bool) → o.same a b ≡ s → s ≡ false
      go true e = absurd (n (l.same_is a b ha hb e))
      go false e = refl

  pub same_not : (a b : E) → In o a → o.same a b ≡ false → a ≡ b → ⊥
  same_not a b ha e q = cc (l.is_same a ha, ap (o.same a) q)

  same_sym : (a b : E) → In o a → In o b → o.same a b ≡ o.same b a
  same_sym a b ha hb = go (o.same a b) refl
    where
      go : (s : Bool) → o.same a b ≡ s → s ≡ o.same b a
      go true e = sym (ap (o.same b) (l.same_is a b ha hb e) ∙ l.is_same b hb)
      go false e = sym (not_same b a hb ha (λ q. same_not a b ha e (sym q)))

  both_same : (a b c : E) → In o a → In o b → In o c → o.same a b ≡ true → o.same a c ≡ true → o.same b c ≡ true
  both_same a b c ha hb hc p q =
      let e : b ≡ c = sym (l.same_is a b ha hb p) ∙ l.same_is a c ha hc q in
      subst (λ w. o.same b w ≡ true) e (l.is_same b hb)

  pub differ_self : (xs : List E) → Elements o xs → differ o xs xs ≡ 0
  differ_self [] hs = refl
  differ_self (x ∷ xs) hs = ap (λ b. cond b (differ o xs xs) (suc (differ o xs xs))) (l.is_same x hs.0) ∙ differ_self xs hs.1

  pub differ_sym : (xs ys : List E) → Elements o xs → Elements o ys → length xs ≡ length ys → differ o xs ys ≡ differ o ys xs
  differ_sym [] [] hx hy e = refl
  differ_sym [] (y ∷ ys) hx hy e = absurd (omega (arith, e))
  differ_sym (x ∷ xs) [] hx hy e = absurd (omega (arith, e))
  differ_sym (x ∷ xs) (y ∷ ys) hx hy e =
      ap (λ b. cond b (differ o xs ys) (suc (differ o xs ys))) (same_sym x y hx.0 hy.0)
      ∙ ap (λ m. cond (o.same y x) m (suc m)) (differ_sym xs ys hx.1 hy.1 (omega (arith, e)))

  pub differ_triangle : (xs ys zs : List E) → Elements o xs → Elements o ys → Elements o zs → length xs ≡ length ys → length xs ≡ length zs
      → differ o ys zs ≤ differ o xs ys + differ o xs zs
  differ_triangle [] [] zs hx hy hz p q = omega arith
  differ_triangle [] (y ∷ ys) zs hx hy hz p q = absurd (omega (arith, p))
  differ_triangle (x ∷ xs) [] zs hx hy hz p q = absurd (omega (arith, p))
  differ_triangle (x ∷ xs) (y ∷ ys) [] hx hy hz p q = absurd (omega (arith, q))
  differ_triangle (x ∷ xs) (y ∷ ys) (z ∷ zs) hx hy hz p q =
      triangle_place (o.same x y) (o.same x z) (o.same y z) _ _ _ (both_same x y z hx.0 hy.0 hz.0)
      (differ_triangle xs ys zs hx.1 hy.1 hz.1 (omega (arith, p)) (omega (arith, q)))

  differ_length : (xs ys : List E) → differ o xs ys ≤ length xs
  differ_length [] ys = omega arith
  differ_length (x ∷ xs) [] = omega arith
  differ_length (x ∷ xs) (y ∷ ys) = cond-≤ (o.same x y) (differ o xs ys) (length xs) (differ_length xs ys)

  -- blocks with the same beginning
  pub differ_take : (m : ℕ) (xs ys : List E) → Elements o xs → length xs ≡ length ys → take m xs ≡ take m ys → differ o xs ys ≤ length xs - m
  differ_take zero xs ys hx e t = let h = differ_length xs ys in omega arith
  differ_take (suc m) [] ys hx e t = omega arith
  differ_take (suc m) (x ∷ xs) [] hx e t = absurd (omega (arith, e))
  differ_take (suc m) (x ∷ xs) (y ∷ ys) hx e t =
      let first : x ≡ y = cc in
      let rest : take m xs ≡ take m ys = cc in
      let same : o.same x y ≡ true = ap (o.same x) (sym first) ∙ l.is_same x hx.0 in
      let h = differ_take m xs ys hx.1 (omega (arith, e)) rest in
      rw same (omega (arith, h))

  -- one symbol set
  pub differ-set-≤ : (xs ys : List E) (i : ℕ) (v : E) → differ o xs (set ys i v) ≤ suc (differ o xs ys)
  differ-set-≤ [] ys i v = omega arith
  differ-set-≤ (x ∷ xs) [] i v = omega arith
  differ-set-≤ (x ∷ xs) (y ∷ ys) zero v =
      let h = cond-≤ (o.same x v) (differ o xs ys) (differ o xs ys) (omega arith) in
      let k = cond_grows (o.same x y) (differ o xs ys) in
      omega (arith, h, k)
  differ-set-≤ (x ∷ xs) (y ∷ ys) (suc i) v = cond_mono (o.same x y) _ _ (differ-set-≤ xs ys i v)

  -- one symbol set to another, where the blocks agreed
  pub differ_set : (xs ys : List E) (i : ℕ) (v d : E) → length xs ≡ length ys → i < length xs → Elements o xs → In o v
      → get_or xs i d ≡ get_or ys i d → (get_or xs i d ≡ v → ⊥) → differ o xs (set ys i v) ≡ suc (differ o xs ys)
  differ_set [] ys i v d q h hs hv e n = absurd (omega (arith, h))
  differ_set (x ∷ xs) [] i v d q h hs hv e n = absurd (omega (arith, q))
  differ_set (x ∷ xs) (y ∷ ys) zero v d q h hs hv e n =
      let same : o.same x y ≡ true = ap (o.same x) (sym e) ∙ l.is_same x hs.0 in
      ap (λ b. cond b (differ o xs ys) (suc (differ o xs ys))) (not_same x v hs.0 hv n)
      ∙ ap (λ b. suc (cond b (differ o xs ys) (suc (differ o xs ys)))) (sym same)
  differ_set (x ∷ xs) (y ∷ ys) (suc i) v d q h hs hv e n =
      ap (λ m. cond (o.same x y) m (suc m)) (differ_set xs ys i v d (omega (arith, q)) (omega (arith, h)) hs.1 hv e n)
      ∙ cond_suc (o.same x y) (differ o xs ys)
