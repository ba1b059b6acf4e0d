-- Commutative rings, and their equations by computation: two expressions are equal where their difference has the normal form zero.
use Rattle.std.proofs.Common.{◌≡◌, ℕ, zero, suc, ◌+◌, ◌*◌, Bool, true, false, ◌&&◌, eqb, List, [], ◌∷◌, sym, refl, ap, ◌∙◌, ap₂, add-zero, add-suc, mul-zero, mul-suc}
use Prim.Native.Nat.{compare, Ordering}
use native.Mathlib.Omega.{compare-eq}
use Rattle.std.proofs.lemmas.Bool.{and_parts, eqb-true}

pub record CommutativeRing (A : Type 0) : Type 0 where
  pub 𝟘 : A
  pub 𝟙 : A
  pub plus : A → A → A
  pub times : A → A → A
  pub neg : A → A
  pub plus_assoc : (a b c : A) → plus (plus a b) c ≡ plus a (plus b c)
  pub plus_comm : (a b : A) → plus a b ≡ plus b a
  pub plus_𝟘 : (a : A) → plus a 𝟘 ≡ a
  pub plus_neg : (a : A) → plus a (neg a) ≡ 𝟘
  pub times_assoc : (a b c : A) → times (times a b) c ≡ times a (times b c)
  pub times_comm : (a b : A) → times a b ≡ times b a
  pub times_𝟙 : (a : A) → times a 𝟙 ≡ a
  pub times_plus : (a b c : A) → times a (plus b c) ≡ plus (times a b) (times a c)

-- Expressions over numbered variables.
infixl 65 ◌⊕◌
infixl 70 ◌⊗◌
infixr 72 ⊝◌
pub data Expr : Type 0 where
  var : ℕ → Expr
  𝟎 : Expr
  𝟏 : Expr
  ◌⊕◌ : Expr → Expr → Expr
  ◌⊗◌ : Expr → Expr → Expr
  ⊝◌ : Expr → Expr

-- Normal forms: `constant a b` is the integer a - b, never reduced; `horner i p q` is p + xᵢ·q,
-- where p has only variables past i, and q only those from i on. Nothing rests on that order but brevity.
pub data Poly : Type 0 where
  constant : ℕ → ℕ → Poly
  horner : ℕ → Poly → Poly → Poly

-- Everything that the test runs is an `abbrev`, so that `refl` computes it.
abbrev pub add_constant : ℕ → ℕ → Poly → Poly
add_constant a b (constant c d) = constant (a + c) (b + d)
add_constant a b (horner i p q) = horner i (add_constant a b p) q

-- (p + xᵢ·q) + s, where plus-p and plus-q add p and q to a normal form
abbrev pub add_horner : ℕ → Poly → Poly → (Poly → Poly) → (Poly → Poly) → Poly → Poly
add_horner i p q plus_p plus_q (constant c d) = horner i (add_constant c d p) q
add_horner i p q plus_p plus_q (horner j p' q') =
    elim (compare i j) [
      | Ordering.lt ↦ horner i (plus_p (horner j p' q')) q
      | Ordering.eq ↦ horner i (plus_p p') (plus_q q')
      | Ordering.gt ↦ horner j (add_horner i p q plus_p plus_q p') q'
    ]

abbrev pub add : Poly → Poly → Poly
add (constant a b) s = add_constant a b s
add (horner i p q) s = add_horner i p q (add p) (add q) s

abbrev pub scale : ℕ → ℕ → Poly → Poly
scale a b (constant c d) = constant (a * c + b * d) (a * d + b * c)
scale a b (horner i p q) = horner i (scale a b p) (scale a b q)

abbrev pub mul_constant : ℕ → ℕ → Poly → Poly
mul_constant a b s = elim (eqb a b) [ true ↦ constant 0 0 | false ↦ scale a b s ]

abbrev pub mul_variable : ℕ → Poly → Poly
mul_variable i (constant c d) = horner i (constant 0 0) (constant c d)
mul_variable i (horner j p q) =
    elim (compare j i) [
      | Ordering.lt ↦ horner j (mul_variable i p) (mul_variable i q)
      | Ordering.eq ↦ horner i (constant 0 0) (horner j p q)
      | Ordering.gt ↦ horner i (constant 0 0) (horner j p q)
    ]

abbrev pub mul : Poly → Poly → Poly
mul (constant a b) s = mul_constant a b s
mul (horner i p q) s = add (mul_variable i (mul q s)) (mul p s)

abbrev pub negate : Poly → Poly
negate (constant a b) = constant b a
negate (horner i p q) = horner i (negate p) (negate q)

abbrev pub zero? : Poly → Bool
zero? (constant a b) = eqb a b
zero? (horner i p q) = zero? p && zero? q

abbrev pub normal : Expr → Poly
normal (var i) = horner i (constant 0 0) (constant 1 0)
normal 𝟎 = constant 0 0
normal 𝟏 = constant 1 0
normal (e ⊕ f) = add (normal e) (normal f)
normal (e ⊗ f) = mul (normal e) (normal f)
normal (⊝ e) = negate (normal e)

-- the test
abbrev pub same? : Expr → Expr → Bool
same? e f = zero? (add (normal e) (negate (normal f)))

-- Values in a ring: ρ lists what the variables stand for.
module _ {A : Type 0} (r : CommutativeRing A) where
  abbrev pub nat : ℕ → A
  nat zero = r.𝟘
  nat (suc n) = r.plus (nat n) r.𝟙

  abbrev pub at : List A → ℕ → A
  at [] i = r.𝟘
  at (a ∷ l) zero = a
  at (a ∷ l) (suc i) = at l i

  abbrev pub eval : List A → Expr → A
  eval ρ (var i) = at ρ i
  eval ρ 𝟎 = r.𝟘
  eval ρ 𝟏 = r.𝟙
  eval ρ (e ⊕ f) = r.plus (eval ρ e) (eval ρ f)
  eval ρ (e ⊗ f) = r.times (eval ρ e) (eval ρ f)
  eval ρ (⊝ e) = r.neg (eval ρ e)

  abbrev pub value : List A → Poly → A
  value ρ (constant a b) = r.plus (nat a) (r.neg (nat b))
  value ρ (horner i p q) = r.plus (value ρ p) (r.times (at ρ i) (value ρ q))

module _ {A : Type 0} (r : CommutativeRing A) where
  open r use {𝟘, 𝟙, plus as ◌⊹◌, times as ◌·◌, neg, plus_assoc, plus_comm, plus_𝟘, plus_neg, times_assoc, times_comm, times_𝟙, times_plus}

  infixl 65 ◌⊹◌
  infixl 70 ◌·◌
  𝟘_plus : (a : A) → 𝟘 ⊹ a ≡ a
  𝟘_plus a = plus_comm 𝟘 a ∙ plus_𝟘 a

  plus_left : (a b c : A) → a ⊹ (b ⊹ c) ≡ b ⊹ (a ⊹ c)
  plus_left a b c = sym (plus_assoc a b c) ∙ ap (λ x. x ⊹ c) (plus_comm a b) ∙ plus_assoc b a c

  plus_right : (a b c : A) → a ⊹ b ⊹ c ≡ a ⊹ c ⊹ b
  plus_right a b c = plus_assoc a b c ∙ ap (λ x. a ⊹ x) (plus_comm b c) ∙ sym (plus_assoc a c b)

  plus_swap : (a b c d : A) → (a ⊹ b) ⊹ (c ⊹ d) ≡ (a ⊹ c) ⊹ (b ⊹ d)
  plus_swap a b c d = plus_assoc a b (c ⊹ d) ∙ ap (λ x. a ⊹ x) (plus_left b c d) ∙ sym (plus_assoc a c (b ⊹ d))

  times_left : (a b c : A) → a · (b · c) ≡ b · (a · c)
  times_left a b c = sym (times_assoc a b c) ∙ ap (λ x. x · c) (times_comm a b) ∙ times_assoc b a c

  plus_times : (a b c : A) → (a ⊹ b) · c ≡ a · c ⊹ b · c
  plus_times a b c = times_comm (a ⊹ b) c ∙ times_plus c a b ∙ ap₂ ◌⊹◌ (times_comm c a) (times_comm c b)

  plus_cancel : (a b c : A) → a ⊹ c ≡ b ⊹ c → a ≡ b
  plus_cancel a b c e =
      sym (back a) ∙ ap (λ x. x ⊹ neg c) e ∙ back b
    where
      back : (x : A) → x ⊹ c ⊹ neg c ≡ x
      back x = plus_assoc x c (neg c) ∙ ap (λ y. x ⊹ y) (plus_neg c) ∙ plus_𝟘 x

  neg_unique : (a b : A) → a ⊹ b ≡ 𝟘 → b ≡ neg a
  neg_unique a b e = plus_cancel b (neg a) a (plus_comm b a ∙ e ∙ sym (plus_comm (neg a) a ∙ plus_neg a))

  times_𝟘 : (a : A) → a · 𝟘 ≡ 𝟘
  times_𝟘 a = plus_cancel (a · 𝟘) 𝟘 (a · 𝟘) (sym (times_plus a 𝟘 𝟘) ∙ ap (λ x. a · x) (plus_𝟘 𝟘) ∙ sym (𝟘_plus (a · 𝟘)))

  neg_neg : (a : A) → neg (neg a) ≡ a
  neg_neg a = sym (neg_unique (neg a) a (plus_comm (neg a) a ∙ plus_neg a))

  neg_𝟘 : neg 𝟘 ≡ 𝟘
  neg_𝟘 = sym (neg_unique 𝟘 𝟘 (plus_𝟘 𝟘))

  neg_plus : (a b : A) → neg (a ⊹ b) ≡ neg a ⊹ neg b
  neg_plus a b = sym (neg_unique (a ⊹ b) (neg a ⊹ neg b) (plus_swap a b (neg a) (neg b) ∙ ap₂ ◌⊹◌ (plus_neg a) (plus_neg b) ∙ plus_𝟘 𝟘))

  times_neg : (a b : A) → a · neg b ≡ neg (a · b)
  times_neg a b = neg_unique (a · b) (a · neg b) (sym (times_plus a b (neg b)) ∙ ap (λ x. a · x) (plus_neg b) ∙ times_𝟘 a)

  neg_times : (a b : A) → neg a · b ≡ neg (a · b)
  neg_times a b = times_comm (neg a) b ∙ times_neg b a ∙ ap neg (times_comm b a)

  nat_plus : (m n : ℕ) → nat r (m + n) ≡ nat r m ⊹ nat r n
  nat_plus m zero = ap (nat r) (add-zero m) ∙ sym (plus_𝟘 (nat r m))
  nat_plus m (suc n) = ap (nat r) (add-suc m n) ∙ ap (λ x. x ⊹ 𝟙) (nat_plus m n) ∙ plus_assoc (nat r m) (nat r n) 𝟙

  nat_times : (m n : ℕ) → nat r (m * n) ≡ nat r m · nat r n
  nat_times m zero = ap (nat r) (mul-zero m) ∙ sym (times_𝟘 (nat r m))
  nat_times m (suc n) =
      ap (nat r) (mul-suc m n) ∙ nat_plus (m * n) m ∙ ap₂ ◌⊹◌ (nat_times m n) (sym (times_𝟙 (nat r m)))
      ∙ sym (times_plus (nat r m) (nat r n) 𝟙)

  -- the integer a - b in the ring
  integer : ℕ → ℕ → A
  integer a b = nat r a ⊹ neg (nat r b)

  integer_plus : (a b c d : ℕ) → integer (a + c) (b + d) ≡ integer a b ⊹ integer c d
  unfolding integer
  integer_plus a b c d =
      ap₂ ◌⊹◌ (nat_plus a c) (ap neg (nat_plus b d) ∙ neg_plus (nat r b) (nat r d))
      ∙ plus_swap (nat r a) (nat r c) (neg (nat r b)) (neg (nat r d))

  integer_times : (a b c d : ℕ) → integer (a * c + b * d) (a * d + b * c) ≡ integer a b · integer c d
  unfolding integer
  integer_times a b c d = simp (integer, nat_plus, nat_times, plus_times, times_plus, times_neg, neg_times, neg_neg, neg_plus, plus_assoc, plus_comm, plus_left)

  integer_zero : (a b : ℕ) → a ≡ b → integer a b ≡ 𝟘
  unfolding integer
  integer_zero a b e = ap (λ x. nat r x ⊹ neg (nat r b)) e ∙ plus_neg (nat r b)

  integer_neg : (a b : ℕ) → integer b a ≡ neg (integer a b)
  unfolding integer
  integer_neg a b = sym (neg_plus (nat r a) (neg (nat r b)) ∙ ap (λ x. neg (nat r a) ⊹ x) (neg_neg (nat r b)) ∙ plus_comm (neg (nat r a)) (nat r b))

  integer_one : integer 1 0 ≡ 𝟙
  unfolding integer
  integer_one = ap (λ x. nat r 1 ⊹ x) neg_𝟘 ∙ plus_𝟘 (nat r 1) ∙ 𝟘_plus 𝟙

  module _ (ρ : List A) where
    add_constant_value : (a b : ℕ) (p : Poly) → value r ρ (add_constant a b p) ≡ integer a b ⊹ value r ρ p
    unfolding integer
    add_constant_value a b (constant c d) = integer_plus a b c d
    add_constant_value a b (horner i p q) =
        ap (λ x. x ⊹ at r ρ i · value r ρ q) (add_constant_value a b p) ∙ plus_assoc (integer a b) (value r ρ p) (at r ρ i · value r ρ q)

    add_horner_value : (i : ℕ) (p q : Poly) (plus_p plus_q : Poly → Poly)
        → ((s : Poly) → value r ρ (plus_p s) ≡ value r ρ p ⊹ value r ρ s)
        → ((s : Poly) → value r ρ (plus_q s) ≡ value r ρ q ⊹ value r ρ s)
        → (s : Poly) → value r ρ (add_horner i p q plus_p plus_q s) ≡ value r ρ (horner i p q) ⊹ value r ρ s
    unfolding integer
    add_horner_value i p q plus_p plus_q hp hq (constant c d) =
        ap (λ x. x ⊹ at r ρ i · value r ρ q) (add_constant_value c d p ∙ plus_comm (integer c d) (value r ρ p))
        ∙ plus_right (value r ρ p) (integer c d) (at r ρ i · value r ρ q)
    add_horner_value i p q plus_p plus_q hp hq (horner j p' q') = go (compare i j) refl (add_horner_value i p q plus_p plus_q hp hq p')
      where
        x : A
        x = at r ρ i

        y : A
        y = at r ρ j

        P : A
        P = value r ρ p

        Q : A
        Q = value r ρ q

        P' : A
        P' = value r ρ p'

        Q' : A
        Q' = value r ρ q'

        go : (o : Ordering) → compare i j ≡ o
            → value r ρ (add_horner i p q plus_p plus_q p') ≡ (P ⊹ x · Q) ⊹ P'
            → value r ρ (elim o [
              | Ordering.lt ↦ horner i (plus_p (horner j p' q')) q
              | Ordering.eq ↦ horner i (plus_p p') (plus_q q')
              | Ordering.gt ↦ horner j (add_horner i p q plus_p plus_q p') q'
            ]) ≡ (P ⊹ x · Q) ⊹ (P' ⊹ y · Q')
        go Ordering.lt e ih = ap (λ z. z ⊹ x · Q) (hp (horner j p' q')) ∙ plus_right P (P' ⊹ y · Q') (x · Q)
        go Ordering.eq e ih =
            ap₂ (λ u v. u ⊹ x · v) (hp p') (hq q')
            ∙ ap (λ z. (P ⊹ P') ⊹ z) (times_plus x Q Q')
            ∙ plus_swap P P' (x · Q) (x · Q')
            ∙ ap (λ k. (P ⊹ x · Q) ⊹ (P' ⊹ at r ρ k · Q')) (compare-eq i j e)
        go Ordering.gt e ih = ap (λ z. z ⊹ y · Q') ih ∙ plus_assoc (P ⊹ x · Q) P' (y · Q')

    add_value : (p s : Poly) → value r ρ (add p s) ≡ value r ρ p ⊹ value r ρ s
    unfolding integer
    add_value (constant a b) s = add_constant_value a b s
    add_value (horner i p q) s = add_horner_value i p q (add p) (add q) (add_value p) (add_value q) s

    negate_value : (p : Poly) → value r ρ (negate p) ≡ neg (value r ρ p)
    unfolding integer
    negate_value (constant a b) = integer_neg a b
    negate_value (horner i p q) =
        ap₂ (λ u v. u ⊹ at r ρ i · v) (negate_value p) (negate_value q)
        ∙ ap (λ z. neg (value r ρ p) ⊹ z) (times_neg (at r ρ i) (value r ρ q))
        ∙ sym (neg_plus (value r ρ p) (at r ρ i · value r ρ q))

    scale_value : (a b : ℕ) (p : Poly) → value r ρ (scale a b p) ≡ integer a b · value r ρ p
    unfolding integer
    scale_value a b (constant c d) = integer_times a b c d
    scale_value a b (horner i p q) =
        ap₂ (λ u v. u ⊹ at r ρ i · v) (scale_value a b p) (scale_value a b q)
        ∙ ap (λ z. integer a b · value r ρ p ⊹ z) (times_left (at r ρ i) (integer a b) (value r ρ q))
        ∙ sym (times_plus (integer a b) (value r ρ p) (at r ρ i · value r ρ q))

    mul_constant_value : (a b : ℕ) (p : Poly) → value r ρ (mul_constant a b p) ≡ integer a b · value r ρ p
    unfolding integer
    mul_constant_value a b p = go (eqb a b) refl
      where
        go : (t : Bool) → eqb a b ≡ t → value r ρ (elim t [ true ↦ constant 0 0 | false ↦ scale a b p ]) ≡ integer a b · value r ρ p
        go true e =
            integer_zero 0 0 refl
            ∙ sym (ap (λ z. z · value r ρ p) (integer_zero a b (eqb-true a b e)) ∙ times_comm 𝟘 (value r ρ p) ∙ times_𝟘 (value r ρ p))
        go false e = scale_value a b p

    mul_variable_value : (i : ℕ) (p : Poly) → value r ρ (mul_variable i p) ≡ at r ρ i · value r ρ p
    unfolding integer
    mul_variable_value i (constant c d) = ap (λ z. z ⊹ at r ρ i · integer c d) (integer_zero 0 0 refl) ∙ 𝟘_plus (at r ρ i · integer c d)
    mul_variable_value i (horner j p q) = go (compare j i) (mul_variable_value i p) (mul_variable_value i q)
      where
        x : A
        x = at r ρ i

        y : A
        y = at r ρ j

        V : A
        V = value r ρ p ⊹ y · value r ρ q

        go : (o : Ordering) → value r ρ (mul_variable i p) ≡ x · value r ρ p → value r ρ (mul_variable i q) ≡ x · value r ρ q
            → value r ρ (elim o [
              | Ordering.lt ↦ horner j (mul_variable i p) (mul_variable i q)
              | Ordering.eq ↦ horner i (constant 0 0) (horner j p q)
              | Ordering.gt ↦ horner i (constant 0 0) (horner j p q)
            ]) ≡ x · V
        go Ordering.lt hp hq =
            ap₂ (λ u v. u ⊹ y · v) hp hq ∙ ap (λ z. x · value r ρ p ⊹ z) (times_left y x (value r ρ q))
            ∙ sym (times_plus x (value r ρ p) (y · value r ρ q))
        go Ordering.eq hp hq = ap (λ z. z ⊹ x · V) (integer_zero 0 0 refl) ∙ 𝟘_plus (x · V)
        go Ordering.gt hp hq = ap (λ z. z ⊹ x · V) (integer_zero 0 0 refl) ∙ 𝟘_plus (x · V)

    mul_value : (p s : Poly) → value r ρ (mul p s) ≡ value r ρ p · value r ρ s
    unfolding integer
    mul_value (constant a b) s = mul_constant_value a b s
    mul_value (horner i p q) s =
        add_value (mul_variable i (mul q s)) (mul p s)
        ∙ ap₂ ◌⊹◌ (mul_variable_value i (mul q s) ∙ ap (λ z. at r ρ i · z) (mul_value q s)) (mul_value p s)
        ∙ plus_comm (at r ρ i · (value r ρ q · value r ρ s)) (value r ρ p · value r ρ s)
        ∙ ap (λ z. value r ρ p · value r ρ s ⊹ z) (sym (times_assoc (at r ρ i) (value r ρ q) (value r ρ s)))
        ∙ sym (plus_times (value r ρ p) (at r ρ i · value r ρ q) (value r ρ s))

    -- an expression and its normal form have one value
    normal_value : (e : Expr) → value r ρ (normal e) ≡ eval r ρ e
    unfolding integer
    normal_value (var i) =
        ap₂ (λ u v. u ⊹ at r ρ i · v) (integer_zero 0 0 refl) integer_one
        ∙ 𝟘_plus (at r ρ i · 𝟙) ∙ times_𝟙 (at r ρ i)
    normal_value 𝟎 = integer_zero 0 0 refl
    normal_value 𝟏 = integer_one
    normal_value (e ⊕ f) = add_value (normal e) (normal f) ∙ ap₂ ◌⊹◌ (normal_value e) (normal_value f)
    normal_value (e ⊗ f) = mul_value (normal e) (normal f) ∙ ap₂ ◌·◌ (normal_value e) (normal_value f)
    normal_value (⊝ e) = negate_value (normal e) ∙ ap neg (normal_value e)

    zero_value : (p : Poly) → zero? p ≡ true → value r ρ p ≡ 𝟘
    unfolding integer
    zero_value (constant a b) e = integer_zero a b (eqb-true a b e)
    zero_value (horner i p q) e =
        let both = and_parts (zero? p) (zero? q) e in
        ap₂ (λ u v. u ⊹ at r ρ i · v) (zero_value p both.0) (zero_value q both.1) ∙ 𝟘_plus (at r ρ i · 𝟘) ∙ times_𝟘 (at r ρ i)

    -- expressions that pass the test are equal in every ring
    pub solve : (e f : Expr) → same? e f ≡ true → eval r ρ e ≡ eval r ρ f
    solve e f t =
        sym (normal_value e)
        ∙ plus_cancel (value r ρ (normal e)) (value r ρ (normal f)) (neg (value r ρ (normal f)))
        (ap (λ z. value r ρ (normal e) ⊹ z) (sym (negate_value (normal f)))
        ∙ sym (add_value (normal e) (negate (normal f)))
        ∙ zero_value (add (normal e) (negate (normal f))) t
        ∙ sym (plus_neg (value r ρ (normal f))))
        ∙ normal_value f

  -- An equation at hand, to be added with a factor.
  pub record Given (ρ : List A) : Type 0 where
    pub factor : Expr
    pub left : Expr
    pub right : Expr
    pub holds : eval r ρ left ≡ eval r ρ right

  abbrev pub plus_lefts : {ρ : List A} → List (Given ρ) → Expr → Expr
  plus_lefts [] e = e
  plus_lefts (g ∷ gs) e = plus_lefts gs (e ⊕ g.factor ⊗ g.left)

  abbrev pub plus_rights : {ρ : List A} → List (Given ρ) → Expr → Expr
  plus_rights [] e = e
  plus_rights (g ∷ gs) e = plus_rights gs (e ⊕ g.factor ⊗ g.right)

  -- e - f is the sum, over equations at hand, of factor · (left - right)
  pub solve_from : (ρ : List A) (e f : Expr) (gs : List (Given ρ)) → same? (plus_rights gs e) (plus_lefts gs f) ≡ true → eval r ρ e ≡ eval r ρ f
  solve_from ρ e f gs k = go gs e f (solve ρ (plus_rights gs e) (plus_lefts gs f) k)
    where
      go : (gs : List (Given ρ)) (e f : Expr) → eval r ρ (plus_rights gs e) ≡ eval r ρ (plus_lefts gs f) → eval r ρ e ≡ eval r ρ f
      go [] e f h = h
      go (g ∷ gs) e f h =
          plus_cancel (eval r ρ e) (eval r ρ f) (eval r ρ g.factor · eval r ρ g.right)
          (go gs (e ⊕ g.factor ⊗ g.right) (f ⊕ g.factor ⊗ g.left) h
          ∙ ap (λ z. eval r ρ f ⊹ eval r ρ g.factor · z) g.holds)
