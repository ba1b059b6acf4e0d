-- A block as a polynomial: its value at an element, and Horner's rule.
use Rattle.std.proofs.Common.{◌≡◌, ℕ, zero, suc, ◌+◌, ◌*◌, ◌<◌, List, [], ◌∷◌, ◌++◌, length, get_or, drop, sym, refl, ap, ◌∙◌, ap₂, arith, length-append}
use Rattle.std.proofs.lemmas.List.{at_drop_more}
use Rattle.std.proofs.ByRecursion.{All-get_or, All-drop}
use Rattle.algebra.specs.Operations.{Ops, In}
use Rattle.algebra.specs.Laws.{Arithmetic}
use Rattle.algebra.specs.Powers.{power}
use Rattle.algebra.proofs.Elements.{by_ring, reads}
use Rattle.code.specs.Blocks.{Elements, Sum}
use Rattle.code.proofs.Powers.{power_in, power-+, power-*}

-- the exponents 1 to 4, one by one
pub four_exponents : (P : ℕ → Type 0) → P 1 → P 2 → P 3 → P 4 → (i : ℕ) → i < 4 → P (1 + i)
four_exponents P a b c d zero h = a
four_exponents P a b c d (suc zero) h = b
four_exponents P a b c d (suc (suc zero)) h = c
four_exponents P a b c d (suc (suc (suc zero))) h = d
four_exponents P a b c d (suc (suc (suc (suc i)))) h = absurd (omega (arith, h))

-- each symbol times x^place, added up
abbrev pub Value : {E : Type 0} → Ops E → E → List E → E
Value o x [] = o.zero
Value o x (symbol ∷ later) = o.add (o.mul symbol (power o x (length later))) (Value o x later)

-- the value of a block of which the symbols before `later` have the value v
abbrev pub Horner : {E : Type 0} → Ops E → E → E → List E → E
Horner o x v later = o.add (o.mul v (power o x (length later))) (Value o x later)

module _ {E : Type 0} {o : Ops E} (l : Arithmetic o) where
  open o use {zero as 𝟘, add as ◌⊹◌, mul as ◌·◌}

  infixl 65 ◌⊹◌
  infixl 70 ◌·◌
  pub value_in : (x : E) (xs : List E) → In o x → Elements o xs → In o (Value o x xs)
  value_in x [] h hs = l.zero_in
  value_in x (s ∷ xs) h hs =
      l.add_in _ _ (l.mul_in s _ hs.0 (power_in l x (length xs) h)) (value_in x xs h hs.1)

  -- a sum is the value at a power of α
  pub sum_value : (α : E) (j : ℕ) (xs : List E) → In o α → Sum o α j xs ≡ Value o (power o α j) xs
  sum_value α j [] h = refl
  sum_value α j (s ∷ xs) h = ap₂ (λ p q. s · p ⊹ q) (power-* l α j (length xs) h) (sum_value α j xs h)

  pub sum_in : (α : E) (j : ℕ) (xs : List E) → In o α → Elements o xs → In o (Sum o α j xs)
  sum_in α j [] h hs = l.zero_in
  sum_in α j (s ∷ xs) h hs =
      l.add_in _ _ (l.mul_in s _ hs.0 (power_in l α (j * length xs) h)) (sum_in α j xs h hs.1)

  pub horner_none : (x : E) (xs : List E) → In o x → Elements o xs → Horner o x 𝟘 xs ≡ Value o x xs
  horner_none x xs hx hs =
      by_ring l ((power o x (length xs), power_in l x (length xs) hx) ∷ (Value o x xs, value_in x xs hx hs) ∷ []) (search reads depth 40) refl

  pub horner_all : (x v : E) → In o v → Horner o x v [] ≡ v
  horner_all x v hv = by_ring l ((v, hv) ∷ []) (search reads depth 40) refl

  -- one turn of the loop, at the index i
  pub horner_more : (x v s r total : E) (xs : List E) (i : ℕ) → i < length xs → s ≡ get_or xs i s → In o x → In o v → Elements o xs
      → r ≡ v · x ⊹ s → Horner o x v (drop i xs) ≡ total → Horner o x r (drop (i + 1) xs) ≡ total
  horner_more x v s r total xs i h e hx hv hs er inv =
      let hi : In o s = rw (← e) at (All-get_or (In o) xs i s h hs) in
      let more : Horner o x v (drop i xs) ≡ Horner o x v (s ∷ drop (i + 1) xs) =
      at_drop_more (Horner o x v) xs i s h ∙ ap (λ y. Horner o x v (y ∷ drop (i + 1) xs)) (sym e) in
      let turn : Horner o x (v · x ⊹ s) (drop (i + 1) xs) ≡ Horner o x v (s ∷ drop (i + 1) xs) =
      by_ring l ((x, hx) ∷ (v, hv) ∷ (s, hi) ∷ (power o x (length (drop (i + 1) xs)), power_in l x (length (drop (i + 1) xs)) hx)
      ∷ (Value o x (drop (i + 1) xs), value_in x (drop (i + 1) xs) hx (All-drop (In o) (i + 1) xs hs)) ∷ []) (search reads depth 40) refl in
      rw er (turn ∙ sym more ∙ inv)

  pub value-++ : (x : E) (xs ys : List E) → In o x → Elements o xs → Elements o ys
      → Value o x (xs ++ ys) ≡ Value o x xs · power o x (length ys) ⊹ Value o x ys
  value-++ x [] ys hx hs hy =
      by_ring l ((power o x (length ys), power_in l x (length ys) hx) ∷ (Value o x ys, value_in x ys hx hy) ∷ []) (search reads depth 40) refl
  value-++ x (s ∷ xs) ys hx hs hy =
      ap₂ (λ a b. s · a ⊹ b) (ap (power o x) (length-append xs ys) ∙ power-+ l x (length xs) (length ys) hx) (value-++ x xs ys hx hs.1 hy)
      ∙ by_ring l ((s, hs.0) ∷ (power o x (length xs), power_in l x (length xs) hx) ∷ (power o x (length ys), power_in l x (length ys) hx)
      ∷ (Value o x xs, value_in x xs hx hs.1) ∷ (Value o x ys, value_in x ys hx hy) ∷ []) (search reads depth 40) refl
