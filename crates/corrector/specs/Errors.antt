-- How one and two wrong symbols show in the sums: what the corrector's parts look for.
use Rattle.std.specs.Prelude.{◌≡◌, ℕ, ◌-◌, ◌<◌, ◌≤◌, List, length, ◌≢◌, slice_index_or, slice_set}
use Rattle.algebra.specs.Operations.{Ops, In, minus}
use Rattle.algebra.specs.Powers.{power}
use Rattle.algebra.specs.Identities.{two_terms}
use Rattle.code.specs.Blocks.{Sum, CodeWord₁, differ}
use Rattle.code.specs.declared.faults.CodeFault.{CodeFault}
use Rattle.code.specs.declared.faults.CodeFault.TheVariants.{NoCodeWord}
use Rattle.corrector.specs.declared.syndromes.Syndromes.{Syndromes}

-- s are the four sums of the block
pub record SumsOf {E : Type 0} (o : Ops E) (α : E) (block : List E) (s : Syndromes E) : Type 0 where
  pub one : s.s1 ≡ Sum o α 1 block
  pub two : s.s2 ≡ Sum o α 2 block
  pub three : s.s3 ≡ Sum o α 3 block
  pub four : s.s4 ≡ Sum o α 4 block

pub record Inside {E : Type 0} (o : Ops E) (s : Syndromes E) : Type 0 where
  pub one : In o s.s1
  pub two : In o s.s2
  pub three : In o s.s3
  pub four : In o s.s4

abbrev pub AllZero : {E : Type 0} → Ops E → Syndromes E → Type 0
AllZero o s = (s.s1 ≡ o.zero) × (s.s2 ≡ o.zero) × (s.s3 ≡ o.zero) × (s.s4 ≡ o.zero)

-- each sum is x times the one before
pub record Ratio {E : Type 0} (o : Ops E) (s : Syndromes E) (x : E) : Type 0 where
  pub inside : In o x
  pub two : s.s2 ≡ o.mul x s.s1
  pub three : s.s3 ≡ o.mul x s.s2
  pub four : s.s4 ≡ o.mul x s.s3

-- a·d - b·c
abbrev pub cross : {E : Type 0} → Ops E → E → E → E → E → E
cross o a b c d = minus o (o.mul a d) (o.mul b c)

-- S₁S₃ - S₂²
abbrev pub det : {E : Type 0} → Ops E → Syndromes E → E
det o s = cross o s.s1 s.s2 s.s2 s.s3

-- (S₁S₄ - S₂S₃) / (S₁S₃ - S₂²)
abbrev pub locator_sum : {E : Type 0} → Ops E → Syndromes E → E
locator_sum o s = o.mul (cross o s.s1 s.s2 s.s3 s.s4) (o.inv (det o s))

-- (S₂S₄ - S₃²) / (S₁S₃ - S₂²)
abbrev pub locator_product : {E : Type 0} → Ops E → Syndromes E → E
locator_product o s = o.mul (cross o s.s2 s.s3 s.s3 s.s4) (o.inv (det o s))

-- x and y have the sum u and the product v
pub record Pair {E : Type 0} (o : Ops E) (u v x y : E) : Type 0 where
  pub left : In o x
  pub right : In o y
  pub sum : o.add x y ≡ u
  pub product : o.mul x y ≡ v

-- no two elements have the sum u and the product v, and the fault says so
pub record NoPair {E : Type 0} (o : Ops E) (u v : E) (fault : CodeFault) : Type 0 where
  pub none : (x y : E) → Pair o u v x y → ⊥
  pub told : fault ≡ NoCodeWord

-- k is the first place below n whose power of α is x
pub record FirstPlace {E : Type 0} (o : Ops E) (α : E) (n : ℕ) (x : E) (k : ℕ) : Type 0 where
  pub below : k < n
  pub here : power o α k ≡ x
  pub before : (i : ℕ) → i < k → power o α i ≢ x

-- the block with e taken from the symbol at the place k
abbrev pub amended : {E : Type 0} → Ops E → List E → ℕ → E → List E
amended o block k e = slice_set block (length block - 1 - k) (minus o (slice_index_or block (length block - 1 - k) o.zero) e)

-- what is wrong at x: (S₂ - y·S₁) / (x·(x - y))
abbrev pub magnitude : {E : Type 0} → Ops E → Syndromes E → E → E → E
magnitude o s x y = o.mul (minus o s.s2 (o.mul y s.s1)) (o.inv (o.mul x (minus o x y)))

-- one wrong symbol, by e at the place k
pub record OneError {E : Type 0} (o : Ops E) (α : E) (n : ℕ) (s : Syndromes E) (k : ℕ) (e : E) : Type 0 where
  pub below : k < n
  pub inside : In o e
  pub nonzero : e ≢ o.zero
  pub one : s.s1 ≡ o.mul e (power o (power o α k) 1)
  pub two : s.s2 ≡ o.mul e (power o (power o α k) 2)
  pub three : s.s3 ≡ o.mul e (power o (power o α k) 3)
  pub four : s.s4 ≡ o.mul e (power o (power o α k) 4)

-- two wrong symbols, by d at the place i and by e at the place k
pub record TwoErrors {E : Type 0} (o : Ops E) (α : E) (n : ℕ) (s : Syndromes E) (i : ℕ) (d : E) (k : ℕ) (e : E) : Type 0 where
  pub i_below : i < n
  pub k_below : k < n
  pub apart : power o α i ≢ power o α k
  pub d_in : In o d
  pub e_in : In o e
  pub d_nonzero : d ≢ o.zero
  pub e_nonzero : e ≢ o.zero
  pub one : s.s1 ≡ two_terms o d (power o α i) e (power o α k) 1
  pub two : s.s2 ≡ two_terms o d (power o α i) e (power o α k) 2
  pub three : s.s3 ≡ two_terms o d (power o α i) e (power o α k) 3
  pub four : s.s4 ≡ two_terms o d (power o α i) e (power o α k) 4

-- after is a code word that differs from before in c symbols, two at most
pub record Corrects {E : Type 0} (o : Ops E) (α : E) (before after : List E) (c : ℕ) : Type 0 where
  pub word : CodeWord₁ o α (length before) after
  pub count : differ o before after ≡ c
  pub few : c ≤ 2

-- the block is as it was, the sums are not those of one wrong symbol, and the fault says so
pub record NotOne {E : Type 0} (o : Ops E) (α : E) (s : Syndromes E) (before after : List E) (fault : CodeFault) : Type 0 where
  pub kept : after ≡ before
  pub none : (k : ℕ) (e : E) → OneError o α (length before) s k e → ⊥
  pub told : fault ≡ NoCodeWord

-- the block is as it was, the sums are not those of two wrong symbols, and the fault says so
pub record NotTwo {E : Type 0} (o : Ops E) (α : E) (s : Syndromes E) (before after : List E) (fault : CodeFault) : Type 0 where
  pub kept : after ≡ before
  pub none : (i : ℕ) (d : E) (k : ℕ) (e : E) → TwoErrors o α (length before) s i d k e → ⊥
  pub told : fault ≡ NoCodeWord
