-- Elements with no root, by one computed test of every candidate.
use Rattle.std.proofs.Common.{◌≡◌, ℕ, ◌*◌, ◌%◌, Bool, true, not, eqb, ltb, ap}
use Rattle.std.proofs.lemmas.Bool.{and_from, and_parts, both_ways, eq-eqb, eqb-false, ltb-true, not-true}
use Rattle.algebra.specs.Roots.{Square}
use Rattle.prime_field.specs.Modular.{modular}
use Rattle.quadratic.specs.Pairs.{pairs}
use Rattle.vectors.proofs.BoundedTests.{all_below, passes}

-- x does not square to a modulo p
abbrev no_root? : ℕ → ℕ → ℕ → Bool
no_root? p a x = not (eqb ((x * x) % p) a)

pub rootless : (p a : ℕ) → all_below (no_root? p a) p ≡ true → Square (modular p) a → ⊥
rootless p a t (x, inside, e) = eqb-false _ _ (not-true _ (passes (no_root? p a) p t x (ltb-true x p inside))) e

-- the pair (x, y) does not square to a
abbrev no_pair_root? : ℕ → ℕ → ℕ × ℕ → ℕ → ℕ → Bool
no_pair_root? p β a x y = let o = pairs (modular p) β in not (o.same (o.mul (x, y) (x, y)) a)

pub pair_rootless : (p β : ℕ) (a : ℕ × ℕ) → all_below (λ x. all_below (no_pair_root? p β a x) p) p ≡ true → Square (pairs (modular p) β) a → ⊥
pair_rootless p β a t (z, inside, e) =
    let (low, high) = and_parts (ltb z.0 p) (ltb z.1 p) inside in
    let row = passes (λ x. all_below (no_pair_root? p β a x) p) p t z.0 (ltb-true z.0 p low) in
    let other = passes (no_pair_root? p β a z.0) p row z.1 (ltb-true z.1 p high) in
    both_ways _ (not-true _ other) (and_from _ _ (eq-eqb _ _ (ap (λ w. w.0) e)) (eq-eqb _ _ (ap (λ w. w.1) e)))
