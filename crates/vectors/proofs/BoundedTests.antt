-- What a computed test of every number below a bound tells of each.
use Rattle.std.proofs.Common.{◌≡◌, ℕ, zero, suc, ◌<◌, Bool, true, ◌&&◌, sym, subst, inl, inr, not-suc-le-zero, arith}
use Rattle.std.proofs.lemmas.Bool.{and_parts, cases_eq}

-- every number below n passes
abbrev pub all_below : (ℕ → Bool) → ℕ → Bool
all_below test zero = true
all_below test (suc n) = test n && all_below test n

pub passes : (test : ℕ → Bool) (n : ℕ) → all_below test n ≡ true → (x : ℕ) → x < n → test x ≡ true
passes test zero t x l = absurd (not-suc-le-zero l)
passes test (suc n) t x l =
    let (last, rest) = and_parts (test n) (all_below test n) t in
    elim (cases_eq x n) [
      | inl q ↦ subst (λ y. test y ≡ true) (sym q) last
      | inr q ↦ passes test n rest x (omega arith)
    ]
