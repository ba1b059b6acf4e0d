-- A block is corrected in one way, or refused for one reason.
use Rattle.std.proofs.Common.{◌≡◌, ℕ, ◌-◌, ◌<◌, ◌≤◌, List, length, sym, refl, ap, ◌∙◌, ap₂, arith}
use Rattle.std.proofs.ByRecursion.{All-get_or}
use Rattle.algebra.specs.Laws.{Arithmetic}
use Rattle.algebra.specs.Operations.{Ops, In}
use Rattle.code.specs.Blocks.{Elements, CodeWord₁, differ}
use Rattle.code.specs.Generator.{Generates}
use Rattle.code.specs.Refusals.{FirstNonElement}
use Rattle.code.specs.declared.faults.CodeFault.{CodeFault}
use Rattle.code.specs.declared.faults.CodeFault.TheVariants.{Length, Symbol, NoCodeWord}
use Rattle.code.proofs.MinimumDistance.{equal_near}
use Rattle.corrector.specs.Correction.{Corrected, RefusesCorrecting}

module _ {E : Type 0} (o : Ops E) (α : E) (n : ℕ) (b : List E) where
  pub corrected_once : Arithmetic o → Generates o α n → (left left' : List E) (c c' : ℕ) → Corrected o α n b left c → Corrected o α n b left' c' → (left ≡ left') × (c ≡ c')
  corrected_once l g left left' c c' h k =
      let same = equal_near l 1 α n b left left' g h.long h.inside h.word k.word h.near k.near in
      (same, h.changed ∙ ap (differ o b) same ∙ sym k.changed)

  -- a symbol that is no element is none of a block of elements
  no_stranger : (k : ℕ) → FirstNonElement o n b k → Elements o b → ⊥
  no_stranger k f inside = f.here o.zero (All-get_or (In o) b f.index o.zero f.below inside)

  -- what the corrector refuses has another length, holds something else than elements, or has no code word near
  pub refused_far : (f : CodeFault) → RefusesCorrecting o α n b f → length b ≡ n → Elements o b → (word : List E) → CodeWord₁ o α n word → differ o b word ≤ 2 → ⊥
  refused_far (Length m) h long inside word is near = h.1 long
  refused_far (Symbol k e) h long inside word is near = no_stranger k h.1 inside
  refused_far NoCodeWord h long inside word is near = let far = h.far word is in omega arith

  pub not_both_corrected : (left : List E) (c : ℕ) (f : CodeFault) → Corrected o α n b left c → RefusesCorrecting o α n b f → ⊥
  not_both_corrected left c f h k = refused_far f k h.long h.inside left h.word h.near

  -- the first that is no element stands at one place
  first_once : (i j : ℕ) → FirstNonElement o n b i → FirstNonElement o n b j → i ≡ j
  first_once i j f g =
      let low : f.index < g.index → ⊥ = λ l. f.here o.zero (g.before f.index o.zero l) in
      let high : g.index < f.index → ⊥ = λ l. g.here o.zero (f.before g.index o.zero l) in
      let same : f.index ≡ g.index = omega arith in
      f.place ∙ ap (λ k. n - 1 - k) same ∙ sym g.place

  pub uncorrected_once : (f g : CodeFault) → RefusesCorrecting o α n b f → RefusesCorrecting o α n b g → f ≡ g
  uncorrected_once (Length m) (Length m') h k = ap Length (h.0 ∙ sym k.0)
  uncorrected_once (Length m) (Symbol i e) h k = absurd (h.1 k.0)
  uncorrected_once (Length m) NoCodeWord h k = absurd (h.1 k.long)
  uncorrected_once (Symbol i e) (Length m) h k = absurd (k.1 h.0)
  uncorrected_once (Symbol i e) (Symbol j d) h k = ap₂ Symbol (first_once i j h.1 k.1) (h.2 ∙ sym k.2)
  uncorrected_once (Symbol i e) NoCodeWord h k = absurd (no_stranger i h.1 k.inside)
  uncorrected_once NoCodeWord (Length m) h k = absurd (k.1 h.long)
  uncorrected_once NoCodeWord (Symbol j d) h k = absurd (no_stranger j k.1 h.inside)
  uncorrected_once NoCodeWord NoCodeWord h k = refl
