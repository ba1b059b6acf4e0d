-- From the corrector's parts to its contract, and the round trip.
use Rattle.std.proofs.Common.{◌≡◌, ℕ, ◌-◌, ◌<◌, ◌≤◌, List, length, sym, ap, ◌∙◌, subst, arith, length-set, Result, MatchResult}
use Rattle.std.proofs.lemmas.Result.{MatchResult-weaker}
use Rattle.std.proofs.ByRecursion.{All-set}
use Rattle.algebra.specs.Operations.{Ops, In}
use Rattle.algebra.specs.Laws.{Arithmetic}
use Rattle.code.specs.Blocks.{Elements, CodeWord₁, differ}
use Rattle.code.specs.Generator.{Generates}
use Rattle.code.proofs.Counting.{differ_self, differ_sym, differ-set-≤}
use Rattle.code.proofs.MinimumDistance.{equal_near, others_far}
use Rattle.writer.specs.Writing.{Written}
use Rattle.code.specs.declared.faults.CodeFault.{CodeFault}
use Rattle.code.specs.declared.faults.CodeFault.TheVariants.{NoCodeWord}
use Rattle.corrector.specs.Correction.{Corrected, Uncorrected, RefusesCorrecting}
use Rattle.corrector.specs.Errors.{AllZero, det, Corrects, NotOne, NotTwo}
use Rattle.corrector.specs.RoundTrip.{damaged, Admissible, Restored}
use Rattle.corrector.specs.declared.restoration.Damage.{Damage}
use Rattle.corrector.specs.declared.syndromes.Syndromes.{Syndromes}
use Rattle.corrector.proofs.Once.{refused_far}
use Rattle.corrector.proofs.Received.{Received}
use Rattle.corrector.proofs.Completeness.{far_from_one, far_from_two}

-- from the parts' answers on a block with its sums
module _ {E : Type 0} {o : Ops E} {α : E} {n : ℕ} {block : List E} {s : Syndromes E} (r : Received o α n block s) where
  pub corrected : (after : List E) (c : ℕ) → Corrects o α block after c → Corrected o α n block after c
  corrected after c k =
      let word : CodeWord₁ o α n after = subst (λ m. CodeWord₁ o α m after) r.long k.word in
      let near : differ o block after ≤ 2 = omega (arith, k.count, k.few) in
      record {
        long = r.long;
        inside = r.elements;
        word = word;
        near = near;
        only = λ other w ne. others_far r.laws 1 α n block after other r.generator r.long r.elements word w near ne;
        changed = sym k.count;
      }

  pub uncorrected : (after : List E) (fault : CodeFault) → after ≡ block → fault ≡ NoCodeWord
      → ((word : List E) → CodeWord₁ o α (length block) word → 2 < differ o block word) → Uncorrected o α n block after fault
  uncorrected after fault kept told far = record {
    kept = kept;
    due = subst (RefusesCorrecting o α n block) (sym told)
        (record { long = r.long; inside = r.elements; far = λ word w. far word (subst (λ m. CodeWord₁ o α m word) (sym r.long) w) });
  }

  pub after_one : (AllZero o s → ⊥) → det o s ≡ o.zero → (after : List E) (answer : Result ℕ CodeFault)
      → MatchResult answer (Corrects o α block after) (NotOne o α s block after) → MatchResult answer (Corrected o α n block after) (Uncorrected o α n block after)
  after_one nonzero z after answer h =
      MatchResult-weaker answer h (corrected after) (λ fault k. uncorrected after fault k.kept k.told (far_from_one r nonzero z k.none))

  pub after_two : (AllZero o s → ⊥) → (det o s ≡ o.zero → ⊥) → (after : List E) (answer : Result ℕ CodeFault)
      → MatchResult answer (Corrects o α block after) (NotTwo o α s block after) → MatchResult answer (Corrected o α n block after) (Uncorrected o α n block after)
  after_two nonzero z after answer h =
      MatchResult-weaker answer h (corrected after) (λ fault k. uncorrected after fault k.kept k.told (far_from_two r nonzero z k.none))

module _ {E : Type 0} {o : Ops E} (l : Arithmetic o) (α : E) (n : ℕ) (g : Generates o α n) where
  module _ (before written : List E) (w : Written o α n before written) (first second : Damage E) (a : Admissible o n first) (b : Admissible o n second) where
    abbrev arrived : List E
    arrived = damaged (damaged written first) second

    arrived_long : length (damaged (damaged written first) second) ≡ n
    arrived_long = length-set (damaged written first) _ _ ∙ length-set written _ _ ∙ w.word.long

    arrived_in : Elements o (damaged (damaged written first) second)
    arrived_in = All-set (In o) (damaged written first) _ _ b.inside (All-set (In o) written _ _ a.inside w.word.inside)

    few : differ o written arrived ≤ 2
    few =
        let h = differ-set-≤ l written (damaged written first) (length (damaged written first) - 1 - second.place) second.symbol in
        let k = differ-set-≤ l written written (length written - 1 - first.place) first.symbol in
        let z = differ_self l written w.word.inside in
        omega (arith, h, k, z)

    swapped : differ o arrived written ≡ differ o written arrived
    swapped = differ_sym l arrived written arrived_in w.word.inside (arrived_long ∙ sym w.word.long)

    pub not_refused : (fault : CodeFault) → RefusesCorrecting o α n (damaged (damaged written first) second) fault → ⊥
    not_refused fault due = refused_far o α n arrived fault due arrived_long arrived_in written w.word (omega (arith, few, swapped))

    pub restored : (after : List E) (c : ℕ) → Corrected o α n (damaged (damaged written first) second) after c → Restored o α n first second before after c
    restored after c k =
        let same : written ≡ after =
        equal_near l 1 α n arrived written after g arrived_long arrived_in w.word k.word (omega (arith, few, swapped)) k.near in
        record {
          written = subst (Written o α n before) same w;
          counted = k.changed ∙ ap (differ o arrived) (sym same) ∙ swapped ∙ ap (λ x. differ o x (damaged (damaged x first) second)) same;
        }
