-- A list of numerals is parted at its commas in one way only.
use Rattle.std.proofs.Common.{◌≡◌, ℕ, ◌<◌, false, eqb, List, [], ◌∷◌, ◌++◌, length, get_or, map, sym, refl, ap, ◌∙◌, arith}
use Rattle.std.specs.List.{All, AllByRecursion, join_with_byte, slice_split}
use Rattle.std.proofs.ByRecursion.{All-get_or}
use Rattle.std.proofs.lemmas.Bool.{ne_eqb}
use Rattle.std.proofs.lemmas.List.{append-nil, get_or-map, length-map}
use Rattle.std.proofs.lemmas.List.Elements.{All-from_get_or}
use Rattle.std.proofs.lemmas.List.Splits.{slice_split_none, slice_split_at, length-slice_split, join_with_byte-slice_split}
use Rattle.lines.specs.Numbers.{numeral, spelled, Fits32, NumberList}
use Rattle.lines.proofs.Numerals.{numeral_lacks, numeral_injective}

abbrev pub parts : List ℕ → List (List ℕ)
parts text = slice_split (λ b. eqb b 44) text

no_comma : (v : ℕ) → Fits32 v → All (λ b. eqb b 44 ≡ false) (numeral v)
no_comma v h = All-from_get_or (λ b. eqb b 44 ≡ false) (numeral v) 0 (λ i l. ne_eqb _ _ (numeral_lacks 44 v (λ r. omega arith) h i l))

parts_spelled : (vs : List ℕ) → NumberList vs → parts (spelled vs) ≡ map numeral vs
parts_spelled [] l = absurd (omega (arith, l.0))
parts_spelled (v ∷ []) l = rw append-nil (slice_split_none (λ b. eqb b 44) (numeral v) (no_comma v l.1.0))
parts_spelled (v ∷ w ∷ ws) l =
    slice_split_at (λ b. eqb b 44) (numeral v) 44 (spelled (w ∷ ws)) (no_comma v l.1.0) refl
    ∙ ap (λ rest. numeral v ∷ rest) (parts_spelled (w ∷ ws) (omega arith, l.1.1))

spelled_joined : (vs : List ℕ) → spelled vs ≡ join_with_byte 44 (map numeral vs)
spelled_joined [] = refl
spelled_joined (v ∷ []) = append-nil (numeral v)
spelled_joined (v ∷ w ∷ ws) = ap (λ rest. numeral v ++ 44 ∷ rest) (spelled_joined (w ∷ ws))

-- reading: a text whose parts are the numerals of values is their list
pub read_all : (text values : List ℕ) → AllByRecursion Fits32 values → map numeral values ≡ parts text → NumberList values × (text ≡ spelled values)
read_all text [] fit e = absurd (omega (arith, ap length e, length-slice_split (λ b. eqb b 44) text))
read_all text (v ∷ vs) fit e =
    ((omega arith, fit), sym (join_with_byte-slice_split 44 text) ∙ ap (join_with_byte 44) (sym e) ∙ sym (spelled_joined (v ∷ vs)))

-- a part that is no numeral: the text is no list
pub bad_part : (text part : List ℕ) (i : ℕ) → (i < length (parts text)) × (part ≡ get_or (parts text) i part) → ((v : ℕ) → Fits32 v → part ≡ numeral v → ⊥) → (vs : List ℕ) → NumberList vs → text ≡ spelled vs → ⊥
bad_part text part i at bad vs l e =
    let p : parts text ≡ map numeral vs = ap parts e ∙ parts_spelled vs l in
    let k : i < length vs = omega (arith, ap length p, length-map vs numeral) in
    bad (get_or vs i 0) (All-get_or Fits32 vs i 0 k l.1) (at.1 ∙ ap (λ ps. get_or ps i part) p ∙ get_or-map numeral vs i 0 part k)

numerals_injective : (us vs : List ℕ) → AllByRecursion Fits32 us → AllByRecursion Fits32 vs → map numeral us ≡ map numeral vs → us ≡ vs
numerals_injective [] [] g h e = refl
numerals_injective [] (v ∷ vs) g h e = cc
numerals_injective (u ∷ us) [] g h e = cc
numerals_injective (u ∷ us) (v ∷ vs) g h e =
    let first = numeral_injective u v g.0 h.0 cc in
    let rest = numerals_injective us vs g.1 h.1 cc in
    cc

pub spelled_injective : (us vs : List ℕ) → NumberList us → NumberList vs → spelled us ≡ spelled vs → us ≡ vs
spelled_injective us vs g h e = numerals_injective us vs g.1 h.1 (sym (parts_spelled us g) ∙ ap parts e ∙ parts_spelled vs h)
