-- Cues, one after the other.
use Rattle.std.proofs.Common.{◌≡◌, ◌<◌, ◌+◌, ◌*◌, ◌∙◌, ◌++◌, ℕ, List, [], ◌∷◌, length, take, drop, get_or, refl, sym, ap, arith, append_assoc, append-nil, add-one}
use Rattle.std.proofs.Math.Seq.{take-suc}
use Rattle.std.proofs.lemmas.Grind.{common_steps}
use Rattle.std.proofs.lemmas.List.{take-append-drop}
use Rattle.ffv1_matroska.specs.Written.{cue_element, cues_from}

-- one more
cues_snoc : (number stride : ℕ) (places : List ℕ) (place : ℕ) → cues_from number stride (places ++ place ∷ []) ≡ cues_from number stride places ++ cue_element (number + length places * stride) place
unfolding cues_from
cues_snoc number stride [] place =
    let none : number + 0 * stride ≡ number = omega arith in
    rw none (append-nil (cue_element number place))
cues_snoc number stride (p ∷ places) place =
    let more = cues_snoc (number + stride) stride places place in
    let same : number + stride + length places * stride ≡ number + length (p ∷ places) * stride = grind arith in
    ap (λ z. cue_element number p ++ z) (more ∙ ap (λ z. cues_from (number + stride) stride places ++ cue_element z place) same)
    ∙ sym (append_assoc (cue_element number p) (cues_from (number + stride) stride places) (cue_element (number + length (p ∷ places) * stride) place))

-- all in two parts
cues_append : (number stride : ℕ) (xs ys : List ℕ) → cues_from number stride (xs ++ ys) ≡ cues_from number stride xs ++ cues_from (number + length xs * stride) stride ys
unfolding cues_from
cues_append number stride [] ys = let none : number + 0 * stride ≡ number = omega arith in rw none refl
cues_append number stride (x ∷ xs) ys =
    let more = cues_append (number + stride) stride xs ys in
    let same : number + stride + length xs * stride ≡ number + length (x ∷ xs) * stride = grind arith in
    ap (λ z. cue_element number x ++ z) (more ∙ ap (λ z. cues_from (number + stride) stride xs ++ cues_from z stride ys) same)
    ∙ sym (append_assoc (cue_element number x) (cues_from (number + stride) stride xs) (cues_from (number + length (x ∷ xs) * stride) stride ys))

-- the next one of a list
pub cues_more : (stride : ℕ) (places : List ℕ) (i : ℕ) (place : ℕ) → i < length places → place ≡ get_or places i 0 →
    cues_from 0 stride (take (i + 1) places) ≡ cues_from 0 stride (take i places) ++ cue_element (i * stride) place
cues_more stride places i place inside is =
    let long : length (take i places) ≡ i = grind (arith, common_steps) in
    rw (add-one, take-suc places i 0 inside, ← is) (cues_snoc 0 stride (take i places) place ∙ ap (λ k. cues_from 0 stride (take i places) ++ cue_element k place) (rw long (omega arith)))

-- those up to one, and those after it
pub cues_cut : (stride : ℕ) (places : List ℕ) (i : ℕ) → cues_from 0 stride places ≡ cues_from 0 stride (take i places) ++ cues_from (0 + length (take i places) * stride) stride (drop i places)
cues_cut stride places i = ap (cues_from 0 stride) (sym (take-append-drop i places)) ∙ cues_append 0 stride (take i places) (drop i places)
