-- What the headers of elements tell of Cues.
use Rattle.std.proofs.Common.{◌≡◌, ◌+◌, ◌<◌, ◌≤◌, ◌==◌, ◌++◌, ℕ, Bool, true, false, List, Some, None, length, refl, ap, ◌∙◌, arith, inl, inr, ◌⊎◌}
use Rattle.std.proofs.lemmas.Bool.{cases_lt}
use Rattle.ffv1_ebml.specs.Spelled.{SaysSize}
use Rattle.ffv1_ebml.specs.Vints.{IsVint, number_of}
use Rattle.ffv1_matroska.specs.Cues.{cued_behind, cued_by, cued_by_read, cues}
use Rattle.ffv1_matroska.specs.Places.{segment_at}
use Rattle.ffv1_matroska.specs.Segments.{cluster}
use Rattle.ffv1_matroska.specs.declared.place.Place.{Place}
use Rattle.ffv1_matroska.proofs.CuedElements.{inside_or}
use Rattle.ffv1_matroska.proofs.PartLaws.{header_is_read}

pub told_sized : (base : Place) (loose cued : Bool) (ident size rest : List ℕ) (known left : ℕ) → IsVint ident → length ident ≤ 4 → SaysSize size (Some known) →
    cued_behind (segment_at base loose (length (ident ++ size) + (known + left))) ((ident ++ size) ++ rest) cued ≡ cued_by (number_of ident) cued
unfolding cued_behind
told_sized base loose cued ident size rest known left named few says = ap (λ z. cued_by_read z cued) (header_is_read base loose ident size (Some known) left rest named few says)

pub told_unknown : (base : Place) (loose cued : Bool) (ident size rest : List ℕ) (left : ℕ) → IsVint ident → length ident ≤ 4 → SaysSize size None →
    cued_behind (segment_at base loose (length (ident ++ size) + left)) ((ident ++ size) ++ rest) cued ≡ cued_by (number_of ident) cued
unfolding cued_behind
told_unknown base loose cued ident size rest left named few says =
    let same : length (ident ++ size) + left ≡ length (ident ++ size) + (0 + left) = omega arith in
    ap (λ n. cued_behind (segment_at base loose n) ((ident ++ size) ++ rest) cued) same
    ∙ ap (λ z. cued_by_read z cued) (header_is_read base loose ident size None left rest named few says)

pub cued_cluster : (cued : Bool) → cued_by cluster cued ≡ false
unfolding cued_by
cued_cluster cued = refl

pub cued_cues : (cued : Bool) → cued_by cues cued ≡ true
unfolding cued_by
cued_cues true = refl
cued_cues false = refl

pub cued_others : (ident : ℕ) (cued : Bool) → (ident == cluster) ≡ false → (ident == cues) ≡ false → cued_by ident cued ≡ cued
unfolding cued_by
cued_others ident true apart other = rw (apart) refl
cued_others ident false apart other = rw (apart, other) refl

pub told_inside : (place : Place) (text : List ℕ) (cued : Bool) → 0 < place.cluster + place.group → cued_behind place text cued ≡ cued
unfolding cued_behind
told_inside place text cued some = rw (inside_or place (either (cases_lt 0 place.group))) refl
  where
    either : (0 < place.group) ⊎ (place.group ≤ 0) → (0 < place.group) ⊎ (0 < place.cluster)
    either (inl more) = inl more
    either (inr none) = inr (omega (arith, some, none))
