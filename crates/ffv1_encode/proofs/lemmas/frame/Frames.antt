-- Slices that are put one after the other.
use Rattle.std.proofs.Common.{◌≡◌, ◌⊎◌, ℕ, ◌+◌, ◌*◌, ◌<◌, ◌≤◌, Bool, List, [], ◌∷◌, ◌++◌, length, map, sym, ◌∙◌, ap, arith, subst, append_assoc, append-nil, inl, inr}
use Rattle.std.specs.Prelude.{ℤ, sum}
use Rattle.std.specs.List.{flat_map, range_with_len}
use Rattle.std.proofs.lemmas.Grind.{flat_map-append}
use Rattle.std.proofs.lemmas.Bool.{cases_lt}
use Rattle.std.proofs.lemmas.List.FromFn.{map-range_with_len_more}
use Rattle.std.proofs.lemmas.List.Sums.{sum_by_push}
use Rattle.ffv1_line.specs.Length.{row_decisions}
use Rattle.ffv1_slice.specs.Footer.{footer_of}
use Rattle.ffv1_slice.specs.Cutting.{joined_of}
use Rattle.ffv1_record.specs.Accepted.{Accepted}
use Rattle.ffv1_frame.specs.declared.frame_counts.FrameCounts.{FrameCounts}
use Rattle.ffv1_frame.specs.declared.fault.CodecFault.{CodecFault}
use Rattle.ffv1_frame.specs.Picture.{Planes}
use Rattle.ffv1_frame.specs.SliceList.{Said}
use Rattle.ffv1_frame.specs.Frame.{HasLongSlice, slice_bytes}
use Rattle.ffv1_frame.specs.Length.{slice_residuals, slice_renormalisations, frame_residuals, frame_counts}
use Rattle.ffv1_encode.proofs.lemmas.slice_body.Bodies.{range_more}
use Rattle.ffv1_frame.proofs.lemmas.Lengths.{decisions_append}

joined_append : (ec : Bool) (xs : List (List ℕ)) (ys : List ℕ) → joined_of ec (xs ++ (ys ∷ [])) ≡ joined_of ec xs ++ (ys ++ footer_of ec ys)
joined_append ec [] ys = append-nil (ys ++ footer_of ec ys)
joined_append ec (x ∷ xs) ys =
    ap (λ z. (x ++ footer_of ec x) ++ z) (joined_append ec xs ys) ∙ sym (append_assoc (x ++ footer_of ec x) (joined_of ec xs) (ys ++ footer_of ec ys))

pub joined_next : (ec : Bool) (f : ℕ → List ℕ) (n : ℕ) (old new : List ℕ) → old ≡ joined_of ec (map f (range_with_len 0 n)) → new ≡ old ++ (f n ++ footer_of ec (f n)) → new ≡ joined_of ec (map f (range_with_len 0 (n + 1)))
joined_next ec f n old new before is =
    is ∙ ap (λ z. z ++ (f n ++ footer_of ec (f n))) before ∙ sym (joined_append ec (map f (range_with_len 0 n)) (f n)) ∙ ap (joined_of ec) (sym (map-range_with_len_more f 0 n n (omega arith)))

pub sum_next : (f : ℕ → ℕ) (n total one : ℕ) → total ≡ sum (map f (range_with_len 0 n)) → one ≡ f n → total + one ≡ sum (map f (range_with_len 0 (n + 1)))
sum_next f n total one before is =
    let more = ap sum (map-range_with_len_more f 0 n n (omega arith)) in
    let last = sum_by_push (λ x. x) (map f (range_with_len 0 n)) (f n) in
    omega (arith, before, is, more, last)

pub residuals_next : (f : ℕ → List ℤ) (n total one : ℕ) → total ≡ row_decisions (flat_map f (range_with_len 0 n)) → one ≡ row_decisions (f n) → total + one ≡ row_decisions (flat_map f (range_with_len 0 (n + 1)))
residuals_next f n total one before is =
    let parts : flat_map f (range_with_len 0 (n + 1)) ≡ flat_map f (range_with_len 0 n) ++ f n =
    ap (flat_map f) (range_more n) ∙ flat_map-append f (range_with_len 0 n) (n ∷ []) ∙ ap (λ z. flat_map f (range_with_len 0 n) ++ z) (append-nil (f n)) in
    let more = ap row_decisions parts in
    let last = decisions_append (flat_map f (range_with_len 0 n)) (f n) in
    omega (arith, before, is, more, last)

-- what holds below a number, and of it
pub few_next : (f : ℕ → List ℕ) (most number : ℕ) → ((n : ℕ) → n < number → length (f n) ≤ most) → length (f number) ≤ most → (n : ℕ) → n < number + 1 → length (f n) ≤ most
few_next f most number below here n inside = elim (cases_lt n number) [
  | inl less ↦ below n less
  | inr other ↦
      let same : number ≡ n = omega (arith, other, inside) in
      subst (λ k. length (f k) ≤ most) same here
]

pub no_long_slice : (a : Accepted) (planes : Planes) (info : Said) → ((n : ℕ) → n < a.configuration.columns * a.configuration.rows → length (slice_bytes a planes info n) ≤ 16777215) → HasLongSlice a planes info → ⊥
no_long_slice a planes info few has = let short = few has.slice has.inside in absurd (omega (arith, short, has.long))

-- why a slice is refused, of its frame
pub long_slice : (a : Accepted) (planes : Planes) (info : Said) (n : ℕ) (f memory long : CodecFault) → n < a.configuration.columns * a.configuration.rows → (f ≡ memory) ⊎ ((f ≡ long) × (16777215 < length (slice_bytes a planes info n))) →
    (f ≡ memory) ⊎ ((f ≡ long) × HasLongSlice a planes info)
long_slice a planes info n f memory long inside (inl is) = inl is
long_slice a planes info n f memory long inside (inr is) = inr (is.0, record { slice = n; inside = inside; long = is.1 })

-- what was counted of some slices
pub counts_are : (a : Accepted) (planes : Planes) (info : Said) (n decisions renormalisations : ℕ) → n ≡ a.configuration.columns * a.configuration.rows →
    decisions ≡ row_decisions (flat_map (slice_residuals a.configuration planes info) (range_with_len 0 n)) → renormalisations ≡ sum (map (slice_renormalisations a planes info) (range_with_len 0 n)) →
    (let k : FrameCounts = record { decisions = decisions; renormalisations = renormalisations } in k ≡ frame_counts a planes info)
counts_are a planes info n decisions renormalisations all first second =
    let make : ℕ → ℕ → FrameCounts = λ x y. record { decisions = x; renormalisations = y } in
    ap (λ x. make x renormalisations) (first ∙ ap (λ k. row_decisions (flat_map (slice_residuals a.configuration planes info) (range_with_len 0 k))) all)
    ∙ ap (make (row_decisions (frame_residuals a.configuration planes info))) (second ∙ ap (λ k. sum (map (slice_renormalisations a planes info) (range_with_len 0 k))) all)
