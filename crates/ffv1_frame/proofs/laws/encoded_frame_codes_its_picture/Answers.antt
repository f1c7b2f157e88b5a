-- The payload that an encoder writes of a picture codes the picture, if no slice has more coded
-- bytes than its footer can say.
use Rattle.std.proofs.Common.{◌≡◌, ℕ, zero, suc, ◌+◌, ◌*◌, ◌<◌, ◌≤◌, List, [], length, map}
use Rattle.std.proofs.Common.{slice_get, Some, arith, subst, sym, ap, ◌∙◌, inl, inr}
use Rattle.std.specs.List.{range_with_len}
use Rattle.std.proofs.lemmas.Bool.{cases_lt}
use Rattle.std.proofs.lemmas.List.FromFn.{length-map-range_with_len}
use Rattle.ffv1_range.specs.Codes.{AreBytes}
use Rattle.ffv1_range.specs.Interval.{interval_of}
use Rattle.ffv1_range.specs.History.{decisions_after}
use Rattle.ffv1_record.specs.Accepted.{Accepted}
use Rattle.ffv1_slice.specs.Footer.{foot_length}
use Rattle.ffv1_slice.specs.Cutting.{AreCodedBytes, coded_of, offset_in}
use Rattle.ffv1_frame.specs.Picture.{Planes, cell_in}
use Rattle.ffv1_frame.specs.SliceList.{Said, chosen_slice, chosen_head, chosen_body}
use Rattle.ffv1_frame.specs.CodedSlice.{CodesSlice}
use Rattle.ffv1_frame.proofs.lemmas.Coders.{by_range}
use Rattle.ffv1_frame.specs.SliceList.{lines_in}
use Rattle.ffv1_frame.specs.Frame.{HasLongSlice, slice_bytes, slices_bytes, frame_of}
use Rattle.ffv1_frame.proofs.lemmas.Aspects.{said_chosen}
use Rattle.ffv1_frame.proofs.laws.encoded_frame_codes_its_picture.Goals as goal

coded_list : (f : ℕ → List ℕ) (from count : ℕ) → ((n : ℕ) → AreBytes (f n)) →
    ((n : ℕ) → from ≤ n → n < from + count → length (f n) ≤ 16777215) → AreCodedBytes
    (map f (range_with_len from count))
coded_list f from zero bytes few = tt
coded_list f from (suc count) bytes few = (
  bytes from,
  few from (omega arith) (omega arith),
  coded_list f (from + 1) count bytes
      (λ n least most. few n (omega (arith, least)) (omega (arith, most))),
)

at_number : (f : ℕ → List ℕ) (from count n : ℕ) → n < count → slice_get
    (map f (range_with_len from count)) n ≡ Some (f (from + n))
at_number f from zero n inside = absurd (omega (arith, inside))
at_number f from (suc count) zero inside = ap (λ k. Some (f k))
    (let same : from ≡ from + 0 = omega arith in same)
at_number f from (suc count) (suc n) inside =
    let place : from + 1 + n ≡ from + suc n = omega arith in
    at_number f (from + 1) count n (omega (arith, inside)) ∙ ap (λ k. Some (f k)) place

same_some : (xs ys : List ℕ) → Some xs ≡ Some ys → xs ≡ ys
same_some xs ys e = cc

not_long : (a : Accepted) (planes : Planes) (info : Said) (n : ℕ) →
    (HasLongSlice a planes info → ⊥) → n < a.configuration.columns * a.configuration.rows → length
    (slice_bytes a planes info n) ≤ 16777215
not_long a planes info n none inside = elim (cases_lt 16777215
    (length (slice_bytes a planes info n))) [
      | inl long ↦ absurd (none (record { slice = n; inside = inside; long = long }))
      | inr few ↦ omega (arith, few)
    ]

pub returns : goal.returns
returns c = λ a planes info is range picture said none.
    let conf = a.configuration in
    let count : ℕ = conf.columns * conf.rows in
    let f : ℕ → List ℕ = slice_bytes a planes info in
    let codes = slices_bytes a planes info in
    let bytes : (n : ℕ) → AreBytes (f n) = λ n. c.sentinel_ending_codes_its_list.ensures.bytes
    (interval_of (decisions_after a.table [] (chosen_slice conf planes info n))) in
    let are : AreCodedBytes codes = coded_list f 0 count bytes
    (λ n least most. not_long a planes info n none (omega (arith, most))) in
    let many : length codes ≡ count = length-map-range_with_len f 0 count in
    let coded = c.slices_are_cut_where_joined.ensures.coded conf.ec codes are in
    record {
      picture = picture;
      spans = offset_in conf.ec codes;
      cuts = c.slices_are_cut_where_joined.ensures.cuts conf codes are many;
      slices = λ n inside.
          let here : f n ≡ coded_of (frame_of a planes info) (foot_length conf.ec)
          (offset_in conf.ec codes) n =
          ap f (let same : n ≡ 0 + n = omega arith in same)
          ∙ same_some _ _ (sym (at_number f 0 count n inside) ∙ coded.each n (rw many inside)) in
          let head = chosen_head conf info in
          let steps = chosen_slice conf planes info n in
          let slice : CodesSlice (f n) a planes info n = record {
            head = head;
            is_head = c.chosen_slices_suit_their_picture.ensures.head a info is said;
            says = said_chosen a.profile conf info said.aspect;
            body = chosen_body conf head (cell_in conf planes n) (lines_in conf n);
            is_body = by_range range (c.chosen_slices_suit_their_picture.ensures.body a planes info n is picture);
            codes = c.sentinel_ending_codes_its_list.ensures.codes
                (decisions_after a.table [] steps)
                (c.each_decision_has_a_state.ensures.named a.table [] steps is.closed);
            ending = by_range range (record {
              ended = λ wide. c.ended_bytes_are_near_the_sentinel_ending.ensures.sentinel
                  (decisions_after a.table [] steps)
                  (c.each_decision_has_a_state.ensures.named a.table [] steps is.closed);
            });
          } in
          subst (λ bs. CodesSlice bs a planes info n) here slice;
    }
