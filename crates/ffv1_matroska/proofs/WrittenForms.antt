-- The three forms of a written file, as they open and as their elements are read.
use Rattle.std.proofs.Common.{◌≡◌, ◌⊎◌, ◌<◌, ◌+◌, ◌-◌, ◌^◌, ◌∙◌, ◌++◌, ℕ, List, [], ◌∷◌, Bool, true, false, Option, Some, None, Ok, length, refl, sym, ap, subst, arith, inl, inr, append-nil, append_assoc, length-append}
use Rattle.std.proofs.lemmas.Bool.{cases_eq, ne_eqb}
use Rattle.ffv1_reads.specs.Head.{Head}
use Rattle.ffv1_reads.specs.Offsets.{ReadsWhole}
use Rattle.ffv1_reads.proofs.Results.{ok_is}
use Rattle.ffv1_ebml.specs.Spelled.{SaysSize, ident_length}
use Rattle.ffv1_ebml.proofs.SpelledLaws.{long_spelled, unknown_spelled}
use Rattle.ffv1_matroska.specs.Cues.{cued_behind, cued_taken}
use Rattle.ffv1_matroska.specs.Late.{again_read}
use Rattle.ffv1_matroska.specs.MatroskaFiles.{endless}
use Rattle.ffv1_matroska.specs.Opened.{Opened}
use Rattle.ffv1_matroska.specs.Scales.{tick_in}
use Rattle.ffv1_matroska.specs.Segments.{step_read}
use Rattle.ffv1_matroska.specs.Times.{timed_behind, timed_taken, times_begun}
use Rattle.ffv1_matroska.specs.Written.{begun_of, clusters_from, cues_element, cues_from, cues_of, ebml_header, finish_of, finished_of, frame_duration, open_of, opening, segment_size, tick_of, tracks_element}
use Rattle.ffv1_matroska.specs.WrittenFiles.{IsWritable}
use Rattle.ffv1_matroska.specs.WrittenPlaces.{stride_of}
use Rattle.ffv1_matroska.specs.WrittenTimes.{ComeInTime, EndsWhole}
use Rattle.ffv1_matroska.specs.declared.track_entry.TrackEntry.{TrackEntry}
use Rattle.ffv1_matroska.specs.declared.write.opening.Finish.{Finish}
use Rattle.ffv1_matroska.proofs.CarriedLaws.{carried_holds}
use Rattle.ffv1_matroska.proofs.PieceByPiece.{file_parts}
use Rattle.ffv1_matroska.proofs.WrittenBytes.{cues_are}
use Rattle.ffv1_matroska.proofs.WrittenClusters.{written_numbers}
use Rattle.ffv1_matroska.proofs.WrittenFile.{clusters_least, kept, kept_few}
use Rattle.ffv1_matroska.proofs.WrittenLengths.{checked_long, cues_from_long, cues_long}
use Rattle.ffv1_matroska.proofs.WrittenOpened.{OpensAt, counted, first_at, first_text, open_ended, opens_at, track_of}
use Rattle.ffv1_matroska.proofs.WrittenPhases.{Entered, IsFine, IsTail, after}
use Rattle.ffv1_matroska.proofs.WrittenTimed.{StandsCued, StandsTimed, cued_go_on, ends_cued, has, times_go_on}

-- a tick is a frame's duration, if that is known
tick_is : (head : Head) → (frame_duration head ≡ 0) ⊎ (tick_of head ≡ frame_duration head)
unfolding tick_of
tick_is head = elim (cases_eq (frame_duration head) 0) [
  | inl none ↦ inl none
  | inr some ↦ inr (rw (ne_eqb (frame_duration head) 0 some) refl)
]

module _ (file : List ℕ) (head : Head) (size : Option ℕ) (spare : ℕ) (frame : List ℕ) (frames : List (List ℕ)) (tail : Option (List ℕ)) (ends : (spare ≡ 0) ⊎ (open_ended size ≡ true)) (opens : OpensAt file head size spare frame frames tail) (fine : IsFine (Entered 0 frame frames tail)) where
  made : Opened
  made = record { track = track_of head; segment = size; place = first_at (open_ended size) spare frame frames tail }

  opened_so : (opened : Opened) (begun : List ℕ) → again_read file ≡ Ok (opened, begun) → ◌≡◌ {A = Opened × List ℕ} (record { track = track_of head; segment = size; place = first_at (open_ended size) spare frame frames tail }, first_text frame frames tail) (opened, begun)
  opened_so opened begun is = ok_is _ _ (sym opens.opens ∙ is)

  pub come_in_time : ComeInTime file
  unfolding timed_taken
  come_in_time opened begun left place times count is reads =
      let same = opened_so opened begun is in
      let duration = frame_duration head in
      let P : Opened × List ℕ → Type 0 = λ z. ReadsWhole (timed_taken z.0.track.numbers) (z.0.place, times_begun (tick_in file)) (Some z.1) (Some left) (place, times) count in
      let here = subst P (sym same) reads in
      let Q : ℕ → Type 0 = λ k. ReadsWhole (timed_taken (written_numbers duration)) (first_at (open_ended size) spare frame frames tail, times_begun k) (Some (first_text frame frames tail)) (Some left) (place, times) count in
      let from = subst Q opens.tick here in
      let start : StandsTimed (tick_of head) duration (tick_is head) (open_ended size) spare ends (first_at (open_ended size) spare frame frames tail) (first_text frame frames tail) (times_begun (tick_of head)) =
      (Entered 0 frame frames tail, refl, refl, fine, (record { ticks = refl; none = refl; counts = refl; begins = inl refl }, tt)) in
      let last = carried_holds (timed_behind (written_numbers duration)) (written_numbers duration) (StandsTimed (tick_of head) duration (tick_is head) (open_ended size) spare ends) (times_go_on (tick_of head) duration (tick_is head) (open_ended size) spare ends)
      (first_at (open_ended size) spare frame frames tail, times_begun (tick_of head)) (place, times) (first_text frame frames tail) left count from start in
      last.4.0.none

  pub ends_whole : EndsWhole file size (has tail)
  unfolding cued_taken
  ends_whole opened begun left place came count is reads over =
      let same = opened_so opened begun is in
      let duration = frame_duration head in
      let P : Opened × List ℕ → Type 0 = λ z. ReadsWhole (cued_taken z.0.track.numbers) (z.0.place, false) (Some z.1) (Some left) (place, came) count in
      let from = subst P (sym same) reads in
      let R : Opened × List ℕ → Type 0 = λ z. step_read z.0.track.numbers place left ≡ Ok (None, left) in
      let none = subst R (sym same) over in
      let start : StandsCued (open_ended size) spare ends duration (has tail) (first_at (open_ended size) spare frame frames tail) (first_text frame frames tail) false =
      (Entered 0 frame frames tail, refl, refl, fine, (refl, refl)) in
      let last = carried_holds cued_behind (written_numbers duration) (StandsCued (open_ended size) spare ends duration (has tail)) (cued_go_on (open_ended size) spare ends duration (has tail))
      (first_at (open_ended size) spare frame frames tail, false) (place, came) (first_text frame frames tail) left count from start in
      let end = ends_cued (open_ended size) spare ends duration (has tail) place left came last none in
      (ap (λ (z : Opened × List ℕ). z.0.segment) (sym same), ap (λ (z : Opened × List ℕ). z.0.track.numbers.others) (sym same), end.0, end.1)

-- ---- the three forms

pub record IsRight (file : List ℕ) (size : Option ℕ) (cued : Bool) : Type 0 where
  pub in_time : ComeInTime file
  pub whole : EndsWhole file size cued

right_with : (head : Head) (details : TrackEntry) (finish : Option Finish) (size : Option ℕ) (spare : ℕ) (frame : List ℕ) (frames : List (List ℕ)) (tail : Option (List ℕ)) → IsWritable head details (frame ∷ frames) → IsTail tail → SaysSize (segment_size finish) size → (spare ≡ 0) ⊎ (open_ended size ≡ true) →
    counted size ≡ 148 + (length (tracks_element head details) + (length (after 0 (frame ∷ frames) tail) + spare)) →
    IsRight (opening head finish ++ (tracks_element head details ++ after 0 (frame ∷ frames) tail)) size (has tail)
right_with head details finish size spare frame frames tail is tail_is says ends long_is =
    let file = opening head finish ++ (tracks_element head details ++ after 0 (frame ∷ frames) tail) in
    let opens = opens_at head details finish size spare frame frames tail is says long_is in
    let near = is.near in
    let least = clusters_least 0 (frame ∷ frames) in
    let few : 0 + length (frame ∷ frames) < 2 ^ 63 = omega (arith, near, least) in
    let fine : IsFine (Entered 0 frame frames tail) = (few, is.written, tail_is) in
    record {
      in_time = come_in_time file head size spare frame frames tail ends opens fine;
      whole = ends_whole file head size spare frame frames tail ends opens fine;
    }

at_file : (xs ys : List ℕ) (size : Option ℕ) (cued : Bool) → xs ≡ ys → IsRight xs size cued → IsRight ys size cued
at_file xs ys size cued e h = let P : List ℕ → Type 0 = λ z. IsRight z size cued in subst P e h

-- the content of Cues
abbrev cued_content : Head → TrackEntry → List (List ℕ) → List ℕ
cued_content head details frames = cues_from 0 (stride_of (length frames)) (kept head details frames)

cued_tail : (head : Head) (details : TrackEntry) (frames : List (List ℕ)) → IsWritable head details frames → IsTail (Some (cued_content head details frames))
cued_tail head details frames is =
    let few = kept_few head details frames is.near in
    let content = cued_content head details frames in
    (cues_are 0 (stride_of (length frames)) (kept head details frames), omega (arith, checked_long content, cues_from_long 0 (stride_of (length frames)) (kept head details frames), few))

-- Clusters and Cues
cued_after : (head : Head) (details : TrackEntry) (frames : List (List ℕ)) → after 0 frames (Some (cued_content head details frames)) ≡ clusters_from 0 frames ++ cues_of head details frames
unfolding cues_element
cued_after head details frames = refl

after_long : (head : Head) (details : TrackEntry) (frames : List (List ℕ)) → length (after 0 frames (Some (cued_content head details frames))) ≡ length (clusters_from 0 frames) + length (cues_of head details frames)
after_long head details frames = ap length (cued_after head details frames) ∙ length-append (clusters_from 0 frames) (cues_of head details frames)

whole_with : (head : Head) (details : TrackEntry) (finish : Option Finish) (frames : List (List ℕ)) → opening head finish ++ (tracks_element head details ++ after 0 frames (Some (cued_content head details frames))) ≡ opening head finish ++ (tracks_element head details ++ (clusters_from 0 frames ++ cues_of head details frames))
whole_with head details finish frames = ap (λ z. opening head finish ++ (tracks_element head details ++ z)) (cued_after head details frames)

pub finished_right : (head : Head) (details : TrackEntry) (frames : List (List ℕ)) → 0 < length frames → IsWritable head details frames → IsRight (finished_of head details frames) (Some (finish_of head details frames).size) true
finished_right head details [] some is = absurd (omega (arith, some))
finished_right head details (frame ∷ frames) some is =
    let all = frame ∷ frames in
    let f = finish_of head details all in
    let few = kept_few head details all is.near in
    let near = is.near in
    let last = cues_long (stride_of (length all)) (kept head details all) in
    let small : f.size < 2 ^ 56 - 1 = omega (arith, near, few, last) in
    let long_is : f.size ≡ 148 + (length (tracks_element head details) + (length (after 0 all (Some (cued_content head details all))) + 0)) = omega (arith, after_long head details all) in
    at_file _ _ (Some f.size) true (whole_with head details (Some f) all ∙ sym (file_parts (Some f) head details all))
    (right_with head details (Some f) (Some f.size) 0 frame frames (Some (cued_content head details all)) is (cued_tail head details all is) (long_spelled f.size small) (inl refl) long_is)

pub open_right : (head : Head) (details : TrackEntry) (frames : List (List ℕ)) → 0 < length frames → IsWritable head details frames → IsRight (open_of head details frames) None true
open_right head details [] some is = absurd (omega (arith, some))
open_right head details (frame ∷ frames) some is =
    let all = frame ∷ frames in
    let few = kept_few head details all is.near in
    let near = is.near in
    let last = cues_long (stride_of (length all)) (kept head details all) in
    let m = 148 + (length (tracks_element head details) + length (after 0 all (Some (cued_content head details all)))) in
    let less : m < endless = omega (arith, near, few, last, after_long head details all) in
    let long_is : endless ≡ 148 + (length (tracks_element head details) + (length (after 0 all (Some (cued_content head details all))) + (endless - m))) = omega (arith, less) in
    at_file _ _ None true (whole_with head details None all ∙ sym (file_parts None head details all))
    (right_with head details None None (endless - m) frame frames (Some (cued_content head details all)) is (cued_tail head details all is) unknown_spelled (inr refl) long_is)

begun_parts : (a b c : List ℕ) → a ++ (b ++ (c ++ [])) ≡ (a ++ b) ++ c
begun_parts a b c = simp (append_assoc, append-nil)

pub begun_right : (head : Head) (details : TrackEntry) (frames : List (List ℕ)) → 0 < length frames → IsWritable head details frames → IsRight (begun_of head details frames) None false
begun_right head details [] some is = absurd (omega (arith, some))
begun_right head details (frame ∷ frames) some is =
    let all = frame ∷ frames in
    let near = is.near in
    let long_of : length (after 0 all None) ≡ length (clusters_from 0 all) = ap length (append-nil (clusters_from 0 all)) in
    let m = 148 + (length (tracks_element head details) + length (after 0 all None)) in
    let less : m < endless = omega (arith, near, long_of) in
    let long_is : endless ≡ 148 + (length (tracks_element head details) + (length (after 0 all None) + (endless - m))) = omega (arith, less) in
    at_file _ _ None false (begun_parts (opening head None) (tracks_element head details) (clusters_from 0 all))
    (right_with head details None None (endless - m) frame frames None is tt unknown_spelled (inr refl) long_is)

-- a file begins with this byte
pub first_byte : (head : Head) (finish : Option Finish) (text : List ℕ) → (more : List ℕ) × (opening head finish ++ text ≡ 26 ∷ more)
unfolding opening ebml_header ident_length
first_byte head finish text = (_, refl)
