-- What is noted of a Matroska file that was written.
use Rattle.std.proofs.Common.{◌≡◌, ◌<◌, ◌∙◌, ◌++◌, ℕ, Bool, true, false, not, nat_lt, Err, Ok, Option, Some, None, List, [], ◌∷◌, length, drop, ap, subst, inl, inr, refl, sym, arith}
use Rattle.std.proofs.lemmas.Bool.Decides.{nat_tests}
use Rattle.std.proofs.lemmas.Grind.{common_steps}
use Rattle.ffv1_reads.specs.Head.{Head}
use Rattle.ffv1_reads.specs.Offsets.{ReadsWhole}
use Rattle.ffv1_reads.specs.Reads.{Looked, Met, Short, Stop}
use Rattle.ffv1_reads.specs.declared.fault.FileFault.TheVariants as fault
use Rattle.ffv1_reads.proofs.FilesBehind.{few_are_read}
use Rattle.ffv1_reads.proofs.Results.{ok_is}
use Rattle.ffv1_avi.specs.Files.{others_read}
use Rattle.ffv1_avi.specs.declared.place.Extent.TheVariants.{EveryRiff}
use Rattle.ffv1_matroska.specs.Readers.{is_open, segment_behind}
use Rattle.ffv1_matroska.specs.Scales.{tick_in}
use Rattle.ffv1_matroska.specs.Times.{timed_taken, times_begun}
use Rattle.ffv1_matroska.specs.Written.{begun_of, cues_of, clusters_from, finish_of, finished_of, open_of, opening, tracks_element}
use Rattle.ffv1_matroska.specs.WrittenFiles.{IsWritable}
use Rattle.ffv1_matroska.specs.WrittenTimes.{ComeInTime, EndsWhole}
use Rattle.ffv1_matroska.specs.declared.place.Place.{Place as MatroskaPlace}
use Rattle.ffv1_matroska.specs.declared.times.Times.{Times}
use Rattle.ffv1_matroska.specs.declared.track.TrackNumbers.{TrackNumbers}
use Rattle.ffv1_matroska.specs.declared.track_entry.TrackEntry.{TrackEntry}
use Rattle.ffv1_matroska.proofs.WrittenForms.{first_byte}
use Rattle.ffv1_files.specs.Behind.{notes_told}
use Rattle.ffv1_files.specs.Noted.{IsNotedOf, RiffsEnd, SegmentEnds, bytes_before, no_notes}
use Rattle.ffv1_files.specs.Places.{InMatroska}
use Rattle.ffv1_files.specs.declared.container.Scope.TheVariants as scope
use Rattle.ffv1_files.specs.declared.notes.Notes.{Notes}

-- a Matroska file is no AVI
refused_first : (text : List ℕ) → (why : Stop) × (others_read EveryRiff (26 ∷ text) ≡ Err why)
unfolding others_read
refused_first text = on_long (nat_lt (length (26 ∷ text)) 12) refl
  where
    on_long : (b : Bool) → nat_lt (length (26 ∷ text)) 12 ≡ b → (why : Stop) × (others_read EveryRiff (26 ∷ text) ≡ Err why)
    on_long true short = (Short Looked, rw short refl)
    on_long false long = (Met fault.NotAvi (drop 12 (26 ∷ text)), rw long refl)

no_riff : (file : List ℕ) → ((more : List ℕ) × (file ≡ 26 ∷ more)) → (rest : List ℕ) (notes : Notes) → RiffsEnd file rest notes → ⊥
no_riff file (more, is) rest notes ends =
    let refused = refused_first more in
    absurd (cc (sym refused.1 ∙ ap (others_read EveryRiff) (sym is) ∙ ends.counts))

-- with nothing after the Segment
told_bare : (size : Option ℕ) (track : TrackNumbers) (to : MatroskaPlace) (end : ℕ) (cued : Bool) → notes_told None (InMatroska size track to) end cued None 0 0 false [] ≡ Ok (record no_notes { is_open = is_open size cued; others = track.others }, [])
unfolding notes_told segment_behind
told_bare None track to end cued = refl
told_bare (Some size) track to end cued = rw (few_are_read [] (omega arith)) refl

module _ (file : List ℕ) (size : Option ℕ) (cued : Bool) (in_time : ComeInTime file) (whole : EndsWhole file size cued) (rest : List ℕ) (notes : Notes) where
  none_off : (is : SegmentEnds file rest notes) → is.times.off ≡ None
  none_off is =
      let read = is.timed.read in
      let P : TrackNumbers → Type 0 = λ z. ReadsWhole (timed_taken z) (read.opened.place, times_begun (tick_in file)) (Some read.begun) (Some is.timed.behind) (is.timed.to, is.times) read.count in
      in_time read.opened read.begun is.timed.behind is.timed.to is.times read.count read.opens (subst P (sym read.numbers) read.elements)

  pub segment_noted : SegmentEnds file rest notes → (notes ≡ record no_notes { is_open = is_open size cued }) × (rest ≡ [])
  segment_noted is =
      let read = is.read in
      let ends = whole is.opened read.begun is.behind is.to is.cued read.count read.opens read.elements is.over in
      let track = is.opened.track.numbers in
      let before = bytes_before file is.behind in
      let told : notes_told None (InMatroska size track is.to) before cued None 0 0 false [] ≡ Ok (notes, rest) =
      sym (ap (λ o. notes_told o (InMatroska is.opened.segment track is.to) before is.cued None 0 0 false is.behind) (none_off is)
      ∙ ap (λ o. notes_told None (InMatroska o track is.to) before is.cued None 0 0 false is.behind) ends.0
      ∙ ap (λ b. notes_told None (InMatroska size track is.to) before b None 0 0 false is.behind) ends.2
      ∙ ap (λ z. notes_told None (InMatroska size track is.to) before cued None 0 0 false z) ends.3) ∙ is.noted in
      let same = ok_is (notes, rest) (record no_notes { is_open = is_open size cued; others = track.others }, []) (sym told ∙ told_bare size track is.to before cued) in
      let made : ℕ → Notes = λ n. record no_notes { is_open = is_open size cued; others = n } in
      (ap (λ (z : Notes × List ℕ). z.0) same ∙ ap made ends.1, ap (λ (z : Notes × List ℕ). z.1) same)

  pub whole_noted : ((more : List ℕ) × (file ≡ 26 ∷ more)) → IsNotedOf scope.Whole file rest notes → (notes ≡ record no_notes { is_open = is_open size cued }) × (rest ≡ [])
  whole_noted first (inl ends) = absurd (no_riff file first rest notes ends)
  whole_noted first (inr ends) = segment_noted ends

-- ---- the three forms

grown_first : (xs ys : List ℕ) → ((more : List ℕ) × (xs ≡ 26 ∷ more)) → (more : List ℕ) × (xs ++ ys ≡ 26 ∷ more)
grown_first xs ys (more, is) = (more ++ ys, ap (λ z. z ++ ys) is)

abbrev Ends : List ℕ → Option ℕ → Bool → Type 0
Ends file size cued = ComeInTime file × EndsWhole file size cued

abbrev NotedAs : List ℕ → Notes → Type 0
NotedAs file is = (rest : List ℕ) (notes : Notes) → IsNotedOf scope.Whole file rest notes → (notes ≡ is) × (rest ≡ [])

pub finished_noted : (head : Head) (details : TrackEntry) (frames : List (List ℕ)) → ComeInTime (finished_of head details frames) → EndsWhole (finished_of head details frames) (Some (finish_of head details frames).size) true → NotedAs (finished_of head details frames) no_notes
unfolding is_open
finished_noted head details frames in_time whole rest notes noted =
    let f = Some (finish_of head details frames) in
    let first = grown_first (opening head f ++ tracks_element head details ++ clusters_from 0 frames) (cues_of head details frames) (grown_first (opening head f ++ tracks_element head details) (clusters_from 0 frames) (first_byte head f (tracks_element head details))) in
    whole_noted (finished_of head details frames) (Some (finish_of head details frames).size) true in_time whole rest notes first noted

pub open_noted : (head : Head) (details : TrackEntry) (frames : List (List ℕ)) → ComeInTime (open_of head details frames) → EndsWhole (open_of head details frames) None true → NotedAs (open_of head details frames) no_notes
unfolding is_open
open_noted head details frames in_time whole rest notes noted =
    let first = grown_first (opening head None ++ tracks_element head details ++ clusters_from 0 frames) (cues_of head details frames) (grown_first (opening head None ++ tracks_element head details) (clusters_from 0 frames) (first_byte head None (tracks_element head details))) in
    whole_noted (open_of head details frames) None true in_time whole rest notes first noted

pub begun_noted : (head : Head) (details : TrackEntry) (frames : List (List ℕ)) → 0 < length frames → ComeInTime (begun_of head details frames) → EndsWhole (begun_of head details frames) None false → NotedAs (begun_of head details frames) (record no_notes { is_open = true })
unfolding is_open
begun_noted head details [] some in_time whole rest notes noted = absurd (omega (arith, some))
begun_noted head details (frame ∷ frames) some in_time whole rest notes noted =
    let first = grown_first (opening head None ++ tracks_element head details) (clusters_from 0 (frame ∷ frames)) (first_byte head None (tracks_element head details)) in
    whole_noted (begun_of head details (frame ∷ frames)) None false in_time whole rest notes first noted
