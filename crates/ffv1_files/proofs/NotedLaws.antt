-- What is noted of a file, by what its end is.
use Rattle.std.proofs.Common.{◌≡◌, ◌<◌, ℕ, Bool, true, false, not, List, [], ◌∷◌, Option, Some, None, Ok, length, refl, sym, ap, ◌∙◌, arith}
use Rattle.ffv1_reads.specs.Behind.{behind_read}
use Rattle.ffv1_reads.specs.Reads.{given}
use Rattle.ffv1_reads.proofs.FilesBehind.{few_are_read}
use Rattle.ffv1_reads.proofs.Results.{ok_is, read_on_ok}
use Rattle.ffv1_avi.specs.Behind.{IsOver}
use Rattle.ffv1_avi.specs.Places.{extent_of, is_open as is_open_in}
use Rattle.ffv1_avi.specs.declared.place.Extent.TheVariants.{EveryRiff}
use Rattle.ffv1_avi.specs.declared.place.Place.{Place as AviPlace}
use Rattle.ffv1_matroska.specs.Readers.{is_open, segment_behind}
use Rattle.ffv1_matroska.specs.declared.place.Place.{Place as MatroskaPlace}
use Rattle.ffv1_matroska.specs.declared.track.TrackNumbers.{TrackNumbers}
use Rattle.ffv1_files.specs.Behind.{noted, notes_told}
use Rattle.ffv1_files.specs.Noted.{RiffsEnd, SegmentEnds, bytes_before, no_notes, repeated_in, stands_after}
use Rattle.ffv1_files.specs.Places.{InMatroska}
use Rattle.ffv1_files.specs.declared.notes.Notes.{Notes}

-- of an AVI
abbrev avi_with : Bool → List ℕ → ℕ → List (List ℕ) → List ℕ → Notes
avi_with open_ended file others frames behind = record { is_open = open_ended; others = others; times = None; repeated = repeated_in frames; after = stands_after file behind }

pub avi_bare : (file rest : List ℕ) (notes : Notes) (is : RiffsEnd file rest notes) → is.behind ≡ [] → notes ≡ record no_notes { is_open = is_open_in is.to.open_in; others = is.others; repeated = repeated_in is.frames }
avi_bare file rest notes is none = is.notes_are ∙ ap (avi_with (is_open_in is.to.open_in) file is.others is.frames) none

pub avi_repeated : (file rest : List ℕ) (notes : Notes) (is : RiffsEnd file rest notes) → notes.repeated ≡ repeated_in is.frames
avi_repeated file rest notes is = ap (λ (n : Notes). n.repeated) is.notes_are

-- no bytes stand after an RIFF or a movi without size
abbrev pub OpenEnds : Type 0
OpenEnds = (place : AviPlace) (text rest : List ℕ) → is_open_in place.open_in ≡ true → extent_of place ≡ EveryRiff → IsOver place.open_in place text rest → (text ≡ []) × (rest ≡ [])

pub avi_open : OpenEnds → (file rest : List ℕ) (notes : Notes) (is : RiffsEnd file rest notes) → is_open_in is.to.open_in ≡ true → (notes.is_open ≡ true) × (notes.after ≡ None) × (is.behind ≡ []) × (rest ≡ [])
avi_open ends file rest notes is unknown =
    let none = ends is.to is.behind rest unknown is.every is.over in
    (ap (λ (n : Notes). n.is_open) is.notes_are ∙ unknown, ap (λ (n : Notes). n.after) is.notes_are ∙ ap (stands_after file) none.0, none.0, none.1)

pub avi_others : OpenEnds → (file rest : List ℕ) (notes : Notes) (is : RiffsEnd file rest notes) → 0 < length is.behind → (notes.is_open ≡ false) × (notes.after ≡ Some (bytes_before file is.behind))
avi_others ends file rest notes is some = (ap (λ (n : Notes). n.is_open) is.notes_are ∙ shut (is_open_in is.to.open_in) refl, ap (λ (n : Notes). n.after) is.notes_are ∙ stand is.behind some)
  where
    stand : (bytes : List ℕ) → 0 < length bytes → stands_after file bytes ≡ Some (bytes_before file bytes)
    stand [] some = absurd (omega (arith, some))
    stand (b ∷ bs) some = refl

    shut : (b : Bool) → is_open_in is.to.open_in ≡ b → is_open_in is.to.open_in ≡ false
    shut false p = p
    shut true p = absurd (omega (arith, some, ap length (ends is.to is.behind rest p is.every is.over).0))

-- of a Segment whose size is known
abbrev Told : Option ℕ → ℕ → ℕ → Bool → ℕ → List ℕ → List ℕ → Notes → Type 0
Told times others size cued end behind rest notes = (some : Bool) × (behind_read behind ≡ Ok (some, rest)) × (notes ≡ noted times others (Some size) cued end some)

size_told : (times : Option ℕ) (size : ℕ) (track : TrackNumbers) (to : MatroskaPlace) (end : ℕ) (cued : Bool) (behind rest : List ℕ) (notes : Notes) → notes_told times (InMatroska (Some size) track to) end cued None 0 0 false behind ≡ Ok (notes, rest) → Told times track.others size cued end behind rest notes
unfolding notes_told segment_behind
size_told times size track to end cued behind rest notes h =
    let first = read_on_ok (behind_read behind) (λ some. given (noted times track.others (Some size) cued end some)) (notes, rest) h in
    let both = ok_is (noted times track.others (Some size) cued end first.0.0, first.0.1) (notes, rest) first.2 in
    let left : first.0.1 ≡ rest = ap (λ (z : Notes × List ℕ). z.1) both in
    (first.0.0, first.1 ∙ ap (λ z. Ok (first.0.0, z)) left, sym (ap (λ (z : Notes × List ℕ). z.0) both))

module _ (file rest : List ℕ) (notes : Notes) (is : SegmentEnds file rest notes) where
  segment_told : (size : ℕ) → is.opened.segment ≡ Some size → Told is.times.off is.opened.track.numbers.others size is.cued (bytes_before file is.behind) is.behind rest notes
  segment_told size has = size_told is.times.off size is.opened.track.numbers is.to (bytes_before file is.behind) is.cued is.behind rest notes
      (sym (ap (λ (z : Option ℕ). notes_told is.times.off (InMatroska z is.opened.track.numbers is.to) (bytes_before file is.behind) is.cued None 0 0 false is.behind) has) ∙ is.noted)

  pub segment_bare : (size : ℕ) → is.opened.segment ≡ Some size → is.behind ≡ [] → notes ≡ record no_notes { others = is.opened.track.numbers.others; times = is.times.off }
  unfolding is_open
  segment_bare size has none = on_told (segment_told size has)
    where
      on_told : Told is.times.off is.opened.track.numbers.others size is.cued (bytes_before file is.behind) is.behind rest notes → notes ≡ record no_notes { others = is.opened.track.numbers.others; times = is.times.off }
      on_told (false, read, are) = are
      on_told (true, read, are) =
          let nothing : behind_read is.behind ≡ Ok (false, []) = ap behind_read none ∙ few_are_read [] (omega arith) in
          let other : true ≡ false = ap (λ (z : Bool × List ℕ). z.0) (ok_is (true, rest) (false, []) (sym read ∙ nothing)) in
          absurd (cc)

  pub segment_others : ((text more : List ℕ) → behind_read text ≡ Ok (false, more) → text ≡ []) → (size : ℕ) → is.opened.segment ≡ Some size → 0 < length is.behind → (notes.is_open ≡ false) × (notes.after ≡ Some (bytes_before file is.behind))
  unfolding is_open
  segment_others nothing size has some = on_told (segment_told size has)
    where
      on_told : Told is.times.off is.opened.track.numbers.others size is.cued (bytes_before file is.behind) is.behind rest notes → (notes.is_open ≡ false) × (notes.after ≡ Some (bytes_before file is.behind))
      on_told (true, read, are) = (ap (λ (n : Notes). n.is_open) are, ap (λ (n : Notes). n.after) are)
      on_told (false, read, are) = absurd (omega (arith, some, ap length (nothing is.behind rest read)))

-- of one whose size is unknown
open_told : (times : Option ℕ) (track : TrackNumbers) (to : MatroskaPlace) (end : ℕ) (cued : Bool) (behind rest : List ℕ) (notes : Notes) → notes_told times (InMatroska None track to) end cued None 0 0 false behind ≡ Ok (notes, rest) → (notes.is_open ≡ not cued) × (notes.after ≡ None) × (rest ≡ behind)
unfolding notes_told segment_behind is_open
open_told times track to end cued behind rest notes h =
    let both = ok_is (noted times track.others None cued end false, behind) (notes, rest) h in
    let are : noted times track.others None cued end false ≡ notes = ap (λ (z : Notes × List ℕ). z.0) both in
    (sym (ap (λ (n : Notes). n.is_open) are), sym (ap (λ (n : Notes). n.after) are), sym (ap (λ (z : Notes × List ℕ). z.1) both))

pub segment_unknown : (file rest : List ℕ) (notes : Notes) (is : SegmentEnds file rest notes) → is.opened.segment ≡ None → (notes.is_open ≡ not is.cued) × (notes.after ≡ None) × (rest ≡ is.behind)
segment_unknown file rest notes is none = open_told is.times.off is.opened.track.numbers is.to (bytes_before file is.behind) is.cued is.behind rest notes
    (sym (ap (λ (z : Option ℕ). notes_told is.times.off (InMatroska z is.opened.track.numbers is.to) (bytes_before file is.behind) is.cued None 0 0 false is.behind) none) ∙ is.noted)

-- of any, no frame repeats another
any_repeated : (times : Option ℕ) (size : Option ℕ) (track : TrackNumbers) (to : MatroskaPlace) (end : ℕ) (cued : Bool) (behind rest : List ℕ) (notes : Notes) → notes_told times (InMatroska size track to) end cued None 0 0 false behind ≡ Ok (notes, rest) → notes.repeated ≡ 0
unfolding notes_told
any_repeated times size track to end cued behind rest notes h =
    let first = read_on_ok (segment_behind size behind) (λ some. given (noted times track.others size cued end some)) (notes, rest) h in
    sym (ap (λ (z : Notes × List ℕ). z.0.repeated) (ok_is (noted times track.others size cued end first.0.0, first.0.1) (notes, rest) first.2))

pub segment_repeated : (file rest : List ℕ) (notes : Notes) → SegmentEnds file rest notes → notes.repeated ≡ 0
segment_repeated file rest notes is = any_repeated is.times.off is.opened.segment is.opened.track.numbers is.to (bytes_before file is.behind) is.cued is.behind rest notes is.noted

-- and so many further tracks are FFV1 video
any_others : (times : Option ℕ) (size : Option ℕ) (track : TrackNumbers) (to : MatroskaPlace) (end : ℕ) (cued : Bool) (behind rest : List ℕ) (notes : Notes) → notes_told times (InMatroska size track to) end cued None 0 0 false behind ≡ Ok (notes, rest) → notes.others ≡ track.others
unfolding notes_told
any_others times size track to end cued behind rest notes h =
    let first = read_on_ok (segment_behind size behind) (λ some. given (noted times track.others size cued end some)) (notes, rest) h in
    sym (ap (λ (z : Notes × List ℕ). z.0.others) (ok_is (noted times track.others size cued end first.0.0, first.0.1) (notes, rest) first.2))

pub segment_tracks : (file rest : List ℕ) (notes : Notes) (is : SegmentEnds file rest notes) → notes.others ≡ is.opened.track.numbers.others
segment_tracks file rest notes is = any_others is.times.off is.opened.segment is.opened.track.numbers is.to (bytes_before file is.behind) is.cued is.behind rest notes is.noted

pub avi_streams : (file rest : List ℕ) (notes : Notes) (is : RiffsEnd file rest notes) → notes.others ≡ is.others
avi_streams file rest notes is = ap (λ (n : Notes). n.others) is.notes_are

-- and which frame comes too early or too late
any_times : (times : Option ℕ) (size : Option ℕ) (track : TrackNumbers) (to : MatroskaPlace) (end : ℕ) (cued : Bool) (behind rest : List ℕ) (notes : Notes) → notes_told times (InMatroska size track to) end cued None 0 0 false behind ≡ Ok (notes, rest) → notes.times ≡ times
unfolding notes_told
any_times times size track to end cued behind rest notes h =
    let first = read_on_ok (segment_behind size behind) (λ some. given (noted times track.others size cued end some)) (notes, rest) h in
    sym (ap (λ (z : Notes × List ℕ). z.0.times) (ok_is (noted times track.others size cued end first.0.0, first.0.1) (notes, rest) first.2))

pub segment_times : (file rest : List ℕ) (notes : Notes) (is : SegmentEnds file rest notes) → notes.times ≡ is.times.off
segment_times file rest notes is = any_times is.times.off is.opened.segment is.opened.track.numbers is.to (bytes_before file is.behind) is.cued is.behind rest notes is.noted

pub avi_untimed : (file rest : List ℕ) (notes : Notes) → RiffsEnd file rest notes → notes.times ≡ None
avi_untimed file rest notes is = ap (λ (n : Notes). n.times) is.notes_are
