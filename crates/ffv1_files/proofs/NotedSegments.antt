-- What is noted of a Matroska file is told by its bytes: its elements end in one place.
use Rattle.std.proofs.Common.{◌≡◌, ◌⊎◌, ℕ, Bool, false, Some, None, Ok, List, inl, refl, sym, ap, ◌∙◌}
use Rattle.ffv1_reads.specs.Offsets.{ReadsWhole}
use Rattle.ffv1_reads.proofs.Results.{ok_is}
use Rattle.ffv1_matroska.specs.Cues.{cued_behind, cued_taken}
use Rattle.ffv1_matroska.specs.Offsets.{element_taken}
use Rattle.ffv1_matroska.specs.Opened.{Opened}
use Rattle.ffv1_matroska.specs.Segments.{header_read, segment_read, step_read}
use Rattle.ffv1_matroska.specs.declared.place.Place.{Place}
use Rattle.ffv1_matroska.specs.declared.track.TrackNumbers.{TrackNumbers}
use Rattle.ffv1_files.specs.Behind.{notes_told}
use Rattle.ffv1_files.specs.Noted.{SegmentEnds, bytes_before}
use Rattle.ffv1_files.specs.Places.{InMatroska}
use Rattle.ffv1_files.specs.declared.notes.Notes.{Notes}
use Rattle.ffv1_matroska.proofs.LastSteps.{IsLast, step_last}
use Rattle.ffv1_files.proofs.NotedOnce.{reads_once}
use Rattle.ffv1_files.proofs.NotedTimes.{times_once}

-- no element comes there
abbrev Last : Place × Bool → List ℕ → Type 0
Last s text = IsLast s.0 text text

abbrev Nowhere : Place × Bool → Type 0
Nowhere s = ⊥

last_stops : (track : TrackNumbers) (s next : Place × Bool) (text more : List ℕ) → Last s text → cued_taken track s text ≡ Ok (next, more) → ((next ≡ s) × (more ≡ text)) ⊎ Nowhere next
unfolding cued_taken element_taken step_read segment_read cued_behind header_read
last_stops track s next text more h read =
    let there : cued_taken track s text ≡ Ok (s, text) = rw (h.group, h.cluster, h.header) refl in
    let both = ok_is (s, text) (next, more) (sym there ∙ read) in
    inl (sym (ap (λ (z : (Place × Bool) × List ℕ). z.0) both), sym (ap (λ (z : (Place × Bool) × List ℕ). z.1) both))

pub segments_once : (file rest left : List ℕ) (notes others : Notes) → SegmentEnds file rest notes → SegmentEnds file left others → (notes ≡ others) × (rest ≡ left)
segments_once file rest left notes others h k =
    let opens = ok_is (h.opened, h.read.begun) (k.opened, k.read.begun) (sym h.read.opens ∙ k.read.opens) in
    let opened : h.opened ≡ k.opened = ap (λ (z : Opened × List ℕ). z.0) opens in
    let begun : h.read.begun ≡ k.read.begun = ap (λ (z : Opened × List ℕ). z.1) opens in
    let track : TrackNumbers = h.opened.track.numbers in
    let there = step_last track h.to h.behind h.behind h.over in
    let here = step_last k.opened.track.numbers k.to k.behind k.behind k.over in
    let moved : ReadsWhole (cued_taken track) (h.opened.place, false) (Some h.read.begun) (Some k.behind) (k.to, k.cued) k.read.count = rw (opened, begun) k.read.elements in
    let end = reads_once (cued_taken track) Last Nowhere (last_stops track) (λ s next text more dead is. absurd dead) (λ s text dead is. absurd dead) h.read.begun h.behind k.behind h.read.elements there moved here in
    let to : h.to ≡ k.to = ap (λ (z : Place × Bool). z.0) end.0 in
    let cued : h.cued ≡ k.cued = ap (λ (z : Place × Bool). z.1) end.0 in
    let times : h.times ≡ k.times = times_once file h.times k.times h.timed k.timed in
    let same : notes_told h.times.off (InMatroska h.opened.segment h.opened.track.numbers h.to) (bytes_before file h.behind) h.cued None 0 0 false h.behind ≡ notes_told k.times.off (InMatroska k.opened.segment k.opened.track.numbers k.to) (bytes_before file k.behind) k.cued None 0 0 false k.behind = rw (opened, to, cued, times, end.1) refl in
    let both = ok_is (notes, rest) (others, left) (sym h.noted ∙ same ∙ k.noted) in
    (ap (λ (z : Notes × List ℕ). z.0) both, ap (λ (z : Notes × List ℕ). z.1) both)
