-- Where nothing stands behind a Segment, no bytes are noted there.
use Rattle.std.proofs.Common.{◌≡◌, refl, ℕ, true, false, Option, Some, None, Ok, List, [], ◌∷◌, ap, sym, ◌∙◌}
use Rattle.ffv1_reads.specs.Reads.{given}
use Rattle.ffv1_reads.proofs.Results.{ok_is, read_on_ok}
use Rattle.ffv1_avi.specs.Files as avi
use Rattle.ffv1_avi.specs.declared.place.Place.{Place as AviPlace}
use Rattle.ffv1_matroska.specs.Files as matroska
use Rattle.ffv1_matroska.specs.declared.place.Place.{Place as MatroskaPlace}
use Rattle.ffv1_matroska.specs.declared.track.TrackNumbers.{TrackNumbers}
use Rattle.ffv1_files.specs.Behind.{notes_of, notes_told}
use Rattle.ffv1_files.specs.Files.{avi_place, frame_read, matroska_place}
use Rattle.ffv1_files.specs.Places.{InAvi, InMatroska, Place, container_of}
use Rattle.ffv1_files.specs.Readers.{Standing}
use Rattle.ffv1_files.specs.declared.notes.Notes.{Notes}
use Rattle.ffv1_files.proofs.Behinds.{nothing_behind}
use Rattle.ffv1_unpack.specs.Internal.Containers.{is_segment}
use Rattle.ffv1_unpack.specs.Stream.{ReadsFrames}

abbrev place_in : Place → Option (List ℕ × Place) → Place
place_in other None = other
place_in other (Some p) = p.1

-- the place after a frame is in the container that the frame is in
avi_stays : (o : Option (List ℕ × AviPlace)) (bytes : List ℕ) (after : Place) → avi_place o ≡ Some (bytes, after) → is_segment (container_of after) ≡ false
avi_stays None bytes after e = absurd (cc)
avi_stays (Some p) bytes after e = ap (λ (z : Option (List ℕ × Place)). is_segment (container_of (place_in after z))) (sym e)

segment_stays : (segment : Option ℕ) (track : TrackNumbers) (o : Option (List ℕ × MatroskaPlace)) (bytes : List ℕ) (after : Place) → matroska_place segment track o ≡ Some (bytes, after) → is_segment (container_of after) ≡ true
segment_stays segment track None bytes after e = absurd (cc)
segment_stays segment track (Some p) bytes after e = ap (λ (z : Option (List ℕ × Place)). is_segment (container_of (place_in after z))) (sym e)

frame_stays : (place : Place) (text : List ℕ) (bytes : List ℕ) (after : Place) (rest : List ℕ) → frame_read place text ≡ Ok (Some (bytes, after), rest) → is_segment (container_of after) ≡ is_segment (container_of place)
unfolding frame_read
frame_stays (InAvi place) text bytes after rest h =
    let first = read_on_ok (avi.frame_read place text) (λ o. given (avi_place o)) (Some (bytes, after), rest) h in
    avi_stays first.0.0 bytes after (ap (λ (z : Option (List ℕ × Place) × List ℕ). z.0) (ok_is (avi_place first.0.0, first.0.1) (Some (bytes, after), rest) first.2))
frame_stays (InMatroska segment track place) text bytes after rest h =
    let first = read_on_ok (matroska.frame_read track place text) (λ o. given (matroska_place segment track o)) (Some (bytes, after), rest) h in
    segment_stays segment track first.0.0 bytes after (ap (λ (z : Option (List ℕ × Place) × List ℕ). z.0) (ok_is (matroska_place segment track first.0.0, first.0.1) (Some (bytes, after), rest) first.2))

pub frames_stay : (from : Place) (text : List ℕ) (frames : List (List ℕ)) (to : Place) (rest : List ℕ) → ReadsFrames from text frames to rest → is_segment (container_of to) ≡ is_segment (container_of from)
frames_stay from text [] to rest h = ap (λ (z : Place). is_segment (container_of z)) h.0
frames_stay from text (f ∷ fs) to rest h = frames_stay h.0 h.1 fs to rest h.3 ∙ frame_stays from text f h.0 h.1 h.2

-- so none are noted there
none_at : (r : Standing) (place : Place) (notes : Notes) (rest : List ℕ) → is_segment (container_of place) ≡ true → notes_told r.times.off place r.end r.cued r.after r.repeated r.others r.open_ended [] ≡ Ok (notes, rest) → notes.after ≡ None
unfolding notes_told
none_at r (InAvi place) notes rest is h = absurd (let no : false ≡ true = is in cc)
none_at r (InMatroska segment track place) notes rest is h =
    let nothing = nothing_behind (record { head = r.head; place = InMatroska segment track place; offset = r.offset; fault = r.fault; room = r.room; end = r.end; cued = r.cued; after = None; repeated = r.repeated; others = r.others; times = r.times; open_ended = r.open_ended }) in
    let both : (notes, rest) ≡ (nothing.0, []) = ok_is (notes, rest) (nothing.0, []) (sym h ∙ nothing.1) in
    ap (λ (z : Notes × List ℕ). z.0.after) both ∙ nothing.2 refl

pub none_noted : (r : Standing) (notes : Notes) (rest : List ℕ) → is_segment (container_of r.place) ≡ true → notes_of r [] ≡ Ok (notes, rest) → notes.after ≡ None
none_noted r notes rest is h = none_at r r.place notes rest is h
