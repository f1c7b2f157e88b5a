-- Frames that were found, and what is left of one that was not read to its end.
use Rattle.std.proofs.Common.{◌≡◌, ◌++◌, ◌∙◌, ℕ, List, Option, Some, None, Ok, take, inr, refl, sym, ap, arith}
use Rattle.ffv1_reads.specs.Reads.{Begins, Kept, Read, given, read_on, wanted}
use Rattle.ffv1_reads.proofs.Results.{cut_front, ok_is, read_on_ok}
use Rattle.ffv1_reads.proofs.WantedBytes.{wanted_sound}
use Rattle.ffv1_ebml.specs.Sums.{kept_summed, summed}
use Rattle.ffv1_ebml.specs.declared.sum.Sum.{Sum}
use Rattle.ffv1_matroska.specs.Files.{found_or_on, found_read, frame_found, frame_found_up_to, frame_read}
use Rattle.ffv1_matroska.specs.Places.{amount}
use Rattle.ffv1_matroska.specs.Segments.{header_read, segment_read, step_read}
use Rattle.ffv1_matroska.specs.Readers.{Leaves}
use Rattle.ffv1_matroska.specs.declared.place.Place.{Place}
use Rattle.ffv1_matroska.specs.declared.track.TrackNumbers.{TrackNumbers}

pub leaves_begun : (track : TrackNumbers) (place : Place) (old now : Option (List ℕ)) (size : ℕ) (after : Place) (bytes : List ℕ) → Read (frame_found track place) old now (Some (size, after)) → Begins now size bytes → Leaves track place old bytes
leaves_begun track place None now size after bytes read begins = tt
leaves_begun track place (Some text) None size after bytes read begins = absurd read.consumed
leaves_begun track place (Some text) (Some more) size after bytes read begins = inr (size, after, more, ap (frame_found track place) read.consumed ∙ read.is more, begins.0, begins.1, begins.2)

pub begins_all : (old new : Option (List ℕ)) (size : ℕ) (sum : Sum) (q : List ℕ × Sum) → Read (kept_summed size sum) old new q → Begins old size q.0
begins_all None new size sum q read = tt
begins_all (Some text) None size sum q read = absurd read.consumed
begins_all (Some text) (Some left) size sum q read =
    let first = read_on_ok (wanted Kept size (read.bytes ++ left)) (λ bytes. given (bytes, summed sum bytes)) (q, left) (read.is left) in
    let all = wanted_sound Kept size (read.bytes ++ left) first.0 first.1 in
    let same = ok_is ((first.0.0, summed sum first.0.0), first.0.1) (q, left) first.2 in
    let bytes : first.0.0 ≡ q.0 = ap (λ (z : (List ℕ × Sum) × List ℕ). z.0.0) same in
    (size, omega arith, sym bytes ∙ sym (cut_front size first.0.0 first.0.1 all.1) ∙ ap (λ z. take size z) (sym (read.consumed ∙ all.0)))

-- if nothing is left, there is no step and no frame
pub step_none : (track : TrackNumbers) (place : Place) → place.segment ≡ 0 → place.cluster ≡ 0 → place.group ≡ 0 → (text : List ℕ) → step_read track place text ≡ Ok (None, text)
unfolding step_read segment_read header_read
step_none track place segment cluster group text = rw (group, cluster, segment) refl

pub frame_ends : (track : TrackNumbers) (place : Place) → place.segment ≡ 0 → place.cluster ≡ 0 → place.group ≡ 0 → (text : List ℕ) → frame_read track place text ≡ Ok (None, text)
unfolding frame_found_up_to
frame_ends track place segment cluster group text =
    ap (λ z. read_on (read_on z (found_or_on (frame_found_up_to (amount place) track))) found_read) (step_none track place segment cluster group text)
