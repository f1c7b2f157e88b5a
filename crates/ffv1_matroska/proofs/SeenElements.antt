-- What is seen of elements beside their frames, by the calls of which each element is made; and what
-- of it is told of Cues, and of times.
use Rattle.std.proofs.Common.{◌≡◌, ◌∙◌, ◌++◌, ℕ, Bool, true, List, [], ◌∷◌, Option, Some, None, Ok, refl, ap, subst, append_assoc}
use Rattle.ffv1_wire.specs.Passage.{Passage}
use Rattle.ffv1_wire.proofs.Bytes.{consumes_then}
use Rattle.ffv1_reads.specs.Offsets.{Leads, ReadsWhole}
use Rattle.ffv1_reads.specs.Reads.{Read, Reading, given, read_on}
use Rattle.ffv1_reads.proofs.Results.{ok_is, read_on_ok}
use Rattle.ffv1_ebml.specs.Sums.{kept_summed}
use Rattle.ffv1_ebml.specs.declared.sum.Sum.{Sum}
use Rattle.ffv1_matroska.specs.Carried.{EndsCarried}
use Rattle.ffv1_matroska.specs.Cues.{CuedStep, cued_behind, cued_taken}
use Rattle.ffv1_matroska.specs.Offsets.{element_taken}
use Rattle.ffv1_matroska.specs.Places.{frame_at, is_sound, summed_at}
use Rattle.ffv1_matroska.specs.Seen.{SeenStep, seen_behind, seen_taken}
use Rattle.ffv1_matroska.specs.Times.{timed_behind, timed_by, timed_taken}
use Rattle.ffv1_matroska.specs.declared.place.Place.{Place}
use Rattle.ffv1_matroska.specs.declared.place.Step.{Step}
use Rattle.ffv1_matroska.specs.declared.times.Seen.{Seen}
use Rattle.ffv1_matroska.specs.declared.times.Times.{Times}
use Rattle.ffv1_matroska.specs.declared.track.TrackNumbers.{TrackNumbers}

-- what was read on to says of times what is known behind it
pub seen_step : (track : TrackNumbers) (place : Place) (seen : Seen) (cued : Bool) (s : Step) (a b : Option (List ℕ)) → CuedStep track (place, seen.cued) a b s cued → SeenStep track (place, seen) a b s (record { cued = cued; times = timed_by track.duration s seen.times })
unfolding seen_behind timed_behind
seen_step track place seen cued s a b h = record {
  bytes = h.bytes;
  consumed = h.consumed;
  is = h.is;
  seen_is = λ rest. rw (h.cued_is rest, h.is rest) refl;
}

-- an element without a frame
on_frame : (track : TrackNumbers) (place now : Place) (seen then : Seen) (frame time : Option ℕ) (a b : Option (List ℕ)) → frame ≡ None → SeenStep track (place, seen) a b (record { frame = frame; time = time; place = now }) then → Read (seen_taken track (place, seen)) a b (now, then)
unfolding seen_taken element_taken
on_frame track place now seen then None time a b is read = record { bytes = read.bytes; consumed = read.consumed; is = λ rest. rw (read.is rest, read.seen_is rest) refl }
on_frame track place now seen then (Some n) time a b is read = absurd (cc)

pub seen_read : (track : TrackNumbers) (place : Place) (seen then : Seen) (s : Step) (a b : Option (List ℕ)) → s.frame ≡ None → SeenStep track (place, seen) a b s then → Read (seen_taken track (place, seen)) a b (s.place, then)
seen_read track place seen then s a b is read = on_frame track place s.place seen then s.frame s.time a b is read

-- one that comes to a frame
pub seen_found : (track : TrackNumbers) (from : Place × Seen) (seen : Seen) (s : Step) (size : ℕ) (a b : Option (List ℕ)) → s.frame ≡ Some size → SeenStep track from a b s seen → SeenStep track from a b (frame_at s.time size s.place) seen
seen_found track from seen s size a b is h = subst (λ (z : Option ℕ). SeenStep track from a b (record { frame = z; time = s.time; place = s.place }) seen) is h

-- with its frame
pub seen_whole : (track : TrackNumbers) (place after : Place) (seen then : Seen) (time : Option ℕ) (size : ℕ) (old now new : Option (List ℕ)) (p : List ℕ × Sum) → is_sound (summed_at after p.1) ≡ true → SeenStep track (place, seen) old now (frame_at time size after) then → Read (kept_summed size after.sum) now new p →
    Read (seen_taken track (place, seen)) old new (summed_at after p.1, then)
unfolding seen_taken element_taken
seen_whole track place after seen then time size old now new p sound s k = record {
  bytes = s.bytes ++ k.bytes;
  consumed = consumes_then old now new s.bytes k.bytes s.consumed k.consumed;
  is = λ rest. rw (append_assoc s.bytes k.bytes rest, s.is (k.bytes ++ rest), k.is rest, sound, s.seen_is (k.bytes ++ rest)) refl;
}

-- ---- a part of what is seen

-- what each element leads to leads on
leads_map : {S T : Type 0} (f : S → T) (a : S → Reading S) (b : T → Reading T) → ((s next : S) (text rest : List ℕ) → a s text ≡ Ok (next, rest) → b (f s) text ≡ Ok (f next, rest)) → (from to : S) (elements : List (List ℕ)) → Leads a from elements to → Leads b (f from) elements (f to)
leads_map f a b same from to [] is = ap f is
leads_map f a b same from to (bytes ∷ others) (next, one, more) = (f next, λ rest. same from next (bytes ++ rest) rest (one rest), leads_map f a b same next to others more)

reads_map : {S T : Type 0} (f : S → T) (a : S → Reading S) (b : T → Reading T) → ((s next : S) (text rest : List ℕ) → a s text ≡ Ok (next, rest) → b (f s) text ≡ Ok (f next, rest)) → (from to : S) (old new : Option (List ℕ)) (count : ℕ) → ReadsWhole a from old new to count → ReadsWhole b (f from) old new (f to) count
reads_map f a b same from to old new count h = record { elements = h.elements; leads = leads_map f a b same from to h.elements h.leads; consumed = h.consumed; counted = h.counted }

abbrev cued_of : Place × Seen → Place × Bool
cued_of s = (s.0, s.1.cued)

abbrev times_of : Place × Seen → Place × Times
times_of s = (s.0, s.1.times)

taken_cued : (track : TrackNumbers) (s next : Place × Seen) (text rest : List ℕ) → seen_taken track s text ≡ Ok (next, rest) → cued_taken track (cued_of s) text ≡ Ok (cued_of next, rest)
unfolding seen_taken cued_taken seen_behind
taken_cued track s next text rest h =
    let first = read_on_ok (element_taken track s.0 text) (λ place. given (place, seen_behind track s.0 text s.1)) (next, rest) h in
    let all = ok_is ((first.0.0, seen_behind track s.0 text s.1), first.0.1) (next, rest) first.2 in
    ap (λ z. read_on z (λ place. given (place, cued_behind s.0 text s.1.cued))) first.1 ∙ ap (λ (z : (Place × Seen) × List ℕ). Ok (cued_of z.0, z.1)) all

taken_timed : (track : TrackNumbers) (s next : Place × Seen) (text rest : List ℕ) → seen_taken track s text ≡ Ok (next, rest) → timed_taken track (times_of s) text ≡ Ok (times_of next, rest)
unfolding seen_taken timed_taken seen_behind
taken_timed track s next text rest h =
    let first = read_on_ok (element_taken track s.0 text) (λ place. given (place, seen_behind track s.0 text s.1)) (next, rest) h in
    let all = ok_is ((first.0.0, seen_behind track s.0 text s.1), first.0.1) (next, rest) first.2 in
    ap (λ z. read_on z (λ place. given (place, timed_behind track s.0 text s.1.times))) first.1 ∙ ap (λ (z : (Place × Seen) × List ℕ). Ok (times_of z.0, z.1)) all

module _ (track : TrackNumbers) (from to : Place × Seen) where
  pub whole_cued : (old new : Option (List ℕ)) (count : ℕ) → ReadsWhole (seen_taken track) from old new to count → ReadsWhole (cued_taken track) (cued_of from) old new (cued_of to) count
  whole_cued old new count h = reads_map cued_of (seen_taken track) (cued_taken track) (taken_cued track) from to old new count h

  pub whole_timed : (old new : Option (List ℕ)) (count : ℕ) → ReadsWhole (seen_taken track) from old new to count → ReadsWhole (timed_taken track) (times_of from) old new (times_of to) count
  whole_timed old new count h = reads_map times_of (seen_taken track) (timed_taken track) (taken_timed track) from to old new count h

  pub ends_cued : (p : Passage) → EndsCarried (seen_taken track) track from p to → EndsCarried (cued_taken track) track (cued_of from) p (cued_of to)
  ends_cued p (between, count, whole, none) = (between, count, whole_cued p.old between count whole, none)

  pub ends_timed : (p : Passage) → EndsCarried (seen_taken track) track from p to → EndsCarried (timed_taken track) track (times_of from) p (times_of to)
  ends_timed p (between, count, whole, none) = (between, count, whole_timed p.old between count whole, none)
