-- Whether Cues came after the last Cluster, by the calls of which each element is made.
use Rattle.std.proofs.Common.{◌≡◌, ◌⊎◌, ◌+◌, ◌++◌, ◌||◌, ◌<◌, min, ℕ, Bool, true, false, List, [], Option, Some, None, Result, Ok, Err, IfOk, IfSome, nat_lt, lt-ltb, refl, ap, ◌∙◌, arith, append_assoc, inl, inr}
use Rattle.ffv1_wire.specs.Passage.{Passage}
use Rattle.ffv1_wire.proofs.Bytes.{consumes_then}
use Rattle.ffv1_reads.specs.Ends.{ReadOrNone}
use Rattle.ffv1_reads.specs.Reads.{Answers, Read, read_on}
use Rattle.ffv1_reads.specs.declared.fault.FileFault.{FileFault}
use Rattle.ffv1_reads.proofs.Reading.{consumes_none}
use Rattle.ffv1_ebml.specs.declared.element.Element.{Element}
use Rattle.ffv1_matroska.specs.Cues.{CuedStep, cued_behind, cued_by, cued_by_read}
use Rattle.ffv1_matroska.specs.Places.{segment_at}
use Rattle.ffv1_matroska.specs.Segments.{cluster_read, group_read, header_read, segment_child, segment_read, segment_rest, step_read}
use Rattle.ffv1_matroska.specs.declared.place.Place.{Place}
use Rattle.ffv1_matroska.specs.declared.place.Step.{Step}
use Rattle.ffv1_matroska.specs.declared.track.TrackNumbers.{TrackNumbers}
use Rattle.ffv1_matroska.proofs.FoundFrames.{step_none}

-- the bytes of its header, and then those of what comes after that
module _ (track : TrackNumbers) (place : Place) (cued : Bool) (e : Element) (group : place.group ≡ 0) (cluster : place.cluster ≡ 0) (bytes : List ℕ) (header : (rest : List ℕ) → header_read place (bytes ++ rest) ≡ Ok (Some e, rest)) where
  headed : (rest : List ℕ) → step_read track place (bytes ++ rest) ≡ segment_child track e.ident (segment_at place place.loose e.left) e.size rest
  unfolding step_read segment_read header_read
  headed rest = rw (group, cluster) (ap (λ z. read_on z (segment_rest track place)) (header rest))

  cued_headed : (rest : List ℕ) → cued_behind place (bytes ++ rest) cued ≡ cued_by e.ident cued
  unfolding cued_behind header_read
  cued_headed rest = rw (group, cluster) (ap (λ z. cued_by_read z cued) (header rest))

-- an element of the Segment
cued_child : (track : TrackNumbers) (place : Place) (cued : Bool) (e : Element) (s : Step) (old mid new : Option (List ℕ)) → place.group ≡ 0 → place.cluster ≡ 0 → Read (header_read place) old mid (Some e) → Read (segment_child track e.ident (segment_at place place.loose e.left) e.size) mid new (Some s) →
    CuedStep track (place, cued) old new s (cued_by e.ident cued)
cued_child track place cued e s old mid new group cluster h k = record {
  bytes = h.bytes ++ k.bytes;
  consumed = consumes_then old mid new h.bytes k.bytes h.consumed k.consumed;
  is = λ rest. ap (step_read track place) (append_assoc h.bytes k.bytes rest) ∙ headed track place cued e group cluster h.bytes h.is (k.bytes ++ rest) ∙ k.is rest;
  cued_is = λ rest. ap (λ z. cued_behind place z cued) (append_assoc h.bytes k.bytes rest) ∙ cued_headed track place cued e group cluster h.bytes h.is (k.bytes ++ rest);
}

pub cued_segment : (track : TrackNumbers) (place : Place) (cued : Bool) (e : Element) (old mid new : Option (List ℕ)) (before last : ℕ) (result : Result (Option Step) FileFault) → place.group ≡ 0 → place.cluster ≡ 0 → Read (header_read place) old mid (Some e) →
    Answers (λ (s : Option Step). s) (segment_child track e.ident (segment_at place place.loose e.left) e.size) (record { old = mid; new = new; before = before; after = last }) result →
    IfOk result (λ o. IfSome o (λ s. CuedStep track (place, cued) old new s (cued_by e.ident cued)))
cued_segment track place cued e old mid new before last (Ok (Some s)) group cluster h k = cued_child track place cued e s old mid new group cluster h k.1
cued_segment track place cued e old mid new before last (Ok None) group cluster h k = tt
cued_segment track place cued e old mid new before last (Err f) group cluster h k = tt

-- an element of a Cluster of known size, or of a BlockGroup
pub inside_or : (place : Place) → (0 < place.group) ⊎ (0 < place.cluster) → (nat_lt 0 place.group || nat_lt 0 place.cluster) ≡ true
inside_or place (inl some) = rw (lt-ltb 0 place.group some) refl
inside_or place (inr some) = on (nat_lt 0 place.group)
  where
    on : (b : Bool) → (b || nat_lt 0 place.cluster) ≡ true
    on true = refl
    on false = lt-ltb 0 place.cluster some

cued_inside : (track : TrackNumbers) (place : Place) (cued : Bool) (s : Step) (old new : Option (List ℕ)) → (0 < place.group) ⊎ (0 < place.cluster) → Read (step_read track place) old new (Some s) → CuedStep track (place, cued) old new s cued
unfolding cued_behind
cued_inside track place cued s old new some read = record {
  bytes = read.bytes;
  consumed = read.consumed;
  is = read.is;
  cued_is = λ rest. rw (inside_or place some) refl;
}

pub cued_group : (track : TrackNumbers) (place : Place) (cued : Bool) (p : Passage) (result : Result (Option Step) FileFault) → 0 < place.group → Answers (λ (s : Option Step). s) (group_read track place) p result →
    IfOk result (λ o. IfSome o (λ s. CuedStep track (place, cued) p.old p.new s cued))
unfolding step_read
cued_group track place cued p (Ok (Some s)) some h = cued_inside track place cued s p.old p.new (inl some) (record { bytes = h.1.bytes; consumed = h.1.consumed; is = λ rest. rw (lt-ltb 0 place.group some) (h.1.is rest) })
cued_group track place cued p (Ok None) some h = tt
cued_group track place cued p (Err f) some h = tt

pub cued_cluster : (track : TrackNumbers) (place : Place) (cued : Bool) (p : Passage) (result : Result (Option Step) FileFault) → place.group ≡ 0 → 0 < place.cluster → Answers (λ (s : Option Step). s) (cluster_read track place) p result →
    IfOk result (λ o. IfSome o (λ s. CuedStep track (place, cued) p.old p.new s cued))
unfolding step_read cluster_read
cued_cluster track place cued p (Ok (Some s)) none some h = cued_inside track place cued s p.old p.new (inr some) (record { bytes = h.1.bytes; consumed = h.1.consumed; is = λ rest. rw (none, lt-ltb 0 place.cluster some) (h.1.is rest) })
cued_cluster track place cued p (Ok None) none some h = tt
cued_cluster track place cued p (Err f) none some h = tt

-- at the end no element comes
pub ended_none : (track : TrackNumbers) (place : Place) (text : Option (List ℕ)) → place.segment ≡ 0 → place.cluster ≡ 0 → place.group ≡ 0 → ReadOrNone (step_read track place) text text None
ended_none track place text segment cluster group = inl (record { bytes = []; consumed = consumes_none text; is = step_none track place segment cluster group })

-- the end of the Segment, by what is left and what was read
pub ends_on : (offset now before after count most end : ℕ) → count + after ≡ before → end ≡ min (offset + before) most → now ≡ min (offset + count) most → end ≡ min (now + after) most
ends_on offset now before after count most end is there counted = grind (arith, is, there, counted)
