-- Payloads of a file are passed one after the other, and what comes then is of a range.
use Rattle.std.proofs.Common.{◌≡◌, refl, ℕ, ◌<◌, Option, None, Ok, List, [], ◌∷◌, ◌++◌, length, map, inl, inr, ap, sym, subst, ◌∙◌}
use Rattle.ffv1_wire.specs.Failures.{one_more}
use Rattle.ffv1_wire.specs.Passage.{between}
use Rattle.ffv1_record.specs.Accepted.{Accepted}
use Rattle.ffv1_files.specs.Files.{open_read}
use Rattle.ffv1_files.specs.Places.{Place, container_of}
use Rattle.ffv1_files.specs.declared.notes.Notes.{Notes}
use Rattle.ffv1_files.specs.Readers.{Standing}
use Rattle.ffv1_reads.specs.Head.{Head}
use Rattle.ffv1_reads.specs.Known.{Known}
use Rattle.ffv1_video.specs.declared.profile.Profile.{Profile}
use Rattle.ffv1_video.specs.declared.profile.Profile.TheVariants.{Strict, Wide}
use Rattle.ffv1_video.specs.declared.fault.Fault.{Fault}
use Rattle.ffv1_video.specs.declared.fault.Fault.TheVariants as fault
use Rattle.ffv1_video.specs.Faults.{Cause}
use Rattle.ffv1_video.specs.Faults.Cause.{Reading, Writing, Memory, Content}
use Rattle.ffv1_video.specs.Profiles.{scope_in}
use Rattle.ffv1_unpack.specs.Internal.Containers.{IsWithin}
use Rattle.ffv1_unpack.specs.Internal.Opens.{OpensPart, OpensRange, OpensStream, ReachesPart, ReachesRange, stream_of}
use Rattle.ffv1_unpack.specs.Internal.Passing.{Passes, PassesThen, PassingStopsBy}
use Rattle.ffv1_unpack.specs.Internal.Play.{ReadsEnd, ReadsPayload}
use Rattle.ffv1_unpack.specs.Internal.Told.{StopsFromBy}
use Rattle.ffv1_unpack.specs.Plays.{HasThen, NextHasFault, NextOver, NextPayloadLacks, NextReadFails}
use Rattle.ffv1_unpack.specs.Ranges.{PassStopsBy, PassedThen, RangeThen}
use Rattle.ffv1_unpack.specs.Stream.{IsStream, ReadsFrames, last_bytes}
use Rattle.ffv1_unpack.proofs.FilePlayed.{file_has}
use Rattle.ffv1_unpack.proofs.FramesInTurn.{reads_more, reads_none}
use Rattle.ffv1_unpack.proofs.FramesPlayed.{has_then}
use Rattle.ffv1_video.proofs.KnownTexts.{known_map, known_then}

same_all : (ps : List (List ℕ)) → map (λ (p : List ℕ). p) ps ≡ ps
same_all [] = refl
same_all (p ∷ ps) = ap (λ z. p ∷ z) (same_all ps)

pub pass_none : (from : Place) (i : Option (List ℕ)) (ib : ℕ) → Passes from from (between i i ib ib) []
pass_none from i ib = record { read = reads_none from i; kept = refl }

pub pass_more : (from to last : Place) (i0 i1 i2 : Option (List ℕ)) (ib im ia : ℕ) (ps : List (List ℕ)) (p : List ℕ) → Passes from to (between i0 i1 ib im) ps → ReadsPayload to last p (between i1 i2 im ia) →
    Passes from last (between i0 i2 ib ia) (ps ++ (p ∷ []))
pass_more from to last i0 i1 i2 ib im ia ps p so next = record {
  read = subst (λ z. Known i0 i2 (λ text rest. ReadsFrames from text z last rest)) (same_all (ps ++ (p ∷ [])))
      (reads_more (λ (q : List ℕ). q) from to last i0 i1 i2 ps p (subst (λ z. Known i0 i1 (λ text rest. ReadsFrames from text z to rest)) (sym (same_all ps)) so.read) next.next);
  kept = next.kept ∙ so.kept;
}

-- why no further one is passed
module _ (first : ℕ) (from to : Place) (i0 i1 i2 : Option (List ℕ)) (ib im ia : ℕ) (ps : List (List ℕ)) (passed : ℕ) (counted : length ps ≡ passed) (few : passed < first)
    (so : Passes from to (between i0 i1 ib im) ps) where
  then : (Next : Place → List ℕ → List ℕ → Type 0) → Known i1 i2 (Next to) → PassesThen first from (between i0 i2 ib ia) passed Next
  then Next next = record { before = ps; counted = counted; few = few; has = has_then from to i0 i1 i2 ps Next so.read next }

  pub pass_stops : (f : Fault) (why : Cause) → StopsFromBy to (between i1 i2 im ia) f why → PassingStopsBy first from (between i0 i2 ib ia) passed f why
  pass_stops f Reading h = (h.0 ∙ ap one_more so.kept, then NextReadFails h.1)
  pass_stops f Writing h = h
  pass_stops f Memory h = (h.0 ∙ so.kept, then NextPayloadLacks h.1)
  pass_stops f Content h = (h.0 ∙ so.kept, inl (then (NextHasFault f) h.1))

  pub pass_over : (notes : Notes) → ReadsEnd to notes (between i1 i2 im ia) → PassingStopsBy first from (between i0 i2 ib ia) passed fault.NoFrames Content
  pass_over notes over = (over.kept ∙ so.kept, inr (refl, notes, then (NextOver notes) over.over))

-- ---- of a file that was opened

module _ (profile : Profile) (first : ℕ) (i0 i1 i2 : Option (List ℕ)) (ib im ia : ℕ) (r : Standing) (a : Accepted) (opens : OpensStream profile r a (between i0 i1 ib im)) where
  file_then : (passed : ℕ) (Next : Place → List ℕ → List ℕ → Type 0) → PassesThen first r.place (between i1 i2 im ia) passed Next → PassedThen profile first (between i0 i2 ib ia) passed Next
  file_then passed Next h = record {
    stream = stream_of r a;
    is = opens.stream;
    before = h.before;
    counted = h.counted;
    few = h.few;
    has = file_has profile i0 i1 i2 r.head r.place opens.known h.before Next h.has;
  }

  pub pass_file : (passed : ℕ) (f : Fault) (why : Cause) → PassingStopsBy first r.place (between i1 i2 im ia) passed f why → PassStopsBy profile first (between i0 i2 ib ia) passed f why
  pass_file passed f Reading h = (h.0 ∙ ap one_more opens.kept, file_then passed NextReadFails h.1)
  pass_file passed f Writing h = h
  pass_file passed f Memory h = (h.0 ∙ opens.kept, file_then passed NextPayloadLacks h.1)
  pass_file passed f Content h = (
    h.0 ∙ opens.kept,
    elim h.1 [
      | inl faulty ↦ inl (file_then passed (NextHasFault f) faulty)
      | inr none ↦ inr (none.0, none.1, file_then passed (NextOver none.1) none.2)
    ],
  )

  within_again : (p : Profile) (place last : Place) → IsWithin p place → container_of last ≡ container_of place → IsWithin p last
  within_again Strict place last within same = same ∙ within
  within_again Wide place last within same = tt

  pub opens_range : (last : Standing) (b : Accepted) (ps : List (List ℕ)) → length ps ≡ first → Passes r.place last.place (between i1 i2 im ia) ps → last.head ≡ r.head → b ≡ a →
      container_of last.place ≡ container_of r.place → last.fault ≡ None → OpensRange profile first last b (between i0 i2 ib ia)
  opens_range last b ps counted passes head same container sound = record {
    stream =
        subst (λ z. IsStream profile (record { head = last.head; accepted = z })) (sym same)
        (subst (λ (z : Head). IsStream profile (record { head = z; accepted = a })) (sym head) opens.stream);
    known =
        subst (λ (z : Head). Known i0 i2 (ReachesRange profile first z last.place)) (sym head)
        (known_map i0 i2 (λ file rest. (left : List ℕ) × (open_read (scope_in profile) file ≡ Ok ((r.head, r.place), left)) × ReadsFrames r.place left ps last.place rest)
        (ReachesRange profile first r.head last.place) (λ file rest p. (ps, counted, r.place, p.0, p.1, p.2))
        (known_then i0 i1 i2 (λ file rest. open_read (scope_in profile) file ≡ Ok ((r.head, r.place), rest)) (λ text rest. ReadsFrames r.place text ps last.place rest) opens.known passes.read));
    within = within_again profile r.place last.place opens.within container;
    sound = sound;
    kept = passes.kept ∙ opens.kept;
  }

  -- the same, and the last payload that has bytes was kept
  pub opens_part : (last : Standing) (b : Accepted) (ps : List (List ℕ)) (carried : List ℕ) → length ps ≡ first → Passes r.place last.place (between i1 i2 im ia) ps → carried ≡ last_bytes ps → last.head ≡ r.head → b ≡ a →
      container_of last.place ≡ container_of r.place → last.fault ≡ None → OpensPart profile first carried last b (between i0 i2 ib ia)
  opens_part last b ps carried counted passes is head same container sound =
      let ranges = opens_range last b ps counted passes head same container sound in
      record {
        stream = ranges.stream;
        known =
            subst (λ (z : Head). Known i0 i2 (ReachesPart profile first carried z last.place)) (sym head)
            (known_map i0 i2 (λ file rest. (left : List ℕ) × (open_read (scope_in profile) file ≡ Ok ((r.head, r.place), left)) × ReadsFrames r.place left ps last.place rest)
            (ReachesPart profile first carried r.head last.place) (λ file rest p. (ps, counted, is, r.place, p.0, p.1, p.2))
            (known_then i0 i1 i2 (λ file rest. open_read (scope_in profile) file ≡ Ok ((r.head, r.place), rest)) (λ text rest. ReadsFrames r.place text ps last.place rest) opens.known passes.read));
        within = ranges.within;
        sound = sound;
        kept = ranges.kept;
      }

-- payloads after payloads
pub reads_behind : (from : Place) (text : List ℕ) (ps : List (List ℕ)) (to : Place) (at : List ℕ) (qs : List (List ℕ)) (last : Place) (rest : List ℕ) → ReadsFrames from text ps to at → ReadsFrames to at qs last rest →
    ReadsFrames from text (ps ++ qs) last rest
reads_behind from text [] to at qs last rest h more = subst (λ l. ReadsFrames l text qs last rest) h.0 (subst (λ t. ReadsFrames to t qs last rest) h.1 more)
reads_behind from text (p ∷ ps) to at qs last rest h more = (h.0, h.1, h.2, reads_behind h.0 h.1 ps to at qs last rest h.3 more)

-- what comes after the frames before a range is what the range has
pub range_has : (profile : Profile) (first : ℕ) (head : Head) (place : Place) (i0 i1 i2 : Option (List ℕ)) → Known i0 i1 (ReachesRange profile first head place) →
    (ps : List (List ℕ)) (Next : Place → List ℕ → List ℕ → Type 0) → Known i1 i2 (HasThen place ps Next) → Known i0 i2 (RangeThen profile first head ps Next)
range_has profile first head place i0 i1 i2 known ps Next has =
    known_map i0 i2 (λ file rest. (left : List ℕ) × ReachesRange profile first head place file left × HasThen place ps Next left rest) (RangeThen profile first head ps Next)
    (λ file rest p.
    let r = p.1 in
    let h = p.2 in
    (r.0, r.1, (r.2, r.3, r.4, (h.0, h.1, reads_behind r.2 r.3 r.0 place p.0 ps h.0 h.1 r.5 h.2, h.3))))
    (known_then i0 i1 i2 (ReachesRange profile first head place) (HasThen place ps Next) known has)
