-- A Matroska file that is read from its beginning again, since it lacks Tracks.
use Rattle.std.proofs.Common.{◌≡◌, ◌⊎◌, ◌+◌, ◌^◌, ◌-◌, ◌∙◌, min, refl, ℕ, if◌then◌else◌, Bool, true, false, Option, Some, None, Ok, Err, List, inl, inr, ap, sym, subst, arith}
use Rattle.ffv1_wire.specs.Passage.{Passage, between}
use Rattle.ffv1_reads.specs.Head.{Head}
use Rattle.ffv1_reads.specs.Known.{Known}
use Rattle.ffv1_reads.specs.Reads.{Kept, Met, Read, Reading, Short, Stop, read_on}
use Rattle.ffv1_reads.specs.declared.fault.FileFault.{FileFault}
use Rattle.ffv1_reads.specs.declared.fault.FileFault.TheVariants as fault
use Rattle.ffv1_reads.proofs.OffsetLaws.{reads_none}
use Rattle.ffv1_matroska.specs.Again as matroska_again
use Rattle.ffv1_matroska.specs.Again.{AnswersAgain, RoomTwice, TwiceOpened}
use Rattle.ffv1_matroska.specs.Late.{opened_with, reopened, track_read}
use Rattle.ffv1_matroska.specs.Offsets as matroska
use Rattle.ffv1_matroska.specs.Opened.{Opened}
use Rattle.ffv1_matroska.specs.Opening.{segment_begun}
use Rattle.ffv1_matroska.specs.Places.{ended}
use Rattle.ffv1_matroska.specs.Readers as matroska_reader
use Rattle.ffv1_matroska.specs.Readers.{HasEnded}
use Rattle.ffv1_matroska.specs.Tracks.{Track}
use Rattle.ffv1_matroska.proofs.AgainLaws.{once_again}
use Rattle.ffv1_files.specs.Again.{AgainFails, AgainWants, HasTracks, LacksTracks, RoomWithin, StopsAgain, known_endings, lacks_tracks, track_endings}
use Rattle.ffv1_files.specs.Answers.{Endings, FaultsRead, ReadFails, ReadsAs, StopsReading, WantsMore}
use Rattle.ffv1_files.specs.Files.{matroska_begun, open_read}
use Rattle.ffv1_files.specs.Offsets.{EndsKnown, Reached, ReadsKnown, StopsAt, StopsOnce}
use Rattle.ffv1_files.specs.Places.{InMatroska}
use Rattle.ffv1_files.specs.declared.container.Scope.TheVariants as scope
use Rattle.ffv1_files.proofs.Answering.{faults_stops, just_read, known_map, over_known}
use Rattle.ffv1_files.proofs.Locations.{in_matroska}

-- what is known of one text, of what is left at several places
pub known_both : (text mid new : Option (List ℕ)) (P Q R : List ℕ → List ℕ → Type 0) → ((file left rest : List ℕ) → P file left → Q file rest → R file rest) → Known text mid P → Known text new Q → Known text new R
known_both None mid new P Q R f p q = tt
known_both (Some file) None new P Q R f p q = absurd p
known_both (Some file) (Some left) None P Q R f p q = absurd q
known_both (Some file) (Some left) (Some rest) P Q R f p q = f file left rest p q

-- ---- what such a file reads as

-- a file that lacks Tracks is what its late reading is
late_opens : (text left rest : List ℕ) (track : Track) (more : List ℕ) (o : Opened) → LacksTracks text left → HasTracks text more track → reopened track text ≡ Ok (o, rest) → open_read scope.Whole text ≡ Ok ((o.track.head, InMatroska o.segment o.track.numbers o.place), rest)
unfolding open_read
late_opens text left rest track more o lacks has opens =
    rw lacks.0 (ap (λ z. read_on z matroska_begun) (once_again text (Err (Met fault.NoTracks left)) lacks.1 ∙ ap (opened_with text) has ∙ opens))

late_refuses : (text left : List ℕ) (why : Stop) → LacksTracks text left → track_read text ≡ Err why → open_read scope.Whole text ≡ Err why
unfolding open_read
late_refuses text left why lacks refused =
    rw lacks.0 (ap (λ z. read_on z matroska_begun) (once_again text (Err (Met fault.NoTracks left)) lacks.1 ∙ ap (opened_with text) refused))

late_refuses_known : (text left : List ℕ) (track : Track) (more : List ℕ) (why : Stop) → LacksTracks text left → HasTracks text more track → reopened track text ≡ Err why → open_read scope.Whole text ≡ Err why
unfolding open_read
late_refuses_known text left track more why lacks has refused =
    rw lacks.0 (ap (λ z. read_on z matroska_begun) (once_again text (Err (Met fault.NoTracks left)) lacks.1 ∙ ap (opened_with text) has ∙ refused))

-- ---- what the call answers, by what was left when the file was known to lack Tracks
module _ (old mid new : Option (List ℕ)) (before after : ℕ) (lacks : Known old mid LacksTracks) where
  abbrev p : Passage
  p = between old new before after

  pub again_opens : (o : Opened) → AnswersAgain (λ (z : Opened). z) mid p (Ok o) → ReadsAs (open_read scope.Whole) p (o.track.head, InMatroska o.segment o.track.numbers o.place)
  again_opens o (same, (track, between, read, opens)) = (
    same,
    known_both old mid new LacksTracks (λ file rest. (more : List ℕ) × HasTracks file more track × (reopened track file ≡ Ok (o, rest))) _
        (λ file left rest l both. late_opens file left rest track both.0 o l both.1 both.2) lacks
        (known_both old between new (λ file more. track_read file ≡ Ok (track, more)) (λ file rest. reopened track file ≡ Ok (o, rest)) _ (λ file more rest has is. (more, has, is)) (just_read track_read old between track read) (over_known (reopened track) HasEnded old new o opens)),
  )

  -- refused before its first Tracks were read
  track_faults : (f : FileFault) (text left rest : List ℕ) → LacksTracks text left → FaultsRead track_read text rest f → FaultsRead (open_read scope.Whole) text rest f
  track_faults f text left rest l (inl (w, short, over, is)) = inl (w, late_refuses text left (Short w) l short, over, is)
  track_faults f text left rest l (inr met) = inr (late_refuses text left (Met f rest) l met)

  track_stops : (f : FileFault) → StopsReading track_endings track_read p f → StopsAgain p f
  track_stops fault.Read (counted, fails) = (counted, known_both old mid new LacksTracks (ReadFails track_endings track_read) AgainFails (λ file left rest l is. inl (left, l, inl is)) lacks fails)
  track_stops fault.OutOfMemory (same, wants) = (same, known_both old mid new LacksTracks (WantsMore track_read Kept) (AgainWants Kept) (λ file left rest l is. (left, l, inl is)) lacks wants)
  track_stops fault.TooLarge h = absurd h
  track_stops fault.Write h = absurd h
  track_stops fault.Rate h = absurd h
  track_stops f (same, faults) = (same, known_both old mid new LacksTracks (λ file rest. FaultsRead track_read file rest f) _ (λ file left rest l is. track_faults f file left rest l is) lacks faults)

  -- or later
  module _ (track : Track) (between : Option (List ℕ)) (read : Read track_read old between track) where
    abbrev tells : Known old between (λ file more. track_read file ≡ Ok (track, more))
    tells = just_read track_read old between track read

    with_track : (P Q : List ℕ → List ℕ → Type 0) → ((text left more rest : List ℕ) → LacksTracks text left → HasTracks text more track → P text rest → Q text rest) → Known old new P → Known old new Q
    with_track P Q f h =
        known_both old mid new LacksTracks (λ file rest. (more : List ℕ) × HasTracks file more track × P file rest) Q (λ file left rest l both. f file left both.0 rest l both.1 both.2) lacks
        (known_both old between new (λ file more. track_read file ≡ Ok (track, more)) P _ (λ file more rest has is. (more, has, is)) tells h)

    known_faults : (f : FileFault) (text left more rest : List ℕ) → LacksTracks text left → HasTracks text more track → FaultsRead (reopened track) text rest f → FaultsRead (open_read scope.Whole) text rest f
    known_faults f text left more rest l has (inl (w, short, over, is)) = inl (w, late_refuses_known text left track more (Short w) l has short, over, is)
    known_faults f text left more rest l has (inr met) = inr (late_refuses_known text left track more (Met f rest) l has met)

    known_stops : (f : FileFault) → StopsReading known_endings (reopened track) p f → StopsAgain p f
    known_stops fault.Read (counted, fails) = (counted, with_track (ReadFails known_endings (reopened track)) AgainFails (λ file left more rest l has is. inl (left, l, inr (track, more, has, inr is))) fails)
    known_stops fault.OutOfMemory (same, wants) = (same, with_track (WantsMore (reopened track) Kept) (AgainWants Kept) (λ file left more rest l has is. (left, l, inr (track, more, has, is))) wants)
    known_stops fault.TooLarge h = absurd h
    known_stops fault.Write h = absurd h
    known_stops fault.Rate h = absurd h
    known_stops f (same, faults) = (same, with_track (λ file rest. FaultsRead (reopened track) file rest f) _ (λ file left more rest l has is. known_faults f file left more rest l has is) faults)

  -- or it could not be begun again
  not_begun : (new ≡ mid) ⊎ ((track : Track) × Read track_read old new track) → Known old new AgainFails
  not_begun (inl same) =
      let P : Option (List ℕ) → Type 0 = λ z. Known old z LacksTracks in
      known_map old new LacksTracks AgainFails (λ file rest l. inr l) (subst P (sym same) lacks)
  not_begun (inr (track, read)) =
      known_both old mid new LacksTracks (λ file rest. track_read file ≡ Ok (track, rest)) AgainFails (λ file left rest l has. inl (left, l, inr (track, rest, has, inl refl))) lacks (just_read track_read old new track read)

  pub again_stops : (f : FileFault) → matroska_again.StopsAgain mid p f → StopsAgain p f
  again_stops f (inl why) = track_stops f (faults_stops track_read p (λ (track : Track). ⊥) f why)
  again_stops f (inr (inl (track, between, read, why))) = known_stops track between read f (faults_stops (reopened track) p HasEnded f why)
  again_stops f (inr (inr (is, failed, why))) = let P : FileFault → Type 0 = λ g. StopsAgain p g in subst P (sym is) (failed, not_begun why)

-- ---- where it is

module _ (old new : Option (List ℕ)) (before after : ℕ) where
  pub twice_reached : (r : matroska_reader.Standing) (offset : ℕ) → TwiceOpened (between old new before after) (Ok r) offset → Reached scope.Whole old new (in_matroska r)
  twice_reached r offset h = record { whole = inr (inr (on_begun h.goes.0 h.goes.1)) }
    where
      same : (b a most : ℕ) → min (0 + (b + a)) most ≡ min (0 + (b + (a + 0))) most
      same b a most = grind arith

      on_begun : (known : Track) → matroska.FramesBegin (matroska.InSegment (Some known) (segment_begun h.size)) (record { old = h.between; new = new; before = before; after = after }) r.track r.place h.after →
          ((head : Head) × ReadsKnown old new (record { numbers = r.track.numbers; head = head }) r.place r.offset) ⊎ ((r.place ≡ ended) × (head : Head) × EndsKnown old new (record { numbers = r.track.numbers; head = head }) r.offset)
      on_begun known (inl whole) =
          inl (r.track.head, record { size = h.size; known = known; first = r.place; between = h.between; begun = new; before = h.before; count = h.after; after = 0; entered = h.entered; opened = whole; framed = reads_none (matroska.element_taken r.track.numbers) r.place new; offset_is = h.offset_is ∙ same h.before h.after (2 ^ 64 - 1) })
      on_begun known (inr (is, ends)) =
          inr (is, r.track.head, record { size = h.size; between = h.between; before = h.before; after = h.after; entered = h.entered; goes = (known, ends); offset_is = h.offset_is })

  pub twice_stopped : (f : FileFault) (offset : ℕ) → lacks_tracks f ≡ false → TwiceOpened (between old new before after) (Err f) offset → StopsAt scope.Whole (between old new before after) f offset
  twice_stopped f offset other h = record { whole = inr (inr (inr (inl (other, h)))) }

  -- it has no Tracks at all
  pub without_stopped : (f : FileFault) (left : Option (List ℕ)) (now offset : ℕ) → lacks_tracks f ≡ true → after ≡ before → now ≡ before → StopsOnce (between old left before now) f offset → StopsAt scope.Whole (between old new before after) f offset
  without_stopped f left now offset is same kept h =
      let P : ℕ → Type 0 = λ n. StopsOnce (between old left before n) f offset in
      record { whole = inr (inr (inr (inr (inr (named f is, left, subst P (kept ∙ sym same) h))))) }
    where
      named : (g : FileFault) → lacks_tracks g ≡ true → g ≡ fault.NoTracks
      named fault.NoTracks is = refl
      named g is = absurd (cc (is))

-- where the first reading stopped, if there are no Tracks
pub by_tracks : (P : ℕ → Type 0) (f : FileFault) (first last : ℕ) → (lacks_tracks f ≡ true → P first) → (lacks_tracks f ≡ false → P last) → P (if lacks_tracks f then first else last)
by_tracks P f first last one two = on_test (lacks_tracks f) refl
  where
    on_test : (b : Bool) → lacks_tracks f ≡ b → P (if b then first else last)
    on_test true is = one is
    on_test false is = two is

both_lack : (g f : FileFault) → lacks_tracks g ≡ true → lacks_tracks f ≡ true → g ≡ f
both_lack fault.NoTracks fault.NoTracks one two = refl
both_lack fault.NoTracks f one two = absurd (cc (two))
both_lack g f one two = absurd (cc (one))

none_counted : (p : Passage) (f : FileFault) → lacks_tracks f ≡ true → StopsAgain p f → p.after ≡ p.before
none_counted p fault.NoTracks is h = h.0
none_counted p f is h = absurd (cc (is))

-- ---- the call, whose input begins again where it stood
pub late_counted : {X : Type 0} (ends : Endings X) (reading : Reading X) (p : Passage) (f : FileFault) → lacks_tracks f ≡ true → StopsReading ends reading p f → p.after ≡ p.before
late_counted ends reading p fault.NoTracks is h = h.0
late_counted ends reading p f is h = absurd (cc is)

module _ (old whole mid new : Option (List ℕ)) (before now after : ℕ) (begins : whole ≡ old) (same : now ≡ before) where
  moved : (P : Option (List ℕ) → ℕ → Type 0) → P whole now → P old before
  moved P h = subst (λ z. P z before) begins (subst (λ n. P whole n) same h)

  pub call_opens : Known old mid LacksTracks → (o : Opened) → AnswersAgain (λ (z : Opened). z) mid (between whole new now after) (Ok o) → ReadsAs (open_read scope.Whole) (between old new before after) (o.track.head, InMatroska o.segment o.track.numbers o.place)
  call_opens lacks o h = again_opens old mid new before after lacks o (moved (λ z n. AnswersAgain (λ (z : Opened). z) mid (between z new n after) (Ok o)) h)

  pub call_stops : Known old mid LacksTracks → (f : FileFault) → matroska_again.StopsAgain mid (between whole new now after) f → StopsAgain (between old new before after) f
  call_stops lacks f h = again_stops old mid new before after lacks f (moved (λ z n. matroska_again.StopsAgain mid (between z new n after) f) h)

  pub call_reached : (r : matroska_reader.Standing) (offset : ℕ) → TwiceOpened (between whole new now after) (Ok r) offset → Reached scope.Whole old new (in_matroska r)
  call_reached r offset h = twice_reached old new before after r offset (moved (λ z n. TwiceOpened (between z new n after) (Ok r) offset) h)

  pub call_stopped : (f : FileFault) (offset : ℕ) → lacks_tracks f ≡ false → TwiceOpened (between whole new now after) (Err f) offset → StopsAt scope.Whole (between old new before after) f offset
  call_stopped f offset other h = twice_stopped old new before after f offset other (moved (λ z n. TwiceOpened (between z new n after) (Err f) offset) h)

  pub call_stays : Known old mid LacksTracks → (g f : FileFault) (first last : ℕ) → lacks_tracks g ≡ true → StopsOnce (between old mid before now) g first → matroska_again.StopsAgain mid (between whole new now after) f → TwiceOpened (between whole new now after) (Err f) last →
      StopsAt scope.Whole (between old new before after) f (if lacks_tracks f then first else last)
  call_stays lacks g f first last is once stops twice =
      let P : FileFault → Type 0 = λ e. StopsOnce (between old mid before now) e first in
      by_tracks (λ n. StopsAt scope.Whole (between old new before after) f n) f first last
      (λ none. without_stopped old new before after f mid now first none (none_counted (between old new before after) f none (call_stops lacks f stops)) same (subst P (both_lack g f is none) once))
      (λ other. call_stopped f last other twice)

  pub call_room : (room : ℕ) → RoomTwice whole new 0 room → RoomWithin old new room
  call_room room h = inr (subst (λ z. RoomTwice z new 0 room) begins h)
