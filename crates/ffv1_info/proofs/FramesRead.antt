-- The first frame of a file is read, and then the others.
use Rattle.std.proofs.Common.{◌≡◌, refl, ℕ, Bool, true, false, Option, Some, None, Ok, List, [], ◌∷◌, length, ap, sym, subst, ◌∙◌, arith}
use Rattle.ffv1_wire.specs.Failures.{one_more}
use Rattle.ffv1_wire.specs.Passage.{Passage, between}
use Rattle.ffv1_record.specs.Accepted.{Accepted}
use Rattle.ffv1_files.specs.Behind.{EndsThere}
use Rattle.ffv1_files.specs.Files.{frame_read}
use Rattle.ffv1_files.specs.Noted.{NotesNext, NotesReached}
use Rattle.ffv1_files.specs.Offsets.{LocatedNext, Reached}
use Rattle.ffv1_files.specs.Places.{Place}
use Rattle.ffv1_files.specs.Readers.{Standing}
use Rattle.ffv1_files.specs.declared.container.Scope.{Scope}
use Rattle.ffv1_files.specs.declared.notes.Notes.{Notes}
use Rattle.ffv1_reads.specs.Known.{Known}
use Rattle.ffv1_video.specs.declared.fault.Fault.{Fault}
use Rattle.ffv1_video.specs.Faults.{Cause}
use Rattle.ffv1_video.specs.Faults.Cause.{Reading, Writing, Memory, Content}
use Rattle.ffv1_video.proofs.KnownTexts.{known_map, known_then}
use Rattle.ffv1_unpack.specs.Behind.{EndsThen, IsNoted}
use Rattle.ffv1_unpack.specs.Internal.Located.{StaysReached}
use Rattle.ffv1_unpack.specs.Internal.Passing.{Passes}
use Rattle.ffv1_unpack.specs.Internal.Play.{NextIs, ReadsEnd}
use Rattle.ffv1_unpack.specs.Internal.Told.{StopsFromBy}
use Rattle.ffv1_unpack.specs.Plays.{HasThen, NextHasFault, NextPayloadLacks, NextReadFails, NextStays}
use Rattle.ffv1_unpack.specs.Stream.{Frame, frame_payload}
use Rattle.ffv1_unpack.proofs.FramesPlayed.{has_then}
use Rattle.ffv1_info.specs.StreamInfo.{BeginsWith, EndsBy, FramesOver, ReadsMost}
use Rattle.ffv1_info.specs.Internal.Frames.{ReadsFirst, ReadsNone, ReadsOthers, has_some, with_others}

-- where a reader stands that has read a frame
pub stands_next : (old new : Standing) (p : Passage) (more : Bool) → more ≡ true → ((scope : Scope) (text : Option (List ℕ)) → Reached scope text p.old old → LocatedNext scope text p (Ok more) new) →
    (EndsThere old → more ≡ true → EndsThere new) → ((scope : Scope) (text : Option (List ℕ)) → Reached scope text p.old old → NotesReached scope text p.old old → NotesNext scope text p (Ok more) new) → StaysReached old new p
stands_next old new p more is located ends noted scope text stands = record {
  reached = subst (λ (b : Bool). LocatedNext scope text p (Ok b) new) is (located scope text stands.reached);
  ends = ends stands.ends is;
  noted = subst (λ (b : Bool). NotesNext scope text p (Ok b) new) is (noted scope text stands.reached stands.noted);
}

-- whatever is noted of the end
pub none_read : (from : Place) (p : Passage) (notes : Notes) → ReadsEnd from notes p → ReadsNone from p
none_read from p notes end = record {
  kept = end.kept;
  over = known_map p.old p.new (EndsThen (IsNoted notes) from) (FramesOver from) (λ text rest e. (e.0, (e.1.0, e.1.1, e.1.2, (notes, e.1.3)))) end.over;
}

-- ---- payloads that are counted

module _ (from to : Place) (i0 i1 i2 : Option (List ℕ)) (ib im ia : ℕ) (ps : List (List ℕ)) (so : Passes from to (between i0 i1 ib im) ps) where
  -- why they are not read on
  pub ends_by : (f : Fault) (why : Cause) → StopsFromBy to (between i1 i2 im ia) f why → EndsBy (HasThen from) (between i0 i2 ib ia) ps f why
  ends_by f Reading h = (h.0 ∙ ap one_more so.kept, has_then from to i0 i1 i2 ps NextReadFails so.read h.1)
  ends_by f Writing h = h
  ends_by f Memory h = (h.0 ∙ so.kept, has_then from to i0 i1 i2 ps NextPayloadLacks so.read h.1)
  ends_by f Content h = (h.0 ∙ so.kept, has_then from to i0 i1 i2 ps (NextHasFault f) so.read h.1)

  -- there is no further one
  pub others_read : ReadsNone to (between i1 i2 im ia) → ReadsOthers true from (between i0 i2 ib ia) ps
  others_read over = (over.kept ∙ so.kept, has_then from to i0 i1 i2 ps FramesOver so.read over.over)

-- ---- the first one, and those

module _ (from mid : Place) (i0 i1 i2 : Option (List ℕ)) (payload : List ℕ) (next : NextIs from i0 i1 (Some (payload, mid))) where
  pub has_behind : (others : List (List ℕ)) (Next : Place → List ℕ → List ℕ → Type 0) → Known i1 i2 (HasThen mid others Next) → Known i0 i2 (HasThen from (payload ∷ others) Next)
  has_behind others Next h =
      known_map i0 i2 (λ text rest. (left : List ℕ) × (frame_read from text ≡ Ok (Some (payload, mid), left)) × HasThen mid others Next left rest) (HasThen from (payload ∷ others) Next)
      (λ text rest p. let then = p.2 in (then.0, then.1, (mid, p.0, p.1, then.2), then.3))
      (known_then i0 i1 i2 (λ text rest. frame_read from text ≡ Ok (Some (payload, mid), rest)) (HasThen mid others Next) next h)

  behind_ends : (ib im ia : ℕ) (others : List (List ℕ)) (f : Fault) (why : Cause) → im ≡ ib → EndsBy (HasThen mid) (between i1 i2 im ia) others f why → EndsBy (HasThen from) (between i0 i2 ib ia) (payload ∷ others) f why
  behind_ends ib im ia others f Reading kept h = (h.0 ∙ ap one_more kept, has_behind others NextReadFails h.1)
  behind_ends ib im ia others f Writing kept h = h
  behind_ends ib im ia others f Memory kept h = (h.0 ∙ kept, has_behind others NextPayloadLacks h.1)
  behind_ends ib im ia others f Content kept h = (h.0 ∙ kept, has_behind others (NextHasFault f) h.1)

module _ (from mid : Place) (i0 i1 : Option (List ℕ)) where
  pub first_over : Known i0 i1 (FramesOver from) → Known i0 i1 (HasThen from [] FramesOver)
  first_over over = known_map i0 i1 (FramesOver from) (HasThen from [] FramesOver) (λ text rest is. (from, text, (refl, refl), is)) over

  pub first_alone : (payload : List ℕ) → NextIs from i0 i1 (Some (payload, mid)) → Known i0 i1 (HasThen from (payload ∷ []) NextStays)
  first_alone payload next =
      known_map i0 i1 (λ text rest. frame_read from text ≡ Ok (Some (payload, mid), rest)) (HasThen from (payload ∷ []) NextStays) (λ text rest is. (mid, rest, (mid, rest, is, (refl, refl)), refl)) next

module _ (a : Accepted) (from mid : Place) (i0 i1 i2 : Option (List ℕ)) (ib im ia : ℕ) where
  -- the first one alone
  abbrev pub one_read : (first : Option Frame) → ReadsFirst a from mid (between i0 i1 ib im) first → ReadsMost (HasThen from) (between i0 i1 ib im) a (Some 1) first
  one_read None reads = record { held = []; begins = refl; few = omega arith; has = first_over from mid i0 i1 reads.over; kept = reads.kept }
  one_read (Some f) reads =
      record { held = frame_payload f ∷ []; begins = (reads.is, [], refl); few = omega arith; has = first_alone from mid i0 i1 (frame_payload f) reads.reads.next; kept = reads.reads.kept }

  -- all of them
  abbrev pub all_read : (first : Option Frame) → ReadsFirst a from mid (between i0 i1 ib im) first → (others : List (List ℕ)) → ReadsOthers (has_some first) mid (between i1 i2 im ia) others →
      ReadsMost (HasThen from) (between i0 i2 ib ia) a None first
  all_read None reads others more =
      record { held = []; begins = refl; few = tt; has = subst (λ z. Known i0 z (HasThen from [] FramesOver)) (sym more.1) (first_over from mid i0 i1 reads.over); kept = more.2 ∙ reads.kept }
  all_read (Some f) reads others more = record {
    held = frame_payload f ∷ others;
    begins = (reads.is, others, refl);
    few = tt;
    has = has_behind from mid i0 i1 i2 (frame_payload f) reads.reads.next others FramesOver more.1;
    kept = more.0 ∙ reads.reads.kept;
  }

  pub all_counted : (first : Option Frame) (reads : ReadsFirst a from mid (between i0 i1 ib im) first) (others : List (List ℕ)) (more : ReadsOthers (has_some first) mid (between i1 i2 im ia) others) →
      with_others (has_some first) others ≡ length (all_read first reads others more).held
  all_counted None reads others more = refl
  all_counted (Some f) reads others more = refl

  -- why the others are not read to their end
  pub others_end : (first : Option Frame) → ReadsFirst a from mid (between i0 i1 ib im) first → has_some first ≡ true → (others : List (List ℕ)) (f : Fault) (why : Cause) →
      EndsBy (HasThen mid) (between i1 i2 im ia) others f why → (held : List (List ℕ)) × BeginsWith a first held × EndsBy (HasThen from) (between i0 i2 ib ia) held f why
  others_end None reads some others f why h = absurd (let no : false ≡ true = some in cc)
  others_end (Some x) reads some others f why h = (frame_payload x ∷ others, (reads.is, others, refl), behind_ends from mid i0 i1 i2 (frame_payload x) reads.reads.next ib im ia others f why reads.reads.kept h)
