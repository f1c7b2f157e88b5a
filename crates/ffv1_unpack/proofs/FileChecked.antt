-- A file is checked, or a range of its frames.
use Rattle.std.proofs.Common.{◌≡◌, refl, ℕ, ◌+◌, ◌<◌, Bool, true, Option, Err, List, [], ◌++◌, length, map, take, inl, inr, ap, sym, subst, ◌∙◌, arith, length-append}
use Rattle.std.specs.Io.KnownBytes.{Appends}
use Rattle.std.proofs.KnownBytes.{Appends-trans, Appends-kept}
use Rattle.ffv1_range.specs.Counts.{saturated}
use Rattle.ffv1_wire.specs.Failures.{one_more}
use Rattle.ffv1_wire.specs.Passage.{between}
use Rattle.ffv1_record.specs.Accepted.{Accepted}
use Rattle.ffv1_record.specs.Configuration.{Configuration}
use Rattle.ffv1_files.specs.Places.{Place}
use Rattle.ffv1_files.specs.declared.notes.Notes.{Notes}
use Rattle.ffv1_files.specs.Readers.{Standing}
use Rattle.ffv1_reads.specs.Head.{Head}
use Rattle.ffv1_reads.specs.Known.{Known}
use Rattle.ffv1_words.specs.declared.order.FrameRange.{FrameRange}
use Rattle.ffv1_video.specs.declared.profile.Profile.{Profile}
use Rattle.ffv1_video.specs.Profiles.{byte_told, scope_in}
use Rattle.ffv1_video.specs.declared.fault.Fault.{Fault}
use Rattle.ffv1_video.specs.declared.fault.Fault.TheVariants as fault
use Rattle.ffv1_video.specs.Faults.{Cause, cause_of}
use Rattle.ffv1_video.specs.Faults.Cause.{Writing, Memory}
use Rattle.ffv1_unpack.specs.declared.frame_line.FrameLine.TheVariants as line
use Rattle.ffv1_unpack.specs.Behind.{NotedIn}
use Rattle.ffv1_unpack.specs.Check.{CheckRangeDone, CheckRangeStops, count_line, frame_count}
use Rattle.ffv1_unpack.specs.Checked.{AllOver, CheckGoes, CheckedStops, LastStopsFrom}
use Rattle.ffv1_unpack.specs.FrameLines.{lines_from}
use Rattle.ffv1_unpack.specs.Located.{LocatedFault, Stands, WritesLine, located_text}
use Rattle.ffv1_unpack.specs.Internal.Located.{LocatedAfter}
use Rattle.ffv1_unpack.specs.Internal.Opens.{OpensRange, stream_of}
use Rattle.ffv1_unpack.specs.Opens.{LacksOpening}
use Rattle.ffv1_unpack.specs.Plays.{GoesFrom, HasThen, NextBehind, NextIsPayload, NotedAfter, has_more}
use Rattle.ffv1_unpack.specs.Ranges.{RangeThen, number_in}
use Rattle.ffv1_unpack.specs.Internal.Plays.{PlaysMost}
use Rattle.ffv1_unpack.specs.Stream.{Frame, IsFrame, IsStream, frame_payload}
use Rattle.ffv1_unpack.specs.Internal.Told.{TellingStops, WritesFrame}
use Rattle.ffv1_unpack.proofs.FaultsLocated.{none_appended}
use Rattle.ffv1_unpack.proofs.FilePlayed.{goes_file, moves_whole, refused_file}
use Rattle.ffv1_unpack.proofs.FileRead.{no_items, positive}
use Rattle.ffv1_unpack.proofs.FramesNoted.{noted_by}
use Rattle.ffv1_unpack.proofs.FramesPassed.{range_has}
use Rattle.ffv1_video.proofs.Output.{take_past}

module _ {X : Type 0} (Is : Accepted → X → Type 0) (payload : X → List ℕ) (text : Configuration → List X → List ℕ) (last : List X → List ℕ)
    (Held : Head → List (List ℕ) → (Place → List ℕ → List ℕ → Type 0) → List ℕ → List ℕ → Type 0) (most : Option ℕ) (number : ℕ → ℕ) (profile : Profile) (place : Bool)
    (i0 i1 i2 o0 o1 o2 : Option (List ℕ)) (ib im ia ob om oa : ℕ) (r : Standing) (a : Accepted) (is : IsStream profile (stream_of r a))
    (leads : (ps : List (List ℕ)) (Next : Place → List ℕ → List ℕ → Type 0) → Known i1 i2 (HasThen r.place ps Next) → Known i0 i2 (Held r.head ps Next)) (kept : im ≡ ib) where
  abbrev lines : List X → List ℕ
  lines xs = text a.configuration xs

  pub check_goes : Stands (scope_in profile) i0 i1 r → (f : Fault) (why : Cause) →
      GoesFrom (Is a) payload (HasThen r.place) (text a.configuration) (between i1 i2 im ia) (between o0 o1 ob om) number (LocatedAfter r (between i1 i2 im ia)) (byte_told profile place) f why →
      CheckGoes Is payload text last Held most number profile place (between i0 i2 ib ia) (between o0 o1 ob om) f why
  check_goes reached f why h = record {
    stream = stream_of r a;
    is = is;
    goes =
        refused_file (Is a) payload (text a.configuration) (HasThen r.place) (Held r.head) i0 i1 i2 o0 o1 ib im ia ob om leads kept number number (λ n. refl)
        (LocatedAfter r (between i1 i2 im ia)) (LocatedFault (scope_in profile) (between i0 i2 ib ia)) (moves_whole (scope_in profile) r i0 i1 i2 ib im ia kept reached) (byte_told profile place) f why h;
  }

  -- all was played
  module _ (notes : Notes) (xs : List X) (all : PlaysMost (Is a) payload (HasThen r.place) (text a.configuration) (between i1 i2 im ia) (between o0 o1 ob om) notes most xs) where
    over : (o : Option (List ℕ)) (n : ℕ) → AllOver Is payload text last Held most number profile place (between i0 i2 ib ia) (between o0 o ob n) (stream_of r a) xs
    over o n = record {
      is = is;
      notes = notes;
      goes = record {
        are = all.plays.goes.are;
        has = (goes_file (Is a) payload (text a.configuration) (HasThen r.place) (Held r.head) i0 i1 i2 o0 o1 ib im ia ob om leads kept xs (NextBehind notes most (length xs)) all.plays.goes).has;
      };
      kept = all.kept ∙ kept;
    }

    pub no_frames : text a.configuration [] ≡ [] → length xs ≡ 0 →
        LastStopsFrom Is payload text last Held most number profile place (between i0 i2 ib ia) (between o0 o1 ob om) fault.NoFrames (cause_of fault.NoFrames)
    no_frames none few =
        let empty : xs ≡ [] = no_items xs few in (
          refl,
          record {
            stream = stream_of r a;
            over = subst (AllOver Is payload text last Held most number profile place (between i0 i2 ib ia) (between o0 o1 ob om) (stream_of r a)) empty (over o1 om);
            nothing = record {
              same = all.plays.wrote.written;
              kept = none_appended o0 o1 (subst (Appends o0 o1) none (subst (λ z. Appends o0 o1 (text a.configuration z)) empty all.plays.wrote.writes));
            };
          },
        )

    ends_by : (f : Fault) (why : Cause) → LastStopsFrom Is payload text last Held most number profile place (between i0 i2 ib ia) (between o0 o2 ob oa) f why → cause_of f ≡ why →
        LastStopsFrom Is payload text last Held most number profile place (between i0 i2 ib ia) (between o0 o2 ob oa) f (cause_of f)
    ends_by f why h is = subst (LastStopsFrom Is payload text last Held most number profile place (between i0 i2 ib ia) (between o0 o2 ob oa) f) (sym is) h

    pub last_stops : (f : Fault) → WritesFrame (last xs) (between o1 o2 om oa) (Err f) →
        LastStopsFrom Is payload text last Held most number profile place (between i0 i2 ib ia) (between o0 o2 ob oa) f (cause_of f)
    last_stops f h = elim h [
      | inl write ↦
          let k = write.2.0 in
          let long : length (lines xs ++ last xs) ≡ length (lines xs) + length (last xs) = length-append (lines xs) (last xs) in
          let few : k < length (last xs) = write.2.1 in
          ends_by f Writing (record {
            stream = stream_of r a;
            xs = xs;
            over = over o2 oa;
            written = write.1 ∙ ap one_more all.plays.wrote.written;
            writes = record {
              count = length (lines xs) + k;
              enough = omega arith;
              short = omega (arith, few, long);
              writes = subst (Appends o0 o2) (sym (take_past (lines xs) (last xs) k)) (Appends-trans o0 o1 o2 (lines xs) (take k (last xs)) all.plays.wrote.writes write.2.2);
            };
          }) (ap cause_of write.0)
      | inr none ↦
          ends_by f Memory (record {
            stream = stream_of r a;
            xs = xs;
            over = over o2 oa;
            wrote = record { written = none.1 ∙ all.plays.wrote.written; writes = Appends-kept o0 o1 o2 (lines xs) all.plays.wrote.writes none.2 };
          }) (ap cause_of none.0)
    ]

-- ---- by its frames

module _ (profile : Profile) (place : Bool) (range : FrameRange) (i0 i1 i2 o0 o1 o2 : Option (List ℕ)) (ib im ia ob om oa : ℕ) (r : Standing) (a : Accepted)
    (opens : OpensRange profile range.first r a (between i0 i1 ib im)) where
  abbrev told : Configuration → List Frame → List ℕ
  told c = lines_from line.Sizes c range.first

  abbrev leads : (ps : List (List ℕ)) (Next : Place → List ℕ → List ℕ → Type 0) → Known i1 i2 (HasThen r.place ps Next) → Known i0 i2 (RangeThen profile range.first r.head ps Next)
  leads = range_has profile range.first r.head r.place i0 i1 i2 opens.known

  pub telling_stops : Stands (scope_in profile) i0 i1 r → (f : Fault) →
      TellingStops (HasThen r.place) line.Sizes range place a (between i1 i2 im ia) (between o0 o1 ob om) (LocatedAfter r (between i1 i2 im ia)) (byte_told profile place) f →
      CheckRangeStops profile place range (between i0 i2 ib ia) (between o0 o1 ob om) f
  telling_stops reached f h = elim h [
    | inl p ↦
        inl (record {
          stream = stream_of r a;
          is = opens.stream;
          stops = record {
            frames = p.frames;
            payload = p.payload;
            fault = p.fault;
            tally = p.tally;
            goes =
                goes_file (IsFrame a) frame_payload (told a.configuration) (HasThen r.place) (RangeThen profile range.first r.head) i0 i1 i2 o0 o1 ib im ia ob om leads opens.kept p.frames
                (NextIsPayload p.payload) p.goes;
            faulty = p.faulty;
            is = p.is;
            content = p.content;
            kept = p.kept ∙ opens.kept;
            writes = p.writes;
          };
        })
    | inr other ↦
        inr (inr (inl (check_goes IsFrame frame_payload told frame_count (RangeThen profile range.first) range.count (number_in range) profile place i0 i1 i2 o0 o1 o2 ib im ia ob om oa r a opens.stream leads opens.kept
        reached f (cause_of f) other)))
  ]

  module _ (notes : Notes) (frames : List Frame) (count : ℕ) (is : count ≡ saturated (length frames))
      (all : PlaysMost (IsFrame a) frame_payload (HasThen r.place) (told a.configuration) (between i1 i2 im ia) (between o0 o1 ob om) notes range.count frames) where
    pub none_told : count ≡ 0 → CheckRangeStops profile place range (between i0 i2 ib ia) (between o0 o1 ob om) fault.NoFrames
    none_told none =
        let few : length frames ≡ 0 = omega (arith, is, none) in
        inr (inr (inr (no_frames IsFrame frame_payload told frame_count (RangeThen profile range.first) range.count (number_in range) profile place i0 i1 i2 o0 o1 o2 ib im ia ob om oa r a opens.stream leads
        opens.kept notes frames all refl few)))

    pub count_stops : (f : Fault) → WritesFrame (count_line count) (between o1 o2 om oa) (Err f) → CheckRangeStops profile place range (between i0 i2 ib ia) (between o0 o2 ob oa) f
    count_stops f h =
        inr (inr (inr (last_stops IsFrame frame_payload told frame_count (RangeThen profile range.first) range.count (number_in range) profile place i0 i1 i2 o0 o1 o2 ib im ia ob om oa r a opens.stream leads
        opens.kept notes frames all f (subst (λ n. WritesFrame (count_line n) (between o1 o2 om oa) (Err f)) is h))))

    pub done : (count ≡ 0 → ⊥) → oa ≡ om → Appends o1 o2 (count_line count) → (told : Notes) → (has_more range.count (length frames) ≡ true → told ≡ notes) → NotedAfter told range.count (length frames) →
        (has_more range.count (length frames) ≡ true → NotedIn profile (between i0 i2 ib ia) told) → CheckRangeDone profile place range (between i0 i2 ib ia) (between o0 o2 ob oa) told
    done some_frames kept writes told read unread noted_is = record {
      stream = stream_of r a;
      frames = frames;
      some = positive frames (λ none. some_frames (let zero_is : count ≡ 0 = omega (arith, is, none) in zero_is));
      few = all.few;
      played = record { stream = opens.stream; decoded = all.plays.goes.are };
      reads = noted_by (λ Next. Known i0 i2 (RangeThen profile range.first r.head (map frame_payload frames) Next)) notes told (has_more range.count (length frames)) read
          (goes_file (IsFrame a) frame_payload (lines_from line.Sizes a.configuration range.first) (HasThen r.place) (RangeThen profile range.first r.head) i0 i1 i2 o0 o1 ib im ia ob om leads opens.kept frames
          (NextBehind notes range.count (length frames)) all.plays.goes).has;
      noted = unread;
      of_file = noted_is;
      kept = all.kept ∙ opens.kept;
      written = kept ∙ all.plays.wrote.written;
      writes =
          subst (λ n. Appends o0 o2 (lines_from line.Sizes a.configuration range.first frames ++ count_line n)) is
          (Appends-trans o0 o1 o2 (lines_from line.Sizes a.configuration range.first frames) (count_line count) all.plays.wrote.writes writes);
    }

-- ---- a file that is not opened

module _ {X : Type 0} (Is : Accepted → X → Type 0) (payload : X → List ℕ) (text : Configuration → List X → List ℕ) (last : List X → List ℕ) (profile : Profile) (place : Bool)
    (i0 i1 o0 o1 : Option (List ℕ)) (ib im ob om : ℕ) where
  pub lacks_opening : (f : Fault) (offset : ℕ) → LacksOpening profile (between i0 i1 ib im) f → LocatedFault (scope_in profile) (between i0 i1 ib im) f offset →
      WritesLine [] (located_text (byte_told profile place) 0 f offset) (between o0 o1 ob om) → CheckedStops Is payload text last profile place (between i0 i1 ib im) (between o0 o1 ob om) f
  lacks_opening f offset h stops writes = inl (record { offset = offset; stops = stops; writes = writes }, h)
