-- A file is shown.
use Rattle.std.proofs.Common.{◌≡◌, refl, ℕ, ◌+◌, Bool, true, false, Option, Err, List, [], ◌++◌, length, take, inl, inr, ap, sym, subst, ◌∙◌, arith, append-nil, length-append}
use Rattle.std.specs.Io.KnownBytes.{Appends}
use Rattle.std.proofs.KnownBytes.{Appends-kept, Appends-trans, Keeps-refl}
use Rattle.ffv1_wire.specs.Failures.{one_more}
use Rattle.ffv1_wire.specs.Passage.{Passage, between}
use Rattle.ffv1_record.specs.Accepted.{Accepted}
use Rattle.ffv1_files.specs.Places.{InAvi, InMatroska, Place, container_of}
use Rattle.ffv1_files.specs.declared.notes.Notes.{Notes}
use Rattle.ffv1_files.specs.Noted.{StreamsReached}
use Rattle.ffv1_files.specs.Readers.{Standing, others_at}
use Rattle.ffv1_reads.specs.Known.{Known}
use Rattle.ffv1_video.specs.declared.profile.Profile.{Profile}
use Rattle.ffv1_video.specs.declared.fault.Fault.{Fault}
use Rattle.ffv1_video.specs.declared.fault.Fault.TheVariants as fault
use Rattle.ffv1_unpack.specs.declared.frame_line.FrameLine.TheVariants as line
use Rattle.ffv1_video.specs.Faults.{Cause, cause_of}
use Rattle.ffv1_video.specs.Faults.Cause.{Reading, Writing, Memory, Content}
use Rattle.ffv1_unpack.specs.Behind.{NotedIn}
use Rattle.ffv1_unpack.specs.FrameLines.{frame_lines}
use Rattle.ffv1_unpack.specs.Internal.Containers.{told_at}
use Rattle.ffv1_unpack.specs.Internal.Located.{LocatedAfter}
use Rattle.ffv1_unpack.specs.Opens.{LacksOpeningBy}
use Rattle.ffv1_unpack.specs.Internal.Opens.{OpensStream, stream_of}
use Rattle.ffv1_unpack.specs.Play.{but_last}
use Rattle.ffv1_unpack.specs.Play.End.{File, Payload}
use Rattle.ffv1_unpack.specs.Plays.{FileThen, FramesThen, GoesFrom, GoesThen, HasThen, NextEnds, NextLacks, NextReadFails, NextStays, PlayStops, PlayStopsBy, ReadsFile, RefusedFrom, TextFails}
use Rattle.ffv1_unpack.specs.Internal.Plays.{PlaysAll}
use Rattle.ffv1_unpack.specs.Show.{ComesFrom, CostStops, ShowStops, ShowsCosts, ShowsStream, StreamStopsBy, cost_text}
use Rattle.ffv1_unpack.specs.Internal.Show.{NoDecoder, lines_of}
use Rattle.ffv1_unpack.specs.Stream.{Frame, IsFrame, frame_payload, payloads}
use Rattle.ffv1_unpack.specs.Ranges.{all_frames, number_in}
use Rattle.ffv1_unpack.specs.Told.{PayloadStopsFrom}
use Rattle.ffv1_unpack.specs.Internal.Told.{IsToldFault, TellingStops, WritesFrame}
use Rattle.ffv1_unpack.proofs.FaultsLocated.{nothing_behind}
use Rattle.ffv1_unpack.proofs.FilePlayed.{file_has}
use Rattle.ffv1_unpack.proofs.FramesPlayed.{has_stays}
use Rattle.ffv1_unpack.proofs.FramesInTurn.{reads_none}
use Rattle.ffv1_video.specs.Profiles.{scope_in}
use Rattle.ffv1_video.proofs.Output.{take_past}

-- if the lines of the stream were not written, it does not matter whether costs were asked for
pub before_costs : (profile : Profile) (input output : Passage) (cost : Bool) (f : Fault) → StreamStopsBy profile input output f (cause_of f) → ShowStops profile input output cost f
before_costs profile input output false f h = h
before_costs profile input output true f h = inl h

-- the faults of telling frames have none for a file without them
told_none : (r : Standing) (left : Option (List ℕ)) (place : Place) → told_at r left place fault.NoFrames → ⊥
told_none r left (InAvi place) (is, whole) = absurd (cc)
told_none r left (InMatroska segment track place) other = absurd (let no : false ≡ true = other in cc)

pub told_some : (r : Standing) (left : Option (List ℕ)) → IsToldFault r left fault.NoFrames → ⊥
told_some r left own = elim own [
  | inl telling ↦ absurd (let no : false ≡ true = telling in cc)
  | inr other ↦ told_none r left r.place other
]

module _ (profile : Profile) (i0 i1 o0 o1 : Option (List ℕ)) (ib im ob om : ℕ) where
  -- a file that is not opened
  pub lacks_stream : (f : Fault) (why : Cause) → LacksOpeningBy profile (between i0 i1 ib im) f why → StreamStopsBy profile (between i0 i1 ib im) (between o0 o0 ob ob) f why
  lacks_stream f Writing h = absurd h
  lacks_stream f Reading h = (record { kept = Keeps-refl o0; same = refl }, h)
  lacks_stream f Memory h = (record { kept = Keeps-refl o0; same = refl }, h)
  lacks_stream f Content h = (record { kept = Keeps-refl o0; same = refl }, h)

  module _ (r : Standing) (a : Accepted) (opens : OpensStream profile r a (between i0 i1 ib im)) (streams : StreamsReached (scope_in profile) i0 i1 r) where
    -- its lines are written, or not
    pub shows : om ≡ ob → Appends o0 o1 (lines_of r a) → ShowsStream profile (between i0 i1 ib im) (between o0 o1 ob om)
    shows same writes = record {
      stream = stream_of r a;
      is = opens.stream;
      place = r.place;
      opens = opens.known;
      counted = r.others;
      counts = streams;
      kept = opens.kept;
      written = same;
      writes = writes;
    }

    pub text_stops : (f : Fault) → WritesFrame (lines_of r a) (between o0 o1 ob om) (Err f) → StreamStopsBy profile (between i0 i1 ib im) (between o0 o1 ob om) f (cause_of f)
    text_stops f h = elim h [
      | inl write ↦
          subst (λ z. StreamStopsBy profile (between i0 i1 ib im) (between o0 o1 ob om) z (cause_of z)) (sym write.0) (record {
            stream = stream_of r a;
            is = opens.stream;
            place = r.place;
            opens = opens.known;
            counted = r.others;
            counts = streams;
            kept = opens.kept;
            written = write.1;
            writes = write.2;
          })
      | inr none ↦ subst (λ z. StreamStopsBy profile (between i0 i1 ib im) (between o0 o1 ob om) z (cause_of z)) (sym none.0)
          (record { kept = none.2; same = none.1 }, (opens.kept, inr (inr (record { stream = stream_of r a; is = opens.stream; place = r.place; known = opens.known }))))
    ]

module _ (profile : Profile) (i0 i1 i2 o0 o1 o2 : Option (List ℕ)) (ib im ia ob om oa : ℕ) (r : Standing) (a : Accepted) (opens : OpensStream profile r a (between i0 i1 ib im)) (streams : StreamsReached (scope_in profile) i0 i1 r) (same : om ≡ ob)
    (writes : Appends o0 o1 (lines_of r a)) where
  abbrev from : ComesFrom profile i0 r.head
  from = record { place = r.place; rest = i1; opens = opens.known; counted = r.others; counts = streams }

  behind : (bytes : List ℕ) → Appends o1 o2 bytes → Appends o0 o2 (lines_of r a ++ bytes)
  behind bytes more = Appends-trans o0 o1 o2 (lines_of r a) bytes writes more

  abbrev text : List Frame → List ℕ
  text frames = cost_text (container_of r.place) (others_at r.place r.others) (stream_of r a) frames

  abbrev lines : List Frame → List ℕ
  lines frames = frame_lines line.Cost a.configuration frames

  -- after the lines of the stream, those of these frames; and then this stands
  goes_then : (frames : List Frame) (Next : Place → List ℕ → List ℕ → Type 0) → GoesThen (IsFrame a) frame_payload (HasThen r.place) lines (between i1 i2 im ia) (between o1 o2 om oa) frames Next →
      GoesThen (IsFrame a) frame_payload (FileThen profile r.head) text (between i0 i2 ib ia) (between o0 o2 ob oa) frames Next
  goes_then frames Next h = record { are = h.are; has = file_has profile i0 i1 i2 r.head r.place opens.known (payloads frames) Next h.has }

  then : (frames : List Frame) (Next : Place → List ℕ → List ℕ → Type 0) → GoesThen (IsFrame a) frame_payload (HasThen r.place) lines (between i1 i2 im ia) (between o1 o2 om oa) frames Next →
      oa ≡ om → Appends o1 o2 (lines frames) → FramesThen (FileThen profile r.head) a text (between i0 i2 ib ia) (between o0 o2 ob oa) frames Next
  then frames Next h silent wrote = record { goes = goes_then frames Next h; wrote = record { written = silent ∙ same; writes = behind (lines frames) wrote } }

  stops : (f : Fault) → (f ≡ fault.NoFrames → ⊥) → PlayStops (FileThen profile r.head) a text (between i0 i2 ib ia) (between o0 o2 ob oa) f → CostStops profile (between i0 i2 ib ia) (between o0 o2 ob oa) f
  stops f some h = record { stream = stream_of r a; is = opens.stream; comes = from; some = some; stops = h }

  abbrev Refused : List Frame → Fault → Type 0
  Refused frames f = RefusedFrom (IsFrame a) frame_payload (HasThen r.place) lines (between i1 i2 im ia) (between o1 o2 om oa) (number_in all_frames) (LocatedAfter r (between i1 i2 im ia)) false frames f

  -- if no line of a byte is asked for
  unlocated : (frames : List Frame) (Next : Place → List ℕ → List ℕ → Type 0) (f : Fault) → Refused frames f →
      GoesThen (IsFrame a) frame_payload (HasThen r.place) lines (between i1 i2 im ia) (between o1 o2 om oa) frames Next →
      FramesThen (FileThen profile r.head) a text (between i0 i2 ib ia) (between o0 o2 ob oa) frames Next
  unlocated frames Next f h goes =
      let silent = nothing_behind (lines frames) (between o1 o2 om oa) h.writes in
      then frames Next goes silent.0 silent.1

  line_fails : (frames : List Frame) → TextFails (IsFrame a) frame_payload (HasThen r.place) lines (between i1 i2 im ia) (between o1 o2 om oa) frames →
      TextFails (IsFrame a) frame_payload (FileThen profile r.head) text (between i0 i2 ib ia) (between o0 o2 ob oa) frames
  line_fails frames h =
      let head = lines_of r a in
      let fewer = lines (but_last frames) in
      let long : length (head ++ lines frames) ≡ length head + length (lines frames) = length-append head (lines frames) in
      let short : length (head ++ fewer) ≡ length head + length fewer = length-append head fewer in
      record {
        goes = goes_then frames NextStays h.goes;
        kept = h.kept ∙ opens.kept;
        written = h.written ∙ ap one_more same;
        writes = record {
          count = length head + h.writes.count;
          enough = omega (arith, short, h.writes.enough);
          short = omega (arith, long, h.writes.short);
          writes = subst (Appends o0 o2) (sym (take_past head (lines frames) h.writes.count)) (behind (take h.writes.count (lines frames)) h.writes.writes);
        };
      }

  stops_by : (f : Fault) (why : Cause) →
      GoesFrom (IsFrame a) frame_payload (HasThen r.place) lines (between i1 i2 im ia) (between o1 o2 om oa) (number_in all_frames) (LocatedAfter r (between i1 i2 im ia)) false f why →
      PlayStopsBy (FileThen profile r.head) a text (between i0 i2 ib ia) (between o0 o2 ob oa) f why
  stops_by f Writing h = (h.0, line_fails h.0 h.1)
  stops_by f Reading h = (h.2 ∙ ap one_more opens.kept, h.0, unlocated h.0 NextReadFails f h.1 h.3)
  stops_by f Memory h = (h.1 ∙ opens.kept, inl (h.0, then h.0 (NextLacks (IsFrame a) frame_payload) h.2.goes h.2.wrote.written h.2.wrote.writes))
  stops_by f Content h = (h.2 ∙ opens.kept, record { frames = h.0; end = File f; plays = unlocated h.0 (NextEnds (File f)) f h.1 h.3; faulty = tt; is = refl })

  payload_stops : (f : Fault) → PayloadStopsFrom (HasThen r.place) lines (number_in all_frames) false a (between i1 i2 im ia) (between o1 o2 om oa) f → PlayStops (FileThen profile r.head) a text (between i0 i2 ib ia) (between o0 o2 ob oa) f
  payload_stops f h =
      let silent = nothing_behind (lines h.frames) (between o1 o2 om oa) h.writes in
      let end = Payload h.payload h.fault h.tally in
      subst (PlayStopsBy (FileThen profile r.head) a text (between i0 i2 ib ia) (between o0 o2 ob oa) f) (sym h.content)
      (h.kept ∙ opens.kept, record { frames = h.frames; end = end; plays = then h.frames (NextEnds end) h.goes silent.0 silent.1; faulty = h.faulty; is = h.is })

  -- the decoder was refused its memory
  pub no_decoder : (f : Fault) → NoDecoder (between i1 i2 im ia) (between o1 o2 om oa) f → CostStops profile (between i0 i2 ib ia) (between o0 o2 ob oa) f
  no_decoder f h =
      let head = lines_of r a in
      subst (CostStops profile (between i0 i2 ib ia) (between o0 o2 ob oa)) (sym h.is) (stops fault.OutOfMemory (λ e. cc) (
        h.unread ∙ opens.kept,
        inr (record {
          goes = record {
            are = tt;
            has = file_has profile i0 i1 i2 r.head r.place opens.known [] NextStays (subst (λ z. Known i1 z (HasThen r.place [] NextStays)) h.left (has_stays r.place r.place i1 i1 [] (reads_none r.place i1)));
          };
          wrote = record { written = h.silent.same ∙ same; writes = subst (Appends o0 o2) (sym (append-nil head)) (Appends-kept o0 o1 o2 head writes h.silent.kept) };
        }),
      ))

  pub costs_stop : (f : Fault) → (f ≡ fault.NoFrames → ⊥) → TellingStops (HasThen r.place) line.Cost all_frames false a (between i1 i2 im ia) (between o1 o2 om oa) (LocatedAfter r (between i1 i2 im ia)) false f → CostStops profile (between i0 i2 ib ia) (between o0 o2 ob oa) f
  costs_stop f some h = elim h [
    | inl payload ↦ stops f some (payload_stops f payload)
    | inr other ↦ stops f some (stops_by f (cause_of f) other)
  ]

  pub shows_costs : (notes : Notes) (frames : List Frame) → PlaysAll (IsFrame a) frame_payload (HasThen r.place) lines (between i1 i2 im ia) (between o1 o2 om oa) notes frames →
      ReadsFile profile notes i0 i2 (stream_of r a) frames → NotedIn profile (between i0 i2 ib ia) notes → ShowsCosts profile (between i0 i2 ib ia) (between o0 o2 ob oa) notes
  shows_costs notes frames told reads noted = record {
    stream = stream_of r a;
    frames = frames;
    played = record { stream = opens.stream; decoded = told.plays.goes.are };
    reads = reads;
    of_file = noted;
    kept = told.kept ∙ opens.kept;
    written = told.plays.wrote.written ∙ same;
    comes = from;
    writes = behind (lines frames) told.plays.wrote.writes;
  }
