-- What is played of a file is played one after the other.
use Rattle.std.proofs.Common.{◌≡◌, refl, ℕ, ◌+◌, ◌<◌, ◌≤◌, Bool, true, false, Option, Some, None, Ok, Err, List, [], ◌∷◌, ◌++◌, length, map, take, inl, inr, ap, sym, subst, ◌∙◌, arith, length-append, ◌⊎◌}
use Rattle.std.specs.Io.KnownBytes.{Appends}
use Rattle.std.proofs.KnownBytes.{Appends-nil, Appends-trans, Appends-kept}
use Rattle.std.proofs.lemmas.Bool.{ltb-true}
use Rattle.ffv1_range.specs.Counts.{saturated}
use Rattle.ffv1_wire.specs.Failures.{one_more}
use Rattle.ffv1_wire.specs.Passage.{Passage, between}
use Rattle.ffv1_record.specs.Accepted.{Accepted}
use Rattle.ffv1_frame.specs.declared.fault.CodecFault.{CodecFault}
use Rattle.ffv1_frame.specs.declared.fault.CodecFault.TheVariants as codec_fault
use Rattle.ffv1_files.specs.Files.{frame_read}
use Rattle.ffv1_files.specs.Places.{Place}
use Rattle.ffv1_files.specs.declared.notes.Notes.{Notes}
use Rattle.ffv1_files.specs.Readers.{Standing}
use Rattle.ffv1_reads.specs.Known.{Known}
use Rattle.ffv1_video.specs.declared.fault.Fault.{Fault}
use Rattle.ffv1_video.specs.Faults.{Cause, cause_of, of_codec}
use Rattle.ffv1_video.specs.Faults.Cause.{Reading, Writing, Memory, Content}
use Rattle.ffv1_unpack.specs.Located.{LocatedFault, WritesLine, WritesLocated, located_text}
use Rattle.ffv1_unpack.specs.Internal.Located.{LocatedAfter, StaysReached}
use Rattle.ffv1_unpack.specs.Internal.Play.{ReadsEnd}
use Rattle.ffv1_unpack.specs.Play.End.{File, Payload}
use Rattle.ffv1_unpack.specs.Plays.{AtMost, GoesFrom, GoesThen, HasThen, NextBehindBy, NextEnds, NextHasFault, NextLacks, NextOver, NextPayloadLacks, NextReadFails, NextStays, PlaysThen, PlayStops, PlayStopsBy, RefusedFrom, TextFails, has_more}
use Rattle.ffv1_unpack.specs.Internal.Plays.{OneStopsBy, PayloadFaults, PlaysFrame, PlaysMost, PlaysOne}
use Rattle.ffv1_unpack.specs.Stream.{AreAll, Frame, IsFrame, ReadsFrames, frame_payload}
use Rattle.ffv1_unpack.specs.Internal.Told.{StopsFromBy, WritesFrame}
use Rattle.ffv1_video.specs.Output.{Silent}
use Rattle.ffv1_unpack.proofs.FaultsLocated.{memory_silent}
use Rattle.ffv1_unpack.proofs.FramesInTurn.{all_more, but_last_more, counted_more, reads_more, reads_none}
use Rattle.ffv1_video.proofs.Output.{silent, take_past}
use Rattle.ffv1_video.proofs.KnownTexts.{known_map, known_then}

-- ---- payloads, and what comes after them

-- first these payloads, and then this
pub has_then : (from to : Place) (o m n : Option (List ℕ)) (ps : List (List ℕ)) (Next : Place → List ℕ → List ℕ → Type 0) → Known o m (λ bytes rest. ReadsFrames from bytes ps to rest) → Known m n (Next to) →
    Known o n (HasThen from ps Next)
has_then from to o m n ps Next read next =
    known_map o n (λ bytes rest. (left : List ℕ) × ReadsFrames from bytes ps to left × Next to left rest) (HasThen from ps Next) (λ bytes rest p. (to, p.0, p.1, p.2))
    (known_then o m n (λ bytes rest. ReadsFrames from bytes ps to rest) (Next to) read next)

pub has_stays : (from to : Place) (o n : Option (List ℕ)) (ps : List (List ℕ)) → Known o n (λ bytes rest. ReadsFrames from bytes ps to rest) → Known o n (HasThen from ps NextStays)
has_stays from to o n ps read = known_map o n (λ bytes rest. ReadsFrames from bytes ps to rest) (HasThen from ps NextStays) (λ bytes rest r. (to, rest, r, refl)) read

-- ---- written lines, and where the file is refused after them

-- after lines that were written a further one is
pub line_behind : (o m n : Option (List ℕ)) (b c a : ℕ) (lines last : List ℕ) → c ≡ b → Appends o m lines → WritesLine [] last (between m n c a) → WritesLine lines last (between o n b a)
line_behind o m n b c a lines last same first next = elim next [
  | inl whole ↦ inl (whole.0 ∙ same, Appends-trans o m n lines last first whole.1)
  | inr part ↦ inr (part.0 ∙ ap one_more same, part.1, part.2, Appends-trans o m n lines (take part.1 last) first part.3)
]

-- where a file is refused after what a reader has read, and after lines that were written
pub located_behind : (from to : Standing) (i0 i1 i2 o0 o1 o2 : Option (List ℕ)) (ib im ia ob om oa : ℕ) (byte : Bool) (i n : ℕ) (lines : List ℕ) → i ≡ n → im ≡ ib → StaysReached from to (between i0 i1 ib im) →
    om ≡ ob → Appends o0 o1 lines → (f : Fault) → WritesLocated (LocatedAfter to (between i1 i2 im ia)) byte i [] f (between o1 o2 om oa) → WritesLocated (LocatedAfter from (between i0 i2 ib ia)) byte n lines f (between o0 o2 ob oa)
located_behind from to i0 i1 i2 o0 o1 o2 ib im ia ob om oa byte i n lines is kept reached written first f h = record {
  offset = h.offset;
  stops = λ scope text begun. subst (λ z. LocatedFault scope (between text i2 z ia) f h.offset) kept (h.stops scope text (reached scope text begun));
  writes =
      subst (λ z. WritesLine lines (located_text byte z f h.offset) (between o0 o2 ob oa)) is
      (line_behind o0 o1 o2 ob om oa lines (located_text byte i f h.offset) written first h.writes);
}

-- ---- so far

-- these were played, up to this place
pub record SoFar {X : Type 0} (Is : X → Type 0) (payload : X → List ℕ) (text : List X → List ℕ) (from : Place) (input output : Passage) (xs : List X) (to : Place) : Type 0 where
  pub are : AreAll Is xs
  pub read : Known input.old input.new (λ bytes rest. ReadsFrames from bytes (map payload xs) to rest)
  pub kept : input.after ≡ input.before
  pub written : output.after ≡ output.before
  pub writes : Appends output.old output.new (text xs)

module _ {X : Type 0} (Is : X → Type 0) (payload : X → List ℕ) (text : List X → List ℕ) where
  pub none_yet : text [] ≡ [] → (from : Place) (i o : Option (List ℕ)) (ib ob : ℕ) → SoFar Is payload text from (between i i ib ib) (between o o ob ob) [] from
  none_yet none from i o ib ob = record { are = tt; read = reads_none from i; kept = refl; written = refl; writes = subst (Appends o o) (sym none) (Appends-nil o) }

module _ {X : Type 0} (Is : X → Type 0) (payload : X → List ℕ) (text : List X → List ℕ) (from to last : Place) (i0 i1 i2 o0 o1 o2 : Option (List ℕ)) (ib im ia ob om oa : ℕ)
    (xs : List X) (so : SoFar Is payload text from (between i0 i1 ib im) (between o0 o1 ob om) xs to) where
  -- and then this
  pub goes_on : (Next : Place → List ℕ → List ℕ → Type 0) → Known i1 i2 (Next to) → GoesThen Is payload (HasThen from) text (between i0 i2 ib ia) (between o0 o2 ob oa) xs Next
  goes_on Next next = record { are = so.are; has = has_then from to i0 i1 i2 (map payload xs) Next so.read next }

  pub plays_on : (Next : Place → List ℕ → List ℕ → Type 0) → Silent (between o1 o2 om oa) → Known i1 i2 (Next to) →
      PlaysThen Is payload (HasThen from) text (between i0 i2 ib ia) (between o0 o2 ob oa) xs Next
  plays_on Next none next = record { goes = goes_on Next next; wrote = record { written = none.same ∙ so.written; writes = Appends-kept o0 o1 o2 (text xs) so.writes none.kept } }

  -- and there is no further one
  pub plays_over : (notes : Notes) (most : Option ℕ) → has_more most (length xs) ≡ true → AtMost most (length xs) → ReadsEnd to notes (between i1 i2 im ia) → Silent (between o1 o2 om oa) →
      PlaysMost Is payload (HasThen from) text (between i0 i2 ib ia) (between o0 o2 ob oa) notes most xs
  plays_over notes most room few over none = record {
    plays = subst (λ b. PlaysThen Is payload (HasThen from) text (between i0 i2 ib ia) (between o0 o2 ob oa) xs (NextBehindBy notes b)) (sym room) (plays_on (NextOver notes) none over.over);
    few = few;
    kept = over.kept ∙ so.kept;
  }

  -- one was played, whose text comes next
  module _ (line : X → List ℕ) (more : (x : X) → text (xs ++ (x ∷ [])) ≡ text xs ++ line x) where
    pub one_so : (x : X) → PlaysOne Is payload to last (between i1 i2 im ia) x → oa ≡ om → Appends o1 o2 (line x) →
        SoFar Is payload text from (between i0 i2 ib ia) (between o0 o2 ob oa) (xs ++ (x ∷ [])) last
    one_so x here same writes = record {
      are = all_more Is xs x so.are here.is;
      read = reads_more payload from to last i0 i1 i2 xs x so.read here.reads.next;
      kept = here.reads.kept ∙ so.kept;
      written = same ∙ so.written;
      writes = subst (Appends o0 o2) (sym (more x)) (Appends-trans o0 o1 o2 (text xs) (line x) so.writes writes);
    }

    pub text_fails : (x : X) → PlaysOne Is payload to last (between i1 i2 im ia) x → oa ≡ one_more om → (k : ℕ) → k < length (line x) → Appends o1 o2 (take k (line x)) →
        TextFails Is payload (HasThen from) text (between i0 i2 ib ia) (between o0 o2 ob oa) (xs ++ (x ∷ []))
    text_fails x here counted k short writes =
        let all = xs ++ (x ∷ []) in
        let long : length (text xs ++ line x) ≡ length (text xs) + length (line x) = length-append (text xs) (line x) in
        let enough : length (text xs) ≤ length (text xs) + k = omega arith in
        let few : length (text xs) + k < length (text xs ++ line x) = omega (arith, long, short) in
        record {
          goes = record {
            are = all_more Is xs x so.are here.is;
            has = has_stays from last i0 i2 (map payload all) (reads_more payload from to last i0 i1 i2 xs x so.read here.reads.next);
          };
          kept = here.reads.kept ∙ so.kept;
          written = counted ∙ ap one_more so.written;
          writes = record {
            count = length (text xs) + k;
            enough = subst (λ ys. length (text ys) ≤ length (text xs) + k) (sym (but_last_more xs x)) enough;
            short = subst (λ t. length (text xs) + k < length t) (sym (more x)) few;
            writes =
                subst (λ t. Appends o0 o2 (take (length (text xs) + k) t)) (sym (more x))
                (subst (Appends o0 o2) (sym (take_past (text xs) (line x) k)) (Appends-trans o0 o1 o2 (text xs) (take k (line x)) so.writes writes));
          };
        }

-- as many were played as are wanted
pub plays_full : {X : Type 0} (Is : X → Type 0) (payload : X → List ℕ) (text : List X → List ℕ) (from to : Place) (i0 i1 o0 o1 : Option (List ℕ)) (ib im ob om : ℕ) (xs : List X) →
    SoFar Is payload text from (between i0 i1 ib im) (between o0 o1 ob om) xs to → (notes : Notes) (most : Option ℕ) → has_more most (length xs) ≡ false → AtMost most (length xs) →
    PlaysMost Is payload (HasThen from) text (between i0 i1 ib im) (between o0 o1 ob om) notes most xs
plays_full Is payload text from to i0 i1 o0 o1 ib im ob om xs so notes most full few = record {
  plays = subst (λ b. PlaysThen Is payload (HasThen from) text (between i0 i1 ib im) (between o0 o1 ob om) xs (NextBehindBy notes b)) (sym full) (record {
    goes = record { are = so.are; has = has_stays from to i0 i1 (map payload xs) so.read };
    wrote = record { written = so.written; writes = so.writes };
  });
  few = few;
  kept = so.kept;
}

pub none_at_most : (most : Option ℕ) → AtMost most 0
none_at_most None = tt
none_at_most (Some most) = omega arith

pub one_at_most : {X : Type 0} (most : Option ℕ) (xs : List X) (x : X) → has_more most (length xs) ≡ true → AtMost most (length (xs ++ (x ∷ [])))
one_at_most None xs x room = tt
one_at_most (Some most) xs x room =
    let less = ltb-true (length xs) most room in
    let counted = counted_more xs x in
    omega (arith, less, counted)

-- why it goes no further, if the line of that is written
module _ {X : Type 0} (Is : X → Type 0) (payload : X → List ℕ) (text : List X → List ℕ) (byte : Bool) (number : ℕ → ℕ) (from to : Standing) (last : Place) (i0 i1 i2 o0 o1 o2 : Option (List ℕ)) (ib im ia ob om oa : ℕ)
    (xs : List X) (so : SoFar Is payload text from.place (between i0 i1 ib im) (between o0 o1 ob om) xs to.place) (reached : StaysReached from to (between i0 i1 ib im))
    (line : X → List ℕ) (more : (x : X) → text (xs ++ (x ∷ [])) ≡ text xs ++ line x) (i : ℕ) (is : i ≡ number (length xs)) where
  located : (f : Fault) → WritesLocated (LocatedAfter to (between i1 i2 im ia)) byte i [] f (between o1 o2 om oa) →
      RefusedFrom Is payload (HasThen from.place) text (between i0 i2 ib ia) (between o0 o2 ob oa) number (LocatedAfter from (between i0 i2 ib ia)) byte xs f
  located f h = located_behind from to i0 i1 i2 o0 o1 o2 ib im ia ob om oa byte i (number (length xs)) (text xs) is so.kept reached so.written so.writes f h

  comes : (Next : Place → List ℕ → List ℕ → Type 0) → Known i1 i2 (Next to.place) → GoesThen Is payload (HasThen from.place) text (between i0 i2 ib ia) (between o0 o2 ob oa) xs Next
  comes = goes_on Is payload text from.place to.place last i0 i1 i2 o0 o1 o2 ib im ia ob om oa xs so

  pub goes_by : (f : Fault) (why : Cause) →
      OneStopsBy Is payload line (λ g. WritesLocated (LocatedAfter to (between i1 i2 im ia)) byte i [] g (between o1 o2 om oa)) to.place last (between i1 i2 im ia) (between o1 o2 om oa) f why →
      GoesFrom Is payload (HasThen from.place) text (between i0 i2 ib ia) (between o0 o2 ob oa) number (LocatedAfter from (between i0 i2 ib ia)) byte f why
  goes_by f Writing h = (xs ++ (h.0 ∷ []), text_fails Is payload text from.place to.place last i0 i1 i2 o0 o1 o2 ib im ia ob om oa xs so line more h.0 h.1 h.2 h.3.0 h.3.1 h.3.2)
  goes_by f Reading h = (xs, located f h.0, h.1 ∙ ap one_more so.kept, comes NextReadFails h.2)
  goes_by f Memory h = (xs, h.1 ∙ so.kept, plays_on Is payload text from.place to.place last i0 i1 i2 o0 o1 o2 ib im ia ob om oa xs so (NextLacks Is payload) h.0 h.2)
  goes_by f Content h = (xs, located f h.0, h.1 ∙ so.kept, comes (NextHasFault f) h.2)

-- ---- frames, by how many there were

pub record PlayedSo (a : Accepted) (text : List Frame → List ℕ) (from : Place) (input output : Passage) (count : ℕ) (to : Place) : Type 0 where
  pub frames : List Frame
  pub is : count ≡ saturated (length frames)
  pub so : SoFar (IsFrame a) frame_payload text from input output frames to

module _ (a : Accepted) (text : List Frame → List ℕ) (none : text [] ≡ []) (from : Place) (i o : Option (List ℕ)) (ib ob : ℕ) where
  unfoldable pub played_none : PlayedSo a text from (between i i ib ib) (between o o ob ob) 0 from
  played_none =
      let no_count : 0 ≡ saturated 0 = omega arith in
      record { frames = []; is = no_count; so = none_yet (IsFrame a) frame_payload text none from i o ib ob }

  -- memory for what keeps a picture was refused
  pub wants_memory : (f : CodecFault) → f ≡ codec_fault.OutOfMemory → PlayStops (HasThen from) a text (between i i ib ib) (between o o ob ob) (of_codec f)
  wants_memory f is =
      subst (λ z. PlayStops (HasThen from) a text (between i i ib ib) (between o o ob ob) (of_codec z)) (sym is) (
        refl,
        inr (record {
          goes = record { are = tt; has = has_stays from from i i [] (reads_none from i) };
          wrote = record { written = refl; writes = subst (Appends o o) (sym none) (Appends-nil o) };
        }),
      )

module _ (a : Accepted) (text : List Frame → List ℕ) (from to last : Place) (count : ℕ) (i0 i1 i2 o0 o1 o2 : Option (List ℕ)) (ib im ia ob om oa : ℕ)
    (so : PlayedSo a text from (between i0 i1 ib im) (between o0 o1 ob om) count to) where
  pub played_over : (notes : Notes) (most : Option ℕ) → has_more most (length so.frames) ≡ true → AtMost most (length so.frames) → ReadsEnd to notes (between i1 i2 im ia) → Silent (between o1 o2 om oa) →
      PlaysMost (IsFrame a) frame_payload (HasThen from) text (between i0 i2 ib ia) (between o0 o2 ob oa) notes most so.frames
  played_over = plays_over (IsFrame a) frame_payload text from to last i0 i1 i2 o0 o1 o2 ib im ia ob om oa so.frames so.so

  then : (Next : Place → List ℕ → List ℕ → Type 0) → Silent (between o1 o2 om oa) → Known i1 i2 (Next to) →
      PlaysThen (IsFrame a) frame_payload (HasThen from) text (between i0 i2 ib ia) (between o0 o2 ob oa) so.frames Next
  then = plays_on (IsFrame a) frame_payload text from to last i0 i1 i2 o0 o1 o2 ib im ia ob om oa so.frames so.so

  module _ (line : Frame → List ℕ) (more : (f : Frame) → text (so.frames ++ (f ∷ [])) ≡ text so.frames ++ line f) where
    unfoldable pub played_more : (f : Frame) (new : ℕ) → new ≡ saturated (length (so.frames ++ (f ∷ []))) → PlaysFrame a to last (between i1 i2 im ia) f → oa ≡ om → Appends o1 o2 (line f) →
        PlayedSo a text from (between i0 i2 ib ia) (between o0 o2 ob oa) new last
    played_more f new is here same writes = record {
      frames = so.frames ++ (f ∷ []);
      is = is;
      so = one_so (IsFrame a) frame_payload text from to last i0 i1 i2 o0 o1 o2 ib im ia ob om oa so.frames so.so line more f here same writes;
    }

    -- why it goes no further, if a refusal writes nothing
    stops_by : (f : Fault) (why : Cause) → OneStopsBy (IsFrame a) frame_payload line (λ g. Silent (between o1 o2 om oa)) to last (between i1 i2 im ia) (between o1 o2 om oa) f why →
        PlayStopsBy (HasThen from) a text (between i0 i2 ib ia) (between o0 o2 ob oa) f why
    stops_by f Writing p =
        (so.frames ++ (p.0 ∷ []), text_fails (IsFrame a) frame_payload text from to last i0 i1 i2 o0 o1 o2 ib im ia ob om oa so.frames so.so line more p.0 p.1 p.2 p.3.0 p.3.1 p.3.2)
    stops_by f Reading p = (p.1 ∙ ap one_more so.so.kept, so.frames, then NextReadFails p.0 p.2)
    stops_by f Memory p = (p.1 ∙ so.so.kept, inl (so.frames, then (NextLacks (IsFrame a) frame_payload) p.0 p.2))
    stops_by f Content p = (p.1 ∙ so.so.kept, record { frames = so.frames; end = File f; plays = then (NextEnds (File f)) p.0 p.2; faulty = tt; is = refl })

    payload_stops : (f : Fault) → Silent (between o1 o2 om oa) → PayloadFaults a to last (between i1 i2 im ia) f → PlayStops (HasThen from) a text (between i0 i2 ib ia) (between o0 o2 ob oa) f
    payload_stops f none p =
        let end = Payload p.payload p.fault p.tally in
        subst (PlayStopsBy (HasThen from) a text (between i0 i2 ib ia) (between o0 o2 ob oa) f) (sym p.content) (
          p.reads.kept ∙ so.so.kept,
          record {
            frames = so.frames;
            end = end;
            plays = then (NextEnds end) none (known_map i1 i2 (λ bytes rest. frame_read to bytes ≡ Ok (Some (p.payload, last), rest)) (NextEnds end to) (λ bytes rest is. (last, is)) p.reads.next);
            faulty = p.faulty;
            is = p.is;
          },
        )

    pub play_stops : (f : Fault) →
        (Silent (between o1 o2 om oa) × PayloadFaults a to last (between i1 i2 im ia) f)
        ⊎ OneStopsBy (IsFrame a) frame_payload line (λ g. Silent (between o1 o2 om oa)) to last (between i1 i2 im ia) (between o1 o2 om oa) f (cause_of f) →
        PlayStops (HasThen from) a text (between i0 i2 ib ia) (between o0 o2 ob oa) f
    play_stops f h = elim h [
      | inl payload ↦ payload_stops f payload.0 payload.1
      | inr other ↦ stops_by f (cause_of f) other
    ]

-- ---- one

module _ {X : Type 0} (Is : X → Type 0) (payload : X → List ℕ) (line : X → List ℕ) where
  -- it was played, and its text was not written
  pub line_stops : (Refused : Fault → Type 0) (from to : Place) (input output : Passage) (x : X) (f : Fault) → PlaysOne Is payload from to input x → WritesFrame (line x) output (Err f) →
      OneStopsBy Is payload line Refused from to input output f (cause_of f)
  line_stops Refused from to input output x f plays answer = elim answer [
    | inl write ↦
        subst (λ z. OneStopsBy Is payload line Refused from to input output z (cause_of z)) (sym write.0) (x, plays, write.1, write.2)
    | inr none ↦
        subst (λ z. OneStopsBy Is payload line Refused from to input output z (cause_of z)) (sym none.0) (
          record { kept = none.2; same = none.1 },
          plays.reads.kept,
          known_map input.old input.new (λ bytes rest. frame_read from bytes ≡ Ok (Some (payload x, to), rest)) (NextLacks Is payload from) (λ bytes rest is. inr (x, plays.is, (to, is))) plays.reads.next,
        )
  ]

  lacks : (from : Place) (input : Passage) → Known input.old input.new (NextPayloadLacks from) → Known input.old input.new (NextLacks Is payload from)
  lacks from input h = known_map input.old input.new (NextPayloadLacks from) (NextLacks Is payload from) (λ bytes rest none. inl none) h

  -- there is none, and nothing was written
  pub file_stops : (from to : Place) (input : Passage) (o : Option (List ℕ)) (n : ℕ) (f : Fault) (why : Cause) → StopsFromBy from input f why →
      OneStopsBy Is payload line (λ g. Silent (between o o n n)) from to input (between o o n n) f why
  file_stops from to input o n f Reading stops = (silent o n, stops.0, stops.1)
  file_stops from to input o n f Writing stops = absurd stops
  file_stops from to input o n f Memory stops = (silent o n, stops.0, lacks from input stops.1)
  file_stops from to input o n f Content stops = (silent o n, stops.0, stops.1)

  -- or the line of that was
  pub file_refused : (byte : Bool) (i : ℕ) (from : Standing) (to : Place) (offset : ℕ) (input output : Passage) (f : Fault) (why : Cause) → cause_of f ≡ why →
      StopsFromBy from.place input f why → LocatedAfter from input f offset → WritesLine [] (located_text byte i f offset) output →
      OneStopsBy Is payload line (λ g. WritesLocated (LocatedAfter from input) byte i [] g output) from.place to input output f why
  file_refused byte i from to offset input output f Reading is h stops writes = (record { offset = offset; stops = stops; writes = writes }, h.0, h.1)
  file_refused byte i from to offset input output f Writing is h stops writes = absurd h
  file_refused byte i from to offset input output f Memory is h stops writes =
      let none = memory_silent byte i f offset output is writes in
      (record { kept = none.1; same = none.0 }, h.0, lacks from.place input h.1)
  file_refused byte i from to offset input output f Content is h stops writes = (record { offset = offset; stops = stops; writes = writes }, h.0, h.1)
