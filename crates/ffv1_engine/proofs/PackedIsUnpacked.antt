-- A video that was packed is unpacked.
use Rattle.std.proofs.Common.{◌≡◌, refl, ℕ, suc, ◌<◌, ◌≤◌, Bool, true, false, Option, Some, None, Result, Ok, inl, inr, List, [], ◌∷◌, ◌++◌, length, map, ap, sym, subst, ◌∙◌, arith, append-nil}
use Rattle.std.specs.Io.KnownBytes.{Appends}
use Rattle.ffv1_range.specs.Counts.{saturated}
use Rattle.ffv1_range.specs.declared.tally.Tally.{Tally}
use Rattle.ffv1_wire.specs.Passage.{Passage}
use Rattle.ffv1_record.specs.Accepted.{Accepted}
use Rattle.ffv1_codec.specs.Frame.{frame_of}
use Rattle.ffv1_codec.specs.Picture.{Planes}
use Rattle.ffv1_frame.specs.declared.fault.FrameFault.{FrameFault}
use Rattle.ffv1_files.specs.Places.{Place, container_of, extent_in}
use Rattle.ffv1_avi.specs.Chunks.{IsWritable}
use Rattle.ffv1_files.specs.Behind.{notes_of}
use Rattle.ffv1_files.specs.Files.{file_read, frame_read, once_read, open_read}
use Rattle.ffv1_files.specs.Noted.{IsNotedOf, NotedOf}
use Rattle.ffv1_files.specs.Readers.{Standing, others_at}
use Rattle.ffv1_files.specs.declared.notes.Notes.{Notes}
use Rattle.ffv1_files.proofs.Behinds.{nothing_behind}
use Rattle.ffv1_reads.specs.Head.{Head}
use Rattle.ffv1_reads.specs.Known.{Known}
use Rattle.ffv1_reads.specs.Reads as avi
use Rattle.ffv1_y4m.specs.VideoHead.{IsNamed, IsRatio}
use Rattle.ffv1_video.specs.declared.profile.Profile.{Profile}
use Rattle.ffv1_video.specs.declared.profile.Profile.TheVariants.{Strict, Wide}
use Rattle.ffv1_video.specs.Profiles.{greatest_depth, scope_in, record_profile}
use Rattle.ffv1_video.specs.declared.fault.Fault.{Fault}
use Rattle.ffv1_video.specs.declared.fault.Fault.TheVariants as fault
use Rattle.ffv1_unpack.specs.declared.frame_line.FrameLine.TheVariants as line
use Rattle.ffv1_words.specs.declared.order.Choice.{Choice}
use Rattle.ffv1_unpack.specs.Check.{CheckStops, frame_count}
use Rattle.ffv1_unpack.specs.Checked.{LastStopsBy}
use Rattle.ffv1_unpack.specs.Containers.{IsReadAs, reads_matroska}
use Rattle.ffv1_unpack.specs.Internal.Containers.{is_segment}
use Rattle.ffv1_unpack.proofs.OpenedAs.{read_as}
use Rattle.ffv1_engine.proofs.SegmentsNoted.{frames_stay, none_noted}
use Rattle.ffv1_unpack.specs.Show.{ShowStops, StreamStopsBy, cost_text}
use Rattle.ffv1_video.specs.Faults.{cause_of}
use Rattle.ffv1_video.specs.Faults.Cause.{Content}
use Rattle.ffv1_avi.specs.Written.{most, riff_size}
use Rattle.ffv1_pack.specs.Packing.{AreReadable, IsFor, configuration_for, packed_frames, packed_head, said_for}
use Rattle.ffv1_unpack.specs.FrameLines.{frame_lines}
use Rattle.ffv1_unpack.specs.Located.{LocatedFault}
use Rattle.ffv1_video.specs.Profiles.{byte_told}
use Rattle.ffv1_unpack.specs.Opens.{LacksOpeningBy}
use Rattle.ffv1_unpack.specs.Play.{End, EndsWith, FaultsRead, IsFaulty, LacksStream, Played}
use Rattle.ffv1_unpack.specs.Plays.{FileThen, GoesBy, NextEnds, NextHasFault, NextStays, PlayStopsBy, ReadsFile}
use Rattle.ffv1_unpack.specs.Play.End.{File, Payload, Over}
use Rattle.ffv1_engine.specs.RoundTrip.{HoldsBy, IsNoContent, IsUnpacked, canonical_of}
use Rattle.ffv1_unpack.specs.Stream.{AreFrames, Coded, CodedFrame, Frame, HoldsPayloads, IsFrame, IsRefusedPayload, IsStream, ReadsFrames, Stream, frame_payload, payloads, shown_frames}
use Rattle.ffv1_codec.specs.Outcome.{FaultsOf}
use Rattle.ffv1_unpack.specs.Unpack.{LacksTextIn, UnpackDone, UnpackStops}
use Rattle.ffv1_unpack.specs.Unpacking.{UnpackingStopsBy}
use Rattle.ffv1_unpack.specs.Unpacked.{AllSay, AreAlike, HasTextBy, LacksText, LacksTextBy, is_ppm_stream, pictures, shown_text}
use Rattle.ffv1_video.specs.Video.{Video}
use Rattle.ffv1_pack.specs.VideoReads.{IsHeadBy}
use Rattle.ffv1_video.specs.Colours.{shown}
use Rattle.ffv1_engine.proofs.FileTurns.{Opened, Others, no_fault as no_read_fault, no_more, no_stop, none_left, one_more, opened, others}
use Rattle.ffv1_engine.proofs.OpensOnce.{OpensOnce}
use Rattle.ffv1_engine.proofs.PackedFrames.{AllCoded, FrameLaws, Same, made, no_fault, same}
use Rattle.ffv1_engine.proofs.PackedText.{RecordLaws, alike_given, canonical_given, none_refused, one_stream, stream_for, stream_is, text_given, writable}
use Rattle.ffv1_record.specs.Configuration.{Configuration}
use Rattle.ffv1_engine.proofs.CanonicalVideos.{FileLaws}

same_ok : {X : Type 0} (r : Result X avi.Stop) (x y : X) → r ≡ Ok x → r ≡ Ok y → x ≡ y
same_ok r x y e f = cc

some_in : {X Y : Type 0} (f : X → Y) (xs : List X) → [] ≡ map f xs → 0 < length xs → ⊥
some_in f [] e some = absurd (omega (arith, some))
some_in f (x ∷ xs) e some = cc

many : {X Y : Type 0} (f : X → Y) (xs : List X) → length (map f xs) ≡ length xs
many f [] = refl
many f (x ∷ xs) = ap suc (many f xs)

-- a text has a fault, or none
text_or_none : (ppm : Bool) (c : Configuration) (f : Fault) → HasTextBy ppm c → LacksTextBy ppm c f → ⊥
text_or_none true c f has lacks = absurd (let wrong : true ≡ false = sym lacks.0 ∙ has in cc)
text_or_none false c f has lacks = absurd (let wrong : true ≡ false = sym has ∙ lacks.0 in cc)

-- the causes of faults
no_content : (f : Fault) → (cause_of f ≡ Content → ⊥) → IsNoContent f
no_content fault.OutOfMemory h = inl refl
no_content fault.Read h = inr (inl refl)
no_content fault.Write h = inr (inr refl)
no_content f h = absurd (h refl)

-- if the file is known, it was read to its end, and then what stands behind it
record ReadsWhole (profile : Profile) (file : List ℕ) (new : Option (List ℕ)) (notes : Notes) (s : Stream) (frames : List Frame) : Type 0 where
  behind : List ℕ
  is : file_read (scope_in profile) file ≡ Ok ((s.head, payloads frames), behind)
  rest : List ℕ
  left : new ≡ Some rest
  reader : Standing
  noted : notes_of reader behind ≡ Ok (notes, rest)
  kind : IsReadAs (is_segment (container_of reader.place)) profile (Some file)

module _ (profile : Profile) (files : FileLaws profile) where
  whole_by : (p : Profile) (file behind : List ℕ) (s : Stream) (frames : List Frame) → HoldsPayloads p file behind s.head (payloads frames) → file_read (scope_in p) file ≡ Ok ((s.head, payloads frames), behind)
  whole_by Strict file behind s frames h = files.is_read file s.head (payloads frames) h.0 ∙ ap (λ t. Ok ((s.head, payloads frames), t)) (sym h.1)
  whole_by Wide file behind s frames h = files.is_whole file s.head (payloads frames) behind h

  whole_of : (file : List ℕ) (new : Option (List ℕ)) (notes : Notes) (s : Stream) (frames : List Frame) → ReadsFile profile notes (Some file) new s frames → ReadsWhole profile file new notes s frames
  whole_of file None notes s frames h = absurd h
  whole_of file (Some rest) notes s frames h =
      let from = h.2.0 in
      let last = h.2.3 in
      let end = last.3 in
      let same : is_segment (container_of end.1.place) ≡ is_segment (container_of from) = ap is_segment end.2 ∙ frames_stay from h.2.1 (payloads frames) last.0 last.1 last.2 in
      record {
        behind = h.0;
        is = whole_by profile file h.0 s frames h.1;
        rest = rest;
        left = refl;
        reader = end.1;
        noted = end.3;
        kind = read_as profile (Some file) (Some h.2.1) s.head from h.2.2 (is_segment (container_of end.1.place)) (sym same);
      }

-- of nothing that stands behind nothing more is left
nothing_left : (reader : Standing) (behind : List ℕ) (notes : Notes) (rest : List ℕ) → behind ≡ [] → notes_of reader behind ≡ Ok (notes, rest) → rest ≡ []
nothing_left reader behind notes rest none is =
    let nothing = nothing_behind reader in
    let both : (notes, rest) ≡ (nothing.0, []) = same_ok (notes_of reader []) _ _ (subst (λ t. notes_of reader t ≡ Ok (notes, rest)) none is) nothing.1 in
    ap (λ (z : Notes × List ℕ). z.1) both

-- if the file is known, it begins so
record Begun (profile : Profile) (file : List ℕ) (s : Stream) (frames : List Frame) : Type 0 where
  from : Place
  behind : List ℕ
  opened : open_read (scope_in profile) file ≡ Ok ((s.head, from), behind)
  to : Place
  at : List ℕ
  read : ReadsFrames from behind (payloads frames) to at

abbrev begun : (profile : Profile) (file rest : List ℕ) (s : Stream) (frames : List Frame) (Next : Place → List ℕ → List ℕ → Type 0) → FileThen profile s.head (payloads frames) Next file rest → Begun profile file s frames
begun profile file rest s frames Next h = record { from = h.0; behind = h.1; opened = h.2; to = h.3.0; at = h.3.1; read = h.3.2 }

begins_in : (profile : Profile) (file : List ℕ) (new : Option (List ℕ)) (s : Stream) (frames : List Frame) (Next : Place → List ℕ → List ℕ → Type 0) →
    Known (Some file) new (FileThen profile s.head (payloads frames) Next) → Begun profile file s frames
begins_in profile file None s frames Next h = absurd h
begins_in profile file (Some rest) s frames Next h = begun profile file rest s frames Next h

-- a video that is packed
pub record Given (profile : Profile) (choice : Choice) (v : Video) (a : Accepted) : Type 0 where
  pub head : IsHeadBy v.ppm v.head.head
  pub named : IsNamed v.head.depth v.head.head
  pub for : IsFor profile choice v.ppm v.head a
  pub coded : AllCoded a (said_for v.head) v.pictures
  pub some : 0 < length v.pictures
  pub readable : AreReadable (record_profile profile) (packed_frames v a)
  pub rated : v.ppm ≡ true → IsRatio 4294967295 choice.rate choice.scale

module _ (profile : Profile) (files : FileLaws profile) (frame_laws : FrameLaws) (records : RecordLaws) (choice : Choice) (v : Video) (a : Accepted) (profiled : a.profile ≡ record_profile profile)
    (read : v.head.depth ≤ greatest_depth profile) (g : Given profile choice v a) where
  for : a.configuration ≡ configuration_for choice v.ppm v.head
  for = g.for.configuration

  head : IsHeadBy v.ppm v.head.head
  head = g.head

  named : IsNamed v.head.depth v.head.head
  named = g.named

  coded : AllCoded a (said_for v.head) v.pictures
  coded = g.coded

  pub can_write : riff_size (packed_head choice v a) (packed_frames v a) ≤ most → IsWritable (extent_in (scope_in profile)) (packed_head choice v a) (packed_frames v a)
  can_write small = writable profile records choice v.ppm v.head a for g.for.accepted g.for.passes profiled head read g.rated v.pictures coded g.readable small

  stream : Stream
  stream = stream_for choice v.ppm v.head a

  -- a file of its head and its frames
  module _ (file : List ℕ) (reads_whole : file_read (scope_in profile) file ≡ Ok ((packed_head choice v a, packed_frames v a), [])) where
    whole : Opened (scope_in profile) file (packed_head choice v a) (packed_frames v a) []
    whole = opened (scope_in profile) file (packed_head choice v a) (packed_frames v a) [] reads_whole

    -- what the file holds
    pub holds : (Is : List ℕ → Head → List (List ℕ) → Type 0) → Is file (packed_head choice v a) (packed_frames v a) → HoldsBy Is profile file (shown choice v)
    unfolding stream
    holds Is file_is =
        let m = made frame_laws a g.for.accepted (said_for v.head) v.pictures coded in record {
          stream = stream;
          frames = m.frames;
          is = subst (λ ps. Is file (packed_head choice v a) ps) (sym m.payloads_are) file_is;
          played = record { stream = stream_is profile records choice v.ppm v.head a for g.for.accepted g.for.passes profiled head read; decoded = m.are };
          pictures_are = m.pictures_are;
          say = m.say;
          text = text_given choice v.ppm v.head a for head named;
          alike = alike_given choice v.ppm v.head a for m.frames m.say;
          writes = canonical_given choice v.ppm v.head named a for m.frames v.pictures m.say m.pictures_are g.some;
        }

    -- a stream with that head is the one
    the_stream : (s : Stream) → IsStream profile s → s.head ≡ packed_head choice v a → s ≡ stream
    unfolding stream
    the_stream s is e = one_stream profile records choice v.ppm v.head a for g.for.accepted g.for.passes profiled head read s is e

    -- frames of it that the file begins with are those of the first pictures
    the_frames : (s : Stream) (frames : List Frame) (more : List (List ℕ)) → s ≡ stream → AreFrames s.accepted frames → packed_frames v a ≡ payloads frames ++ more → Same a (said_for v.head) frames more v.pictures
    unfolding stream
    the_frames s frames more e are parts =
        same frame_laws a g.for.accepted (said_for v.head) frames more v.pictures (subst (λ (t : Stream). AreFrames t.accepted frames) e are) coded parts

    -- all of them, and nothing is left after them
    all_frames : (s : Stream) (frames : List Frame) (rest : List ℕ) → Played profile s frames → file_read (scope_in profile) file ≡ Ok ((s.head, payloads frames), rest) →
        (s ≡ stream) × AllSay (said_for v.head) (shown_frames frames) × (pictures (shown_frames frames) ≡ v.pictures) × (rest ≡ []) × (length (shown_frames frames) ≡ length frames)
    all_frames s frames rest played is =
        let both : ((s.head, payloads frames), rest) ≡ ((packed_head choice v a, packed_frames v a), []) = same_ok (file_read (scope_in profile) file) _ _ is reads_whole in
        let e = the_stream s played.stream (ap (λ (z : (Head × List (List ℕ)) × List ℕ). z.0.0) both) in
        let same_of = the_frames s frames [] e played.decoded (sym (ap (λ (z : (Head × List (List ℕ)) × List ℕ). z.0.1) both) ∙ sym (append-nil (payloads frames))) in
        let none : same_of.others ≡ [] = no_others same_of.others same_of.more_are in
        (e, same_of.say, sym (same_of.parts ∙ ap (λ ps. pictures (shown_frames frames) ++ ps) none ∙ append-nil (pictures (shown_frames frames))), ap (λ (z : (Head × List (List ℕ)) × List ℕ). z.1) both, same_of.long)
      where
        no_others : (ps : List Planes) → map (λ planes. frame_of a planes (said_for v.head)) ps ≡ [] → ps ≡ []
        no_others [] e = refl
        no_others (p ∷ ps) e = absurd (cc)

    -- what unpack wrote
    pub written : (input output : Passage) (count : ℕ) (notes : Notes) → input.old ≡ Some file → UnpackDone profile input output count notes → IsUnpacked (shown choice v) input output count
    unfolding stream
    written input output count notes known done =
        let reads = subst (λ o. ReadsFile profile notes o input.new done.stream done.frames) known done.reads in
        let read = whole_of profile files file input.new notes done.stream done.frames reads in
        let all = all_frames done.stream done.frames read.behind done.played read.is in
        let none = nothing_left read.reader read.behind notes read.rest all.3 read.noted in
        let bytes : shown_text done.stream done.frames ≡ canonical_of (shown choice v) =
        ap (λ s. shown_text s done.frames) all.0 ∙ canonical_given choice v.ppm v.head named a for (shown_frames done.frames) v.pictures all.1 all.2 g.some in
        let long : length done.frames ≡ length v.pictures = sym all.4 ∙ sym (many (λ (f : CodedFrame). f.planes) (shown_frames done.frames)) ∙ ap (λ ps. length ps) all.2 in record {
          left = read.left ∙ ap (λ t. Some t) none;
          counted = done.counted ∙ ap saturated long;
          writes = subst (λ text. Appends output.old output.new text) bytes done.writes;
        }

    -- and what it noted
    pub noted_so : (input output : Passage) (count : ℕ) (notes : Notes) → input.old ≡ Some file → UnpackDone profile input output count notes → IsNotedOf (scope_in profile) file [] notes
    noted_so input output count notes known done =
        let left = (written input output count notes known done).left in
        subst (λ o. NotedOf (scope_in profile) (Some file) o notes) left (subst (λ o. NotedOf (scope_in profile) o input.new notes) known done.of_file)

    -- of a Segment no bytes behind it
    pub none_behind : reads_matroska profile file ≡ true → (input output : Passage) (count : ℕ) (notes : Notes) → input.old ≡ Some file → UnpackDone profile input output count notes → notes.after ≡ None
    none_behind first input output count notes known done =
        let reads = subst (λ o. ReadsFile profile notes o input.new done.stream done.frames) known done.reads in
        let read = whole_of profile files file input.new notes done.stream done.frames reads in
        let all = all_frames done.stream done.frames read.behind done.played read.is in
        none_noted read.reader notes read.rest (sym read.kind ∙ first) (subst (λ t. notes_of read.reader t ≡ Ok (notes, read.rest)) all.3 read.noted)

    -- the payload that comes next has no fault
    not_next : (ps : List Planes) (payload : List ℕ) (more : List (List ℕ)) (f : FrameFault) (tally : Tally) → AllCoded a (said_for v.head) ps →
        map (λ planes. frame_of a planes (said_for v.head)) ps ≡ payload ∷ more → FaultsOf a payload f tally → ⊥
    not_next [] payload more f tally coded e faulty = cc
    not_next (p ∷ ps) payload more f tally coded e faulty =
        let here : frame_of a p (said_for v.head) ≡ payload = cc in
        no_fault frame_laws a g.for.accepted (said_for v.head) p f tally coded.0 (subst (λ bytes. FaultsOf a bytes f tally) (sym here) faulty)

    -- if the file begins with frames, the others are read after them
    module _ (s : Stream) (frames : List Frame) (b : Begun profile file s frames) where
      first : (s.head ≡ packed_head choice v a) × Others b.to b.at (payloads frames) (packed_frames v a) []
      first =
          let e : ((s.head, b.from), b.behind) ≡ ((packed_head choice v a, whole.from), whole.behind) = same_ok (open_read (scope_in profile) file) _ _ b.opened whole.opened in
          let from : b.from ≡ whole.from = ap (λ (z : (Head × Place) × List ℕ). z.0.1) e in
          let behind : b.behind ≡ whole.behind = ap (λ (z : (Head × Place) × List ℕ). z.1) e in (
            ap (λ (z : (Head × Place) × List ℕ). z.0.0) e,
            others files.next whole.from whole.behind (payloads frames) b.to b.at (packed_frames v a) []
                (subst (λ m. ReadsFrames m whole.behind (payloads frames) b.to b.at) from (subst (λ t. ReadsFrames b.from t (payloads frames) b.to b.at) behind b.read))
                whole.read,
          )

      same_frames : Played profile s frames → Same a (said_for v.head) frames first.1.more v.pictures
      same_frames played = the_frames s frames first.1.more (the_stream s played.stream first.0) played.decoded first.1.parts

      -- no fault stands in the place of a frame
      never_stops : (rest : List ℕ) (f : Fault) → FaultsRead (frame_read b.to) b.at rest f → ⊥
      never_stops rest f h = no_stop files.next b.to b.at rest f first.1.more [] h first.1.read

      -- nor behind them, where nothing stands
      never_refused : (rest : List ℕ) (f : Fault) → NextHasFault f b.to b.at rest → ⊥
      never_refused rest f (inl h) = never_stops rest f h
      never_refused rest f (inr h) =
          let left : h.0 ≡ [] = none_left files.next b.to b.at h.0 first.1.more [] h.1.0 first.1.read in
          no_read_fault (notes_of h.1.1) [] rest f _ (subst (λ t. FaultsRead (notes_of h.1.1) t rest f) left h.1.3) (nothing_behind h.1.1).1

      -- nor does movi end before the first one
      never_empty : (rest : List ℕ) → frame_read b.to b.at ≡ Ok (None, rest) → frames ≡ [] → ⊥
      never_empty rest h none =
          let over = no_more files.next b.to b.at rest first.1.more [] h first.1.read in
          let all : packed_frames v a ≡ [] = first.1.parts ∙ ap (λ fs. payloads fs ++ first.1.more) none ∙ over in
          some_in (λ planes. frame_of a planes (said_for v.head)) v.pictures (sym all) g.some

      -- the next payload has none
      never_faulty : Played profile s frames → (payload rest : List ℕ) (to : Place) (f : FrameFault) (tally : Tally) → frame_read b.to b.at ≡ Ok (Some (payload, to), rest) → IsRefusedPayload s.accepted payload f tally → ⊥
      unfolding stream
      never_faulty played payload rest to f tally h faulty =
          let turn = one_more files.next b.to to b.at rest payload first.1.more [] h first.1.read in
          let of = same_frames played in
          not_next of.others payload turn.0 f tally of.coded (of.more_are ∙ turn.1) (subst (λ (t : Stream). FaultsOf t.accepted payload f tally) (the_stream s played.stream first.0) faulty.faulty)

    -- so the file has a stream
    lacks_stream : OpensOnce profile file → (new : Option (List ℕ)) (f : Fault) → LacksStream profile (Some file) new f → ⊥
    lacks_stream once None f h = h
    lacks_stream once (Some rest) f (inl (inl h)) = no_read_fault (open_read (scope_in profile)) file rest f _ h whole.opened
    lacks_stream once (Some rest) f (inl (inr h)) = no_read_fault (once_read (scope_in profile)) file rest f _ h once.1
    lacks_stream once (Some rest) f (inr h) =
        let e : ((h.head, h.place), rest) ≡ ((packed_head choice v a, whole.from), whole.behind) = same_ok (open_read (scope_in profile) file) _ _ h.opened whole.opened in
        none_refused profile records choice v.ppm v.head a for g.for.accepted g.for.passes profiled head read h.head h.refusal (ap (λ (z : (Head × Place) × List ℕ). z.0.0) e) h.refused

    -- which has a text
    lacks_text : (p : Passage) (f : Fault) → p.old ≡ Some file → LacksTextIn profile p f → ⊥
    unfolding stream
    lacks_text p f known h =
        let b = begins_in profile file p.new h.stream [] NextStays (subst (λ o. Known o p.new (FileThen profile h.stream.head [] NextStays)) known h.has) in
        let e = the_stream h.stream h.is (first h.stream [] b).0 in
        text_or_none (is_ppm_stream stream) a.configuration f (text_given choice v.ppm v.head a for head named) (subst (λ s. LacksText s f) e h.lacks)

    -- after its frames it ends without a fault, and not before the first; and no payload has one
    ends_never : (new : Option (List ℕ)) (s : Stream) (frames : List Frame) (e : End) (f : Fault) → Played profile s frames → Known (Some file) new (FileThen profile s.head (payloads frames) (NextEnds e)) →
        IsFaulty s.accepted e → EndsWith frames e f → ⊥
    ends_never None s frames e f played h faulty is = h
    ends_never (Some rest) s frames (File fault) f played h faulty is = never_refused s frames (begun profile file rest s frames (NextEnds (File fault)) h) rest fault h.3.3
    ends_never (Some rest) s frames (Payload payload fault tally) f played h faulty is =
        never_faulty s frames (begun profile file rest s frames (NextEnds (Payload payload fault tally)) h) played payload rest h.3.3.0 fault tally h.3.3.1 faulty
    ends_never (Some rest) s frames (Over notes) f played h faulty is = never_empty s frames (begun profile file rest s frames (NextEnds (Over notes)) h) h.3.3.0 h.3.3.1.0 is.0

    -- and its frames say the same
    alike : (new : Option (List ℕ)) (s : Stream) (frames : List Frame) → Played profile s frames → Known (Some file) new (FileThen profile s.head (payloads frames) NextStays) → AreAlike s (shown_frames frames)
    unfolding stream
    alike new s frames played h =
        let b = begins_in profile file new s frames NextStays h in
        let e = the_stream s played.stream (first s frames b).0 in
        subst (λ t. AreAlike t (shown_frames frames)) (sym e) (alike_given choice v.ppm v.head a for (shown_frames frames) (same_frames s frames b played).say)

    module _ (once : OpensOnce profile file) (input output : Passage) (known : input.old ≡ Some file) where
      stream_lacks : (f : Fault) → LacksStream profile input.old input.new f → ⊥
      stream_lacks f h = lacks_stream once input.new f (subst (λ o. LacksStream profile o input.new f) known h)

      no_end : (s : Stream) (frames : List Frame) (e : End) (f : Fault) → Played profile s frames → Known input.old input.new (FileThen profile s.head (payloads frames) (NextEnds e)) → IsFaulty s.accepted e →
          EndsWith frames e f → ⊥
      no_end s frames e f played h faulty is = ends_never input.new s frames e f played (subst (λ o. Known o input.new (FileThen profile s.head (payloads frames) (NextEnds e))) known h) faulty is

      no_opening_fault : (f : Fault) → LacksOpeningBy profile input f Content → ⊥
      no_opening_fault f h = stream_lacks f h.1

      -- unpack
      no_goes : (s : Stream) (f : Fault) → IsStream profile s → UnpackingStopsBy (FileThen profile s.head) s input output f Content → ⊥
      no_goes s f is (kept, inl (frames, h)) = no_end s frames (File f) f (record { stream = is; decoded = h.plays.goes.are }) h.plays.goes.has tt refl
      no_goes s f is (kept, inr (inl h)) = no_end s h.frames (Payload h.payload h.fault h.tally) f (record { stream = is; decoded = h.goes.are }) h.goes.has h.faulty h.is
      no_goes s f is (kept, inr (inr h)) =
          let all = h.frames ++ (Coded h.last ∷ []) in
          h.changed (alike input.new s all (record { stream = is; decoded = h.goes.are }) (subst (λ o. Known o input.new (FileThen profile s.head (payloads all) NextStays)) known h.goes.has))

      pub unpack_refused : (f : Fault) → UnpackStops profile input output f → IsNoContent f
      unpack_refused f (inl (none, inl h)) = no_content f (λ e. no_opening_fault f (subst (λ why. LacksOpeningBy profile input f why) e h))
      unpack_refused f (inl (none, inr h)) = absurd (lacks_text input f known h)
      unpack_refused f (inr (inl h)) = no_content f (λ e. no_goes h.stream f h.is (subst (λ why. UnpackingStopsBy (FileThen profile h.stream.head) h.stream input output f why) e h.stops))
      unpack_refused f (inr (inr h)) =
          let plays = h.1.all.unpacks.plays in
          absurd (no_end h.1.stream [] (Over h.1.notes) f (record { stream = h.1.is; decoded = plays.goes.are }) plays.goes.has tt (refl, h.0))

      -- check
      no_check_fault : (s : Stream) (lines : List Frame → List ℕ) (Stops : Fault → ℕ → Type 0) (byte : Bool) (f : Fault) → IsStream profile s →
          GoesBy (IsFrame s.accepted) frame_payload (FileThen profile s.head) lines input output Stops byte f Content → ⊥
      no_check_fault s lines Stops byte f is h = no_end s h.0 (File f) f (record { stream = is; decoded = h.3.are }) h.3.has tt refl

      no_last_fault : (place : Bool) (f : Fault) → LastStopsBy IsFrame frame_payload (frame_lines line.Sizes) frame_count profile place input output f Content → ⊥
      no_last_fault place f h =
          let over = h.1.over in
          no_end h.1.stream [] (Over over.notes) f (record { stream = over.is; decoded = over.goes.are }) over.goes.has tt (refl, h.0)

      pub check_refused : (place : Bool) (f : Fault) → CheckStops profile place input output f → IsNoContent f
      check_refused place f (inl h) =
          let p = h.stops in
          absurd (no_end h.stream p.frames (Payload p.payload p.fault p.tally) f (record { stream = h.is; decoded = p.goes.are })
          p.goes.has p.faulty p.is)
      check_refused place f (inr (inl h)) = no_content f (λ e. no_opening_fault f (subst (λ why. LacksOpeningBy profile input f why) e h.1))
      check_refused place f (inr (inr (inl h))) =
          let lines = frame_lines line.Sizes h.stream.accepted.configuration in
          let Stops = LocatedFault (scope_in profile) input in
          no_content f (λ e. no_check_fault h.stream lines Stops (byte_told profile place) f h.is
          (subst (λ why. GoesBy (IsFrame h.stream.accepted) frame_payload (FileThen profile h.stream.head) lines input output Stops (byte_told profile place) f why) e h.goes))
      check_refused place f (inr (inr (inr h))) =
          no_content f (λ e. no_last_fault place f (subst (λ why. LastStopsBy IsFrame frame_payload (frame_lines line.Sizes) frame_count profile place input output f why) e h))

      -- show
      no_show_fault : (f : Fault) → StreamStopsBy profile input output f Content → ⊥
      no_show_fault f h = no_opening_fault f h.1

      stream_refused : (f : Fault) → StreamStopsBy profile input output f (cause_of f) → IsNoContent f
      stream_refused f h = no_content f (λ e. no_show_fault f (subst (λ why. StreamStopsBy profile input output f why) e h))

      no_play_fault : (s : Stream) (lines : List Frame → List ℕ) (f : Fault) → IsStream profile s → PlayStopsBy (FileThen profile s.head) s.accepted lines input output f Content → ⊥
      no_play_fault s lines f is h =
          no_end s h.1.frames h.1.end f (record { stream = is; decoded = h.1.plays.goes.are }) h.1.plays.goes.has h.1.faulty h.1.is

      pub show_refused : (cost : Bool) (f : Fault) → ShowStops profile input output cost f → IsNoContent f
      show_refused false f h = stream_refused f h
      show_refused true f (inl h) = stream_refused f h
      show_refused true f (inr h) =
          let lines = cost_text (container_of h.comes.place) (others_at h.comes.place h.comes.counted) h.stream in
          no_content f (λ e. no_play_fault h.stream lines f h.is (subst (λ why. PlayStopsBy (FileThen profile h.stream.head) h.stream.accepted lines input output f why) e h.stops))
