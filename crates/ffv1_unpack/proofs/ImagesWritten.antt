-- Images are written row by row.
use Rattle.std.proofs.Common.{◌≡◌, ◌⊎◌, refl, ℕ, ◌+◌, ◌*◌, ◌<◌, ◌≤◌, Option, Result, Ok, Err, List, [], ◌∷◌, ◌++◌, length, take, inl, inr, ap, ap₂, sym, subst, ◌∙◌, arith, append-nil, append_assoc, length-append, get_or}
use Rattle.std.specs.Prelude.{slice_index}
use Rattle.std.specs.Io.KnownBytes.{Appends}
use Rattle.std.proofs.KnownBytes.{Appends-trans}
use Rattle.ffv1_range.specs.declared.tally.Tally.{Tally}
use Rattle.ffv1_wire.specs.Failures.{one_more}
use Rattle.ffv1_wire.specs.Passage.{Passage, between}
use Rattle.ffv1_wire.specs.Runs.{Grows, Line, LineStep}
use Rattle.ffv1_wire.specs.Writes.{AppendsBeginning}
use Rattle.ffv1_record.specs.Accepted.{Accepted}
use Rattle.ffv1_record.specs.Configuration.{Configuration}
use Rattle.ffv1_slice.specs.Cutting.{CutsTo, coded_of}
use Rattle.ffv1_slice.specs.Footer.{foot_length}
use Rattle.ffv1_slice.specs.Grid.{division_of}
use Rattle.ffv1_slice.specs.declared.cutting.CutFault.{CutFault}
use Rattle.ffv1_codec.specs.Answer.{Answers, AnswersCut, SinkRefuses, cut_fault}
use Rattle.ffv1_codec.specs.Decoding.{top_of}
use Rattle.ffv1_codec.specs.Kept.{IsLine}
use Rattle.ffv1_codec.specs.Lines.{lines_of}
use Rattle.ffv1_codec.specs.Picture.{Planes, plane_width}
use Rattle.ffv1_frame.specs.declared.fault.CodecFault.TheVariants as codec_fault
use Rattle.ffv1_frame.specs.declared.fault.FrameFault.{FrameFault}
use Rattle.ffv1_y4m.specs.Images.{AtImage, image_lines, image_text, text_of_lines}
use Rattle.ffv1_y4m.specs.Ppm.{bytes_for}
use Rattle.ffv1_samples.specs.Samples.{sample_bytes}
use Rattle.ffv1_video.proofs.Depths.{bytes_are}
use Rattle.ffv1_y4m.specs.Sink.{PpmSink, Takes, Refuses, kept_behind, line_text, row_with, text_with}
use Rattle.ffv1_files.specs.Places.{Place}
use Rattle.ffv1_video.specs.declared.fault.Fault.{Fault}
use Rattle.ffv1_video.specs.Faults.{Cause, cause_of, of_codec}
use Rattle.ffv1_video.specs.Faults.Cause.{Reading, Writing, Memory, Content}
use Rattle.ffv1_unpack.specs.Internal.ImagesOut.{ImageFaults, ImageStopsBy, IsLastPayload, IsPayloadOf, IsSinkFor, RepeatsImage, RowCut, rows_so_far}
use Rattle.ffv1_unpack.specs.Stream.{Again, Coded, CodedFrame, Frame, coded_frames, last_of}
use Rattle.ffv1_unpack.specs.Unpacking.{Shows}
use Rattle.ffv1_unpack.proofs.FramesShown.{coded_again, coded_more, last_is}
use Rattle.ffv1_codec.specs.Outcome.{FaultsOf, OffersLine}
use Rattle.ffv1_codec.specs.Outcome.{lines_before}
use Rattle.ffv1_unpack.specs.Internal.Carried.{ReadsCarried}
use Rattle.ffv1_unpack.specs.Internal.Told.{StopsFromBy}
use Rattle.ffv1_video.specs.Output.{Silent, WritesUpTo}
use Rattle.ffv1_unpack.proofs.ImageLines.{IsImage}
use Rattle.ffv1_unpack.proofs.FrameDecoded.{same_fault}
use Rattle.ffv1_video.proofs.Output.{silent, take_past}

-- a count that is one more is another
not_more : (n : ℕ) → one_more n ≡ n → ⊥
not_more n e = omega (arith, e)

pub counted : (first then last : ℕ) → last ≡ one_more then → then ≡ first → last ≡ first → ⊥
counted first then last more before after = not_more first (ap one_more (sym before) ∙ sym more ∙ after)

-- what a fault that is answered has made of a sink
module _ {S : Type 0} (takes refuses : LineStep S) (a : Accepted) (payload : List ℕ) (old new : S) (tally : Tally) (f : FrameFault) where
  -- the payload has a fault, and the sink took the lines before it
  pub record Faulty : Type 0 where
    pub faulty : FaultsOf a payload f tally
    pub grows : Grows takes old (lines_before faulty) new

  -- or the sink refused the line that came next
  pub record Refused : Type 0 where
    pub offsets : List ℕ
    pub cut : CutsTo a.configuration payload (Ok offsets)
    pub sink : SinkRefuses takes refuses a (coded_of payload (foot_length a.configuration.ec) (slice_index offsets)) old new tally f

  either_by : (cut : Result (List ℕ) CutFault) → CutsTo a.configuration payload cut → AnswersCut takes refuses a payload old new tally (Err f) cut → Faulty ⊎ Refused
  either_by (Err g) is answer = inl (record { faulty = inl (g, is, same_fault f (cut_fault g) (Err f) refl answer.0, answer.1); grows = answer.2 })
  either_by (Ok os) is answer = elim answer [
    | inl faults ↦ inl (record { faulty = inr (record { offsets = os; cut = is; state = faults.state; refused = faults.refused; decided = faults.decided }); grows = faults.grows })
    | inr sink ↦ inr (record { offsets = os; cut = is; sink = sink })
  ]

  pub either : Answers takes refuses a payload old new tally (Err f) → Faulty ⊎ Refused
  either answer = either_by answer.cut answer.cuts answer.answer

  pub sinks_own : Refused → f.fault ≡ codec_fault.Sink
  sinks_own r = ap (λ (z : FrameFault). z.fault) r.sink.is

-- lines that a sink of images takes
module _ {W : Type 0} (contents : W → Option (List ℕ)) (failed : W → ℕ) where
  abbrev taking : LineStep (PpmSink W)
  taking = Takes contents failed

  pub sizes_stay : (s t : PpmSink W) (ls : List Line) → Grows taking s ls t → (t.width ≡ s.width) × (t.height ≡ s.height) × (t.depth ≡ s.depth)
  sizes_stay s t [] h = (ap (λ z. z.width) h, ap (λ z. z.height) h, ap (λ z. z.depth) h)
  sizes_stay s t (l ∷ ls) (m, step, more) =
      let rest = sizes_stay m t ls more in
      (rest.0 ∙ ap (λ z. z.width) step.sink, rest.1 ∙ ap (λ z. z.height) step.sink, rest.2 ∙ ap (λ z. z.depth) step.sink)

  abbrev sink_text : PpmSink W → List Line → List ℕ
  sink_text s ls = text_of_lines s.depth s.width s.height s.kept s.row ls

  text_behind : (s m : PpmSink W) (l : Line) (ls : List Line) → taking s l.plane l.row l.samples m →
      sink_text m ls ≡ text_of_lines s.depth s.width s.height (kept_behind s.kept l.samples) (row_with s.height s.row s.kept) ls
  text_behind s m l ls t = ap (λ z. sink_text z ls) t.sink

  -- the text of one line more
  line_more : (s t : PpmSink W) (ls : List Line) (next : Line) → Grows taking s ls t → sink_text s (ls ++ (next ∷ [])) ≡ sink_text s ls ++ line_text t next.samples
  line_more s t [] next h = append-nil (line_text s next.samples) ∙ ap (λ z. line_text z next.samples) (sym h)
  line_more s t (l ∷ ls) next (m, step, more) =
      let first = text_with s.depth s.width s.height s.row s.kept l.samples in
      let last = line_text t next.samples in
      ap (λ z. first ++ z) (sym (text_behind s m l (ls ++ (next ∷ [])) step) ∙ (line_more m t ls next more ∙ ap (λ z. z ++ last) (text_behind s m l ls step)))
      ∙ sym (append_assoc first (text_of_lines s.depth s.width s.height (kept_behind s.kept l.samples) (row_with s.height s.row s.kept) ls) last)

  -- of a sink that has taken whole images
  rows_are : (c : Configuration) (s : PpmSink W) (ls : List Line) → IsSinkFor c s → sink_text s ls ≡ rows_so_far c ls
  rows_are c s ls is =
      ap (λ d. text_of_lines d s.width s.height s.kept s.row ls) is.depth ∙ ap₂ (λ w h. text_of_lines c.depth w h s.kept s.row ls) is.width is.height
      ∙ ap₂ (λ k r. text_of_lines c.depth c.width c.height k r ls) is.at.kept is.at.row

  -- a line of the configuration is as long as the sink's rows
  pub line_long : (c : Configuration) (s : PpmSink W) (p y : ℕ) (samples : List ℕ) → IsSinkFor c s → plane_width c p ≡ c.width → IsLine (division_of c) p y samples → length samples ≡ bytes_for s.depth s.width
  line_long c s p y samples is wide line =
      line.long ∙ ap (λ n. sample_bytes c.depth * n) wide ∙ bytes_are c.depth c.width ∙ sym (ap₂ (λ d w. bytes_for d w) is.depth is.width)

  -- a payload that has bytes shows its own picture
  shows_itself : (frames : List Frame) (payload : List ℕ) → 0 < length payload → Shows frames payload payload
  shows_itself frames [] some = absurd (omega (arith, some))
  shows_itself frames (b ∷ bs) some = refl

  -- the sink refused the line that came next: its row was not written whole
  module _ (a : Accepted) (payload : List ℕ) (s u : PpmSink W) (tally : Tally) (f : FrameFault) (is : IsSinkFor a.configuration s) (r : Refused taking (Refuses contents failed) a payload s u tally f) where
    abbrev pub next_line : Line
    next_line = record { plane = r.sink.plane; row = top_of a.configuration r.sink.plane r.sink.row + r.sink.line; samples = get_or r.sink.state.out r.sink.number [] }

    pub row_written : Appends (contents s.out) (contents r.sink.between.out) (sink_text s r.sink.state.lines) → failed r.sink.between.out ≡ failed s.out →
        AppendsBeginning (contents r.sink.between.out) (contents u.out) (line_text r.sink.between (get_or r.sink.state.out r.sink.number [])) → failed u.out ≡ one_more (failed r.sink.between.out) →
        OffersLine a payload r.sink.state.lines next_line × (failed u.out ≡ one_more (failed s.out))
        × WritesUpTo (contents s.out) (contents u.out) (length (rows_so_far a.configuration r.sink.state.lines)) (rows_so_far a.configuration (r.sink.state.lines ++ (next_line ∷ [])))
    row_written before same cut fails =
        let c = a.configuration in
        let lines = r.sink.state.lines in
        let o = contents s.out in
        let n = contents u.out in
        let rows = rows_so_far c lines in
        let last = line_text r.sink.between (get_or r.sink.state.out r.sink.number []) in
        let all : rows_so_far c (lines ++ (next_line ∷ [])) ≡ rows ++ last = sym (rows_are c s (lines ++ (next_line ∷ [])) is) ∙ line_more s r.sink.between lines next_line r.sink.grows ∙ ap (λ z. z ++ last) (rows_are c s lines is) in
        let whole : length (rows ++ last) ≡ length rows + length last = length-append rows last in
        let few : length rows + cut.0 < length (rows ++ last) = omega (arith, whole, cut.1) in
        let enough : length rows ≤ length rows + cut.0 = omega arith in
        let first = subst (Appends o (contents r.sink.between.out)) (rows_are c s lines is) before in (
          record {
            offsets = r.offsets;
            cut = r.cut;
            state = r.sink.state;
            row = r.sink.row;
            number = r.sink.number;
            plane = r.sink.plane;
            line = r.sink.line;
            offers = r.sink.offers;
            lines_are = refl;
            next_is = refl;
          },
          fails ∙ ap one_more same,
          record {
            count = length rows + cut.0;
            enough = enough;
            short = subst (λ t. length rows + cut.0 < length t) (sym all) few;
            writes =
                subst (λ t. Appends o n (take (length rows + cut.0) t)) (sym all)
                (subst (Appends o n) (sym (take_past rows last cut.0)) (Appends-trans o (contents r.sink.between.out) n rows (take cut.0 last) first cut.2));
          },
        )

  module _ (a : Accepted) (carried : List ℕ) (frames : List Frame) (from to : Place) (input : Passage) (payload : List ℕ) (some : 0 < length payload) (reads : ReadsCarried carried from to payload input) (s u : PpmSink W) (tally : Tally) (f : FrameFault) (is : IsSinkFor a.configuration s) where
    pub image_faults : (h : Faulty taking (Refuses contents failed) a payload s u tally f) → cause_of (of_codec f.fault) ≡ Content → Appends (contents s.out) (contents u.out) (sink_text s (lines_before h.faulty)) → failed u.out ≡ failed s.out →
        ImageFaults a carried frames from to input (between (contents s.out) (contents u.out) (failed s.out) (failed u.out)) (of_codec f.fault)
    image_faults h content writes same = record {
      payload = record { payload = payload; fault = f; tally = tally; reads = reads; faulty = record { some = some; faulty = h.faulty }; is = refl; content = content };
      written = same;
      writes = subst (Appends (contents s.out) (contents u.out)) (rows_are a.configuration s (lines_before h.faulty) is) writes;
    }

    module _ (r : Refused taking (Refuses contents failed) a payload s u tally f) where
      pub row_cut : Appends (contents s.out) (contents r.sink.between.out) (sink_text s r.sink.state.lines) → failed r.sink.between.out ≡ failed s.out →
          AppendsBeginning (contents r.sink.between.out) (contents u.out) (line_text r.sink.between (get_or r.sink.state.out r.sink.number [])) → failed u.out ≡ one_more (failed r.sink.between.out) →
          RowCut a carried frames from to input (between (contents s.out) (contents u.out) (failed s.out) (failed u.out))
      row_cut before same cut fails =
          let row = row_written a payload s u tally f is r before same cut fails in
          record {
            payload = payload;
            source = payload;
            shows = shows_itself frames payload some;
            lines = r.sink.state.lines;
            next = next_line a payload s u tally f is r;
            reads = reads;
            hands = row.0;
            written = row.1;
            writes = row.2;
          }

  -- a whole image
  pub image_written : (c : Configuration) (s t : PpmSink W) (planes : Planes) → IsSinkFor c s → IsImage c planes → 1 ≤ c.height →
      ((red green blue : List ℕ) (x y : PpmSink W) → 1 ≤ x.height → AtImage x → length red ≡ x.height * bytes_for x.depth x.width → Grows taking x (image_lines (bytes_for x.depth x.width) 0 x.height red green blue) y →
      Appends (contents x.out) (contents y.out) (image_text x.depth x.width x.height (red ∷ green ∷ blue ∷ [])) × AtImage y × (y.failures ≡ x.failures)) →
      Grows taking s (lines_of c planes) t → Appends (contents s.out) (contents t.out) (image_text c.depth c.width c.height planes) × IsSinkFor c t
  image_written c s t planes is image some law grows =
      let bytes : bytes_for s.depth s.width ≡ bytes_for c.depth c.width = ap₂ (λ d w. bytes_for d w) is.depth is.width in
      let lines = image.lines ∙ sym (ap₂ (λ w h. image_lines w 0 h image.red image.green image.blue) bytes is.height) in
      let long = image.long ∙ sym (ap₂ (λ h w. h * w) is.height bytes) in
      let whole = law image.red image.green image.blue s t (subst (λ h. 1 ≤ h) (sym is.height) some) is.at long (subst (λ ls. Grows taking s ls t) lines grows) in
      let text = ap (λ d. image_text d s.width s.height (image.red ∷ image.green ∷ image.blue ∷ [])) is.depth ∙ ap₂ (λ w h. image_text c.depth w h (image.red ∷ image.green ∷ image.blue ∷ [])) is.width is.height
      ∙ ap (image_text c.depth c.width c.height) (sym image.are) in
      let sizes = sizes_stay s t (lines_of c planes) grows in
      (subst (Appends (contents s.out) (contents t.out)) text whole.0, record { at = whole.1; width = sizes.0 ∙ is.width; height = sizes.1 ∙ is.height; depth = sizes.2 ∙ is.depth })

-- a sink that took nothing
pub sink_stays : {W : Type 0} (contents : W → Option (List ℕ)) (failed : W → ℕ) (s t : PpmSink W) → t ≡ s → Silent (between (contents s.out) (contents t.out) (failed s.out) (failed t.out))
sink_stays {W = W} contents failed s t same =
    subst (λ (z : PpmSink W). Silent (between (contents s.out) (contents z.out) (failed s.out) (failed z.out))) (sym same) (silent (contents s.out) (failed s.out))

-- there is no frame
pub file_stops : (a : Accepted) (carried : List ℕ) (frames : List Frame) (from to : Place) (input output : Passage) (f : Fault) (why : Cause) → Silent output → StopsFromBy from input f why → ImageStopsBy a carried frames from to input output f why
file_stops a carried frames from to input output f Reading none h = (none, h.0, h.1)
file_stops a carried frames from to input output f Writing none h = absurd h
file_stops a carried frames from to input output f Memory none h = (none, h.0, h.1)
file_stops a carried frames from to input output f Content none h = (h.0, inl (none, h.1))

-- a payload's fault
pub payload_stops : (a : Accepted) (carried : List ℕ) (frames : List Frame) (from to : Place) (input output : Passage) (f : Fault) → ImageFaults a carried frames from to input output f → ImageStopsBy a carried frames from to input output f (cause_of f)
payload_stops a carried frames from to input output f h = subst (ImageStopsBy a carried frames from to input output f) (sym h.payload.content) (h.payload.reads.reads.kept, inr h)

-- the last image was not written whole once more
pub repeat_stops : (a : Accepted) (carried : List ℕ) (frames : List Frame) (from to : Place) (input output : Passage) (source : List ℕ) (f : Fault) → ReadsCarried carried from to [] input → RepeatsImage a frames source output (Err f) → ImageStopsBy a carried frames from to input output f (cause_of f)
repeat_stops a carried frames from to input output source f reads h = subst (λ z. ImageStopsBy a carried frames from to input output z (cause_of z)) (sym h.0) (record {
  payload = [];
  source = source;
  shows = h.2;
  lines = h.3;
  next = h.4;
  reads = reads;
  hands = h.5;
  written = h.1;
  writes = h.6;
})

-- the payload that is kept is that of the last coded frame
pub last_kept : (frames : List Frame) (f : CodedFrame) → 0 < length f.payload → IsLastPayload (frames ++ (Coded f ∷ [])) f.payload
last_kept frames f some = subst (λ (o : Option CodedFrame). IsPayloadOf o f.payload) (sym (ap last_of (coded_more frames f) ∙ last_is (coded_frames frames) f)) (refl, some)

pub last_again : (frames : List Frame) (payload : List ℕ) → IsLastPayload frames payload → IsLastPayload (frames ++ (Again ∷ [])) payload
last_again frames payload h = subst (λ (o : Option CodedFrame). IsPayloadOf o payload) (sym (ap last_of (coded_again frames))) h
