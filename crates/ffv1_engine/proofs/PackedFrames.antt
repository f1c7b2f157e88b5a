-- The frames of a video that was packed: each codes its picture, and no others have their payloads.
use Rattle.std.proofs.Common.{◌≡◌, refl, ℕ, suc, ◌+◌, ◌*◌, ◌<◌, ◌≤◌, Bool, true, false, Result, Ok, inl, inr, List, [], ◌∷◌, ◌++◌, length, map, slice_index, Option, Some, None, ap, sym, subst, ◌∙◌, arith, mul-pos}
use Rattle.std.specs.List.{range_with_len, sum_by}
use Rattle.std.proofs.lemmas.List.Sums.{sum_by-cons}
use Rattle.ffv1_range.specs.Codes.{AreBytes, digits, sentinel_of}
use Rattle.ffv1_range.specs.Counts.{ones_in, saturated, zeros_in}
use Rattle.ffv1_range.specs.History.{decisions_after}
use Rattle.ffv1_range.specs.Interval.{Interval, interval_of}
use Rattle.ffv1_range.specs.Symbols.{Step}
use Rattle.ffv1_range.specs.declared.tally.Tally.{Tally}
use Rattle.ffv1_range.proofs.EndingCodes.{bytes-digits}
use Rattle.ffv1_record.specs.Accepted.{Accepted, IsAccepted, is_rice}
use Rattle.ffv1_record.specs.Configuration.{Configuration}
use Rattle.ffv1_record.specs.Parity.{parity_of}
use Rattle.ffv1_slice.specs.Cutting.{Cuts, CutsTo, IsRefused, coded_of, joined_of}
use Rattle.ffv1_slice.specs.declared.cutting.CutFault.{CutFault}
use Rattle.ffv1_slice.specs.Footer.{foot_length, footer_of, unsealed}
use Rattle.ffv1_codec.specs.Answer.{slices_in, tally_of}
use Rattle.ffv1_codec.specs.Decoding.{Decodes, Refuses, Slice, State}
use Rattle.ffv1_codec.specs.Frame.{CodesPicture, HasLongSlice, IsSaid, frame_of, slice_bytes}
use Rattle.ffv1_codec.specs.Length.{frame_counts}
use Rattle.ffv1_codec.specs.Lines.{lines_of}
use Rattle.ffv1_codec.specs.Picture.{IsPicture, Planes}
use Rattle.ffv1_codec.specs.SliceList.{Said, chosen_slice}
use Rattle.ffv1_frame.specs.declared.fault.FrameFault.{FrameFault}
use Rattle.ffv1_frame.proofs.lemmas.laws.decoding.FromCoded.{coded_bytes}
use Rattle.ffv1_video.specs.Video.{SaidHead}
use Rattle.ffv1_words.specs.declared.order.Choice.{Choice}
use Rattle.ffv1_words.specs.declared.order.CoderChoice.{CoderChoice}
use Rattle.ffv1_words.specs.declared.order.CoderChoice.TheVariants as coder_choice
use Rattle.ffv1_pack.specs.Packing.{AllShort, coder_for, configuration_for, said_for}
use Rattle.ffv1_codec.specs.Outcome.{CountOf, FaultsOf}
use Rattle.ffv1_unpack.specs.Stream.{AreFrames, payloads, shown_after, shown_frames}
use Rattle.ffv1_unpack.specs.Stream.{Again, Coded, CodedFrame, Frame}
use Rattle.ffv1_unpack.specs.Unpacked.{AllSay, pictures}
use Rattle.ffv1_pack.specs.VideoReads.{IsHeadBy}
use Rattle.ffv1_engine.proofs.ByteLists.{bytes_joined, bytes_pushed, no_bytes}
use Rattle.ffv1_engine.proofs.PackedPictures.{AllFitting, picture_given}

-- what is known of payloads
pub record FrameLaws : Type 0 where
  pub encoded : (a : Accepted) (planes : Planes) (info : Said) → IsAccepted a.configuration a.table → is_rice a.configuration.coder ≡ false → IsPicture a.configuration planes → IsSaid info → (HasLongSlice a planes info → ⊥) →
      CodesPicture a (frame_of a planes info) planes info
  pub one : (a : Accepted) (payload : List ℕ) (planes others : Planes) (info other : Said) → IsAccepted a.configuration a.table → AreBytes payload → CodesPicture a payload planes info →
      CodesPicture a payload others other → (planes ≡ others) × (info ≡ other)
  pub decoded : (a : Accepted) (payload : List ℕ) (planes : Planes) (info : Said) (codes : CodesPicture a payload planes info) (spans : ℕ → ℕ) → IsAccepted a.configuration a.table → AreBytes payload →
      ((n : ℕ) → n ≤ a.configuration.columns * a.configuration.rows → spans n ≡ codes.spans n) →
      (t : State) × Decodes a (coded_of payload (foot_length a.configuration.ec) spans) t × (t.info ≡ Some info) × (t.lines ≡ lines_of a.configuration planes)
  pub apart : (a : Accepted) (coded : ℕ → List ℕ) (s t : State) (f : FrameFault) → IsAccepted a.configuration a.table → ((n : ℕ) → AreBytes (coded n)) → Decodes a coded s → Refuses a coded f t → ⊥
  pub cut : (c : Configuration) (payload : List ℕ) (spans : ℕ → ℕ) → Cuts c payload spans →
      (os : List ℕ) × CutsTo c payload (Ok os) × ((s : ℕ) → s ≤ c.columns * c.rows → slice_index os s ≡ spans s)
  pub one_cut : (c : Configuration) (payload : List ℕ) (r s : Result (List ℕ) CutFault) → CutsTo c payload r → CutsTo c payload s → r ≡ s
  pub uncut : (c : Configuration) (payload : List ℕ) (spans : ℕ → ℕ) (f : CutFault) → IsRefused c payload f → Cuts c payload spans → ⊥
  pub long : (a : Accepted) (planes : Planes) (info : Said) →
      length (frame_of a planes info) ≡ (frame_counts a planes info).renormalisations + a.configuration.columns * a.configuration.rows * (1 + foot_length a.configuration.ec)
  pub columns : (a : Accepted) → IsAccepted a.configuration a.table → 1 ≤ a.configuration.columns
  pub rows : (a : Accepted) → IsAccepted a.configuration a.table → 1 ≤ a.configuration.rows
  pub sentinel : (i : Interval) → AreBytes (sentinel_of i)
  pub counts : (steps : List Step) → ones_in steps + zeros_in steps ≡ length steps

same_ok : {X E : Type 0} (x y : X) → ◌≡◌ {A = Result X E} (Ok x) (Ok y) → x ≡ y
same_ok x y e = cc

-- payloads are bytes
footer_bytes : (ec : Bool) (bytes : List ℕ) → AreBytes (footer_of ec bytes)
footer_bytes false bytes = bytes-digits 3 (length bytes)
footer_bytes true bytes =
    bytes_joined (digits 3 (length bytes) ++ (0 ∷ [])) (digits 4 (parity_of (unsealed bytes)))
    (bytes_joined (digits 3 (length bytes)) (0 ∷ []) (bytes-digits 3 (length bytes)) (bytes_pushed 0 [] (omega arith) no_bytes))
    (bytes-digits 4 (parity_of (unsealed bytes)))

row_bytes : (ec : Bool) (f : ℕ → List ℕ) (ns : List ℕ) → ((n : ℕ) → AreBytes (f n)) → AreBytes (joined_of ec (map f ns))
row_bytes ec f [] are = no_bytes
row_bytes ec f (n ∷ ns) are =
    bytes_joined (f n ++ footer_of ec (f n)) (joined_of ec (map f ns)) (bytes_joined (f n) (footer_of ec (f n)) (are n) (footer_bytes ec (f n))) (row_bytes ec f ns are)

-- the frame of a picture
pub record CodesOne (a : Accepted) (said : Said) (planes : Planes) : Type 0 where
  pub codes : CodesPicture a (frame_of a planes said) planes said
  pub bytes : AreBytes (frame_of a planes said)
  pub some : 0 < length (frame_of a planes said)

abbrev pub AllCoded : Accepted → Said → List Planes → Type 0
AllCoded a said [] = Unit {0}
AllCoded a said (p ∷ ps) = CodesOne a said p × AllCoded a said ps

-- what was decided in slices
both_saturated : (x y : ℕ) → saturated (saturated x + saturated y) ≡ saturated (x + y)
both_saturated x y = omega arith

ones_and_zeros : ((steps : List Step) → ones_in steps + zeros_in steps ≡ length steps) → (qs : List Slice) →
    sum_by (λ (q : Slice). ones_in q.past) qs + sum_by (λ (q : Slice). zeros_in q.past) qs ≡ sum_by (λ (q : Slice). length q.past) qs
ones_and_zeros counts [] = refl
ones_and_zeros counts (q ∷ qs) =
    let rest = ones_and_zeros counts qs in
    let a = sum_by-cons (λ (q : Slice). ones_in q.past) q qs in
    let b = sum_by-cons (λ (q : Slice). zeros_in q.past) q qs in
    let c = sum_by-cons (λ (q : Slice). length q.past) q qs in
    let one = counts q.past in
    omega (arith, rest, a, b, c, one)

-- frames that code these pictures
pub record Made (a : Accepted) (said : Said) (ps : List Planes) : Type 0 where
  pub frames : List CodedFrame
  pub payloads_are : payloads (map Coded frames) ≡ map (λ planes. frame_of a planes said) ps
  pub are : AreFrames a (map Coded frames)
  pub pictures_are : pictures frames ≡ ps
  pub say : AllSay said frames

-- frames of which some are these, all of them coded, and the others are those of the other pictures
pub record Same (a : Accepted) (said : Said) (frames : List Frame) (more : List (List ℕ)) (ps : List Planes) : Type 0 where
  pub others : List Planes
  pub parts : ps ≡ pictures (shown_frames frames) ++ others
  pub say : AllSay said (shown_frames frames)
  pub long : length (shown_frames frames) ≡ length frames
  pub more_are : map (λ planes. frame_of a planes said) others ≡ more
  pub coded : AllCoded a said others

-- what is packed is range coded
range_for : (k : CoderChoice) → is_rice (coder_for k) ≡ false
range_for coder_choice.Standard = refl
range_for coder_choice.Carried = refl

module _ (laws : FrameLaws) (a : Accepted) (accepted : IsAccepted a.configuration a.table) where
  pub frame_bytes : (planes : Planes) (said : Said) → AreBytes (frame_of a planes said)
  frame_bytes planes said =
      row_bytes a.configuration.ec (slice_bytes a planes said) (range_with_len 0 (a.configuration.columns * a.configuration.rows))
      (λ n. laws.sentinel (interval_of (decisions_after a.table [] (chosen_slice a.configuration planes said n))))

  pub frame_some : (planes : Planes) (said : Said) → 0 < length (frame_of a planes said)
  frame_some planes said =
      let columns = laws.columns a accepted in
      let rows = laws.rows a accepted in
      let cells : 0 < a.configuration.columns * a.configuration.rows = mul-pos (omega (arith, columns)) (omega (arith, rows)) in
      let foot : 0 < 1 + foot_length a.configuration.ec = omega arith in
      let all : 0 < a.configuration.columns * a.configuration.rows * (1 + foot_length a.configuration.ec) = mul-pos cells foot in
      let long = laws.long a planes said in
      omega (arith, all, long)

  pub all_coded : (choice : Choice) (ppm : Bool) (h : SaidHead) → a.configuration ≡ configuration_for choice ppm h → IsHeadBy ppm h.head → IsSaid (said_for h) → (ps : List Planes) → AllFitting h ps →
      AllShort a h ps → AllCoded a (said_for h) ps
  all_coded choice ppm h for is said [] fitting short = tt
  all_coded choice ppm h for is said (p ∷ ps) fitting short = (
    record {
      codes = laws.encoded a p (said_for h) accepted (ap (λ (c : Configuration). is_rice c.coder) for ∙ range_for choice.coder) (subst (λ c. IsPicture c p) (sym for) (picture_given choice ppm h p is fitting.0)) said short.0;
      bytes = frame_bytes p (said_for h);
      some = frame_some p (said_for h);
    },
    all_coded choice ppm h for is said ps fitting.1 short.1,
  )

  module _ (said : Said) where
    -- a frame is decoded to its end, and has no fault
    decided : (planes : Planes) → CodesOne a said planes → (tally : Tally) × CountOf a (frame_of a planes said) tally
    decided planes coded =
        let payload = frame_of a planes said in
        let cut = laws.cut a.configuration payload coded.codes.spans coded.codes.cuts in
        let run = laws.decoded a payload planes said coded.codes (slice_index cut.0) accepted coded.bytes cut.2 in (
          tally_of a.table run.0,
          record {
            offsets = cut.0;
            cut = cut.1;
            state = run.0;
            decodes = run.1;
            decided = record {
              by_kind = refl;
              in_all = both_saturated (sum_by (λ (q : Slice). ones_in q.past) (slices_in run.0)) (sum_by (λ (q : Slice). zeros_in q.past) (slices_in run.0)) ∙ ap saturated (ones_and_zeros laws.counts (slices_in run.0));
            };
          },
        )

    other_cut : (payload os : List ℕ) (spans : ℕ → ℕ) → CutsTo a.configuration payload (Ok os) → Cuts a.configuration payload spans →
        (s : ℕ) → s ≤ a.configuration.columns * a.configuration.rows → slice_index os s ≡ spans s
    other_cut payload os spans is cuts =
        let cut = laws.cut a.configuration payload spans cuts in
        let same : cut.0 ≡ os = same_ok cut.0 os (laws.one_cut a.configuration payload (Ok cut.0) (Ok os) cut.1 is) in
        λ s inside. ap (λ xs. slice_index xs s) (sym same) ∙ cut.2 s inside

    pub no_fault : (planes : Planes) (fault : FrameFault) (tally : Tally) → CodesOne a said planes → FaultsOf a (frame_of a planes said) fault tally → ⊥
    no_fault planes fault tally coded (inl h) = laws.uncut a.configuration (frame_of a planes said) coded.codes.spans h.0 h.1 coded.codes.cuts
    no_fault planes fault tally coded (inr h) =
        let payload = frame_of a planes said in
        let spans = other_cut payload h.offsets coded.codes.spans h.cut coded.codes.cuts in
        let run = laws.decoded a payload planes said coded.codes (slice_index h.offsets) accepted coded.bytes spans in
        laws.apart a (coded_of payload (foot_length a.configuration.ec) (slice_index h.offsets)) run.0 h.state fault accepted
        (λ n. coded_bytes payload (foot_length a.configuration.ec) (slice_index h.offsets) n coded.bytes) run.1 h.refused

    pub made : (ps : List Planes) → AllCoded a said ps → Made a said ps
    made [] coded = record { frames = []; payloads_are = refl; are = tt; pictures_are = refl; say = tt }
    made (p ∷ ps) coded =
        let rest = made ps coded.1 in
        let one = decided p coded.0 in
        let frame : CodedFrame = record { payload = frame_of a p said; planes = p; said = said; tally = one.0 } in record {
          frames = frame ∷ rest.frames;
          payloads_are = ap (λ z. frame_of a p said ∷ z) rest.payloads_are;
          are = (record { codes = coded.0.codes; decided = one.1 }, rest.are);
          pictures_are = ap (λ z. p ∷ z) rest.pictures_are;
          say = (refl, rest.say);
        }

    first_of : {X : Type 0} (x y : X) (xs ys : List X) → x ∷ xs ≡ y ∷ ys → (x ≡ y) × (xs ≡ ys)
    first_of x y xs ys e = (cc, cc)

    -- no frame of them has no bytes
    coded_some : (planes : Planes) → CodesOne a said planes → frame_of a planes said ≡ [] → ⊥
    coded_some planes coded none =
        let long : length (frame_of a planes said) ≡ 0 = ap (λ (bytes : List ℕ). length bytes) none in
        absurd (let some = coded.some in omega (arith, long, some))

    -- frames that are all coded, after one or after none
    record SameAfter (last : Option CodedFrame) (frames : List Frame) (more : List (List ℕ)) (ps : List Planes) : Type 0 where
      others : List Planes
      parts : ps ≡ pictures (shown_after last frames) ++ others
      say : AllSay said (shown_after last frames)
      long : length (shown_after last frames) ≡ length frames
      more_are : map (λ planes. frame_of a planes said) others ≡ more
      coded : AllCoded a said others

    same_after : (last : Option CodedFrame) (frames : List Frame) (more : List (List ℕ)) (ps : List Planes) → AreFrames a frames → AllCoded a said ps → map (λ planes. frame_of a planes said) ps ≡ payloads frames ++ more →
        SameAfter last frames more ps
    same_after last [] more ps are coded e = record { others = ps; parts = refl; say = tt; long = refl; more_are = e; coded = coded }
    same_after last (f ∷ fs) more [] are coded e = absurd (cc)
    same_after last (Again ∷ fs) more (p ∷ ps) are coded e =
        absurd (coded_some p coded.0 (first_of (frame_of a p said) [] (map (λ planes. frame_of a planes said) ps) (payloads fs ++ more) e).0)
    same_after last (Coded f ∷ fs) more (p ∷ ps) are coded e =
        let parts = first_of (frame_of a p said) f.payload (map (λ planes. frame_of a planes said) ps) (payloads fs ++ more) e in
        let rest = same_after (Some f) fs more ps are.1 coded.1 parts.1 in
        let one = laws.one a f.payload f.planes p f.said said accepted (subst AreBytes parts.0 coded.0.bytes) are.0.codes (subst (λ b. CodesPicture a b p said) parts.0 coded.0.codes) in record {
          others = rest.others;
          parts = ap (λ z. z ∷ ps) (sym one.0) ∙ ap (λ z. f.planes ∷ z) rest.parts;
          say = (one.1, rest.say);
          long = ap suc rest.long;
          more_are = rest.more_are;
          coded = rest.coded;
        }

    pub same : (frames : List Frame) (more : List (List ℕ)) (ps : List Planes) → AreFrames a frames → AllCoded a said ps → map (λ planes. frame_of a planes said) ps ≡ payloads frames ++ more → Same a said frames more ps
    same frames more ps are coded e =
        let all = same_after None frames more ps are coded e in
        record { others = all.others; parts = all.parts; say = all.say; long = all.long; more_are = all.more_are; coded = all.coded }
