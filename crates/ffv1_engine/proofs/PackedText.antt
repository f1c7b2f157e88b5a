-- The stream of a video that was packed, and its text.
use Rattle.std.proofs.Common.{◌≡◌, refl, ℕ, ◌+◌, ◌<◌, ◌≤◌, Bool, true, false, List, [], ◌∷◌, length, map, ap, ap₂, sym, subst, ◌∙◌, arith}
use Rattle.ffv1_range.specs.Codes.{AreBytes}
use Rattle.ffv1_range.specs.Table.{Table}
use Rattle.ffv1_record.specs.Accepted.{Accepted, IsAccepted, PassesAll, checks}
use Rattle.ffv1_record.specs.Configuration.{Configuration}
use Rattle.ffv1_record.specs.Reading.{IsRefused}
use Rattle.ffv1_record.specs.Record.{IsRecord, record_of}
use Rattle.ffv1_record.specs.declared.fault.RecordFault.{RecordFault}
use Rattle.ffv1_codec.specs.Picture.{Planes}
use Rattle.ffv1_codec.specs.SliceList.{Said}
use Rattle.ffv1_avi.specs.Chunks.{AreSized, IsWritable}
use Rattle.ffv1_avi.specs.Names.{most_in}
use Rattle.ffv1_files.specs.Places.{extent_in}
use Rattle.ffv1_reads.specs.Head.{Head, limit}
use Rattle.ffv1_avi.specs.Written.{most, riff_size}
use Rattle.ffv1_codec.specs.Frame.{frame_of}
use Rattle.ffv1_y4m.specs.Canonical.{canonical_text}
use Rattle.ffv1_y4m.specs.VideoHead.{IsNamed, IsRatio, IsSized, has_siting}
use Rattle.ffv1_video.specs.Video.{SaidHead}
use Rattle.ffv1_y4m.specs.declared.head.VideoHead.{VideoHead}
use Rattle.ffv1_words.specs.declared.order.Choice.{Choice}
use Rattle.ffv1_record.specs.declared.config.Profile.{Profile as RecordProfile}
use Rattle.ffv1_video.specs.declared.profile.Profile.{Profile}
use Rattle.ffv1_video.specs.Profiles.{greatest_depth, record_profile, scope_in}
use Rattle.ffv1_video.specs.declared.profile.Profile.TheVariants.{Strict, Wide}
use Rattle.ffv1_pack.specs.Packing.{AreReadable, configuration_for, head_for, most_frame, said_for}
use Rattle.ffv1_engine.specs.RoundTrip.{canonical_by}
use Rattle.ffv1_unpack.specs.Stream.{CodedFrame, IsStream, Stream}
use Rattle.ffv1_unpack.specs.Unpacked.{AllSay, AreAlike, HasText, pictures, text_of, video_of}
use Rattle.ffv1_pack.specs.VideoReads.{IsHeadBy}
use Rattle.ffv1_video.specs.Colours.{shown_head}
use Rattle.ffv1_engine.proofs.ColourNumbers.{range_shown_back, siting_shown_back}
use Rattle.ffv1_engine.proofs.PackedFrames.{AllCoded}
use Rattle.ffv1_engine.proofs.RecordShort.{HasLowNumbers, NumberLaws, SymbolLaws, low_numbers, record_are_bytes, record_short}

-- what is known of records
pub record RecordLaws : Type 0 where
  pub written : (c : Configuration) → IsRecord (record_of c) c
  pub one : (bytes : List ℕ) (c d : Configuration) (t u : Table) → AreBytes bytes → IsAccepted c t → IsAccepted d u → c.width ≡ d.width → c.height ≡ d.height → IsRecord bytes c → IsRecord bytes d → c ≡ d
  pub table : (c : Configuration) (t u : Table) → IsAccepted c t → IsAccepted c u → t ≡ u
  pub none : (p : RecordProfile) (most : ℕ) (bytes : List ℕ) (c : Configuration) (t : Table) (f : RecordFault) → AreBytes bytes → IsAccepted c t → PassesAll p checks c → c.depth ≤ most → IsRecord bytes c → IsRefused p most bytes c.width c.height f → ⊥
  pub symbols : SymbolLaws
  pub numbers : NumberLaws

-- its head and its configuration
abbrev pub stream_for : Choice → Bool → SaidHead → Accepted → Stream
stream_for choice ppm h a = record { head = head_for choice ppm h a.configuration; accepted = a }

-- sizes of 1 to 8192
pub sized : (ppm : Bool) (h : VideoHead) → IsHeadBy ppm h → IsSized h
sized true h is = is.0
sized false h is = is.sized

pub record Rated (head : Head) : Type 0 where
  pub is : IsRatio 4294967295 head.rate head.scale

pub rated_by : (choice : Choice) (ppm : Bool) (h : SaidHead) (c : Configuration) → IsHeadBy ppm h.head → (ppm ≡ true → IsRatio 4294967295 choice.rate choice.scale) → Rated (head_for choice ppm h c)
rated_by choice true h c is rated = record { is = rated refl }
rated_by choice false h c is rated = record { is = is.rate }

-- frames that can be read
sized_frames : (k : RecordProfile) (a : Accepted) (said : Said) (ps : List Planes) → AllCoded a said ps → AreReadable k (map (λ planes. frame_of a planes said) ps) → AreSized (most_frame k) (map (λ planes. frame_of a planes said) ps)
sized_frames k a said [] coded readable = tt
sized_frames k a said (p ∷ ps) coded readable = (coded.0.some, readable.0, sized_frames k a said ps coded.1 readable.1)

-- a profile of records reads as long frames as a reader does that reads so far
most_is : (profile : Profile) → most_frame (record_profile profile) ≡ most_in (extent_in (scope_in profile))
most_is Strict = refl
most_is Wide = refl

module _ (profile : Profile) (laws : RecordLaws) (choice : Choice) (ppm : Bool) (h : SaidHead) (a : Accepted) (for : a.configuration ≡ configuration_for choice ppm h) (accepted : IsAccepted a.configuration a.table)
    (passes : PassesAll (record_profile profile) checks a.configuration) (profiled : a.profile ≡ record_profile profile) (is : IsHeadBy ppm h.head) (least : h.depth ≤ greatest_depth profile) where
  pub writable : (rated : ppm ≡ true → IsRatio 4294967295 choice.rate choice.scale) (ps : List Planes) → AllCoded a (said_for h) ps → AreReadable (record_profile profile) (map (λ planes. frame_of a planes (said_for h)) ps) →
      riff_size (head_for choice ppm h a.configuration) (map (λ planes. frame_of a planes (said_for h)) ps) ≤ most →
      IsWritable (extent_in (scope_in profile)) (head_for choice ppm h a.configuration) (map (λ planes. frame_of a planes (said_for h)) ps)
  writable rated ps coded readable small =
      let sizes = sized ppm h.head is in
      let ratio = (rated_by choice ppm h a.configuration is rated).is in
      record {
        width = let few = sizes.wide in omega (arith, few);
        height = let few = sizes.high in omega (arith, few);
        rate = let few = ratio.first in omega (arith, few);
        scale = let few = ratio.second in omega (arith, few);
        both = ratio.both;
        short = subst (λ c. 40 + length (record_of c) ≤ limit) (sym for) (record_short laws.symbols choice ppm h (subst HasLowNumbers for (low_numbers laws.numbers a.configuration a.table accepted)));
        sized = subst (λ n. AreSized n (map (λ planes. frame_of a planes (said_for h)) ps)) (most_is profile) (sized_frames (record_profile profile) a (said_for h) ps coded readable);
        small = small;
      }

  wide : a.configuration.width ≡ h.head.width
  wide = ap (λ (c : Configuration). c.width) for

  high : a.configuration.height ≡ h.head.height
  high = ap (λ (c : Configuration). c.height) for

  deep : a.configuration.depth ≤ greatest_depth profile
  deep = subst (λ n. n ≤ greatest_depth profile) (sym (ap (λ (c : Configuration). c.depth) for)) least

  pub stream_is : IsStream profile (stream_for choice ppm h a)
  stream_is = record { coded = laws.written a.configuration; width = wide; height = high; accepted = accepted; passes = passes; profiled = profiled; deep = deep }

  -- a file with that head has this stream and no other
  pub one_stream : (s : Stream) → IsStream profile s → s.head ≡ head_for choice ppm h a.configuration → s ≡ stream_for choice ppm h a
  one_stream s stream same =
      let c : Configuration = s.accepted.configuration in
      let bytes : AreBytes s.head.config_record = subst AreBytes (sym (ap (λ (k : Head). k.config_record) same)) (record_are_bytes a.configuration) in
      let written : IsRecord s.head.config_record a.configuration = subst (λ k. IsRecord k a.configuration) (sym (ap (λ (k : Head). k.config_record) same)) (laws.written a.configuration) in
      let across : c.width ≡ a.configuration.width = stream.width ∙ ap (λ (k : Head). k.width) same ∙ sym wide in
      let down : c.height ≡ a.configuration.height = stream.height ∙ ap (λ (k : Head). k.height) same ∙ sym high in
      let one = laws.one s.head.config_record c a.configuration s.accepted.table a.table bytes stream.accepted accepted across down stream.coded written in
      let tables = laws.table a.configuration s.accepted.table a.table (subst (λ k. IsAccepted k s.accepted.table) one stream.accepted) accepted in
      let named : Configuration → Table → RecordProfile → Accepted = λ k t p. record { configuration = k; table = t; profile = p } in
      let whole : Head → Accepted → Stream = λ k b. record { head = k; accepted = b } in
      let both : s.accepted ≡ a = ap₂ (λ k t. named k t s.accepted.profile) one tables ∙ ap (named a.configuration a.table) (stream.profiled ∙ sym profiled) in
      ap₂ whole same both

  -- its record has no fault
  pub none_refused : (k : Head) (f : RecordFault) → k ≡ head_for choice ppm h a.configuration → IsRefused (record_profile profile) (greatest_depth profile) k.config_record k.width k.height f → ⊥
  none_refused k f same refused =
      let here : IsRefused (record_profile profile) (greatest_depth profile) (record_of a.configuration) h.head.width h.head.height f = subst (λ (j : Head). IsRefused (record_profile profile) (greatest_depth profile) j.config_record j.width j.height f) same refused in
      let sizes : IsRefused (record_profile profile) (greatest_depth profile) (record_of a.configuration) a.configuration.width a.configuration.height f =
      subst (λ m. IsRefused (record_profile profile) (greatest_depth profile) (record_of a.configuration) m a.configuration.height f) (sym wide) (subst (λ n. IsRefused (record_profile profile) (greatest_depth profile) (record_of a.configuration) h.head.width n f) (sym high) here) in
      laws.none (record_profile profile) (greatest_depth profile) (record_of a.configuration) a.configuration a.table f (record_are_bytes a.configuration) accepted passes deep (laws.written a.configuration) sizes

abbrev with_table : Configuration → Table → RecordProfile → Accepted
with_table c t p = record { configuration = c; table = t; profile = p }

text_with : (choice : Choice) (ppm : Bool) (h : SaidHead) → IsHeadBy ppm h.head → IsNamed h.depth h.head → (t : Table) (p : RecordProfile) → HasText (stream_for choice ppm h (with_table (configuration_for choice ppm h) t p))
text_with choice true h is named t p = ap (λ (k : VideoHead). k.extra_plane) is.1
text_with choice false h is named t p = named.name

pub text_given : (choice : Choice) (ppm : Bool) (h : SaidHead) (a : Accepted) → a.configuration ≡ configuration_for choice ppm h → IsHeadBy ppm h.head → IsNamed h.depth h.head → HasText (stream_for choice ppm h a)
text_given choice ppm h a for is named = subst (λ c. HasText (stream_for choice ppm h (with_table c a.table a.profile))) (sym for) (text_with choice ppm h is named a.table a.profile)

alike_with : (choice : Choice) (ppm : Bool) (h : SaidHead) (t : Table) (p : RecordProfile) (frames : List CodedFrame) → AllSay (said_for h) frames → AreAlike (stream_for choice ppm h (with_table (configuration_for choice ppm h) t p)) frames
alike_with choice true h t p frames say = tt
alike_with choice false h t p [] say = tt
alike_with choice false h t p (f ∷ fs) say = subst (λ s. AllSay s fs) (sym say.0) say.1

pub alike_given : (choice : Choice) (ppm : Bool) (h : SaidHead) (a : Accepted) → a.configuration ≡ configuration_for choice ppm h → (frames : List CodedFrame) → AllSay (said_for h) frames → AreAlike (stream_for choice ppm h a) frames
alike_given choice ppm h a for frames say = subst (λ c. AreAlike (stream_for choice ppm h (with_table c a.table a.profile)) frames) (sym for) (alike_with choice ppm h a.table a.profile frames say)

video_with : (choice : Choice) (h : SaidHead) (t : Table) (p : RecordProfile) → IsNamed h.depth h.head → video_of (stream_for choice false h (with_table (configuration_for choice false h) t p)) (said_for h) ≡ (shown_head choice.colour false h).head
video_with choice h t p named =
    ap₂ (λ s r. record h.head { siting = s; range = r })
    (siting_shown_back choice.colour.siting (has_siting h.depth h.head.chroma_planes h.head.log2_h h.head.log2_v) h.head.siting named.sited)
    (range_shown_back choice.colour.range h.head.range)

canonical_with : (choice : Choice) (ppm : Bool) (h : SaidHead) → IsNamed h.depth h.head → (t : Table) (p : RecordProfile) (frames : List CodedFrame) → AllSay (said_for h) frames → 0 < length (pictures frames) →
    text_of (stream_for choice ppm h (with_table (configuration_for choice ppm h) t p)) frames ≡ canonical_by ppm (shown_head choice.colour ppm h) (pictures frames)
canonical_with choice true h named t p frames say some = refl
canonical_with choice false h named t p [] say some = absurd (omega (arith, some))
canonical_with choice false h named t p (f ∷ fs) say some =
    ap (λ s. canonical_text h.depth (video_of (stream_for choice false h (with_table (configuration_for choice false h) t p)) s) (pictures (f ∷ fs))) say.0
    ∙ ap (λ v. canonical_text h.depth v (pictures (f ∷ fs))) (video_with choice h t p named)

pub canonical_given : (choice : Choice) (ppm : Bool) (h : SaidHead) → IsNamed h.depth h.head → (a : Accepted) → a.configuration ≡ configuration_for choice ppm h → (frames : List CodedFrame) (ps : List Planes) → AllSay (said_for h) frames → pictures frames ≡ ps →
    0 < length ps → text_of (stream_for choice ppm h a) frames ≡ canonical_by ppm (shown_head choice.colour ppm h) ps
canonical_given choice ppm h named a for frames ps say are some =
    subst (λ c. text_of (stream_for choice ppm h (with_table c a.table a.profile)) frames ≡ canonical_by ppm (shown_head choice.colour ppm h) ps) (sym for)
    (canonical_with choice ppm h named a.table a.profile frames say (subst (λ qs. 0 < length qs) (sym are) some) ∙ ap (canonical_by ppm (shown_head choice.colour ppm h)) are)
