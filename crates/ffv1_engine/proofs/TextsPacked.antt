-- A text that was packed is a video that is read, and its AVI is a file of that video.
use Rattle.std.proofs.Common.{◌≡◌, refl, ℕ, ◌<◌, Bool, true, Option, Some, None, Ok, List, [], ◌∷◌, length, sym, subst}
use Rattle.ffv1_range.specs.Codes.{AreBytes}
use Rattle.std.specs.Prelude.{IsTrue, nat_le, ◌&&◌}
use Rattle.ffv1_record.specs.Accepted.{PassesAll, PassesEdges, checks, has_coder, least_coder, suits_depth, type_of}
use Rattle.ffv1_record.specs.declared.config.Profile.{Profile as RecordProfile}
use Rattle.ffv1_record.specs.declared.config.Profile.TheVariants as of_record
use Rattle.ffv1_record.specs.Accepted.{Accepted}
use Rattle.ffv1_codec.specs.Picture.{Planes}
use Rattle.ffv1_files.specs.Places.{extent_in}
use Rattle.ffv1_avi.specs.Chunks.{IsWritable}
use Rattle.ffv1_files.specs.Files.{file_read}
use Rattle.ffv1_files.specs.Noted.{IsNotedOf}
use Rattle.ffv1_files.specs.declared.notes.Notes.{Notes}
use Rattle.ffv1_y4m.specs.VideoHead.{IsRatio}
use Rattle.ffv1_video.specs.Video.{SaidHead}
use Rattle.ffv1_video.specs.declared.profile.Profile.{Profile}
use Rattle.ffv1_video.specs.declared.profile.Profile.TheVariants.{Strict, Wide}
use Rattle.ffv1_video.specs.Profiles.{greatest_depth, scope_in, record_profile}
use Rattle.ffv1_pack.proofs.ReadableFrames.{readable_wide}
use Rattle.ffv1_words.specs.declared.order.Choice.{Choice}
use Rattle.ffv1_words.specs.declared.order.CoderChoice.{CoderChoice}
use Rattle.ffv1_words.specs.declared.order.CoderChoice.TheVariants as coder_choice
use Rattle.ffv1_avi.specs.Written.{most}
use Rattle.ffv1_pack.specs.Packing.{AllShort, AreReadable, IsFor, coder_for, configuration_for, packed_file, packed_frames, packed_head, said_for}
use Rattle.ffv1_engine.specs.RoundTrip.{accepted_in, IsFileIn, IsReadIn, WasPacked, canonical_of, text_video, video_in}
use Rattle.ffv1_video.specs.Video.{IsReadVideo, IsVideo, ReadsVideo, Video}
use Rattle.ffv1_pack.specs.VideoReads.{IsHeadBy}
use Rattle.ffv1_video.specs.Colours.{plain, plain_choice}
use Rattle.ffv1_engine.proofs.ColourNumbers.{plain_head_by, plain_named}
use Rattle.ffv1_video.proofs.Depths.{all_within, eight_within}
use Rattle.ffv1_engine.proofs.FileTurns.{opened}
use Rattle.ffv1_engine.proofs.OpensOnce.{OpensOnce, avi_once}
use Rattle.ffv1_engine.proofs.PackedFrames.{AllCoded, FrameLaws, all_coded}
use Rattle.ffv1_engine.proofs.PackedPictures.{head_given, name_given, pictures_given, said_given}
use Rattle.ffv1_engine.proofs.PackedText.{RecordLaws}
use Rattle.ffv1_record.specs.Configuration.{Configuration}
use Rattle.ffv1_engine.proofs.CanonicalVideos.{FileLaws, ppm_by, same_by}
use Rattle.ffv1_engine.proofs.PackedIsUnpacked.{Given, can_write}

-- a text that was packed is such a text
pub reads_is : (most : ℕ) (text : List ℕ) (old new : Option (List ℕ)) (v : Video) → old ≡ Some text → ReadsVideo most old new v → IsReadVideo most text v
reads_is most text old new v known h = is_video new (subst (λ o. ReadsVideo most o new v) known h)
  where
    is_video : (rest : Option (List ℕ)) → ReadsVideo most (Some text) rest v → IsReadVideo most text v
    is_video None k = absurd k
    is_video (Some rest) k = k.0

-- what was accepted, in the profile that the file is read in
abbrev pub accepted_as : {packing : Profile} → {choice : Choice} → {text : List ℕ} → Profile → WasPacked packing choice text → Accepted
accepted_as profile w = record { configuration = w.packs.accepted.configuration; table = w.packs.accepted.table; profile = record_profile profile }

pub short_in : (profile : Profile) (a : Accepted) (h : SaidHead) (ps : List Planes) → AllShort a h ps → AllShort (record { configuration = a.configuration; table = a.table; profile = record_profile profile }) h ps
short_in profile a h [] short = tt
short_in profile a h (p ∷ ps) short = (λ long. short.0 (record { slice = long.slice; inside = long.inside; long = long.long }), short_in profile a h ps short.1)

-- what is known of a video that was read from a text of bytes
module _ {profile : Profile} (files : FileLaws profile) (frame_laws : FrameLaws) (read_in : Profile) (most : ℕ) (choice : Choice) (text : List ℕ) (v : Video) (a : Accepted) (is : IsReadVideo most text v) (bytes : AreBytes text)
    (for : IsFor read_in choice v.ppm v.head a) (short : AllShort a v.head v.pictures) where
  pub head_known : IsHeadBy v.ppm v.head.head
  head_known = head_given files.said most v.ppm text v.head v.pictures is

  pub coded_known : AllCoded a (said_for v.head) v.pictures
  coded_known = all_coded frame_laws a for.accepted choice v.ppm v.head for.configuration head_known (said_given v.ppm v.head head_known) v.pictures (pictures_given most v.ppm text v.head v.pictures is bytes) short

  pub given_by : 0 < length v.pictures → AreReadable (record_profile read_in) (packed_frames v a) → (v.ppm ≡ true → IsRatio 4294967295 choice.rate choice.scale) → Given read_in choice v a
  given_by some readable rated = record {
    head = head_known;
    named = name_given files.named most v.ppm text v.head v.pictures is;
    for = for;
    coded = coded_known;
    some = some;
    readable = readable;
    rated = rated;
  }

-- without range and siting it is one, too
pub given_plain : (profile : Profile) (choice : Choice) (v : Video) (a : Accepted) → Given profile choice v a → Given profile (plain_choice choice) (plain v) a
given_plain profile choice v a g = record {
  head = plain_head_by v.ppm v.head.head g.head;
  named = plain_named v.head.depth v.head.head g.named;
  for = record { configuration = g.for.configuration; accepted = g.for.accepted; passes = g.for.passes; profiled = g.for.profiled };
  coded = g.coded;
  some = g.some;
  readable = g.readable;
  rated = g.rated;
}

-- the text that was packed is that video, as it was read
pub packed_so : (packing : Profile) (choice : Choice) (text : List ℕ) (w : WasPacked packing choice text) → IsReadVideo (greatest_depth packing) text (text_video w)
packed_so packing choice text w = reads_is (greatest_depth packing) text w.input.old w.input.new w.packs.video w.known w.packs.reads

pub given_text : (packing profile : Profile) → FileLaws profile → FrameLaws → (choice : Choice) (text : List ℕ) (w : WasPacked packing choice text) → IsReadIn profile (video_in w) (accepted_in w) → Given profile choice (text_video w) (accepted_as profile w)
given_text packing profile files frame_laws choice text w read =
    given_by files frame_laws profile (greatest_depth packing) choice text (text_video w) (accepted_as profile w) (packed_so packing choice text w) w.bytes
    (record { configuration = w.packs.packable.for.configuration; accepted = w.packs.packable.for.accepted; passes = read.passes; profiled = refl })
    (short_in profile w.packs.accepted w.packs.video.head w.packs.video.pictures w.packs.packable.short) w.packs.packable.some read.readable w.rated

pub given : (packing profile : Profile) → FileLaws profile → FrameLaws → (choice : Choice) (text : List ℕ) (w : WasPacked packing choice text) → IsReadIn profile (video_in w) (accepted_in w) → Given profile (plain_choice choice) (video_in w) (accepted_as profile w)
given packing profile files frame_laws choice text w read = given_plain profile choice (text_video w) (accepted_as profile w) (given_text packing profile files frame_laws choice text w read)

pub same_video : {profile : Profile} → FileLaws profile → (packing : Profile) (choice : Choice) (text : List ℕ) (w : WasPacked packing choice text) → IsVideo (canonical_of (video_in w)) (video_in w)
same_video files packing choice text w = same_by files (greatest_depth packing) w.packs.video.ppm text w.packs.video.head w.packs.video.pictures (packed_so packing choice text w)

pub same_ppm : (packing : Profile) (choice : Choice) (text : List ℕ) (w : WasPacked packing choice text) → IsVideo text (video_in w) → (video_in w).ppm ≡ true → canonical_of (video_in w) ≡ text
same_ppm packing choice text w is = ppm_by w.packs.video.ppm text (video_in w).head w.packs.video.pictures is

-- what passes the checks of `Wide`, and whose edges pass in a profile, passes the checks of that
passes_by : (p : RecordProfile) (c : Configuration) → PassesAll of_record.Wide checks c → PassesEdges p c → IsTrue (has_coder p c) → PassesAll p checks c
passes_by of_record.Strict c passes edges coder =
    (passes.0, (passes.1.0, (passes.1.1.0, (passes.1.1.1.0, (passes.1.1.1.1.0, (passes.1.1.1.1.1.0, (edges, (coder, tt))))))))
passes_by of_record.Wide c passes edges coder = passes

-- what is packed is range coded
has_range : (p : RecordProfile) (c : CoderChoice) (depth : ℕ) → IsTrue (nat_le (least_coder p) (type_of (coder_for c)) && suits_depth (coder_for c) depth)
has_range of_record.Strict coder_choice.Standard depth = refl
has_range of_record.Strict coder_choice.Carried depth = refl
has_range of_record.Wide coder_choice.Standard depth = refl
has_range of_record.Wide coder_choice.Carried depth = refl

coder_passes : (p : RecordProfile) (choice : Choice) (ppm : Bool) (h : SaidHead) (c : Configuration) → c ≡ configuration_for choice ppm h → IsTrue (has_coder p c)
coder_passes p choice ppm h c is = subst (λ (k : Configuration). IsTrue (has_coder p k)) (sym is) (has_range p choice.coder h.depth)

-- its frames are read in the profile that it was packed in
frames_are_read : (packing : Profile) (choice : Choice) (text : List ℕ) (w : WasPacked packing choice text) → AreReadable (record_profile packing) (packed_frames (video_in w) (accepted_in w))
frames_are_read Strict choice text w = w.readable refl
frames_are_read Wide choice text w = w.packs.packable.readable refl

-- it is read in each profile that reads its depth and its frames, and accepts its edges
pub read_in : (packing profile : Profile) (choice : Choice) (text : List ℕ) (w : WasPacked packing choice text) → IsReadIn packing (video_in w) (accepted_in w) × IsReadIn Wide (video_in w) (accepted_in w)
    × ((video_in w).head.depth ≡ 8 → PassesEdges (record_profile profile) (accepted_in w).configuration → AreReadable (record_profile profile) (packed_frames (video_in w) (accepted_in w)) → IsReadIn profile (video_in w) (accepted_in w))
read_in packing profile choice text w = (
  record { deep = w.packs.packable.deep; passes = w.packs.packable.for.passes; readable = frames_are_read packing choice text w },
  record {
    deep = all_within packing w.packs.video.head.depth w.packs.packable.deep;
    passes = w.packs.packable.for.accepted.passes;
    readable = readable_wide (record_profile packing) (packed_frames (video_in w) (accepted_in w)) (frames_are_read packing choice text w);
  },
  λ eight edges readable. record {
    deep = eight_within profile w.packs.video.head.depth eight;
    passes = passes_by (record_profile profile) (accepted_in w).configuration w.packs.packable.for.accepted.passes edges
        (coder_passes (record_profile profile) choice w.packs.video.ppm w.packs.video.head (accepted_in w).configuration w.packs.packable.for.configuration);
    readable = readable;
  },
)

-- the AVI of such a text
module _ (packing profile : Profile) (files : FileLaws profile) (frame_laws : FrameLaws) (records : RecordLaws) (choice : Choice) (text : List ℕ) (w : WasPacked packing choice text) (read : IsReadIn profile (video_in w) (accepted_in w)) where
  avi_writable : IsWritable (extent_in (scope_in profile)) (packed_head choice (text_video w) (accepted_as profile w)) (packed_frames (text_video w) (accepted_as profile w))
  avi_writable = can_write profile files frame_laws records choice (text_video w) (accepted_as profile w) refl read.deep (given_text packing profile files frame_laws choice text w read) w.packs.packable.small

  pub avi_reads : file_read (scope_in profile) (packed_file choice (text_video w) (accepted_as profile w)) ≡ Ok ((packed_head (plain_choice choice) (video_in w) (accepted_as profile w), packed_frames (video_in w) (accepted_as profile w)), [])
  avi_reads = files.read (packed_head choice (text_video w) (accepted_as profile w)) (packed_frames (text_video w) (accepted_as profile w)) avi_writable

  pub avi_is : IsFileIn profile (packed_file choice (text_video w) (accepted_as profile w)) (packed_head (plain_choice choice) (video_in w) (accepted_as profile w)) (packed_frames (video_in w) (accepted_as profile w))
  avi_is = files.file (packed_head choice (text_video w) (accepted_as profile w)) (packed_frames (text_video w) (accepted_as profile w)) avi_writable

  -- after which no bytes are noted
  pub none_after : (notes : Notes) → IsNotedOf (scope_in profile) (packed_file choice (text_video w) (accepted_as profile w)) [] notes → notes.after ≡ None
  none_after notes noted = files.none (packed_head choice (text_video w) (accepted_as profile w)) (packed_frames (text_video w) (accepted_as profile w)) [] notes avi_writable noted

  -- which opens in one reading
  pub avi_opens : OpensOnce profile (packed_file choice (text_video w) (accepted_as profile w))
  avi_opens =
      let file = packed_file choice (text_video w) (accepted_as profile w) in
      let head = packed_head (plain_choice choice) (video_in w) (accepted_as profile w) in
      let frames = packed_frames (video_in w) (accepted_as profile w) in
      avi_once profile file head frames _ avi_is (opened (scope_in profile) file head frames [] avi_reads).opened
