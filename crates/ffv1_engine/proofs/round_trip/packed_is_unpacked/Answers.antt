-- A text that `pack` has packed is unpacked again.
use Rattle.std.proofs.Common.{◌∙◌, refl, sym}
use Rattle.ffv1_video.specs.Colours.{plain_choice}
use Rattle.ffv1_pack.specs.Grids.{choice_for}
use Rattle.ffv1_video.specs.Profiles.{greatest_depth}
use Rattle.ffv1_video.specs.declared.profile.Profile.{Profile}
use Rattle.ffv1_video.specs.declared.profile.Profile.TheVariants.{Strict, Wide}
use Rattle.ffv1_files.specs.declared.container.Scope.TheVariants.{FirstMovi, Whole}
use Rattle.ffv1_engine.proofs.ColourNumbers.{kept_text}
use Rattle.ffv1_engine.proofs.PackedFrames.{FrameLaws}
use Rattle.ffv1_matroska.specs.MatroskaFiles.{MatroskaFile}
use Rattle.ffv1_engine.specs.MatroskaRoundTrip.{matroska_file}
use Rattle.ffv1_pack.specs.Packing.{packed_file}
use Rattle.ffv1_engine.specs.RoundTrip.{IsFileIn, text_video, video_in}
use Rattle.ffv1_engine.proofs.MatroskaUnpacked.{MatroskaLaws, accepted_wide, begun_read, file_is}
use Rattle.ffv1_engine.proofs.MatroskaUnpacked.{file_reads, given as of_matroska}
use Rattle.ffv1_engine.proofs.MatroskaUnpacked.{packed_so as matroska_so, read_wide, writable}
use Rattle.ffv1_engine.proofs.CanonicalVideos.{FileLaws, again_by, again_text, lined_by, ppm_shown}
use Rattle.ffv1_engine.proofs.CanonicalVideos.{strict_by}
use Rattle.ffv1_engine.proofs.PackedIsUnpacked.{check_refused, holds, show_refused, unpack_refused}
use Rattle.ffv1_engine.proofs.PackedIsUnpacked.{written, noted_so, none_behind}
use Rattle.ffv1_engine.proofs.TextsPacked.{accepted_as, avi_is, avi_opens, avi_reads, given}
use Rattle.ffv1_engine.proofs.TextsPacked.{none_after, packed_so, read_in, same_ppm, same_video}
use Rattle.ffv1_engine.proofs.PackedPictures.{name_given}
use Rattle.ffv1_engine.proofs.PackedText.{RecordLaws}
use Rattle.ffv1_engine.proofs.MatroskaUnpacked.{file_first, file_opens}
use Rattle.ffv1_engine.proofs.round_trip.packed_is_unpacked.Goals as goal

file_laws : (profile : Profile) → goal.After-written_bytes_are_a_record → FileLaws profile
file_laws Strict c = record {
  file = c.written_file_is_read_back.ensures.file;
  read = c.written_avi_is_read_back.ensures FirstMovi;
  none = c.nothing_is_noted_after_a_written_avi.ensures FirstMovi;
  is_read = c.file_is_read_as_its_frames.ensures.first;
  is_whole = c.file_is_read_as_its_frames.ensures.whole;
  next = c.frames_come_in_turn.ensures;
  said = c.said_head_can_be_read.ensures;
  named = c.said_chroma_has_a_name.ensures;
  neither = c.strict_head_says_neither.ensures.line;
  canonical = c.text_is_read_as_its_pictures.ensures.canonical;
  strict = c.text_is_read_as_its_pictures.ensures.strict;
}
file_laws Wide c = record {
  file = c.written_file_is_read_back.ensures.riff;
  read = c.written_avi_is_read_back.ensures Whole;
  none = c.nothing_is_noted_after_a_written_avi.ensures Whole;
  is_read = c.file_is_read_as_its_frames.ensures.first;
  is_whole = c.file_is_read_as_its_frames.ensures.whole;
  next = c.frames_come_in_turn.ensures;
  said = c.said_head_can_be_read.ensures;
  named = c.said_chroma_has_a_name.ensures;
  neither = c.strict_head_says_neither.ensures.line;
  canonical = c.text_is_read_as_its_pictures.ensures.canonical;
  strict = c.text_is_read_as_its_pictures.ensures.strict;
}

frame_laws : goal.After-written_bytes_are_a_record → FrameLaws
frame_laws c = record {
  encoded = c.encoded_frame_codes_its_picture.ensures;
  one = c.payload_codes_one_picture.ensures;
  decoded = c.coded_picture_is_decoded.ensures;
  apart = c.decoding_has_one_end.ensures.apart;
  cut = c.payload_is_cut_in_one_way.ensures.only;
  one_cut = c.payload_is_cut_in_one_way.ensures.one;
  uncut = c.payload_is_cut_in_one_way.ensures.refused;
  long = c.frame_length_follows_from_residuals.ensures.long;
  columns = λ a is. (c.accepted_configuration_is_in_range.ensures.columns a.configuration a.table
      is).0;
  rows = λ a is. (c.accepted_configuration_is_in_range.ensures.rows a.configuration a.table is).0;
  sentinel = c.sentinel_ending_codes_its_list.ensures.bytes;
  counts = c.each_step_is_one_or_zero.ensures.steps;
}

record_laws : goal.After-written_bytes_are_a_record → RecordLaws
record_laws c = record {
  written = c.written_bytes_are_a_record.ensures;
  one = c.record_has_one_configuration.ensures.one;
  table = c.record_has_one_configuration.ensures.table;
  none = c.bytes_are_refused_for_one_reason.ensures.none;
  symbols = record {
    none = c.symbol_length_follows_from_exponent.ensures.zero;
    some =
        c.symbol_length_follows_from_exponent.ensures.unsigned;
    least =
        c.exponent_is_the_highest_bit.ensures.least;
    same =
        c.symbol_length_follows_from_exponent.ensures.shifted;
  };
  numbers = record {
    depth = c.accepted_configuration_is_in_range.ensures.depth;
    factors =
        c.accepted_configuration_is_in_range.ensures.factors;
    columns =
        c.accepted_configuration_is_in_range.ensures.columns;
    rows =
        c.accepted_configuration_is_in_range.ensures.rows;
  };
}

matroska_laws : goal.After-written_bytes_are_a_record → MatroskaLaws
matroska_laws c = record {
  finished = c.written_file_is_read_back-2.ensures.finished;
  opened = c.written_file_is_read_back-2.ensures.«open»;
  begun = c.written_file_is_read_back-2.ensures.begun;
  is_file = c.what_is_read_is_a_file.ensures;
  anywhere = c.file_is_read_wherever_its_tracks_stand.ensures.before;
  is_whole = c.file_is_read_as_its_frames.ensures.whole;
}

pub returns-clause-read : goal.returns-clause-read
returns-clause-read c = read_in

pub returns-clause-holds : goal.returns-clause-holds
returns-clause-holds c = λ packing profile choice text w read.
    holds profile (file_laws profile c) (frame_laws c) (record_laws c) (plain_choice choice) (video_in w) (accepted_as profile w) refl read.deep (given packing profile (file_laws profile c) (frame_laws c) choice text w read)
    (packed_file choice (text_video w) (accepted_as profile w))
    (avi_reads packing profile (file_laws profile c) (frame_laws c) (record_laws c) choice text w
    read) (IsFileIn profile) (avi_is packing profile (file_laws profile c) (frame_laws c)
    (record_laws c) choice text w read)

pub returns-clause-written : goal.returns-clause-written
returns-clause-written c = λ packing profile choice text w input output count notes read.
    written profile (file_laws profile c) (frame_laws c) (record_laws c) (plain_choice choice) (video_in w) (accepted_as profile w) refl read.deep (given packing profile (file_laws profile c) (frame_laws c) choice text w read)
    (packed_file choice (text_video w) (accepted_as profile w))
    (avi_reads packing profile (file_laws profile c) (frame_laws c) (record_laws c) choice text w
    read) input output count notes

pub returns-clause-noted : goal.returns-clause-noted
returns-clause-noted c = λ packing profile choice text w input output count notes read known done.
    let is = noted_so profile (file_laws profile c) (frame_laws c) (record_laws c) (plain_choice choice) (video_in w) (accepted_as profile w) refl read.deep (given packing profile (file_laws profile c) (frame_laws c) choice text w read)
    (packed_file choice (text_video w) (accepted_as profile w))
    (avi_reads packing profile (file_laws profile c) (frame_laws c) (record_laws c) choice text w
    read) input output count notes known done in (
      is,
      none_after packing profile (file_laws profile c) (frame_laws c) (record_laws c) choice text w
          read notes is,
    )

pub returns-clause-refused : goal.returns-clause-refused
returns-clause-refused c = λ packing profile choice text w input output f read known stops.
    unpack_refused profile (file_laws profile c) (frame_laws c) (record_laws c) (plain_choice choice) (video_in w) (accepted_as profile w) refl read.deep (given packing profile (file_laws profile c) (frame_laws c) choice text w read)
    (packed_file choice (text_video w) (accepted_as profile w))
    (avi_reads packing profile (file_laws profile c) (frame_laws c) (record_laws c) choice text w
    read) (avi_opens packing profile (file_laws profile c) (frame_laws c) (record_laws c) choice text w
    read) input output known f stops

pub returns-clause-checked : goal.returns-clause-checked
returns-clause-checked c = λ packing profile choice text w place input output f read known stops.
    check_refused profile (file_laws profile c) (frame_laws c) (record_laws c) (plain_choice choice) (video_in w) (accepted_as profile w) refl read.deep (given packing profile (file_laws profile c) (frame_laws c) choice text w read)
    (packed_file choice (text_video w) (accepted_as profile w))
    (avi_reads packing profile (file_laws profile c) (frame_laws c) (record_laws c) choice text w
    read) (avi_opens packing profile (file_laws profile c) (frame_laws c) (record_laws c) choice text w
    read) input output known place f stops

pub returns-clause-shown : goal.returns-clause-shown
returns-clause-shown c = λ packing profile choice text w cost input output f read known stops.
    show_refused profile (file_laws profile c) (frame_laws c) (record_laws c) (plain_choice choice) (video_in w) (accepted_as profile w) refl read.deep (given packing profile (file_laws profile c) (frame_laws c) choice text w read)
    (packed_file choice (text_video w) (accepted_as profile w))
    (avi_reads packing profile (file_laws profile c) (frame_laws c) (record_laws c) choice text w
    read) (avi_opens packing profile (file_laws profile c) (frame_laws c) (record_laws c) choice text w
    read) input output known cost f stops

pub returns-clause-same : goal.returns-clause-same
returns-clause-same c = same_video (file_laws Strict c)

pub returns-clause-kept : goal.returns-clause-kept
returns-clause-kept c = λ packing choice text w none. kept_text choice.colour w.packs.video.ppm
    w.packs.video.head w.packs.video.pictures (name_given c.said_chroma_has_a_name.ensures
    (greatest_depth packing) w.packs.video.ppm text w.packs.video.head w.packs.video.pictures
    (packed_so packing choice text w)) (sym w.packs.loses ∙ none)

pub returns-clause-packed : goal.returns-clause-packed
returns-clause-packed c = packed_so

pub returns-clause-strict : goal.returns-clause-strict
returns-clause-strict c = λ choice text w. strict_by (file_laws Strict c) w.packs.video.ppm text
    w.packs.video.head w.packs.video.pictures (lined_by
    c.text_is_read_as_its_images.ensures.lined w.packs.video.ppm text w.packs.video.head
    w.packs.video.pictures (packed_so Strict choice text w))

pub returns-clause-ppm : goal.returns-clause-ppm
returns-clause-ppm c = same_ppm

pub returns-clause-matroska_holds : goal.returns-clause-matroska_holds
returns-clause-matroska_holds c = λ packing choice text w.
    holds Wide (file_laws Wide c) (frame_laws c) (record_laws c)
    (choice_for packing choice w.packs.video.head) w.packs.video (accepted_wide w) refl
    (read_wide packing choice text w).deep (of_matroska packing (file_laws Wide c) (frame_laws c) choice text w) (matroska_file w)
    (file_reads packing (frame_laws c) (record_laws c) (matroska_laws c) choice text w) MatroskaFile
    (file_is packing (frame_laws c) (record_laws c) (matroska_laws c) choice text w)

pub returns-clause-matroska_written : goal.returns-clause-matroska_written
returns-clause-matroska_written c = λ packing choice text w.
    written Wide (file_laws Wide c) (frame_laws c) (record_laws c)
    (choice_for packing choice w.packs.video.head) w.packs.video (accepted_wide w) refl
    (read_wide packing choice text w).deep (of_matroska packing (file_laws Wide c) (frame_laws c) choice text w) (matroska_file w)
    (file_reads packing (frame_laws c) (record_laws c) (matroska_laws c) choice text w)

pub returns-clause-matroska_noted : goal.returns-clause-matroska_noted
returns-clause-matroska_noted c = λ packing choice text w input output count notes known done. (
  noted_so Wide (file_laws Wide c) (frame_laws c) (record_laws c)
      (choice_for packing choice w.packs.video.head) w.packs.video (accepted_wide w) refl
      (read_wide packing choice text w).deep (of_matroska packing (file_laws Wide c) (frame_laws c) choice text w) (matroska_file w)
      (file_reads packing (frame_laws c) (record_laws c) (matroska_laws c) choice text w) input output count notes known done,
  none_behind Wide (file_laws Wide c) (frame_laws c) (record_laws c)
      (choice_for packing choice w.packs.video.head) w.packs.video (accepted_wide w) refl
      (read_wide packing choice text w).deep (of_matroska packing (file_laws Wide c) (frame_laws c) choice text w) (matroska_file w)
      (file_reads packing (frame_laws c) (record_laws c) (matroska_laws c) choice text w)
      (file_first packing (frame_laws c) (record_laws c) (matroska_laws c) choice text w) input output count notes known done,
)

pub returns-clause-matroska_refused : goal.returns-clause-matroska_refused
returns-clause-matroska_refused c = λ packing choice text w input output f known stops.
    unpack_refused Wide (file_laws Wide c) (frame_laws c) (record_laws c)
    (choice_for packing choice w.packs.video.head) w.packs.video (accepted_wide w) refl
    (read_wide packing choice text w).deep (of_matroska packing (file_laws Wide c) (frame_laws c) choice text w) (matroska_file w)
    (file_reads packing (frame_laws c) (record_laws c) (matroska_laws c) choice text w)
    (file_opens packing (frame_laws c) (record_laws c) (matroska_laws c) choice text w) input output
    known f stops

pub returns-clause-matroska_checked : goal.returns-clause-matroska_checked
returns-clause-matroska_checked c = λ packing choice text w place input output f known stops.
    check_refused Wide (file_laws Wide c) (frame_laws c) (record_laws c)
    (choice_for packing choice w.packs.video.head) w.packs.video (accepted_wide w) refl
    (read_wide packing choice text w).deep (of_matroska packing (file_laws Wide c) (frame_laws c) choice text w) (matroska_file w)
    (file_reads packing (frame_laws c) (record_laws c) (matroska_laws c) choice text w)
    (file_opens packing (frame_laws c) (record_laws c) (matroska_laws c) choice text w) input output
    known place f stops

pub returns-clause-matroska_shown : goal.returns-clause-matroska_shown
returns-clause-matroska_shown c = λ packing choice text w cost input output f known stops.
    show_refused Wide (file_laws Wide c) (frame_laws c) (record_laws c)
    (choice_for packing choice w.packs.video.head) w.packs.video (accepted_wide w) refl
    (read_wide packing choice text w).deep (of_matroska packing (file_laws Wide c) (frame_laws c) choice text w) (matroska_file w)
    (file_reads packing (frame_laws c) (record_laws c) (matroska_laws c) choice text w)
    (file_opens packing (frame_laws c) (record_laws c) (matroska_laws c) choice text w) input output
    known cost f stops

pub returns-clause-matroska_same : goal.returns-clause-matroska_same
returns-clause-matroska_same c = λ packing choice text w. again_by (file_laws Wide c)
    c.text_is_read_as_its_images.ensures.same choice.colour (greatest_depth packing)
    w.packs.video.ppm text w.packs.video.head w.packs.video.pictures (matroska_so packing choice text w)

pub returns-clause-matroska_again : goal.returns-clause-matroska_again
returns-clause-matroska_again c = λ packing choice text w. again_text (file_laws Wide c)
    c.text_is_read_as_its_pictures.ensures.same choice.colour (greatest_depth packing)
    w.packs.video.ppm text w.packs.video.head w.packs.video.pictures
    (matroska_so packing choice text w)

pub returns-clause-matroska_packed : goal.returns-clause-matroska_packed
returns-clause-matroska_packed c = matroska_so

pub returns-clause-matroska_strict : goal.returns-clause-matroska_strict
returns-clause-matroska_strict c = λ choice text w. lined_by
    c.text_is_read_as_its_images.ensures.lined w.packs.video.ppm text w.packs.video.head
    w.packs.video.pictures (matroska_so Strict choice text w)

pub returns-clause-matroska_ppm : goal.returns-clause-matroska_ppm
returns-clause-matroska_ppm c = λ packing choice text w is. ppm_shown choice.colour w.packs.video.ppm
    text w.packs.video.head w.packs.video.pictures is

pub returns-clause-begun : goal.returns-clause-begun
returns-clause-begun c = λ profile choice v a has some rated coloured. begun_read (matroska_laws c)
    choice v a some (writable profile (frame_laws c) (record_laws c) choice v a has some rated coloured)
