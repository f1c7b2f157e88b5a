-- What reading and encoding a whole video answers.
use Rattle.std.specs.Prelude.{◌≡◌, ◌⊎◌, ℕ, ◌<◌, ◌≤◌, List, length, Option}
use Rattle.std.specs.Prelude.{None, Ok}
use Rattle.ffv1_wire.specs.Failures.{one_more}
use Rattle.ffv1_wire.specs.Passage.{Passage}
use Rattle.ffv1_record.specs.Accepted.{Accepted}
use Rattle.ffv1_reads.specs.Head.{Head}
use Rattle.ffv1_reads.specs.Known.{Known}
use Rattle.ffv1_video.specs.declared.fault.Fault.{Fault}
use Rattle.ffv1_words.specs.declared.order.Choice.{Choice}
use Rattle.ffv1_video.specs.Faults.{Cause, cause_of}
use Rattle.ffv1_video.specs.Faults.Cause.{Reading, Writing, Memory, Content}
use Rattle.ffv1_video.specs.Video.{Video, Begins, ReadsVideo, at_first, picture_next}
use Rattle.ffv1_pack.specs.Packing.{AllShort, AreReadableIn, IsFor}
use Rattle.ffv1_pack.specs.Packing.{packed_frames, packed_head}
use Rattle.ffv1_pack.specs.Pack.{EncodingLacks, EncodingReadFails, FaultsPacked, HasHead}
use Rattle.ffv1_pack.specs.Pack.{HeadWants, StandsAfterHead}
use Rattle.ffv1_video.specs.declared.profile.Profile.{Profile}
use Rattle.ffv1_video.specs.Profiles.{greatest_depth, record_profile}

-- if the text is known, it begins with the video, and no picture is after it
abbrev pub EndsVideo : ℕ → Option (List ℕ) → Option (List ℕ) → Video → Type 0
EndsVideo most old new v = Known old new (λ text rest.
    (left : List ℕ) × Begins most text v left
    × (picture_next v.ppm most v.head (at_first v.pictures) left ≡ Ok (None, rest)))

-- a video was read, at least one picture of it, and its file has this head and these frames
pub record EncodesVideo (profile : Profile) (choice : Choice) (p : Passage) (head : Head)
    (frames : List (List ℕ)) : Type 0 where
  pub video : Video
  pub accepted : Accepted
  pub reads : ReadsVideo (greatest_depth profile) p.old p.new video
  pub ends : EndsVideo (greatest_depth profile) p.old p.new video
  pub deep : video.head.depth ≤ greatest_depth profile
  pub for : IsFor profile choice video.ppm video.head accepted
  pub some : 0 < length video.pictures
  pub short : AllShort accepted video.head video.pictures
  pub readable : AreReadableIn (record_profile profile) (packed_frames video accepted)
  pub head_is : head ≡ packed_head choice video accepted
  pub frames_are : frames ≡ packed_frames video accepted
  pub kept : p.after ≡ p.before

-- why none was encoded
abbrev pub StopsVideoBy : Profile → Cause → Choice → Passage → Fault → Type 0
StopsVideoBy profile Reading choice p f =
    (p.after ≡ one_more p.before)
    × (HeadWants (greatest_depth profile) p.old p.new ⊎ EncodingReadFails profile choice p)
StopsVideoBy profile Writing choice p f = ⊥
StopsVideoBy profile Memory choice p f =
    (p.after ≡ p.before) × HasHead (greatest_depth profile) p.old
    × (StandsAfterHead (greatest_depth profile) p.old p.new ⊎ EncodingLacks profile choice p)
StopsVideoBy profile Content choice p f =
    (p.after ≡ p.before) × FaultsPacked profile choice p.old p.new f

abbrev pub StopsVideo : Profile → Choice → Passage → Fault → Type 0
StopsVideo profile choice p f = StopsVideoBy profile (cause_of f) choice p f
