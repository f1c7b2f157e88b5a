-- What is known before the first picture of a video is encoded, or why none is.
use Rattle.std.specs.Prelude.{◌≡◌, ℕ, []}
use Rattle.ffv1_wire.specs.Failures.{one_more}
use Rattle.ffv1_wire.specs.Passage.{Passage}
use Rattle.ffv1_record.specs.Accepted.{Accepted}
use Rattle.ffv1_reads.specs.Known.{Known}
use Rattle.ffv1_matroska.specs.Rates.{IsTimed}
use Rattle.ffv1_matroska.specs.Writers.{Writing as Writer, rate_in, writing_of}
use Rattle.ffv1_y4m.specs.Reads.{Wants}
use Rattle.ffv1_words.specs.declared.order.Choice.{Choice}
use Rattle.ffv1_video.specs.declared.fault.Fault.{Fault}
use Rattle.ffv1_video.specs.Faults.{Cause, cause_of}
use Rattle.ffv1_video.specs.Faults.Cause.{Reading, Writing, Memory, Content}
use Rattle.ffv1_pack.specs.Grids.{choice_for}
use Rattle.ffv1_pack.specs.Pack.{HasHead, HeadWants, StandsAfterHead}
use Rattle.ffv1_video.specs.declared.profile.Profile.{Profile}
use Rattle.ffv1_video.specs.Profiles.{greatest_depth}
use Rattle.ffv1_pack.specs.Packing.{IsFor}
use Rattle.ffv1_pack.specs.Packing.{head_for}
use Rattle.ffv1_video.specs.Video.{video_head}
use Rattle.ffv1_pack.specs.Internal.VideoReads.{HeadRead, IsHeadOf}
use Rattle.ffv1_pack.specs.VideoReads.{Taken}
use Rattle.ffv1_pack.specs.Internal.VideoReads.{VideoReading}
use Rattle.ffv1_pack.specs.PackMatroska.{FaultsBefore, details_for}

-- a head was read, and its rate and a configuration for it are such as they have to be; the writer
-- has written nothing
pub record OpensMatroska (profile : Profile) (choice : Choice) (p : Passage) (r : VideoReading)
    (a : Accepted) (w : Writer) : Type 0 where
  pub read : HeadRead (greatest_depth profile) p r
  pub head : IsHeadOf r
  pub for : IsFor profile (choice_for profile choice r.head) r.ppm r.head a
  pub timed : IsTimed (rate_in (head_for choice r.ppm r.head a.configuration))
  pub fresh : w
      ≡ writing_of (head_for choice r.ppm r.head a.configuration) (details_for choice r.head) []

-- why not
abbrev pub LacksMatroskaBy : Profile → Cause → Choice → Passage → Fault → Type 0
LacksMatroskaBy profile Reading choice p f =
    (p.after ≡ one_more p.before)
    × HeadWants (greatest_depth profile) p.old p.new
LacksMatroskaBy profile Writing choice p f = ⊥
LacksMatroskaBy profile Memory choice p f =
    (p.after ≡ p.before) × HasHead (greatest_depth profile) p.old
    × StandsAfterHead (greatest_depth profile) p.old p.new
LacksMatroskaBy profile Content choice p f =
    (p.after ≡ p.before) × FaultsBefore profile choice p.old p.new f

abbrev pub LacksMatroska : Profile → Choice → Passage → Fault → Type 0
LacksMatroska profile choice p f = LacksMatroskaBy profile (cause_of f) choice p f
