-- What a stream says, at its end: None if it is no FFV1 video.
use Rattle.std.proofs.Common.{rules, ◌≡◌, ℕ, Option, None, Some, refl}
use Rattle.ffv1_avi.specs.Streams.{no_video, stream_judged}
use Rattle.ffv1_avi.specs.declared.place.Extent.{Extent}
use Rattle.ffv1_avi.proofs.stream.judged.Goals as goal
use Rattle.ffv1_avi.proofs.stream.judged.Goals.{in_default-via-in-Some+in-Some+in-Some+in_default}
use Rattle.ffv1_avi.proofs.stream.judged.Goals.{in_default-via-in-Some+in-Some+in_default}
use Rattle.ffv1_avi.proofs.stream.judged.Goals.{in_default-via-in-Some+in_default}
use Rattle.ffv1_avi.proofs.stream.judged.Goals.{in_default-via-in_default}

no_format : (extent : Extent) (rates : Option (ℕ × ℕ)) → stream_judged extent (Some rates) None ≡
    no_video extent
no_format extent None = refl
no_format extent (Some rates) = refl

pub returns-in_default : goal.returns-in_default
returns-in_default c = λ bytes text failures.
    let none = c.no_video.ensures bytes text failures in
    elim c.in_default.branch [
      | in_default-via-in-Some+in-Some+in-Some+in_default w ↦ search rules
      | in_default-via-in-Some+in-Some+in_default w ↦
          rw (w.in_default.is-0, w.in_default.is-1, no_format c.args.extent w.in_default.field-0-0)
          none
      | in_default-via-in-Some+in_default w ↦ search rules
      | in_default-via-in_default w ↦
          search rules
    ]
