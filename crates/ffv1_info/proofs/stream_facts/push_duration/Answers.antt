-- Appends how long so many frames last.
use Rattle.std.proofs.Common.{codes}
use Rattle.ffv1_outline.specs.Durations.{frames_last, seconds}
use Rattle.ffv1_outline.specs.Facts.{closing, opening}
use Rattle.ffv1_info.proofs.FactText.{three}
use Rattle.ffv1_info.proofs.stream_facts.push_duration.Goals as goal

pub returns : goal.returns
returns g c =
    rw (
      c.in_ok-extend_from_slice.ensures.items,
      c.in_ok-push_seconds.ensures,
      c.in_ok-push_opening.ensures,
      c.frames_last.ensures,
      c.closing.ensures,
    )
    (three c.args.text.now.items (opening c.args.form (codes "counted_duration"))
    (seconds c.args.form (frames_last c.args.frames c.args.scale c.args.rate))
    (closing c.args.form))
