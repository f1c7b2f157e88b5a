-- Reads a file again that lacks Tracks where they are looked for first.
use Rattle.std.proofs.Common.{◌≡◌, true, refl}
use Rattle.ffv1_wire.specs.Passage.{between}
use Rattle.ffv1_matroska.specs.Readers.{opened_at}
use Rattle.ffv1_files.specs.Salvaged.{StopsAgainAt}
use Rattle.ffv1_files.proofs.AgainOpenings.{by_tracks}
use Rattle.ffv1_files.proofs.LateTelling.{lacks_said, late_at, late_faults, late_opened, may_said}
use Rattle.ffv1_files.proofs.LateTelling.{without_at}
use Rattle.ffv1_files.proofs.salvaging.tell_late.Goals as goal

pub returns-in-Ok-clause-opens : goal.returns-in-Ok-clause-opens
returns-in-Ok-clause-opens g c = λ left first lacks. record {
  kept = c.in-Ok.ensures.answer.0;
  known = late_opened _ left _ _ _ first lacks
      (g.R.ByteIn.remaining c.args.input.now) _ _ _ c.in-Ok.ensures.answer c.in-Ok.ensures.data
      c.in-Ok.ensures.offset;
}

pub returns-in-Ok-clause-segment : goal.returns-in-Ok-clause-segment
returns-in-Ok-clause-segment g c = (c.in-Ok.reader.segment, refl)

pub returns-in-Err-clause-refused : goal.returns-in-Err-clause-refused
returns-in-Err-clause-refused g c = λ left lacks.
    (let p = between (g.R.AgainIn.whole c.args.start.now)
    (g.R.ByteIn.remaining c.open_salvaged_again.new.input)
    (g.R.ByteIn.failures c.args.input.now)
    (g.R.ByteIn.failures c.open_salvaged_again.new.input) in
    let f = c.in-Err.fault in
    record {
      here = g.R.ByteIn.remaining c.args.input.now;
      why = c.in-Err.ensures.answer;
      at = rw c.stop_of.ensures (by_tracks (StopsAgainAt p f) f c.args.offset.now
          c.open_salvaged_again.new.offset (λ is. without_at p f left c.args.offset.now is lacks)
          (λ other. late_at p f c.open_salvaged_again.new.offset other c.in-Err.ensures.stopped));
      tells = c.in-Err.ensures.told;
    })

pub returns-in-Err-clause-tried : goal.returns-in-Err-clause-tried
returns-in-Err-clause-tried g c = λ left first lacks told. late_faults _ left _ _ _ first lacks _
    c.in-Err.fault (may_said c.in-Err.fault told) c.in-Err.ensures.answer

pub returns-in-Err-clause-lacks : goal.returns-in-Err-clause-lacks
returns-in-Err-clause-lacks g c = λ left first lacks is. late_faults _ left _ _ _ first lacks _
    c.in-Err.fault (lacks_said c.in-Err.fault is) c.in-Err.ensures.answer
