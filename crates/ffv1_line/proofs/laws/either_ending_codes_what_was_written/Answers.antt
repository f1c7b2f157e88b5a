-- What an encoder wrote is coded by either ending, after what it had written before: the rows of a
-- cell, if they suit.
use Rattle.std.proofs.Common.{[]}
use Rattle.ffv1_range.specs.Interval.{interval_of}
use Rattle.ffv1_range.specs.History.{decisions_after}
use Rattle.ffv1_line.specs.Row.{cell_steps}
use Rattle.ffv1_line.proofs.lemmas.decode.CellBack.{sentinel_codes, full_codes, sentinel_of_history}
use Rattle.ffv1_line.proofs.lemmas.decode.CellBack.{full_of_history, sentinel_bytes, full_bytes}
use Rattle.ffv1_line.proofs.laws.either_ending_codes_what_was_written.Goals as goal

pub returns-clause-sentinel : goal.returns-clause-sentinel
returns-clause-sentinel c = λ before coding old w states after e rows named begins suits puts.
    record {
      fit = sentinel_bytes w.interval;
      suits = suits;
      coded = sentinel_codes before coding.table old states w after (cell_steps coding.set e 0 rows)
          named begins puts;
    }

pub returns-clause-full : goal.returns-clause-full
returns-clause-full c =
    λ before coding old w states after e rows behind named begins suits are puts. record {
      fit = full_bytes w.interval behind are;
      suits = suits;
      coded = full_codes before coding.table old states w after (cell_steps coding.set e 0 rows)
          named
          begins puts behind;
    }

pub returns-clause-fresh_sentinel : goal.returns-clause-fresh_sentinel
returns-clause-fresh_sentinel c = λ coding count e rows table below suits. record {
  fit = sentinel_bytes (interval_of (decisions_after coding.table []
      (cell_steps coding.set e 0 rows)));
  suits = suits;
  coded = sentinel_of_history coding.table table count (cell_steps coding.set e 0 rows) below;
}

pub returns-clause-fresh_full : goal.returns-clause-fresh_full
returns-clause-fresh_full c = λ coding count e rows behind table below suits are. record {
  fit = full_bytes (interval_of (decisions_after coding.table [] (cell_steps coding.set e 0 rows)))
      behind are;
  suits = suits;
  coded = full_of_history coding.table table count (cell_steps coding.set e 0 rows) below behind;
}
