use Rattle.std.proofs.Common.{◌≡◌, ◌<◌}
use Rattle.std.specs.Prelude.{IsSome}
use Rattle.ffv1_decode.specs.Internal.Buffers.{KeepsLengths, samples_of_lines}
use Rattle.ffv1_decode.specs.Internal.Shared.{kept_in}
use Rattle.ffv1_decode.specs.Internal.Opened.{coded_by}
use Rattle.ffv1_decode.specs.Internal.Rows.{RowsDecoded}
use Rattle.ffv1_decode.proofs.frame.decode_rows.Given as goal

abbrev pub invariant-loop-row : goal.invariant-loop-row
invariant-loop-row g l = record {
  same : KeepsLengths l.fn.buffers l.buffers;
  known : 0 < l.row → IsSome l.first;
  counted : g.S.LineSink.failures l.sink ≡ g.S.LineSink.failures l.fn.sink;
  rows : RowsDecoded g.S.LineSink.takes g.S.LineSink.refuses l.checked
      (coded_by l.checked l.payload l.spans) l.fn.sink l.row l.tally
      (kept_in l.checked.configuration (samples_of_lines l.buffers.lines)) l.first l.sink;
}
