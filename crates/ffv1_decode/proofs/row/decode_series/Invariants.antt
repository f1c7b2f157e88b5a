use Rattle.std.proofs.Common.{◌≡◌, ◌+◌, ◌*◌, length}
use Rattle.ffv1_decode.specs.Internal.Buffers.{KeepsSlices}
use Rattle.ffv1_decode.specs.Internal.Progress.{LinesDecoded}
use Rattle.ffv1_decode.specs.Internal.RowParts.{IsRow, AreLong, slices_of}
use Rattle.ffv1_decode.specs.Internal.Steps.{OfSeries}
use Rattle.ffv1_decode.specs.Internal.Tied.{plane_group}
use Rattle.ffv1_decode.proofs.row.decode_series.Given as goal

abbrev pub invariant-loop-y : goal.invariant-loop-y
invariant-loop-y g l = record {
  long : AreLong (λ n. n ≡ l.planes.count * l.planes.frame.now.checked.now.configuration.width)
      (length l.two) (length l.one) (length l.cur);
  same : KeepsSlices l.fn.slices l.slices;
  row : IsRow l.planes.frame.now l.planes.row (slices_of l.slices);
  counted : g.S.LineSink.failures l.sink ≡ g.S.LineSink.failures l.fn.sink;
  lines : OfSeries l.planes.frame.now.checked.now l.planes.frame.now.payload.now
      g.S.LineSink.takes l.planes.row (plane_group l.planes.first l.planes.count)
      (slices_of l.fn.slices) (g.W.Word.samples l.fn.kept) l.fn.sink
      (λ coded initial s. LinesDecoded g.S.LineSink.takes g.S.LineSink.refuses
      l.planes.frame.now.checked.now coded initial l.planes.row
      (l.planes.first + l.planes.count) l.planes.frame.now.payload.now l.planes.first
      l.planes.count l.y l.slices.columns.items l.slices.states.items (g.W.Word.samples l.two)
      (g.W.Word.samples l.one) l.sink s);
}
