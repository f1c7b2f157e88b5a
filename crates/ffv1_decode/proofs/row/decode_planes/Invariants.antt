use Rattle.std.proofs.Common.{◌≡◌, ℕ, ◌<◌, ◌≤◌, length}
use Rattle.std.specs.List.{flat_map, range_with_len}
use Rattle.ffv1_frame.specs.Order.{series_events}
use Rattle.ffv1_decode.specs.Internal.Buffers.{KeepsSlices}
use Rattle.ffv1_decode.specs.Internal.Progress.{PlanesKept, series_at}
use Rattle.ffv1_decode.specs.Internal.RowParts.{IsRow, slices_of}
use Rattle.ffv1_decode.specs.Internal.Shared.{IsChroma, kept_line}
use Rattle.ffv1_decode.specs.Internal.Steps.{OfPlanes}
use Rattle.ffv1_decode.proofs.row.decode_planes.Given as goal

abbrev pub invariant-loop-plane : goal.invariant-loop-plane
invariant-loop-plane g l = record {
  same : KeepsSlices l.fn.slices l.slices;
  row : IsRow l.frame l.row (slices_of l.slices);
  counted : g.S.LineSink.failures l.sink ≡ g.S.LineSink.failures l.fn.sink;
  todo : 0 < length l.kept → (p : ℕ) → IsChroma p → l.plane ≤ p →
      kept_line l.frame.checked.now.configuration p (g.W.Word.samples l.kept)
      ≡ kept_line l.frame.checked.now.configuration p (g.W.Word.samples l.initial.kept);
  planes : OfPlanes l.frame.checked.now l.frame.payload.now g.S.LineSink.takes l.row
      (slices_of l.fn.slices) (g.W.Word.samples l.initial.kept) l.fn.sink
      (λ coded initial s. PlanesKept g.S.LineSink.takes g.S.LineSink.refuses l.frame.checked.now
      coded initial l.row l.plane l.frame.payload.now
      (flat_map (λ p. series_events l.frame.checked.now.configuration l.row
      (series_at l.frame.checked.now.configuration l.row p 1)) (range_with_len 0 l.plane))
      l.slices.columns.items l.slices.states.items (g.W.Word.samples l.kept) l.sink s);
}
