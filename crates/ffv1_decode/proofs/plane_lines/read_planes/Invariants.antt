use Rattle.ffv1_decode.specs.Internal.RowParts.{IsRow}
use Rattle.ffv1_decode.specs.Internal.Steps.{OfLine}
use Rattle.ffv1_decode.specs.Internal.Tied.{PlanesRead, row_slices, rolling_lines}
use Rattle.ffv1_decode.proofs.plane_lines.read_planes.Given as goal

abbrev pub invariant-columns : goal.invariant-columns
invariant-columns g l = record {
  row : IsRow l.frame l.line.row (row_slices l.columns l.states);
  line : OfLine l.frame.checked.now l.frame.payload.now l.line (row_slices l.fn.columns l.fn.states)
      (rolling_lines (g.W.Word.samples l.above.two.now) (g.W.Word.samples l.above.one.now)
      (g.W.Word.samples l.fn.cur)) (g.W.Word.samples l.above.kept.now)
      (λ coded next s. PlanesRead l.frame.checked.now coded l.line.row next l.frame.payload.now
      l.line.first l.line.count l.line.y l.column 0 l.columns l.states
      (g.W.Word.samples l.above.two.now) (g.W.Word.samples l.above.one.now)
      (g.W.Word.samples l.cur) s);
}

abbrev pub invariant-planes : goal.invariant-planes
invariant-planes g l = record {
  row : IsRow l.frame l.line.row (row_slices l.columns l.states);
  line : OfLine l.frame.checked.now l.frame.payload.now l.line (row_slices l.fn.columns l.fn.states)
      (rolling_lines (g.W.Word.samples l.above.two.now) (g.W.Word.samples l.above.one.now)
      (g.W.Word.samples l.fn.cur)) (g.W.Word.samples l.above.kept.now)
      (λ coded next s. PlanesRead l.frame.checked.now coded l.line.row next l.frame.payload.now
      l.line.first l.line.count l.line.y l.column l.index l.columns l.states
      (g.W.Word.samples l.above.two.now) (g.W.Word.samples l.above.one.now)
      (g.W.Word.samples l.cur) s);
}
