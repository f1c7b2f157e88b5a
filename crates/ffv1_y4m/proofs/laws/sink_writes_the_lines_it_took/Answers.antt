-- A sink has written the text of the lines that it took, and before a refusal a beginning of the
-- text of all.
use Rattle.ffv1_y4m.proofs.LineRuns.{lines_taken, lines_refused}
use Rattle.ffv1_y4m.proofs.laws.sink_writes_the_lines_it_took.Goals as goal

pub returns : goal.returns
returns g c = record {
  taken = lines_taken g.W.ByteOut.contents g.W.ByteOut.failures;
  refused =
      lines_refused g.W.ByteOut.contents g.W.ByteOut.failures;
}
