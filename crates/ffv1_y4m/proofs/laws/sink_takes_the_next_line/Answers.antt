-- A sink that has taken whole images and then a beginning of the lines of one more, each in its
-- place, takes the line that comes next there, or its write fails. A beginning of the row's text is
-- then written, and the writer counts one failure more.
use Rattle.ffv1_y4m.proofs.NextLines.{comes_next, refused_next, writes_kept}
use Rattle.ffv1_y4m.proofs.laws.sink_takes_the_next_line.Goals as goal

pub returns-clause-next : goal.returns-clause-next
returns-clause-next g c = comes_next g.W.ByteOut.contents g.W.ByteOut.failures

pub returns-clause-refused : goal.returns-clause-refused
returns-clause-refused g c = λ s t u lines p y samples rest at grows same long refuses.
    refused_next g.W.ByteOut.contents g.W.ByteOut.failures t u p y samples
    (comes_next g.W.ByteOut.contents g.W.ByteOut.failures s t lines p y samples rest at grows
    same long).0 refuses

pub returns-clause-taken : goal.returns-clause-taken
returns-clause-taken g c = writes_kept g.W.ByteOut.contents g.W.ByteOut.failures
