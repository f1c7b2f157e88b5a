-- Passes so many bytes.
use Rattle.std.proofs.Common.{Some}
use Rattle.ffv1_reads.proofs.Reading.{goes_none, goes_read}
use Rattle.ffv1_ebml.specs.Sums.{passed_summed}
use Rattle.ffv1_matroska.specs.Blocks.{passed_on}
use Rattle.ffv1_matroska.specs.Places.{closed, step_to, summed_at}
use Rattle.ffv1_matroska.proofs.Steps.{goes_closed}
use Rattle.ffv1_matroska.proofs.block.pass_on.Goals as goal

pub returns-clause-answer : goal.returns-clause-answer
unfolding passed_on
returns-clause-answer g c =
    let place = c.args.place in
    let start = goes_none (passed_on c.args.size place) (g.R.ByteIn.remaining c.args.input.now)
    (g.R.ByteIn.failures c.args.input.now) in
    let next = goes_read (passed_summed c.args.size place.sum)
    (λ sum. closed (Some (step_to (summed_at place sum))) (summed_at place sum)) _ _
    c.pass_summed.new.sum start c.in_ok-pass_summed.ensures.answer in
    goes_closed (summed_at place c.pass_summed.new.sum) c.closed.result next
    (rw c.summed_at.ensures at c.closed.ensures)
