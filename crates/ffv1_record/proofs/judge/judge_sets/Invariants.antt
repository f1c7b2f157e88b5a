use Rattle.ffv1_record.proofs.Judging.{LeadsSets}
use Rattle.ffv1_record.proofs.judge.judge_sets.Given as goal

abbrev pub invariant-loop-index : goal.invariant-loop-index
invariant-loop-index l = LeadsSets l.count l._index l.fn.reader l.reader
