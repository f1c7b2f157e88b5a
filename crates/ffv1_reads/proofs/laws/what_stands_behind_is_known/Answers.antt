-- What stands behind the end of a file is looked at so.
use Rattle.ffv1_reads.proofs.FilesBehind.{another_is_met, none_are_read, others_are_read}
use Rattle.ffv1_reads.proofs.laws.what_stands_behind_is_known.Goals as goal

pub returns : goal.returns
returns c = record {
  nothing = none_are_read;
  another = another_is_met;
  other = others_are_read;
}
