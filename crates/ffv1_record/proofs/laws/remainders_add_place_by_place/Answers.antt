-- The remainder of a sum, place by place, of bytes is the sum of the remainders.
use Rattle.ffv1_record.proofs.ParityLaws.{added}
use Rattle.ffv1_record.proofs.laws.remainders_add_place_by_place.Goals as goal

-- src/laws.rt:17:1
pub returns : goal.returns
returns c = added
