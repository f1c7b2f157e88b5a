-- Whether the number that comes next is 0, by the state of its first decision (RFC 9043, 3.8.1.2):
-- then its symbol is read, and as with `tally_signed_in_row` counted nowhere.
use Rattle.ffv1_range.proofs.Magnitudes.{zero_taken}
use Rattle.ffv1_range.proofs.decoder.RangeDecoder.take_zero.Goals as goal

pub returns-clause-follows : goal.returns-clause-follows
returns-clause-follows c = λ taken states slot n nonzeros is within.
    let kept = c.take_one.ensures in
    zero_taken _ _ _ states slot _ _ n nonzeros is c.requires within kept.bytes (kept.at taken)
    kept.counts (kept.moves taken)
