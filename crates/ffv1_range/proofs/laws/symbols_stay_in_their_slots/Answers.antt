-- The slots of a symbol are 32; those of one in a row of many states stand in the row.
use Rattle.ffv1_range.proofs.Windows.{signed_below, too_long_below, shifted_below}
use Rattle.ffv1_range.proofs.Unsigned.{unsigned_below}
use Rattle.ffv1_range.proofs.Parts.{below_more, shifted_twice, shifted-append}
use Rattle.ffv1_range.proofs.laws.symbols_stay_in_their_slots.Goals as goal

pub returns-clause-signed : goal.returns-clause-signed
returns-clause-signed c = signed_below

pub returns-clause-refused : goal.returns-clause-refused
returns-clause-refused c = too_long_below

pub returns-clause-shifted : goal.returns-clause-shifted
returns-clause-shifted c = shifted_below

pub returns-clause-unsigned : goal.returns-clause-unsigned
returns-clause-unsigned c = unsigned_below

pub returns-clause-more : goal.returns-clause-more
returns-clause-more c = below_more

pub returns-clause-twice : goal.returns-clause-twice
returns-clause-twice c = shifted_twice

pub returns-clause-append : goal.returns-clause-append
returns-clause-append c = shifted-append
