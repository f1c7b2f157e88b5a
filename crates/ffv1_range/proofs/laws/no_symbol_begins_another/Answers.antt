-- No symbol begins another one, nor one that is refused.
use Rattle.ffv1_range.proofs.Prefix.{symbols_apart, refused_apart}
use Rattle.ffv1_range.proofs.Unsigned.{unsigned_apart, unsigned_refused}
use Rattle.ffv1_range.proofs.laws.no_symbol_begins_another.Goals as goal

pub returns-clause-apart : goal.returns-clause-apart
returns-clause-apart c = symbols_apart

pub returns-clause-refused : goal.returns-clause-refused
returns-clause-refused c = refused_apart

pub returns-clause-unsigned_apart : goal.returns-clause-unsigned_apart
returns-clause-unsigned_apart c = unsigned_apart

pub returns-clause-unsigned_refused : goal.returns-clause-unsigned_refused
returns-clause-unsigned_refused c = unsigned_refused
