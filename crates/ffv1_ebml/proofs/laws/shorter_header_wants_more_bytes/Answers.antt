-- The bytes of a header that is read, without some of the last, end when more are wanted.
use Rattle.ffv1_ebml.proofs.HeaderBeginnings.{header_early}
use Rattle.ffv1_ebml.proofs.laws.shorter_header_wants_more_bytes.Goals as goal

pub returns : goal.returns
returns c = header_early
