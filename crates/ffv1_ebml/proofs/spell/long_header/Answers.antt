-- The header of an element with this ID and so many bytes of content, its size in eight bytes.
use Rattle.std.proofs.Common.{refl}
use Rattle.ffv1_ebml.specs.Spelled.{long}
use Rattle.ffv1_ebml.proofs.spell.long_header.Goals as goal

pub returns : goal.returns
unfolding long
returns c = rw (c.with.ensures, c.to_be_bytes.ensures, c.spelled_ident.ensures.bytes) refl
