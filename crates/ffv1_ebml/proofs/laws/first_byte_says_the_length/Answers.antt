-- How many bytes a variable-size integer has is one more than the bits 0 before the first bit 1 of
-- its first byte (RFC 8794, 4.1).
use Rattle.ffv1_ebml.proofs.VintLaws.{length_first}
use Rattle.ffv1_ebml.proofs.laws.first_byte_says_the_length.Goals as goal

pub returns : goal.returns
returns c = length_first
