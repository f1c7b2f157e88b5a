-- Padded bits are of one list of bytes.
use Rattle.ffv1_rice.proofs.Padding.{padded_one}
use Rattle.ffv1_rice.proofs.laws.padded_bits_are_of_the_same_bytes.Goals as goal

pub returns : goal.returns
returns c = λ code rest others xs ys small small' one two padding padding'.
    padded_one code rest others xs ys small small' one two padding padding'
