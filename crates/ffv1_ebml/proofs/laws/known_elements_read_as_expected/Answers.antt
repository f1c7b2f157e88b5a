-- Known sizes, some of the standard's own (RFC 8794, 4.4 and 6.2); and two parts of a file from
-- outside, its EBML header and the content of its Cluster, which begins with a CRC-32.
use Rattle.std.proofs.Common.{refl}
use Rattle.ffv1_sum.specs.Sum.{bit_steps}
use Rattle.ffv1_ebml.specs.Contents.{first_part, found_up_to}
use Rattle.ffv1_ebml.specs.Elements.{content_passed, element_in}
use Rattle.ffv1_ebml.specs.Vints.{length_of, size_of, vint_read}
use Rattle.ffv1_ebml.proofs.laws.known_elements_read_as_expected.Goals as goal

pub returns-clause-two : goal.returns-clause-two
unfolding size_of
returns-clause-two c = (refl, refl, refl, refl)

pub returns-clause-ends : goal.returns-clause-ends
unfolding size_of
returns-clause-ends c = (refl, refl, refl, refl, refl)

pub returns-clause-header : goal.returns-clause-header
unfolding element_in length_of size_of vint_read
returns-clause-header c = refl

pub returns-clause-fields : goal.returns-clause-fields
unfolding element_in first_part found_up_to length_of size_of vint_read
returns-clause-fields c = (refl, refl, refl)

pub returns-clause-told : goal.returns-clause-told
unfolding bit_steps element_in first_part length_of size_of vint_read
returns-clause-told c = refl

pub returns-clause-passed : goal.returns-clause-passed
unfolding bit_steps content_passed element_in length_of size_of vint_read
returns-clause-passed c = refl

pub returns-clause-changed : goal.returns-clause-changed
unfolding bit_steps element_in first_part length_of size_of vint_read
returns-clause-changed c = refl
