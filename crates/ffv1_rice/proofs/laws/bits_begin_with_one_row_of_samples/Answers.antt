-- Bits begin with one row of samples.
use Rattle.ffv1_rice.proofs.RowAnswers.{coded_one}
use Rattle.ffv1_rice.proofs.laws.bits_begin_with_one_row_of_samples.Goals as goal

pub returns : goal.returns
returns c = λ r row other rest others depths small long one two.
    coded_one r row other rest others depths small long one two
