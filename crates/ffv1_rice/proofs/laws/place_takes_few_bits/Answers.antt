use Rattle.ffv1_rice.proofs.RowCodes.{length_place, row_some}
use Rattle.ffv1_rice.proofs.laws.place_takes_few_bits.Goals as goal

pub returns : goal.returns
returns c = record {
  most = λ depth coder p some few small is. length_place depth coder p some few small is;
  some = λ depth coder p ps small. row_some depth coder p ps small;
}
