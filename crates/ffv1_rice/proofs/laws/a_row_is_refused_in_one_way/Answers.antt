-- A row is refused in one way.
use Rattle.ffv1_rice.proofs.RowAnswers.{coded_not_refused, refused_once}
use Rattle.ffv1_rice.proofs.laws.a_row_is_refused_in_one_way.Goals as goal

pub returns : goal.returns
returns c = record {
  coded = λ r row other x fault rest depths small long inside samples refused codes.
      coded_not_refused r row other x fault rest depths small long inside samples refused codes;
  once = λ r row other x y fault reason depths small long inside inside' samples samples' one two.
      refused_once r row other x y fault reason depths small long inside inside' samples samples'
      one two;
}
