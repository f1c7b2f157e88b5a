-- In a parent outside of which elements of some IDs stand, an element with one of these IDs is
-- refused after its ID.
use Rattle.ffv1_ebml.proofs.OutsideLaws.{in_read, others_read, outside_refused}
use Rattle.ffv1_ebml.proofs.laws.ids_outside_are_refused.Goals as goal

pub returns : goal.returns
returns c = record {
  refused = outside_refused;
  others = others_read;
  read = in_read;
}
