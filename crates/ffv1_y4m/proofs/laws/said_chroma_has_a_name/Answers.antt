-- A head that a line says has chroma that has a name at the depth that it says.
use Rattle.ffv1_y4m.proofs.SaidHeads.{said_depth}
use Rattle.ffv1_y4m.proofs.laws.said_chroma_has_a_name.Goals as goal

pub returns : goal.returns
returns c = said_depth
