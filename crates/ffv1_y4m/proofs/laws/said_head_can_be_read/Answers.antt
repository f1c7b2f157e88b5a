-- A head that a line says has sizes, numbers and chroma that are read here.
use Rattle.ffv1_y4m.proofs.SaidHeads.{said_head}
use Rattle.ffv1_y4m.proofs.laws.said_head_can_be_read.Goals as goal

pub returns : goal.returns
returns c = said_head
