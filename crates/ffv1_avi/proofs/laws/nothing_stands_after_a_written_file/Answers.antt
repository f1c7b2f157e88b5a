-- Nothing stands after a written file: where its chunks, read whole from its beginning on, lead to
-- the end of its movi, no bytes are left.
use Rattle.ffv1_avi.proofs.WrittenEnds.{none_left}
use Rattle.ffv1_avi.proofs.laws.nothing_stands_after_a_written_file.Goals as goal

pub returns : goal.returns
returns c = λ head frames is other first to between behind before after opens leads over. none_left
    head frames is first other between to behind before after opens leads over
