-- A beginning of a file that is read, up to the end of `movi`, ends when more bytes are wanted.
use Rattle.ffv1_avi.proofs.BeginningLaws.{file_beginning}
use Rattle.ffv1_avi.proofs.FileLaws.{file_complete}
use Rattle.ffv1_avi.proofs.laws.shorter_file_wants_more_bytes.Goals as goal

pub returns : goal.returns
returns c = λ file head frames is beginning more parts some. file_beginning file head frames is.rest
    beginning more (file_complete file head frames is) parts some
