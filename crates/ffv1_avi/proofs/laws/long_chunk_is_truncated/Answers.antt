-- A chunk that passes its list is truncated, and nothing after its header is read. So it is in
-- `movi` after chunks that are no frames, in RIFF and in `hdrl` after chunks whose first stream, if
-- there is one, is FFV1, and in the first stream after chunks of which no format is too long.
use Rattle.ffv1_avi.proofs.RefusalLaws.{chunk_long}
use Rattle.ffv1_avi.proofs.LongLaws.{header_long, riff_long, stream_long}
use Rattle.ffv1_avi.proofs.laws.long_chunk_is_truncated.Goals as goal

pub returns-clause-movi : goal.returns-clause-movi
returns-clause-movi c = λ chunks left name size rest each lists frames long. chunk_long chunks left
    name size rest each lists frames long.named long.sized long.header long.passes

pub returns-clause-riff : goal.returns-clause-riff
returns-clause-riff c = riff_long

pub returns-clause-header : goal.returns-clause-header
returns-clause-header c = header_long

pub returns-clause-stream : goal.returns-clause-stream
returns-clause-stream c = stream_long
