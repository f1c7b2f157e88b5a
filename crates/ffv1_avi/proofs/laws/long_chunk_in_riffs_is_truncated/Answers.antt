-- If every RIFF is read, a chunk that passes its list is truncated, and nothing after its header is
-- read. So it is in RIFF, in `hdrl` and in `odml` after chunks whose streams can be read, up to the
-- one that counts; in a stream's list where none before it counts, after chunks of which no format
-- is too long; in any `movi` after chunks that are no frames; and in RIFF after a `movi`, or in the
-- next RIFF, after chunks that are no `movi`.
use Rattle.ffv1_avi.proofs.LongMovis.{after_long_at, movi_long_at, next_long_at}
use Rattle.ffv1_avi.proofs.RiffRefusals.{every_extended_long, every_header_long, every_riff_long}
use Rattle.ffv1_avi.proofs.RiffRefusals.{every_stream_long}
use Rattle.ffv1_avi.proofs.laws.long_chunk_in_riffs_is_truncated.Goals as goal

pub returns : goal.returns
returns c = record {
  riff = every_riff_long;
  header = every_header_long;
  stream = every_stream_long;
  extended = every_extended_long;
  movi = movi_long_at;
  after = after_long_at;
  next = next_long_at;
}
