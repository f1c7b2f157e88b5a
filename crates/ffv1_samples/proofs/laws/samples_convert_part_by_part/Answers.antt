-- Samples one after the other are their bytes one after the other, and the first samples of bytes
-- are those of the first bytes.
use Rattle.ffv1_samples.proofs.Depths.{bytes_append, samples_append, samples_first, samples_rest}
use Rattle.ffv1_samples.proofs.laws.samples_convert_part_by_part.Goals as goal

pub returns : goal.returns
returns c = record {
  bytes = bytes_append;
  samples = samples_append;
  first = samples_first;
  rest =
      samples_rest;
}
