-- The samples of the bytes of samples are these samples, and the bytes of the samples of bytes are
-- these bytes where no half sample stands last.
use Rattle.ffv1_samples.proofs.Depths.{samples_back, bytes_back}
use Rattle.ffv1_samples.proofs.laws.samples_and_bytes_are_inverses.Goals as goal

pub returns : goal.returns
returns c = record { samples = samples_back; bytes = bytes_back }
