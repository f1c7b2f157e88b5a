-- The payloads of a range are those that come in the file after as many as are before it.
use Rattle.ffv1_unpack.proofs.FramesInParts.{range_payloads}
use Rattle.ffv1_unpack.proofs.laws.range_has_the_payloads_of_the_file.Goals as goal

pub returns : goal.returns
returns c = range_payloads
