-- The payloads that a part shows are those that come in the file after as many as are before it.
use Rattle.ffv1_unpack.proofs.PartsShown.{payloads_of_part}
use Rattle.ffv1_unpack.proofs.laws.part_shows_the_payloads_of_the_file.Goals as goal

pub returns : goal.returns
returns c = payloads_of_part
