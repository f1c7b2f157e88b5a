-- At 8 bits the third line of an image's header is 255.
use Rattle.ffv1_y4m.proofs.ImageTexts.{header_of_bytes}
use Rattle.ffv1_y4m.proofs.PpmSteps.{header_wants}
use Rattle.ffv1_y4m.proofs.laws.image_header_takes_its_first_byte.Goals as goal

pub returns : goal.returns
returns c = record { eight = header_of_bytes; first = header_wants }
