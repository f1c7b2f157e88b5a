-- Bytes of the remainder 0 behind others of the remainder 0 have it together.
use Rattle.ffv1_record.proofs.ParityLaws.{sound_in_a_row}
use Rattle.ffv1_record.proofs.laws.remainder_of_sound_bytes_in_a_row_is_zero.Goals as goal

pub returns : goal.returns
returns c = sound_in_a_row
