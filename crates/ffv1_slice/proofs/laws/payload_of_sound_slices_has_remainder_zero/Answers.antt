-- With parity, a payload that is a row of sound slices has the remainder 0 as a whole.
use Rattle.ffv1_slice.proofs.SoundPayloads.{sound_payload}
use Rattle.ffv1_slice.proofs.laws.payload_of_sound_slices_has_remainder_zero.Goals as goal

pub returns : goal.returns
returns c = sound_payload c.remainder_of_sound_bytes_in_a_row_is_zero.ensures
