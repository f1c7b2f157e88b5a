-- Where plain reading ends, the course says what a reader says there.
use Rattle.ffv1_avi.proofs.SoundEnds.{ends_said, first_said}
use Rattle.ffv1_avi.proofs.damage_laws.a_sound_file_ends_as_its_reader_says.Goals as goal

pub returns-clause-every : goal.returns-clause-every
returns-clause-every c = λ place begun at text rest counts held every is. ends_said place begun at text rest counts held every is

pub returns-clause-first : goal.returns-clause-first
returns-clause-first c = λ place begun at text rest first is. first_said place begun at text rest first is
