-- A written file is read to its last byte, and its Segment has the size and the Cues of its form.
use Rattle.ffv1_matroska.proofs.WrittenForms.{begun_right, finished_right, open_right}
use Rattle.ffv1_matroska.proofs.written_times.written_segment_is_read_to_its_end.Goals as goal

pub returns-clause-finished : goal.returns-clause-finished
returns-clause-finished c = λ head details frames some is. (finished_right head details frames some is).whole

pub returns-clause-open : goal.returns-clause-open
returns-clause-open c = λ head details frames some is. (open_right head details frames some is).whole

pub returns-clause-begun : goal.returns-clause-begun
returns-clause-begun c = λ head details frames some is. (begun_right head details frames some is).whole
