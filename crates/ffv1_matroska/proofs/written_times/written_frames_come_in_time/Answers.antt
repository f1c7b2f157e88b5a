-- No frame of a written file comes too early or too late.
use Rattle.ffv1_matroska.proofs.WrittenForms.{begun_right, finished_right, open_right}
use Rattle.ffv1_matroska.proofs.written_times.written_frames_come_in_time.Goals as goal

pub returns-clause-finished : goal.returns-clause-finished
returns-clause-finished c = λ head details frames some is. (finished_right head details frames some is).in_time

pub returns-clause-open : goal.returns-clause-open
returns-clause-open c = λ head details frames some is. (open_right head details frames some is).in_time

pub returns-clause-begun : goal.returns-clause-begun
returns-clause-begun c = λ head details frames some is. (begun_right head details frames some is).in_time
