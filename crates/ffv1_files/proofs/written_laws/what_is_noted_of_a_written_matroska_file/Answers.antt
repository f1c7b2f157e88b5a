-- Of a Matroska file that was written nothing is noted, or that nothing says where it ends.
use Rattle.ffv1_files.proofs.WrittenSegments.{begun_noted, finished_noted, open_noted}
use Rattle.ffv1_files.proofs.written_laws.what_is_noted_of_a_written_matroska_file.Goals as goal

pub returns-clause-finished : goal.returns-clause-finished
returns-clause-finished c = λ head details frames rest notes some is noted.
    finished_noted head details frames
    (c.written_frames_come_in_time.ensures.finished head details frames some is)
    (c.written_segment_is_read_to_its_end.ensures.finished head details frames some is) rest notes noted

pub returns-clause-open : goal.returns-clause-open
returns-clause-open c = λ head details frames rest notes some is noted.
    open_noted head details frames
    (c.written_frames_come_in_time.ensures.open head details frames some is)
    (c.written_segment_is_read_to_its_end.ensures.open head details frames some is) rest notes noted

pub returns-clause-begun : goal.returns-clause-begun
returns-clause-begun c = λ head details frames rest notes some is noted.
    begun_noted head details frames some
    (c.written_frames_come_in_time.ensures.begun head details frames some is)
    (c.written_segment_is_read_to_its_end.ensures.begun head details frames some is) rest notes noted
