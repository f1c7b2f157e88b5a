-- The next item of an AVI.
use Rattle.ffv1_wire.specs.Passage.{passage}
use Rattle.ffv1_files.proofs.ItemNexts.{chunk_ended, chunk_items, other_chunk, other_ended}
use Rattle.ffv1_files.proofs.ItemNexts.{plain_ended, plain_held, plain_items, plain_room}
use Rattle.ffv1_files.proofs.items.read_chunk_item.Goals as goal

pub returns-in-Plain-clause-answer : goal.returns-in-Plain-clause-answer
returns-in-Plain-clause-answer g c = rw (c.in-Plain.is, c.plain_answer.ensures)
    (λ none. plain_items c.args.reader.now.place c.next_frame.new.self.place
    c.next_frame.new.frame.items (passage g.R.ByteIn.remaining g.R.ByteIn.failures
    c.args.input.now c.next_frame.new.input) c.next_frame.result
    (c.next_frame.ensures.answer none))

pub returns-in-Plain-clause-ended : goal.returns-in-Plain-clause-ended
returns-in-Plain-clause-ended g c = rw (c.in-Plain.is, c.plain_answer.ensures)
    (λ none. plain_ended c.args.reader.now.place c.next_frame.new.self.place
    c.next_frame.new.frame.items (passage g.R.ByteIn.remaining g.R.ByteIn.failures
    c.args.input.now c.next_frame.new.input) c.next_frame.result
    (c.next_frame.ensures.answer none))

pub returns-in-Plain-clause-still : goal.returns-in-Plain-clause-still
returns-in-Plain-clause-still g c = λ no. absurd (no c.in-Plain.is)

pub returns-in-Avi-clause-answer : goal.returns-in-Avi-clause-answer
returns-in-Avi-clause-answer g c = rw (c.in-Avi.is, c.repeated_in.ensures, c.deref.ensures.value)
    (λ none. chunk_items c.args.reader.now.place c.in-Avi.at c.next_item-answer.new.self
    c.in-Avi.repeated c.next_item-answer.new.frame.items
    (passage g.R.ByteIn.remaining g.R.ByteIn.failures c.args.input.now
    c.next_item-answer.new.input) c.next_item-answer.result c.next_item-answer.ensures.answer)

pub returns-in-Avi-clause-ended : goal.returns-in-Avi-clause-ended
returns-in-Avi-clause-ended g c = rw (c.in-Avi.is, c.repeated_in.ensures, c.deref.ensures.value)
    (λ none. chunk_ended c.args.reader.now.place c.in-Avi.at c.next_item-answer.new.self
    c.in-Avi.repeated c.next_item-answer.new.frame.items
    (passage g.R.ByteIn.remaining g.R.ByteIn.failures c.args.input.now
    c.next_item-answer.new.input) c.next_item-answer.result c.next_item-answer.ensures.ended)

pub returns-in-Matroska-clause-answer : goal.returns-in-Matroska-clause-answer
returns-in-Matroska-clause-answer g c = rw c.in-Matroska.is
    (λ none. other_chunk c.args.reader.now.place c.in-Matroska._other _ _
    c.args.frame.now.items)

pub returns-in-Matroska-clause-ended : goal.returns-in-Matroska-clause-ended
returns-in-Matroska-clause-ended g c = rw c.in-Matroska.is
    (λ none end. other_ended c.in-Matroska._other _)

pub returns-in-Plain-clause-room : goal.returns-in-Plain-clause-room
returns-in-Plain-clause-room g c = plain_room c.next_frame.result _ _ _ c.next_frame.ensures.room

pub returns-in-Plain-clause-held : goal.returns-in-Plain-clause-held
returns-in-Plain-clause-held g c = rw c.plain_answer.ensures
    (plain_held c.next_frame.result _ _ _ c.next_frame.ensures.room)
