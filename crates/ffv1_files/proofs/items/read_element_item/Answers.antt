-- The next item of a Segment, and whether Cues came after its last Cluster.
use Rattle.std.proofs.Common.{refl}
use Rattle.ffv1_wire.specs.Passage.{passage}
use Rattle.ffv1_files.specs.Items.{cued_item}
use Rattle.ffv1_files.proofs.ItemNexts.{element_items, other_element, plain_element, uncued}
use Rattle.ffv1_files.proofs.items.read_element_item.Goals as goal

pub returns-in-Matroska-clause-answer : goal.returns-in-Matroska-clause-answer
returns-in-Matroska-clause-answer g c = rw c.in-Matroska.is
    (element_items c.args.reader.now.segment c.args.reader.now.track.numbers
    c.args.reader.now.place c.in-Matroska.at c.next_item-answer.new.course
    c.next_item-answer.new.frame.items (passage g.R.ByteIn.remaining g.R.ByteIn.failures
    c.args.input.now c.next_item-answer.new.input) c.next_item-answer.result
    c.next_item-answer.ensures.answer)

pub returns-in-Matroska-clause-cued : goal.returns-in-Matroska-clause-cued
unfolding cued_item
returns-in-Matroska-clause-cued g c = rw c.in-Matroska.is c.next_item-answer.ensures.cued

pub returns-in-Plain-clause-answer : goal.returns-in-Plain-clause-answer
returns-in-Plain-clause-answer g c = rw c.in-Plain.is
    (plain_element c.args.reader.now.segment c.args.reader.now.track.numbers
    c.args.reader.now.place _ _ c.args.frame.now.items)

pub returns-in-Plain-clause-cued : goal.returns-in-Plain-clause-cued
unfolding cued_item
returns-in-Plain-clause-cued g c = rw c.in-Plain.is
    (uncued (λ text. c.args.cued.now) c.args.cued.now _ (λ bytes. refl))

pub returns-in-Avi-clause-answer : goal.returns-in-Avi-clause-answer
returns-in-Avi-clause-answer g c = rw c.in-Avi.is
    (other_element c.args.reader.now.segment c.args.reader.now.track.numbers
    c.args.reader.now.place _ _ c.args.frame.now.items c.in-Avi._other c.in-Avi._repeated)

pub returns-in-Avi-clause-cued : goal.returns-in-Avi-clause-cued
unfolding cued_item
returns-in-Avi-clause-cued g c = rw c.in-Avi.is
    (uncued (λ text. c.args.cued.now) c.args.cued.now _ (λ bytes. refl))
