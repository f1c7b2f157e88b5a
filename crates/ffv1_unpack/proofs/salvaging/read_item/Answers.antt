-- Reads the next item of a file, of either container.
use Rattle.std.proofs.Common.{◌≡◌, Bool, Ok, refl, subst, sym, true, ◌∙◌}
use Rattle.ffv1_wire.specs.Passage.{passage}
use Rattle.ffv1_files.specs.Answers.{ReadsAs}
use Rattle.ffv1_files.specs.Files.{frame_read}
use Rattle.ffv1_files.specs.Noted.{NotesNext}
use Rattle.ffv1_files.specs.Offsets.{LocatedNext}
use Rattle.ffv1_files.specs.Readers.{next_of}
use Rattle.ffv1_unpack.specs.Internal.Plainly.{is_plain}
use Rattle.ffv1_unpack.proofs.ItemsCourse.{kind_kept, plain_is, plain_not, plain_over}
use Rattle.ffv1_unpack.proofs.ItemsCued.{avi_uncued}
use Rattle.ffv1_unpack.proofs.OwnFaults.{frame_tells, plain_tells}
use Rattle.ffv1_unpack.proofs.SalvageSteps.{avi_end, avi_frame}
use Rattle.ffv1_unpack.proofs.salvaging.read_item.Goals as goal

pub returns-in-Ok-true-clause-ok : goal.returns-in-Ok-true-clause-ok
returns-in-Ok-true-clause-ok g c =
    let plain : is_plain c.args.course.now ≡ true = sym c.is_plain.ensures ∙ c.if-is_plain.true in
    let from = c.args.player.now.reader.place in
    let to = c.next_frame.new.self.place in
    let i = passage g.R.ByteIn.remaining g.R.ByteIn.failures c.args.input.now
    c.next_frame.new.input in
    let read = subst (λ (b : Bool). ReadsAs (frame_read from) i (next_of b
    c.next_frame.new.frame.items to)) c.in-Ok-true.field-0-test
    (c.in-Ok-true.ensures.answer c.requires.sound) in
    avi_frame c.args.course.now i from (plain_is c.args.course.now plain) to
    c.next_frame.new.frame.items (c.requires.plain plain) read

pub returns-in-Ok-false-clause-ok : goal.returns-in-Ok-false-clause-ok
returns-in-Ok-false-clause-ok g c =
    let plain : is_plain c.args.course.now ≡ true = sym c.is_plain.ensures ∙ c.if-is_plain.true in
    let from = c.args.player.now.reader.place in
    let i = passage g.R.ByteIn.remaining g.R.ByteIn.failures c.args.input.now
    c.next_frame.new.input in
    let read = subst (λ (b : Bool). ReadsAs (frame_read from) i (next_of b
    c.next_frame.new.frame.items c.next_frame.new.self.place)) c.in-Ok-false.field-0-test
    (c.in-Ok-false.ensures.answer c.requires.sound) in
    avi_end c.args.course.now i from (plain_is c.args.course.now plain) (c.requires.plain plain) read

pub returns-in-Ok-true-clause-reached : goal.returns-in-Ok-true-clause-reached
returns-in-Ok-true-clause-reached g c =
    let i = passage g.R.ByteIn.remaining g.R.ByteIn.failures c.args.input.now
    c.next_frame.new.input in
    λ other plain scope text stands. record {
      reached = subst (λ (b : Bool). LocatedNext scope text i (Ok b) c.next_frame.new.self)
          c.in-Ok-true.field-0-test
          (c.in-Ok-true.ensures.located c.requires.sound scope text stands.reached);
      ends = c.in-Ok-true.ensures.ends stands.ends c.in-Ok-true.field-0-test;
      noted = subst (λ (b : Bool). NotesNext scope text i (Ok b) c.next_frame.new.self)
          c.in-Ok-true.field-0-test
          (c.in-Ok-true.ensures.noted c.requires.sound scope text stands.reached stands.noted);
    }

pub returns-in-Ok-false-clause-reached : goal.returns-in-Ok-false-clause-reached
returns-in-Ok-false-clause-reached g c = λ other plain. absurd (other refl)

pub returns-in-Err-clause-own : goal.returns-in-Err-clause-own
returns-in-Err-clause-own g c =
    let plain : is_plain c.args.course.now ≡ true = sym c.is_plain.ensures ∙ c.if-is_plain.true in
    rw c.from.ensures (plain_tells (is_plain c.args.course.now) c.args.player.now.reader
    (g.R.ByteIn.remaining c.args.input.now) _ plain (frame_tells c.args.player.now.reader
    (g.R.ByteIn.remaining c.args.input.now) c.in-Err.fault
    (c.in-Err.ensures.own c.requires.sound)))

pub returns-in-Ok-true-clause-cued : goal.returns-in-Ok-true-clause-cued
returns-in-Ok-true-clause-cued g c =
    let plain : is_plain c.args.course.now ≡ true = sym c.is_plain.ensures ∙ c.if-is_plain.true in
    avi_uncued c.args.player.now.reader.place c.args.course.now c.args.player.now.cued _ _ _
    (c.requires.plain plain) (c.in-Ok-true.ensures.answer c.requires.sound).1

pub returns-in-Ok-false-clause-cued : goal.returns-in-Ok-false-clause-cued
returns-in-Ok-false-clause-cued g c =
    let plain : is_plain c.args.course.now ≡ true = sym c.is_plain.ensures ∙ c.if-is_plain.true in
    avi_uncued c.args.player.now.reader.place c.args.course.now c.args.player.now.cued _ _ _
    (c.requires.plain plain) (c.in-Ok-false.ensures.answer c.requires.sound).1

pub returns-in-Ok-true-clause-ended : goal.returns-in-Ok-true-clause-ended
returns-in-Ok-true-clause-ended g c = λ end plain. absurd (cc (end))

pub returns-in-Ok-false-clause-ended : goal.returns-in-Ok-false-clause-ended
returns-in-Ok-false-clause-ended g c =
    let i = passage g.R.ByteIn.remaining g.R.ByteIn.failures c.args.input.now
    c.next_frame.new.input in
    λ end plain scope text stands. subst (λ (b : Bool). NotesNext scope text i (Ok b)
    c.next_frame.new.self) c.in-Ok-false.field-0-test
    (c.in-Ok-false.ensures.noted c.requires.sound scope text stands.reached stands.noted)

pub returns-in-Ok-false-clause-over : goal.returns-in-Ok-false-clause-over
returns-in-Ok-false-clause-over g c = λ end avi.
    (let plain : is_plain c.args.course.now ≡ true = sym c.is_plain.ensures ∙ c.if-is_plain.true in
    plain_over c.args.course.now _ _ _ (plain_is c.args.course.now plain)
    (c.in-Ok-false.ensures.answer c.requires.sound).1)

pub returns-in-Ok-true-clause-stays : goal.returns-in-Ok-true-clause-stays
returns-in-Ok-true-clause-stays g c = λ reads.
    absurd (let no = sym (sym c.is_plain.ensures ∙ c.if-is_plain.true) ∙ reads in cc)

pub returns-in-Ok-false-clause-stays : goal.returns-in-Ok-false-clause-stays
returns-in-Ok-false-clause-stays g c = λ reads.
    absurd (let no = sym (sym c.is_plain.ensures ∙ c.if-is_plain.true) ∙ reads in cc)

pub returns-in-Ok-clause-stays : goal.returns-in-Ok-clause-stays
returns-in-Ok-clause-stays g c = λ reads.
    c.next_item.ensures.still (plain_not c.args.course.now reads)

pub returns-in-Ok-clause-reached : goal.returns-in-Ok-clause-reached
returns-in-Ok-clause-reached g c = λ other plain.
    absurd (let no = sym (sym c.is_plain.ensures ∙ c.if-is_plain.false) ∙ plain in cc)

pub returns-in-Ok-clause-ended : goal.returns-in-Ok-clause-ended
returns-in-Ok-clause-ended g c = λ end plain.
    absurd (let no = sym (sym c.is_plain.ensures ∙ c.if-is_plain.false) ∙ plain in cc)

pub returns-in-Ok-clause-kind : goal.returns-in-Ok-clause-kind
returns-in-Ok-clause-kind g c =
    kind_kept c.args.course.now c.next_item.new.course
    (sym c.is_plain.ensures ∙ c.if-is_plain.false) c.next_item.ensures.kind

pub returns-in-Ok-clause-over : goal.returns-in-Ok-clause-over
returns-in-Ok-clause-over g c = λ end avi. c.in-Ok.ensures.ended c.requires.sound avi end

pub returns-in-Ok-clause-cued : goal.returns-in-Ok-clause-cued
returns-in-Ok-clause-cued g c = c.in-Ok.ensures.cued c.requires.sound
