-- Reads the next payload; or, if there is none, looks at what stands behind the end.
use Rattle.std.proofs.Common.{◌≡◌, Bool, false, true, subst}
use Rattle.ffv1_wire.specs.Passage.{passage}
use Rattle.ffv1_files.specs.Answers.{ReadsAs}
use Rattle.ffv1_files.specs.Files.{frame_read}
use Rattle.ffv1_files.specs.Readers.{next_of}
use Rattle.ffv1_unpack.proofs.OwnFaults.{behind_tells, frame_tells}
use Rattle.ffv1_unpack.proofs.PayloadsRead.{behind_stops, frame_stops, reads_end}
use Rattle.ffv1_info.proofs.FramesRead.{none_read, stands_next}
use Rattle.ffv1_info.proofs.informing.read_next.Goals as goal

pub returns-in-Ok-true-clause-answer : goal.returns-in-Ok-true-clause-answer
returns-in-Ok-true-clause-answer g c =
    let i = passage g.R.ByteIn.remaining g.R.ByteIn.failures c.args.input.now
    c.next_frame.new.input in
    let read = subst (λ (b : Bool). ReadsAs (frame_read c.args.reader.now.place) i (next_of b
    c.next_frame.new.frame.items c.next_frame.new.self.place)) c.in-Ok-true.field-0-test
    (c.in-Ok-true.ensures.answer c.requires.sound) in
    record { kept = read.0; next = read.1 }

pub returns-in-Ok-true-clause-stays : goal.returns-in-Ok-true-clause-stays
returns-in-Ok-true-clause-stays g c = λ some. stands_next c.args.reader.now c.next_frame.new.self
    (passage g.R.ByteIn.remaining g.R.ByteIn.failures c.args.input.now c.next_frame.new.input)
    c.in-Ok-true.field-0 c.in-Ok-true.field-0-test
    (c.in-Ok-true.ensures.located c.requires.sound) (λ ends. c.in-Ok-true.ensures.ends ends)
    (c.in-Ok-true.ensures.noted c.requires.sound)

pub returns-in-Err-clause-answer : goal.returns-in-Err-clause-answer
returns-in-Err-clause-answer g c = frame_stops c.args.reader.now.place
    (passage g.R.ByteIn.remaining g.R.ByteIn.failures c.args.input.now c.next_frame.new.input)
    c.in-Err.fault (c.in-Err.ensures.answer c.requires.sound)

pub returns-in-Err-clause-own : goal.returns-in-Err-clause-own
returns-in-Err-clause-own g c = frame_tells c.args.reader.now
    (g.R.ByteIn.remaining c.args.input.now) c.in-Err.fault
    (c.in-Err.ensures.own c.requires.sound)

pub returns-in-Ok-clause-answer : goal.returns-in-Ok-clause-answer
returns-in-Ok-clause-answer g c =
    let i = passage g.R.ByteIn.remaining g.R.ByteIn.failures c.args.input.now
    c.next_frame.new.input in
    let all = passage g.R.ByteIn.remaining g.R.ByteIn.failures c.args.input.now
    c.look_behind.new.input in
    let over = subst (λ (b : Bool). ReadsAs (frame_read c.args.reader.now.place) i (next_of b
    c.next_frame.new.frame.items c.next_frame.new.self.place)) c.in-Ok-false.field-0-test
    (c.in-Ok-false.ensures.answer c.requires.sound) in
    none_read c.args.reader.now.place all c.in-Ok.field-0
    (reads_end c.args.reader.now c.next_frame.new.self
    (g.R.ByteIn.remaining c.args.input.now) (g.R.ByteIn.remaining c.next_frame.new.input)
    (g.R.ByteIn.remaining c.look_behind.new.input)
    (g.R.ByteIn.failures c.args.input.now) (g.R.ByteIn.failures c.next_frame.new.input)
    (g.R.ByteIn.failures c.look_behind.new.input) over c.in-Ok-false.ensures.same c.in-Ok.field-0
    c.in-Ok.ensures.answer)

pub returns-in-Ok-clause-stays : goal.returns-in-Ok-clause-stays
returns-in-Ok-clause-stays g c = λ some. absurd (let no : false ≡ true = some in cc)

pub returns-in-Err-look_behind-clause-answer : goal.returns-in-Err-look_behind-clause-answer
returns-in-Err-look_behind-clause-answer g c =
    let i = passage g.R.ByteIn.remaining g.R.ByteIn.failures c.args.input.now
    c.next_frame.new.input in
    let over = subst (λ (b : Bool). ReadsAs (frame_read c.args.reader.now.place) i (next_of b
    c.next_frame.new.frame.items c.next_frame.new.self.place)) c.in-Ok-false.field-0-test
    (c.in-Ok-false.ensures.answer c.requires.sound) in
    behind_stops c.args.reader.now c.next_frame.new.self
    (g.R.ByteIn.remaining c.args.input.now) (g.R.ByteIn.remaining c.next_frame.new.input)
    (g.R.ByteIn.remaining c.look_behind.new.input)
    (g.R.ByteIn.failures c.args.input.now) (g.R.ByteIn.failures c.next_frame.new.input)
    (g.R.ByteIn.failures c.look_behind.new.input) over c.in-Ok-false.ensures.same
    c.in-Err-look_behind.fault c.in-Err-look_behind.ensures.own c.in-Err-look_behind.ensures.answer

pub returns-in-Err-look_behind-clause-own : goal.returns-in-Err-look_behind-clause-own
returns-in-Err-look_behind-clause-own g c = behind_tells c.args.reader.now
    (g.R.ByteIn.remaining c.args.input.now) c.next_frame.new.self c.in-Err-look_behind.fault
    c.in-Ok-false.ensures.same c.in-Err-look_behind.ensures.own
