-- Reads the next payload; or, if there is none, looks at what stands behind the end.
use Rattle.std.proofs.Common.{Bool, Ok, refl, inl, subst}
use Rattle.ffv1_wire.specs.Passage.{passage}
use Rattle.ffv1_files.specs.Answers.{ReadsAs}
use Rattle.ffv1_files.specs.Files.{frame_read}
use Rattle.ffv1_files.specs.Offsets.{LocatedNext}
use Rattle.ffv1_files.specs.Readers.{next_of}
use Rattle.ffv1_unpack.proofs.OwnFaults.{behind_tells, frame_tells}
use Rattle.ffv1_unpack.proofs.PayloadsRead.{behind_located, behind_stops, frame_stops, reads_end}
use Rattle.ffv1_files.specs.Noted.{NotesNext}
use Rattle.ffv1_unpack.proofs.player.read_payload.Goals as goal

pub returns-in-Ok-true-clause-answer : goal.returns-in-Ok-true-clause-answer
returns-in-Ok-true-clause-answer g c =
    let i = passage g.R.ByteIn.remaining g.R.ByteIn.failures c.args.input.now
    c.next_frame.new.input in
    let read = subst (λ (b : Bool). ReadsAs (frame_read c.args.player.now.reader.place) i (next_of b
    c.next_frame.new.frame.items c.next_frame.new.self.place)) c.in-Ok-true.field-0-test
    (c.in-Ok-true.ensures.answer c.requires.sound) in
    record { kept = read.0; next = read.1 }

pub returns-in-Ok-true-clause-located : goal.returns-in-Ok-true-clause-located
returns-in-Ok-true-clause-located g c =
    let i = passage g.R.ByteIn.remaining g.R.ByteIn.failures c.args.input.now
    c.next_frame.new.input in
    λ scope text stands. record {
      reached = subst (λ (b : Bool). LocatedNext scope text i (Ok b) c.next_frame.new.self)
          c.in-Ok-true.field-0-test
          (c.in-Ok-true.ensures.located c.requires.sound scope text stands.reached);
      ends = c.in-Ok-true.ensures.ends stands.ends c.in-Ok-true.field-0-test;
      noted = subst (λ (b : Bool). NotesNext scope text i (Ok b) c.next_frame.new.self)
          c.in-Ok-true.field-0-test
          (c.in-Ok-true.ensures.noted c.requires.sound scope text stands.reached stands.noted);
    }

pub returns-in-Err-clause-answer : goal.returns-in-Err-clause-answer
returns-in-Err-clause-answer g c = frame_stops c.args.player.now.reader.place
    (passage g.R.ByteIn.remaining g.R.ByteIn.failures c.args.input.now c.next_frame.new.input)
    c.in-Err.fault (c.in-Err.ensures.answer c.requires.sound)

pub returns-in-Err-clause-own : goal.returns-in-Err-clause-own
returns-in-Err-clause-own g c = frame_tells c.args.player.now.reader
    (g.R.ByteIn.remaining c.args.input.now) c.in-Err.fault
    (c.in-Err.ensures.own c.requires.sound)

pub returns-in-Err-clause-located : goal.returns-in-Err-clause-located
returns-in-Err-clause-located g c = λ scope text stands own. (
  c.in-Err.fault,
  refl,
  inl (rw c.offset-player.ensures (c.in-Err.ensures.located c.requires.sound
      scope text stands.reached)),
)

pub returns-in-Ok-clause-answer : goal.returns-in-Ok-clause-answer
returns-in-Ok-clause-answer g c =
    let i = passage g.R.ByteIn.remaining g.R.ByteIn.failures c.args.input.now
    c.next_frame.new.input in
    let over = subst (λ (b : Bool). ReadsAs (frame_read c.args.player.now.reader.place) i (next_of b
    c.next_frame.new.frame.items c.next_frame.new.self.place)) c.in-Ok-false.field-0-test
    (c.in-Ok-false.ensures.answer c.requires.sound) in
    reads_end c.args.player.now.reader c.next_frame.new.self
    (g.R.ByteIn.remaining c.args.input.now) (g.R.ByteIn.remaining c.next_frame.new.input)
    (g.R.ByteIn.remaining c.look_behind.new.input)
    (g.R.ByteIn.failures c.args.input.now) (g.R.ByteIn.failures c.next_frame.new.input)
    (g.R.ByteIn.failures c.look_behind.new.input) over c.in-Ok-false.ensures.same c.in-Ok.notes
    c.in-Ok.ensures.answer

pub returns-in-Ok-clause-located : goal.returns-in-Ok-clause-located
returns-in-Ok-clause-located g c =
    let i = passage g.R.ByteIn.remaining g.R.ByteIn.failures c.args.input.now
    c.next_frame.new.input in
    λ scope text stands. c.in-Ok.ensures.noted scope text
    (subst (λ (b : Bool). NotesNext scope text i (Ok b) c.next_frame.new.self)
    c.in-Ok-false.field-0-test
    (c.in-Ok-false.ensures.noted c.requires.sound scope text stands.reached stands.noted))

pub returns-in-Err-look_behind-clause-answer : goal.returns-in-Err-look_behind-clause-answer
returns-in-Err-look_behind-clause-answer g c =
    let i = passage g.R.ByteIn.remaining g.R.ByteIn.failures c.args.input.now
    c.next_frame.new.input in
    let over = subst (λ (b : Bool). ReadsAs (frame_read c.args.player.now.reader.place) i (next_of b
    c.next_frame.new.frame.items c.next_frame.new.self.place)) c.in-Ok-false.field-0-test
    (c.in-Ok-false.ensures.answer c.requires.sound) in
    behind_stops c.args.player.now.reader c.next_frame.new.self
    (g.R.ByteIn.remaining c.args.input.now) (g.R.ByteIn.remaining c.next_frame.new.input)
    (g.R.ByteIn.remaining c.look_behind.new.input)
    (g.R.ByteIn.failures c.args.input.now) (g.R.ByteIn.failures c.next_frame.new.input)
    (g.R.ByteIn.failures c.look_behind.new.input) over c.in-Ok-false.ensures.same
    c.in-Err-look_behind.fault c.in-Err-look_behind.ensures.own c.in-Err-look_behind.ensures.answer

pub returns-in-Err-look_behind-clause-own : goal.returns-in-Err-look_behind-clause-own
returns-in-Err-look_behind-clause-own g c = behind_tells c.args.player.now.reader
    (g.R.ByteIn.remaining c.args.input.now) c.next_frame.new.self c.in-Err-look_behind.fault
    c.in-Ok-false.ensures.same c.in-Err-look_behind.ensures.own

pub returns-in-Err-look_behind-clause-located : goal.returns-in-Err-look_behind-clause-located
returns-in-Err-look_behind-clause-located g c =
    let i = passage g.R.ByteIn.remaining g.R.ByteIn.failures c.args.input.now
    c.next_frame.new.input in
    let over = subst (λ (b : Bool). ReadsAs (frame_read c.args.player.now.reader.place) i (next_of b
    c.next_frame.new.frame.items c.next_frame.new.self.place)) c.in-Ok-false.field-0-test
    (c.in-Ok-false.ensures.answer c.requires.sound) in
    rw c.end-player.ensures (behind_located c.args.player.now.reader c.next_frame.new.self
    (g.R.ByteIn.remaining c.args.input.now) (g.R.ByteIn.remaining c.next_frame.new.input)
    (g.R.ByteIn.remaining c.look_behind.new.input)
    (g.R.ByteIn.failures c.args.input.now) (g.R.ByteIn.failures c.next_frame.new.input)
    (g.R.ByteIn.failures c.look_behind.new.input) over c.in-Ok-false.ensures.same
    c.in-Err-look_behind.fault c.in-Ok-false.ensures.stays c.in-Err-look_behind.ensures.answer)
