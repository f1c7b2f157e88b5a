-- Decodes the frames of a range of a file that the profile reads, and writes their pictures.
use Rattle.std.proofs.Common.{◌≡◌, inl, length}
use Rattle.ffv1_video.proofs.Output.{silent}
use Rattle.ffv1_unpack.proofs.FileUnpacked.{done, no_frames, unpack_stops}
use Rattle.ffv1_unpack.proofs.OwnFaults.{written_unpacks}
use Rattle.ffv1_unpack.proofs.FramesNoted.{noted_file}
use Rattle.ffv1_unpack.specs.Plays.{has_more}
use Rattle.ffv1_wire.specs.Passage.{passage}
use Rattle.ffv1_unpack.proofs.ReadAgain.{written_again}
use Rattle.ffv1_unpack.proofs.unpacking.unpack_range.Goals as goal

pub returns-in-Err-clause-err : goal.returns-in-Err-clause-err
returns-in-Err-clause-err g c =
    inl (
      silent (g.W.ByteOut.contents c.args.output) (g.W.ByteOut.failures c.args.output),
      c.in-Err.ensures.err,
    )

pub returns-in-Ok-eq0-clause-err : goal.returns-in-Ok-eq0-clause-err
returns-in-Ok-eq0-clause-err g c =
    let all = rw c.in-Ok-eq0.is at c.write_frames-output.ensures.ok in
    let none : c.in-Ok-eq0.field-0 ≡ 0 = rw c.in-Ok-eq0.field-0-is at c.in-Ok-eq0.field-0-test in
    no_frames c.args.profile c.args.range c.in-Ok.carried.items (g.R.ByteIn.remaining c.args.input.now)
    (g.R.ByteIn.remaining c.open_unpacking_range.new.input)
    (g.R.ByteIn.remaining c.write_frames-output.new.input)
    (g.W.ByteOut.contents c.args.output) (g.W.ByteOut.contents c.write_frames-output.result.0)
    (g.R.ByteIn.failures c.args.input.now) (g.R.ByteIn.failures c.open_unpacking_range.new.input)
    (g.R.ByteIn.failures c.write_frames-output.new.input) (g.W.ByteOut.failures c.args.output)
    (g.W.ByteOut.failures c.write_frames-output.result.0)
    c.in-Ok.player.reader c.in-Ok.player.decoder.accepted c.in-Ok.ensures.ok c.in-Ok.ensures.text
    c.write_frames-output.new.player.notes all.0 c.in-Ok-eq0.field-0 all.1 all.2 none

pub returns-in-Ok-answer-clause-ok : goal.returns-in-Ok-answer-clause-ok
returns-in-Ok-answer-clause-ok g c =
    let all = rw c.in-Ok-answer.is at c.write_frames-output.ensures.ok in
    let i0 = g.R.ByteIn.remaining c.args.input.now in
    let i1 = g.R.ByteIn.remaining c.open_unpacking_range.new.input in
    let i2 = g.R.ByteIn.remaining c.write_frames-output.new.input in
    let r = c.in-Ok.player.reader in
    let a = c.in-Ok.player.decoder.accepted in
    let opens = c.in-Ok.ensures.ok in
    let some : c.in-Ok-answer.count ≡ 0 → ⊥ = rw c.in-Ok-answer.is at c.in-Ok-answer.count-test.1 in
    done c.args.profile c.args.range c.in-Ok.carried.items i0 i1 i2 (g.W.ByteOut.contents c.args.output)
    (g.W.ByteOut.contents c.write_frames-output.result.0) (g.R.ByteIn.failures c.args.input.now)
    (g.R.ByteIn.failures c.open_unpacking_range.new.input)
    (g.R.ByteIn.failures c.write_frames-output.new.input) (g.W.ByteOut.failures c.args.output)
    (g.W.ByteOut.failures c.write_frames-output.result.0)
    r a opens c.in-Ok.ensures.text c.write_frames-output.new.player.notes all.0
    c.in-Ok-answer.count all.1 all.2 some c.notes_after-notes.result
    (λ room. c.notes_after-notes.ensures.read (length all.0) all.1 room)
    (c.notes_after-notes.ensures.unread (length all.0) all.1)
    (noted_file c.args.profile c.in-Ok.player.reader (g.R.ByteIn.remaining c.args.input.now)
    (g.R.ByteIn.remaining c.open_unpacking_range.new.input) (g.R.ByteIn.remaining c.write_frames-output.new.input)
    (g.R.ByteIn.failures c.args.input.now) (g.R.ByteIn.failures c.open_unpacking_range.new.input)
    (g.R.ByteIn.failures c.write_frames-output.new.input) c.write_frames-output.new.player.notes c.notes_after-notes.result
    (has_more c.args.range.count (length all.0)) c.in-Ok.ensures.located
    ((rw c.in-Ok-answer.is at c.write_frames-output.ensures.noted) (length all.0) all.1)
    (λ room. c.notes_after-notes.ensures.read (length all.0) all.1 room))

pub returns-clause-err : goal.returns-clause-err
returns-clause-err g c =
    unpack_stops c.args.profile c.args.range c.in-Ok.carried.items (g.R.ByteIn.remaining c.args.input.now)
    (g.R.ByteIn.remaining c.open_unpacking_range.new.input)
    (g.R.ByteIn.remaining c.write_frames-output.new.input)
    (g.W.ByteOut.contents c.args.output) (g.W.ByteOut.contents c.write_frames-output.result.0)
    (g.R.ByteIn.failures c.args.input.now) (g.R.ByteIn.failures c.open_unpacking_range.new.input)
    (g.R.ByteIn.failures c.write_frames-output.new.input) (g.W.ByteOut.failures c.args.output)
    (g.W.ByteOut.failures c.write_frames-output.result.0)
    c.in-Ok.player.reader c.in-Ok.player.decoder.accepted c.in-Ok.ensures.ok c.in-Ok.ensures.text
    c.in-Err-answer.fault (rw c.in-Err-answer.is at c.write_frames-output.ensures.err)

pub returns-clause-own : goal.returns-clause-own
returns-clause-own g c =
    written_unpacks c.args.profile c.in-Ok.player.reader
    (g.R.ByteIn.remaining c.args.input.now)
    (g.R.ByteIn.remaining c.open_unpacking_range.new.input) c.in-Err-answer.fault
    c.in-Ok.ensures.located
    c.in-Ok.ensures.ok.within (rw c.in-Err-answer.is at c.write_frames-output.ensures.own)

pub returns-clause-again : goal.returns-clause-again
returns-clause-again g c =
    written_again c.args.profile
    (g.R.AgainIn.begins c.args.input.now)
    (passage g.R.ByteIn.remaining g.R.ByteIn.failures c.args.input.now c.write_frames-output.new.input)
    c.in-Ok.player.reader (g.R.ByteIn.remaining c.open_unpacking_range.new.input)
    c.in-Err-answer.fault (rw c.in-Err-answer.is at c.write_frames-output.ensures.own)
