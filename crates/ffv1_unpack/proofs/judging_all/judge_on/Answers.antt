-- Judges all items that are left, tells what comes after them, and writes how many there were.
use Rattle.std.proofs.Common.{rules, ◌≡◌}
use Rattle.std.proofs.lemmas.Result.{err_from_is_err_and}
use Rattle.ffv1_unpack.proofs.FileItems.{items_stop}
use Rattle.ffv1_unpack.proofs.FileEnded.{behind_fails, done_on, none_on, uncounted_on}
use Rattle.ffv1_unpack.proofs.judging_all.judge_on.Goals as goal
use Rattle.ffv1_unpack.proofs.judging_all.judge_on.Goals.{else-counts-eq0-via-else-counts-eq0}
use Rattle.ffv1_unpack.proofs.judging_all.judge_on.Goals.{else-counts-eq0-via-then-counts-eq0+else-counts-eq0-2}

pub returns-in_err-counts-clause-err : goal.returns-in_err-counts-clause-err
returns-in_err-counts-clause-err g c = λ profile i0 ib opens stands uncued.
    (let p = err_from_is_err_and c.from_residual.result c.from_residual.ensures.1 in
    rw (p.1, p.2) (items_stop profile i0 (g.R.ByteIn.remaining c.args.input.now)
    (g.R.ByteIn.remaining c.judge_items.new.input) ib (g.R.ByteIn.failures c.args.input.now)
    (g.R.ByteIn.failures c.judge_items.new.input) c.args.player.now.reader
    c.args.player.now.decoder.accepted opens stands.reached c.args.place
    (g.W.ByteOut.contents c.args.output.now) (g.W.ByteOut.contents c.judge_items.new.output)
    (g.W.ByteOut.failures c.args.output.now) (g.W.ByteOut.failures c.judge_items.new.output)
    c.in_err-counts.field-0.0 c.in_err-counts.ensures.err))

pub returns-in_err-notes-clause-err : goal.returns-in_err-notes-clause-err
returns-in_err-notes-clause-err g c = λ profile i0 ib opens stands uncued.
    (let p = err_from_is_err_and c.from_residual-in_err-notes.result
    c.from_residual-in_err-notes.ensures.1 in
    let judged = c.in_ok-counts.ensures.ok in
    let cues = rw uncued at c.in_ok-counts.ensures.cued in
    rw (p.1, p.2) (behind_fails profile i0
    (g.R.ByteIn.remaining c.args.input.now) (g.R.ByteIn.remaining c.judge_items.new.input)
    (g.R.ByteIn.remaining c.tell_behind.new.input) ib (g.R.ByteIn.failures c.args.input.now)
    (g.R.ByteIn.failures c.judge_items.new.input) (g.R.ByteIn.failures c.tell_behind.new.input)
    c.args.player.now.reader c.args.player.now.decoder.accepted opens stands
    c.judge_items.new.player.course c.judge_items.new.player.cued cues
    c.in_ok-counts.ensures.course c.args.place (g.W.ByteOut.contents c.args.output.now)
    (g.W.ByteOut.contents c.judge_items.new.output) (g.W.ByteOut.contents c.tell_behind.new.output)
    (g.W.ByteOut.failures c.args.output.now) (g.W.ByteOut.failures c.judge_items.new.output)
    (g.W.ByteOut.failures c.tell_behind.new.output) judged.0 c.in_ok-counts.counts judged.1 judged.2
    c.in_err-notes.field-0.0 (rw c.in_ok-counts.ensures.reader at c.in_err-notes.ensures.answer)))

pub returns-then-counts-eq0-2-clause-err : goal.returns-then-counts-eq0-2-clause-err
returns-then-counts-eq0-2-clause-err g c = λ profile i0 ib opens stands uncued.
    (let judged = c.in_ok-counts.ensures.ok in
    let cues = rw uncued at c.in_ok-counts.ensures.cued in
    let new = c.tell_behind.new.counts in
    let frames : new.frames ≡ 0 = search rules in
    let faults : new.faults ≡ 0 = search rules in
    none_on profile i0
    (g.R.ByteIn.remaining c.args.input.now) (g.R.ByteIn.remaining c.judge_items.new.input)
    (g.R.ByteIn.remaining c.tell_behind.new.input) ib (g.R.ByteIn.failures c.args.input.now)
    (g.R.ByteIn.failures c.judge_items.new.input) (g.R.ByteIn.failures c.tell_behind.new.input)
    c.args.player.now.reader c.args.player.now.decoder.accepted opens stands
    c.judge_items.new.player.course c.judge_items.new.player.cued cues
    c.in_ok-counts.ensures.course c.args.place (g.W.ByteOut.contents c.args.output.now)
    (g.W.ByteOut.contents c.judge_items.new.output) (g.W.ByteOut.contents c.tell_behind.new.output)
    (g.W.ByteOut.failures c.args.output.now) (g.W.ByteOut.failures c.judge_items.new.output)
    (g.W.ByteOut.failures c.tell_behind.new.output) judged.0 c.in_ok-counts.counts judged.1 judged.2
    new c.in_ok-notes.notes (rw c.in_ok-counts.ensures.reader at c.in_ok-notes.ensures.answer)
    frames faults)

pub returns-in_err-write_counts-clause-err : goal.returns-in_err-write_counts-clause-err
returns-in_err-write_counts-clause-err g c = λ profile i0 ib opens stands uncued.
    (let p = err_from_is_err_and c.from_residual-in_err-write_counts.result
    c.from_residual-in_err-write_counts.ensures.1 in
    let judged = c.in_ok-counts.ensures.ok in
    let cues = rw uncued at c.in_ok-counts.ensures.cued in
    rw (p.1, p.2) (uncounted_on profile i0
    (g.R.ByteIn.remaining c.args.input.now) (g.R.ByteIn.remaining c.judge_items.new.input)
    (g.R.ByteIn.remaining c.tell_behind.new.input) ib (g.R.ByteIn.failures c.args.input.now)
    (g.R.ByteIn.failures c.judge_items.new.input) (g.R.ByteIn.failures c.tell_behind.new.input)
    c.args.player.now.reader c.args.player.now.decoder.accepted opens stands
    c.judge_items.new.player.course c.judge_items.new.player.cued cues
    c.in_ok-counts.ensures.course c.args.place (g.W.ByteOut.contents c.args.output.now)
    (g.W.ByteOut.contents c.judge_items.new.output) (g.W.ByteOut.contents c.tell_behind.new.output)
    (g.W.ByteOut.failures c.args.output.now) (g.W.ByteOut.failures c.judge_items.new.output)
    (g.W.ByteOut.failures c.tell_behind.new.output) judged.0 c.in_ok-counts.counts judged.1 judged.2
    c.tell_behind.new.counts c.in_ok-notes.notes
    (rw c.in_ok-counts.ensures.reader at c.in_ok-notes.ensures.answer)
    (g.W.ByteOut.contents c.write_counts.new.output) (g.W.ByteOut.failures c.write_counts.new.output)
    c.in_err-write_counts.field-0.0 c.in_err-write_counts.ensures))

pub returns-clause-ok : goal.returns-clause-ok
returns-clause-ok g c = λ profile i0 ib opens stands uncued.
    (let judged = c.in_ok-counts.ensures.ok in
    let cues = rw uncued at c.in_ok-counts.ensures.cued in
    let new = c.tell_behind.new.counts in
    let some : new.frames ≡ 0 → new.faults ≡ 0 → ⊥ = elim c.else-counts-eq0.branch [
      | else-counts-eq0-via-then-counts-eq0+else-counts-eq0-2 w ↦
          λ frames faults. w.if-counts-eq0-2.false faults
      | else-counts-eq0-via-else-counts-eq0 w ↦ λ frames faults. w.if-counts-eq0.false frames
    ] in
    done_on profile i0
    (g.R.ByteIn.remaining c.args.input.now) (g.R.ByteIn.remaining c.judge_items.new.input)
    (g.R.ByteIn.remaining c.tell_behind.new.input) ib (g.R.ByteIn.failures c.args.input.now)
    (g.R.ByteIn.failures c.judge_items.new.input) (g.R.ByteIn.failures c.tell_behind.new.input)
    c.args.player.now.reader c.args.player.now.decoder.accepted opens stands
    c.judge_items.new.player.course c.judge_items.new.player.cued cues
    c.in_ok-counts.ensures.course c.args.place (g.W.ByteOut.contents c.args.output.now)
    (g.W.ByteOut.contents c.judge_items.new.output) (g.W.ByteOut.contents c.tell_behind.new.output)
    (g.W.ByteOut.failures c.args.output.now) (g.W.ByteOut.failures c.judge_items.new.output)
    (g.W.ByteOut.failures c.tell_behind.new.output) judged.0 c.in_ok-counts.counts judged.1 judged.2
    new c.in_ok-notes.notes (rw c.in_ok-counts.ensures.reader at c.in_ok-notes.ensures.answer)
    (g.W.ByteOut.contents c.write_counts.new.output) (g.W.ByteOut.failures c.write_counts.new.output)
    some c.in_ok-write_counts.ensures.0 c.in_ok-write_counts.ensures.1)
