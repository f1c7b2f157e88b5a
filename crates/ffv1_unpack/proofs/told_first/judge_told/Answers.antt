-- Writes the lines of the faults that are told, then judges all items that are left.
use Rattle.std.proofs.Common.{rules, ◌≡◌, inl, inr}
use Rattle.std.proofs.lemmas.Result.{err_from_is_err_and}
use Rattle.ffv1_wire.specs.Passage.{passage}
use Rattle.ffv1_unpack.proofs.ItemsCourse.{segment_on}
use Rattle.ffv1_unpack.proofs.ToldAgain.{count_stops_here, done_here, end_stops_here, items_stop_told, lines_fail, none_here}
use Rattle.ffv1_unpack.proofs.told_first.judge_told.Goals as goal
use Rattle.ffv1_unpack.proofs.told_first.judge_told.Goals.{else-counts-eq0-via-else-counts-eq0}
use Rattle.ffv1_unpack.proofs.told_first.judge_told.Goals.{else-counts-eq0-via-then-counts-eq0+else-counts-eq0-2}

pub returns-in_err-write_lines-clause-err : goal.returns-in_err-write_lines-clause-err
returns-in_err-write_lines-clause-err g c = λ profile i0 ib opens uncued.
    (let p = err_from_is_err_and c.from_residual.result c.from_residual.ensures.1 in
    rw (p.1, p.2) (inr (inl (lines_fail profile i0 (g.R.ByteIn.remaining c.args.input.now)
    ib (g.R.ByteIn.failures c.args.input.now) c.args.player.now.reader
    c.args.player.now.decoder.accepted c.args.told.now.data c.args.told.now.faults.items opens
    (passage g.W.ByteOut.contents g.W.ByteOut.failures c.args.output.now c.write_lines.new.output)
    c.in_err-write_lines.field-0.0 c.in_err-write_lines.ensures))))

pub returns-in_err-judged-clause-err : goal.returns-in_err-judged-clause-err
returns-in_err-judged-clause-err g c = λ profile i0 ib opens uncued.
    (let p = err_from_is_err_and c.from_residual-in_err-judged.result
    c.from_residual-in_err-judged.ensures.1 in
    rw (p.1, p.2) (inl (items_stop_told profile i0 (g.R.ByteIn.remaining c.args.input.now)
    (g.R.ByteIn.remaining c.judge_items.new.input) ib (g.R.ByteIn.failures c.args.input.now)
    (g.R.ByteIn.failures c.judge_items.new.input) c.args.player.now.reader
    c.args.player.now.decoder.accepted c.args.told.now.data c.args.told.now.faults.items opens
    c.args.place (g.W.ByteOut.contents c.args.output.now)
    (g.W.ByteOut.contents c.write_lines.new.output) (g.W.ByteOut.contents c.judge_items.new.output)
    (g.W.ByteOut.failures c.args.output.now) (g.W.ByteOut.failures c.write_lines.new.output)
    (g.W.ByteOut.failures c.judge_items.new.output) c.in_ok-write_lines.ensures.0
    c.in_ok-write_lines.ensures.1 c.in_err-judged.field-0.0 c.in_err-judged.ensures.err)))

pub returns-in_err-notes-clause-err : goal.returns-in_err-notes-clause-err
returns-in_err-notes-clause-err g c = λ profile i0 ib opens uncued.
    (let p = err_from_is_err_and c.from_residual-in_err-notes.result
    c.from_residual-in_err-notes.ensures.1 in
    let judged = c.in_ok-judged.ensures.ok in
    let start = c.args.told.now.data in
    let cues = rw uncued at c.in_ok-judged.ensures.cued in
    rw (p.1, p.2) (inl (end_stops_here profile c.args.place i0
    (g.R.ByteIn.remaining c.args.input.now)
    (g.R.ByteIn.remaining c.judge_items.new.input) (g.R.ByteIn.remaining c.tell_behind.new.input) ib
    (g.R.ByteIn.failures c.args.input.now) (g.R.ByteIn.failures c.judge_items.new.input)
    (g.R.ByteIn.failures c.tell_behind.new.input) c.args.player.now.reader
    c.args.player.now.decoder.accepted start c.args.told.now.faults.items opens
    c.judge_items.new.player.course c.judge_items.new.player.cued cues
    c.in_ok-judged.ensures.course (g.W.ByteOut.contents c.args.output.now)
    (g.W.ByteOut.contents c.write_lines.new.output) (g.W.ByteOut.contents c.judge_items.new.output)
    (g.W.ByteOut.contents c.tell_behind.new.output) (g.W.ByteOut.failures c.args.output.now)
    (g.W.ByteOut.failures c.write_lines.new.output) (g.W.ByteOut.failures c.judge_items.new.output)
    (g.W.ByteOut.failures c.tell_behind.new.output) c.in_ok-write_lines.ensures judged.0 judged.2
    c.with_told-counts.result (c.with_told-counts.ensures.judged start judged.0 judged.1)
    c.in_err-notes.field-0.0 (rw c.in_ok-judged.ensures.reader at c.in_err-notes.ensures.answer))))

pub returns-then-counts-eq0-2-clause-err : goal.returns-then-counts-eq0-2-clause-err
returns-then-counts-eq0-2-clause-err g c = λ profile i0 ib opens uncued.
    (let judged = c.in_ok-judged.ensures.ok in
    let start = c.args.told.now.data in
    let cues = rw uncued at c.in_ok-judged.ensures.cued in
    let new = c.tell_behind.new.counts in
    let frames : new.frames ≡ 0 = search rules in
    let faults : new.faults ≡ 0 = search rules in
    inl (none_here profile c.args.place i0
    (g.R.ByteIn.remaining c.args.input.now)
    (g.R.ByteIn.remaining c.judge_items.new.input) (g.R.ByteIn.remaining c.tell_behind.new.input) ib
    (g.R.ByteIn.failures c.args.input.now) (g.R.ByteIn.failures c.judge_items.new.input)
    (g.R.ByteIn.failures c.tell_behind.new.input) c.args.player.now.reader
    c.args.player.now.decoder.accepted start c.args.told.now.faults.items opens
    c.judge_items.new.player.course c.judge_items.new.player.cued cues
    c.in_ok-judged.ensures.course (g.W.ByteOut.contents c.args.output.now)
    (g.W.ByteOut.contents c.write_lines.new.output) (g.W.ByteOut.contents c.judge_items.new.output)
    (g.W.ByteOut.contents c.tell_behind.new.output) (g.W.ByteOut.failures c.args.output.now)
    (g.W.ByteOut.failures c.write_lines.new.output) (g.W.ByteOut.failures c.judge_items.new.output)
    (g.W.ByteOut.failures c.tell_behind.new.output) c.in_ok-write_lines.ensures judged.0 judged.2
    c.with_told-counts.result (c.with_told-counts.ensures.judged start judged.0 judged.1)
    new c.in_ok-notes.notes (rw c.in_ok-judged.ensures.reader at c.in_ok-notes.ensures.answer)
    frames faults))

pub returns-in_err-write_counts-clause-err : goal.returns-in_err-write_counts-clause-err
returns-in_err-write_counts-clause-err g c = λ profile i0 ib opens uncued.
    (let p = err_from_is_err_and c.from_residual-in_err-write_counts.result
    c.from_residual-in_err-write_counts.ensures.1 in
    let judged = c.in_ok-judged.ensures.ok in
    let start = c.args.told.now.data in
    let cues = rw uncued at c.in_ok-judged.ensures.cued in
    let new = c.tell_behind.new.counts in
    rw (p.1, p.2) (inl (count_stops_here profile c.args.place i0
    (g.R.ByteIn.remaining c.args.input.now)
    (g.R.ByteIn.remaining c.judge_items.new.input) (g.R.ByteIn.remaining c.tell_behind.new.input) ib
    (g.R.ByteIn.failures c.args.input.now) (g.R.ByteIn.failures c.judge_items.new.input)
    (g.R.ByteIn.failures c.tell_behind.new.input) c.args.player.now.reader
    c.args.player.now.decoder.accepted start c.args.told.now.faults.items opens
    c.judge_items.new.player.course c.judge_items.new.player.cued cues
    c.in_ok-judged.ensures.course (g.W.ByteOut.contents c.args.output.now)
    (g.W.ByteOut.contents c.write_lines.new.output) (g.W.ByteOut.contents c.judge_items.new.output)
    (g.W.ByteOut.contents c.tell_behind.new.output) (g.W.ByteOut.failures c.args.output.now)
    (g.W.ByteOut.failures c.write_lines.new.output) (g.W.ByteOut.failures c.judge_items.new.output)
    (g.W.ByteOut.failures c.tell_behind.new.output) c.in_ok-write_lines.ensures judged.0 judged.2
    c.with_told-counts.result (c.with_told-counts.ensures.judged start judged.0 judged.1)
    new c.in_ok-notes.notes (rw c.in_ok-judged.ensures.reader at c.in_ok-notes.ensures.answer)
    (g.W.ByteOut.contents c.write_counts.new.output) (g.W.ByteOut.failures c.write_counts.new.output)
    c.in_err-write_counts.field-0.0 c.in_err-write_counts.ensures)))

pub returns-clause-ok : goal.returns-clause-ok
returns-clause-ok g c = λ profile i0 ib opens uncued.
    (let judged = c.in_ok-judged.ensures.ok in
    let start = c.args.told.now.data in
    let cues = rw uncued at c.in_ok-judged.ensures.cued in
    let new = c.tell_behind.new.counts in
    let some : new.frames ≡ 0 → new.faults ≡ 0 → ⊥ = elim c.else-counts-eq0.branch [
      | else-counts-eq0-via-then-counts-eq0+else-counts-eq0-2 w ↦
          λ frames faults. w.if-counts-eq0-2.false faults
      | else-counts-eq0-via-else-counts-eq0 w ↦ λ frames faults. w.if-counts-eq0.false frames
    ] in
    done_here profile c.args.place i0
    (g.R.ByteIn.remaining c.args.input.now)
    (g.R.ByteIn.remaining c.judge_items.new.input) (g.R.ByteIn.remaining c.tell_behind.new.input) ib
    (g.R.ByteIn.failures c.args.input.now) (g.R.ByteIn.failures c.judge_items.new.input)
    (g.R.ByteIn.failures c.tell_behind.new.input) c.args.player.now.reader
    c.args.player.now.decoder.accepted start c.args.told.now.faults.items opens
    c.judge_items.new.player.course c.judge_items.new.player.cued cues
    c.in_ok-judged.ensures.course (g.W.ByteOut.contents c.args.output.now)
    (g.W.ByteOut.contents c.write_lines.new.output) (g.W.ByteOut.contents c.judge_items.new.output)
    (g.W.ByteOut.contents c.tell_behind.new.output) (g.W.ByteOut.failures c.args.output.now)
    (g.W.ByteOut.failures c.write_lines.new.output) (g.W.ByteOut.failures c.judge_items.new.output)
    (g.W.ByteOut.failures c.tell_behind.new.output) c.in_ok-write_lines.ensures judged.0 judged.2
    c.with_told-counts.result (c.with_told-counts.ensures.judged start judged.0 judged.1)
    new c.in_ok-notes.notes (rw c.in_ok-judged.ensures.reader at c.in_ok-notes.ensures.answer)
    (g.W.ByteOut.contents c.write_counts.new.output) (g.W.ByteOut.failures c.write_counts.new.output)
    some c.in_ok-write_counts.ensures.0 c.in_ok-write_counts.ensures.1)

pub judge_items-requires-clause-reads : goal.judge_items-requires-clause-reads
judge_items-requires-clause-reads g c =
    segment_on c.args.player.now.reader.place c.args.player.now.reader.offset c.requires.segment
