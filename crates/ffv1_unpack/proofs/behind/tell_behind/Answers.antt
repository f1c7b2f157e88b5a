-- Looks at what stands behind the items of a file, once there are no more.
use Rattle.std.proofs.Common.{subst}
use Rattle.std.proofs.lemmas.Result.{err_from_is_err_and}
use Rattle.ffv1_wire.specs.Passage.{passage}
use Rattle.ffv1_files.specs.Answers.{StopsReading}
use Rattle.ffv1_files.specs.Behind.{any_value, items_noted}
use Rattle.ffv1_unpack.proofs.BehindTold.{another_is, another_told, another_untold, avi_unread}
use Rattle.ffv1_unpack.proofs.BehindTold.{behind_unread, notes_told, unread_own}
use Rattle.ffv1_unpack.proofs.ItemsJudged.{line_own}
use Rattle.ffv1_unpack.proofs.behind.tell_behind.Goals as goal

pub returns-in-Ok-clause-answer : goal.returns-in-Ok-clause-answer
returns-in-Ok-clause-answer g c =
    notes_told c.args.player.now.reader c.args.player.now.course c.args.player.now.cued
    (passage g.R.ByteIn.remaining g.R.ByteIn.failures c.args.input.now
    c.look_behind_items.new.input)
    (g.W.ByteOut.contents c.args.output.now) (g.W.ByteOut.failures c.args.output.now)
    c.args.counts.now c.in-Ok.notes c.in-Ok.ensures.answer

pub returns-then-not-is_another-clause-answer : goal.returns-then-not-is_another-clause-answer
returns-then-not-is_another-clause-answer g c =
    rw c.from.ensures (behind_unread c.args.player.now.reader c.args.player.now.course
    c.args.player.now.cued
    (passage g.R.ByteIn.remaining g.R.ByteIn.failures c.args.input.now
    c.look_behind_items.new.input)
    (g.W.ByteOut.contents c.args.output.now) (g.W.ByteOut.failures c.args.output.now)
    c.args.counts.now c.args.player.now.reader.place c.in-Err.fault c.in-Err.ensures.own
    (c.is_another.ensures.no c.if-not-is_another.true) c.in-Err.ensures.answer)

pub returns-in-Ok-clause-noted : goal.returns-in-Ok-clause-noted
returns-in-Ok-clause-noted g c = c.in-Ok.ensures.noted

pub returns-then-not-is_another-clause-own : goal.returns-then-not-is_another-clause-own
returns-then-not-is_another-clause-own g c =
    rw c.from.ensures (unread_own c.args.player.now.reader c.args.player.now.course
    c.args.player.now.cued
    (passage g.R.ByteIn.remaining g.R.ByteIn.failures c.args.input.now
    c.look_behind_items.new.input)
    (g.W.ByteOut.contents c.args.output.now) (g.W.ByteOut.failures c.args.output.now)
    c.args.counts.now c.args.player.now.reader.place c.in-Err.fault c.in-Err.ensures.own
    (c.is_another.ensures.no c.if-not-is_another.true))

pub returns-in_err-write_told-in-Err-clause-answer :
    goal.returns-in_err-write_told-in-Err-clause-answer
returns-in_err-write_told-in-Err-clause-answer g c =
    let p = err_from_is_err_and c.from_residual.result c.from_residual.ensures.1 in
    let r = c.args.player.now.reader in
    let course = c.args.player.now.course in
    let cued = c.args.player.now.cued in
    let i = passage g.R.ByteIn.remaining g.R.ByteIn.failures c.args.input.now
    c.look_behind_items.new.input in
    let met = subst (λ z. StopsReading any_value (items_noted r course cued) i z)
    (c.is_another.ensures.yes c.if-not-is_another.false) c.in-Err.ensures.answer in
    rw (p.1, p.2) (another_untold r course cued i
    (g.W.ByteOut.contents c.args.output.now) (g.W.ByteOut.contents c.write_told.new.output)
    (g.W.ByteOut.failures c.args.output.now) (g.W.ByteOut.failures c.write_told.new.output)
    (λ output. another_is r course cued i output met) c.in_err-write_told-in-Err.field-0.0
    (rw c.end.ensures at c.in_err-write_told-in-Err.ensures))

pub returns-in_err-write_told-in-Err-clause-own : goal.returns-in_err-write_told-in-Err-clause-own
returns-in_err-write_told-in-Err-clause-own g c =
    let p = err_from_is_err_and c.from_residual.result c.from_residual.ensures.1 in
    rw (p.1, p.2) (line_own _ _ _ c.in_err-write_told-in-Err.ensures)

pub returns-in_ok-write_told-in-Err-clause-answer : goal.returns-in_ok-write_told-in-Err-clause-answer
returns-in_ok-write_told-in-Err-clause-answer g c =
    let r = c.args.player.now.reader in
    let course = c.args.player.now.course in
    let cued = c.args.player.now.cued in
    let i = passage g.R.ByteIn.remaining g.R.ByteIn.failures c.args.input.now
    c.look_behind_items.new.input in
    let met = subst (λ z. StopsReading any_value (items_noted r course cued) i z)
    (c.is_another.ensures.yes c.if-not-is_another.false) c.in-Err.ensures.answer in
    another_told r course cued i
    (g.W.ByteOut.contents c.args.output.now) (g.W.ByteOut.contents c.write_told.new.output)
    (g.W.ByteOut.failures c.args.output.now) (g.W.ByteOut.failures c.write_told.new.output)
    (λ output. another_is r course cued i output met) c.args.counts.now c.tell.new.self
    (rw c.end.ensures at c.in_ok-write_told-in-Err.ensures) c.tell.ensures

pub returns-in_ok-write_told-in-Err-clause-noted : goal.returns-in_ok-write_told-in-Err-clause-noted
returns-in_ok-write_told-in-Err-clause-noted g c = λ avi plain scope text ends.
    absurd (avi_unread c.args.player.now.reader.place c.in-Err.fault c.in-Err.ensures.own avi)
