-- Writes the facts of the frames of a file that was opened.
use Rattle.std.proofs.Common.{◌≡◌, Err, Ok, [], inl, sym, subst, ◌∙◌}
use Rattle.std.proofs.lemmas.Result.{err_from_is_err_and}
use Rattle.ffv1_wire.specs.Passage.{between, passage}
use Rattle.ffv1_unpack.proofs.OwnFaults.{told_on}
use Rattle.ffv1_unpack.specs.Internal.Opens.{stream_of}
use Rattle.ffv1_unpack.specs.Plays.{HasThen}
use Rattle.ffv1_range.specs.Counts.{saturated}
use Rattle.ffv1_info.specs.Internal.Frames.{ReadsOthers, with_others}
use Rattle.ffv1_info.specs.StreamFacts.{counted_facts}
use Rattle.ffv1_info.specs.StreamInfo.{FramesDone, FramesStop, first_facts}
use Rattle.ffv1_info.proofs.FramesTold.{before_count, count_stops, counted_stops, counted_told}
use Rattle.ffv1_info.proofs.FramesTold.{frames_counted, frames_told, is_some, picture_stops}
use Rattle.ffv1_info.proofs.FramesTold.{picture_told, said_some}
use Rattle.ffv1_info.proofs.Groups.{group_tells, group_wrote, wrote_none}
use Rattle.ffv1_info.proofs.informing.tell_frames.Goals as goal

pub returns-in_err-next-clause-err : goal.returns-in_err-next-clause-err
returns-in_err-next-clause-err g c =
    let p = err_from_is_err_and c.from_residual.result c.from_residual.ensures.1 in
    let i0 = g.R.ByteIn.remaining c.args.input.now in
    let i1 = g.R.ByteIn.remaining c.read_picture.new.input in
    let ib = g.R.ByteIn.failures c.args.input.now in
    let im = g.R.ByteIn.failures c.read_picture.new.input in
    let o = g.W.ByteOut.contents c.args.output.now in
    let n = g.W.ByteOut.failures c.args.output.now in
    rw (p.1, p.2) (before_count (HasThen c.args.reader.place) c.args.asked.form
    (stream_of c.args.reader c.args.checked) [] (between i0 i1 ib im) (between o o n n)
    c.in_err-next.field-0.0 c.args.asked.count (inl (wrote_none o n, c.in_err-next.ensures.err)))

pub returns-in_err-write_picture-clause-err : goal.returns-in_err-write_picture-clause-err
returns-in_err-write_picture-clause-err g c =
    let p = err_from_is_err_and c.from_residual-in_err-write_picture.result
    c.from_residual-in_err-write_picture.ensures.1 in
    let i0 = g.R.ByteIn.remaining c.args.input.now in
    let i1 = g.R.ByteIn.remaining c.read_picture.new.input in
    let ib = g.R.ByteIn.failures c.args.input.now in
    let im = g.R.ByteIn.failures c.read_picture.new.input in
    let o0 = g.W.ByteOut.contents c.args.output.now in
    let o1 = g.W.ByteOut.contents c.write_picture.new.output in
    let ob = g.W.ByteOut.failures c.args.output.now in
    let om = g.W.ByteOut.failures c.write_picture.new.output in
    let form = c.args.asked.form in
    let s = stream_of c.args.reader c.args.checked in
    let from = c.args.reader.place in
    let mid = c.read_picture.new.reader.place in
    let first = c.in_ok-next.ensures.ok in
    let f = c.in_err-write_picture.field-0.0 in
    rw (p.1, p.2) (picture_stops form s from mid i0 i1 ib im first.0 first.2 o0 o1 ob om
    c.args.asked.count f
    (picture_told form s first.0 c.said_in-said.result c.size_of-size.result.width c.size_of-size.result.height
    (between o0 o1 ob om) (Err f) (c.said_in-said.ensures ∙ said_some first.0 c.in_ok-next.next first.1)
    c.size_of-size.ensures.width
    c.size_of-size.ensures.height c.in_err-write_picture.ensures))

pub returns-in_err-frames-clause-err : goal.returns-in_err-frames-clause-err
returns-in_err-frames-clause-err g c =
    let p = err_from_is_err_and c.from_residual-in_err-frames.result
    c.from_residual-in_err-frames.ensures.1 in
    let i0 = g.R.ByteIn.remaining c.args.input.now in
    let i1 = g.R.ByteIn.remaining c.read_picture.new.input in
    let ib = g.R.ByteIn.failures c.args.input.now in
    let im = g.R.ByteIn.failures c.read_picture.new.input in
    let o0 = g.W.ByteOut.contents c.args.output.now in
    let o1 = g.W.ByteOut.contents c.write_picture.new.output in
    let ob = g.W.ByteOut.failures c.args.output.now in
    let om = g.W.ByteOut.failures c.write_picture.new.output in
    let form = c.args.asked.form in
    let s = stream_of c.args.reader c.args.checked in
    let from = c.args.reader.place in
    let mid = c.read_picture.new.reader.place in
    let first = c.in_ok-next.ensures.ok in
    let wrote = group_wrote (first_facts form s first.0) o0 o1 ob om c.in_ok-write_picture.field-0
    (picture_told form s first.0 c.said_in-said.result c.size_of-size.result.width c.size_of-size.result.height
    (between o0 o1 ob om) (Ok c.in_ok-write_picture.field-0) (c.said_in-said.ensures ∙ said_some first.0 c.in_ok-next.next first.1)
    c.size_of-size.ensures.width
    c.size_of-size.ensures.height c.in_ok-write_picture.ensures) in
    let i2 = g.R.ByteIn.remaining c.count_frames.new.input in
    let ia = g.R.ByteIn.failures c.count_frames.new.input in
    let some = c.is_frame-some.ensures ∙ is_some first.0 c.in_ok-next.next first.1 in
    let f = c.in_err-frames.field-0.0 in
    let ends = c.in_err-frames.ensures.err in
    rw (p.1, p.2) (subst (λ b. FramesStop (HasThen from) form s [] (between i0 i2 ib ia)
    (between o0 o1 ob om) b f) (sym c.if-not-count.false)
    (count_stops form s from mid i0 i1 ib im first.0 first.2 o0 o1 ob om wrote i2 ia ends.1.0 f
    (sym some ∙ ends.0) ends.1.1))

pub returns-in_err-write_counted-clause-err : goal.returns-in_err-write_counted-clause-err
returns-in_err-write_counted-clause-err g c =
    let p = err_from_is_err_and c.from_residual-in_err-write_counted.result
    c.from_residual-in_err-write_counted.ensures.1 in
    let i0 = g.R.ByteIn.remaining c.args.input.now in
    let i1 = g.R.ByteIn.remaining c.read_picture.new.input in
    let ib = g.R.ByteIn.failures c.args.input.now in
    let im = g.R.ByteIn.failures c.read_picture.new.input in
    let o0 = g.W.ByteOut.contents c.args.output.now in
    let o1 = g.W.ByteOut.contents c.write_picture.new.output in
    let ob = g.W.ByteOut.failures c.args.output.now in
    let om = g.W.ByteOut.failures c.write_picture.new.output in
    let form = c.args.asked.form in
    let s = stream_of c.args.reader c.args.checked in
    let from = c.args.reader.place in
    let mid = c.read_picture.new.reader.place in
    let first = c.in_ok-next.ensures.ok in
    let wrote = group_wrote (first_facts form s first.0) o0 o1 ob om c.in_ok-write_picture.field-0
    (picture_told form s first.0 c.said_in-said.result c.size_of-size.result.width c.size_of-size.result.height
    (between o0 o1 ob om) (Ok c.in_ok-write_picture.field-0) (c.said_in-said.ensures ∙ said_some first.0 c.in_ok-next.next first.1)
    c.size_of-size.ensures.width
    c.size_of-size.ensures.height c.in_ok-write_picture.ensures) in
    let i2 = g.R.ByteIn.remaining c.count_frames.new.input in
    let ia = g.R.ByteIn.failures c.count_frames.new.input in
    let some = c.is_frame-some.ensures ∙ is_some first.0 c.in_ok-next.next first.1 in
    let counted = c.in_ok-frames.ensures.ok in
    let o2 = g.W.ByteOut.contents c.write_counted.new.output in
    let oa = g.W.ByteOut.failures c.write_counted.new.output in
    let head = c.head.ensures.value ∙ c.in_ok-frames.ensures.head ∙ c.in_ok-next.ensures.head in
    let more = subst (λ b. ReadsOthers b mid (between i1 i2 im ia) counted.0) some counted.2 in
    let number = subst (λ b. c.in_ok-frames.frames ≡ saturated (with_others b counted.0)) some
    counted.1 in
    let f = c.in_err-write_counted.field-0.0 in
    rw (p.1, p.2) (subst (λ b. FramesStop (HasThen from) form s [] (between i0 i2 ib ia)
    (between o0 o2 ob oa) b f) (sym c.if-not-count.false)
    (counted_stops form s from mid i0 i1 ib im first.0 first.2 o0 o1 ob om wrote i2 ia counted.0
    more c.in_ok-frames.frames number o2 oa f
    (counted_told form c.in_ok-frames.frames (between o1 o2 om oa) (Err f) head
    c.in_err-write_counted.ensures)))

pub returns-clause-ok : goal.returns-clause-ok
returns-clause-ok g c =
    let i0 = g.R.ByteIn.remaining c.args.input.now in
    let i1 = g.R.ByteIn.remaining c.read_picture.new.input in
    let ib = g.R.ByteIn.failures c.args.input.now in
    let im = g.R.ByteIn.failures c.read_picture.new.input in
    let o0 = g.W.ByteOut.contents c.args.output.now in
    let o1 = g.W.ByteOut.contents c.write_picture.new.output in
    let ob = g.W.ByteOut.failures c.args.output.now in
    let om = g.W.ByteOut.failures c.write_picture.new.output in
    let form = c.args.asked.form in
    let s = stream_of c.args.reader c.args.checked in
    let from = c.args.reader.place in
    let mid = c.read_picture.new.reader.place in
    let first = c.in_ok-next.ensures.ok in
    let wrote = group_wrote (first_facts form s first.0) o0 o1 ob om c.in_ok-write_picture.field-0
    (picture_told form s first.0 c.said_in-said.result c.size_of-size.result.width c.size_of-size.result.height
    (between o0 o1 ob om) (Ok c.in_ok-write_picture.field-0) (c.said_in-said.ensures ∙ said_some first.0 c.in_ok-next.next first.1)
    c.size_of-size.ensures.width
    c.size_of-size.ensures.height c.in_ok-write_picture.ensures) in
    let i2 = g.R.ByteIn.remaining c.count_frames.new.input in
    let ia = g.R.ByteIn.failures c.count_frames.new.input in
    let some = c.is_frame-some.ensures ∙ is_some first.0 c.in_ok-next.next first.1 in
    let counted = c.in_ok-frames.ensures.ok in
    let o2 = g.W.ByteOut.contents c.write_counted.new.output in
    let oa = g.W.ByteOut.failures c.write_counted.new.output in
    let head = c.head.ensures.value ∙ c.in_ok-frames.ensures.head ∙ c.in_ok-next.ensures.head in
    let more = subst (λ b. ReadsOthers b mid (between i1 i2 im ia) counted.0) some counted.2 in
    let number = subst (λ b. c.in_ok-frames.frames ≡ saturated (with_others b counted.0)) some
    counted.1 in
    let last = group_wrote (counted_facts form s.head c.in_ok-frames.frames) o1 o2 om oa
    c.in_ok-write_counted.field-0 (counted_told form c.in_ok-frames.frames (between o1 o2 om oa)
    (Ok c.in_ok-write_counted.field-0) head c.in_ok-write_counted.ensures) in
    subst (λ b. FramesDone (HasThen from) form s [] (between i0 i2 ib ia)
    (between o0 o2 ob oa) b) (sym c.if-not-count.false)
    (frames_counted form s from mid i0 i1 ib im first.0 first.2 o0 o1 ob om wrote i2 ia counted.0
    more c.in_ok-frames.frames number o2 oa last)

pub returns-then-not-count-clause-ok : goal.returns-then-not-count-clause-ok
returns-then-not-count-clause-ok g c =
    let i0 = g.R.ByteIn.remaining c.args.input.now in
    let i1 = g.R.ByteIn.remaining c.read_picture.new.input in
    let ib = g.R.ByteIn.failures c.args.input.now in
    let im = g.R.ByteIn.failures c.read_picture.new.input in
    let o0 = g.W.ByteOut.contents c.args.output.now in
    let o1 = g.W.ByteOut.contents c.write_picture.new.output in
    let ob = g.W.ByteOut.failures c.args.output.now in
    let om = g.W.ByteOut.failures c.write_picture.new.output in
    let form = c.args.asked.form in
    let s = stream_of c.args.reader c.args.checked in
    let from = c.args.reader.place in
    let mid = c.read_picture.new.reader.place in
    let first = c.in_ok-next.ensures.ok in
    let wrote = group_wrote (first_facts form s first.0) o0 o1 ob om c.in_ok-write_picture.field-0
    (picture_told form s first.0 c.said_in-said.result c.size_of-size.result.width c.size_of-size.result.height
    (between o0 o1 ob om) (Ok c.in_ok-write_picture.field-0) (c.said_in-said.ensures ∙ said_some first.0 c.in_ok-next.next first.1)
    c.size_of-size.ensures.width
    c.size_of-size.ensures.height c.in_ok-write_picture.ensures) in
    subst (λ b. FramesDone (HasThen from) form s [] (between i0 i1 ib im)
    (between o0 o1 ob om) b) (sym c.if-not-count.true)
    (frames_told form s from mid i0 i1 ib im first.0 first.2 o0 o1 ob om wrote)

pub returns-in_err-write_picture-clause-own : goal.returns-in_err-write_picture-clause-own
returns-in_err-write_picture-clause-own g c =
    let p = err_from_is_err_and c.from_residual-in_err-write_picture.result
    c.from_residual-in_err-write_picture.ensures.1 in
    rw (p.1, p.2) (inl (group_tells _ _ c.in_err-write_picture.field-0.0 c.in_err-write_picture.ensures))

pub returns-in_err-write_counted-clause-own : goal.returns-in_err-write_counted-clause-own
returns-in_err-write_counted-clause-own g c =
    let p = err_from_is_err_and c.from_residual-in_err-write_counted.result
    c.from_residual-in_err-write_counted.ensures.1 in
    rw (p.1, p.2) (inl (group_tells _ _ c.in_err-write_counted.field-0.0 c.in_err-write_counted.ensures))

pub returns-in_err-frames-clause-own : goal.returns-in_err-frames-clause-own
returns-in_err-frames-clause-own g c =
    let p = err_from_is_err_and c.from_residual-in_err-frames.result
    c.from_residual-in_err-frames.ensures.1 in
    rw (p.1, p.2) (told_on c.args.reader c.read_picture.new.reader
    (passage g.R.ByteIn.remaining g.R.ByteIn.failures c.args.input.now c.read_picture.new.input)
    c.in_err-frames.field-0.0 c.in_ok-next.ensures.container
    (c.in_ok-next.ensures.stays (sym c.is_frame-some.ensures ∙ c.in_err-frames.ensures.err.0))
    c.in_err-frames.ensures.own)
