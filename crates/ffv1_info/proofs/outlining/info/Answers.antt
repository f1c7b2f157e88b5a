-- Writes what a file is: what its first bytes say, and then the facts of its stream.
use Rattle.std.proofs.Common.{true, None, refl, inl}
use Rattle.std.proofs.lemmas.Result.{err_from_is_err_and}
use Rattle.ffv1_outline.specs.Beginnings.{failures_of, inner_of, is_broken, kept, left_of}
use Rattle.ffv1_video.proofs.Output.{silent}
use Rattle.ffv1_unpack.proofs.OwnFaults.{line_shows}
use Rattle.ffv1_info.proofs.OutlineTold.{all_told, begun, file_again, line_info_again}
use Rattle.ffv1_info.proofs.OutlineTold.{outline_stops, rest_stops}
use Rattle.ffv1_info.proofs.outlining.info.Goals as goal

pub returns-in_err-input-clause-err : goal.returns-in_err-input-clause-err
returns-in_err-input-clause-err g c =
    let p = err_from_is_err_and c.from_residual.result c.from_residual.ensures.1 in
    rw (p.1, p.2) (inl (
      refl,
      silent (g.W.ByteOut.contents c.args.output.now)
          (g.W.ByteOut.failures c.args.output.now),
    ))

pub returns-in_err-input-clause-again : goal.returns-in_err-input-clause-again
returns-in_err-input-clause-again g c =
    let p = err_from_is_err_and c.from_residual.result c.from_residual.ensures.1 in
    λ able. rw (p.1, p.2) (None, tt)

pub returns-in_err-write_outline-clause-again : goal.returns-in_err-write_outline-clause-again
returns-in_err-write_outline-clause-again g c =
    let p = err_from_is_err_and c.from_residual-in_err-write_outline.result
    c.from_residual-in_err-write_outline.ensures.1 in
    λ able. rw (p.1, p.2) (line_info_again c.args.profile (g.R.ByteIn.remaining c.args.input) _ _
    c.in_err-write_outline.field-0.0 c.in_err-write_outline.ensures)

pub returns-in_err-stream_info-clause-again : goal.returns-in_err-stream_info-clause-again
returns-in_err-stream_info-clause-again g c =
    let p = err_from_is_err_and c.from_residual-in_err-stream_info.result
    c.from_residual-in_err-stream_info.ensures.1 in
    let b = c.in_ok-input.input in
    let last = c.stream_info.new.input in
    λ able. rw (p.1, p.2) (file_again c.args.profile (g.R.ByteIn.remaining c.args.input)
    (left_of g.R.ByteIn.remaining b) (left_of g.R.ByteIn.remaining last) (failures_of b)
    (failures_of last) (g.R.AgainIn.begins (inner_of b)) c.in_err-stream_info.field-0.0
    c.in_ok-input.ensures.same (able (inner_of b)) c.in_err-stream_info.ensures.again)

pub returns-in_err-write_outline-clause-err : goal.returns-in_err-write_outline-clause-err
returns-in_err-write_outline-clause-err g c =
    let p = err_from_is_err_and c.from_residual-in_err-write_outline.result
    c.from_residual-in_err-write_outline.ensures.1 in
    let b = c.in_ok-input.input in
    let begins = begun (g.R.ByteIn.remaining c.args.input) c.bytes.result.now (kept b)
    (is_broken b) (left_of g.R.ByteIn.remaining b) c.bytes.ensures c.in_ok-input.ensures.begins
    c.in_ok-input.ensures.same in
    let o0 = g.W.ByteOut.contents c.args.output.now in
    let o1 = g.W.ByteOut.contents c.write_outline.new.output in
    let ob = g.W.ByteOut.failures c.args.output.now in
    let om = g.W.ByteOut.failures c.write_outline.new.output in
    rw (p.1, p.2) (outline_stops c.args.profile c.args.form c.args.count
    (g.R.ByteIn.remaining c.args.input) begins o0 o1 ob om
    c.in_err-write_outline.field-0.0 c.in_err-write_outline.ensures)

pub returns-in_err-write_outline-clause-own : goal.returns-in_err-write_outline-clause-own
returns-in_err-write_outline-clause-own g c =
    let p = err_from_is_err_and c.from_residual-in_err-write_outline.result
    c.from_residual-in_err-write_outline.ensures.1 in
    rw (p.1, p.2) (inl (line_shows true _ _ c.in_err-write_outline.field-0.0
    c.in_err-write_outline.ensures))

pub returns-in_err-stream_info-clause-err : goal.returns-in_err-stream_info-clause-err
returns-in_err-stream_info-clause-err g c =
    let p = err_from_is_err_and c.from_residual-in_err-stream_info.result
    c.from_residual-in_err-stream_info.ensures.1 in
    let b = c.in_ok-input.input in
    let begins = begun (g.R.ByteIn.remaining c.args.input) c.bytes.result.now (kept b)
    (is_broken b) (left_of g.R.ByteIn.remaining b) c.bytes.ensures c.in_ok-input.ensures.begins
    c.in_ok-input.ensures.same in
    let o0 = g.W.ByteOut.contents c.args.output.now in
    let o1 = g.W.ByteOut.contents c.write_outline.new.output in
    let ob = g.W.ByteOut.failures c.args.output.now in
    let om = g.W.ByteOut.failures c.write_outline.new.output in
    let o2 = g.W.ByteOut.contents c.stream_info.new.output in
    let oa = g.W.ByteOut.failures c.stream_info.new.output in
    let last = c.stream_info.new.input in
    rw (p.1, p.2) (rest_stops c.args.form (g.R.ByteIn.remaining c.args.input) begins o0 o1 o2
    (left_of g.R.ByteIn.remaining last) ob om oa (failures_of b) (failures_of last) c.args.profile
    c.args.count c.in_ok-write_outline.field-0 c.in_ok-write_outline.ensures
    c.in_ok-input.ensures.none c.in_err-stream_info.field-0.0 c.in_err-stream_info.ensures.err)

pub returns-clause-ok : goal.returns-clause-ok
returns-clause-ok g c =
    let b = c.in_ok-input.input in
    let begins = begun (g.R.ByteIn.remaining c.args.input) c.bytes.result.now (kept b)
    (is_broken b) (left_of g.R.ByteIn.remaining b) c.bytes.ensures c.in_ok-input.ensures.begins
    c.in_ok-input.ensures.same in
    let o0 = g.W.ByteOut.contents c.args.output.now in
    let o1 = g.W.ByteOut.contents c.write_outline.new.output in
    let ob = g.W.ByteOut.failures c.args.output.now in
    let om = g.W.ByteOut.failures c.write_outline.new.output in
    let o2 = g.W.ByteOut.contents c.stream_info.new.output in
    let oa = g.W.ByteOut.failures c.stream_info.new.output in
    let last = c.stream_info.new.input in
    all_told c.args.form (g.R.ByteIn.remaining c.args.input) begins o0 o1 o2
    (left_of g.R.ByteIn.remaining last) ob om oa (failures_of b) (failures_of last) c.args.profile
    c.args.count c.in_ok-write_outline.field-0 c.in_ok-write_outline.ensures
    c.in_ok-input.ensures.none c.in_ok-stream_info.ensures.ok
