-- The width and the height of a stream's format of a given size, and its record in place of what
-- the vector has, if it is FFV1.
use Rattle.std.proofs.Common.{◌≡◌, ◌∙◌, ap, sym, drop, arith}
use Rattle.std.proofs.lemmas.Grind.{common_steps}
use Rattle.std.proofs.lemmas.Result.{err_from_is_err_and}
use Rattle.byteorder.specs.Endian.{little_number}
use Rattle.ffv1_reads.specs.Reads.{Kept}
use Rattle.ffv1_avi.specs.Streams.{record_end}
use Rattle.ffv1_avi.proofs.Contents.{format_long, format_right, format_short, format_wrong}
use Rattle.ffv1_avi.proofs.Contents.{number_taken}
use Rattle.ffv1_reads.proofs.Rooms.{room_filled, room_kept, room_then}
use Rattle.ffv1_reads.proofs.Answered.{answers_err, answers_first, answers_given, answers_next}
use Rattle.ffv1_reads.proofs.Answered.{answers_ok, answers_same}
use Rattle.ffv1_avi.specs.declared.place.Extent.{Extent}
use Rattle.std.proofs.Common.{ℕ, List}
use Rattle.ffv1_avi.proofs.stream.read_format.Goals as goal

pub returns-in_err-pass-clause-answer : goal.returns-in_err-pass-clause-answer
returns-in_err-pass-clause-answer g c = answers_err _ _ _ _ c.from_residual.ensures.1
    (answers_same (format_short _ _ c.if-size-lt40.true) (answers_first _ _
    (rw c.padded.ensures at c.in_err-pass.ensures)))

pub returns-then-size-lt40-clause-answer : goal.returns-then-size-lt40-clause-answer
returns-then-size-lt40-clause-answer g c = answers_ok (answers_same
    (format_short _ _ c.if-size-lt40.true) (answers_next _
    (rw c.padded.ensures at c.in_ok-pass.ensures) answers_given))

pub returns-in_err-take-clause-answer : goal.returns-in_err-take-clause-answer
returns-in_err-take-clause-answer g c = answers_err _ _ _ _ c.from_residual-in_err-take.ensures.1
    (answers_same (format_long _ _ c.if-size-lt40.false) (answers_first _ _ c.in_err-take.ensures))

pub returns-in_err-pass-2-clause-answer : goal.returns-in_err-pass-2-clause-answer
returns-in_err-pass-2-clause-answer g c =
    let wrong = format_wrong c.args.extent c.args.size c.take.new.buf
    (sym c.if-not-is_format.ensures) in
    answers_err _ _ _ _ c.from_residual-in_err-pass-2.ensures.1
    (answers_same (format_long _ _ c.if-size-lt40.false)
    (answers_next _ c.in_ok-take.ensures (answers_same wrong
    (answers_first _ _ (rw c.padded-then-not-is_format.ensures at c.in_err-pass-2.ensures)))))

pub returns-then-not-is_format-clause-answer : goal.returns-then-not-is_format-clause-answer
returns-then-not-is_format-clause-answer g c =
    let wrong = format_wrong c.args.extent c.args.size c.take.new.buf
    (sym c.if-not-is_format.ensures) in
    answers_ok (answers_same (format_long _ _ c.if-size-lt40.false)
    (answers_next _ c.in_ok-take.ensures (answers_same wrong
    (answers_next _ (rw c.padded-then-not-is_format.ensures at c.in_ok-pass-2.ensures)
    answers_given))))

-- the record ends where the format says
ends_there : {end says : ℕ} (extent : Extent) (size : ℕ)
    (head : List ℕ) → end ≡ record_end extent says size → says ≡ little_number 4 head → end ≡
    record_end extent (little_number 4 head) size
ends_there extent size head ends says = ends ∙ ap (λ n. record_end extent n size) says

pub returns-in_err-fill-clause-answer : goal.returns-in_err-fill-clause-answer
returns-in_err-fill-clause-answer g c =
    let head = c.take.new.buf in
    let right = format_right c.args.extent _ c.args.size head
    (ends_there c.args.extent c.args.size head c.record_end-end.ensures.value
    c.read_u32.ensures) (sym c.if-not-is_format.ensures) in
    answers_err _ _ _ _ c.from_residual-in_err-fill.ensures.1
    (answers_same (format_long _ _ c.if-size-lt40.false)
    (answers_next _ c.in_ok-take.ensures (answers_same right
    (answers_first _ _ c.in_err-fill.ensures.answer))))

pub returns-in_err-pass-3-clause-answer : goal.returns-in_err-pass-3-clause-answer
returns-in_err-pass-3-clause-answer g c =
    let head = c.take.new.buf in
    let right = format_right c.args.extent _ c.args.size head
    (ends_there c.args.extent c.args.size head c.record_end-end.ensures.value
    c.read_u32.ensures) (sym c.if-not-is_format.ensures) in
    answers_err _ _ _ _ c.from_residual-in_err-pass-3.ensures.1
    (answers_same (format_long _ _ c.if-size-lt40.false)
    (answers_next _ c.in_ok-take.ensures (answers_same right
    (answers_next _ c.in_ok-fill.ensures.answer (answers_first _ _ (rw
    (c.from.ensures, c.padded-2.ensures) at c.in_err-pass-3.ensures))))))

pub returns-clause-answer : goal.returns-clause-answer
returns-clause-answer g c =
    let head = c.take.new.buf in
    let right = format_right c.args.extent _ c.args.size head
    (ends_there c.args.extent c.args.size head c.record_end-end.ensures.value
    c.read_u32.ensures) (sym c.if-not-is_format.ensures) in
    let width : c.read_u32-width.result ≡ little_number 4
    (drop 4 head) = c.read_u32-width.ensures ∙ number_taken 36 (drop 4 head) (omega arith) in
    let height : c.read_u32-height.result ≡ little_number 4
    (drop 8 head) = c.read_u32-height.ensures ∙ number_taken 32 (drop 8 head) (omega arith) in
    rw (width, height) (answers_ok (answers_same (format_long _ _ c.if-size-lt40.false)
    (answers_next _ c.in_ok-take.ensures (answers_same right
    (answers_next _ c.in_ok-fill.ensures.answer (answers_next _ (rw
    (c.from.ensures, c.padded-2.ensures) at c.in_ok-pass-3.ensures) answers_given))))))

pub returns-in_err-pass-clause-room : goal.returns-in_err-pass-clause-room
returns-in_err-pass-clause-room g c =
    let p = err_from_is_err_and c.from_residual.result c.from_residual.ensures.1 in
    rw p.1 (grind (arith, common_steps))

pub returns-then-size-lt40-clause-room : goal.returns-then-size-lt40-clause-room
returns-then-size-lt40-clause-room g c = grind (arith, common_steps)

pub returns-in_err-take-clause-room : goal.returns-in_err-take-clause-room
returns-in_err-take-clause-room g c =
    let p = err_from_is_err_and c.from_residual-in_err-take.result
    c.from_residual-in_err-take.ensures.1 in
    rw p.1 (grind (arith, common_steps))

pub returns-in_err-pass-2-clause-room : goal.returns-in_err-pass-2-clause-room
returns-in_err-pass-2-clause-room g c =
    let p = err_from_is_err_and c.from_residual-in_err-pass-2.result
    c.from_residual-in_err-pass-2.ensures.1 in
    rw p.1 (grind (arith, common_steps))

pub returns-then-not-is_format-clause-room : goal.returns-then-not-is_format-clause-room
returns-then-not-is_format-clause-room g c = grind (arith, common_steps)

pub returns-in_err-fill-clause-room : goal.returns-in_err-fill-clause-room
returns-in_err-fill-clause-room g c =
    let p = err_from_is_err_and c.from_residual-in_err-fill.result
    c.from_residual-in_err-fill.ensures.1 in
    rw p.1 (grind (arith, common_steps))

pub returns-in_err-pass-3-clause-room : goal.returns-in_err-pass-3-clause-room
returns-in_err-pass-3-clause-room g c =
    let p = err_from_is_err_and c.from_residual-in_err-pass-3.result
    c.from_residual-in_err-pass-3.ensures.1 in
    rw p.1 (grind (arith, common_steps))

pub returns-clause-room : goal.returns-clause-room
returns-clause-room g c = grind (arith, common_steps)

pub returns-then-not-is_format-clause-grown : goal.returns-then-not-is_format-clause-grown
returns-then-not-is_format-clause-grown g c = room_then (room_kept _ c.in_ok-take.ensures.1)
    (room_kept _ c.in_ok-pass-2.ensures.1)

pub returns-clause-grown : goal.returns-clause-grown
returns-clause-grown g c = room_then (room_kept _ c.in_ok-take.ensures.1)
    (room_then (room_filled Kept _ _ _ c.in_ok-fill.ensures.answer.1 c.in_ok-fill.ensures.room)
    (room_kept _ c.in_ok-pass-3.ensures.1))
