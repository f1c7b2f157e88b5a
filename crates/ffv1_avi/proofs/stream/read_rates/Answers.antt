-- The rate and the scale of a stream's header of a given size, if it is one of video.
use Rattle.std.proofs.Common.{◌≡◌, ◌∙◌, refl, sym, codes, true, Some, None, take, drop, arith}
use Rattle.byteorder.specs.Endian.{little_number}
use Rattle.ffv1_avi.specs.Walk.{is_name}
use Rattle.ffv1_avi.proofs.Contents.{number_taken, rates_front, rates_long, rates_short}
use Rattle.ffv1_reads.proofs.Answered.{answers_err, answers_first, answers_given, answers_next}
use Rattle.ffv1_reads.proofs.Answered.{answers_ok, answers_same}
use Rattle.ffv1_avi.proofs.stream.read_rates.Goals as goal

pub returns-in_err-pass : goal.returns-in_err-pass
returns-in_err-pass g c = answers_err _ _ _ _ c.from_residual.ensures.1
    (answers_same (rates_short _ c.if-size-lt56.true) (answers_first _ _
    (rw c.padded.ensures at c.in_err-pass.ensures)))

pub returns-then-size-lt56 : goal.returns-then-size-lt56
returns-then-size-lt56 g c = answers_ok (answers_same (rates_short _ c.if-size-lt56.true)
    (answers_next _ (rw c.padded.ensures at c.in_ok-pass.ensures) answers_given))

pub returns-in_err-take : goal.returns-in_err-take
returns-in_err-take g c = answers_err _ _ _ _ c.from_residual-in_err-take.ensures.1
    (answers_same (rates_long _ c.if-size-lt56.false) (answers_first _ _ c.in_err-take.ensures))

pub returns-in_err-pass-2 : goal.returns-in_err-pass-2
returns-in_err-pass-2 g c = answers_err _ _ _ _ c.from_residual-in_err-pass-2.ensures.1
    (answers_same (rates_long _ c.if-size-lt56.false) (answers_next _ c.in_ok-take.ensures
    (answers_first _ _ (rw c.padded-2.ensures at c.in_err-pass-2.ensures))))

pub returns-then-not-is_name : goal.returns-then-not-is_name
returns-then-not-is_name g c =
    let passed = rw c.padded-2.ensures at c.in_ok-pass-2.ensures in
    let says : rates_front c.take.new.buf ≡ None = rw (sym c.if-not-is_name.ensures) refl in
    answers_ok (answers_same (rates_long _ c.if-size-lt56.false)
    (answers_next _ c.in_ok-take.ensures (answers_next _ passed (rw says answers_given))))

pub returns : goal.returns
returns g c =
    let head = c.take.new.buf in
    let passed = rw c.padded-2.ensures at c.in_ok-pass-2.ensures in
    let named : is_name (take 4 head) (codes "vids") ≡ true = sym c.if-not-is_name.ensures in
    let rate : c.read_u32-rate.result ≡ little_number 4
    (drop 24 head) = c.read_u32-rate.ensures ∙ number_taken 32 (drop 24 head) (omega arith) in
    let scale : c.read_u32-scale.result ≡ little_number 4
    (drop 20 head) = c.read_u32-scale.ensures ∙ number_taken 36 (drop 20 head) (omega arith) in
    let says : rates_front head ≡ Some (c.read_u32-rate.result, c.read_u32-scale.result) = rw
    (rate, scale, named) refl in
    answers_ok (answers_same (rates_long _ c.if-size-lt56.false)
    (answers_next _ c.in_ok-take.ensures (answers_next _ passed (rw says answers_given))))
