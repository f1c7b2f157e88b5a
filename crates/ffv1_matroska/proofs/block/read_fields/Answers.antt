-- What comes after the track number of a block: two bytes of time, and flags.
use Rattle.std.proofs.Common.{◌≡◌, ◌<◌, ◌≤◌, ◌-◌, slice_index, refl, inl, inr, arith}
use Rattle.ffv1_reads.specs.Head.{frame_limit}
use Rattle.ffv1_reads.specs.declared.fault.FileFault.TheVariants as fault
use Rattle.ffv1_matroska.specs.Blocks.{fields_read, lacing_of}
use Rattle.ffv1_reads.proofs.Answered.{answers_differ, answers_equal, answers_err, answers_fault}
use Rattle.ffv1_reads.proofs.Answered.{answers_first, answers_given, answers_less, answers_most}
use Rattle.ffv1_reads.proofs.Answered.{answers_next, answers_ok, answers_refused}
use Rattle.ffv1_matroska.proofs.block.read_fields.Goals as goal

pub returns-then-left-lt3-clause-answer : goal.returns-then-left-lt3-clause-answer
unfolding fields_read
returns-then-left-lt3-clause-answer g c = answers_fault fault.Truncated
    (fields_read c.args.left c.args.place) (answers_less _ c.if-left-lt3.true
    (answers_refused _ (inr refl)))

pub returns-in_err-take_summed-clause-answer : goal.returns-in_err-take_summed-clause-answer
unfolding fields_read
returns-in_err-take_summed-clause-answer g c = answers_err _
    (fields_read c.args.left c.args.place) _ _ c.from_residual.ensures.1
    (answers_most _ c.if-left-lt3.false (answers_first _ _ c.in_err-take_summed.ensures.answer))

pub returns-then-fields-ne0-clause-answer : goal.returns-then-fields-ne0-clause-answer
unfolding fields_read
returns-then-fields-ne0-clause-answer g c =
    let laced : lacing_of (slice_index c.take_summed.new.buf 2) ≡ 0 → ⊥ = λ z. omega
    (arith, z, c.if-fields-ne0.true) in
    answers_fault fault.Laced (fields_read c.args.left c.args.place)
    (answers_most _ c.if-left-lt3.false (answers_next _ c.in_ok-take_summed.ensures.answer
    (answers_differ _ laced (answers_refused _ (inl refl)))))

pub returns-then-size-gt-FRAME_LIMIT-clause-answer : goal.returns-then-size-gt-FRAME_LIMIT-clause-answer
unfolding fields_read
returns-then-size-gt-FRAME_LIMIT-clause-answer g c =
    let plain : lacing_of (slice_index c.take_summed.new.buf 2) ≡ 0 = omega
    (arith, c.if-fields-ne0.false) in
    let long : frame_limit < c.args.left - 3 = omega (arith, c.if-size-gt-FRAME_LIMIT.true) in
    answers_fault fault.ChunkTooLong (fields_read c.args.left c.args.place)
    (answers_most _ c.if-left-lt3.false (answers_next _ c.in_ok-take_summed.ensures.answer
    (answers_equal _ plain (answers_less _ long (answers_refused _ (inl refl))))))

pub returns-then-size-eq0-clause-answer : goal.returns-then-size-eq0-clause-answer
unfolding fields_read
returns-then-size-eq0-clause-answer g c =
    let plain : lacing_of (slice_index c.take_summed.new.buf 2) ≡ 0 = omega
    (arith, c.if-fields-ne0.false) in
    let fits : c.args.left - 3 ≤ frame_limit = omega (arith, c.if-size-gt-FRAME_LIMIT.false) in
    let none : c.args.left - 3 ≡ 0 = omega (arith, c.if-size-eq0.true) in
    answers_fault fault.EmptyFrame (fields_read c.args.left c.args.place)
    (answers_most _ c.if-left-lt3.false (answers_next _ c.in_ok-take_summed.ensures.answer
    (answers_equal _ plain (answers_most _ fits (answers_equal _ none (answers_refused _
    (inl refl)))))))

pub returns-clause-answer : goal.returns-clause-answer
unfolding fields_read
returns-clause-answer g c =
    let plain : lacing_of (slice_index c.take_summed.new.buf 2) ≡ 0 = omega
    (arith, c.if-fields-ne0.false) in
    let fits : c.args.left - 3 ≤ frame_limit = omega (arith, c.if-size-gt-FRAME_LIMIT.false) in
    let some : c.args.left - 3 ≡ 0 → ⊥ = λ z. omega (arith, z, c.if-size-eq0.false) in
    rw (c.summed_at.ensures, c.number_of.ensures.value) (answers_ok (answers_most _ c.if-left-lt3.false
    (answers_next _ c.in_ok-take_summed.ensures.answer (answers_equal _ plain
    (answers_most _ fits (answers_differ _ some answers_given))))))
