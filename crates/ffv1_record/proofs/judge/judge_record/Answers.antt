-- Whether the bytes are a record that is read, judged as a whole in no memory.
use Rattle.std.proofs.Common.{◌≡◌, ◌≤◌, ◌-◌, length, arith}
use Rattle.std.proofs.lemmas.Result.{err_from_is_err_and}
use Rattle.ffv1_range.specs.Codes.{AreBytes}
use Rattle.ffv1_record.specs.Record.{body_of}
use Rattle.ffv1_record.specs.Parity.{remainder_of}
use Rattle.ffv1_record.proofs.RecordIsRead.{taken_bytes}
use Rattle.ffv1_record.proofs.Judged.{not_judged, check_failed, nothing_refuses}
use Rattle.ffv1_record.proofs.judge.judge_record.Goals as goal

pub returns-in_err-outline-clause-refused : goal.returns-in_err-outline-clause-refused
returns-in_err-outline-clause-refused g c =
    let long : 5 ≤ length c.args.bytes.now = c.if-bytes-lt5.false in
    let whole : remainder_of c.args.bytes.now ≡ 0 =
    (c.parity_makes_the_remainder_zero.ensures.zero c.args.bytes.now
    (λ k. omega (arith, c.type_inv.bytes k))).0
    (omega (arith, c.parity.ensures, c.if-parity-ne0.false)) in
    let p = err_from_is_err_and c.from_residual-in_err-outline.result
    c.from_residual-in_err-outline.ensures.1 in
    rw (p.1, p.2) (not_judged c.args.profile _ c.args.bytes.now c.args.width c.args.height _ _ long
    whole c.in_ok-reader.ensures.ok _
    (rw c.deepest-greatest.ensures at c.in_err-outline.ensures.judges))

pub returns-clause-refused : goal.returns-clause-refused
returns-clause-refused g c =
    let long : 5 ≤ length c.args.bytes.now = c.if-bytes-lt5.false in
    let whole : remainder_of c.args.bytes.now ≡ 0 =
    (c.parity_makes_the_remainder_zero.ensures.zero c.args.bytes.now
    (λ k. omega (arith, c.type_inv.bytes k))).0
    (omega (arith, c.parity.ensures, c.if-parity-ne0.false)) in
    check_failed c.args.profile _ c.args.bytes.now c.args.width c.args.height _ _ long whole
    c.in_ok-reader.ensures.ok _
    (rw c.deepest-greatest.ensures at c.in_ok-outline.ensures.judges) _
    (rw c.deepest-greatest.ensures at c.in-Err.ensures.refused)

pub returns-in-Ok-clause-sound : goal.returns-in-Ok-clause-sound
returns-in-Ok-clause-sound g c =
    let long : 5 ≤ length c.args.bytes.now = c.if-bytes-lt5.false in
    let whole : remainder_of c.args.bytes.now ≡ 0 =
    (c.parity_makes_the_remainder_zero.ensures.zero c.args.bytes.now
    (λ k. omega (arith, c.type_inv.bytes k))).0
    (omega (arith, c.parity.ensures, c.if-parity-ne0.false)) in
    let are : AreBytes (body_of c.args.bytes.now) = taken_bytes c.args.bytes.now
    (length c.args.bytes.now - 4) (λ k. omega (arith, c.type_inv.bytes k)) in
    nothing_refuses c.args.profile _ c.args.bytes.now c.args.width c.args.height _ _ long whole
    c.in_ok-reader.ensures.ok _
    (rw c.deepest-greatest.ensures at c.in_ok-outline.ensures.judges) are
    c.in_ok-reader.ensures.start c.in-Ok.ensures.passes
