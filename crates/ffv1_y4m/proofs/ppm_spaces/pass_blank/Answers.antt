-- Passes white space and comments, and answers the first byte after them, which is among the next
-- `room`.
use Rattle.std.proofs.Common.{◌≡◌, ◌∙◌, ◌==◌, true, false, not, ap, sym, arith}
use Rattle.std.proofs.lemmas.Bool.{eq-eqb, ne_eqb}
use Rattle.std.proofs.lemmas.Result.{err_from_is_err_and}
use Rattle.ffv1_wire.specs.Failures.{one_more}
use Rattle.ffv1_y4m.specs.Spaces.{is_break, is_white}
use Rattle.ffv1_y4m.proofs.SpacesRead.{blank_ended, blank_failed, blank_over, blank_turn}
use Rattle.ffv1_y4m.proofs.SpacesRead.{blank_whole, comment_step, hash_step, white_step}
use Rattle.ffv1_y4m.proofs.ppm_spaces.pass_blank.Goals.{then-inside}
use Rattle.ffv1_y4m.proofs.ppm_spaces.pass_blank.Goals.{else-inside+then-not-is_white+else-byte-ne35}
use Rattle.ffv1_y4m.proofs.ppm_spaces.pass_blank.Goals.{else-inside+else-not-is_white}
use Rattle.ffv1_y4m.proofs.ppm_spaces.pass_blank.Goals as goal

pub returns-in_err-byte-clause-answer : goal.returns-in_err-byte-clause-answer
returns-in_err-byte-clause-answer g c =
    let p = err_from_is_err_and c.from_residual.result c.from_residual.ensures.1 in
    let inv = c.loop-place.invariant in
    rw (p.1, p.2) (blank_failed c.args.room c.loop-place._place c.loop-place.inside _ _ _ _ _
    (omega arith) inv.0 c.in_err-byte.ensures.err
    (c.in_err-byte.ensures.counted ∙ ap one_more inv.1))

pub returns-in_default-clause-answer : goal.returns-in_default-clause-answer
returns-in_default-clause-answer g c =
    let inv = c.loop-place.invariant in
    let ended = rw c.in_default.is at c.in_ok-byte.ensures.ok in
    blank_ended c.args.room c.loop-place._place c.loop-place.inside _ _ _ _ _ inv.0 ended.0 ended.1
    (c.in_ok-byte.ensures.counted ∙ inv.1)

pub returns-then-byte-ne35-clause-answer : goal.returns-then-byte-ne35-clause-answer
returns-then-byte-ne35-clause-answer g c =
    let inv = c.loop-place.invariant in
    let given = rw c.in-Some.is at c.in_ok-byte.ensures.ok in
    let walked = rw c.if-inside.false at inv.0 in
    let black : is_white c.in-Some.byte ≡ false = sym c.if-not-is_white.ensures in
    let other : (c.in-Some.byte == 35) ≡ false = ne_eqb c.in-Some.byte 35 c.if-byte-ne35.true in
    blank_whole c.args.room c.loop-place._place _ _ _ _ _ c.in-Some.byte (omega arith) walked given
    black other (c.in_ok-byte.ensures.counted ∙ inv.1)

pub loop-place-preserved : goal.loop-place-preserved
loop-place-preserved g c =
    let inv = c.loop-place.invariant in
    let given = rw c.in-Some.is at c.in_ok-byte.ensures.ok in
    let counted = c.in_ok-byte.ensures.counted ∙ inv.1 in
    let room = c.args.room in
    let place = c.loop-place._place in
    let byte = c.in-Some.byte in
    elim c.if-inside.branch [
      | then-inside w ↦
          let walked = rw w.if-inside.true at inv.0 in
          rw (w.inside-is, w.is_break-inside.ensures) (
            blank_turn room place true (not (is_break byte)) _ _ _ byte (omega arith) walked
                given (λ n behind. comment_step n byte behind),
            counted,
          )
      | else-inside+then-not-is_white+else-byte-ne35 w ↦
          let walked = rw w.if-inside.false at inv.0 in
          let hash : (byte == 35) ≡ true = eq-eqb byte 35 (omega (arith, w.if-byte-ne35.false)) in
          rw w.inside-is (
            blank_turn room place false true _ _ _ byte (omega arith) walked given
                (λ n behind. hash_step n byte behind (sym w.if-not-is_white.ensures) hash),
            counted,
          )
      | else-inside+else-not-is_white w ↦
          let walked = rw w.if-inside.false at inv.0 in
          rw (w.inside-is, w.if-inside.false) (
            blank_turn room place false false _ _ _ byte
                (omega arith) walked given (λ n behind. white_step n byte behind
                (sym w.if-not-is_white.ensures)),
            counted,
          )
    ]

pub returns-clause-answer : goal.returns-clause-answer
returns-clause-answer g c =
    let inv = c.loop-place.invariant in
    blank_over c.args.room c.loop-place._place c.loop-place.inside _ _ _ _ (omega arith) inv.0 inv.1
