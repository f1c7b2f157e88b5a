-- Reads a word up to the next byte of white space, of which the first byte stands in `word`, and
-- answers how long it is.
use Rattle.std.proofs.Common.{◌≡◌, ◌∙◌, false, true, ap, sym, arith, length}
use Rattle.std.proofs.lemmas.Result.{err_from_is_err_and}
use Rattle.ffv1_wire.specs.Failures.{one_more}
use Rattle.ffv1_y4m.specs.Spaces.{is_white}
use Rattle.ffv1_y4m.proofs.SpacesRead.{word_ended, word_failed, word_over, word_turn, word_whole}
use Rattle.ffv1_y4m.proofs.ppm_spaces.read_word.Goals as goal

pub returns-in_err-byte-clause-answer : goal.returns-in_err-byte-clause-answer
returns-in_err-byte-clause-answer g c =
    let p = err_from_is_err_and c.from_residual.result c.from_residual.ensures.1 in
    let inv = c.loop-len.invariant in
    rw (p.1, p.2) (word_failed (length c.loop-len.word) c.loop-len.len _ _ _ _ _ _ _ (omega arith)
    inv.0 c.in_err-byte.ensures.err (c.in_err-byte.ensures.counted ∙ ap one_more inv.1))

pub returns-in_default-clause-answer : goal.returns-in_default-clause-answer
returns-in_default-clause-answer g c =
    let inv = c.loop-len.invariant in
    let ended = rw c.in_default.is at c.in_ok-byte.ensures.ok in
    word_ended (length c.loop-len.word) c.loop-len.len _ _ _ _ _ _ _ inv.0 ended.0 ended.1
    (c.in_ok-byte.ensures.counted ∙ inv.1)

pub returns-then-is_white-clause-answer : goal.returns-then-is_white-clause-answer
returns-then-is_white-clause-answer g c =
    let inv = c.loop-len.invariant in
    let given = rw c.in-Some.is at c.in_ok-byte.ensures.ok in
    let white : is_white c.in-Some.byte ≡ true = sym c.if-is_white.ensures in
    word_whole (length c.loop-len.word) c.loop-len.len _ _ _ _ _ _ _ c.in-Some.byte (omega arith)
    inv.0 given white (c.in_ok-byte.ensures.counted ∙ inv.1)

pub loop-len-preserved : goal.loop-len-preserved
loop-len-preserved g c =
    let inv = c.loop-len.invariant in
    let given = rw c.in-Some.is at c.in_ok-byte.ensures.ok in
    let black : is_white c.in-Some.byte ≡ false = sym c.if-is_white.ensures in (
      word_turn c.loop-len.word c.loop-len.len _ _ _ _ c.in-Some.byte (omega arith) inv.0 given
          black,
      c.in_ok-byte.ensures.counted ∙ inv.1,
    )

pub returns-clause-answer : goal.returns-clause-answer
returns-clause-answer g c =
    let inv = c.loop-len.invariant in
    word_over (length c.loop-len.word) c.loop-len.len _ _ _ _ _ _ (omega arith) inv.0 inv.1
