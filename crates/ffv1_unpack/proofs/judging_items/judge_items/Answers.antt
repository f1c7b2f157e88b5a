-- Judges all items that are left, and writes the lines of each as soon as it is judged.
use Rattle.std.proofs.Common.{◌≡◌, ◌-◌, ◌+◌, suc, None, Some, ap, refl, ◌∙◌, arith}
use Rattle.std.proofs.lemmas.Result.{err_from_is_err_and}
use Rattle.ffv1_range.specs.Counts.{saturated}
use Rattle.ffv1_files.specs.Items.{course_of}
use Rattle.ffv1_files.specs.Places.{container_of}
use Rattle.ffv1_files.specs.Readers.{Standing}
use Rattle.ffv1_video.specs.Faults.{cause_of}
use Rattle.ffv1_matroska.proofs.CuedTurns.{cued_begins, cued_told}
use Rattle.ffv1_unpack.specs.ItemsEnd.{course_left, cued_left}
use Rattle.ffv1_unpack.specs.JudgedItems.{given_as}
use Rattle.ffv1_unpack.proofs.ItemsCued.{cued_came, cued_many}
use Rattle.ffv1_unpack.proofs.ItemsCourse.{course_begins, course_came, course_many, course_over}
use Rattle.ffv1_unpack.proofs.ItemsJudged.{so_more, so_none, so_stops}
use Rattle.ffv1_unpack.proofs.judging_items.judge_items.Goals as goal

pub loop-item-init : goal.loop-item-init
unfolding cued_left course_left
loop-item-init g c =
    let none : 0 ≡ saturated 0 = omega arith in
    rw c.course.ensures (
      refl,
      refl,
      so_none c.args.place c.args.player.now.decoder.accepted c.args.player.now.reader.place
          (course_of c.args.player.now.reader) (g.R.ByteIn.remaining c.args.input.now)
          (g.W.ByteOut.contents c.args.output.now) (g.R.ByteIn.failures c.args.input.now)
          (g.W.ByteOut.failures c.args.output.now) _
          (record { frames = none; faults = none; first = refl }),
      cued_begins (cued_left c.args.player.now.reader.place (course_of c.args.player.now.reader)
          c.args.player.now.cued) _,
      c.requires.reads,
      (λ avi. course_begins (course_left c.args.player.now.reader.place
          (course_of c.args.player.now.reader)) _),
    )

pub returns-in_err-judge_item-clause-err : goal.returns-in_err-judge_item-clause-err
returns-in_err-judge_item-clause-err g c =
    let p = err_from_is_err_and c.from_residual.result c.from_residual.ensures.1 in
    let a = c.args.player.now.decoder.accepted in
    let from = c.args.player.now.reader.place in
    let course = course_of c.args.player.now.reader in
    let at = c.loop-item.judging.course in
    let next = c.judge_item.new.judging.course in
    let counts = c.loop-item.judging.counts in
    let reader = c.loop-item.invariant.0 in
    let accepted = c.loop-item.invariant.1 in
    let so = c.loop-item.invariant.2 in
    let last = c.judge_item.new.player.reader.place in
    let answer = rw (reader, accepted) at c.in_err-judge_item.ensures.answer in
    rw (p.1, p.2)
    (so_stops c.args.place a from from last course at next c.loop-item._item counts
    (g.R.ByteIn.remaining c.args.input.now) (g.R.ByteIn.remaining c.loop-item.input)
    (g.R.ByteIn.remaining c.judge_item.new.input)
    (g.W.ByteOut.contents c.args.output.now) (g.W.ByteOut.contents c.loop-item.output)
    (g.W.ByteOut.contents c.judge_item.new.output)
    (g.R.ByteIn.failures c.args.input.now) (g.R.ByteIn.failures c.loop-item.input)
    (g.R.ByteIn.failures c.judge_item.new.input)
    (g.W.ByteOut.failures c.args.output.now) (g.W.ByteOut.failures c.loop-item.output)
    (g.W.ByteOut.failures c.judge_item.new.output) so
    (cause_of c.in_err-judge_item.field-0.0) answer)

pub loop-item-preserved : goal.loop-item-preserved
loop-item-preserved g c =
    let a = c.args.player.now.decoder.accepted in
    let from = c.args.player.now.reader.place in
    let course = course_of c.args.player.now.reader in
    let at = c.loop-item.judging.course in
    let next = c.judge_item.new.judging.course in
    let counts = c.loop-item.judging.counts in
    let reader = c.loop-item.invariant.0 in
    let accepted = c.loop-item.invariant.1 in
    let so = c.loop-item.invariant.2 in
    let last = c.judge_item.ensures.reader ∙ reader in
    let most = 18446744073709551615 - (c.loop-item._item + 1) in
    let left : 18446744073709551615 - c.loop-item._item ≡ suc most = omega
    (arith, c.loop-item-test.true) in
    let answer = rw (c.if-not-branch.false, last, reader, accepted) at
    c.in_ok-judge_item.ensures.answer in (
      last,
      c.judge_item.ensures.same ∙ accepted,
      so_more c.args.place a from from from course at next c.loop-item._item counts
          (g.R.ByteIn.remaining c.args.input.now) (g.R.ByteIn.remaining c.loop-item.input)
          (g.R.ByteIn.remaining c.judge_item.new.input)
          (g.W.ByteOut.contents c.args.output.now) (g.W.ByteOut.contents c.loop-item.output)
          (g.W.ByteOut.contents c.judge_item.new.output)
          (g.R.ByteIn.failures c.args.input.now) (g.R.ByteIn.failures c.loop-item.input)
          (g.R.ByteIn.failures c.judge_item.new.input)
          (g.W.ByteOut.failures c.args.output.now) (g.W.ByteOut.failures c.loop-item.output)
          (g.W.ByteOut.failures c.judge_item.new.output) so
          c.judge_item.new.judging.counts answer.0 answer.1 answer.2 answer.3 answer.4,
      cued_came (cued_left from course c.args.player.now.cued) most from at
          c.loop-item.player.cued _ (Some (given_as answer.0, from, next)) _ _ _
          (rw left at c.loop-item.invariant.3)
          (rw reader at c.in_ok-judge_item.ensures.cued) answer.1.next,
      c.in_ok-judge_item.ensures.kind,
      (λ avi. course_came (course_left from course) most from at _ from next _ _ _
          (rw left at (c.loop-item.invariant.5 avi)) answer.1.next),
    )

pub returns-then-not-branch-clause-cued : goal.returns-then-not-branch-clause-cued
returns-then-not-branch-clause-cued g c =
    let from = c.args.player.now.reader.place in
    let course = course_of c.args.player.now.reader in
    let at = c.loop-item.judging.course in
    let reader = c.loop-item.invariant.0 in
    let most = 18446744073709551615 - (c.loop-item._item + 1) in
    let left : 18446744073709551615 - c.loop-item._item ≡ suc most = omega
    (arith, c.loop-item-test.true) in
    let answer = rw (c.if-not-branch.true, reader) at c.in_ok-judge_item.ensures.answer in
    cued_told (cued_left from course c.args.player.now.cued) _ _ _
    (cued_came (cued_left from course c.args.player.now.cued) most from at
    c.loop-item.player.cued _ None _ _ _ (rw left at c.loop-item.invariant.3)
    (rw reader at c.in_ok-judge_item.ensures.cued) answer.1)

pub returns-clause-cued : goal.returns-clause-cued
returns-clause-cued g c =
    let left = 18446744073709551615 - c.loop-item._item in
    let none : left ≡ 0 = omega (arith, c.loop-item-test.false) in
    cued_many (cued_left c.args.player.now.reader.place (course_of c.args.player.now.reader)
    c.args.player.now.cued) left c.args.player.now.reader.place c.loop-item.judging.course
    c.loop-item.player.cued _ _ none c.loop-item.invariant.3

pub returns-then-not-branch-clause-reader : goal.returns-then-not-branch-clause-reader
returns-then-not-branch-clause-reader g c = c.judge_item.ensures.reader ∙ c.loop-item.invariant.0

pub returns-clause-reader : goal.returns-clause-reader
returns-clause-reader g c = c.loop-item.invariant.0

pub returns-then-not-branch-clause-course : goal.returns-then-not-branch-clause-course
returns-then-not-branch-clause-course g c = λ avi.
    (let from = c.args.player.now.reader.place in
    let course = course_of c.args.player.now.reader in
    let at = c.loop-item.judging.course in
    let next = c.judge_item.new.judging.course in
    let reader = c.loop-item.invariant.0 in
    let most = 18446744073709551615 - (c.loop-item._item + 1) in
    let left : 18446744073709551615 - c.loop-item._item ≡ suc most = omega
    (arith, c.loop-item-test.true) in
    let answer = rw (c.if-not-branch.true, reader) at c.in_ok-judge_item.ensures.answer in
    let over = c.in_ok-judge_item.ensures.over c.if-not-branch.true
    (ap (λ (z : Standing). container_of z.place) reader ∙ avi) in
    course_over (course_left from course) most from at next _ _ _
    (rw left at (c.loop-item.invariant.5 avi)) answer.1 over)

pub returns-clause-course : goal.returns-clause-course
returns-clause-course g c = λ avi.
    (let left = 18446744073709551615 - c.loop-item._item in
    let none : left ≡ 0 = omega (arith, c.loop-item-test.false) in
    course_many (course_left c.args.player.now.reader.place (course_of c.args.player.now.reader))
    left c.args.player.now.reader.place c.loop-item.judging.course _ _ none
    (c.loop-item.invariant.5 avi))
