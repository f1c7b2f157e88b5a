-- Salvages all items of a file that are left.
use Rattle.std.proofs.Common.{◌≡◌, ◌^◌, ◌-◌, ◌+◌, suc, None, Some, refl, [], ◌∷◌, ◌++◌, sym, ◌∙◌}
use Rattle.std.proofs.Common.{arith, inl, inr, subst}
use Rattle.ffv1_matroska.proofs.CuedTurns.{cued_begins, cued_told}
use Rattle.ffv1_unpack.specs.ItemsEnd.{course_left, cued_left}
use Rattle.ffv1_unpack.specs.JudgedItems.{given_as}
use Rattle.ffv1_unpack.proofs.ItemsCued.{cued_came, cued_many}
use Rattle.ffv1_unpack.proofs.ItemsCourse.{course_begins, course_came, course_many, course_over}
use Rattle.ffv1_unpack.proofs.ItemsCourse.{plain_avi}
use Rattle.std.proofs.lemmas.Result.{err_from_is_err_and}
use Rattle.ffv1_wire.specs.Passage.{passage}
use Rattle.ffv1_files.specs.Items.{course_of}
use Rattle.ffv1_unpack.specs.Internal.Opens.{stream_of}
use Rattle.ffv1_unpack.specs.Salvaged.{shown}
use Rattle.ffv1_unpack.proofs.FramesInTurn.{counted_more}
use Rattle.ffv1_unpack.proofs.SalvageSteps.{none_yet, ready_more, salvage_stops, salvaged_many}
use Rattle.ffv1_unpack.proofs.SalvageSteps.{salvaged_more, salvaged_over}
use Rattle.ffv1_unpack.proofs.OwnFaults.{item_told}
use Rattle.ffv1_unpack.specs.Internal.Plainly.{is_plain}
use Rattle.ffv1_unpack.proofs.salvaging.salvage_items.Goals as goal

pub loop-item-init : goal.loop-item-init
unfolding cued_left course_left
loop-item-init g c =
    rw c.course.ensures (
      c.requires.sound,
      refl,
      refl,
      c.requires.kind,
      none_yet g.P.PictureOut.ready c.args.output.now
          (stream_of c.args.player.now.reader c.args.player.now.decoder.accepted)
          c.args.player.now.reader.place (course_of c.args.player.now.reader)
          (g.R.ByteIn.remaining c.args.input.now) (g.L.ByteOut.contents c.args.lines.now)
          (g.P.PictureOut.contents c.args.output.now) (g.R.ByteIn.failures c.args.input.now)
          (g.L.ByteOut.failures c.args.lines.now) (g.P.PictureOut.failures c.args.output.now) _ _
          refl refl refl c.requires.ready,
      (λ plain scope text stands. stands),
      (λ reads. refl),
      cued_begins (cued_left c.args.player.now.reader.place (course_of c.args.player.now.reader)
          c.args.player.now.cued) _,
      subst (λ z. g.P.PictureOut.fits (stream_of c.args.player.now.reader
          c.args.player.now.decoder.accepted) z c.args.output.now) (sym c.new.ensures.items)
          c.requires.fits,
      refl,
      (λ avi. course_begins (course_left c.args.player.now.reader.place
          (course_of c.args.player.now.reader)) _),
    )

pub returns-in_err-salvage_item-clause-err : goal.returns-in_err-salvage_item-clause-err
returns-in_err-salvage_item-clause-err g c =
    let p = err_from_is_err_and c.from_residual.result c.from_residual.ensures.1 in
    let s = stream_of c.args.player.now.reader c.args.player.now.decoder.accepted in
    let from = c.args.player.now.reader.place in
    let course = course_of c.args.player.now.reader in
    let i = c.loop-item.invariant in
    let to = i.4 in
    let place = c.loop-item.player.reader.place in
    let at = c.loop-item.salvage.course in
    let last = c.salvage_item.new.player.reader.place in
    let next = c.salvage_item.new.salvage.course in
    let answer = c.in_err-salvage_item.ensures.answer s to.xs (sym i.1) i.3 c.requires.text
    to.so.are to.stands to.ready_is i.8 in
    rw (p.1, p.2)
    (salvage_stops s from place last course at next
    (g.R.ByteIn.remaining c.args.input.now) (g.R.ByteIn.remaining c.loop-item.input)
    (g.R.ByteIn.remaining c.salvage_item.new.input)
    (g.L.ByteOut.contents c.args.lines.now) (g.L.ByteOut.contents c.loop-item.lines)
    (g.L.ByteOut.contents c.salvage_item.new.lines)
    (g.P.PictureOut.contents c.args.output.now) (g.P.PictureOut.contents c.loop-item.output)
    (g.P.PictureOut.contents c.salvage_item.new.output)
    (g.R.ByteIn.failures c.args.input.now) (g.R.ByteIn.failures c.loop-item.input)
    (g.R.ByteIn.failures c.salvage_item.new.input)
    (g.L.ByteOut.failures c.args.lines.now) (g.L.ByteOut.failures c.loop-item.lines)
    (g.L.ByteOut.failures c.salvage_item.new.lines)
    (g.P.PictureOut.failures c.args.output.now) (g.P.PictureOut.failures c.loop-item.output)
    (g.P.PictureOut.failures c.salvage_item.new.output) to.xs to.so
    g.P.PictureOut.ready c.salvage_item.new.output c.in_err-salvage_item.field-0.0
    c.salvage_item.new.salvage.counts c.salvage_item.new.salvage.header
    c.salvage_item.new.salvage.last.items answer)

pub returns-in_err-salvage_item-clause-own : goal.returns-in_err-salvage_item-clause-own
returns-in_err-salvage_item-clause-own g c =
    let p = err_from_is_err_and c.from_residual.result c.from_residual.ensures.1 in
    let i = c.loop-item.invariant in
    rw (p.1, p.2) (item_told c.args.player.now.reader c.loop-item.player.reader
    (passage g.R.ByteIn.remaining g.R.ByteIn.failures c.args.input.now c.loop-item.input)
    c.in_err-salvage_item.field-0.0 (is_plain c.loop-item.salvage.course) i.2
    (λ plain. i.5 (sym i.9 ∙ plain)) c.in_err-salvage_item.ensures.own)

pub loop-item-preserved : goal.loop-item-preserved
loop-item-preserved g c =
    let s = stream_of c.args.player.now.reader c.args.player.now.decoder.accepted in
    let from = c.args.player.now.reader.place in
    let course = course_of c.args.player.now.reader in
    let i = c.loop-item.invariant in
    let to = i.4 in
    let place = c.loop-item.player.reader.place in
    let at = c.loop-item.salvage.course in
    let last = c.salvage_item.new.player.reader.place in
    let next = c.salvage_item.new.salvage.course in
    let most = 18446744073709551615 - (c.loop-item._item + 1) in
    let left : 18446744073709551615 - c.loop-item._item ≡ suc most = omega
    (arith, c.loop-item-test.true) in
    let answer = rw c.if-not-branch.false at c.in_ok-salvage_item.ensures.answer s to.xs (sym i.1) i.3 c.requires.text
    to.so.are to.stands to.ready_is i.8 in (
      c.in_ok-salvage_item.ensures.sound,
      c.salvage_item.ensures.same ∙ i.1,
      c.salvage_item.ensures.container ∙ i.2,
      c.salvage_item.ensures.kind ∙ i.3,
      record {
        xs = to.xs ++ (answer.0 ∷ []);
        many = (let long = counted_more to.xs answer.0 in let many = to.many in omega (arith, long, many));
        so = salvaged_more s from place last course at next
            (g.R.ByteIn.remaining c.args.input.now) (g.R.ByteIn.remaining c.loop-item.input)
            (g.R.ByteIn.remaining c.salvage_item.new.input)
            (g.L.ByteOut.contents c.args.lines.now) (g.L.ByteOut.contents c.loop-item.lines)
            (g.L.ByteOut.contents c.salvage_item.new.lines)
            (g.P.PictureOut.contents c.args.output.now) (g.P.PictureOut.contents c.loop-item.output)
            (g.P.PictureOut.contents c.salvage_item.new.output)
            (g.R.ByteIn.failures c.args.input.now) (g.R.ByteIn.failures c.loop-item.input)
            (g.R.ByteIn.failures c.salvage_item.new.input)
            (g.L.ByteOut.failures c.args.lines.now) (g.L.ByteOut.failures c.loop-item.lines)
            (g.L.ByteOut.failures c.salvage_item.new.lines)
            (g.P.PictureOut.failures c.args.output.now) (g.P.PictureOut.failures c.loop-item.output)
            (g.P.PictureOut.failures c.salvage_item.new.output) to.xs to.so
            g.P.PictureOut.ready c.salvage_item.new.output answer.0 answer.1 answer.2;
        stands = answer.3;
        ready_is = ready_more s from place last course at next
            (g.R.ByteIn.remaining c.args.input.now) (g.R.ByteIn.remaining c.loop-item.input)
            (g.R.ByteIn.remaining c.salvage_item.new.input)
            (g.L.ByteOut.contents c.args.lines.now) (g.L.ByteOut.contents c.loop-item.lines)
            (g.L.ByteOut.contents c.salvage_item.new.lines)
            (g.P.PictureOut.contents c.args.output.now) (g.P.PictureOut.contents c.loop-item.output)
            (g.P.PictureOut.contents c.salvage_item.new.output)
            (g.R.ByteIn.failures c.args.input.now) (g.R.ByteIn.failures c.loop-item.input)
            (g.R.ByteIn.failures c.salvage_item.new.input)
            (g.L.ByteOut.failures c.args.lines.now) (g.L.ByteOut.failures c.loop-item.lines)
            (g.L.ByteOut.failures c.salvage_item.new.lines)
            (g.P.PictureOut.failures c.args.output.now) (g.P.PictureOut.failures c.loop-item.output)
            (g.P.PictureOut.failures c.salvage_item.new.output) to.xs to.so
            g.P.PictureOut.ready c.salvage_item.new.output answer.0 answer.2;
      },
      (λ plain scope text stands. c.in_ok-salvage_item.ensures.reached c.if-not-branch.false
          (i.9 ∙ plain) scope text (i.5 plain scope text stands)),
      (λ reads. c.in_ok-salvage_item.ensures.stays (i.9 ∙ reads) ∙ i.6 reads),
      cued_came (cued_left from course c.args.player.now.cued) most place at
          c.loop-item.player.cued _ (Some (given_as answer.0, last, next)) _ _ _
          (rw left at i.7) c.in_ok-salvage_item.ensures.cued answer.1.next,
      c.in_ok-salvage_item.ensures.fits s (shown to.xs) (sym i.1) to.ready_is i.8,
      c.in_ok-salvage_item.ensures.kept ∙ i.9,
      (λ avi. course_came (course_left from course) most place at _ last next _ _ _
          (rw left at (i.10 avi)) answer.1.next),
    )

pub returns-then-not-branch-clause-ok : goal.returns-then-not-branch-clause-ok
returns-then-not-branch-clause-ok g c =
    let s = stream_of c.args.player.now.reader c.args.player.now.decoder.accepted in
    let from = c.args.player.now.reader.place in
    let course = course_of c.args.player.now.reader in
    let i = c.loop-item.invariant in
    let to = i.4 in
    let place = c.loop-item.player.reader.place in
    let at = c.loop-item.salvage.course in
    let last = c.salvage_item.new.player.reader.place in
    let next = c.salvage_item.new.salvage.course in
    let answer = rw c.if-not-branch.true at c.in_ok-salvage_item.ensures.answer s to.xs (sym i.1)
    i.3 c.requires.text to.so.are to.stands to.ready_is i.8 in (
      to.xs,
      answer.4.counted,
      salvaged_over s from place last course at next
          (g.R.ByteIn.remaining c.args.input.now) (g.R.ByteIn.remaining c.loop-item.input)
          (g.R.ByteIn.remaining c.salvage_item.new.input)
          (g.L.ByteOut.contents c.args.lines.now) (g.L.ByteOut.contents c.loop-item.lines)
          (g.L.ByteOut.contents c.salvage_item.new.lines)
          (g.P.PictureOut.contents c.args.output.now) (g.P.PictureOut.contents c.loop-item.output)
          (g.P.PictureOut.contents c.salvage_item.new.output)
          (g.R.ByteIn.failures c.args.input.now) (g.R.ByteIn.failures c.loop-item.input)
          (g.R.ByteIn.failures c.salvage_item.new.input)
          (g.L.ByteOut.failures c.args.lines.now) (g.L.ByteOut.failures c.loop-item.lines)
          (g.L.ByteOut.failures c.salvage_item.new.lines)
          (g.P.PictureOut.failures c.args.output.now) (g.P.PictureOut.failures c.loop-item.output)
          (g.P.PictureOut.failures c.salvage_item.new.output) to.xs to.so
          g.P.PictureOut.ready c.salvage_item.new.output answer.0 answer.1 answer.2 answer.3,
      (λ plain. inl (λ scope text stands. c.in_ok-salvage_item.ensures.ended c.if-not-branch.true
          (i.9 ∙ plain) scope text (i.5 plain scope text stands))),
    )

pub returns-then-not-branch-clause-stays : goal.returns-then-not-branch-clause-stays
returns-then-not-branch-clause-stays g c =
    let i = c.loop-item.invariant in
    λ reads. c.in_ok-salvage_item.ensures.stays (i.9 ∙ reads) ∙ i.6 reads

pub returns-then-not-branch-clause-cued : goal.returns-then-not-branch-clause-cued
returns-then-not-branch-clause-cued g c =
    let from = c.args.player.now.reader.place in
    let course = course_of c.args.player.now.reader in
    let s = stream_of c.args.player.now.reader c.args.player.now.decoder.accepted in
    let i = c.loop-item.invariant in
    let to = i.4 in
    let most = 18446744073709551615 - (c.loop-item._item + 1) in
    let left : 18446744073709551615 - c.loop-item._item ≡ suc most = omega
    (arith, c.loop-item-test.true) in
    let answer = rw c.if-not-branch.true at c.in_ok-salvage_item.ensures.answer s to.xs (sym i.1)
    i.3 c.requires.text to.so.are to.stands to.ready_is i.8 in
    cued_told (cued_left from course c.args.player.now.cued) _ _ _
    (cued_came (cued_left from course c.args.player.now.cued) most c.loop-item.player.reader.place
    c.loop-item.salvage.course c.loop-item.player.cued _ None _ _ _ (rw left at i.7)
    c.in_ok-salvage_item.ensures.cued answer.1)

pub returns-clause-cued : goal.returns-clause-cued
returns-clause-cued g c =
    let none : 18446744073709551615 - c.loop-item._item ≡ 0 = omega
    (arith, c.loop-item-test.false) in
    cued_many (cued_left c.args.player.now.reader.place (course_of c.args.player.now.reader)
    c.args.player.now.cued) (18446744073709551615 - c.loop-item._item)
    c.loop-item.player.reader.place c.loop-item.salvage.course c.loop-item.player.cued _ _ none
    c.loop-item.invariant.7

pub returns-clause-ok : goal.returns-clause-ok
returns-clause-ok g c =
    let s = stream_of c.args.player.now.reader c.args.player.now.decoder.accepted in
    let to = c.loop-item.invariant.4 in
    let full : c.loop-item._item ≡ 2 ^ 64 - 1 = omega (arith, c.loop-item.auto._item-end, c.loop-item-test.false) in (
      to.xs,
      to.stands.counted,
      salvaged_many s c.args.player.now.reader.place c.loop-item.player.reader.place
          (course_of c.args.player.now.reader) c.loop-item.salvage.course
          (passage g.R.ByteIn.remaining g.R.ByteIn.failures c.args.input.now c.loop-item.input)
          (passage g.L.ByteOut.contents g.L.ByteOut.failures c.args.lines.now c.loop-item.lines)
          (passage g.P.PictureOut.contents g.P.PictureOut.failures c.args.output.now
          c.loop-item.output) to.xs to.so (to.many ∙ full),
      (λ plain. inr (to.many ∙ full)),
    )

pub returns-in_err-salvage_item-clause-container : goal.returns-in_err-salvage_item-clause-container
returns-in_err-salvage_item-clause-container g c =
    c.salvage_item.ensures.container ∙ c.loop-item.invariant.2

pub returns-then-not-branch-clause-container : goal.returns-then-not-branch-clause-container
returns-then-not-branch-clause-container g c =
    c.salvage_item.ensures.container ∙ c.loop-item.invariant.2

pub returns-clause-container : goal.returns-clause-container
returns-clause-container g c = c.loop-item.invariant.2

pub returns-clause-stays : goal.returns-clause-stays
returns-clause-stays g c = c.loop-item.invariant.6

pub salvage_item-requires-clause-plain : goal.salvage_item-requires-clause-plain
salvage_item-requires-clause-plain g c = λ plain.
    c.loop-item.invariant.2
    ∙ plain_avi c.args.player.now.reader.place c.args.player.now.reader.offset
    (sym c.loop-item.invariant.9 ∙ plain)

pub returns-then-not-branch-clause-course : goal.returns-then-not-branch-clause-course
returns-then-not-branch-clause-course g c = λ avi.
    (let from = c.args.player.now.reader.place in
    let course = course_of c.args.player.now.reader in
    let s = stream_of c.args.player.now.reader c.args.player.now.decoder.accepted in
    let i = c.loop-item.invariant in
    let to = i.4 in
    let most = 18446744073709551615 - (c.loop-item._item + 1) in
    let left : 18446744073709551615 - c.loop-item._item ≡ suc most = omega
    (arith, c.loop-item-test.true) in
    let answer = rw c.if-not-branch.true at c.in_ok-salvage_item.ensures.answer s to.xs (sym i.1)
    i.3 c.requires.text to.so.are to.stands to.ready_is i.8 in
    course_over (course_left from course) most c.loop-item.player.reader.place
    c.loop-item.salvage.course c.salvage_item.new.salvage.course _ _ _ (rw left at (i.10 avi))
    answer.1 (c.in_ok-salvage_item.ensures.over c.if-not-branch.true (i.2 ∙ avi)))

pub returns-then-not-branch-clause-kind : goal.returns-then-not-branch-clause-kind
returns-then-not-branch-clause-kind g c =
    c.in_ok-salvage_item.ensures.kept ∙ c.loop-item.invariant.9

pub returns-clause-course : goal.returns-clause-course
returns-clause-course g c = λ avi.
    (let none : 18446744073709551615 - c.loop-item._item ≡ 0 = omega
    (arith, c.loop-item-test.false) in
    course_many (course_left c.args.player.now.reader.place (course_of c.args.player.now.reader))
    (18446744073709551615 - c.loop-item._item) c.loop-item.player.reader.place
    c.loop-item.salvage.course _ _ none (c.loop-item.invariant.10 avi))

pub returns-clause-kind : goal.returns-clause-kind
returns-clause-kind g c = c.loop-item.invariant.9
