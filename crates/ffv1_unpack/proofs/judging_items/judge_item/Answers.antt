-- Judges the next item of a file that is read on, and writes its lines.
use Rattle.std.proofs.Common.{ap, subst, ◌∙◌}
use Rattle.std.proofs.lemmas.Result.{err_from_is_err_and}
use Rattle.ffv1_wire.specs.Passage.{passage}
use Rattle.ffv1_files.specs.Answers.{ReadsAs}
use Rattle.ffv1_files.specs.Items.{item_of, item_read}
use Rattle.ffv1_unpack.specs.JudgedItems.{OfFrame, ToldAt}
use Rattle.ffv1_unpack.specs.Internal.JudgedItems.{told_counted}
use Rattle.ffv1_unpack.proofs.ItemsJudged.{frame_comes, item_fails, item_own, line_fails}
use Rattle.ffv1_unpack.proofs.ItemsJudged.{told_comes}
use Rattle.ffv1_unpack.proofs.ItemsCourse.{kind_kept, plain_not}
use Rattle.ffv1_unpack.proofs.judging_items.judge_item.Goals as goal

pub returns-in-Err-clause-answer : goal.returns-in-Err-clause-answer
returns-in-Err-clause-answer g c =
    let from = c.args.player.now.reader.place in
    let a = c.args.player.now.decoder.accepted in
    let course = c.args.judging.now.course in
    let reading = passage g.R.ByteIn.remaining g.R.ByteIn.failures c.args.input.now
    c.next_item-next.new.input in
    rw c.from.ensures
    (item_fails c.args.place a c.args.judging.now.counts.frames from
    c.next_item-next.new.self.place course c.next_item-next.new.course reading
    (g.W.ByteOut.contents c.args.output.now) (g.W.ByteOut.failures c.args.output.now)
    c.requires.reads c.in-Err.fault (c.in-Err.ensures.answer c.requires.sound))

pub returns-in-Err-clause-own : goal.returns-in-Err-clause-own
returns-in-Err-clause-own g c =
    let from = c.args.player.now.reader.place in
    let reading = passage g.R.ByteIn.remaining g.R.ByteIn.failures c.args.input.now
    c.next_item-next.new.input in
    rw c.from.ensures
    (item_own from c.args.judging.now.course c.requires.reads reading c.in-Err.fault
    (c.in-Err.ensures.answer c.requires.sound))

pub returns-in_err-judge_payload-in-Frame-clause-answer :
    goal.returns-in_err-judge_payload-in-Frame-clause-answer
returns-in_err-judge_payload-in-Frame-clause-answer g c =
    let p = err_from_is_err_and c.from_residual.result c.from_residual.ensures.1 in
    let from = c.args.player.now.reader.place in
    let to = c.next_item-next.new.self.place in
    let a = c.args.player.now.decoder.accepted in
    let i = c.args.judging.now.counts.frames in
    let course = c.args.judging.now.course in
    let next = c.next_item-next.new.course in
    let reading = passage g.R.ByteIn.remaining g.R.ByteIn.failures c.args.input.now
    c.next_item-next.new.input in
    let writing = passage g.W.ByteOut.contents g.W.ByteOut.failures c.args.output.now
    c.judge_payload.new.output in
    let read = subst (λ z. ReadsAs (item_read from course) reading
    (item_of z c.next_item-next.new.frame.items to next)) c.in-Frame.is
    (c.in-Ok.ensures.answer c.requires.sound) in
    let judged = c.in_err-judge_payload-in-Frame.ensures.answer in
    rw (p.1, p.2, c.judge_payload.ensures.reader)
    (line_fails c.args.place a i from to course next reading writing (OfFrame judged.0)
    c.in_err-judge_payload-in-Frame.field-0.0
    (frame_comes c.args.place a i from to course next reading writing
    c.next_item-next.new.frame.items read judged.0 judged.1 judged.2) judged.3)

pub returns-in_err-judge_payload-in-Frame-clause-reader :
    goal.returns-in_err-judge_payload-in-Frame-clause-reader
returns-in_err-judge_payload-in-Frame-clause-reader g c =
    c.judge_payload.ensures.reader
    ∙ c.next_item-next.ensures.still (plain_not c.args.judging.now.course c.requires.reads)

pub returns-in_ok-judge_payload-in-Frame-clause-answer :
    goal.returns-in_ok-judge_payload-in-Frame-clause-answer
returns-in_ok-judge_payload-in-Frame-clause-answer g c =
    let from = c.args.player.now.reader.place in
    let to = c.next_item-next.new.self.place in
    let a = c.args.player.now.decoder.accepted in
    let i = c.args.judging.now.counts.frames in
    let course = c.args.judging.now.course in
    let next = c.next_item-next.new.course in
    let reading = passage g.R.ByteIn.remaining g.R.ByteIn.failures c.args.input.now
    c.next_item-next.new.input in
    let writing = passage g.W.ByteOut.contents g.W.ByteOut.failures c.args.output.now
    c.judge_payload.new.output in
    let read = subst (λ z. ReadsAs (item_read from course) reading
    (item_of z c.next_item-next.new.frame.items to next)) c.in-Frame.is
    (c.in-Ok.ensures.answer c.requires.sound) in
    let judged = c.in_ok-judge_payload-in-Frame.ensures.answer in
    rw c.judge_payload.ensures.reader (
      OfFrame judged.0,
      frame_comes c.args.place a i from to course next reading writing
          c.next_item-next.new.frame.items read judged.0 judged.1 judged.2,
      judged.3,
      judged.4,
      judged.5,
    )

pub returns-in_ok-judge_payload-in-Frame-clause-reader :
    goal.returns-in_ok-judge_payload-in-Frame-clause-reader
returns-in_ok-judge_payload-in-Frame-clause-reader g c =
    c.judge_payload.ensures.reader
    ∙ c.next_item-next.ensures.still (plain_not c.args.judging.now.course c.requires.reads)

pub returns-in_err-write_told-in-Told-clause-answer :
    goal.returns-in_err-write_told-in-Told-clause-answer
returns-in_err-write_told-in-Told-clause-answer g c =
    let p = err_from_is_err_and c.from_residual-in_err-write_told-in-Told.result
    c.from_residual-in_err-write_told-in-Told.ensures.1 in
    let from = c.args.player.now.reader.place in
    let to = c.next_item-next.new.self.place in
    let a = c.args.player.now.decoder.accepted in
    let i = c.args.judging.now.counts.frames in
    let course = c.args.judging.now.course in
    let next = c.next_item-next.new.course in
    let reading = passage g.R.ByteIn.remaining g.R.ByteIn.failures c.args.input.now
    c.next_item-next.new.input in
    let writing = passage g.W.ByteOut.contents g.W.ByteOut.failures c.args.output.now
    c.write_told.new.output in
    let read = subst (λ z. ReadsAs (item_read from course) reading
    (item_of z c.next_item-next.new.frame.items to next)) c.in-Told.is
    (c.in-Ok.ensures.answer c.requires.sound) in
    rw (p.1, p.2)
    (line_fails c.args.place a i from to course next reading writing
    (ToldAt c.in-Told.fault c.in-Told.offset) c.in_err-write_told-in-Told.field-0.0
    (told_comes c.args.place a i from to course next reading writing c.in-Told.fault
    c.in-Told.offset c.next_item-next.new.frame.items read)
    c.in_err-write_told-in-Told.ensures)

pub returns-in_ok-write_told-in-Told-clause-answer :
    goal.returns-in_ok-write_told-in-Told-clause-answer
returns-in_ok-write_told-in-Told-clause-answer g c =
    let from = c.args.player.now.reader.place in
    let to = c.next_item-next.new.self.place in
    let a = c.args.player.now.decoder.accepted in
    let i = c.args.judging.now.counts.frames in
    let course = c.args.judging.now.course in
    let next = c.next_item-next.new.course in
    let reading = passage g.R.ByteIn.remaining g.R.ByteIn.failures c.args.input.now
    c.next_item-next.new.input in
    let writing = passage g.W.ByteOut.contents g.W.ByteOut.failures c.args.output.now
    c.write_told.new.output in
    let read = subst (λ z. ReadsAs (item_read from course) reading
    (item_of z c.next_item-next.new.frame.items to next)) c.in-Told.is
    (c.in-Ok.ensures.answer c.requires.sound) in
    let writes = c.in_ok-write_told-in-Told.ensures in (
      ToldAt c.in-Told.fault c.in-Told.offset,
      told_comes c.args.place a i from to course next reading writing c.in-Told.fault
          c.in-Told.offset c.next_item-next.new.frame.items read,
      writes.0,
      writes.1,
      c.tell.ensures ∙ ap (told_counted c.args.judging.now.counts) c.from-in-Told.ensures,
    )

pub returns-in-End-clause-cued : goal.returns-in-End-clause-cued
returns-in-End-clause-cued g c = c.in-Ok.ensures.cued c.requires.sound

pub returns-in_ok-judge_payload-in-Frame-clause-cued :
    goal.returns-in_ok-judge_payload-in-Frame-clause-cued
returns-in_ok-judge_payload-in-Frame-clause-cued g c =
    rw c.judge_payload.ensures.cued (c.in-Ok.ensures.cued c.requires.sound)

pub returns-in_ok-write_told-in-Told-clause-cued : goal.returns-in_ok-write_told-in-Told-clause-cued
returns-in_ok-write_told-in-Told-clause-cued g c = c.in-Ok.ensures.cued c.requires.sound

pub returns-in-End-clause-reader : goal.returns-in-End-clause-reader
returns-in-End-clause-reader g c =
    c.next_item-next.ensures.still (plain_not c.args.judging.now.course c.requires.reads)

pub returns-in_ok-write_told-in-Told-clause-reader : goal.returns-in_ok-write_told-in-Told-clause-reader
returns-in_ok-write_told-in-Told-clause-reader g c =
    c.next_item-next.ensures.still (plain_not c.args.judging.now.course c.requires.reads)

pub returns-in_err-write_told-in-Told-clause-reader : goal.returns-in_err-write_told-in-Told-clause-reader
returns-in_err-write_told-in-Told-clause-reader g c =
    c.next_item-next.ensures.still (plain_not c.args.judging.now.course c.requires.reads)

pub returns-in-Err-clause-reader : goal.returns-in-Err-clause-reader
returns-in-Err-clause-reader g c =
    c.next_item-next.ensures.still (plain_not c.args.judging.now.course c.requires.reads)

pub returns-in-End-clause-kind : goal.returns-in-End-clause-kind
returns-in-End-clause-kind g c =
    kind_kept c.args.judging.now.course c.next_item-next.new.course c.requires.reads
    c.next_item-next.ensures.kind ∙ c.requires.reads

pub returns-in_ok-judge_payload-in-Frame-clause-kind : goal.returns-in_ok-judge_payload-in-Frame-clause-kind
returns-in_ok-judge_payload-in-Frame-clause-kind g c =
    kind_kept c.args.judging.now.course c.next_item-next.new.course c.requires.reads
    c.next_item-next.ensures.kind ∙ c.requires.reads

pub returns-in_ok-write_told-in-Told-clause-kind : goal.returns-in_ok-write_told-in-Told-clause-kind
returns-in_ok-write_told-in-Told-clause-kind g c =
    kind_kept c.args.judging.now.course c.next_item-next.new.course c.requires.reads
    c.next_item-next.ensures.kind ∙ c.requires.reads

pub returns-in-End-clause-over : goal.returns-in-End-clause-over
returns-in-End-clause-over g c = λ none avi.
    c.in-Ok.ensures.ended c.requires.sound avi c.in-End.is
