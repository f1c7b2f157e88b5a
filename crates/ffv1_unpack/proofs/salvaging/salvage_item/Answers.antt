-- Salvages the next item of a file.
use Rattle.std.proofs.Common.{ap, inl, inr, sym, subst, ◌∙◌}
use Rattle.std.proofs.lemmas.Result.{err_from_is_err_and}
use Rattle.ffv1_wire.specs.Passage.{passage}
use Rattle.ffv1_files.specs.Answers.{ReadsAs}
use Rattle.ffv1_files.specs.Items.{item_of, item_read}
use Rattle.ffv1_video.proofs.Output.{silent}
use Rattle.ffv1_unpack.specs.Internal.JudgedItems.{told_counted}
use Rattle.ffv1_unpack.specs.JudgedItems.{OfFrame, ToldAt}
use Rattle.ffv1_unpack.proofs.ItemsJudged.{line_own}
use Rattle.ffv1_unpack.proofs.PicturesPut.{puts_none}
use Rattle.ffv1_unpack.proofs.SalvageLists.{stands_told}
use Rattle.ffv1_unpack.proofs.SalvageSteps.{frame_given, told_given}
use Rattle.ffv1_unpack.proofs.salvaging.salvage_item.Goals as goal

pub returns-in-Err-clause-answer : goal.returns-in-Err-clause-answer
returns-in-Err-clause-answer g c = λ s before same kind text are stands ready held.
    inl (
      c.in-Err.ensures.err,
      silent (g.L.ByteOut.contents c.args.lines.now) (g.L.ByteOut.failures c.args.lines.now),
      silent (g.P.PictureOut.contents c.args.output.now)
          (g.P.PictureOut.failures c.args.output.now),
    )

pub returns-in-End-clause-answer : goal.returns-in-End-clause-answer
returns-in-End-clause-answer g c = λ s before same kind text are stands ready held.
    let from = c.args.player.now.reader.place in
    let to = c.read_item.new.player.reader.place in
    let course = c.args.salvage.now.course in
    let next = c.read_item.new.course in
    let reading = passage g.R.ByteIn.remaining g.R.ByteIn.failures c.args.input.now
    c.read_item.new.input in
    let read = subst (λ z. ReadsAs (item_read from course) reading
    (item_of z c.read_item.new.player.payload.items to next)) c.in-End.is
    c.in-Ok.ensures.ok in (
      read.0,
      read.1,
      silent (g.L.ByteOut.contents c.args.lines.now) (g.L.ByteOut.failures c.args.lines.now),
      silent (g.P.PictureOut.contents c.args.output.now)
          (g.P.PictureOut.failures c.args.output.now),
      stands,
    )

pub returns-in_err-salvage_frame-in-Frame-clause-answer :
    goal.returns-in_err-salvage_frame-in-Frame-clause-answer
returns-in_err-salvage_frame-in-Frame-clause-answer g c =
    λ s before same kind text are stands ready held.
    let p = err_from_is_err_and c.from_residual.result c.from_residual.ensures.1 in
    let from = c.args.player.now.reader.place in
    let to = c.read_item.new.player.reader.place in
    let course = c.args.salvage.now.course in
    let next = c.read_item.new.course in
    let reading = passage g.R.ByteIn.remaining g.R.ByteIn.failures c.args.input.now
    c.read_item.new.input in
    let bytes = c.read_item.new.player.payload.items in
    let read = subst (λ z. ReadsAs (item_read from course) reading
    (item_of z bytes to next)) c.in-Frame.is c.in-Ok.ensures.ok in
    let done = c.in_err-salvage_frame-in-Frame.ensures.answer s before
    (same ∙ sym (ap (λ z. z.accepted) c.read_item.ensures.same)) kind text are stands ready held in
    rw (p.1, p.2, c.salvage_frame.ensures.reader, c.salvage_frame.ensures.course)
    (inr (
      OfFrame done.0,
      frame_given to course next bytes reading s from read done.0 done.1.is done.1.of,
      done.2,
    ))

pub returns-in_ok-salvage_frame-in-Frame-clause-answer :
    goal.returns-in_ok-salvage_frame-in-Frame-clause-answer
returns-in_ok-salvage_frame-in-Frame-clause-answer g c =
    λ s before same kind text are stands ready held.
    let from = c.args.player.now.reader.place in
    let to = c.read_item.new.player.reader.place in
    let course = c.args.salvage.now.course in
    let next = c.read_item.new.course in
    let reading = passage g.R.ByteIn.remaining g.R.ByteIn.failures c.args.input.now
    c.read_item.new.input in
    let bytes = c.read_item.new.player.payload.items in
    let read = subst (λ z. ReadsAs (item_read from course) reading
    (item_of z bytes to next)) c.in-Frame.is c.in-Ok.ensures.ok in
    let done = c.in_ok-salvage_frame-in-Frame.ensures.answer s before
    (same ∙ sym (ap (λ z. z.accepted) c.read_item.ensures.same)) kind text are stands ready held in
    rw (c.salvage_frame.ensures.reader, c.salvage_frame.ensures.course) (
      OfFrame done.0,
      frame_given to course next bytes reading s from read done.0 done.1.is done.1.of,
      done.2,
      done.3,
    )

pub returns-in_err-write_told-in-Told-clause-answer :
    goal.returns-in_err-write_told-in-Told-clause-answer
returns-in_err-write_told-in-Told-clause-answer g c =
    λ s before same kind text are stands ready held.
    let p = err_from_is_err_and c.from_residual-in_err-write_told-in-Told.result
    c.from_residual-in_err-write_told-in-Told.ensures.1 in
    let from = c.args.player.now.reader.place in
    let to = c.read_item.new.player.reader.place in
    let course = c.args.salvage.now.course in
    let next = c.read_item.new.course in
    let reading = passage g.R.ByteIn.remaining g.R.ByteIn.failures c.args.input.now
    c.read_item.new.input in
    let bytes = c.read_item.new.player.payload.items in
    let read = subst (λ z. ReadsAs (item_read from course) reading
    (item_of z bytes to next)) c.in-Told.is c.in-Ok.ensures.ok in
    rw (p.1, p.2)
    (inr (
      ToldAt c.in-Told.fault c.in-Told.offset,
      told_given to course next bytes reading s from c.in-Told.fault c.in-Told.offset read,
      inl (
        c.in_err-write_told-in-Told.ensures,
        silent (g.P.PictureOut.contents c.args.output.now)
            (g.P.PictureOut.failures c.args.output.now),
      ),
    ))

pub returns-in_err-write_told-in-Told-clause-own : goal.returns-in_err-write_told-in-Told-clause-own
returns-in_err-write_told-in-Told-clause-own g c =
    let p = err_from_is_err_and c.from_residual-in_err-write_told-in-Told.result
    c.from_residual-in_err-write_told-in-Told.ensures.1 in
    rw (p.1, p.2) (inl (line_own _ _ _ c.in_err-write_told-in-Told.ensures))

pub returns-in_ok-write_told-in-Told-clause-answer :
    goal.returns-in_ok-write_told-in-Told-clause-answer
returns-in_ok-write_told-in-Told-clause-answer g c =
    λ s before same kind text are stands ready held.
    let from = c.args.player.now.reader.place in
    let to = c.read_item.new.player.reader.place in
    let course = c.args.salvage.now.course in
    let next = c.read_item.new.course in
    let reading = passage g.R.ByteIn.remaining g.R.ByteIn.failures c.args.input.now
    c.read_item.new.input in
    let bytes = c.read_item.new.player.payload.items in
    let read = subst (λ z. ReadsAs (item_read from course) reading
    (item_of z bytes to next)) c.in-Told.is c.in-Ok.ensures.ok in
    let writes = c.in_ok-write_told-in-Told.ensures in
    let old = c.args.salvage.now in (
      ToldAt c.in-Told.fault c.in-Told.offset,
      told_given to course next bytes reading s from c.in-Told.fault c.in-Told.offset read,
      (
        writes.0,
        writes.1,
        puts_none g.P.PictureOut.ready s _ (g.P.PictureOut.contents c.args.output.now)
            (g.P.PictureOut.failures c.args.output.now) c.args.output.now ready,
      ),
      stands_told s before old.counts c.tell.new.self old.header old.last.items stands
          c.in-Told.fault c.in-Told.offset
          (c.tell.ensures ∙ ap (told_counted old.counts) c.from.ensures),
    )

pub returns-in_ok-salvage_frame-in-Frame-clause-reached :
    goal.returns-in_ok-salvage_frame-in-Frame-clause-reached
returns-in_ok-salvage_frame-in-Frame-clause-reached g c = λ more avi.
    rw c.salvage_frame.ensures.reader (c.in-Ok.ensures.reached
    (λ e. let no = sym c.in-Frame.is ∙ e in cc) avi)

pub returns-in_ok-write_told-in-Told-clause-reached :
    goal.returns-in_ok-write_told-in-Told-clause-reached
returns-in_ok-write_told-in-Told-clause-reached g c = λ more avi.
    c.in-Ok.ensures.reached (λ e. let no = sym c.in-Told.is ∙ e in cc) avi

pub returns-in_ok-salvage_frame-in-Frame-clause-fits :
    goal.returns-in_ok-salvage_frame-in-Frame-clause-fits
returns-in_ok-salvage_frame-in-Frame-clause-fits g c = λ s fs same ready held.
    c.in_ok-salvage_frame-in-Frame.ensures.fits s fs
    (same ∙ sym (ap (λ z. z.accepted) c.read_item.ensures.same)) ready held

pub returns-in_ok-salvage_frame-in-Frame-clause-cued :
    goal.returns-in_ok-salvage_frame-in-Frame-clause-cued
returns-in_ok-salvage_frame-in-Frame-clause-cued g c =
    rw c.salvage_frame.ensures.cued c.in-Ok.ensures.cued

pub returns-in_ok-salvage_frame-in-Frame-clause-stays :
    goal.returns-in_ok-salvage_frame-in-Frame-clause-stays
returns-in_ok-salvage_frame-in-Frame-clause-stays g c = λ reads.
    c.salvage_frame.ensures.reader ∙ c.in-Ok.ensures.stays reads

pub returns-in-End-clause-ended : goal.returns-in-End-clause-ended
returns-in-End-clause-ended g c = λ none avi. c.in-Ok.ensures.ended c.in-End.is avi

pub returns-in-End-clause-fits : goal.returns-in-End-clause-fits
returns-in-End-clause-fits g c = λ s fs same ready held. held

pub returns-in_ok-write_told-in-Told-clause-fits : goal.returns-in_ok-write_told-in-Told-clause-fits
returns-in_ok-write_told-in-Told-clause-fits g c = λ s fs same ready held. held

pub returns-in_ok-write_told-in-Told-clause-cued : goal.returns-in_ok-write_told-in-Told-clause-cued
returns-in_ok-write_told-in-Told-clause-cued g c = c.in-Ok.ensures.cued

pub returns-in_ok-salvage_frame-in-Frame-clause-kept :
    goal.returns-in_ok-salvage_frame-in-Frame-clause-kept
returns-in_ok-salvage_frame-in-Frame-clause-kept g c =
    rw c.salvage_frame.ensures.course c.read_item.ensures.kind

pub returns-in-End-clause-over : goal.returns-in-End-clause-over
returns-in-End-clause-over g c = λ none avi. c.in-Ok.ensures.over c.in-End.is avi
