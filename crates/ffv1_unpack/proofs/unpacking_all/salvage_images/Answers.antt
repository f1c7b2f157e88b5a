-- Salvages the frames that are left as PPM.
use Rattle.std.proofs.Common.{◌∙◌, ap}
use Rattle.ffv1_files.specs.Items.{course_of}
use Rattle.ffv1_video.specs.Faults.{of_y4m}
use Rattle.ffv1_unpack.specs.Internal.Opens.{stream_of}
use Rattle.ffv1_unpack.proofs.SalvageSteps.{text_none, wants_memory}
use Rattle.ffv1_unpack.proofs.unpacking_all.salvage_images.Goals as goal

pub returns-in-Err-clause-err : goal.returns-in-Err-clause-err
returns-in-Err-clause-err g c =
    let s = stream_of c.args.player.now.reader c.args.player.now.decoder.accepted in
    rw c.in-Err.ensures.err.0
    (wants_memory s c.args.player.now.reader.place (course_of c.args.player.now.reader)
    (g.R.ByteIn.remaining c.args.input.now) (g.L.ByteOut.contents c.args.lines.now)
    (g.W.ByteOut.contents c.args.output) (g.R.ByteIn.failures c.args.input.now)
    (g.L.ByteOut.failures c.args.lines.now) (g.W.ByteOut.failures c.args.output)
    c.from.result (text_none s) (c.from.ensures ∙ ap of_y4m c.in-Err.ensures.err.1))

pub returns-in-Ok-clause-err : goal.returns-in-Ok-clause-err
returns-in-Ok-clause-err g c =
    rw c.into_inner.ensures (rw c.in-Ok.ensures.ok at c.salvage_items-answer.ensures.err)
