-- Decodes all frames that are left into images, which are written row by row.
use Rattle.std.proofs.Common.{◌∙◌, ap}
use Rattle.ffv1_video.specs.Faults.{of_y4m}
use Rattle.ffv1_unpack.specs.Internal.Opens.{stream_of}
use Rattle.ffv1_unpack.proofs.ImagesSoFar.{images_lack}
use Rattle.ffv1_unpack.proofs.images_out.write_images.Goals as goal

pub returns-in-Err-clause-err : goal.returns-in-Err-clause-err
returns-in-Err-clause-err g c =
    rw c.in-Err.ensures.err.0
    (images_lack (stream_of c.args.player.now.reader c.args.player.now.decoder.accepted)
    c.requires.colour c.args.carried.now.items c.args.player.now.reader.place (g.R.ByteIn.remaining c.args.input.now)
    (g.W.ByteOut.contents c.args.output) (g.R.ByteIn.failures c.args.input.now)
    (g.W.ByteOut.failures c.args.output) c.from.result
    (c.from.ensures ∙ ap of_y4m c.in-Err.ensures.err.1))

pub returns-in-Ok-clause-err : goal.returns-in-Ok-clause-err
returns-in-Ok-clause-err g c =
    rw c.into_inner.ensures (rw c.in-Ok.ensures.ok at c.write_all_images-count.ensures.err)
