-- Salvages the frames that are left as YUV4MPEG2.
use Rattle.std.proofs.Common.{◌∙◌, ap, refl}
use Rattle.ffv1_files.specs.Items.{course_of}
use Rattle.ffv1_record.specs.Accepted.{Accepted}
use Rattle.ffv1_video.specs.Faults.{of_codec}
use Rattle.ffv1_video.proofs.KeptLines.{zeros_kept}
use Rattle.ffv1_unpack.specs.Internal.Opens.{stream_of}
use Rattle.ffv1_unpack.proofs.PicturesWritten.{heads_of}
use Rattle.ffv1_unpack.proofs.SalvageSteps.{text_none, wants_memory}
use Rattle.ffv1_unpack.proofs.unpacking_all.salvage_text.Goals as goal

pub returns-in-Err-clause-err : goal.returns-in-Err-clause-err
returns-in-Err-clause-err g c =
    let s = stream_of c.args.player.now.reader c.args.player.now.decoder.accepted in
    wants_memory s c.args.player.now.reader.place (course_of c.args.player.now.reader)
    (g.R.ByteIn.remaining c.args.input.now) (g.L.ByteOut.contents c.args.lines.now)
    (g.W.ByteOut.contents c.args.output) (g.R.ByteIn.failures c.args.input.now)
    (g.L.ByteOut.failures c.args.lines.now) (g.W.ByteOut.failures c.args.output)
    c.from.result (text_none s) (c.from.ensures ∙ ap of_codec c.in-Err.ensures.err)

pub salvage_items-answer-requires-clause-ready : goal.salvage_items-answer-requires-clause-ready
salvage_items-answer-requires-clause-ready g c =
    let a = c.args.player.now.decoder.accepted in
    let heads = heads_of _ _ _ _ c.text_head.result c.head.ensures.value c.config-checked.ensures
    c.text_head.ensures in
    record {
      plain = c.requires.colour;
      deep = c.depth.ensures.value
          ∙ ap (λ (x : Accepted). x.configuration.depth) c.config-checked.ensures;
      heads = heads;
      keeps = zeros_kept a c.config-checked.result.now c.in-Ok.kept c.config-checked.ensures
          c.in-Ok.ensures.ok;
      is = refl;
    }

pub returns-in-Ok-clause-err : goal.returns-in-Ok-clause-err
returns-in-Ok-clause-err g c =
    rw c.into_inner.ensures c.salvage_items-answer.ensures.err
