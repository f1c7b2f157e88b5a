-- Decodes a payload without keeping its lines.
use Rattle.std.proofs.Common.{◌∙◌, refl, ap}
use Rattle.ffv1_record.specs.Accepted.{Accepted}
use Rattle.ffv1_slice.specs.Grid.{division_of}
use Rattle.ffv1_codec.specs.Kept.{Dropped, Drops, DropsNot}
use Rattle.ffv1_unpack.specs.Stream.{CodedFrame}
use Rattle.ffv1_unpack.proofs.FrameDecoded.{is_decided, is_faulty}
use Rattle.ffv1_unpack.proofs.picture_out.PpmWriterPictureOut.judge.Goals as goal

pub returns-in-Ok-clause-ok : goal.returns-in-Ok-clause-ok
returns-in-Ok-clause-ok g c =
    let a = c.args.decoder.now.accepted in
    let payload = c.args.payload.now in
    let tally = c.decode.new.self.tally in
    let info = c.in-Ok.info in
    let answer = c.in-Ok.ensures.exact in
    let found = c.answer_is_ok_for_coded_pictures.ensures.found a payload c.new-sink.result
    c.decode.new.sink tally info c.requires.accepted answer in
    let frame : CodedFrame = record {
      payload = payload;
      planes = found.0;
      said = info;
      tally = tally;
    } in
    let decided = is_decided Drops DropsNot a payload c.new-sink.result c.decode.new.sink tally
    info answer in
    (frame, record { codes = found.1; decided = decided }, refl, refl)

pub returns-in-Err-clause-err : goal.returns-in-Err-clause-err
returns-in-Err-clause-err g c = λ s fs same ready.
    let a = c.args.decoder.now.accepted in
    let payload = c.args.payload.now in
    let tally = c.decode.new.self.tally in
    let f = c.in-Err.fault in
    let answer = c.in-Err.ensures.exact in
    let grid = ap (λ (z : Dropped). z.grid) c.new-sink.ensures ∙
    ap (λ (z : Accepted). division_of z.configuration) c.config.ensures in
    let own = c.sinks_of_own_lines_refuse_none.ensures.dropped a payload c.new-sink.result
    c.decode.new.sink tally f c.requires.accepted answer grid in
    (tally, is_faulty Drops DropsNot a payload c.new-sink.result c.decode.new.sink tally f own answer)
