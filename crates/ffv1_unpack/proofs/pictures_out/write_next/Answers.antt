-- Reads the next frame, decodes it, and writes its picture.
use Rattle.std.proofs.Common.{◌≡◌, Ok, Err, inl, inr, ap, sym, subst, ◌∙◌}
use Rattle.std.proofs.lemmas.Result.{err_from_is_err_and}
use Rattle.ffv1_wire.specs.Passage.{passage}
use Rattle.ffv1_record.specs.Accepted.{Accepted}
use Rattle.ffv1_codec.specs.Kept.{Keeps, KeepsNot, Kept}
use Rattle.ffv1_codec.specs.Picture.{Planes, planes_of}
use Rattle.ffv1_video.specs.KeptLines.{IsKeptFor}
use Rattle.ffv1_unpack.specs.Internal.PicturesOut.{NextStopsBy, RepeatsPicture}
use Rattle.ffv1_unpack.specs.Internal.PicturesOut.{WritesPicture, said_in}
use Rattle.ffv1_video.specs.Faults.{cause_of, of_avi}
use Rattle.ffv1_video.specs.Faults.Cause.{Content}
use Rattle.ffv1_unpack.specs.Stream.{Again, Coded, CodedFrame}
use Rattle.ffv1_unpack.proofs.FrameDecoded.{is_decided, is_faulty}
use Rattle.ffv1_unpack.specs.Told.{is_telling_fault}
use Rattle.ffv1_unpack.specs.Internal.Carried.{PlaysCarried}
use Rattle.ffv1_unpack.proofs.OwnFaults.{payload_tells}
use Rattle.ffv1_unpack.proofs.PicturesWritten.{decode_cause, file_stops, payload_stops}
use Rattle.ffv1_unpack.proofs.PicturesWritten.{again_stops, picture_stops}
use Rattle.ffv1_unpack.proofs.pictures_out.write_next.Goals as goal

pub returns-in_err-write_picture-in-Ok-Coded-clause-answer :
    goal.returns-in_err-write_picture-in-Ok-Coded-clause-answer
returns-in_err-write_picture-in-Ok-Coded-clause-answer g c =
    let p = err_from_is_err_and c.from_residual.result c.from_residual.ensures.1 in
    let a = c.args.player.now.decoder.accepted in
    let h = c.args.text.now.head in
    let first = said_in c.args.text.now.begun in
    let payload = c.play_carried.new.player.payload.items in
    let tally = c.play_carried.new.player.decoder.tally in
    let info = c.in-Ok-Coded.info in
    let f = c.in_err-write_picture-in-Ok-Coded.field-0.0 in
    let input = passage g.R.ByteIn.remaining g.R.ByteIn.failures c.args.input.now
    c.play_carried.new.input in
    let output = passage g.W.ByteOut.contents g.W.ByteOut.failures c.args.output.now
    c.write_picture.new.output in
    let answer = rw c.in-Ok-Coded.field-0-is at c.in-Ok-Coded.ensures.answer in
    let found = c.answer_is_ok_for_coded_pictures.ensures.found a payload c.args.kept.now
    c.play_carried.new.sink tally info c.requires.accepted answer.1 in
    let kept = c.kept_lines_make_up_the_picture.ensures.picture a found.0 c.args.kept.now
    c.play_carried.new.sink c.requires.accepted found.1.picture.fits c.requires.kept.grid
    c.requires.kept.planes found.2 in
    let planes : planes_of c.planes.result.now ≡ found.0 = sym c.planes.ensures.value ∙ kept.0 in
    let frame : CodedFrame = record {
      payload = payload;
      planes = found.0;
      said = info;
      tally = tally;
    } in
    let plays : PlaysCarried a c.args.carried.now.items c.args.player.now.reader.place c.play_carried.new.player.reader.place input
    (Coded frame) =
    record {
      is = record {
        codes = found.1;
        decided = is_decided Keeps KeepsNot a payload
            c.args.kept.now c.play_carried.new.sink tally info answer.1;
      };
      reads = answer.0;
    } in
    let depth = c.depth-depth.ensures.value ∙ ap (λ (x : Accepted). x.configuration.depth)
    c.config.ensures in
    let writes = subst (λ (z : Planes). WritesPicture a.configuration.depth h first info z output
    c.write_picture.new.text.begun (Err f)) planes
    (subst (λ n. WritesPicture n h first info (planes_of c.planes.result.now) output
    c.write_picture.new.text.begun (Err f)) depth
    c.in_err-write_picture-in-Ok-Coded.ensures.answer) in
    rw (p.1, p.2) (picture_stops a c.args.carried.now.items h c.args.text.now.begun c.args.kept.now.planes c.args.player.now.reader.place
    c.play_carried.new.player.reader.place input output c.write_picture.new.text.begun frame f plays
    writes)

pub returns-in_ok-write_picture-in-Ok-Coded-clause-answer :
    goal.returns-in_ok-write_picture-in-Ok-Coded-clause-answer
returns-in_ok-write_picture-in-Ok-Coded-clause-answer g c =
    let a = c.args.player.now.decoder.accepted in
    let h = c.args.text.now.head in
    let first = said_in c.args.text.now.begun in
    let payload = c.play_carried.new.player.payload.items in
    let tally = c.play_carried.new.player.decoder.tally in
    let info = c.in-Ok-Coded.info in
    let input = passage g.R.ByteIn.remaining g.R.ByteIn.failures c.args.input.now
    c.play_carried.new.input in
    let output = passage g.W.ByteOut.contents g.W.ByteOut.failures c.args.output.now
    c.write_picture.new.output in
    let answer = rw c.in-Ok-Coded.field-0-is at c.in-Ok-Coded.ensures.answer in
    let found = c.answer_is_ok_for_coded_pictures.ensures.found a payload c.args.kept.now
    c.play_carried.new.sink tally info c.requires.accepted answer.1 in
    let kept = c.kept_lines_make_up_the_picture.ensures.picture a found.0 c.args.kept.now
    c.play_carried.new.sink c.requires.accepted found.1.picture.fits c.requires.kept.grid
    c.requires.kept.planes found.2 in
    let planes : planes_of c.planes.result.now ≡ found.0 = sym c.planes.ensures.value ∙ kept.0 in
    let frame : CodedFrame = record {
      payload = payload;
      planes = found.0;
      said = info;
      tally = tally;
    } in
    let plays : PlaysCarried a c.args.carried.now.items c.args.player.now.reader.place c.play_carried.new.player.reader.place input
    (Coded frame) =
    record {
      is = record {
        codes = found.1;
        decided = is_decided Keeps KeepsNot a payload
            c.args.kept.now c.play_carried.new.sink tally info answer.1;
      };
      reads = answer.0;
    } in
    let depth = c.depth-depth.ensures.value ∙ ap (λ (x : Accepted). x.configuration.depth)
    c.config.ensures in
    let writes = subst (λ (z : Planes). WritesPicture a.configuration.depth h first info z output
    c.write_picture.new.text.begun (Ok tt)) planes
    (subst (λ n. WritesPicture n h first info (planes_of c.planes.result.now) output
    c.write_picture.new.text.begun (Ok tt)) depth
    c.in_ok-write_picture-in-Ok-Coded.ensures.answer) in (
      Coded frame,
      plays,
      writes.0,
      writes.1,
      writes.2,
      writes.3,
      ap (λ (z : Kept). z.planes) c.planes.follows.holds-at-none ∙ kept.0,
    )

pub returns-in_ok-write_picture-in-Ok-Coded-clause-kept :
    goal.returns-in_ok-write_picture-in-Ok-Coded-clause-kept
returns-in_ok-write_picture-in-Ok-Coded-clause-kept g c =
    let a = c.args.player.now.decoder.accepted in
    let answer = rw c.in-Ok-Coded.field-0-is at c.in-Ok-Coded.ensures.answer in
    let found = c.answer_is_ok_for_coded_pictures.ensures.found a c.play_carried.new.player.payload.items
    c.args.kept.now c.play_carried.new.sink c.play_carried.new.player.decoder.tally c.in-Ok-Coded.info
    c.requires.accepted answer.1 in
    let kept = c.kept_lines_make_up_the_picture.ensures.picture a found.0 c.args.kept.now
    c.play_carried.new.sink c.requires.accepted found.1.picture.fits c.requires.kept.grid
    c.requires.kept.planes found.2 in
    let now : IsKeptFor a c.play_carried.new.sink = record {
      grid = kept.1 ∙ c.requires.kept.grid;
      planes =
          c.planes.ensures.sizes;
    } in
    subst (IsKeptFor a) (sym c.planes.follows.holds-at-none) now

pub returns-in_err-repeat_picture-in-Ok-Again-clause-answer :
    goal.returns-in_err-repeat_picture-in-Ok-Again-clause-answer
returns-in_err-repeat_picture-in-Ok-Again-clause-answer g c =
    let p = err_from_is_err_and c.from_residual-in_err-repeat_picture-in-Ok-Again.result
    c.from_residual-in_err-repeat_picture-in-Ok-Again.ensures.1 in
    let a = c.args.player.now.decoder.accepted in
    let h = c.args.text.now.head in
    let begun = c.args.text.now.begun in
    let f = c.in_err-repeat_picture-in-Ok-Again.field-0.0 in
    let input = passage g.R.ByteIn.remaining g.R.ByteIn.failures c.args.input.now
    c.play_carried.new.input in
    let output = passage g.W.ByteOut.contents g.W.ByteOut.failures c.args.output.now
    c.repeat_picture.new.output in
    let answer = rw c.in-Ok-Again.field-0-is at c.in-Ok-Again.ensures.answer in
    let planes : planes_of c.planes-in-Ok-Again.result.now ≡ c.args.kept.now.planes =
    sym c.planes-in-Ok-Again.ensures.value ∙ ap (λ (z : Kept). z.planes) answer.1 in
    let writes = subst (λ (z : Planes). RepeatsPicture a.configuration.depth h begun z output
    c.repeat_picture.new.text.begun (Err f)) planes
    (c.in_err-repeat_picture-in-Ok-Again.ensures.answer a.configuration.depth
    c.requires.begun) in
    rw (p.1, p.2) (again_stops a c.args.carried.now.items h begun c.args.kept.now.planes c.args.player.now.reader.place
    c.play_carried.new.player.reader.place input output c.repeat_picture.new.text.begun f
    (record { is = tt; reads = answer.0 }) writes)

pub returns-in_ok-repeat_picture-in-Ok-Again-clause-answer :
    goal.returns-in_ok-repeat_picture-in-Ok-Again-clause-answer
returns-in_ok-repeat_picture-in-Ok-Again-clause-answer g c =
    let a = c.args.player.now.decoder.accepted in
    let h = c.args.text.now.head in
    let begun = c.args.text.now.begun in
    let output = passage g.W.ByteOut.contents g.W.ByteOut.failures c.args.output.now
    c.repeat_picture.new.output in
    let answer = rw c.in-Ok-Again.field-0-is at c.in-Ok-Again.ensures.answer in
    let planes : planes_of c.planes-in-Ok-Again.result.now ≡ c.args.kept.now.planes =
    sym c.planes-in-Ok-Again.ensures.value ∙ ap (λ (z : Kept). z.planes) answer.1 in
    let writes = subst (λ (z : Planes). RepeatsPicture a.configuration.depth h begun z output
    c.repeat_picture.new.text.begun (Ok tt)) planes
    (c.in_ok-repeat_picture-in-Ok-Again.ensures.answer a.configuration.depth c.requires.begun) in (
      Again,
      record { is = tt; reads = answer.0 },
      tt,
      writes.0,
      writes.1,
      writes.2,
      ap (λ (z : Kept). z.planes) (c.planes-in-Ok-Again.follows.holds-at-none ∙ answer.1),
    )

pub returns-in_ok-repeat_picture-in-Ok-Again-clause-kept :
    goal.returns-in_ok-repeat_picture-in-Ok-Again-clause-kept
returns-in_ok-repeat_picture-in-Ok-Again-clause-kept g c =
    let answer = rw c.in-Ok-Again.field-0-is at c.in-Ok-Again.ensures.answer in
    subst (IsKeptFor c.args.player.now.decoder.accepted)
    (sym (c.planes-in-Ok-Again.follows.holds-at-none ∙ answer.1)) c.requires.kept

pub returns-in-Err-File-clause-answer : goal.returns-in-Err-File-clause-answer
returns-in-Err-File-clause-answer g c =
    let a = c.args.player.now.decoder.accepted in
    let h = c.args.text.now.head in
    let from = c.args.player.now.reader.place in
    let to = c.play_carried.new.player.reader.place in
    let f = of_avi c.in-Err-File.fault in
    let input = passage g.R.ByteIn.remaining g.R.ByteIn.failures c.args.input.now
    c.play_carried.new.input in
    let output = passage g.W.ByteOut.contents g.W.ByteOut.failures c.args.output.now
    c.args.output.now in
    let answer = rw c.in-Err-File.field-0-is at c.in-Err-File.ensures.answer in
    subst (λ z. NextStopsBy a c.args.carried.now.items h c.args.text.now.begun c.args.kept.now.planes from to input output z (cause_of z)) (sym c.from.ensures)
    (file_stops a c.args.carried.now.items h c.args.text.now.begun c.args.kept.now.planes from to input (g.W.ByteOut.contents c.args.output.now)
    (g.W.ByteOut.failures c.args.output.now) f (cause_of f) answer.0)

pub returns-in-Err-Payload-clause-answer : goal.returns-in-Err-Payload-clause-answer
returns-in-Err-Payload-clause-answer g c =
    let a = c.args.player.now.decoder.accepted in
    let payload = c.play_carried.new.player.payload.items in
    let tally = c.play_carried.new.player.decoder.tally in
    let f = c.in-Err-Payload.fault in
    let input = passage g.R.ByteIn.remaining g.R.ByteIn.failures c.args.input.now
    c.play_carried.new.input in
    let answer = rw c.in-Err-Payload.field-0-is at c.in-Err-Payload.ensures.answer in
    let own = c.sinks_of_own_lines_refuse_none.ensures.kept a payload c.args.kept.now
    c.play_carried.new.sink tally f c.requires.accepted answer.2 c.requires.kept.grid in
    let content = decode_cause f.fault (c.answered_fault_is_of_decoding.ensures a payload
    c.args.kept.now c.play_carried.new.sink tally f answer.2) own in
    let h = c.args.text.now.head in
    let is = c.from-in-Err-Payload.ensures in
    payload_stops a c.args.carried.now.items h c.args.text.now.begun c.args.kept.now.planes c.args.player.now.reader.place c.play_carried.new.player.reader.place input
    (g.W.ByteOut.contents c.args.output.now) (g.W.ByteOut.failures c.args.output.now)
    c.from-in-Err-Payload.result (record {
      payload = payload;
      fault = f;
      tally = tally;
      reads = answer.0;
      faulty = record {
        some = answer.1;
        faulty = is_faulty Keeps KeepsNot a payload c.args.kept.now c.play_carried.new.sink tally f own
            answer.2;
      };
      is = is;
      content = subst (λ z. cause_of z ≡ Content) (sym is) content;
    })

pub returns-in-Err-Payload-clause-own : goal.returns-in-Err-Payload-clause-own
returns-in-Err-Payload-clause-own g c =
    let a = c.args.player.now.decoder.accepted in
    let payload = c.play_carried.new.player.payload.items in
    let tally = c.play_carried.new.player.decoder.tally in
    let f = c.in-Err-Payload.fault in
    let answer = rw c.in-Err-Payload.field-0-is at c.in-Err-Payload.ensures.answer in
    let own = c.sinks_of_own_lines_refuse_none.ensures.kept a payload c.args.kept.now
    c.play_carried.new.sink tally f c.requires.accepted answer.2 c.requires.kept.grid in
    let decode = c.answered_fault_is_of_decoding.ensures a payload c.args.kept.now c.play_carried.new.sink
    tally f answer.2 in
    inl (inr (inl (ap is_telling_fault c.from-in-Err-Payload.ensures ∙ payload_tells f.fault decode
    own)))
