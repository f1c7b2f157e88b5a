-- Reads the next frame, decodes it, and writes the line of its picture.
use Rattle.std.proofs.Common.{◌≡◌, not, refl, Ok, Err, inl, inr, ap, sym, subst, ◌∙◌}
use Rattle.std.proofs.lemmas.Result.{err_from_is_err_and}
use Rattle.ffv1_wire.specs.Passage.{passage}
use Rattle.ffv1_record.specs.Accepted.{Accepted}
use Rattle.ffv1_record.specs.Configuration.{is_rct}
use Rattle.ffv1_codec.specs.Kept.{Keeps, KeepsNot}
use Rattle.ffv1_slice.specs.Grid.{Division, division_of}
use Rattle.ffv1_codec.specs.Picture.{AreOf, Planes, planes_of}
use Rattle.ffv1_video.specs.Faults.{cause_of, of_avi}
use Rattle.ffv1_video.specs.Faults.Cause.{Content}
use Rattle.ffv1_unpack.specs.Internal.FrameMd5.{frame_md5, headed_md5}
use Rattle.ffv1_video.specs.KeptLines.{IsKeptFor}
use Rattle.ffv1_unpack.specs.Internal.PicturesOut.{head_saying}
use Rattle.ffv1_unpack.specs.Internal.Plays.{OneStopsBy, PlaysFrame}
use Rattle.ffv1_unpack.specs.Stream.{Again, Coded, CodedFrame, IsFrame, frame_payload}
use Rattle.ffv1_video.specs.Output.{Silent}
use Rattle.ffv1_unpack.specs.Told.{is_telling_fault}
use Rattle.ffv1_unpack.specs.Internal.Told.{WritesFrame}
use Rattle.ffv1_unpack.proofs.FrameDecoded.{is_decided, is_faulty}
use Rattle.ffv1_unpack.proofs.FramesPlayed.{file_stops, line_stops}
use Rattle.ffv1_unpack.proofs.OwnFaults.{payload_tells}
use Rattle.ffv1_unpack.proofs.PicturesWritten.{decode_cause}
use Rattle.std.proofs.KnownBytes.{Appends-nil}
use Rattle.ffv1_video.proofs.Output.{silent}
use Rattle.ffv1_unpack.proofs.hashing.write_next.Goals as goal

pub write_picture-requires : goal.write_picture-requires
write_picture-requires g c =
    let a = c.args.player.now.decoder.accepted in
    let sink = c.play.new.sink in
    let answer = rw c.in-Ok-Coded.field-0-is at c.in-Ok-Coded.ensures.answer in
    let found = c.answer_is_ok_for_coded_pictures.ensures.found a c.play.new.player.payload.items
    c.args.kept.now sink c.play.new.player.decoder.tally c.in-Ok-Coded.info c.requires.accepted
    answer.1 in
    let kept = c.kept_lines_make_up_the_picture.ensures.picture a found.0 c.args.kept.now sink
    c.requires.accepted found.1.picture.fits c.requires.kept.grid c.requires.kept.planes
    found.2 in
    let same : c.config-checked.result.now ≡ a = c.config-checked.ensures ∙ c.play.ensures.same in
    let grid : sink.grid ≡ division_of c.config-checked.result.now.configuration = kept.1 ∙
    c.requires.kept.grid ∙ ap (λ (x : Accepted). division_of x.configuration) (sym same) in
    subst (AreOf (division_of c.config-checked.result.now.configuration)) c.planes.ensures.value
    (subst (λ (d : Division). AreOf d sink.planes) grid c.planes.ensures.sizes)

pub returns-in_err-write_picture-in-Ok-Coded-clause-answer :
    goal.returns-in_err-write_picture-in-Ok-Coded-clause-answer
returns-in_err-write_picture-in-Ok-Coded-clause-answer g c =
    let p = err_from_is_err_and c.from_residual.result c.from_residual.ensures.1 in
    let a = c.args.player.now.decoder.accepted in
    let h = c.args.lines.now.head in
    let payload = c.play.new.player.payload.items in
    let tally = c.play.new.player.decoder.tally in
    let info = c.in-Ok-Coded.info in
    let f = c.in_err-write_picture-in-Ok-Coded.field-0.0 in
    let input = passage g.R.ByteIn.remaining g.R.ByteIn.failures c.args.input.now
    c.play.new.input in
    let output = passage g.W.ByteOut.contents g.W.ByteOut.failures c.args.output.now
    c.write_picture.new.output in
    let answer = rw c.in-Ok-Coded.field-0-is at c.in-Ok-Coded.ensures.answer in
    let found = c.answer_is_ok_for_coded_pictures.ensures.found a payload c.args.kept.now
    c.play.new.sink tally info c.requires.accepted answer.1 in
    let kept = c.kept_lines_make_up_the_picture.ensures.picture a found.0 c.args.kept.now
    c.play.new.sink c.requires.accepted found.1.picture.fits c.requires.kept.grid
    c.requires.kept.planes found.2 in
    let planes : planes_of c.planes.result.now ≡ found.0 = sym c.planes.ensures.value ∙ kept.0 in
    let frame : CodedFrame = record {
      payload = payload;
      planes = found.0;
      said = info;
      tally = tally;
    } in
    let plays : PlaysFrame a c.args.player.now.reader.place c.play.new.player.reader.place input
    (Coded frame) =
    record {
      is = record {
        codes = found.1;
        decided = is_decided Keeps KeepsNot a payload
            c.args.kept.now c.play.new.sink tally info answer.1;
      };
      reads = answer.0;
    } in
    let same : c.config-checked.result.now ≡ a = c.config-checked.ensures ∙ c.play.ensures.same in
    let writes = subst (λ (z : Planes). WritesFrame
    (headed_md5 (is_rct a.configuration.colour) a.configuration.depth (head_saying h info)
    (not c.args.lines.now.begun) c.args.number z) output (Err f)) planes
    (subst (λ (x : Accepted). WritesFrame (headed_md5 (is_rct x.configuration.colour)
    x.configuration.depth (head_saying h info) (not c.args.lines.now.begun) c.args.number (planes_of c.planes.result.now))
    output (Err f)) same
    c.in_err-write_picture-in-Ok-Coded.ensures.answer) in
    rw (p.1, p.2)
    (inr (line_stops (IsFrame a) frame_payload (frame_md5 a h (not c.args.lines.now.begun) c.args.number) (λ z. Silent output)
    c.args.player.now.reader.place c.play.new.player.reader.place input output (Coded frame) f plays
    writes))

pub returns-in_ok-write_picture-in-Ok-Coded-clause-answer :
    goal.returns-in_ok-write_picture-in-Ok-Coded-clause-answer
returns-in_ok-write_picture-in-Ok-Coded-clause-answer g c =
    let a = c.args.player.now.decoder.accepted in
    let h = c.args.lines.now.head in
    let payload = c.play.new.player.payload.items in
    let tally = c.play.new.player.decoder.tally in
    let info = c.in-Ok-Coded.info in
    let input = passage g.R.ByteIn.remaining g.R.ByteIn.failures c.args.input.now
    c.play.new.input in
    let output = passage g.W.ByteOut.contents g.W.ByteOut.failures c.args.output.now
    c.write_picture.new.output in
    let answer = rw c.in-Ok-Coded.field-0-is at c.in-Ok-Coded.ensures.answer in
    let found = c.answer_is_ok_for_coded_pictures.ensures.found a payload c.args.kept.now
    c.play.new.sink tally info c.requires.accepted answer.1 in
    let kept = c.kept_lines_make_up_the_picture.ensures.picture a found.0 c.args.kept.now
    c.play.new.sink c.requires.accepted found.1.picture.fits c.requires.kept.grid
    c.requires.kept.planes found.2 in
    let planes : planes_of c.planes.result.now ≡ found.0 = sym c.planes.ensures.value ∙ kept.0 in
    let frame : CodedFrame = record {
      payload = payload;
      planes = found.0;
      said = info;
      tally = tally;
    } in
    let plays : PlaysFrame a c.args.player.now.reader.place c.play.new.player.reader.place input
    (Coded frame) =
    record {
      is = record {
        codes = found.1;
        decided = is_decided Keeps KeepsNot a payload
            c.args.kept.now c.play.new.sink tally info answer.1;
      };
      reads = answer.0;
    } in
    let same : c.config-checked.result.now ≡ a = c.config-checked.ensures ∙ c.play.ensures.same in
    let writes = subst (λ (z : Planes). WritesFrame
    (headed_md5 (is_rct a.configuration.colour) a.configuration.depth (head_saying h info)
    (not c.args.lines.now.begun) c.args.number z) output (Ok tt)) planes
    (subst (λ (x : Accepted). WritesFrame (headed_md5 (is_rct x.configuration.colour)
    x.configuration.depth (head_saying h info) (not c.args.lines.now.begun) c.args.number (planes_of c.planes.result.now))
    output (Ok tt)) same
    c.in_ok-write_picture-in-Ok-Coded.ensures.answer) in
    (Coded frame, plays, writes.0, writes.1, refl)

pub returns-in_ok-write_picture-in-Ok-Coded-clause-kept :
    goal.returns-in_ok-write_picture-in-Ok-Coded-clause-kept
returns-in_ok-write_picture-in-Ok-Coded-clause-kept g c =
    let a = c.args.player.now.decoder.accepted in
    let answer = rw c.in-Ok-Coded.field-0-is at c.in-Ok-Coded.ensures.answer in
    let found = c.answer_is_ok_for_coded_pictures.ensures.found a c.play.new.player.payload.items
    c.args.kept.now c.play.new.sink c.play.new.player.decoder.tally c.in-Ok-Coded.info
    c.requires.accepted answer.1 in
    let kept = c.kept_lines_make_up_the_picture.ensures.picture a found.0 c.args.kept.now
    c.play.new.sink c.requires.accepted found.1.picture.fits c.requires.kept.grid
    c.requires.kept.planes found.2 in
    let now : IsKeptFor a c.play.new.sink = record {
      grid = kept.1 ∙ c.requires.kept.grid;
      planes =
          c.planes.ensures.sizes;
    } in
    subst (IsKeptFor a) (sym c.planes.follows.holds-at-none) now

pub returns-in-Ok-Again-clause-answer : goal.returns-in-Ok-Again-clause-answer
returns-in-Ok-Again-clause-answer g c =
    let answer = rw c.in-Ok-Again.field-0-is at c.in-Ok-Again.ensures.answer in (
      Again,
      record { is = tt; reads = answer.0 },
      refl,
      Appends-nil (g.W.ByteOut.contents c.args.output.now),
      refl,
    )

pub returns-in-Ok-Again-clause-kept : goal.returns-in-Ok-Again-clause-kept
returns-in-Ok-Again-clause-kept g c =
    let answer = rw c.in-Ok-Again.field-0-is at c.in-Ok-Again.ensures.answer in
    subst (IsKeptFor c.args.player.now.decoder.accepted) (sym answer.1) c.requires.kept

pub returns-in-Err-File-clause-answer : goal.returns-in-Err-File-clause-answer
returns-in-Err-File-clause-answer g c =
    let a = c.args.player.now.decoder.accepted in
    let line = frame_md5 a c.args.lines.now.head (not c.args.lines.now.begun) c.args.number in
    let f = of_avi c.in-Err-File.fault in
    let input = passage g.R.ByteIn.remaining g.R.ByteIn.failures c.args.input.now
    c.play.new.input in
    let output = passage g.W.ByteOut.contents g.W.ByteOut.failures c.args.output.now
    c.args.output.now in
    let answer = rw c.in-Err-File.field-0-is at c.in-Err-File.ensures.answer in
    inr (subst (λ z. OneStopsBy (IsFrame a) frame_payload line (λ y. Silent output)
    c.args.player.now.reader.place c.play.new.player.reader.place input output z (cause_of z))
    (sym c.from.ensures)
    (file_stops (IsFrame a) frame_payload line c.args.player.now.reader.place
    c.play.new.player.reader.place input (g.W.ByteOut.contents c.args.output.now)
    (g.W.ByteOut.failures c.args.output.now)
    f (cause_of f) answer.0))

pub returns-in-Err-Payload-clause-answer : goal.returns-in-Err-Payload-clause-answer
returns-in-Err-Payload-clause-answer g c =
    let a = c.args.player.now.decoder.accepted in
    let payload = c.play.new.player.payload.items in
    let tally = c.play.new.player.decoder.tally in
    let f = c.in-Err-Payload.fault in
    let answer = rw c.in-Err-Payload.field-0-is at c.in-Err-Payload.ensures.answer in
    let own = c.sinks_of_own_lines_refuse_none.ensures.kept a payload c.args.kept.now
    c.play.new.sink tally f c.requires.accepted answer.2 c.requires.kept.grid in
    let content = decode_cause f.fault (c.answered_fault_is_of_decoding.ensures a payload
    c.args.kept.now c.play.new.sink tally f answer.2) own in
    let is = c.from-in-Err-Payload.ensures in
    inl (
      silent (g.W.ByteOut.contents c.args.output.now) (g.W.ByteOut.failures c.args.output.now),
      record {
        payload = payload;
        fault = f;
        tally = tally;
        reads = answer.0;
        faulty = record {
          some = answer.1;
          faulty = is_faulty Keeps KeepsNot a payload c.args.kept.now c.play.new.sink tally f own
              answer.2;
        };
        is = is;
        content = subst (λ z. cause_of z ≡ Content) (sym is) content;
      },
    )

pub returns-in-Err-Payload-clause-own : goal.returns-in-Err-Payload-clause-own
returns-in-Err-Payload-clause-own g c =
    let a = c.args.player.now.decoder.accepted in
    let payload = c.play.new.player.payload.items in
    let tally = c.play.new.player.decoder.tally in
    let f = c.in-Err-Payload.fault in
    let answer = rw c.in-Err-Payload.field-0-is at c.in-Err-Payload.ensures.answer in
    let own = c.sinks_of_own_lines_refuse_none.ensures.kept a payload c.args.kept.now
    c.play.new.sink tally f c.requires.accepted answer.2 c.requires.kept.grid in
    let decode = c.answered_fault_is_of_decoding.ensures a payload c.args.kept.now c.play.new.sink
    tally f answer.2 in
    let is = c.from-in-Err-Payload.ensures in
    inl (ap is_telling_fault is ∙ payload_tells f.fault decode own)
