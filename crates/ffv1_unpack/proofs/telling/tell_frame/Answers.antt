-- Reads the next frame, decodes it, and writes its line, or that of the place where it is refused,
-- or of the byte where the file is.
use Rattle.std.proofs.Common.{◌≡◌, refl, true, [], inl, inr, ap, sym, subst, ◌∙◌}
use Rattle.std.proofs.lemmas.Result.{err_from_is_err_and}
use Rattle.ffv1_wire.specs.Passage.{passage}
use Rattle.ffv1_record.specs.Accepted.{Accepted}
use Rattle.ffv1_slice.specs.Grid.{division_of}
use Rattle.ffv1_codec.specs.Kept.{Dropped, Drops, DropsNot}
use Rattle.ffv1_unpack.specs.Stream.{Again, Coded, CodedFrame, IsFrame, frame_payload}
use Rattle.ffv1_unpack.specs.Located.{WritesLine, WritesLocated, located_text}
use Rattle.ffv1_unpack.specs.Internal.Located.{LocatedAfter}
use Rattle.ffv1_unpack.specs.Told.{is_telling_fault}
use Rattle.ffv1_unpack.specs.Internal.Told.{FrameStopsBy, told_line}
use Rattle.ffv1_unpack.proofs.FrameDecoded.{is_decided, is_faulty}
use Rattle.ffv1_unpack.proofs.FramesPlayed.{file_refused, line_stops}
use Rattle.ffv1_video.specs.Faults.{cause_of, of_avi}
use Rattle.ffv1_video.specs.Faults.Cause.{Content}
use Rattle.ffv1_unpack.proofs.PicturesWritten.{decode_cause}
use Rattle.ffv1_unpack.proofs.OwnFaults.{payload_tells}
use Rattle.ffv1_unpack.proofs.telling.tell_frame.Goals as goal

pub returns-in_err-write_line-in-Ok-Coded-clause-answer :
    goal.returns-in_err-write_line-in-Ok-Coded-clause-answer
returns-in_err-write_line-in-Ok-Coded-clause-answer g c =
    let p = err_from_is_err_and c.from_residual.result c.from_residual.ensures.1 in
    let a = c.args.player.now.decoder.accepted in
    let payload = c.play.new.player.payload.items in
    let tally = c.play.new.player.decoder.tally in
    let info = c.in-Ok-Coded._info in
    let answer = rw c.in-Ok-Coded.field-0-is at c.in-Ok-Coded.ensures.answer in
    let found = c.answer_is_ok_for_coded_pictures.ensures.found a payload c.new-sink.result
    c.play.new.sink tally info c.requires.accepted answer.1 in
    let frame : CodedFrame = record {
      payload = payload;
      planes = found.0;
      said = info;
      tally = tally;
    } in
    let decided = is_decided Drops DropsNot a payload c.new-sink.result c.play.new.sink tally info
    answer.1 in
    let reading = passage g.R.ByteIn.remaining g.R.ByteIn.failures c.args.input.now
    c.play.new.input in
    let writing = passage g.W.ByteOut.contents g.W.ByteOut.failures c.args.output.now
    c.write_line.new.output in
    rw (p.1, p.2)
    (inr (line_stops (IsFrame a) frame_payload
    (told_line c.args.telling.kind a.configuration c.args.number)
    (λ f. WritesLocated (LocatedAfter c.args.player.now.reader reading) c.args.telling.places.byte
    c.args.number [] f writing) c.args.player.now.reader.place c.play.new.player.reader.place
    reading writing (Coded frame) c.in_err-write_line-in-Ok-Coded.field-0.0
    (record { is = record { codes = found.1; decided = decided }; reads = answer.0 })
    (rw (c.play.ensures.same, c.deref.ensures.value) at c.in_err-write_line-in-Ok-Coded.ensures)))

pub returns-in_ok-write_line-in-Ok-Coded-clause-answer :
    goal.returns-in_ok-write_line-in-Ok-Coded-clause-answer
returns-in_ok-write_line-in-Ok-Coded-clause-answer g c =
    let a = c.args.player.now.decoder.accepted in
    let payload = c.play.new.player.payload.items in
    let tally = c.play.new.player.decoder.tally in
    let info = c.in-Ok-Coded._info in
    let answer = rw c.in-Ok-Coded.field-0-is at c.in-Ok-Coded.ensures.answer in
    let found = c.answer_is_ok_for_coded_pictures.ensures.found a payload c.new-sink.result
    c.play.new.sink tally info c.requires.accepted answer.1 in
    let frame : CodedFrame = record {
      payload = payload;
      planes = found.0;
      said = info;
      tally = tally;
    } in
    let decided = is_decided Drops DropsNot a payload c.new-sink.result c.play.new.sink tally info
    answer.1 in
    let writes = rw (c.play.ensures.same, c.deref.ensures.value) at
    c.in_ok-write_line-in-Ok-Coded.ensures in (
      Coded frame,
      record { is = record { codes = found.1; decided = decided }; reads = answer.0 },
      writes.0,
      writes.1,
    )

pub returns-in_err-write_again-in-Ok-Again-clause-answer :
    goal.returns-in_err-write_again-in-Ok-Again-clause-answer
returns-in_err-write_again-in-Ok-Again-clause-answer g c =
    let p = err_from_is_err_and c.from_residual-in_err-write_again-in-Ok-Again.result
    c.from_residual-in_err-write_again-in-Ok-Again.ensures.1 in
    let a = c.args.player.now.decoder.accepted in
    let answer = rw c.in-Ok-Again.field-0-is at c.in-Ok-Again.ensures.answer in
    let reading = passage g.R.ByteIn.remaining g.R.ByteIn.failures c.args.input.now
    c.play.new.input in
    let writing = passage g.W.ByteOut.contents g.W.ByteOut.failures c.args.output.now
    c.write_again.new.output in
    rw (p.1, p.2)
    (inr (line_stops (IsFrame a) frame_payload
    (told_line c.args.telling.kind a.configuration c.args.number)
    (λ f. WritesLocated (LocatedAfter c.args.player.now.reader reading) c.args.telling.places.byte
    c.args.number [] f writing) c.args.player.now.reader.place c.play.new.player.reader.place
    reading writing Again c.in_err-write_again-in-Ok-Again.field-0.0
    (record { is = tt; reads = answer.0 }) c.in_err-write_again-in-Ok-Again.ensures))

pub returns-in_ok-write_again-in-Ok-Again-clause-answer :
    goal.returns-in_ok-write_again-in-Ok-Again-clause-answer
returns-in_ok-write_again-in-Ok-Again-clause-answer g c =
    let answer = rw c.in-Ok-Again.field-0-is at c.in-Ok-Again.ensures.answer in
    let writes = c.in_ok-write_again-in-Ok-Again.ensures in (
      Again,
      record { is = tt; reads = answer.0 },
      writes.0,
      writes.1,
    )

pub returns-in-Err-Payload-clause-answer : goal.returns-in-Err-Payload-clause-answer
returns-in-Err-Payload-clause-answer g c =
    let a = c.args.player.now.decoder.accepted in
    let payload = c.play.new.player.payload.items in
    let tally = c.play.new.player.decoder.tally in
    let f = c.in-Err-Payload.fault in
    let answer = rw c.in-Err-Payload.field-0-is at c.in-Err-Payload.ensures.answer in
    let grid = ap (λ (z : Dropped). z.grid) c.new-sink.ensures ∙
    ap (λ (z : Accepted). division_of z.configuration) c.config.ensures in
    let own = c.sinks_of_own_lines_refuse_none.ensures.dropped a payload c.new-sink.result
    c.play.new.sink tally f c.requires.accepted answer.2 grid in
    inl (record {
      payload = record {
        payload = payload;
        fault = f;
        tally = tally;
        reads = answer.0;
        faulty = record {
          some = answer.1;
          faulty = is_faulty Drops DropsNot a payload c.new-sink.result c.play.new.sink tally f own
              answer.2;
        };
        is = c.from.ensures;
        content =
            subst (λ z. cause_of z ≡ Content) (sym c.from.ensures)
            (decode_cause f.fault (c.answered_fault_is_of_decoding.ensures a payload
            c.new-sink.result c.play.new.sink tally f answer.2) own);
      };
      writes = c.tell_place.ensures;
    })

pub returns-in-Err-Payload-clause-own : goal.returns-in-Err-Payload-clause-own
returns-in-Err-Payload-clause-own g c =
    let a = c.args.player.now.decoder.accepted in
    let payload = c.play.new.player.payload.items in
    let tally = c.play.new.player.decoder.tally in
    let f = c.in-Err-Payload.fault in
    let answer = rw c.in-Err-Payload.field-0-is at c.in-Err-Payload.ensures.answer in
    let grid = ap (λ (z : Dropped). z.grid) c.new-sink.ensures ∙
    ap (λ (z : Accepted). division_of z.configuration) c.config.ensures in
    let own = c.sinks_of_own_lines_refuse_none.ensures.dropped a payload c.new-sink.result
    c.play.new.sink tally f c.requires.accepted answer.2 grid in
    let decode = c.answered_fault_is_of_decoding.ensures a payload c.new-sink.result c.play.new.sink
    tally f answer.2 in
    let is = c.from.ensures in
    inl (subst (λ z. is_telling_fault z ≡ true) (sym is) (payload_tells f.fault decode own))

pub returns-in-Err-File-clause-answer : goal.returns-in-Err-File-clause-answer
returns-in-Err-File-clause-answer g c =
    let a = c.args.player.now.decoder.accepted in
    let reading = passage g.R.ByteIn.remaining g.R.ByteIn.failures c.args.input.now
    c.play.new.input in
    let writing = passage g.W.ByteOut.contents g.W.ByteOut.failures c.args.output.now
    c.tell_byte.new.output in
    let from = c.args.player.now.reader in
    let to = c.play.new.player.reader in
    let offset = c.play.new.player.offset in
    let f = of_avi c.in-Err-File.fault in
    let is : c.from-fault.result ≡ f = c.from-fault.ensures in
    let answer = rw c.in-Err-File.field-0-is at c.in-Err-File.ensures.answer in
    let stops = rw c.in-Err-File.field-0-is at c.in-Err-File.ensures.located in
    let writes : WritesLine [] (located_text c.args.telling.places.byte c.args.number f offset)
    writing = rw is at c.tell_byte.ensures in
    inr (subst (λ z. FrameStopsBy c.args.telling.kind c.args.telling.places.place
    c.args.telling.places.byte a c.args.number from to.place reading writing z (cause_of z))
    (sym is)
    (file_refused (IsFrame a) frame_payload (told_line c.args.telling.kind a.configuration
    c.args.number) c.args.telling.places.byte c.args.number from to.place offset reading
    writing f (cause_of f) refl
    answer.0 stops writes))
