-- Reads the next frame, and decodes it into an image.
use Rattle.std.proofs.Common.{◌≡◌, ◌∙◌, ◌+◌, Ok, Err, [], inl, inr, ap, refl, sym, subst, get_or}
use Rattle.ffv1_wire.specs.Passage.{passage}
use Rattle.std.specs.Prelude.{slice_index}
use Rattle.ffv1_slice.specs.Cutting.{coded_of}
use Rattle.ffv1_slice.specs.Footer.{foot_length}
use Rattle.ffv1_codec.specs.Decoding.{top_of}
use Rattle.ffv1_codec.specs.Lines.{lines_of, places_of}
use Rattle.ffv1_y4m.specs.Images.{image_places}
use Rattle.ffv1_y4m.specs.Sink.{Refuses, Takes}
use Rattle.ffv1_video.specs.Faults.{cause_of, of_avi, of_codec}
use Rattle.std.proofs.lemmas.Result.{err_from_is_err_and}
use Rattle.ffv1_record.specs.Accepted.{Accepted, IsAccepted}
use Rattle.ffv1_record.specs.Configuration.{is_rct}
use Rattle.ffv1_unpack.specs.Internal.ImagesOut.{ImageStopsBy, IsLastPayload, IsSinkFor}
use Rattle.ffv1_unpack.specs.Internal.Opens.{stream_of}
use Rattle.ffv1_unpack.specs.Stream.{Again, AreFrames, Coded, CodedFrame}
use Rattle.ffv1_unpack.proofs.ImagesRepeated.{repeats_from}
use Rattle.ffv1_unpack.specs.Told.{is_telling_fault}
use Rattle.ffv1_codec.specs.Outcome.{lines_before}
use Rattle.ffv1_unpack.proofs.FrameDecoded.{is_decided}
use Rattle.ffv1_unpack.proofs.ImageLines.{colour_of, image_of}
use Rattle.ffv1_unpack.proofs.ImagesWritten.{counted, either, file_stops, image_faults}
use Rattle.ffv1_unpack.proofs.ImagesWritten.{image_written, line_long, payload_stops, row_cut}
use Rattle.ffv1_unpack.proofs.ImagesWritten.{last_again, last_kept, repeat_stops, sink_stays}
use Rattle.ffv1_unpack.proofs.ImagesWritten.{sinks_own}
use Rattle.ffv1_unpack.proofs.PicturesWritten.{decode_cause}
use Rattle.ffv1_unpack.proofs.OwnFaults.{payload_tells}
use Rattle.ffv1_unpack.proofs.images_out.write_next.Goals as goal

pub returns-in-Ok-Coded-clause-answer : goal.returns-in-Ok-Coded-clause-answer
returns-in-Ok-Coded-clause-answer g c =
    let a = c.args.player.now.decoder.accepted in
    let k = a.configuration in
    let payload = c.play_carried.new.player.payload.items in
    let tally = c.play_carried.new.player.decoder.tally in
    let info = c.in-Ok-Coded._info in
    let old = c.args.sink.now in
    let new = c.play_carried.new.sink in
    let is = c.requires.accepted in
    let rct = c.requires.colour in
    let answer = rw c.in-Ok-Coded.field-0-is at c.in-Ok-Coded.ensures.answer in
    let found = c.answer_is_ok_for_coded_pictures.ensures.found a payload old new tally info is
    answer.1 in
    let image = image_of k (λ p. c.rct_planes_have_the_picture_size.ensures.wide a p is rct)
    (λ p. c.rct_planes_have_the_picture_size.ensures.high a p is rct)
    (c.lines_are_handed_in_turn.ensures.colours a is rct c.requires.opaque) found.0
    (c.lines_are_handed_in_turn.ensures.lines a found.0) found.1.picture.fits
    (c.accepted_configuration_has_sound_parts.ensures.rct k a.table is
    (colour_of k.colour rct)).0 c.requires.opaque in
    let written = image_written g.W.ByteOut.contents g.W.ByteOut.failures k old new found.0
    c.requires.sink image (c.accepted_configuration_is_in_range.ensures.sizes k a.table is).2
    c.image_is_written_after_the_others.ensures.image found.2 in
    let decided = is_decided (Takes g.W.ByteOut.contents g.W.ByteOut.failures)
    (Refuses g.W.ByteOut.contents g.W.ByteOut.failures) a payload old new tally info answer.1 in
    let frame : CodedFrame = record {
      payload = payload;
      planes = found.0;
      said = info;
      tally = tally;
    } in λ frames are kept. (
      Coded frame,
      record { is = record { codes = found.1; decided = decided }; reads = answer.0 },
      c.sink_takes_the_next_line.ensures.taken old new (lines_of k found.0) found.2,
      written.0,
      rw c.swap.ensures.y_after (last_kept frames frame answer.2),
    )

pub returns-in-Ok-Coded-clause-sink : goal.returns-in-Ok-Coded-clause-sink
returns-in-Ok-Coded-clause-sink g c =
    let a = c.args.player.now.decoder.accepted in
    let k = a.configuration in
    let payload = c.play_carried.new.player.payload.items in
    let tally = c.play_carried.new.player.decoder.tally in
    let info = c.in-Ok-Coded._info in
    let old = c.args.sink.now in
    let new = c.play_carried.new.sink in
    let is = c.requires.accepted in
    let rct = c.requires.colour in
    let answer = rw c.in-Ok-Coded.field-0-is at c.in-Ok-Coded.ensures.answer in
    let found = c.answer_is_ok_for_coded_pictures.ensures.found a payload old new tally info is
    answer.1 in
    let image = image_of k (λ p. c.rct_planes_have_the_picture_size.ensures.wide a p is rct)
    (λ p. c.rct_planes_have_the_picture_size.ensures.high a p is rct)
    (c.lines_are_handed_in_turn.ensures.colours a is rct c.requires.opaque) found.0
    (c.lines_are_handed_in_turn.ensures.lines a found.0) found.1.picture.fits
    (c.accepted_configuration_has_sound_parts.ensures.rct k a.table is
    (colour_of k.colour rct)).0 c.requires.opaque in
    λ frames are kept.
    (image_written g.W.ByteOut.contents g.W.ByteOut.failures k old new found.0 c.requires.sink image
    (c.accepted_configuration_is_in_range.ensures.sizes k a.table is).2
    c.image_is_written_after_the_others.ensures.image found.2).1

pub repeat_image-requires-clause-accepted : goal.repeat_image-requires-clause-accepted
repeat_image-requires-clause-accepted g c =
    subst (λ (z : Accepted). IsAccepted z.configuration z.table) (sym c.play_carried.ensures.same)
    c.requires.accepted

pub repeat_image-requires-clause-colour : goal.repeat_image-requires-clause-colour
repeat_image-requires-clause-colour g c =
    ap (λ (z : Accepted). is_rct z.configuration.colour) c.play_carried.ensures.same ∙ c.requires.colour

pub repeat_image-requires-clause-opaque : goal.repeat_image-requires-clause-opaque
repeat_image-requires-clause-opaque g c =
    ap (λ (z : Accepted). z.configuration.extra_plane) c.play_carried.ensures.same ∙ c.requires.opaque

pub repeat_image-requires-clause-sink : goal.repeat_image-requires-clause-sink
repeat_image-requires-clause-sink g c =
    let answer = rw c.in-Ok-Again.field-0-is at c.in-Ok-Again.ensures.answer in
    subst (λ (z : Accepted). IsSinkFor z.configuration c.play_carried.new.sink) (sym c.play_carried.ensures.same)
    (subst (IsSinkFor c.args.player.now.decoder.accepted.configuration) (sym answer.1)
    c.requires.sink)

pub returns-in_err-repeat_image-in-Ok-Again-clause-answer :
    goal.returns-in_err-repeat_image-in-Ok-Again-clause-answer
returns-in_err-repeat_image-in-Ok-Again-clause-answer g c = λ frames are kept.
    let p = err_from_is_err_and c.from_residual.result c.from_residual.ensures.1 in
    let a = c.args.player.now.decoder.accepted in
    let b = c.play_carried.new.player.decoder.accepted in
    let last = c.deref.result.now in
    let held = subst (IsLastPayload frames) (sym c.deref.ensures.value) kept in
    let old = c.args.sink.now in
    let new = c.repeat_image.new.sink in
    let f = c.in_err-repeat_image-in-Ok-Again.field-0.0 in
    let input = passage g.R.ByteIn.remaining g.R.ByteIn.failures c.args.input.now
    c.play_carried.new.input in
    let output = passage g.W.ByteOut.contents g.W.ByteOut.failures old.out new.out in
    let answer = rw c.in-Ok-Again.field-0-is at c.in-Ok-Again.ensures.answer in
    let writes = repeats_from g.W.ByteOut.contents g.W.ByteOut.failures a b frames last old
    c.play_carried.new.sink new (Err f) answer.1 c.play_carried.ensures.same
    (c.in_err-repeat_image-in-Ok-Again.ensures.answer (stream_of c.args.player.now.reader b) frames
    refl (subst (λ (z : Accepted). AreFrames z frames) (sym c.play_carried.ensures.same) are) held) in
    rw (p.1, p.2) (repeat_stops a c.args.carried.now.items frames c.args.player.now.reader.place
    c.play_carried.new.player.reader.place input output last f answer.0 writes)

pub returns-in_ok-repeat_image-in-Ok-Again-clause-answer :
    goal.returns-in_ok-repeat_image-in-Ok-Again-clause-answer
returns-in_ok-repeat_image-in-Ok-Again-clause-answer g c = λ frames are kept.
    let a = c.args.player.now.decoder.accepted in
    let b = c.play_carried.new.player.decoder.accepted in
    let last = c.deref.result.now in
    let held = subst (IsLastPayload frames) (sym c.deref.ensures.value) kept in
    let answer = rw c.in-Ok-Again.field-0-is at c.in-Ok-Again.ensures.answer in
    let writes = repeats_from g.W.ByteOut.contents g.W.ByteOut.failures a b frames last
    c.args.sink.now c.play_carried.new.sink c.repeat_image.new.sink (Ok tt) answer.1 c.play_carried.ensures.same
    (c.in_ok-repeat_image-in-Ok-Again.ensures.answer (stream_of c.args.player.now.reader b) frames
    refl (subst (λ (z : Accepted). AreFrames z frames) (sym c.play_carried.ensures.same) are) held) in (
      Again,
      record { is = tt; reads = answer.0 },
      writes.0,
      writes.1,
      last_again frames c.args.last.now.items kept,
    )

pub returns-in_ok-repeat_image-in-Ok-Again-clause-sink :
    goal.returns-in_ok-repeat_image-in-Ok-Again-clause-sink
returns-in_ok-repeat_image-in-Ok-Again-clause-sink g c = λ frames are kept.
    let held = subst (IsLastPayload frames) (sym c.deref.ensures.value) kept in
    let b = c.play_carried.new.player.decoder.accepted in
    subst (λ (z : Accepted). IsSinkFor z.configuration c.repeat_image.new.sink)
    c.play_carried.ensures.same
    (c.in_ok-repeat_image-in-Ok-Again.ensures.sink (stream_of c.args.player.now.reader b) frames
    refl (subst (λ (z : Accepted). AreFrames z frames) (sym c.play_carried.ensures.same) are) held)

pub returns-in-Err-File-clause-answer : goal.returns-in-Err-File-clause-answer
returns-in-Err-File-clause-answer g c =
    let a = c.args.player.now.decoder.accepted in
    let old = c.args.sink.now in
    let new = c.play_carried.new.sink in
    let from = c.args.player.now.reader.place in
    let to = c.play_carried.new.player.reader.place in
    let f = of_avi c.in-Err-File.fault in
    let input = passage g.R.ByteIn.remaining g.R.ByteIn.failures c.args.input.now
    c.play_carried.new.input in
    let output = passage g.W.ByteOut.contents g.W.ByteOut.failures old.out new.out in
    let answer = rw c.in-Err-File.field-0-is at c.in-Err-File.ensures.answer in
    let none = sink_stays g.W.ByteOut.contents g.W.ByteOut.failures old new answer.1 in
    λ frames are kept.
    subst (λ z. ImageStopsBy a c.args.carried.now.items frames from to input output z (cause_of z)) (sym c.from.ensures)
    (file_stops a c.args.carried.now.items frames from to input output f (cause_of f) none answer.0)

pub returns-in-Sink-clause-answer : goal.returns-in-Sink-clause-answer
returns-in-Sink-clause-answer g c =
    let a = c.args.player.now.decoder.accepted in
    let k = a.configuration in
    let contents = g.W.ByteOut.contents in
    let failed = g.W.ByteOut.failures in
    let payload = c.play_carried.new.player.payload.items in
    let tally = c.play_carried.new.player.decoder.tally in
    let f = c.in-Err-Payload.fault in
    let old = c.args.sink.now in
    let new = c.play_carried.new.sink in
    let is = c.requires.accepted in
    let rct = c.requires.colour in
    let at = c.requires.sink.at in
    let answer = rw c.in-Err-Payload.field-0-is at c.in-Err-Payload.ensures.answer in
    let order : places_of k ≡ image_places old.height = c.lines_are_handed_in_turn.ensures.colours a
    is rct c.requires.opaque ∙ ap image_places (sym c.requires.sink.height) in
    λ frames are kept.
    elim (either (Takes contents failed) (Refuses contents failed) a payload old new tally f
    answer.2) [
      | inl faulty ↦
          let h = c.sink_fault_is_a_refused_line.ensures.sink a payload old new tally f is answer.2
          c.in-Sink.is in
          let long = line_long contents failed k old f.plane f.line h.samples c.requires.sink
          (c.rct_planes_have_the_picture_size.ensures.wide a f.plane is rct) h.line in
          let cut = c.sink_takes_the_next_line.ensures.refused old h.between new h.lines f.plane
          f.line h.samples h.rest at h.grows (h.turn ∙ order) long h.last in
          absurd
          (counted (failed old.out) (failed h.between.out) (failed new.out) cut.1
          (c.sink_takes_the_next_line.ensures.taken old h.between h.lines h.grows)
          (c.sink_takes_the_next_line.ensures.taken old new (lines_before faulty.faulty)
          faulty.grows))
      | inr r ↦
          let coded = coded_of payload (foot_length k.ec) (slice_index r.offsets) in
          let sink = r.sink in
          let samples = get_or sink.state.out sink.number [] in
          let y = top_of k sink.plane sink.row + sink.line in
          let placed = c.lines_are_handed_in_turn.ensures.offered a coded sink.row sink.number
          sink.plane sink.line sink.state sink.offers in
          let line = c.offered_lines_fit_the_configuration.ensures a coded sink.row sink.number
          sink.plane sink.line sink.state is sink.offers in
          let long = line_long contents failed k old sink.plane y samples c.requires.sink
          (c.rct_planes_have_the_picture_size.ensures.wide a sink.plane is rct) line in
          let cut = c.sink_takes_the_next_line.ensures.refused old sink.between new sink.state.lines
          sink.plane y samples placed.0 at sink.grows (placed.1 ∙ order) long sink.last in
          row_cut contents failed a c.args.carried.now.items frames c.args.player.now.reader.place c.play_carried.new.player.reader.place
          (passage g.R.ByteIn.remaining g.R.ByteIn.failures c.args.input.now c.play_carried.new.input)
          payload answer.1 answer.0 old new tally f
          c.requires.sink r (c.sink_writes_the_lines_it_took.ensures.taken old sink.between
          sink.state.lines sink.grows) (c.sink_takes_the_next_line.ensures.taken old
          sink.between sink.state.lines sink.grows) cut.0 cut.1
    ]

pub returns-in_default : goal.returns-in_default
returns-in_default g c =
    let a = c.args.player.now.decoder.accepted in
    let contents = g.W.ByteOut.contents in
    let failed = g.W.ByteOut.failures in
    let payload = c.play_carried.new.player.payload.items in
    let tally = c.play_carried.new.player.decoder.tally in
    let f = c.in-Err-Payload.fault in
    let old = c.args.sink.now in
    let new = c.play_carried.new.sink in
    let from = c.args.player.now.reader.place in
    let to = c.play_carried.new.player.reader.place in
    let input = passage g.R.ByteIn.remaining g.R.ByteIn.failures c.args.input.now
    c.play_carried.new.input in
    let output = passage contents failed old.out new.out in
    let answer = rw c.in-Err-Payload.field-0-is at c.in-Err-Payload.ensures.answer in
    let is = c.answered_fault_is_of_decoding.ensures a payload old new tally f answer.2 in
    let content = decode_cause f.fault is c.in_default.not-Sink in
    record {
      answer = λ frames are kept. subst (λ z. ImageStopsBy a c.args.carried.now.items frames from to input output z (cause_of z))
          (sym c.from-in_default.ensures)
          (elim (either (Takes contents failed) (Refuses contents failed) a payload old new tally f
          answer.2) [
            | inl faulty ↦
                payload_stops a c.args.carried.now.items frames from to input output (of_codec f.fault)
                (image_faults contents failed a c.args.carried.now.items frames from to input payload answer.1 answer.0 old new tally f
                c.requires.sink faulty content (c.sink_writes_the_lines_it_took.ensures.taken old new
                (lines_before faulty.faulty) faulty.grows)
                (c.sink_takes_the_next_line.ensures.taken old new (lines_before faulty.faulty)
                faulty.grows))
            | inr r ↦ absurd (c.in_default.not-Sink (sinks_own (Takes contents failed)
                (Refuses contents failed) a payload old new tally f r))
          ]);
      sink = λ frames are kept. tt;
      none = tt;
      sound = tt;
      less = tt;
      reached = tt;
      noted = tt;
      same = c.play_carried.ensures.same;
      container = c.play_carried.ensures.container;
      own = inl (inr (inl (ap is_telling_fault c.from-in_default.ensures ∙ payload_tells f.fault is
          c.in_default.not-Sink)));
    }
