-- Reads the next frame, decodes it, and compares its picture with the MD5 of the list that has its
-- number.
use Rattle.std.proofs.Common.{◌≡◌, true, false, Some, map, take, [], ◌∷◌, inl, inr, ap, sym, refl, rules, subst, ◌∙◌}
use Rattle.std.specs.Prelude.{slice_get}
use Rattle.ffv1_wire.specs.Passage.{at_rest, passage}
use Rattle.ffv1_record.specs.Accepted.{Accepted}
use Rattle.ffv1_codec.specs.Kept.{Keeps, KeepsNot}
use Rattle.ffv1_slice.specs.Grid.{Division, division_of}
use Rattle.ffv1_codec.specs.Picture.{AreOf, Planes, planes_of}
use Rattle.ffv1_video.specs.Faults.{cause_of, of_avi}
use Rattle.ffv1_video.specs.Faults.Cause.{Content}
use Rattle.ffv1_video.specs.KeptLines.{IsKeptFor}
use Rattle.ffv1_video.specs.Output.{Silent}
use Rattle.ffv1_video.proofs.Output.{silent}
use Rattle.ffv1_unpack.specs.Compared.{frame_number, is_md5, picture_number}
use Rattle.ffv1_unpack.specs.Internal.Plays.{OneStopsBy}
use Rattle.ffv1_unpack.specs.Stream.{Again, Coded, Frame, IsFrame, coded_frames, frame_payload}
use Rattle.ffv1_unpack.specs.Told.{is_telling_fault}
use Rattle.ffv1_unpack.proofs.FrameDecoded.{is_decided, is_faulty}
use Rattle.ffv1_unpack.proofs.FramesCompared.{has_more}
use Rattle.ffv1_unpack.proofs.FramesPlayed.{file_stops}
use Rattle.ffv1_unpack.proofs.OwnFaults.{payload_tells}
use Rattle.ffv1_unpack.proofs.PicturesWritten.{decode_cause}
use Rattle.ffv1_unpack.proofs.comparing.compare_next.Goals as goal

pub picture_number-md5-requires : goal.picture_number-md5-requires
picture_number-md5-requires g c =
    let a = c.args.player.now.decoder.accepted in
    let sink = c.play.new.sink in
    let answer = rw c.in-Ok-Coded.field-0-is at c.in-Ok-Coded.ensures.answer in
    let found = c.answer_is_ok_for_coded_pictures.ensures.found a c.play.new.player.payload.items
    c.args.kept.now sink c.play.new.player.decoder.tally c.in-Ok-Coded._info c.requires.accepted
    answer.1 in
    let kept = c.kept_lines_make_up_the_picture.ensures.picture a found.0 c.args.kept.now sink
    c.requires.accepted found.1.picture.fits c.requires.kept.grid c.requires.kept.planes
    found.2 in
    let same : c.config-checked.result.now ≡ a = c.config-checked.ensures ∙ c.play.ensures.same in
    let grid : sink.grid ≡ division_of c.config-checked.result.now.configuration = kept.1 ∙
    c.requires.kept.grid ∙ ap (λ (x : Accepted). division_of x.configuration) (sym same) in
    subst (AreOf (division_of c.config-checked.result.now.configuration)) c.planes.ensures.value
    (subst (λ (d : Division). AreOf d sink.planes) grid c.planes.ensures.sizes)

-- one more is no more than the list has
pub overflow_add-met : goal.overflow_add-met
overflow_add-met g c =
    let within = has_more c.args.md5s.now c.args.before.md5s c.picture_number-md5.result
    (sym c.has_md5.ensures ∙ c.if-has_md5.true) in
    search (rules, within)

pub returns-then-has_md5-clause-answer : goal.returns-then-has_md5-clause-answer
returns-then-has_md5-clause-answer g c =
    let a = c.args.player.now.decoder.accepted in
    let payload = c.play.new.player.payload.items in
    let tally = c.play.new.player.decoder.tally in
    let info = c.in-Ok-Coded._info in
    let answer = rw c.in-Ok-Coded.field-0-is at c.in-Ok-Coded.ensures.answer in
    let found = c.answer_is_ok_for_coded_pictures.ensures.found a payload c.args.kept.now
    c.play.new.sink tally info c.requires.accepted answer.1 in
    let kept = c.kept_lines_make_up_the_picture.ensures.picture a found.0 c.args.kept.now
    c.play.new.sink c.requires.accepted found.1.picture.fits c.requires.kept.grid
    c.requires.kept.planes found.2 in
    let planes : planes_of c.planes.result.now ≡ found.0 = sym c.planes.ensures.value ∙ kept.0 in
    let same : c.config-checked.result.now ≡ a = c.config-checked.ensures ∙ c.play.ensures.same in
    let md5 : c.picture_number-md5.result ≡ picture_number a found.0 =
    c.picture_number-md5.ensures ∙ ap (λ (x : Accepted). picture_number x (planes_of
    c.planes.result.now)) same ∙ ap (λ (z : Planes). picture_number a z) planes in (
      Coded (record { payload = payload; planes = found.0; said = info; tally = tally }),
      record {
        is = record {
          codes = found.1;
          decided = is_decided Keeps KeepsNot a payload c.args.kept.now c.play.new.sink tally
              info answer.1;
        };
        reads = answer.0;
      },
      subst (λ m. is_md5 (slice_get c.args.md5s.now c.args.before.md5s) m ≡ true) md5
          (sym c.has_md5.ensures ∙ c.if-has_md5.true),
      rw c.saturating_add.ensures refl,
    )

pub returns-then-has_md5-clause-kept : goal.returns-then-has_md5-clause-kept
returns-then-has_md5-clause-kept g c =
    let a = c.args.player.now.decoder.accepted in
    let answer = rw c.in-Ok-Coded.field-0-is at c.in-Ok-Coded.ensures.answer in
    let found = c.answer_is_ok_for_coded_pictures.ensures.found a c.play.new.player.payload.items
    c.args.kept.now c.play.new.sink c.play.new.player.decoder.tally c.in-Ok-Coded._info
    c.requires.accepted answer.1 in
    let kept = c.kept_lines_make_up_the_picture.ensures.picture a found.0 c.args.kept.now
    c.play.new.sink c.requires.accepted found.1.picture.fits c.requires.kept.grid
    c.requires.kept.planes found.2 in
    let now : IsKeptFor a c.play.new.sink = record {
      grid = kept.1 ∙ c.requires.kept.grid;
      planes = c.planes.ensures.sizes;
    } in
    subst (IsKeptFor a) (sym c.planes.follows.holds-at-none) now

pub returns-else-has_md5-clause-answer : goal.returns-else-has_md5-clause-answer
returns-else-has_md5-clause-answer g c =
    let a = c.args.player.now.decoder.accepted in
    let payload = c.play.new.player.payload.items in
    let tally = c.play.new.player.decoder.tally in
    let info = c.in-Ok-Coded._info in
    let answer = rw c.in-Ok-Coded.field-0-is at c.in-Ok-Coded.ensures.answer in
    let found = c.answer_is_ok_for_coded_pictures.ensures.found a payload c.args.kept.now
    c.play.new.sink tally info c.requires.accepted answer.1 in
    let kept = c.kept_lines_make_up_the_picture.ensures.picture a found.0 c.args.kept.now
    c.play.new.sink c.requires.accepted found.1.picture.fits c.requires.kept.grid
    c.requires.kept.planes found.2 in
    let planes : planes_of c.planes.result.now ≡ found.0 = sym c.planes.ensures.value ∙ kept.0 in
    let same : c.config-checked.result.now ≡ a = c.config-checked.ensures ∙ c.play.ensures.same in
    let md5 : c.picture_number-md5.result ≡ picture_number a found.0 =
    c.picture_number-md5.ensures ∙ ap (λ (x : Accepted). picture_number x (planes_of
    c.planes.result.now)) same ∙ ap (λ (z : Planes). picture_number a z) planes in (
      refl,
      record { payload = payload; planes = found.0; said = info; tally = tally },
      record {
        is = record {
          codes = found.1;
          decided = is_decided Keeps KeepsNot a payload c.args.kept.now c.play.new.sink tally
              info answer.1;
        };
        reads = answer.0;
      },
      subst (λ m. is_md5 (slice_get c.args.md5s.now c.args.before.md5s) m ≡ false) md5
          (sym c.has_md5.ensures ∙ c.if-has_md5.false),
    )

pub returns-in-Ok-Again-clause-answer : goal.returns-in-Ok-Again-clause-answer
returns-in-Ok-Again-clause-answer g c =
    let answer = rw c.in-Ok-Again.field-0-is at c.in-Ok-Again.ensures.answer in (
      Again,
      record { is = tt; reads = answer.0 },
      tt,
      rw c.saturating_add-in-Ok-Again.ensures refl,
    )

pub returns-in-Ok-Again-clause-kept : goal.returns-in-Ok-Again-clause-kept
returns-in-Ok-Again-clause-kept g c =
    let answer = rw c.in-Ok-Again.field-0-is at c.in-Ok-Again.ensures.answer in
    subst (IsKeptFor c.args.player.now.decoder.accepted) (sym answer.1) c.requires.kept

pub returns-in-Err-File-clause-answer : goal.returns-in-Err-File-clause-answer
returns-in-Err-File-clause-answer g c =
    let a = c.args.player.now.decoder.accepted in
    let line = λ (frame : Frame). map (frame_number a) (coded_frames (frame ∷ [])) in
    let f = of_avi c.in-Err-File.fault in
    let input = passage g.R.ByteIn.remaining g.R.ByteIn.failures c.args.input.now
    c.play.new.input in
    let old = Some (take c.args.before.md5s c.args.md5s.now) in
    let answer = rw c.in-Err-File.field-0-is at c.in-Err-File.ensures.answer in
    inr (subst (λ z. OneStopsBy (IsFrame a) frame_payload line (λ y. Silent (at_rest old 0))
    c.args.player.now.reader.place c.play.new.player.reader.place input (at_rest old 0) z
    (cause_of z)) (sym (rw c.in-Err-File.field-0-is at c.from.ensures))
    (file_stops (IsFrame a) frame_payload line c.args.player.now.reader.place
    c.play.new.player.reader.place input old 0 f (cause_of f) answer.0))

pub returns-in-Err-Payload-clause-answer : goal.returns-in-Err-Payload-clause-answer
returns-in-Err-Payload-clause-answer g c =
    let a = c.args.player.now.decoder.accepted in
    let payload = c.play.new.player.payload.items in
    let tally = c.play.new.player.decoder.tally in
    let f = c.in-Err-Payload.fault in
    let answer = rw c.in-Err-Payload.field-0-is at c.in-Err-Payload.ensures.answer in
    let own = c.sinks_of_own_lines_refuse_none.ensures.kept a payload c.args.kept.now
    c.play.new.sink tally f c.requires.accepted answer.2 c.requires.kept.grid in
    let content = decode_cause f.fault (c.answered_fault_is_of_decoding.ensures a payload
    c.args.kept.now c.play.new.sink tally f answer.2) own in
    let is = rw c.in-Err-Payload.field-0-is at c.from-in-Err-Payload.ensures in
    inl (
      silent (Some (take c.args.before.md5s c.args.md5s.now)) 0,
      record {
        payload = payload;
        fault = f;
        tally = tally;
        reads = answer.0;
        faulty = record {
          some = answer.1;
          faulty = is_faulty Keeps KeepsNot a payload c.args.kept.now c.play.new.sink tally f own
              answer.2;
        };
        is = is;
        content = subst (λ z. cause_of z ≡ Content) (sym is) content;
      },
    )

pub returns-in-Err-Payload-clause-own : goal.returns-in-Err-Payload-clause-own
returns-in-Err-Payload-clause-own g c =
    let a = c.args.player.now.decoder.accepted in
    let payload = c.play.new.player.payload.items in
    let tally = c.play.new.player.decoder.tally in
    let f = c.in-Err-Payload.fault in
    let answer = rw c.in-Err-Payload.field-0-is at c.in-Err-Payload.ensures.answer in
    let own = c.sinks_of_own_lines_refuse_none.ensures.kept a payload c.args.kept.now
    c.play.new.sink tally f c.requires.accepted answer.2 c.requires.kept.grid in
    let decode = c.answered_fault_is_of_decoding.ensures a payload c.args.kept.now c.play.new.sink
    tally f answer.2 in
    inl (ap is_telling_fault (rw c.in-Err-Payload.field-0-is at c.from-in-Err-Payload.ensures) ∙ payload_tells f.fault decode own)
