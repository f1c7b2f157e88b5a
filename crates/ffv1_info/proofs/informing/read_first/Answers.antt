-- Reads the first frame and decodes it, and answers what it says of its picture; None if there is
-- none.
use Rattle.std.proofs.Common.{◌≡◌, Bool, refl, true, false, Some, None, Ok, [], inl, inr, ap, sym, subst, ◌∙◌, arith}
use Rattle.std.proofs.lemmas.Grind.{common_steps}
use Rattle.ffv1_wire.specs.Passage.{passage}
use Rattle.ffv1_record.specs.Accepted.{Accepted}
use Rattle.ffv1_slice.specs.Grid.{division_of}
use Rattle.ffv1_codec.specs.Kept.{Dropped, Drops, DropsNot}
use Rattle.ffv1_files.specs.Files.{frame_read}
use Rattle.ffv1_unpack.specs.Internal.Play.{NextIs}
use Rattle.ffv1_video.specs.Faults.{cause_of, of_avi}
use Rattle.ffv1_video.proofs.KnownTexts.{known_map}
use Rattle.ffv1_unpack.specs.Plays.{HasThen, NextIsPayload}
use Rattle.ffv1_unpack.specs.Stream.{Again, Coded, CodedFrame}
use Rattle.ffv1_unpack.specs.Told.{is_telling_fault}
use Rattle.ffv1_unpack.proofs.FrameDecoded.{is_decided, is_faulty}
use Rattle.ffv1_unpack.proofs.FramesInTurn.{no_bytes}
use Rattle.ffv1_unpack.proofs.FramesPassed.{pass_none}
use Rattle.ffv1_unpack.proofs.OwnFaults.{payload_tells}
use Rattle.ffv1_info.specs.Internal.Frames.{NextAnswers}
use Rattle.ffv1_info.proofs.FramesRead.{ends_by}
use Rattle.ffv1_info.proofs.informing.read_first.Goals as goal

pub returns-in-Ok-false-clause-ok : goal.returns-in-Ok-false-clause-ok
returns-in-Ok-false-clause-ok g c =
    let from = c.args.reader.now.place in
    let i = passage g.R.ByteIn.remaining g.R.ByteIn.failures c.args.input.now
    c.read_next.new.input in
    let read = subst (λ (b : Bool). NextAnswers from c.read_next.new.reader.place
    c.read_next.new.payload.items i (Ok b)) c.in-Ok-false.field-0-test
    c.in-Ok-false.ensures.answer in
    (None, refl, read)

pub returns-then-is_empty-clause-ok : goal.returns-then-is_empty-clause-ok
returns-then-is_empty-clause-ok g c =
    let from = c.args.reader.now.place in
    let last = c.read_next.new.reader.place in
    let i = passage g.R.ByteIn.remaining g.R.ByteIn.failures c.args.input.now
    c.read_next.new.input in
    let read = subst (λ (b : Bool). NextAnswers from last c.read_next.new.payload.items i (Ok b))
    c.in-Ok-true.field-0-test c.in-Ok-true.ensures.answer in
    let none = no_bytes c.read_next.new.payload c.is_empty.ensures c.if-is_empty.true in (
      Some Again,
      refl,
      record {
        is = tt;
        reads = record {
          kept = read.kept;
          next = subst (λ z. NextIs from i.old i.new (Some (z, last))) none read.next;
        };
      },
    )

pub returns-in-Ok-clause-ok : goal.returns-in-Ok-clause-ok
returns-in-Ok-clause-ok g c =
    let a = c.args.decoder.now.accepted in
    let payload = c.deref.result.now in
    let tally = c.decode.new.self.tally in
    let info = c.in-Ok.info in
    let answer = c.in-Ok.ensures.exact in
    let found = c.answer_is_ok_for_coded_pictures.ensures.found a payload c.new-sink.result
    c.decode.new.sink tally info c.requires.accepted answer in
    let frame : CodedFrame = record {
      payload = payload;
      planes = found.0;
      said = info;
      tally = tally;
    } in
    let decided = is_decided Drops DropsNot a payload c.new-sink.result c.decode.new.sink tally info
    answer in
    let from = c.args.reader.now.place in
    let last = c.read_next.new.reader.place in
    let i = passage g.R.ByteIn.remaining g.R.ByteIn.failures c.args.input.now
    c.read_next.new.input in
    let read = subst (λ (b : Bool). NextAnswers from last c.read_next.new.payload.items i (Ok b))
    c.in-Ok-true.field-0-test c.in-Ok-true.ensures.answer in
    let next = subst (λ z. NextIs from i.old i.new (Some (z, last))) (sym c.deref.ensures.value)
    read.next in (
      Some (Coded frame),
      refl,
      record {
        is = record { codes = found.1; decided = decided };
        reads = record { kept = read.kept; next = next };
      },
    )

pub returns-in-Err-decode-clause-err : goal.returns-in-Err-decode-clause-err
returns-in-Err-decode-clause-err g c =
    let a = c.args.decoder.now.accepted in
    let payload = c.deref.result.now in
    let tally = c.decode.new.self.tally in
    let f = c.in-Err-decode.fault in
    let answer = c.in-Err-decode.ensures.exact in
    let grid = ap (λ (z : Dropped). z.grid) c.new-sink.ensures ∙
    ap (λ (z : Accepted). division_of z.configuration) c.config.ensures in
    let own = c.sinks_of_own_lines_refuse_none.ensures.dropped a payload c.new-sink.result
    c.decode.new.sink tally f c.requires.accepted answer grid in
    let from = c.args.reader.now.place in
    let last = c.read_next.new.reader.place in
    let i = passage g.R.ByteIn.remaining g.R.ByteIn.failures c.args.input.now
    c.read_next.new.input in
    let read = subst (λ (b : Bool). NextAnswers from last c.read_next.new.payload.items i (Ok b))
    c.in-Ok-true.field-0-test c.in-Ok-true.ensures.answer in
    let next = subst (λ z. NextIs from i.old i.new (Some (z, last))) (sym c.deref.ensures.value)
    read.next in
    inr (inl (record {
      payload = payload;
      fault = f;
      tally = tally;
      has = known_map i.old i.new (λ text rest. frame_read from text ≡ Ok (
        Some (payload, last),
        rest,
      )) (HasThen from [] (NextIsPayload payload))
          (λ text rest is. (from, text, (refl, refl), (last, is))) next;
      faulty = record {
        some = rw c.deref.ensures.value (grind (arith, common_steps, c.is_empty.ensures, c.if-is_empty.false));
        faulty = is_faulty Drops DropsNot a payload c.new-sink.result c.decode.new.sink tally f own
            answer;
      };
      is = c.from.ensures;
      kept = read.kept;
    }))

pub returns-in-Err-decode-clause-own : goal.returns-in-Err-decode-clause-own
returns-in-Err-decode-clause-own g c =
    let a = c.args.decoder.now.accepted in
    let payload = c.deref.result.now in
    let tally = c.decode.new.self.tally in
    let f = c.in-Err-decode.fault in
    let answer = c.in-Err-decode.ensures.exact in
    let grid = ap (λ (z : Dropped). z.grid) c.new-sink.ensures ∙
    ap (λ (z : Accepted). division_of z.configuration) c.config.ensures in
    let own = c.sinks_of_own_lines_refuse_none.ensures.dropped a payload c.new-sink.result
    c.decode.new.sink tally f c.requires.accepted answer grid in
    let decode = c.answered_fault_is_of_decoding.ensures a payload c.new-sink.result
    c.decode.new.sink tally f answer in
    inl (subst (λ z. is_telling_fault z ≡ true) (sym c.from.ensures)
    (payload_tells f.fault decode own))

pub returns-in-Err-clause-err : goal.returns-in-Err-clause-err
returns-in-Err-clause-err g c =
    let from = c.args.reader.now.place in
    let f = c.in-Err.fault in
    let o = g.R.ByteIn.remaining c.args.input.now in
    let b = g.R.ByteIn.failures c.args.input.now in
    let input = passage g.R.ByteIn.remaining g.R.ByteIn.failures c.args.input.now
    c.read_next.new.input in
    rw c.from-in-Err.ensures (inr (inr (ends_by from from o o
    (g.R.ByteIn.remaining c.read_next.new.input) b b
    (g.R.ByteIn.failures c.read_next.new.input) [] (pass_none from o b) (of_avi f)
    (cause_of (of_avi f)) c.in-Err.ensures.answer)))

pub returns-in-Err-clause-own : goal.returns-in-Err-clause-own
returns-in-Err-clause-own g c =
    rw c.from-in-Err.ensures c.in-Err.ensures.own

pub returns-in-Ok-clause-stays : goal.returns-in-Ok-clause-stays
returns-in-Ok-clause-stays g c = λ some. c.in-Ok-true.ensures.stays c.in-Ok-true.field-0-test

pub returns-in-Ok-false-clause-stays : goal.returns-in-Ok-false-clause-stays
returns-in-Ok-false-clause-stays g c = λ some. absurd (let no : false ≡ true = some in cc)
