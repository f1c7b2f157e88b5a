-- Decodes the payload that was read last, writes its lines and counts it.
use Rattle.std.proofs.Common.{◌≡◌, refl, Some, ap, sym, ◌∙◌, arith}
use Rattle.std.proofs.lemmas.Grind.{common_steps}
use Rattle.std.proofs.lemmas.Result.{err_from_is_err_and}
use Rattle.ffv1_record.specs.Accepted.{Accepted}
use Rattle.ffv1_slice.specs.Grid.{division_of}
use Rattle.ffv1_frame.specs.Answer.{Decoder}
use Rattle.ffv1_codec.specs.Kept.{Dropped, Drops, DropsNot}
use Rattle.ffv1_unpack.specs.Internal.Judged.{one_counted}
use Rattle.ffv1_unpack.specs.Judged.Judged.{Decoded, Refused, Repeats}
use Rattle.ffv1_unpack.specs.Stream.{CodedFrame}
use Rattle.ffv1_unpack.proofs.FrameDecoded.{is_decided, is_faulty}
use Rattle.ffv1_unpack.proofs.FramesInTurn.{no_bytes}
use Rattle.ffv1_unpack.proofs.judging_items.judge_payload.Goals as goal

pub returns-in_err-write_again-clause-answer :
    goal.returns-in_err-write_again-clause-answer
returns-in_err-write_again-clause-answer g c =
    let p = err_from_is_err_and c.from_residual.result c.from_residual.ensures.1 in
    rw (p.1, p.2) (
      Repeats,
      tt,
      sym (no_bytes c.args.player.now.payload c.is_empty.ensures c.if-is_empty.true),
      c.in_err-write_again.ensures,
    )

pub returns-then-is_empty-clause-answer :
    goal.returns-then-is_empty-clause-answer
returns-then-is_empty-clause-answer g c =
    let writes = c.in_ok-write_again.ensures in (
      Repeats,
      tt,
      sym (no_bytes c.args.player.now.payload c.is_empty.ensures c.if-is_empty.true),
      writes.0,
      writes.1,
      c.count.ensures,
    )

pub returns-in_err-write_line-in-Ok-clause-answer :
    goal.returns-in_err-write_line-in-Ok-clause-answer
returns-in_err-write_line-in-Ok-clause-answer g c =
    let p = err_from_is_err_and c.from_residual-in_err-write_line-in-Ok.result
    c.from_residual-in_err-write_line-in-Ok.ensures.1 in
    let a = c.args.player.now.decoder.accepted in
    let payload = c.args.player.now.payload.items in
    let tally = c.decode.new.self.tally in
    let info = c.in-Ok._info in
    let same : c.decode.new.self.accepted ≡ a = ap (λ (z : Decoder). z.accepted)
    c.decode.ensures.same in
    let answer = rw c.deref.ensures.value at c.in-Ok.ensures.exact in
    let found = c.answer_is_ok_for_coded_pictures.ensures.found a payload c.new-sink.result
    c.decode.new.sink tally info c.requires.accepted answer in
    let frame : CodedFrame = record {
      payload = payload;
      planes = found.0;
      said = info;
      tally = tally;
    } in
    let decided = is_decided Drops DropsNot a payload c.new-sink.result c.decode.new.sink tally
    info answer in
    rw (p.1, p.2) (
      Decoded frame,
      record { codes = found.1; decided = decided },
      refl,
      rw (same, c.deref-in-Ok.ensures.value) at c.in_err-write_line-in-Ok.ensures,
    )

pub returns-in_ok-write_line-in-Ok-clause-answer :
    goal.returns-in_ok-write_line-in-Ok-clause-answer
returns-in_ok-write_line-in-Ok-clause-answer g c =
    let a = c.args.player.now.decoder.accepted in
    let payload = c.args.player.now.payload.items in
    let tally = c.decode.new.self.tally in
    let info = c.in-Ok._info in
    let same : c.decode.new.self.accepted ≡ a = ap (λ (z : Decoder). z.accepted)
    c.decode.ensures.same in
    let answer = rw c.deref.ensures.value at c.in-Ok.ensures.exact in
    let found = c.answer_is_ok_for_coded_pictures.ensures.found a payload c.new-sink.result
    c.decode.new.sink tally info c.requires.accepted answer in
    let frame : CodedFrame = record {
      payload = payload;
      planes = found.0;
      said = info;
      tally = tally;
    } in
    let decided = is_decided Drops DropsNot a payload c.new-sink.result c.decode.new.sink tally
    info answer in
    let writes = rw (same, c.deref-in-Ok.ensures.value) at
    c.in_ok-write_line-in-Ok.ensures in (
      Decoded frame,
      record { codes = found.1; decided = decided },
      refl,
      writes.0,
      writes.1,
      c.count-in-Ok.ensures,
    )

pub returns-in_err-write_refusal-in-Err-clause-answer :
    goal.returns-in_err-write_refusal-in-Err-clause-answer
returns-in_err-write_refusal-in-Err-clause-answer g c =
    let p = err_from_is_err_and c.from_residual-in_err-write_refusal-in-Err.result
    c.from_residual-in_err-write_refusal-in-Err.ensures.1 in
    let a = c.args.player.now.decoder.accepted in
    let payload = c.args.player.now.payload.items in
    let tally = c.decode.new.self.tally in
    let f = c.in-Err.fault in
    let answer = rw c.deref.ensures.value at c.in-Err.ensures.exact in
    let grid = ap (λ (z : Dropped). z.grid) c.new-sink.ensures ∙
    ap (λ (z : Accepted). division_of z.configuration) c.config.ensures in
    let own = c.sinks_of_own_lines_refuse_none.ensures.dropped a payload c.new-sink.result
    c.decode.new.sink tally f c.requires.accepted answer grid in
    rw (p.1, p.2) (
      Refused payload f tally,
      record {
        some = grind (arith, common_steps, c.is_empty.ensures, c.if-is_empty.false);
        faulty = is_faulty Drops DropsNot a payload c.new-sink.result c.decode.new.sink tally f own
            answer;
      },
      refl,
      c.in_err-write_refusal-in-Err.ensures,
    )

pub returns-in_ok-write_refusal-in-Err-clause-answer :
    goal.returns-in_ok-write_refusal-in-Err-clause-answer
returns-in_ok-write_refusal-in-Err-clause-answer g c =
    let a = c.args.player.now.decoder.accepted in
    let payload = c.args.player.now.payload.items in
    let tally = c.decode.new.self.tally in
    let f = c.in-Err.fault in
    let answer = rw c.deref.ensures.value at c.in-Err.ensures.exact in
    let grid = ap (λ (z : Dropped). z.grid) c.new-sink.ensures ∙
    ap (λ (z : Accepted). division_of z.configuration) c.config.ensures in
    let own = c.sinks_of_own_lines_refuse_none.ensures.dropped a payload c.new-sink.result
    c.decode.new.sink tally f c.requires.accepted answer grid in
    let writes = c.in_ok-write_refusal-in-Err.ensures in (
      Refused payload f tally,
      record {
        some = grind (arith, common_steps, c.is_empty.ensures, c.if-is_empty.false);
        faulty = is_faulty Drops DropsNot a payload c.new-sink.result c.decode.new.sink tally f own
            answer;
      },
      refl,
      writes.0,
      writes.1,
      c.count-in-Err.ensures ∙ ap (λ z. one_counted c.args.counts.now (Some z)) c.from.ensures,
    )
