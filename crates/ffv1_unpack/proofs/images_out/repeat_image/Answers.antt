-- Writes the last image once more, which a payload codes.
use Rattle.std.proofs.Common.{◌≡◌, ◌<◌, Ok, Err, [], length, ap, arith, sym, subst, ◌∙◌}
use Rattle.std.proofs.lemmas.Grind.{common_steps}
use Rattle.std.proofs.lemmas.Result.{err_from_is_err_and}
use Rattle.ffv1_wire.specs.Passage.{passage}
use Rattle.ffv1_record.specs.Accepted.{Accepted, IsAccepted}
use Rattle.ffv1_record.specs.Configuration.{is_rct}
use Rattle.ffv1_unpack.specs.Internal.ImagesOut.{IsSinkFor, RepeatsImage}
use Rattle.ffv1_unpack.specs.Internal.Salvage.{IsImagesOf}
use Rattle.ffv1_unpack.specs.Stream.{IsCoded, coded_frames, last_of}
use Rattle.ffv1_unpack.specs.Unpacked.{HasTextBy}
use Rattle.ffv1_unpack.proofs.ImagesRepeated.{last_coded, last_some, repeats_cut, repeats_none}
use Rattle.ffv1_unpack.proofs.ImagesRepeated.{repeats_whole}
use Rattle.ffv1_unpack.proofs.images_out.repeat_image.Goals as goal

pub returns-then-is_empty-clause-answer : goal.returns-then-is_empty-clause-answer
returns-then-is_empty-clause-answer g c = λ s frames same are kept.
    let none : length c.args.last.now ≡ 0 = grind
    (arith, common_steps, c.is_empty.ensures, c.if-is_empty.true) in
    repeats_none c.args.decoder.now.accepted frames c.args.last.now
    (g.W.ByteOut.contents c.args.sink.now.out) (g.W.ByteOut.failures c.args.sink.now.out) kept none

pub returns-then-is_empty-clause-sink : goal.returns-then-is_empty-clause-sink
returns-then-is_empty-clause-sink g c = λ s frames same are kept. c.requires.sink

pub returns-clause-answer : goal.returns-clause-answer
returns-clause-answer g c = λ s frames same are kept.
    let a = c.args.decoder.now.accepted in
    let some : 0 < length c.args.last.now = grind
    (arith, common_steps, c.is_empty.ensures, c.if-is_empty.false) in
    let f = last_some (last_of (coded_frames frames)) c.args.last.now kept some in
    let ppm = ap (λ (z : Accepted). is_rct z.configuration.colour) same ∙ c.requires.colour in
    let images : IsImagesOf c.args.sink.now s [] = record {
      colours = ppm;
      takes = subst (λ (z : Accepted). IsSinkFor z.configuration c.args.sink.now) (sym same)
          c.requires.sink;
    } in
    let text = subst (λ b. HasTextBy b s.accepted.configuration) (sym ppm)
    (ap (λ (z : Accepted). z.configuration.extra_plane) same ∙ c.requires.opaque) in
    let coded = subst (λ (z : Accepted). IsCoded z f.0) (sym same)
    (last_coded a frames f.0 are f.1) in
    let put = c.in_ok-put.ensures.answer s [] f.0 same
    (subst (λ (z : Accepted). IsAccepted z.configuration z.table) (sym same) c.requires.accepted)
    text images tt coded (sym f.2) in
    let writing = passage g.W.ByteOut.contents g.W.ByteOut.failures c.args.sink.now.out
    c.put.new.self.out in
    subst (λ (z : Accepted). RepeatsImage z frames c.args.last.now writing (Ok tt)) same
    (repeats_whole (λ t fs sink. IsImagesOf sink t fs) s ppm frames f.0 f.1 c.args.last.now f.2
    writing c.put.new.self put)

pub returns-clause-sink : goal.returns-clause-sink
returns-clause-sink g c = λ s frames same are kept.
    let a = c.args.decoder.now.accepted in
    let some : 0 < length c.args.last.now = grind
    (arith, common_steps, c.is_empty.ensures, c.if-is_empty.false) in
    let f = last_some (last_of (coded_frames frames)) c.args.last.now kept some in
    let ppm = ap (λ (z : Accepted). is_rct z.configuration.colour) same ∙ c.requires.colour in
    let images : IsImagesOf c.args.sink.now s [] = record {
      colours = ppm;
      takes = subst (λ (z : Accepted). IsSinkFor z.configuration c.args.sink.now) (sym same)
          c.requires.sink;
    } in
    let text = subst (λ b. HasTextBy b s.accepted.configuration) (sym ppm)
    (ap (λ (z : Accepted). z.configuration.extra_plane) same ∙ c.requires.opaque) in
    let coded = subst (λ (z : Accepted). IsCoded z f.0) (sym same)
    (last_coded a frames f.0 are f.1) in
    let put = c.in_ok-put.ensures.answer s [] f.0 same
    (subst (λ (z : Accepted). IsAccepted z.configuration z.table) (sym same) c.requires.accepted)
    text images tt coded (sym f.2) in
    subst (λ (z : Accepted). IsSinkFor z.configuration c.put.new.self) same put.0.takes

pub returns-in_err-put-clause-answer : goal.returns-in_err-put-clause-answer
returns-in_err-put-clause-answer g c = λ s frames same are kept.
    let p = err_from_is_err_and c.from_residual.result c.from_residual.ensures.1 in
    let a = c.args.decoder.now.accepted in
    let e = c.in_err-put.field-0.0 in
    let some : 0 < length c.args.last.now = grind
    (arith, common_steps, c.is_empty.ensures, c.if-is_empty.false) in
    let f = last_some (last_of (coded_frames frames)) c.args.last.now kept some in
    let ppm = ap (λ (z : Accepted). is_rct z.configuration.colour) same ∙ c.requires.colour in
    let images : IsImagesOf c.args.sink.now s [] = record {
      colours = ppm;
      takes = subst (λ (z : Accepted). IsSinkFor z.configuration c.args.sink.now) (sym same)
          c.requires.sink;
    } in
    let text = subst (λ b. HasTextBy b s.accepted.configuration) (sym ppm)
    (ap (λ (z : Accepted). z.configuration.extra_plane) same ∙ c.requires.opaque) in
    let coded = subst (λ (z : Accepted). IsCoded z f.0) (sym same)
    (last_coded a frames f.0 are f.1) in
    let put = c.in_err-put.ensures.answer s [] f.0 same
    (subst (λ (z : Accepted). IsAccepted z.configuration z.table) (sym same) c.requires.accepted)
    text images tt coded (sym f.2) in
    let writing = passage g.W.ByteOut.contents g.W.ByteOut.failures c.args.sink.now.out
    c.put.new.self.out in
    rw (p.1, p.2) (subst (λ (z : Accepted). RepeatsImage z frames c.args.last.now writing (Err e))
    same (repeats_cut (λ t fs sink. IsImagesOf sink t fs) s ppm frames f.0 f.1 c.args.last.now f.2
    writing c.put.new.self e put))
