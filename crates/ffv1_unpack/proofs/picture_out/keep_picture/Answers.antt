-- Decodes a payload into what keeps its lines.
use Rattle.std.proofs.Common.{◌∙◌, inl, inr, refl}
use Rattle.ffv1_codec.specs.Lines.{lines_of}
use Rattle.ffv1_codec.specs.Outcome.{lines_before}
use Rattle.ffv1_unpack.specs.Stream.{CodedFrame}
use Rattle.ffv1_unpack.proofs.picture_out.keep_picture.Goals as goal

pub returns-in-Ok-clause-ok : goal.returns-in-Ok-clause-ok
returns-in-Ok-clause-ok g c =
    let a = c.args.decoder.now.accepted in
    let payload = c.args.payload.now in
    let tally = c.decode.new.self.tally in
    let info = c.in-Ok.info in
    let found = c.in-Ok.ensures.headline.found info refl in
    let frame : CodedFrame = record {
      payload = payload;
      planes = found.0;
      said = info;
      tally = tally;
    } in
    let decided = c.payload_has_one_outcome.ensures.count a payload c.args.kept.now
    c.decode.new.sink tally info c.in-Ok.ensures.exact in
    (frame, record { codes = found.1; decided = decided }, refl, refl)

pub returns-in-Ok-clause-holds : goal.returns-in-Ok-clause-holds
returns-in-Ok-clause-holds g c = λ accepted keeps. record {
  only = λ others other codes.
      let only = c.in-Ok.ensures.headline.only others other codes in
      let kept = c.kept_lines_make_up_the_picture.ensures.picture c.args.decoder.now.accepted
      others c.args.kept.now c.decode.new.sink accepted codes.picture.fits keeps.grid
      keeps.planes only.1 in
      (only.0, kept.0);
}

pub returns-in-Ok-clause-kept : goal.returns-in-Ok-clause-kept
returns-in-Ok-clause-kept g c = λ accepted keeps.
    let found = c.in-Ok.ensures.headline.found c.in-Ok.info refl in
    let kept = c.kept_lines_make_up_the_picture.ensures.lines c.args.kept.now c.decode.new.sink
    (lines_of c.args.decoder.now.accepted.configuration found.0) keeps.planes found.2 in
    record { grid = kept.0 ∙ keeps.grid; planes = kept.1 }

pub returns-in-Err-clause-err : goal.returns-in-Err-clause-err
returns-in-Err-clause-err g c = λ accepted keeps.
    let a = c.args.decoder.now.accepted in
    let payload = c.args.payload.now in
    let tally = c.decode.new.self.tally in
    let own = c.sinks_of_own_lines_refuse_none.ensures.kept a payload c.args.kept.now
    c.decode.new.sink tally c.in-Err.fault accepted c.in-Err.ensures.exact keeps.grid in (
      tally,
      c.payload_has_one_outcome.ensures.fault a payload c.args.kept.now c.decode.new.sink tally
          c.in-Err.fault own c.in-Err.ensures.exact,
    )

pub returns-in-Err-clause-none : goal.returns-in-Err-clause-none
returns-in-Err-clause-none g c = λ accepted keeps planes said codes.
    let own = c.sinks_of_own_lines_refuse_none.ensures.kept c.args.decoder.now.accepted
    c.args.payload.now c.args.kept.now c.decode.new.sink c.decode.new.self.tally c.in-Err.fault
    accepted c.in-Err.ensures.exact keeps.grid in
    own (c.in-Err.ensures.headline.only planes said codes).0

pub returns-in-Err-clause-kept : goal.returns-in-Err-clause-kept
returns-in-Err-clause-kept g c = λ accepted keeps.
    let a = c.args.decoder.now.accepted in
    let payload = c.args.payload.now in
    let old = c.args.kept.now in
    let new = c.decode.new.sink in
    let tally = c.decode.new.self.tally in
    let f = c.in-Err.fault in
    elim (c.payload_has_one_outcome.ensures.lines a payload old new tally f
    c.in-Err.ensures.exact) [
      | inl before ↦
          let kept = c.kept_lines_make_up_the_picture.ensures.lines old new
          (lines_before before.0) keeps.planes before.1 in
          record { grid = kept.0 ∙ keeps.grid; planes = kept.1 }
      | inr sink ↦
          absurd
          (c.sinks_of_own_lines_refuse_none.ensures.kept a payload old new tally f accepted
          c.in-Err.ensures.exact keeps.grid sink.0)
    ]
