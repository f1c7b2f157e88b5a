-- Judges the payload that was read last, and writes its line if it has a fault.
use Rattle.std.proofs.Common.{List, ℕ, Some, Err, ap, refl, sym, subst, ◌∙◌, arith}
use Rattle.std.proofs.lemmas.Grind.{common_steps}
use Rattle.std.specs.Io.KnownBytes.{Appends}
use Rattle.std.proofs.lemmas.Result.{err_from_is_err_and}
use Rattle.ffv1_wire.specs.Passage.{passage}
use Rattle.ffv1_record.specs.Accepted.{Accepted}
use Rattle.ffv1_codec.specs.Outcome.{FaultsOf}
use Rattle.ffv1_unpack.specs.Internal.Judged.{one_counted}
use Rattle.ffv1_unpack.specs.Internal.Told.{WritesFrame}
use Rattle.ffv1_unpack.specs.Judged.{Decoded, Refused, Repeats}
use Rattle.ffv1_unpack.specs.Stream.{IsCoded, IsRefusedPayload}
use Rattle.ffv1_unpack.proofs.SalvageLists.{bad_line, good_counts, good_line, stands_again, stands_bad}
use Rattle.ffv1_unpack.proofs.SalvageLists.{stands_good}
use Rattle.std.proofs.KnownBytes.{Appends-nil}
use Rattle.ffv1_unpack.proofs.FramesInTurn.{no_bytes}
use Rattle.ffv1_unpack.proofs.salvaging.tell_frame.Goals as goal

-- a payload without bytes is counted alone
pub returns-then-is_empty-clause-answer : goal.returns-then-is_empty-clause-answer
returns-then-is_empty-clause-answer g c = λ s before fs same kind stands ready. (
  Repeats,
  record { is = tt; of = sym (no_bytes c.args.player.now.payload c.is_empty.ensures c.if-is_empty.true) },
  refl,
  Appends-nil (g.L.ByteOut.contents c.args.lines.now),
  stands_again s before c.args.salvage.now.counts c.count.new.self c.args.salvage.now.header
      c.args.salvage.now.last.items stands c.count.ensures,
)

pub returns-then-is_empty-clause-fits : goal.returns-then-is_empty-clause-fits
returns-then-is_empty-clause-fits g c = λ s fs same ready held. (ready, held)

pub returns-in_err-tell_good-in-Ok-clause-answer : goal.returns-in_err-tell_good-in-Ok-clause-answer
returns-in_err-tell_good-in-Ok-clause-answer g c = λ s before fs same kind stands ready.
    let p = err_from_is_err_and c.from_residual.result c.from_residual.ensures.1 in
    let judged = c.in-Ok.ensures.ok in
    let f = judged.0 in
    let of = judged.2 ∙ c.deref.ensures.value in
    let old = c.args.salvage.now in
    let written = passage g.L.ByteOut.contents g.L.ByteOut.failures c.args.lines.now
    c.tell_good.new.lines in
    rw (p.1, p.2) (
      Decoded f,
      record { is = subst (λ (z : Accepted). IsCoded z f) (sym same) judged.1; of = of },
      subst (λ z. WritesFrame z written (Err c.in_err-tell_good-in-Ok.field-0.0))
          (good_line s before old.counts old.header old.last.items stands old.ppm c.in-Ok.info f
          kind judged.3) c.in_err-tell_good-in-Ok.ensures.told,
    )

pub returns-in_ok-tell_good-in-Ok-clause-answer : goal.returns-in_ok-tell_good-in-Ok-clause-answer
returns-in_ok-tell_good-in-Ok-clause-answer g c = λ s before fs same kind stands ready.
    let judged = c.in-Ok.ensures.ok in
    let f = judged.0 in
    let of = judged.2 ∙ c.deref.ensures.value in
    let info = c.in-Ok.info in
    let old = c.args.salvage.now in
    let new = c.keep_good.new.salvage in
    let told = c.in_ok-tell_good-in-Ok.ensures.told in (
      Decoded f,
      record { is = subst (λ (z : Accepted). IsCoded z f) (sym same) judged.1; of = of },
      told.0,
      subst (Appends (g.L.ByteOut.contents c.args.lines.now)
          (g.L.ByteOut.contents c.tell_good.new.lines))
          (good_line s before old.counts old.header old.last.items stands old.ppm info f kind
          judged.3) told.1,
      stands_good s before old.counts new.counts old.header old.last.items stands f new.header
          new.last.items
          (good_counts s before old.counts old.header old.last.items stands old.ppm info f
          new.counts kind judged.3
          (c.keep_good.ensures.counts ∙ c.in_ok-tell_good-in-Ok.ensures.counts))
          (λ none. c.keep_good.ensures.first (c.tell_good.ensures.header ∙ none)
          ∙ ap Some (sym judged.3))
          (λ said is. c.keep_good.ensures.again said (c.tell_good.ensures.header ∙ is))
          (c.keep_good.ensures.last ∙ sym of),
    )

pub returns-in_ok-tell_good-in-Ok-clause-fits : goal.returns-in_ok-tell_good-in-Ok-clause-fits
returns-in_ok-tell_good-in-Ok-clause-fits g c = λ s fs same ready held. (
  c.judge.ensures.ready s fs same ready,
  subst (λ (z : List ℕ). g.P.PictureOut.fits s z c.judge.new.self)
      (c.deref.ensures.value ∙ sym c.keep_good.ensures.last)
      (c.in-Ok.ensures.fits s fs same ready),
)

pub returns-in_err-write_refused-in-Err-clause-answer :
    goal.returns-in_err-write_refused-in-Err-clause-answer
returns-in_err-write_refused-in-Err-clause-answer g c = λ s before fs same kind stands ready.
    let p = err_from_is_err_and c.from_residual-in_err-write_refused-in-Err.result
    c.from_residual-in_err-write_refused-in-Err.ensures.1 in
    let judged = c.in-Err.ensures.err s fs same ready in
    let payload = c.args.player.now.payload.items in
    let f = c.in-Err.fault in
    let faults = subst (λ (z : List ℕ). FaultsOf c.args.player.now.decoder.accepted z f judged.0)
    c.deref.ensures.value judged.1 in
    let old = c.args.salvage.now in
    let written = passage g.L.ByteOut.contents g.L.ByteOut.failures c.args.lines.now
    c.write_refused.new.output in
    rw (p.1, p.2) (
      Refused payload f judged.0,
      record {
        is = subst (λ (z : Accepted). IsRefusedPayload z payload f judged.0) (sym same) (record {
          some = grind (arith, common_steps, c.is_empty.ensures, c.if-is_empty.false);
          faulty = faults;
        });
        of = refl;
      },
      subst (λ z. WritesFrame z written (Err c.in_err-write_refused-in-Err.field-0.0))
          (bad_line s before old.counts old.header old.last.items stands payload f judged.0)
          c.in_err-write_refused-in-Err.ensures,
    )

pub returns-in_ok-write_refused-in-Err-clause-answer :
    goal.returns-in_ok-write_refused-in-Err-clause-answer
returns-in_ok-write_refused-in-Err-clause-answer g c = λ s before fs same kind stands ready.
    let judged = c.in-Err.ensures.err s fs same ready in
    let payload = c.args.player.now.payload.items in
    let f = c.in-Err.fault in
    let faults = subst (λ (z : List ℕ). FaultsOf c.args.player.now.decoder.accepted z f judged.0)
    c.deref.ensures.value judged.1 in
    let old = c.args.salvage.now in
    let told = c.in_ok-write_refused-in-Err.ensures in (
      Refused payload f judged.0,
      record {
        is = subst (λ (z : Accepted). IsRefusedPayload z payload f judged.0) (sym same) (record {
          some = grind (arith, common_steps, c.is_empty.ensures, c.if-is_empty.false);
          faulty = faults;
        });
        of = refl;
      },
      told.0,
      subst (Appends (g.L.ByteOut.contents c.args.lines.now)
          (g.L.ByteOut.contents c.write_refused.new.output))
          (bad_line s before old.counts old.header old.last.items stands payload f judged.0)
          told.1,
      stands_bad s before old.counts c.count-in-Err.new.self old.header old.last.items stands payload f
          judged.0
          (c.count-in-Err.ensures ∙ ap (λ z. one_counted old.counts (Some z)) c.from.ensures),
    )
