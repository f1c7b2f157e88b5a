-- Where frames are looked for next after the end of a movi; None at the end.
use Rattle.std.proofs.Common.{◌<◌, [], Option, None, inl, refl, arith}
use Rattle.std.proofs.lemmas.Result.{err_from_is_err_and}
use Rattle.ffv1_avi.specs.declared.place.Extent.TheVariants.{EveryRiff}
use Rattle.ffv1_avi.specs.declared.place.Place.{Place}
use Rattle.ffv1_avi.specs.Files.{moved, movi_or_riff, movi_sought, riff_begun}
use Rattle.ffv1_avi.specs.Places.{extent_of}
use Rattle.ffv1_reads.specs.Reads.{◌>>=◌}
use Rattle.ffv1_avi.proofs.EndReadings.{none_given, none_last, none_refused}
use Rattle.ffv1_avi.proofs.Moves.{extent_every, extent_first, moved_every, moved_first}
use Rattle.ffv1_avi.proofs.RiffReadings.{moves_behind, moves_then}
use Rattle.ffv1_reads.proofs.Reading.{consumes_none, goes_none, goes_read, goes_same}
use Rattle.ffv1_avi.proofs.EndReadings.{none_err}
use Rattle.ffv1_avi.proofs.riff.move_on.Goals as goal

pub returns-then-place-eq0-clause-answer : goal.returns-then-place-eq0-clause-answer
returns-then-place-eq0-clause-answer g c = (
  refl,
  inl
      (record {
        bytes = [];
        consumed = consumes_none (g.R.ByteIn.remaining c.args.input.now);
        is =
            moved_first c.args.place c.if-place-eq0.true;
      }),
)

pub returns-in_err-movi-clause-answer : goal.returns-in_err-movi-clause-answer
returns-in_err-movi-clause-answer g c = none_err _ _ _ _ _ _ c.from_residual.ensures.1
    (none_refused (extent_of c.args.place) _ _ _ _ _ (goes_same _ _
    (moved_every c.args.place c.if-place-eq0.false) (goes_none _ _ _)) c.in_err-movi.ensures.answer)

pub returns-in_default-clause-answer : goal.returns-in_default-clause-answer
returns-in_default-clause-answer g c =
    let place = c.args.place in
    let start = goes_same _ (movi_sought place.names place.riff >>= movi_or_riff place)
    (moved_every place c.if-place-eq0.false)
    (goes_none (moved place) (g.R.ByteIn.remaining c.args.input.now)
    (g.R.ByteIn.failures c.args.input.now)) in
    let here = goes_read (movi_sought place.names place.riff) (movi_or_riff place) _ _ None start
    (rw c.in_default.is at c.in_ok-movi.ensures.answer) in
    rw (extent_every place c.if-place-eq0.false)
    (none_last EveryRiff (riff_begun place) (λ (q : Option Place). q) _ _ c.count_riff.result
    here c.count_riff.ensures.answer)

pub returns-clause-answer : goal.returns-clause-answer
returns-clause-answer g c = none_given (extent_of c.args.place) _
    (goes_read _ _ _ _ _ (goes_same _ _ (moved_every c.args.place c.if-place-eq0.false)
    (goes_none _ _ _)) (rw c.in-Some.is at c.in_ok-movi.ensures.answer))

pub returns-in_err-movi-clause-from : goal.returns-in_err-movi-clause-from
returns-in_err-movi-clause-from g c =
    let p = err_from_is_err_and c.from_residual.result c.from_residual.ensures.1 in
    let some : 0 < c.args.place.input = omega (arith, c.if-place-eq0.false) in
    rw (p.1, p.2) (c.in_err-movi.ensures.from c.requires some)

pub returns-in_default-clause-from : goal.returns-in_default-clause-from
returns-in_default-clause-from g c =
    let some : 0 < c.args.place.input = omega (arith, c.if-place-eq0.false) in
    moves_then _ _ _ c.count_riff.result (rw c.in_default.is at c.in_ok-movi.ensures.answer).0
    (rw c.in_default.is at c.in_ok-movi.ensures.from c.requires some)
    (c.count_riff.ensures.from c.requires some)

pub returns-clause-from : goal.returns-clause-from
returns-clause-from g c =
    let some : 0 < c.args.place.input = omega (arith, c.if-place-eq0.false) in
    rw c.in-Some.is at c.in_ok-movi.ensures.from c.requires some

pub returns-then-place-eq0-clause-behind : goal.returns-then-place-eq0-clause-behind
returns-then-place-eq0-clause-behind g c = λ none.
    rw (extent_first c.args.place c.if-place-eq0.true) (refl, refl)

pub returns-in_err-movi-clause-behind : goal.returns-in_err-movi-clause-behind
returns-in_err-movi-clause-behind g c =
    let p = err_from_is_err_and c.from_residual.result c.from_residual.ensures.1 in rw (p.1) tt

pub returns-in_default-clause-behind : goal.returns-in_default-clause-behind
returns-in_default-clause-behind g c =
    let some : 0 < c.args.place.input = omega (arith, c.if-place-eq0.false) in
    moves_behind _ _ _ _ c.args.place c.count_riff.result c.requires some
    (rw c.in_default.is at c.in_ok-movi.ensures.from c.requires some) c.count_riff.ensures.answer
    c.count_riff.ensures.told
