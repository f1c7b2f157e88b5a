-- Decodes all frames of a file that the profile reads, and goes on after a payload that is refused,
-- and at `Wide` after a fault of the file itself.
use Rattle.std.proofs.Common.{◌≡◌, true, false, ap, sym, ◌∙◌, inl, inr}
use Rattle.ffv1_wire.specs.Passage.{passage}
use Rattle.ffv1_unpack.specs.Internal.Plainly.{is_plain}
use Rattle.ffv1_unpack.proofs.OpenedAs.{read_on_as}
use Rattle.ffv1_unpack.proofs.OwnFaults.{opening_checks, passing_checks}
use Rattle.ffv1_unpack.proofs.ReadAgain.{passing_again}
use Rattle.ffv1_unpack.proofs.ToldChecks.{check_refused, err_so, ok_so, on_again, on_checks, on_tried}
use Rattle.ffv1_unpack.proofs.ToldChecks.{plain_tried, refused_again, refused_own, refused_tried}
use Rattle.ffv1_unpack.proofs.ToldChecks.{way_plain, way_tells}
use Rattle.ffv1_unpack.proofs.checking.check_all.Goals as goal

pub returns-then-is_plain-clause-ok : goal.returns-then-is_plain-clause-ok
returns-then-is_plain-clause-ok g c =
    let none = way_plain c.open_telling.new.way c.tells.result c.tells.ensures c.if-tells.false in
    let stands = c.in-Ok.ensures.stands none in
    let is = ap is_plain (sym c.course.ensures) ∙ sym c.is_plain.ensures ∙ c.if-is_plain.true in
    let read = read_on_as c.args.profile (g.R.ByteIn.remaining c.args.input.now)
    (g.R.ByteIn.remaining c.open_telling.new.input) c.in-Ok.player.reader stands true
    is in
    ok_so _ _ c.judge_plainly.result (λ told h. inl (read, h))
    (c.judge_plainly.ensures.ok c.args.profile (g.R.ByteIn.remaining c.args.input.now)
    (g.R.ByteIn.failures c.args.input.now) (c.in-Ok.ensures.ok none) stands)

pub returns-then-is_plain-clause-err : goal.returns-then-is_plain-clause-err
returns-then-is_plain-clause-err g c =
    let none = way_plain c.open_telling.new.way c.tells.result c.tells.ensures c.if-tells.false in
    let stands = c.in-Ok.ensures.stands none in
    let is = ap is_plain (sym c.course.ensures) ∙ sym c.is_plain.ensures ∙ c.if-is_plain.true in
    let read = read_on_as c.args.profile (g.R.ByteIn.remaining c.args.input.now)
    (g.R.ByteIn.remaining c.open_telling.new.input) c.in-Ok.player.reader stands true
    is in
    err_so _ _ c.judge_plainly.result (λ f h. inl (read, h))
    (c.judge_plainly.ensures.err c.args.profile (g.R.ByteIn.remaining c.args.input.now)
    (g.R.ByteIn.failures c.args.input.now) (c.in-Ok.ensures.ok none) stands c.tells_byte-byte.ensures)

pub returns-then-is_plain-clause-own : goal.returns-then-is_plain-clause-own
returns-then-is_plain-clause-own g c =
    let none = way_plain c.open_telling.new.way c.tells.result c.tells.ensures c.if-tells.false in
    let stands = c.in-Ok.ensures.stands none in
    err_so _ _ c.judge_plainly.result (λ f h. passing_checks c.args.profile c.in-Ok.player.reader
    (g.R.ByteIn.remaining c.args.input.now) (g.R.ByteIn.remaining c.open_telling.new.input)
    f stands (c.in-Ok.ensures.ok none).within h) c.judge_plainly.ensures.own

pub returns-then-is_plain-clause-again : goal.returns-then-is_plain-clause-again
returns-then-is_plain-clause-again g c =
    err_so _ _ c.judge_plainly.result (λ f h. inl (passing_again c.args.profile (g.R.AgainIn.begins c.args.input.now)
    (passage g.R.ByteIn.remaining g.R.ByteIn.failures c.args.input.now c.judge_plainly.new.input)
    c.in-Ok.player.reader (g.R.ByteIn.remaining c.open_telling.new.input) f h))
    c.judge_plainly.ensures.own

pub returns-then-is_plain-clause-tried : goal.returns-then-is_plain-clause-tried
returns-then-is_plain-clause-tried g c =
    let is = ap is_plain (sym c.course.ensures) ∙ sym c.is_plain.ensures ∙ c.if-is_plain.true in
    err_so _ _ c.judge_plainly.result (plain_tried (passage g.R.ByteIn.remaining g.R.ByteIn.failures c.args.input.now c.judge_plainly.new.input)
    c.in-Ok.player.reader (g.R.ByteIn.remaining c.open_telling.new.input) is)
    c.judge_plainly.ensures.own

pub returns-clause-ok : goal.returns-clause-ok
returns-clause-ok g c =
    let none = way_plain c.open_telling.new.way c.tells.result c.tells.ensures c.if-tells.false in
    let stands = c.in-Ok.ensures.stands none in
    let is = ap is_plain (sym c.course.ensures) ∙ sym c.is_plain.ensures ∙ c.if-is_plain.false in
    let read = read_on_as c.args.profile (g.R.ByteIn.remaining c.args.input.now)
    (g.R.ByteIn.remaining c.open_telling.new.input) c.in-Ok.player.reader stands false
    is in
    ok_so _ _ c.judge_on.result (λ told h. inr (inl (read, h)))
    (c.judge_on.ensures.ok c.args.profile (g.R.ByteIn.remaining c.args.input.now)
    (g.R.ByteIn.failures c.args.input.now) (c.in-Ok.ensures.ok none) stands c.in-Ok.ensures.uncued)

pub returns-clause-err : goal.returns-clause-err
returns-clause-err g c =
    let none = way_plain c.open_telling.new.way c.tells.result c.tells.ensures c.if-tells.false in
    let stands = c.in-Ok.ensures.stands none in
    let is = ap is_plain (sym c.course.ensures) ∙ sym c.is_plain.ensures ∙ c.if-is_plain.false in
    let read = read_on_as c.args.profile (g.R.ByteIn.remaining c.args.input.now)
    (g.R.ByteIn.remaining c.open_telling.new.input) c.in-Ok.player.reader stands false
    is in
    err_so _ _ c.judge_on.result (λ f h. inr (inl (read, h)))
    (c.judge_on.ensures.err c.args.profile (g.R.ByteIn.remaining c.args.input.now)
    (g.R.ByteIn.failures c.args.input.now) (c.in-Ok.ensures.ok none) stands c.in-Ok.ensures.uncued)

pub returns-clause-own : goal.returns-clause-own
returns-clause-own g c = err_so _ _ c.judge_on.result (on_checks c.args.profile) c.judge_on.ensures.own

pub returns-clause-again : goal.returns-clause-again
returns-clause-again g c =
    err_so _ _ c.judge_on.result (λ f h. inl (on_again c.args.profile (g.R.AgainIn.begins c.args.input.now)
    (passage g.R.ByteIn.remaining g.R.ByteIn.failures c.args.input.now c.judge_on.new.input) f h))
    c.judge_on.ensures.own

pub returns-clause-tried : goal.returns-clause-tried
returns-clause-tried g c =
    err_so _ _ c.judge_on.result (on_tried (passage g.R.ByteIn.remaining g.R.ByteIn.failures c.args.input.now c.judge_on.new.input))
    c.judge_on.ensures.own

-- ---- it is refused

pub returns-in-Err-clause-err : goal.returns-in-Err-clause-err
returns-in-Err-clause-err g c =
    let refused = c.refused_at.ensures in
    check_refused c.args.profile c.args.place (g.R.ByteIn.remaining c.args.input.now)
    (g.R.ByteIn.remaining c.open_telling.new.input) (g.W.ByteOut.contents c.args.output.now)
    (g.W.ByteOut.contents c.tell_refused.new.output) (g.R.ByteIn.failures c.args.input.now)
    (g.R.ByteIn.failures c.open_telling.new.input) (g.W.ByteOut.failures c.args.output.now)
    (g.W.ByteOut.failures c.tell_refused.new.output) c.open_telling.new.told.data
    c.open_telling.new.told.faults.items c.in-Err.fault c.open_telling.new.offset
    c.tells_byte-byte.result c.tell_refused.result c.open_telling.new.way c.tells_byte-byte.ensures
    c.in-Err.ensures.none c.in-Err.ensures.err c.in-Err.ensures.stopped c.in-Err.ensures.plainly
    c.in-Err.ensures.refused (rw refused at c.tell_refused.ensures.none)
    (rw refused at c.tell_refused.ensures.some)

pub returns-in-Err-clause-own : goal.returns-in-Err-clause-own
returns-in-Err-clause-own g c =
    refused_own c.args.profile c.in-Err.fault c.tell_refused.result
    (rw c.refused_at.ensures at c.tell_refused.ensures.own)
    (opening_checks c.args.profile c.in-Err.fault c.in-Err.ensures.own)

pub returns-in-Err-clause-again : goal.returns-in-Err-clause-again
returns-in-Err-clause-again g c =
    refused_again c.args.profile c.in-Err.fault c.tell_refused.result
    (rw c.refused_at.ensures at c.tell_refused.ensures.own) (g.R.AgainIn.begins c.args.input.now)
    (passage g.R.ByteIn.remaining g.R.ByteIn.failures c.args.input.now c.open_telling.new.input)
    c.in-Err.ensures.again

pub returns-in-Err-clause-tried : goal.returns-in-Err-clause-tried
returns-in-Err-clause-tried g c =
    refused_tried (passage g.R.ByteIn.remaining g.R.ByteIn.failures c.args.input.now
    c.open_telling.new.input) c.in-Err.fault c.tell_refused.result
    (rw c.refused_at.ensures at c.tell_refused.ensures.own) c.in-Err.ensures.tried

-- ---- something is told

pub returns-then-tells-clause-ok : goal.returns-then-tells-clause-ok
returns-then-tells-clause-ok g c =
    let some = way_tells c.open_telling.new.way c.tells.result c.tells.ensures c.if-tells.true in
    ok_so _ _ c.judge_told.result (λ r h. inr (inr (c.in-Ok.ensures.plainly some, h)))
    (c.judge_told.ensures.ok c.args.profile (g.R.ByteIn.remaining c.args.input.now)
    (g.R.ByteIn.failures c.args.input.now) (c.in-Ok.ensures.told some) c.in-Ok.ensures.uncued)

pub returns-then-tells-clause-err : goal.returns-then-tells-clause-err
returns-then-tells-clause-err g c =
    let some = way_tells c.open_telling.new.way c.tells.result c.tells.ensures c.if-tells.true in
    err_so _ _ c.judge_told.result (λ f h. inr (inr (inl (c.in-Ok.ensures.plainly some, h))))
    (c.judge_told.ensures.err c.args.profile (g.R.ByteIn.remaining c.args.input.now)
    (g.R.ByteIn.failures c.args.input.now) (c.in-Ok.ensures.told some) c.in-Ok.ensures.uncued)

pub returns-then-tells-clause-own : goal.returns-then-tells-clause-own
returns-then-tells-clause-own g c =
    err_so _ _ c.judge_told.result (on_checks c.args.profile) c.judge_told.ensures.own

pub returns-then-tells-clause-again : goal.returns-then-tells-clause-again
returns-then-tells-clause-again g c =
    err_so _ _ c.judge_told.result (λ f h. inl (on_again c.args.profile
    (g.R.AgainIn.begins c.args.input.now) (passage g.R.ByteIn.remaining g.R.ByteIn.failures
    c.args.input.now c.judge_told.new.input) f h)) c.judge_told.ensures.own

pub returns-then-tells-clause-tried : goal.returns-then-tells-clause-tried
returns-then-tells-clause-tried g c =
    err_so _ _ c.judge_told.result (on_tried (passage g.R.ByteIn.remaining g.R.ByteIn.failures
    c.args.input.now c.judge_told.new.input)) c.judge_told.ensures.own

pub judge_plainly-requires-clause-sound : goal.judge_plainly-requires-clause-sound
judge_plainly-requires-clause-sound g c =
    let none = way_plain c.open_telling.new.way c.tells.result c.tells.ensures c.if-tells.false in
    (c.in-Ok.ensures.ok none).sound

pub judge_on-requires-clause-sound : goal.judge_on-requires-clause-sound
judge_on-requires-clause-sound g c =
    let none = way_plain c.open_telling.new.way c.tells.result c.tells.ensures c.if-tells.false in
    (c.in-Ok.ensures.ok none).sound
