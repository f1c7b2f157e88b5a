-- Opens a file whose pictures have a text, and makes the decoder of its frames.
use Rattle.std.proofs.Common.{refl, inl, sym, subst}
use Rattle.std.proofs.lemmas.Result.{err_from_is_err_and}
use Rattle.ffv1_wire.specs.Passage.{passage}
use Rattle.ffv1_record.specs.Configuration.{is_rct}
use Rattle.ffv1_unpack.specs.Unpack.{IsUnpackFaultIn}
use Rattle.ffv1_unpack.proofs.FileUnpacked.{lacks_text, text_own}
use Rattle.ffv1_unpack.proofs.Openings.{lacks_decoder}
use Rattle.ffv1_unpack.proofs.OwnFaults.{opening_unpacks}
use Rattle.ffv1_unpack.proofs.ReadAgain.{memory_again, unpack_again}
use Rattle.ffv1_unpack.proofs.unpacking.open_unpacking.Goals as goal

pub returns-in_err-reader-clause-err : goal.returns-in_err-reader-clause-err
returns-in_err-reader-clause-err g c =
    let p = err_from_is_err_and c.from_residual.result c.from_residual.ensures.1 in
    rw (p.1, p.2) (inl c.in_err-reader.ensures.err)

pub returns-in_err-reader-clause-own : goal.returns-in_err-reader-clause-own
returns-in_err-reader-clause-own g c =
    let p = err_from_is_err_and c.from_residual.result c.from_residual.ensures.1 in
    rw (p.1, p.2) (opening_unpacks c.args.profile c.in_err-reader.field-0.0
    c.in_err-reader.ensures.own)

pub returns-in_err-check_text-clause-err : goal.returns-in_err-check_text-clause-err
returns-in_err-check_text-clause-err g c =
    let p = err_from_is_err_and c.from_residual-in_err-check_text.result
    c.from_residual-in_err-check_text.ensures.1 in
    rw (p.1, p.2)
    (lacks_text c.args.profile (g.R.ByteIn.remaining c.args.input.now)
    (g.R.ByteIn.remaining c.open_stream.new.input) (g.R.ByteIn.failures c.args.input.now)
    (g.R.ByteIn.failures c.open_stream.new.input)
    c.in_ok-reader.reader c.in_ok-reader.checked c.in_err-check_text.field-0.0
    c.in_ok-reader.ensures.ok c.in_err-check_text.ensures.err)

pub returns-in_err-check_text-clause-own : goal.returns-in_err-check_text-clause-own
returns-in_err-check_text-clause-own g c =
    let p = err_from_is_err_and c.from_residual-in_err-check_text.result
    c.from_residual-in_err-check_text.ensures.1 in
    let configuration = c.in_ok-reader.checked.configuration in
    rw (p.1, p.2) (inl (text_own (is_rct configuration.colour) configuration
    c.in_err-check_text.field-0.0 c.in_err-check_text.ensures.err))

pub returns-in_err-player-clause-err : goal.returns-in_err-player-clause-err
returns-in_err-player-clause-err g c =
    let p = err_from_is_err_and c.from_residual-in_err-player.result
    c.from_residual-in_err-player.ensures.1 in
    let input = passage g.R.ByteIn.remaining g.R.ByteIn.failures c.args.input.now
    c.open_stream.new.input in
    rw (p.1, p.2)
    (inl
    (lacks_decoder c.args.profile input c.in_ok-reader.reader c.in_ok-reader.checked
    c.in_err-player.field-0.0 c.in_ok-reader.ensures.ok c.in_err-player.ensures.err))

pub returns-in_err-player-clause-own : goal.returns-in_err-player-clause-own
returns-in_err-player-clause-own g c =
    let p = err_from_is_err_and c.from_residual-in_err-player.result
    c.from_residual-in_err-player.ensures.1 in
    rw (p.1, p.2) (subst (IsUnpackFaultIn c.args.profile) (sym c.in_err-player.ensures.err)
    (inl (inl refl)))

pub returns-in_err-check_text-clause-again : goal.returns-in_err-check_text-clause-again
returns-in_err-check_text-clause-again g c =
    let p = err_from_is_err_and c.from_residual-in_err-check_text.result
    c.from_residual-in_err-check_text.ensures.1 in
    let configuration = c.in_ok-reader.checked.configuration in
    let f = c.in_err-check_text.field-0.0 in
    rw (p.1, p.2) (unpack_again c.args.profile
    (g.R.AgainIn.begins c.args.input.now)
    (passage g.R.ByteIn.remaining g.R.ByteIn.failures c.args.input.now c.open_stream.new.input) f
    (text_own (is_rct configuration.colour) configuration f c.in_err-check_text.ensures.err))

pub returns-in_err-player-clause-again : goal.returns-in_err-player-clause-again
returns-in_err-player-clause-again g c =
    let p = err_from_is_err_and c.from_residual-in_err-player.result
    c.from_residual-in_err-player.ensures.1 in
    rw (p.1, p.2) (memory_again c.args.profile
    (g.R.AgainIn.begins c.args.input.now)
    (passage g.R.ByteIn.remaining g.R.ByteIn.failures c.args.input.now c.open_stream.new.input)
    c.in_err-player.field-0.0 c.in_err-player.ensures.err)
