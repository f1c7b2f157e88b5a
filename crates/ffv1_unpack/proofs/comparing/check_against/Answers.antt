-- Decodes all frames of a file that the profile reads, and compares the MD5 of each picture with
-- that of a list, in turn.
use Rattle.std.proofs.Common.{rules, ◌≡◌, length, arith}
use Rattle.std.proofs.lemmas.Result.{err_from_is_err_and}
use Rattle.ffv1_unpack.specs.Internal.Opens.{stream_of}
use Rattle.ffv1_unpack.proofs.FileRead.{reads_file}
use Rattle.ffv1_unpack.proofs.FramesCompared.{comparing_done, comparing_none, comparing_short}
use Rattle.ffv1_unpack.proofs.FramesCompared.{comparing_stops, not_opened, unlike_checks}
use Rattle.ffv1_unpack.proofs.OwnFaults.{opening_checks}
use Rattle.ffv1_video.specs.Profiles.{scope_in}
use Rattle.ffv1_wire.specs.Passage.{passage}
use Rattle.ffv1_unpack.proofs.ReadAgain.{unlike_again}
use Rattle.ffv1_unpack.proofs.comparing.check_against.Goals as goal

pub returns-in_err-player-clause-err : goal.returns-in_err-player-clause-err
returns-in_err-player-clause-err g c =
    let p = err_from_is_err_and c.from_residual.result c.from_residual.ensures.1 in
    rw (p.1, p.2)
    (not_opened c.args.profile c.args.md5s.now (g.R.ByteIn.remaining c.args.input.now)
    (g.R.ByteIn.remaining c.open_player.new.input) (g.R.ByteIn.failures c.args.input.now)
    (g.R.ByteIn.failures c.open_player.new.input) c.in_err-player.field-0.0
    c.in_err-player.ensures.err)

pub returns-in_err-player-clause-own : goal.returns-in_err-player-clause-own
returns-in_err-player-clause-own g c =
    let p = err_from_is_err_and c.from_residual.result c.from_residual.ensures.1 in
    rw (p.1, p.2) (opening_checks c.args.profile c.in_err-player.field-0.0
    c.in_err-player.ensures.own)

pub returns-in_err-compared-clause-err : goal.returns-in_err-compared-clause-err
returns-in_err-compared-clause-err g c =
    let p = err_from_is_err_and c.from_residual-in_err-compared.result
    c.from_residual-in_err-compared.ensures.1 in
    rw (p.1, p.2)
    (comparing_stops c.args.profile c.args.md5s.now (g.R.ByteIn.remaining c.args.input.now)
    (g.R.ByteIn.remaining c.open_player.new.input)
    (g.R.ByteIn.remaining c.compare_frames.new.input) (g.R.ByteIn.failures c.args.input.now)
    (g.R.ByteIn.failures c.open_player.new.input)
    (g.R.ByteIn.failures c.compare_frames.new.input) c.in_ok-player.player.reader
    c.in_ok-player.player.decoder.accepted c.in_ok-player.ensures.ok c.in_err-compared.field-0.0
    c.in_err-compared.ensures.err)

pub returns-in_err-compared-clause-own : goal.returns-in_err-compared-clause-own
returns-in_err-compared-clause-own g c =
    let p = err_from_is_err_and c.from_residual-in_err-compared.result
    c.from_residual-in_err-compared.ensures.1 in
    rw (p.1, p.2) (unlike_checks c.args.profile c.in_ok-player.player.reader
    (g.R.ByteIn.remaining c.args.input.now)
    (g.R.ByteIn.remaining c.open_player.new.input)
    c.in_err-compared.field-0.0 c.in_ok-player.ensures.located
    c.in_ok-player.ensures.ok.within c.in_err-compared.ensures.own)

pub returns-then-compared-eq0-clause-err : goal.returns-then-compared-eq0-clause-err
returns-then-compared-eq0-clause-err g c =
    let all = c.in_ok-compared.ensures.ok in
    let none : c.in_ok-compared.compared.frames ≡ 0 = search rules in
    comparing_none c.args.profile c.args.md5s.now (g.R.ByteIn.remaining c.args.input.now)
    (g.R.ByteIn.remaining c.open_player.new.input)
    (g.R.ByteIn.remaining c.compare_frames.new.input) (g.R.ByteIn.failures c.args.input.now)
    (g.R.ByteIn.failures c.open_player.new.input)
    (g.R.ByteIn.failures c.compare_frames.new.input) c.in_ok-player.player.reader
    c.in_ok-player.player.decoder.accepted c.in_ok-player.ensures.ok
    c.compare_frames.new.player.notes all.0 c.in_ok-compared.compared all.1 all.2 all.4 none

pub returns-then-compared-md5s-clause-err : goal.returns-then-compared-md5s-clause-err
returns-then-compared-md5s-clause-err g c =
    let all = c.in_ok-compared.ensures.ok in
    comparing_short c.args.profile c.args.md5s.now (g.R.ByteIn.remaining c.args.input.now)
    (g.R.ByteIn.remaining c.open_player.new.input)
    (g.R.ByteIn.remaining c.compare_frames.new.input) (g.R.ByteIn.failures c.args.input.now)
    (g.R.ByteIn.failures c.open_player.new.input)
    (g.R.ByteIn.failures c.compare_frames.new.input) c.in_ok-player.player.reader
    c.in_ok-player.player.decoder.accepted c.in_ok-player.ensures.ok
    c.compare_frames.new.player.notes all.0 c.in_ok-compared.compared all.1 all.2 all.4 c.if-compared-eq0.false c.if-compared-md5s.true

pub returns-clause-ok : goal.returns-clause-ok
returns-clause-ok g c =
    let all = c.in_ok-compared.ensures.ok in
    let opens = c.in_ok-player.ensures.ok in
    let i0 = g.R.ByteIn.remaining c.args.input.now in
    let i1 = g.R.ByteIn.remaining c.open_player.new.input in
    let i2 = g.R.ByteIn.remaining c.compare_frames.new.input in
    let r = c.in_ok-player.player.reader in
    let a = c.in_ok-player.player.decoder.accepted in
    let least = all.3 in
    let most = c.if-compared-md5s.false in
    let whole : c.in_ok-compared.compared.md5s ≡ length c.args.md5s.now = omega (arith, least, most) in
    let reads = reads_file c.frames_come_in_turn.ensures c.what_is_read_is_a_file.ensures.first
    c.what_is_read_is_a_file.ensures.whole c.args.profile c.compare_frames.new.player.notes
    i0 i1 i2 (stream_of r a) r.place all.0
    opens.known all.4.plays.goes.has in
    comparing_done c.args.profile c.args.md5s.now i0 i1 i2
    (g.R.ByteIn.failures c.args.input.now) (g.R.ByteIn.failures c.open_player.new.input)
    (g.R.ByteIn.failures c.compare_frames.new.input) r a opens
    c.compare_frames.new.player.notes all.0 c.in_ok-compared.compared all.1 all.2
    all.4 c.if-compared-eq0.false whole reads
    (c.in_ok-compared.ensures.noted (scope_in c.args.profile) i0 c.in_ok-player.ensures.located)

pub returns-in_err-player-clause-again : goal.returns-in_err-player-clause-again
returns-in_err-player-clause-again g c =
    let p = err_from_is_err_and c.from_residual.result c.from_residual.ensures.1 in
    rw (p.1, p.2) c.in_err-player.ensures.again

pub returns-in_err-compared-clause-again : goal.returns-in_err-compared-clause-again
returns-in_err-compared-clause-again g c =
    let p = err_from_is_err_and c.from_residual-in_err-compared.result
    c.from_residual-in_err-compared.ensures.1 in
    rw (p.1, p.2) (unlike_again c.args.profile
    (g.R.AgainIn.begins c.args.input.now)
    (passage g.R.ByteIn.remaining g.R.ByteIn.failures c.args.input.now c.compare_frames.new.input)
    c.in_ok-player.player.reader (g.R.ByteIn.remaining c.open_player.new.input)
    c.in_err-compared.field-0.0 c.in_err-compared.ensures.own)
