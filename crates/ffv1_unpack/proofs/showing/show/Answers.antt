-- Writes what a file's head and its record say, and how much a decoder of its frames holds.
use Rattle.std.proofs.Common.{◌≡◌, inl, inr, refl, subst, sym}
use Rattle.ffv1_video.specs.declared.fault.Fault.TheVariants as fault
use Rattle.std.proofs.lemmas.Result.{err_from_is_err_and}
use Rattle.ffv1_wire.specs.Passage.{passage}
use Rattle.ffv1_video.specs.Faults.{cause_of}
use Rattle.ffv1_unpack.specs.Internal.Opens.{stream_of}
use Rattle.ffv1_files.specs.Noted.{no_notes}
use Rattle.ffv1_unpack.specs.Show.{IsShowFault, ShowDone, ShowStops}
use Rattle.ffv1_unpack.specs.Internal.Show.{lines_of}
use Rattle.ffv1_unpack.specs.Internal.Told.{IsToldFault}
use Rattle.ffv1_unpack.proofs.FileRead.{reads_file}
use Rattle.ffv1_unpack.proofs.FileShown.{before_costs, costs_stop, lacks_stream, no_decoder, shows}
use Rattle.ffv1_unpack.proofs.FileShown.{shows_costs, text_stops, told_some}
use Rattle.ffv1_unpack.proofs.OwnFaults.{line_shows, opened_shows, told_shows}
use Rattle.ffv1_video.specs.Profiles.{scope_in}
use Rattle.ffv1_unpack.proofs.ReadAgain.{line_again, told_again}
use Rattle.ffv1_unpack.proofs.showing.show.Goals as goal

pub returns-in_err-reader-clause-err : goal.returns-in_err-reader-clause-err
returns-in_err-reader-clause-err g c =
    let p = err_from_is_err_and c.from_residual.result c.from_residual.ensures.1 in
    let input = passage g.R.ByteIn.remaining g.R.ByteIn.failures c.args.input.now
    c.open_stream.new.input in
    let output = passage g.W.ByteOut.contents g.W.ByteOut.failures c.args.output.now
    c.args.output.now in
    let f = c.in_err-reader.field-0.0 in
    rw (p.1, p.2) (before_costs c.args.profile input output c.args.cost f
    (lacks_stream c.args.profile input.old input.new output.old output.new input.before
    input.after output.before output.after f (cause_of f) c.in_err-reader.ensures.err))

pub returns-in_err-write_stream-clause-err : goal.returns-in_err-write_stream-clause-err
returns-in_err-write_stream-clause-err g c =
    let p = err_from_is_err_and c.from_residual-in_err-write_stream.result
    c.from_residual-in_err-write_stream.ensures.1 in
    let input = passage g.R.ByteIn.remaining g.R.ByteIn.failures c.args.input.now
    c.open_stream.new.input in
    let output = passage g.W.ByteOut.contents g.W.ByteOut.failures c.args.output.now
    c.write_stream.new.output in
    let f = c.in_err-write_stream.field-0.0 in
    let r = c.in_ok-reader.reader in
    let a = c.in_ok-reader.checked in
    let streams = c.in_ok-reader.ensures.located.noted.streams in
    rw (p.1, p.2) (before_costs c.args.profile input output c.args.cost f
    (text_stops _ _ _ _ _ _ _ _ _ r a c.in_ok-reader.ensures.ok streams f
    c.in_err-write_stream.ensures))

pub returns-in_err-notes-clause-err : goal.returns-in_err-notes-clause-err
returns-in_err-notes-clause-err g c =
    let p = err_from_is_err_and c.from_residual-in_err-notes.result
    c.from_residual-in_err-notes.ensures.1 in
    let input = passage g.R.ByteIn.remaining g.R.ByteIn.failures c.args.input.now
    c.tell_costs.new.input in
    let between = passage g.W.ByteOut.contents g.W.ByteOut.failures c.args.output.now
    c.write_stream.new.output in
    let output = passage g.W.ByteOut.contents g.W.ByteOut.failures c.args.output.now
    c.tell_costs.new.output in
    let f = c.in_err-notes.field-0.0 in
    let r = c.in_ok-reader.reader in
    let a = c.in_ok-reader.checked in
    let streams = c.in_ok-reader.ensures.located.noted.streams in
    let writes = c.in_ok-write_stream.ensures in
    let some : f ≡ fault.NoFrames → ⊥ = λ e. told_some r
    (g.R.ByteIn.remaining c.open_stream.new.input)
    (subst (IsToldFault r (g.R.ByteIn.remaining c.open_stream.new.input)) e
    c.in_err-notes.ensures.own) in
    rw (p.1, p.2) (subst (λ b. ShowStops c.args.profile input output b f) (sym c.if-cost.true)
    (inr (elim c.in_err-notes.ensures.err [
      | inl none ↦ no_decoder _ _ _ _ _ _ _ _ _ _ _ _ _ r a c.in_ok-reader.ensures.ok streams
          writes.0 writes.1 f none
      | inr stops ↦ costs_stop _ _ _ _ _ _ _ _ _ _ _ _ _ r a c.in_ok-reader.ensures.ok streams
          writes.0 writes.1 f some stops
    ])))

pub returns-then-cost-clause-ok : goal.returns-then-cost-clause-ok
returns-then-cost-clause-ok g c =
    let input = passage g.R.ByteIn.remaining g.R.ByteIn.failures c.args.input.now
    c.tell_costs.new.input in
    let between = passage g.W.ByteOut.contents g.W.ByteOut.failures c.args.output.now
    c.write_stream.new.output in
    let output = passage g.W.ByteOut.contents g.W.ByteOut.failures c.args.output.now
    c.tell_costs.new.output in
    let r = c.in_ok-reader.reader in
    let a = c.in_ok-reader.checked in
    let streams = c.in_ok-reader.ensures.located.noted.streams in
    let opens = c.in_ok-reader.ensures.ok in
    let told = c.in_ok-notes.ensures.ok in
    let writes = c.in_ok-write_stream.ensures in
    let reads = reads_file c.frames_come_in_turn.ensures c.what_is_read_is_a_file.ensures.first
    c.what_is_read_is_a_file.ensures.whole c.args.profile c.in_ok-notes.notes _ _ _
    (stream_of r a) r.place told.0
    opens.known told.1.plays.goes.has in
    subst (λ b. ShowDone c.args.profile input output b c.in_ok-notes.notes) (sym c.if-cost.true)
    (shows_costs _ _ _ _ _ _ _ _ _ _ _ _ _ r a opens streams writes.0 writes.1 c.in_ok-notes.notes
    told.0 told.1 reads (c.in_ok-notes.ensures.noted (scope_in c.args.profile)
    (g.R.ByteIn.remaining c.args.input.now) c.in_ok-reader.ensures.located))

pub returns-in_err-write_stream-clause-own : goal.returns-in_err-write_stream-clause-own
returns-in_err-write_stream-clause-own g c =
    let p = err_from_is_err_and c.from_residual-in_err-write_stream.result
    c.from_residual-in_err-write_stream.ensures.1 in
    let output = passage g.W.ByteOut.contents g.W.ByteOut.failures c.args.output.now
    c.write_stream.new.output in
    let text = lines_of c.in_ok-reader.reader c.in_ok-reader.checked in
    rw (p.1, p.2) (inl (line_shows c.args.cost text output c.in_err-write_stream.field-0.0
    c.in_err-write_stream.ensures))

pub returns-in_err-notes-clause-own : goal.returns-in_err-notes-clause-own
returns-in_err-notes-clause-own g c =
    let p = err_from_is_err_and c.from_residual-in_err-notes.result
    c.from_residual-in_err-notes.ensures.1 in
    let f = c.in_err-notes.field-0.0 in
    rw (p.1, p.2) (subst (λ b. IsShowFault c.args.profile b f) (sym c.if-cost.true)
    (told_shows c.args.profile c.in_ok-reader.reader (g.R.ByteIn.remaining c.args.input.now)
    (g.R.ByteIn.remaining c.open_stream.new.input) f c.in_ok-reader.ensures.located
    c.in_ok-reader.ensures.ok.within c.in_err-notes.ensures.own))

pub returns-clause-ok : goal.returns-clause-ok
returns-clause-ok g c =
    let input = passage g.R.ByteIn.remaining g.R.ByteIn.failures c.args.input.now
    c.open_stream.new.input in
    let output = passage g.W.ByteOut.contents g.W.ByteOut.failures c.args.output.now
    c.write_stream.new.output in
    let r = c.in_ok-reader.reader in
    let a = c.in_ok-reader.checked in
    let streams = c.in_ok-reader.ensures.located.noted.streams in
    let writes = c.in_ok-write_stream.ensures in
    subst (λ b. ShowDone c.args.profile input output b no_notes) (sym c.if-cost.false) (
      shows c.args.profile _ _ _ _ _ _ _ _ r a c.in_ok-reader.ensures.ok streams writes.0
          writes.1,
      refl,
    )

pub returns-in_err-reader-clause-own : goal.returns-in_err-reader-clause-own
returns-in_err-reader-clause-own g c =
    let p = err_from_is_err_and c.from_residual.result c.from_residual.ensures.1 in
    rw (p.1, p.2) (opened_shows c.args.profile c.args.cost c.in_err-reader.field-0.0
    c.in_err-reader.ensures.own)

pub returns-in_err-write_stream-clause-again : goal.returns-in_err-write_stream-clause-again
returns-in_err-write_stream-clause-again g c =
    let p = err_from_is_err_and c.from_residual-in_err-write_stream.result
    c.from_residual-in_err-write_stream.ensures.1 in
    rw (p.1, p.2) (line_again c.args.profile
    (g.R.AgainIn.begins c.args.input.now)
    (passage g.R.ByteIn.remaining g.R.ByteIn.failures c.args.input.now c.open_stream.new.input)
    _ _ c.in_err-write_stream.field-0.0 c.in_err-write_stream.ensures)

pub returns-in_err-notes-clause-again : goal.returns-in_err-notes-clause-again
returns-in_err-notes-clause-again g c =
    let p = err_from_is_err_and c.from_residual-in_err-notes.result
    c.from_residual-in_err-notes.ensures.1 in
    rw (p.1, p.2) (told_again c.args.profile
    (g.R.AgainIn.begins c.args.input.now)
    (passage g.R.ByteIn.remaining g.R.ByteIn.failures c.args.input.now c.tell_costs.new.input)
    c.in_ok-reader.reader (g.R.ByteIn.remaining c.open_stream.new.input)
    c.in_err-notes.field-0.0 c.in_err-notes.ensures.own)
