-- Opens a file as `open_stream` does.
use Rattle.std.proofs.Common.{◌≡◌, ◌⊎◌, refl, inl, subst}
use Rattle.std.proofs.lemmas.Result.{err_from_is_err_and}
use Rattle.ffv1_wire.specs.Passage.{passage}
use Rattle.ffv1_record.specs.Reading.{IsRefused, ReachesSets}
use Rattle.ffv1_record.specs.declared.fault.RecordFault.TheVariants as record_fault
use Rattle.ffv1_reads.specs.Head.{Head}
use Rattle.ffv1_video.specs.Profiles.{greatest_depth, record_profile, scope_in}
use Rattle.ffv1_unpack.specs.Opens.{HasSoundRecord}
use Rattle.ffv1_unpack.specs.Stream.{IsStream}
use Rattle.ffv1_unpack.proofs.FaultsLocated.{record_located}
use Rattle.ffv1_unpack.proofs.Openings.{lacks_file, lacks_record}
use Rattle.ffv1_unpack.proofs.OwnFaults.{file_opens, record_opens, within_of}
use Rattle.ffv1_unpack.proofs.ReadAgain.{file_again, record_again}
use Rattle.ffv1_unpack.proofs.player.open_stream_located.Goals as goal

pub returns-in_err-checked-clause-err : goal.returns-in_err-checked-clause-err
returns-in_err-checked-clause-err g c =
    let p = err_from_is_err_and c.from_residual-in_err-checked.result
    c.from_residual-in_err-checked.ensures.1 in
    let f = c.in_err-checked.field-0.0 in
    rw (p.1, p.2)
    (lacks_record c.args.profile (passage g.R.ByteIn.remaining g.R.ByteIn.failures c.args.input.now
    c.open_located.new.input) c.in_ok-reader.reader.head c.in_ok-reader.reader.place f
    c.in_ok-reader.ensures.answer.0 (rw c.scope.ensures at c.in_ok-reader.ensures.answer.1)
    (subst (λ (z : Head). (f ≡ record_fault.OutOfMemory) ⊎ IsRefused (record_profile
    c.args.profile) (greatest_depth c.args.profile) z.config_record z.width z.height f) c.head.ensures.value c.in_err-checked.ensures.err)
    (λ memory. subst (λ (z : Head). ReachesSets (record_profile c.args.profile)
    (greatest_depth c.args.profile) z.config_record)
    c.head.ensures.value (c.in_err-checked.ensures.memory memory))
    (λ memory. subst (λ (z : Head). HasSoundRecord c.args.profile z)
    c.head.ensures.value (c.in_err-checked.ensures.sound memory)))

pub returns-in_err-reader-clause-err : goal.returns-in_err-reader-clause-err
returns-in_err-reader-clause-err g c =
    let p = err_from_is_err_and c.from_residual.result c.from_residual.ensures.1 in
    rw (p.1, p.2)
    (lacks_file c.args.profile (passage g.R.ByteIn.remaining g.R.ByteIn.failures c.args.input.now
    c.open_located.new.input) (g.R.AgainIn.begins c.args.input.now) c.in_err-reader.field-0.0
    (rw c.scope.ensures at c.in_err-reader.ensures.answer))

pub returns-in_err-checked-clause-own : goal.returns-in_err-checked-clause-own
returns-in_err-checked-clause-own g c =
    let p = err_from_is_err_and c.from_residual-in_err-checked.result
    c.from_residual-in_err-checked.ensures.1 in
    rw (p.1, p.2) (inl (record_opens c.in_err-checked.field-0.0))

pub returns-in_err-reader-clause-own : goal.returns-in_err-reader-clause-own
returns-in_err-reader-clause-own g c =
    let p = err_from_is_err_and c.from_residual.result c.from_residual.ensures.1 in
    rw (p.1, p.2) (file_opens c.args.profile c.in_err-reader.field-0.0
    (rw c.scope.ensures at c.in_err-reader.ensures.own))

pub returns-clause-ok : goal.returns-clause-ok
returns-clause-ok g c = record {
  stream = subst (λ (z : Head). IsStream c.args.profile
      (record { head = z; accepted = c.in_ok-checked.checked })) c.head.ensures.value
      c.in_ok-checked.ensures.ok;
  known = rw c.scope.ensures at c.in_ok-reader.ensures.answer.1;
  within = within_of c.args.profile c.in_ok-reader.reader.place
      (rw c.scope.ensures at c.in_ok-reader.ensures.avi);
  sound = c.in_ok-reader.ensures.sound;
  kept = c.in_ok-reader.ensures.answer.0;
}

pub returns-in_err-checked-clause-stopped : goal.returns-in_err-checked-clause-stopped
returns-in_err-checked-clause-stopped g c =
    let p = err_from_is_err_and c.from_residual-in_err-checked.result
    c.from_residual-in_err-checked.ensures.1 in
    rw (p.1, p.2) (record_located (scope_in c.args.profile) _ c.in_err-checked.field-0.0 _)

pub returns-in_err-reader-clause-stopped : goal.returns-in_err-reader-clause-stopped
returns-in_err-reader-clause-stopped g c =
    let p = err_from_is_err_and c.from_residual.result c.from_residual.ensures.1 in
    rw (p.1, p.2) (λ own. (
      c.in_err-reader.field-0.0,
      refl,
      inl (rw c.scope.ensures at
          c.in_err-reader.ensures.stopped),
    ))

pub returns-in_err-reader-clause-again : goal.returns-in_err-reader-clause-again
returns-in_err-reader-clause-again g c =
    let p = err_from_is_err_and c.from_residual.result c.from_residual.ensures.1 in
    rw (p.1, p.2) (file_again c.args.profile
    (g.R.AgainIn.begins c.args.input.now)
    (passage g.R.ByteIn.remaining g.R.ByteIn.failures c.args.input.now c.open_located.new.input)
    c.in_err-reader.field-0.0 (rw c.scope.ensures at c.in_err-reader.ensures.answer))

pub returns-in_err-checked-clause-again : goal.returns-in_err-checked-clause-again
returns-in_err-checked-clause-again g c =
    let p = err_from_is_err_and c.from_residual-in_err-checked.result
    c.from_residual-in_err-checked.ensures.1 in
    rw (p.1, p.2) (record_again c.args.profile
    (g.R.AgainIn.begins c.args.input.now)
    (passage g.R.ByteIn.remaining g.R.ByteIn.failures c.args.input.now c.open_located.new.input) c.in_err-checked.field-0.0)
