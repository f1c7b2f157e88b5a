-- Opens a file at `Wide`, and tells the faults before its first frame.
use Rattle.std.proofs.Common.{◌≡◌, ◌⊎◌, true, refl, ap, inl, inr, subst}
use Rattle.std.proofs.lemmas.Result.{err_from_is_err_and}
use Rattle.ffv1_wire.specs.Passage.{passage}
use Rattle.ffv1_record.specs.Reading.{IsRefused, ReachesSets}
use Rattle.ffv1_record.specs.declared.fault.RecordFault.TheVariants as record_fault
use Rattle.ffv1_reads.specs.Head.{Head}
use Rattle.ffv1_video.specs.Profiles.{greatest_depth, record_profile, scope_in}
use Rattle.ffv1_video.specs.declared.profile.Profile.TheVariants.{Wide}
use Rattle.ffv1_unpack.specs.Opens.{HasSoundRecord}
use Rattle.ffv1_unpack.specs.Stream.{IsStream}
use Rattle.ffv1_unpack.specs.Internal.Containers.{is_segment}
use Rattle.ffv1_unpack.proofs.FaultsLocated.{record_located}
use Rattle.ffv1_unpack.proofs.OpenedTold.{file_again_told, record_lacks, record_tried, tells_has, told_may_be}
use Rattle.ffv1_unpack.proofs.Openings.{lacks_file, lacks_record}
use Rattle.ffv1_unpack.proofs.OwnFaults.{file_opens, record_opens, within_of}
use Rattle.ffv1_unpack.proofs.ReadAgain.{record_again}
use Rattle.ffv1_unpack.proofs.opening_all.open_stream_told.Goals as goal

-- ---- the file is refused

pub returns-in_err-reader-clause-err : goal.returns-in_err-reader-clause-err
returns-in_err-reader-clause-err g c = λ none.
    (let p = err_from_is_err_and c.from_residual.result c.from_residual.ensures.1 in
    rw (p.1, p.2) (lacks_file Wide (passage g.R.ByteIn.remaining g.R.ByteIn.failures c.args.input.now
    c.open_told.new.input) (g.R.AgainIn.begins c.args.input.now) c.in_err-reader.field-0.0
    (c.in_err-reader.ensures.answer none)))

pub returns-in_err-reader-clause-stopped : goal.returns-in_err-reader-clause-stopped
returns-in_err-reader-clause-stopped g c = λ none.
    (let p = err_from_is_err_and c.from_residual.result c.from_residual.ensures.1 in
    rw (p.1, p.2) (λ own. (c.in_err-reader.field-0.0, refl, inl (c.in_err-reader.ensures.stopped none))))

pub returns-in_err-reader-clause-refused : goal.returns-in_err-reader-clause-refused
returns-in_err-reader-clause-refused g c = λ some.
    (let p = err_from_is_err_and c.from_residual.result c.from_residual.ensures.1 in
    rw (p.1, p.2) (inl (c.in_err-reader.field-0.0, refl, c.in_err-reader.ensures.refused some)))

pub returns-in_err-reader-clause-own : goal.returns-in_err-reader-clause-own
returns-in_err-reader-clause-own g c =
    let p = err_from_is_err_and c.from_residual.result c.from_residual.ensures.1 in
    rw (p.1, p.2) (file_opens Wide c.in_err-reader.field-0.0 c.in_err-reader.ensures.own)

pub returns-in_err-reader-clause-again : goal.returns-in_err-reader-clause-again
returns-in_err-reader-clause-again g c =
    let p = err_from_is_err_and c.from_residual.result c.from_residual.ensures.1 in
    rw (p.1, p.2) (file_again_told (passage g.R.ByteIn.remaining g.R.ByteIn.failures c.args.input.now
    c.open_told.new.input) (g.R.AgainIn.begins c.args.input.now) c.open_told.new.way
    c.in_err-reader.field-0.0 c.in_err-reader.ensures.answer c.in_err-reader.ensures.again)

pub returns-in_err-reader-clause-tried : goal.returns-in_err-reader-clause-tried
returns-in_err-reader-clause-tried g c =
    let p = err_from_is_err_and c.from_residual.result c.from_residual.ensures.1 in
    rw (p.1, p.2) (λ told. (
      c.in_err-reader.field-0.0,
      refl,
      c.in_err-reader.ensures.tried (told_may_be c.in_err-reader.field-0.0 told),
    ))

-- ---- its record is

pub returns-in_err-checked-clause-err : goal.returns-in_err-checked-clause-err
returns-in_err-checked-clause-err g c = λ none.
    (let p = err_from_is_err_and c.from_residual-in_err-checked.result
    c.from_residual-in_err-checked.ensures.1 in
    let f = c.in_err-checked.field-0.0 in
    let answer = c.in_ok-reader.ensures.answer none in
    rw (p.1, p.2)
    (lacks_record Wide (passage g.R.ByteIn.remaining g.R.ByteIn.failures c.args.input.now
    c.open_told.new.input) c.in_ok-reader.reader.head c.in_ok-reader.reader.place f answer.0 answer.1
    (subst (λ (z : Head). (f ≡ record_fault.OutOfMemory) ⊎ IsRefused (record_profile
    Wide) (greatest_depth Wide) z.config_record z.width z.height f) c.head.ensures.value c.in_err-checked.ensures.err)
    (λ memory. subst (λ (z : Head). ReachesSets (record_profile Wide)
    (greatest_depth Wide) z.config_record)
    c.head.ensures.value (c.in_err-checked.ensures.memory memory))
    (λ memory. subst (λ (z : Head). HasSoundRecord Wide z)
    c.head.ensures.value (c.in_err-checked.ensures.sound memory))))

pub returns-in_err-checked-clause-stopped : goal.returns-in_err-checked-clause-stopped
returns-in_err-checked-clause-stopped g c = λ none.
    (let p = err_from_is_err_and c.from_residual-in_err-checked.result
    c.from_residual-in_err-checked.ensures.1 in
    rw (p.1, p.2) (record_located (scope_in Wide) _ c.in_err-checked.field-0.0 _))

pub returns-in_err-checked-clause-refused : goal.returns-in_err-checked-clause-refused
returns-in_err-checked-clause-refused g c = λ some.
    (let p = err_from_is_err_and c.from_residual-in_err-checked.result
    c.from_residual-in_err-checked.ensures.1 in
    let f = c.in_err-checked.field-0.0 in
    let opens = c.in_ok-reader.ensures.opens some in
    rw (p.1, p.2) (inr (record {
      head = c.in_ok-reader.reader.head;
      from = c.in_ok-reader.reader.place;
      offset = c.in_ok-reader.reader.offset;
      known = opens.known;
      kept = opens.kept;
      lacks = record_lacks c.in_ok-reader.reader.head f
          (subst (λ (z : Head). (f ≡ record_fault.OutOfMemory) ⊎ IsRefused (record_profile
          Wide) (greatest_depth Wide) z.config_record z.width z.height f) c.head.ensures.value c.in_err-checked.ensures.err)
          (λ memory. subst (λ (z : Head). ReachesSets (record_profile Wide)
          (greatest_depth Wide) z.config_record)
          c.head.ensures.value (c.in_err-checked.ensures.memory memory));
    })))

pub returns-in_err-checked-clause-own : goal.returns-in_err-checked-clause-own
returns-in_err-checked-clause-own g c =
    let p = err_from_is_err_and c.from_residual-in_err-checked.result
    c.from_residual-in_err-checked.ensures.1 in
    rw (p.1, p.2) (inl (record_opens c.in_err-checked.field-0.0))

pub returns-in_err-checked-clause-again : goal.returns-in_err-checked-clause-again
returns-in_err-checked-clause-again g c =
    let p = err_from_is_err_and c.from_residual-in_err-checked.result
    c.from_residual-in_err-checked.ensures.1 in
    rw (p.1, p.2) (inl (record_again Wide (g.R.AgainIn.begins c.args.input.now)
    (passage g.R.ByteIn.remaining g.R.ByteIn.failures c.args.input.now c.open_told.new.input) c.in_err-checked.field-0.0))

pub returns-in_err-checked-clause-tried : goal.returns-in_err-checked-clause-tried
returns-in_err-checked-clause-tried g c =
    let p = err_from_is_err_and c.from_residual-in_err-checked.result
    c.from_residual-in_err-checked.ensures.1 in
    rw (p.1, p.2) (record_tried (passage g.R.ByteIn.remaining g.R.ByteIn.failures c.args.input.now
    c.open_told.new.input) c.in_err-checked.field-0.0)

-- ---- it is opened

pub returns-clause-ok : goal.returns-clause-ok
returns-clause-ok g c = λ none. record {
  stream = subst (λ (z : Head). IsStream Wide
      (record { head = z; accepted = c.in_ok-checked.checked })) c.head.ensures.value
      c.in_ok-checked.ensures.ok;
  known = (c.in_ok-reader.ensures.answer none).1;
  within = within_of Wide c.in_ok-reader.reader.place (λ is. absurd (cc (is)));
  sound = c.in_ok-reader.ensures.sound;
  kept = (c.in_ok-reader.ensures.answer none).0;
}

pub returns-clause-stands : goal.returns-clause-stands
returns-clause-stands g c = λ none. record {
  reached = c.in_ok-reader.ensures.located none;
  ends = c.in_ok-reader.ensures.ends;
  noted = c.in_ok-reader.ensures.noted none;
}

pub returns-clause-told : goal.returns-clause-told
returns-clause-told g c = λ some. record {
  stream = subst (λ (z : Head). IsStream Wide
      (record { head = z; accepted = c.in_ok-checked.checked })) c.head.ensures.value
      c.in_ok-checked.ensures.ok;
  known = (c.in_ok-reader.ensures.opens some).known;
  kept = (c.in_ok-reader.ensures.opens some).kept;
  sound = c.in_ok-reader.ensures.sound;
  segment = ap is_segment (c.in_ok-reader.ensures.segment some).1;
  ends = c.in_ok-reader.ensures.ends;
}

pub returns-clause-plainly : goal.returns-clause-plainly
returns-clause-plainly g c = tells_has (passage g.R.ByteIn.remaining g.R.ByteIn.failures
    c.args.input.now c.open_told.new.input) c.open_told.new.way c.in_ok-reader.ensures.plainly
    c.in_ok-reader.ensures.late

pub returns-in_err-reader-clause-plainly : goal.returns-in_err-reader-clause-plainly
returns-in_err-reader-clause-plainly g c = tells_has (passage g.R.ByteIn.remaining
    g.R.ByteIn.failures c.args.input.now c.open_told.new.input) c.open_told.new.way
    c.in_err-reader.ensures.plainly c.in_err-reader.ensures.late

pub returns-in_err-checked-clause-plainly : goal.returns-in_err-checked-clause-plainly
returns-in_err-checked-clause-plainly g c = tells_has (passage g.R.ByteIn.remaining
    g.R.ByteIn.failures c.args.input.now c.open_told.new.input) c.open_told.new.way
    c.in_ok-reader.ensures.plainly c.in_ok-reader.ensures.late
