-- Writes what a file is, fact by fact, of its stream.
use Rattle.std.proofs.Common.{◌≡◌, ◌⊎◌, true, Err, Ok, inl, subst}
use Rattle.std.proofs.lemmas.Result.{err_from_is_err_and}
use Rattle.ffv1_wire.specs.Passage.{between}
use Rattle.ffv1_record.specs.Reading.{IsRefused, ReachesSets}
use Rattle.ffv1_record.specs.declared.fault.RecordFault.TheVariants as record_fault
use Rattle.ffv1_reads.specs.Head.{Head}
use Rattle.ffv1_video.specs.Faults.{of_avi, of_record}
use Rattle.ffv1_video.specs.Profiles.{greatest_depth, record_profile, scope_in}
use Rattle.ffv1_unpack.specs.Located.{Stands}
use Rattle.ffv1_unpack.specs.Opens.{HasSoundRecord}
use Rattle.ffv1_unpack.specs.Stream.{IsStream}
use Rattle.ffv1_unpack.proofs.OwnFaults.{file_opens, line_shows, opened_shows, record_opens}
use Rattle.ffv1_unpack.proofs.OwnFaults.{told_shows, within_of}
use Rattle.ffv1_unpack.proofs.ReadAgain.{file_again, line_again, record_again, told_again}
use Rattle.ffv1_info.specs.StreamFacts.{head_facts, record_facts}
use Rattle.ffv1_info.proofs.FileTold.{frames_lack, head_stops, head_told, lacks_head, lacks_record}
use Rattle.ffv1_info.proofs.FileTold.{record_stops, stream_done, stream_stops}
use Rattle.ffv1_info.proofs.Groups.{group_wrote}
use Rattle.ffv1_info.proofs.informing.stream_info.Goals as goal

pub returns-in_err-reader-clause-err : goal.returns-in_err-reader-clause-err
returns-in_err-reader-clause-err g c =
    let p = err_from_is_err_and c.from_residual.result c.from_residual.ensures.1 in
    rw (p.1, p.2) (lacks_head c.args.profile c.args.form c.args.count
    (g.R.ByteIn.remaining c.args.input.now) (g.R.ByteIn.remaining c.open_located.new.input)
    (g.W.ByteOut.contents c.args.output.now) (g.R.ByteIn.failures c.args.input.now)
    (g.R.ByteIn.failures c.open_located.new.input) (g.W.ByteOut.failures c.args.output.now)
    (g.R.AgainIn.begins c.args.input.now) c.in_err-reader.field-0.0
    (rw c.scope.ensures at c.in_err-reader.ensures.answer))

pub returns-in_err-reader-clause-own : goal.returns-in_err-reader-clause-own
returns-in_err-reader-clause-own g c =
    let p = err_from_is_err_and c.from_residual.result c.from_residual.ensures.1 in
    let f = c.in_err-reader.field-0.0 in
    rw (p.1, p.2) (opened_shows c.args.profile true (of_avi f) (file_opens c.args.profile f
    (rw c.scope.ensures at c.in_err-reader.ensures.own)))

pub returns-in_err-reader-clause-again : goal.returns-in_err-reader-clause-again
returns-in_err-reader-clause-again g c =
    let p = err_from_is_err_and c.from_residual.result c.from_residual.ensures.1 in
    rw (p.1, p.2) (file_again c.args.profile (g.R.AgainIn.begins c.args.input.now)
    (between (g.R.ByteIn.remaining c.args.input.now)
    (g.R.ByteIn.remaining c.open_located.new.input) (g.R.ByteIn.failures c.args.input.now)
    (g.R.ByteIn.failures c.open_located.new.input)) c.in_err-reader.field-0.0
    (rw c.scope.ensures at c.in_err-reader.ensures.answer))

pub returns-in_err-write_head-clause-err : goal.returns-in_err-write_head-clause-err
returns-in_err-write_head-clause-err g c =
    let p = err_from_is_err_and c.from_residual-in_err-write_head.result
    c.from_residual-in_err-write_head.ensures.1 in
    let o0 = g.W.ByteOut.contents c.args.output.now in
    let o1 = g.W.ByteOut.contents c.write_head.new.output in
    let ob = g.W.ByteOut.failures c.args.output.now in
    let om = g.W.ByteOut.failures c.write_head.new.output in
    let f = c.in_err-write_head.field-0.0 in
    rw (p.1, p.2) (head_stops c.args.profile c.args.form c.args.count
    (g.R.ByteIn.remaining c.args.input.now) (g.R.ByteIn.remaining c.open_located.new.input)
    (g.R.ByteIn.failures c.args.input.now) (g.R.ByteIn.failures c.open_located.new.input)
    c.in_ok-reader.reader (rw c.scope.ensures at c.in_ok-reader.ensures.answer.1)
    c.in_ok-reader.ensures.answer.0 o0 o1 ob om f
    (head_told c.args.form (between o0 o1 ob om) (Err f) c.head.ensures.value
    c.in_err-write_head.ensures))

pub returns-in_err-write_head-clause-own : goal.returns-in_err-write_head-clause-own
returns-in_err-write_head-clause-own g c =
    let p = err_from_is_err_and c.from_residual-in_err-write_head.result
    c.from_residual-in_err-write_head.ensures.1 in
    rw (p.1, p.2) (inl (line_shows true _ _ c.in_err-write_head.field-0.0
    c.in_err-write_head.ensures))

pub returns-in_err-write_head-clause-again : goal.returns-in_err-write_head-clause-again
returns-in_err-write_head-clause-again g c =
    let p = err_from_is_err_and c.from_residual-in_err-write_head.result
    c.from_residual-in_err-write_head.ensures.1 in
    rw (p.1, p.2) (line_again c.args.profile (g.R.AgainIn.begins c.args.input.now)
    (between (g.R.ByteIn.remaining c.args.input.now)
    (g.R.ByteIn.remaining c.open_located.new.input) (g.R.ByteIn.failures c.args.input.now)
    (g.R.ByteIn.failures c.open_located.new.input)) _ _ c.in_err-write_head.field-0.0
    c.in_err-write_head.ensures)

pub returns-in_err-checked-clause-err : goal.returns-in_err-checked-clause-err
returns-in_err-checked-clause-err g c =
    let p = err_from_is_err_and c.from_residual-in_err-checked.result
    c.from_residual-in_err-checked.ensures.1 in
    let o0 = g.W.ByteOut.contents c.args.output.now in
    let o1 = g.W.ByteOut.contents c.write_head.new.output in
    let ob = g.W.ByteOut.failures c.args.output.now in
    let om = g.W.ByteOut.failures c.write_head.new.output in
    let r = c.in_ok-reader.reader in
    let f = c.in_err-checked.field-0.0 in
    let wrote = group_wrote (head_facts c.args.form r.head) o0 o1 ob om c.in_ok-write_head.field-0
    (head_told c.args.form (between o0 o1 ob om) (Ok c.in_ok-write_head.field-0)
    c.head.ensures.value c.in_ok-write_head.ensures) in
    rw (p.1, p.2) (record_stops c.args.profile c.args.form c.args.count
    (g.R.ByteIn.remaining c.args.input.now) (g.R.ByteIn.remaining c.open_located.new.input)
    (g.R.ByteIn.failures c.args.input.now) (g.R.ByteIn.failures c.open_located.new.input)
    r (rw c.scope.ensures at c.in_ok-reader.ensures.answer.1)
    c.in_ok-reader.ensures.answer.0 o0 o1 ob om wrote (of_record f)
    (lacks_record c.args.profile r.head f
    (subst (λ (z : Head). (f ≡ record_fault.OutOfMemory) ⊎ IsRefused (record_profile
    c.args.profile) (greatest_depth c.args.profile) z.config_record z.width z.height f)
    c.head-2.ensures.value c.in_err-checked.ensures.err)
    (λ memory. subst (λ (z : Head). ReachesSets (record_profile c.args.profile)
    (greatest_depth c.args.profile) z.config_record)
    c.head-2.ensures.value (c.in_err-checked.ensures.memory memory))
    (λ memory. subst (λ (z : Head). HasSoundRecord c.args.profile z)
    c.head-2.ensures.value (c.in_err-checked.ensures.sound memory))))

pub returns-in_err-checked-clause-own : goal.returns-in_err-checked-clause-own
returns-in_err-checked-clause-own g c =
    let p = err_from_is_err_and c.from_residual-in_err-checked.result
    c.from_residual-in_err-checked.ensures.1 in
    let f = c.in_err-checked.field-0.0 in
    rw (p.1, p.2) (opened_shows c.args.profile true (of_record f) (inl (record_opens f)))

pub returns-in_err-checked-clause-again : goal.returns-in_err-checked-clause-again
returns-in_err-checked-clause-again g c =
    let p = err_from_is_err_and c.from_residual-in_err-checked.result
    c.from_residual-in_err-checked.ensures.1 in
    rw (p.1, p.2) (record_again c.args.profile (g.R.AgainIn.begins c.args.input.now)
    (between (g.R.ByteIn.remaining c.args.input.now)
    (g.R.ByteIn.remaining c.open_located.new.input) (g.R.ByteIn.failures c.args.input.now)
    (g.R.ByteIn.failures c.open_located.new.input)) c.in_err-checked.field-0.0)

pub returns-in_err-write_record-clause-err : goal.returns-in_err-write_record-clause-err
returns-in_err-write_record-clause-err g c =
    let p = err_from_is_err_and c.from_residual-in_err-write_record.result
    c.from_residual-in_err-write_record.ensures.1 in
    let o0 = g.W.ByteOut.contents c.args.output.now in
    let o1 = g.W.ByteOut.contents c.write_head.new.output in
    let o2 = g.W.ByteOut.contents c.write_record.new.output in
    let ob = g.W.ByteOut.failures c.args.output.now in
    let om = g.W.ByteOut.failures c.write_head.new.output in
    let oa = g.W.ByteOut.failures c.write_record.new.output in
    let r = c.in_ok-reader.reader in
    let a = c.in_ok-checked.checked in
    let f = c.in_err-write_record.field-0.0 in
    let wrote = group_wrote (head_facts c.args.form r.head) o0 o1 ob om c.in_ok-write_head.field-0
    (head_told c.args.form (between o0 o1 ob om) (Ok c.in_ok-write_head.field-0)
    c.head.ensures.value c.in_ok-write_head.ensures) in
    let is = subst (λ (z : Head). IsStream c.args.profile (record { head = z; accepted = a }))
    c.head-2.ensures.value c.in_ok-checked.ensures.ok in
    rw (p.1, p.2) (stream_stops c.args.profile c.args.form c.args.count
    (g.R.ByteIn.remaining c.args.input.now) (g.R.ByteIn.remaining c.open_located.new.input)
    (g.R.ByteIn.failures c.args.input.now) (g.R.ByteIn.failures c.open_located.new.input)
    r (rw c.scope.ensures at c.in_ok-reader.ensures.answer.1)
    c.in_ok-reader.ensures.answer.0 o0 o1 ob om wrote a is o2 oa f
    c.in_err-write_record.ensures)

pub returns-in_err-write_record-clause-own : goal.returns-in_err-write_record-clause-own
returns-in_err-write_record-clause-own g c =
    let p = err_from_is_err_and c.from_residual-in_err-write_record.result
    c.from_residual-in_err-write_record.ensures.1 in
    rw (p.1, p.2) (inl (line_shows true _ _ c.in_err-write_record.field-0.0
    c.in_err-write_record.ensures))

pub returns-in_err-write_record-clause-again : goal.returns-in_err-write_record-clause-again
returns-in_err-write_record-clause-again g c =
    let p = err_from_is_err_and c.from_residual-in_err-write_record.result
    c.from_residual-in_err-write_record.ensures.1 in
    rw (p.1, p.2) (line_again c.args.profile (g.R.AgainIn.begins c.args.input.now)
    (between (g.R.ByteIn.remaining c.args.input.now)
    (g.R.ByteIn.remaining c.open_located.new.input) (g.R.ByteIn.failures c.args.input.now)
    (g.R.ByteIn.failures c.open_located.new.input)) _ _ c.in_err-write_record.field-0.0
    c.in_err-write_record.ensures)

pub returns-in_err-tell_frames-clause-err : goal.returns-in_err-tell_frames-clause-err
returns-in_err-tell_frames-clause-err g c =
    let p = err_from_is_err_and c.from_residual-in_err-tell_frames.result
    c.from_residual-in_err-tell_frames.ensures.1 in
    let o0 = g.W.ByteOut.contents c.args.output.now in
    let o1 = g.W.ByteOut.contents c.write_head.new.output in
    let o2 = g.W.ByteOut.contents c.write_record.new.output in
    let o3 = g.W.ByteOut.contents c.tell_frames.new.output in
    let ob = g.W.ByteOut.failures c.args.output.now in
    let om = g.W.ByteOut.failures c.write_head.new.output in
    let oa = g.W.ByteOut.failures c.write_record.new.output in
    let oz = g.W.ByteOut.failures c.tell_frames.new.output in
    let r = c.in_ok-reader.reader in
    let a = c.in_ok-checked.checked in
    let f = c.in_err-tell_frames.field-0.0 in
    let wrote = group_wrote (head_facts c.args.form r.head) o0 o1 ob om c.in_ok-write_head.field-0
    (head_told c.args.form (between o0 o1 ob om) (Ok c.in_ok-write_head.field-0)
    c.head.ensures.value c.in_ok-write_head.ensures) in
    let also = group_wrote (record_facts c.args.form a.configuration) o1 o2 om oa
    c.in_ok-write_record.field-0 c.in_ok-write_record.ensures in
    let is = subst (λ (z : Head). IsStream c.args.profile (record { head = z; accepted = a }))
    c.head-2.ensures.value c.in_ok-checked.ensures.ok in
    rw (p.1, p.2) (frames_lack c.args.profile c.args.form c.args.count
    (g.R.ByteIn.remaining c.args.input.now) (g.R.ByteIn.remaining c.open_located.new.input)
    (g.R.ByteIn.failures c.args.input.now) (g.R.ByteIn.failures c.open_located.new.input)
    r (rw c.scope.ensures at c.in_ok-reader.ensures.answer.1)
    c.in_ok-reader.ensures.answer.0 o0 o1 ob om wrote a is o2 oa also
    (g.R.ByteIn.remaining c.tell_frames.new.input) o3
    (g.R.ByteIn.failures c.tell_frames.new.input) oz f c.in_err-tell_frames.ensures.err)

pub returns-in_err-tell_frames-clause-own : goal.returns-in_err-tell_frames-clause-own
returns-in_err-tell_frames-clause-own g c =
    let p = err_from_is_err_and c.from_residual-in_err-tell_frames.result
    c.from_residual-in_err-tell_frames.ensures.1 in
    let r = c.in_ok-reader.reader in
    let f = c.in_err-tell_frames.field-0.0 in
    let stands : Stands (scope_in c.args.profile) (g.R.ByteIn.remaining c.args.input.now)
    (g.R.ByteIn.remaining c.open_located.new.input) r = record {
      reached = rw c.scope.ensures at c.in_ok-reader.ensures.located;
      ends = c.in_ok-reader.ensures.ends;
      noted = rw c.scope.ensures at c.in_ok-reader.ensures.noted;
    } in
    rw (p.1, p.2) (told_shows c.args.profile r (g.R.ByteIn.remaining c.args.input.now)
    (g.R.ByteIn.remaining c.open_located.new.input) f stands (within_of c.args.profile r.place
    (rw c.scope.ensures at c.in_ok-reader.ensures.avi)) c.in_err-tell_frames.ensures.own)

pub returns-in_err-tell_frames-clause-again : goal.returns-in_err-tell_frames-clause-again
returns-in_err-tell_frames-clause-again g c =
    let p = err_from_is_err_and c.from_residual-in_err-tell_frames.result
    c.from_residual-in_err-tell_frames.ensures.1 in
    rw (p.1, p.2) (told_again c.args.profile (g.R.AgainIn.begins c.args.input.now)
    (between (g.R.ByteIn.remaining c.args.input.now)
    (g.R.ByteIn.remaining c.tell_frames.new.input) (g.R.ByteIn.failures c.args.input.now)
    (g.R.ByteIn.failures c.tell_frames.new.input)) c.in_ok-reader.reader
    (g.R.ByteIn.remaining c.open_located.new.input) c.in_err-tell_frames.field-0.0
    c.in_err-tell_frames.ensures.own)

pub returns-clause-ok : goal.returns-clause-ok
returns-clause-ok g c =
    let o0 = g.W.ByteOut.contents c.args.output.now in
    let o1 = g.W.ByteOut.contents c.write_head.new.output in
    let o2 = g.W.ByteOut.contents c.write_record.new.output in
    let o3 = g.W.ByteOut.contents c.tell_frames.new.output in
    let ob = g.W.ByteOut.failures c.args.output.now in
    let om = g.W.ByteOut.failures c.write_head.new.output in
    let oa = g.W.ByteOut.failures c.write_record.new.output in
    let oz = g.W.ByteOut.failures c.tell_frames.new.output in
    let r = c.in_ok-reader.reader in
    let a = c.in_ok-checked.checked in
    let wrote = group_wrote (head_facts c.args.form r.head) o0 o1 ob om c.in_ok-write_head.field-0
    (head_told c.args.form (between o0 o1 ob om) (Ok c.in_ok-write_head.field-0)
    c.head.ensures.value c.in_ok-write_head.ensures) in
    let also = group_wrote (record_facts c.args.form a.configuration) o1 o2 om oa
    c.in_ok-write_record.field-0 c.in_ok-write_record.ensures in
    let is = subst (λ (z : Head). IsStream c.args.profile (record { head = z; accepted = a }))
    c.head-2.ensures.value c.in_ok-checked.ensures.ok in
    stream_done c.args.profile c.args.form c.args.count
    (g.R.ByteIn.remaining c.args.input.now) (g.R.ByteIn.remaining c.open_located.new.input)
    (g.R.ByteIn.failures c.args.input.now) (g.R.ByteIn.failures c.open_located.new.input)
    r (rw c.scope.ensures at c.in_ok-reader.ensures.answer.1)
    c.in_ok-reader.ensures.answer.0 o0 o1 ob om wrote a is o2 oa also
    (g.R.ByteIn.remaining c.tell_frames.new.input) o3
    (g.R.ByteIn.failures c.tell_frames.new.input) oz c.in_ok-tell_frames.ensures.ok
