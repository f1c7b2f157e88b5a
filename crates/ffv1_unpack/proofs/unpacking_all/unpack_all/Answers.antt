-- Decodes all frames of a file that the profile reads, and goes on after a frame that is refused.
use Rattle.std.proofs.Common.{◌≡◌, true, inl, inr, sym, ◌∙◌}
use Rattle.ffv1_wire.specs.Passage.{passage}
use Rattle.ffv1_video.proofs.Output.{silent}
use Rattle.ffv1_video.specs.Profiles.{scope_in}
use Rattle.ffv1_unpack.proofs.FileSalvaged.{all_fails}
use Rattle.ffv1_unpack.proofs.ItemsCourse.{plain_avi, plain_is}
use Rattle.ffv1_unpack.proofs.SalvagedEnd.{end_done, end_fails, end_none, first_noted, salvage_told}
use Rattle.ffv1_unpack.proofs.OwnFaults.{written_unpacks}
use Rattle.ffv1_unpack.proofs.ReadAgain.{unpack_again, written_again}
use Rattle.ffv1_unpack.proofs.ToldChecks.{err_so, ok_so, refused_again, refused_tried}
use Rattle.ffv1_unpack.proofs.ToldChecks.{way_plain, way_tells}
use Rattle.ffv1_unpack.proofs.UnpackedTold.{own_told, reads_again, refused_unpacks, segment_writes}
use Rattle.ffv1_unpack.proofs.UnpackedTold.{tried_untold, unpack_refused}
use Rattle.ffv1_unpack.proofs.unpacking_all.unpack_all.Goals as goal

pub returns-in-Err-answer-clause-err : goal.returns-in-Err-answer-clause-err
returns-in-Err-answer-clause-err g c =
    let nothing = way_plain c.open_whole.new.way c.tells.result c.tells.ensures c.if-tells.false in
    inl (inr (all_fails c.args.profile (g.R.ByteIn.remaining c.args.input.now)
    (g.R.ByteIn.remaining c.open_whole.new.input)
    (g.R.ByteIn.remaining c.salvage_file-output.new.input)
    (g.R.ByteIn.failures c.args.input.now) (g.R.ByteIn.failures c.open_whole.new.input)
    (g.R.ByteIn.failures c.salvage_file-output.new.input)
    c.in-Ok.player.reader c.in-Ok.player.decoder.accepted (c.in-Ok.ensures.ok nothing)
    (c.in-Ok.ensures.stands nothing).reached c.in-Ok.ensures.text
    (passage g.L.ByteOut.contents g.L.ByteOut.failures c.args.lines.now
    c.salvage_file-output.new.lines)
    (passage g.W.ByteOut.contents g.W.ByteOut.failures c.args.output
    c.salvage_file-output.result.0)
    c.in-Err-answer.fault (rw c.in-Err-answer.is at c.salvage_file-output.ensures.err)))

pub returns-in-Err-answer-clause-own : goal.returns-in-Err-answer-clause-own
returns-in-Err-answer-clause-own g c =
    let nothing = way_plain c.open_whole.new.way c.tells.result c.tells.ensures c.if-tells.false in
    written_unpacks c.args.profile c.in-Ok.player.reader
    (g.R.ByteIn.remaining c.args.input.now)
    (g.R.ByteIn.remaining c.open_whole.new.input) c.in-Err-answer.fault
    (c.in-Ok.ensures.stands nothing)
    (c.in-Ok.ensures.ok nothing).within (rw c.in-Err-answer.is at c.salvage_file-output.ensures.own)

pub returns-in-Ok-end_all-clause-ok : goal.returns-in-Ok-end_all-clause-ok
returns-in-Ok-end_all-clause-ok g c =
    let nothing = way_plain c.open_whole.new.way c.tells.result c.tells.ensures c.if-tells.false in
    let all = rw c.in-Ok-answer.is at c.salvage_file-output.ensures.ok in
    let last = c.salvage_file-output.new.player.reader in
    let cues = rw (c.in-Ok.ensures.uncued, c.in-Ok-answer.is) at
    c.salvage_file-output.ensures.cued in
    let stays = rw c.in-Ok-answer.is at c.salvage_file-output.ensures.stays in
    let goes = rw c.in-Ok-answer.is at c.salvage_file-output.ensures.course in
    let kind = rw c.in-Ok-answer.is at c.salvage_file-output.ensures.kind in
    let same = c.salvage_file-output.ensures.container in
    let done = c.in-Ok-end_all.ensures.ok in
    let told = c.in-Ok-end_all.told in
    let end = salvage_told c.args.profile (g.R.ByteIn.remaining c.args.input.now)
    (g.R.ByteIn.remaining c.open_whole.new.input)
    (g.R.ByteIn.remaining c.salvage_file-output.new.input)
    (g.R.ByteIn.remaining c.end_all.new.input)
    (g.R.ByteIn.failures c.args.input.now) (g.R.ByteIn.failures c.open_whole.new.input)
    (g.R.ByteIn.failures c.salvage_file-output.new.input)
    (g.R.ByteIn.failures c.end_all.new.input)
    c.in-Ok.player.reader last c.in-Ok.player.decoder.accepted (c.in-Ok.ensures.ok nothing)
    (c.in-Ok.ensures.stands nothing) c.salvage_file-output.new.player.course
    c.salvage_file-output.new.player.cued cues goes same kind stays
    c.in-Ok.ensures.text (g.L.ByteOut.contents c.args.lines.now)
    (g.L.ByteOut.contents c.salvage_file-output.new.lines)
    (g.L.ByteOut.contents c.end_all.new.lines) (g.L.ByteOut.failures c.args.lines.now)
    (g.L.ByteOut.failures c.salvage_file-output.new.lines)
    (g.L.ByteOut.failures c.end_all.new.lines)
    (passage g.W.ByteOut.contents g.W.ByteOut.failures c.args.output
    c.salvage_file-output.result.0)
    all.0 c.in-Ok-answer.counts all.1 all.2
    told.0 told.1 done.0 in
    inl (end_done c.args.profile (g.R.ByteIn.remaining c.args.input.now)
    (g.R.ByteIn.remaining c.open_whole.new.input)
    (g.R.ByteIn.remaining c.salvage_file-output.new.input)
    (g.R.ByteIn.remaining c.end_all.new.input)
    (g.R.ByteIn.failures c.args.input.now) (g.R.ByteIn.failures c.open_whole.new.input)
    (g.R.ByteIn.failures c.salvage_file-output.new.input)
    (g.R.ByteIn.failures c.end_all.new.input)
    c.in-Ok.player.reader last c.in-Ok.player.decoder.accepted (c.in-Ok.ensures.ok nothing)
    (c.in-Ok.ensures.stands nothing) c.salvage_file-output.new.player.course
    c.salvage_file-output.new.player.cued cues goes same kind stays
    c.in-Ok.ensures.text (g.L.ByteOut.contents c.args.lines.now)
    (g.L.ByteOut.contents c.salvage_file-output.new.lines)
    (g.L.ByteOut.contents c.end_all.new.lines) (g.L.ByteOut.failures c.args.lines.now)
    (g.L.ByteOut.failures c.salvage_file-output.new.lines)
    (g.L.ByteOut.failures c.end_all.new.lines)
    (passage g.W.ByteOut.contents g.W.ByteOut.failures c.args.output
    c.salvage_file-output.result.0)
    all.0 c.in-Ok-answer.counts all.1 all.2
    told.0 told.1 end done.1
    (first_noted c.args.profile (g.R.ByteIn.remaining c.args.input.now)
    (g.R.ByteIn.remaining c.open_whole.new.input) (g.R.ByteIn.remaining c.end_all.new.input)
    (g.R.ByteIn.failures c.args.input.now) (g.R.ByteIn.failures c.end_all.new.input)
    c.in-Ok.player.reader told.1 _ (c.in-Ok.ensures.stands nothing)
    (λ plain. elim (all.3 plain) [
      | inl comes ↦
          inl (c.in-Ok-end_all.ensures.noted
          (same ∙ plain_avi c.in-Ok.player.reader.place c.in-Ok.player.reader.offset plain)
          (plain_is c.salvage_file-output.new.player.course (kind ∙ plain))
          (scope_in c.args.profile) (g.R.ByteIn.remaining c.args.input.now)
          (comes (scope_in c.args.profile) (g.R.ByteIn.remaining c.args.input.now)
          (c.in-Ok.ensures.stands nothing)))
      | inr many ↦ inr many
    ])))

pub returns-clause-err : goal.returns-clause-err
returns-clause-err g c =
    let nothing = way_plain c.open_whole.new.way c.tells.result c.tells.ensures c.if-tells.false in
    let all = rw c.in-Ok-answer.is at c.salvage_file-output.ensures.ok in
    let last = c.salvage_file-output.new.player.reader in
    let cues = rw (c.in-Ok.ensures.uncued, c.in-Ok-answer.is) at
    c.salvage_file-output.ensures.cued in
    let stays = rw c.in-Ok-answer.is at c.salvage_file-output.ensures.stays in
    let goes = rw c.in-Ok-answer.is at c.salvage_file-output.ensures.course in
    let kind = rw c.in-Ok-answer.is at c.salvage_file-output.ensures.kind in
    let same = c.salvage_file-output.ensures.container in
    elim c.in-Err-end_all.ensures.err [
      | inl fails ↦ inl (inr (end_fails c.args.profile (g.R.ByteIn.remaining c.args.input.now)
          (g.R.ByteIn.remaining c.open_whole.new.input)
          (g.R.ByteIn.remaining c.salvage_file-output.new.input)
          (g.R.ByteIn.remaining c.end_all.new.input)
          (g.R.ByteIn.failures c.args.input.now) (g.R.ByteIn.failures c.open_whole.new.input)
          (g.R.ByteIn.failures c.salvage_file-output.new.input)
          (g.R.ByteIn.failures c.end_all.new.input)
          c.in-Ok.player.reader last c.in-Ok.player.decoder.accepted (c.in-Ok.ensures.ok nothing)
          (c.in-Ok.ensures.stands nothing) c.salvage_file-output.new.player.course
          c.salvage_file-output.new.player.cued cues goes same kind stays
          c.in-Ok.ensures.text (g.L.ByteOut.contents c.args.lines.now)
          (g.L.ByteOut.contents c.salvage_file-output.new.lines)
          (g.L.ByteOut.contents c.end_all.new.lines) (g.L.ByteOut.failures c.args.lines.now)
          (g.L.ByteOut.failures c.salvage_file-output.new.lines)
          (g.L.ByteOut.failures c.end_all.new.lines)
          (passage g.W.ByteOut.contents g.W.ByteOut.failures c.args.output
          c.salvage_file-output.result.0)
          all.0 c.in-Ok-answer.counts all.1 all.2
          c.in-Err-end_all.fault fails))
      | inr none ↦ rw none.0 (inl (inr (end_none c.args.profile (g.R.ByteIn.remaining c.args.input.now)
          (g.R.ByteIn.remaining c.open_whole.new.input)
          (g.R.ByteIn.remaining c.salvage_file-output.new.input)
          (g.R.ByteIn.remaining c.end_all.new.input)
          (g.R.ByteIn.failures c.args.input.now) (g.R.ByteIn.failures c.open_whole.new.input)
          (g.R.ByteIn.failures c.salvage_file-output.new.input)
          (g.R.ByteIn.failures c.end_all.new.input)
          c.in-Ok.player.reader last c.in-Ok.player.decoder.accepted (c.in-Ok.ensures.ok nothing)
          (c.in-Ok.ensures.stands nothing) c.salvage_file-output.new.player.course
          c.salvage_file-output.new.player.cued cues goes same kind stays
          c.in-Ok.ensures.text (g.L.ByteOut.contents c.args.lines.now)
          (g.L.ByteOut.contents c.salvage_file-output.new.lines)
          (g.L.ByteOut.contents c.end_all.new.lines) (g.L.ByteOut.failures c.args.lines.now)
          (g.L.ByteOut.failures c.salvage_file-output.new.lines)
          (g.L.ByteOut.failures c.end_all.new.lines)
          (passage g.W.ByteOut.contents g.W.ByteOut.failures c.args.output
          c.salvage_file-output.result.0)
          all.0 c.in-Ok-answer.counts all.1 all.2
          none.1 none.4 (salvage_told c.args.profile (g.R.ByteIn.remaining c.args.input.now)
          (g.R.ByteIn.remaining c.open_whole.new.input)
          (g.R.ByteIn.remaining c.salvage_file-output.new.input)
          (g.R.ByteIn.remaining c.end_all.new.input)
          (g.R.ByteIn.failures c.args.input.now) (g.R.ByteIn.failures c.open_whole.new.input)
          (g.R.ByteIn.failures c.salvage_file-output.new.input)
          (g.R.ByteIn.failures c.end_all.new.input)
          c.in-Ok.player.reader last c.in-Ok.player.decoder.accepted (c.in-Ok.ensures.ok nothing)
          (c.in-Ok.ensures.stands nothing) c.salvage_file-output.new.player.course
          c.salvage_file-output.new.player.cued cues goes same kind stays
          c.in-Ok.ensures.text (g.L.ByteOut.contents c.args.lines.now)
          (g.L.ByteOut.contents c.salvage_file-output.new.lines)
          (g.L.ByteOut.contents c.end_all.new.lines) (g.L.ByteOut.failures c.args.lines.now)
          (g.L.ByteOut.failures c.salvage_file-output.new.lines)
          (g.L.ByteOut.failures c.end_all.new.lines)
          (passage g.W.ByteOut.contents g.W.ByteOut.failures c.args.output
          c.salvage_file-output.result.0)
          all.0 c.in-Ok-answer.counts all.1 all.2
          none.1 none.4 none.5) none.2 none.3)))
    ]

pub returns-clause-own : goal.returns-clause-own
returns-clause-own g c = inl c.in-Err-end_all.ensures.own

pub returns-in-Err-answer-clause-again : goal.returns-in-Err-answer-clause-again
returns-in-Err-answer-clause-again g c =
    inl (written_again c.args.profile
    (g.R.AgainIn.begins c.args.input.now)
    (passage g.R.ByteIn.remaining g.R.ByteIn.failures c.args.input.now c.salvage_file-output.new.input)
    c.in-Ok.player.reader (g.R.ByteIn.remaining c.open_whole.new.input)
    c.in-Err-answer.fault (rw c.in-Err-answer.is at c.salvage_file-output.ensures.own))

pub returns-clause-again : goal.returns-clause-again
returns-clause-again g c =
    inl (unpack_again c.args.profile
    (g.R.AgainIn.begins c.args.input.now)
    (passage g.R.ByteIn.remaining g.R.ByteIn.failures c.args.input.now c.end_all.new.input)
    c.in-Err-end_all.fault c.in-Err-end_all.ensures.own)

pub returns-in-Err-answer-clause-tried : goal.returns-in-Err-answer-clause-tried
returns-in-Err-answer-clause-tried g c =
    tried_untold (passage g.R.ByteIn.remaining g.R.ByteIn.failures c.args.input.now c.salvage_file-output.new.input)
    c.in-Err-answer.fault (rw c.in-Err-answer.is at c.salvage_file-output.ensures.untold)

pub returns-clause-tried : goal.returns-clause-tried
returns-clause-tried g c =
    tried_untold (passage g.R.ByteIn.remaining g.R.ByteIn.failures c.args.input.now c.end_all.new.input)
    c.in-Err-end_all.fault c.in-Err-end_all.ensures.untold

-- ---- it is refused

pub returns-in-Err-clause-err : goal.returns-in-Err-clause-err
returns-in-Err-clause-err g c =
    let refused = c.refused_at.ensures in
    unpack_refused c.args.profile (passage g.R.ByteIn.remaining g.R.ByteIn.failures
    c.args.input.now c.open_whole.new.input) (passage g.L.ByteOut.contents g.L.ByteOut.failures
    c.args.lines.now c.tell_refused-fault.new.output) (passage g.W.ByteOut.contents
    g.W.ByteOut.failures c.args.output c.args.output)
    (silent (g.W.ByteOut.contents c.args.output) (g.W.ByteOut.failures c.args.output))
    c.open_whole.new.told.data c.open_whole.new.told.faults.items c.in-Err.fault
    c.tell_refused-fault.result c.open_whole.new.way c.in-Err.ensures.none c.in-Err.ensures.err
    c.in-Err.ensures.plainly c.in-Err.ensures.refused
    (rw refused at c.tell_refused-fault.ensures.none) (rw refused at c.tell_refused-fault.ensures.some)

pub returns-in-Err-clause-own : goal.returns-in-Err-clause-own
returns-in-Err-clause-own g c =
    refused_unpacks c.args.profile c.in-Err.fault c.tell_refused-fault.result
    (rw c.refused_at.ensures at c.tell_refused-fault.ensures.own) c.in-Err.ensures.own

pub returns-in-Err-clause-again : goal.returns-in-Err-clause-again
returns-in-Err-clause-again g c =
    refused_again c.args.profile c.in-Err.fault c.tell_refused-fault.result
    (rw c.refused_at.ensures at c.tell_refused-fault.ensures.own) (g.R.AgainIn.begins c.args.input.now)
    (passage g.R.ByteIn.remaining g.R.ByteIn.failures c.args.input.now c.open_whole.new.input)
    c.in-Err.ensures.again

pub returns-in-Err-clause-tried : goal.returns-in-Err-clause-tried
returns-in-Err-clause-tried g c =
    refused_tried (passage g.R.ByteIn.remaining g.R.ByteIn.failures c.args.input.now
    c.open_whole.new.input) c.in-Err.fault c.tell_refused-fault.result
    (rw c.refused_at.ensures at c.tell_refused-fault.ensures.own) c.in-Err.ensures.tried

-- ---- something is told

pub returns-then-tells-clause-ok : goal.returns-then-tells-clause-ok
returns-then-tells-clause-ok g c =
    let some = way_tells c.open_whole.new.way c.tells.result c.tells.ensures c.if-tells.true in
    ok_so _ _ c.salvage_told.result.1 (λ r h. inr (c.in-Ok.ensures.plainly some, h))
    (c.salvage_told.ensures.ok c.args.profile (g.R.ByteIn.remaining c.args.input.now)
    (g.R.ByteIn.failures c.args.input.now) (c.in-Ok.ensures.told some) c.in-Ok.ensures.uncued)

pub returns-then-tells-clause-err : goal.returns-then-tells-clause-err
returns-then-tells-clause-err g c =
    let some = way_tells c.open_whole.new.way c.tells.result c.tells.ensures c.if-tells.true in
    err_so _ _ c.salvage_told.result.1 (λ f h. inr (inl (c.in-Ok.ensures.plainly some, h)))
    (c.salvage_told.ensures.err c.args.profile (g.R.ByteIn.remaining c.args.input.now)
    (g.R.ByteIn.failures c.args.input.now) (c.in-Ok.ensures.told some) c.in-Ok.ensures.uncued)

pub returns-then-tells-clause-own : goal.returns-then-tells-clause-own
returns-then-tells-clause-own g c =
    let some = way_tells c.open_whole.new.way c.tells.result c.tells.ensures c.if-tells.true in
    err_so _ _ c.salvage_told.result.1 (λ f h. own_told c.args.profile f (c.in-Ok.ensures.wide some)
    (segment_writes c.in-Ok.player.reader (g.R.ByteIn.remaining c.open_whole.new.input) f
    (c.in-Ok.ensures.told some).segment h)) c.salvage_told.ensures.own

pub returns-then-tells-clause-again : goal.returns-then-tells-clause-again
returns-then-tells-clause-again g c =
    let some = way_tells c.open_whole.new.way c.tells.result c.tells.ensures c.if-tells.true in
    err_so _ _ c.salvage_told.result.1 (λ f h. inl (reads_again c.args.profile
    (g.R.AgainIn.begins c.args.input.now) (passage g.R.ByteIn.remaining g.R.ByteIn.failures
    c.args.input.now c.salvage_told.new.input) f (segment_writes c.in-Ok.player.reader
    (g.R.ByteIn.remaining c.open_whole.new.input) f (c.in-Ok.ensures.told some).segment h)))
    c.salvage_told.ensures.own

pub returns-then-tells-clause-tried : goal.returns-then-tells-clause-tried
returns-then-tells-clause-tried g c =
    err_so _ _ c.salvage_told.result.1 (tried_untold (passage g.R.ByteIn.remaining
    g.R.ByteIn.failures c.args.input.now c.salvage_told.new.input)) c.salvage_told.ensures.untold

pub salvage_file-output-requires-clause-sound : goal.salvage_file-output-requires-clause-sound
salvage_file-output-requires-clause-sound g c =
    let nothing = way_plain c.open_whole.new.way c.tells.result c.tells.ensures c.if-tells.false in
    (c.in-Ok.ensures.ok nothing).sound
