-- Writes the lines of the faults that are told, then unpacks all items that are left.
use Rattle.std.proofs.Common.{◌≡◌, inl, inr}
use Rattle.ffv1_wire.specs.Passage.{passage}
use Rattle.ffv1_record.specs.Configuration.{is_rct}
use Rattle.ffv1_video.proofs.Output.{silent}
use Rattle.ffv1_unpack.proofs.ToldUnpacked.{all_told, end_untold, none_told}
use Rattle.ffv1_unpack.proofs.ItemsCourse.{segment_on}
use Rattle.ffv1_unpack.proofs.ToldUnpacked.{told_stops, told_unwritten}
use Rattle.ffv1_unpack.proofs.unpacking_told.salvage_told.Goals as goal

pub returns-in-Err-clause-err : goal.returns-in-Err-clause-err
returns-in-Err-clause-err g c = λ profile i0 ib opens uncued.
    (told_unwritten profile i0 (g.R.ByteIn.remaining c.args.input.now) ib
    (g.R.ByteIn.failures c.args.input.now) c.args.player.now.reader
    c.args.player.now.decoder.accepted c.args.told.now.data c.args.told.now.faults.items opens
    (passage g.L.ByteOut.contents g.L.ByteOut.failures c.args.lines.now c.write_lines.new.output)
    (passage g.W.ByteOut.contents g.W.ByteOut.failures c.args.output c.args.output) c.in-Err.fault
    (silent (g.W.ByteOut.contents c.args.output) (g.W.ByteOut.failures c.args.output))
    c.in-Err.ensures)

pub returns-in-Err-answer-clause-err : goal.returns-in-Err-answer-clause-err
returns-in-Err-answer-clause-err g c = λ profile i0 ib opens uncued.
    (told_stops profile i0 (g.R.ByteIn.remaining c.args.input.now)
    (g.R.ByteIn.remaining c.salvage_file-output.new.input) ib (g.R.ByteIn.failures c.args.input.now)
    (g.R.ByteIn.failures c.salvage_file-output.new.input) c.args.player.now.reader
    c.args.player.now.decoder.accepted c.args.told.now.data c.args.told.now.faults.items opens
    c.requires.text (g.L.ByteOut.contents c.args.lines.now)
    (g.L.ByteOut.contents c.write_lines.new.output)
    (g.L.ByteOut.contents c.salvage_file-output.new.lines) (g.L.ByteOut.failures c.args.lines.now)
    (g.L.ByteOut.failures c.write_lines.new.output)
    (g.L.ByteOut.failures c.salvage_file-output.new.lines) c.in-Ok.ensures
    (passage g.W.ByteOut.contents g.W.ByteOut.failures c.args.output
    c.salvage_file-output.result.0)
    c.in-Err-answer.fault (rw c.in-Err-answer.is at c.salvage_file-output.ensures.err))

pub returns-in-Ok-end_all-clause-ok : goal.returns-in-Ok-end_all-clause-ok
returns-in-Ok-end_all-clause-ok g c = λ profile i0 ib opens uncued.
    (let all = rw c.in-Ok-answer.is at c.salvage_file-output.ensures.ok in
    let r = c.args.player.now.reader in
    let a = c.args.player.now.decoder.accepted in
    let start = c.args.told.now.data in
    let stays = rw c.in-Ok-answer.is at c.salvage_file-output.ensures.stays in
    let same : c.salvage_file-output.new.player.reader ≡ r =
    stays (segment_on r.place r.offset c.requires.segment) in
    let goes = rw c.in-Ok-answer.is at c.salvage_file-output.ensures.course in
    let cues = rw (uncued, c.in-Ok-answer.is) at c.salvage_file-output.ensures.cued in
    let done = rw same at c.in-Ok-end_all.ensures.ok in
    all_told profile i0 (g.R.ByteIn.remaining c.args.input.now)
    (g.R.ByteIn.remaining c.salvage_file-output.new.input)
    (g.R.ByteIn.remaining c.end_all.new.input) ib (g.R.ByteIn.failures c.args.input.now)
    (g.R.ByteIn.failures c.salvage_file-output.new.input)
    (g.R.ByteIn.failures c.end_all.new.input) r a start c.args.told.now.faults.items opens
    c.salvage_file-output.new.player.course c.salvage_file-output.new.player.cued cues goes
    c.requires.text
    (g.L.ByteOut.contents c.args.lines.now) (g.L.ByteOut.contents c.write_lines.new.output)
    (g.L.ByteOut.contents c.salvage_file-output.new.lines)
    (g.L.ByteOut.contents c.end_all.new.lines) (g.L.ByteOut.failures c.args.lines.now)
    (g.L.ByteOut.failures c.write_lines.new.output)
    (g.L.ByteOut.failures c.salvage_file-output.new.lines)
    (g.L.ByteOut.failures c.end_all.new.lines) c.in-Ok.ensures
    (passage g.W.ByteOut.contents g.W.ByteOut.failures c.args.output
    c.salvage_file-output.result.0)
    all.0 all.2 c.with_told-counts.result
    (c.with_told-counts.ensures.salvaged start (is_rct a.configuration.colour) all.0 all.1)
    c.in-Ok-end_all.all.0 c.in-Ok-end_all.all.1 done.0 done.1)

pub returns-in-Err-end_all-clause-err : goal.returns-in-Err-end_all-clause-err
returns-in-Err-end_all-clause-err g c = λ profile i0 ib opens uncued.
    (let all = rw c.in-Ok-answer.is at c.salvage_file-output.ensures.ok in
    let r = c.args.player.now.reader in
    let a = c.args.player.now.decoder.accepted in
    let start = c.args.told.now.data in
    let stays = rw c.in-Ok-answer.is at c.salvage_file-output.ensures.stays in
    let same : c.salvage_file-output.new.player.reader ≡ r =
    stays (segment_on r.place r.offset c.requires.segment) in
    let goes = rw c.in-Ok-answer.is at c.salvage_file-output.ensures.course in
    let cues = rw (uncued, c.in-Ok-answer.is) at c.salvage_file-output.ensures.cued in
    elim (rw same at c.in-Err-end_all.ensures.err) [
      | inl fails ↦ end_untold profile i0 (g.R.ByteIn.remaining c.args.input.now)
          (g.R.ByteIn.remaining c.salvage_file-output.new.input)
          (g.R.ByteIn.remaining c.end_all.new.input) ib (g.R.ByteIn.failures c.args.input.now)
          (g.R.ByteIn.failures c.salvage_file-output.new.input)
          (g.R.ByteIn.failures c.end_all.new.input) r a start c.args.told.now.faults.items opens
          c.salvage_file-output.new.player.course c.salvage_file-output.new.player.cued cues goes
          c.requires.text
          (g.L.ByteOut.contents c.args.lines.now) (g.L.ByteOut.contents c.write_lines.new.output)
          (g.L.ByteOut.contents c.salvage_file-output.new.lines)
          (g.L.ByteOut.contents c.end_all.new.lines) (g.L.ByteOut.failures c.args.lines.now)
          (g.L.ByteOut.failures c.write_lines.new.output)
          (g.L.ByteOut.failures c.salvage_file-output.new.lines)
          (g.L.ByteOut.failures c.end_all.new.lines) c.in-Ok.ensures
          (passage g.W.ByteOut.contents g.W.ByteOut.failures c.args.output
          c.salvage_file-output.result.0)
          all.0 all.2 c.with_told-counts.result
          (c.with_told-counts.ensures.salvaged start (is_rct a.configuration.colour) all.0 all.1)
          c.in-Err-end_all.fault fails
      | inr none ↦ rw none.0 (none_told profile i0 (g.R.ByteIn.remaining c.args.input.now)
          (g.R.ByteIn.remaining c.salvage_file-output.new.input)
          (g.R.ByteIn.remaining c.end_all.new.input) ib (g.R.ByteIn.failures c.args.input.now)
          (g.R.ByteIn.failures c.salvage_file-output.new.input)
          (g.R.ByteIn.failures c.end_all.new.input) r a start c.args.told.now.faults.items opens
          c.salvage_file-output.new.player.course c.salvage_file-output.new.player.cued cues goes
          c.requires.text
          (g.L.ByteOut.contents c.args.lines.now) (g.L.ByteOut.contents c.write_lines.new.output)
          (g.L.ByteOut.contents c.salvage_file-output.new.lines)
          (g.L.ByteOut.contents c.end_all.new.lines) (g.L.ByteOut.failures c.args.lines.now)
          (g.L.ByteOut.failures c.write_lines.new.output)
          (g.L.ByteOut.failures c.salvage_file-output.new.lines)
          (g.L.ByteOut.failures c.end_all.new.lines) c.in-Ok.ensures
          (passage g.W.ByteOut.contents g.W.ByteOut.failures c.args.output
          c.salvage_file-output.result.0)
          all.0 all.2 c.with_told-counts.result
          (c.with_told-counts.ensures.salvaged start (is_rct a.configuration.colour) all.0 all.1)
          none.1 none.4 none.5 none.2 none.3)
    ])
