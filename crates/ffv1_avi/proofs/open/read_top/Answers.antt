-- The chunks of RIFF, of so many bytes, up to the first movi.
use Rattle.std.proofs.Common.{refl}
use Rattle.std.proofs.lemmas.Result.{err_from_is_err_and}
use Rattle.ffv1_reads.specs.declared.fault.FileFault.TheVariants as fault
use Rattle.ffv1_avi.specs.Files.{top_others, top_read}
use Rattle.ffv1_avi.specs.Internal.Views.{headers_with, head_with}
use Rattle.ffv1_reads.proofs.Reading.{goes_none, goes_read}
use Rattle.ffv1_avi.proofs.ChunkByChunk.{goes_entry}
use Rattle.ffv1_reads.proofs.Rooms.{room_kept, room_none, room_then}
use Rattle.ffv1_avi.proofs.RiffReadings.{reads_still, stops_here, stops_then}
use Rattle.ffv1_avi.proofs.SpotReadings.{end_refused, header_refused, movi_begins, spot_next}
use Rattle.ffv1_avi.proofs.SpotReadings.{visit_refused}
use Rattle.ffv1_reads.proofs.Answered.{answers_err, answers_fault, answers_first, answers_given}
use Rattle.ffv1_reads.proofs.Answered.{answers_next, answers_ok, answers_refused}
use Rattle.ffv1_avi.proofs.ChunkByChunk.{answers_end, answers_entry, answers_no_entry}
use Rattle.std.proofs.Common.{inl}
use Rattle.ffv1_avi.proofs.open.read_top.Goals as goal

pub returns-in_err-entry-clause-answer : goal.returns-in_err-entry-clause-answer
returns-in_err-entry-clause-answer g c = answers_err _ _ _ _ c.from_residual.ensures.1
    (answers_no_entry _ _ _ _ _ c.loop-entry.invariant.0 c.in_err-entry.ensures.answer)

pub returns-in_err-more-clause-answer : goal.returns-in_err-more-clause-answer
returns-in_err-more-clause-answer g c = answers_err _ _ _ _ c.from_residual-in_err-more.ensures.1
    (answers_entry _ _ _ _ _ c.loop-entry.invariant.0
    (rw c.in-Some.is at c.in_ok-entry.ensures.answer)
    (answers_first _ _ c.in_err-more.ensures.answer))

pub returns-in-Movi-clause-answer : goal.returns-in-Movi-clause-answer
returns-in-Movi-clause-answer g c = rw c.place_in.ensures
    (answers_ok (answers_entry _ _ _ _ _ c.loop-entry.invariant.0
    (rw c.in-Some.is at c.in_ok-entry.ensures.answer) (answers_next _
    (rw c.in-Movi.is at c.in_ok-more.ensures.answer) answers_given)))

pub loop-entry-preserved : goal.loop-entry-preserved
loop-entry-preserved g c =
    let e = c.in-Some.entry in
    let found = headers_with c.loop-entry.found c.loop-entry.config.items in
    let here = goes_entry _ _ _ _ _ _ _ e c.loop-entry.invariant.0
    (rw c.in-Some.is at c.in_ok-entry.ensures.answer) in (
      goes_read _ _ _ _ _ here (rw c.in-On.is at c.in_ok-more.ensures.answer),
      goes_read _ _ _ _ _ (goes_entry _ _ _ _ _ _ _ e c.loop-entry.invariant.1
          (rw c.in-Some.is at c.in_ok-entry.ensures.answer))
          (rw c.in-On.is at c.in_ok-more.ensures.answer),
      room_then c.loop-entry.invariant.2 (room_then (room_kept _ c.in_ok-entry.ensures.answer.1)
          c.in_ok-more.ensures.grown),
      spot_next c.args.extent c.args.size found c.loop-entry.left e
          (headers_with c.in-On.more c.visit_top.new.config.items)
          (rw c.in-Some.is at c.in_ok-entry.ensures.listed) c.loop-entry.invariant.3
          (rw c.in-Some.is at c.in_ok-entry.ensures.answer).1
          (rw c.in-On.is at c.in_ok-more.ensures.answer).1
          (rw c.padded.ensures at c.saturating_add-in-Some.ensures),
    )

pub returns-clause-answer : goal.returns-clause-answer
returns-clause-answer g c = answers_fault fault.NotAvi _
    (answers_end _ _ _ _ _ c.loop-entry.invariant.0
    (rw c.in_default.is at c.in_ok-entry.ensures.answer) (answers_refused _ (inl refl)))

pub returns-in-Movi-clause-grown : goal.returns-in-Movi-clause-grown
returns-in-Movi-clause-grown g c = room_then c.loop-entry.invariant.2
    (room_then (room_kept _ c.in_ok-entry.ensures.answer.1) c.in_ok-more.ensures.grown)

pub loop-entry-init : goal.loop-entry-init
unfolding top_others top_read
loop-entry-init g c = rw c.room_in-left.ensures (
  goes_none (top_read c.args.extent c.args.size)
      (g.R.ByteIn.remaining c.args.input.now) (g.R.ByteIn.failures c.args.input.now),
  goes_none (top_others c.args.extent c.args.size)
      (g.R.ByteIn.remaining c.args.input.now) (g.R.ByteIn.failures c.args.input.now),
  room_none _ _,
  reads_still,
)

pub returns-in_err-entry-clause-from : goal.returns-in_err-entry-clause-from
returns-in_err-entry-clause-from g c =
    let p = err_from_is_err_and c.from_residual.result c.from_residual.ensures.1 in
    let f = c.in_err-entry.field-0.0 in
    let inv = c.loop-entry.invariant in
    let found = headers_with c.loop-entry.found c.loop-entry.config.items in
    rw (p.1, p.2) (stops_then f inv.0.same inv.3
    (stops_here f (header_refused c.args.extent c.args.size found c.loop-entry.left _ _ _ _ f
    c.in_err-entry.ensures.answer)))

pub returns-in_err-more-clause-from : goal.returns-in_err-more-clause-from
returns-in_err-more-clause-from g c =
    let p = err_from_is_err_and c.from_residual-in_err-more.result
    c.from_residual-in_err-more.ensures.1 in
    let f = c.in_err-more.field-0.0 in
    let inv = c.loop-entry.invariant in
    let found = headers_with c.loop-entry.found c.loop-entry.config.items in
    let e = c.in-Some.entry in
    rw (p.1, p.2) (stops_then f inv.0.same inv.3
    (stops_here f (visit_refused c.args.extent c.args.size found c.loop-entry.left e _ _ _ _ _ _ f
    (rw c.in-Some.is at c.in_ok-entry.ensures.answer) c.in_err-more.ensures.answer)))

pub returns-in-Movi-clause-from : goal.returns-in-Movi-clause-from
returns-in-Movi-clause-from g c =
    let e = c.in-Some.entry in
    let found = headers_with c.loop-entry.found c.loop-entry.config.items in
    let head = head_with c.in-Movi.sizes c.visit_top.new.config.items in
    let more = headers_with c.in-Movi.known c.visit_top.new.config.items in
    rw c.place_in.ensures (movi_begins c.args.extent c.args.size found c.loop-entry.left e more (head, c.in-Movi.place)
    (rw c.in-Some.is at c.in_ok-entry.ensures.listed) c.loop-entry.invariant.3
    (rw c.in-Some.is at c.in_ok-entry.ensures.answer).1
    (rw c.in-Movi.is at c.in_ok-more.ensures.answer).1 c.saturating_add.ensures)

pub returns-clause-from : goal.returns-clause-from
returns-clause-from g c =
    let inv = c.loop-entry.invariant in
    let found = headers_with c.loop-entry.found c.loop-entry.config.items in
    stops_then fault.NotAvi inv.0.same inv.3 (stops_here fault.NotAvi
    (end_refused c.args.extent c.args.size found c.loop-entry.left _ _ _ _
    (rw c.in_default.is at c.in_ok-entry.ensures.answer)))

pub returns-in-Movi-clause-others : goal.returns-in-Movi-clause-others
returns-in-Movi-clause-others g c = (answers_ok (answers_entry _ _ _ _ _ c.loop-entry.invariant.1
    (rw c.in-Some.is at c.in_ok-entry.ensures.answer) (answers_next _
    (rw c.in-Movi.is at c.in_ok-more.ensures.answer) answers_given))).1
