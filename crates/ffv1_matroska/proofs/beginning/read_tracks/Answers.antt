-- Reads Tracks: what their first track of FFV1 video says, with its record in place of what the
-- vector `config` has.
use Rattle.std.proofs.Common.{◌≤◌, length, max, sym, arith}
use Rattle.std.proofs.lemmas.Grind.{common_steps}
use Rattle.std.specs.Vec.{vec_capacity}
use Rattle.ffv1_matroska.specs.Opened.{tracks_read}
use Rattle.ffv1_matroska.proofs.MemoryFaults.{told_cause, told_track}
use Rattle.ffv1_matroska.proofs.KeptRooms.{content_room}
use Rattle.ffv1_reads.proofs.Answered.{answers_err, answers_next, answers_refused}
use Rattle.ffv1_matroska.proofs.beginning.read_tracks.Goals as goal

pub returns-in_err-track-clause-answer : goal.returns-in_err-track-clause-answer
unfolding tracks_read
returns-in_err-track-clause-answer g c =
    let f = c.in_err-track.field-0.0 in
    let why = rw c.as_slice.ensures.value at c.in_err-track.ensures.value in
    let is = told_cause f ((told_track c.keep_tracks.new.content.items).only f (sym why)) in
    answers_err _ (tracks_read c.args.size) _ _ c.from_residual-in_err-track.ensures.1
    (answers_next _ c.in_ok-keep_tracks.ensures.answer (rw (← why) (answers_refused f is)))

pub returns-clause-grown : goal.returns-clause-grown
returns-clause-grown g c =
    let most : vec_capacity c.push_bytes.new.config ≤ max (vec_capacity c.args.config.now)
    (length c.keep_tracks.new.content.items) = grind (arith, common_steps) in
    content_room c.args.size _ _ _ _ _ c.in_ok-keep_tracks.ensures.answer.1 most

pub returns-clause-kept : goal.returns-clause-kept
returns-clause-kept g c =
    let content = c.in_ok-keep_tracks.ensures in
    content_room c.args.size _ _ _ _ _ content.answer.1 content.kept
