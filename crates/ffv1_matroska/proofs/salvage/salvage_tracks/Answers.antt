-- Reads Tracks: what their first track of FFV1 video says, with its record in place of what the
-- vector `config` has; and `Checksum` if their CRC-32 is not the sum.
use Rattle.std.proofs.Common.{◌≤◌, ◌∙◌, length, max, sym, ap}
use Rattle.std.proofs.lemmas.Result.{err_from_is_err_and}
use Rattle.std.proofs.Common.{arith}
use Rattle.std.proofs.lemmas.Grind.{common_steps}
use Rattle.std.specs.Vec.{vec_capacity}
use Rattle.ffv1_matroska.specs.Opened.{tracks_read}
use Rattle.ffv1_matroska.specs.Salvaged.{sound_part, sum_fault, tracks_salvaged}
use Rattle.ffv1_matroska.proofs.SalvagePlain.{no_sum, tracks_stops, tracks_stops_judged}
use Rattle.ffv1_matroska.proofs.MemoryFaults.{told_cause, told_track}
use Rattle.ffv1_matroska.proofs.KeptRooms.{content_room}
use Rattle.ffv1_reads.proofs.Answered.{answers_err, answers_fault, answers_first, answers_next}
use Rattle.ffv1_reads.proofs.Answered.{answers_refused}
use Rattle.ffv1_matroska.proofs.salvage.salvage_tracks.Goals as goal

pub returns-in_err-track-clause-answer : goal.returns-in_err-track-clause-answer
unfolding tracks_salvaged
returns-in_err-track-clause-answer g c =
    let f = c.in_err-track.field-0.0 in
    let part = c.sound_part-sound.ensures.value ∙ ap sound_part c.as_slice.ensures.value in
    let why = rw part at c.in_err-track.ensures.value in
    let is = told_cause f ((told_track (sound_part c.keep_tracks.new.content.items)).only f (sym why)) in
    answers_err _ (tracks_salvaged c.args.size) _ _ c.from_residual-in_err-track.ensures.1
    (answers_next _ c.in_ok-keep_tracks.ensures.answer (rw (← why) (answers_refused f is)))

pub returns-clause-grown : goal.returns-clause-grown
returns-clause-grown g c =
    let most : vec_capacity c.push_bytes.new.config ≤ max (vec_capacity c.args.config.now)
    (length c.keep_tracks.new.content.items) = grind (arith, common_steps) in
    content_room c.args.size _ _ _ _ _ c.in_ok-keep_tracks.ensures.answer.1 most

pub returns-in_err-keep_tracks-clause-other : goal.returns-in_err-keep_tracks-clause-other
returns-in_err-keep_tracks-clause-other g c =
    let p = err_from_is_err_and c.from_residual.result c.from_residual.ensures.1 in
    rw p.1 (tracks_stops _ _ _ _ c.in_err-keep_tracks.field-0.0 c.args.size
    c.in_err-keep_tracks.ensures.answer)

pub returns-in_err-keep_tracks-clause-plain : goal.returns-in_err-keep_tracks-clause-plain
unfolding tracks_read
returns-in_err-keep_tracks-clause-plain g c =
    let p = err_from_is_err_and c.from_residual.result c.from_residual.ensures.1 in
    rw (p.1, p.2) (λ none. answers_fault c.in_err-keep_tracks.field-0.0 (tracks_read c.args.size)
    (answers_first _ _ c.in_err-keep_tracks.ensures.answer))

pub returns-in_err-track-clause-other : goal.returns-in_err-track-clause-other
returns-in_err-track-clause-other g c =
    let p = err_from_is_err_and c.from_residual-in_err-track.result
    c.from_residual-in_err-track.ensures.1 in
    let f = c.in_err-track.field-0.0 in
    let content = c.keep_tracks.new.content.items in
    let part = c.sound_part-sound.ensures.value ∙ ap sound_part c.as_slice.ensures.value in
    let why = rw part at c.in_err-track.ensures.value in
    let sum = c.sum_fault-fault.ensures.value ∙ ap sum_fault c.as_slice-2.ensures.value in
    rw (p.1, sum) (tracks_stops_judged _ _ content f c.args.size (sym why)
    c.in_ok-keep_tracks.ensures.answer.1)

pub returns-in_err-track-clause-plain : goal.returns-in_err-track-clause-plain
unfolding tracks_read
returns-in_err-track-clause-plain g c =
    let p = err_from_is_err_and c.from_residual-in_err-track.result
    c.from_residual-in_err-track.ensures.1 in
    let f = c.in_err-track.field-0.0 in
    let content = c.keep_tracks.new.content.items in
    let part = c.sound_part-sound.ensures.value ∙ ap sound_part c.as_slice.ensures.value in
    let why = rw part at c.in_err-track.ensures.value in
    let sum = c.sum_fault-fault.ensures.value ∙ ap sum_fault c.as_slice-2.ensures.value in
    rw (p.1, p.2) (λ none. (let whole = no_sum content (sym sum ∙ none) in
    let plain = rw whole at why in
    let is = told_cause f ((told_track content).only f (sym plain)) in
    answers_fault f (tracks_read c.args.size)
    (answers_next _ c.in_ok-keep_tracks.ensures.answer (rw (← plain) (answers_refused f is)))))
