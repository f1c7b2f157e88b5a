-- Reads the header of EBML, of which the first byte may have been read; it is kept in place of what
-- the vector has.
use Rattle.std.proofs.Common.{ℕ, List, Option, refl, sym}
use Rattle.ffv1_reads.specs.Reads.{Reading, given, ◌>>=◌}
use Rattle.ffv1_matroska.specs.Opened.{ebml, ebml_read, told}
use Rattle.ffv1_matroska.specs.Opening.{content_kept, header_in, ident_read, top_size}
use Rattle.ffv1_matroska.proofs.KeptRooms.{content_room}
use Rattle.ffv1_matroska.proofs.MemoryFaults.{told_cause, told_header}
use Rattle.std.proofs.Common.{◌≡◌, ◌-◌, ◌^◌, ◌∙◌, length, arith}
use Rattle.ffv1_reads.proofs.OffsetLaws.{counted_given, counted_same, counted_then, offset_thrice}
use Rattle.ffv1_matroska.proofs.SpotReadings.{ident_counted, kept_counted}
use Rattle.ffv1_reads.proofs.Answered.{answers_err, answers_first, answers_given, answers_next}
use Rattle.ffv1_reads.proofs.Answered.{answers_ok, answers_refused}
use Rattle.ffv1_reads.proofs.Rooms.{room_kept, room_then}
use Rattle.ffv1_matroska.proofs.opening.read_ebml.Goals as goal

abbrev behind_content : List ℕ → Reading (Unit {0})
behind_content content = told (header_in content)

abbrev behind_size : Option ℕ → Reading (Unit {0})
behind_size size = content_kept size >>= behind_content

pub returns-in_err-size-clause-answer : goal.returns-in_err-size-clause-answer
unfolding ebml_read
returns-in_err-size-clause-answer g c = answers_err _ ebml_read _ _
    c.from_residual-in_err-size.ensures.1 (answers_next _ c.in_ok-read_ident.ensures
    (answers_first _ _ c.in_err-size.ensures.answer))

pub returns-in_err-keep_content-clause-answer : goal.returns-in_err-keep_content-clause-answer
unfolding ebml_read
returns-in_err-keep_content-clause-answer g c = answers_err _ ebml_read _ _
    c.from_residual-in_err-keep_content.ensures.1 (answers_next _ c.in_ok-read_ident.ensures
    (answers_next _ c.in_ok-size.ensures.answer (answers_first _ _ c.in_err-keep_content.ensures.answer)))

pub returns-in_err-judge_header-clause-answer : goal.returns-in_err-judge_header-clause-answer
unfolding ebml_read
returns-in_err-judge_header-clause-answer g c =
    let f = c.in_err-judge_header.field-0.0 in
    let why = rw c.as_slice.ensures.value at c.in_err-judge_header.ensures in
    let is = told_cause f ((told_header c.keep_content.new.content.items).only f (sym why)) in
    answers_err _ ebml_read _ _ c.from_residual-in_err-judge_header.ensures.1
    (answers_next _ c.in_ok-read_ident.ensures (answers_next _ c.in_ok-size.ensures.answer
    (answers_next _ c.in_ok-keep_content.ensures.answer (rw (← why) (answers_refused f is)))))

pub returns-clause-answer : goal.returns-clause-answer
unfolding ebml_read
returns-clause-answer g c =
    let is = rw c.as_slice.ensures.value at c.in_ok-judge_header.ensures in
    answers_ok (answers_next _ c.in_ok-read_ident.ensures
    (answers_next _ c.in_ok-size.ensures.answer (answers_next _ c.in_ok-keep_content.ensures.answer (rw
    (← is) answers_given))))

pub returns-clause-counted : goal.returns-clause-counted
unfolding ebml_read
returns-clause-counted g c =
    let size = c.in_ok-size.size in
    let content = c.keep_content.new.content.items in
    let is = rw c.as_slice.ensures.value at c.in_ok-judge_header.ensures in
    let sized = c.in_ok-size.ensures.counted in
    let last = counted_same (given (tt {0})) (behind_content content) (λ text. rw (← is) refl)
    (counted_given (tt {0}) _) in
    let kept = counted_then (content_kept size) behind_content
    (kept_counted size c.in_ok-keep_content.ensures.answer.1) last in
    let all = counted_then (ident_read ebml) (λ _. top_size >>= behind_size)
    (ident_counted ebml c.in_ok-read_ident.ensures.1)
    (counted_then top_size behind_size sized.1 kept) in
    let long : c.len.result ≡ length content = omega (arith, c.len.ensures) in (
      _,
      all,
      c.saturating_add-2.ensures ∙ rw (sized.2, c.saturating_add.ensures, long)
          (offset_thrice c.args.offset.now 4 sized.0 (length content) (2 ^ 64 - 1)),
    )

pub returns-clause-kept : goal.returns-clause-kept
returns-clause-kept g c =
    let content = c.in_ok-keep_content.ensures in
    room_then (room_kept _ c.in_ok-read_ident.ensures.1)
    (room_then (room_kept _ c.in_ok-size.ensures.answer.1)
    (content_room c.in_ok-size.size _ _ _ _ _ content.answer.1 content.kept))
