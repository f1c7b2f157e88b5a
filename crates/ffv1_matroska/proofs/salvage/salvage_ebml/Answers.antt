-- Reads the header of EBML in place of what the vector has, and answers `Checksum` if its CRC-32 is
-- not the sum.
use Rattle.std.proofs.Common.{◌≡◌, ◌-◌, ◌^◌, ◌∙◌, ℕ, List, Option, length, arith, refl, sym, ap}
use Rattle.std.proofs.lemmas.Result.{err_from_is_err_and}
use Rattle.ffv1_reads.specs.Reads.{Reading, given, ◌>>=◌}
use Rattle.ffv1_reads.specs.declared.fault.FileFault.{FileFault}
use Rattle.ffv1_matroska.specs.Opened.{ebml, ebml_read, told}
use Rattle.ffv1_matroska.specs.Opening.{content_kept, header_in, ident_read, top_size}
use Rattle.ffv1_matroska.specs.Salvaged.{ebml_salvaged, sound_part, sum_fault}
use Rattle.ffv1_matroska.specs.SalvageTold.{ebml_kept}
use Rattle.ffv1_matroska.proofs.MemoryFaults.{told_cause, told_header}
use Rattle.ffv1_matroska.proofs.SalvagePlain.{ebml_stops, ebml_stops_judged, no_sum}
use Rattle.ffv1_matroska.proofs.SpotReadings.{ident_counted, kept_counted}
use Rattle.ffv1_reads.proofs.Answered.{answers_err, answers_fault, answers_first, answers_given, answers_last, answers_next}
use Rattle.ffv1_reads.proofs.Answered.{answers_ok, answers_refused, answers_whole}
use Rattle.ffv1_reads.proofs.OffsetLaws.{counted_given, counted_same, counted_then, offset_thrice}
use Rattle.ffv1_matroska.proofs.salvage.salvage_ebml.Goals as goal

abbrev behind_content : List ℕ → Reading (Option FileFault)
behind_content content = told (header_in (sound_part content)) >>= λ _. given (sum_fault content)

abbrev behind_size : Option ℕ → Reading (Option FileFault)
behind_size size = content_kept size >>= behind_content

pub returns-in_err-size-clause-answer : goal.returns-in_err-size-clause-answer
unfolding ebml_salvaged
returns-in_err-size-clause-answer g c = answers_err _ ebml_salvaged _ _
    c.from_residual-in_err-size.ensures.1 (answers_next _ c.in_ok-read_ident.ensures
    (answers_first _ _ c.in_err-size.ensures.answer))

pub returns-in_err-keep_content-clause-answer : goal.returns-in_err-keep_content-clause-answer
unfolding ebml_salvaged
returns-in_err-keep_content-clause-answer g c = answers_err _ ebml_salvaged _ _
    c.from_residual-in_err-keep_content.ensures.1 (answers_next _ c.in_ok-read_ident.ensures
    (answers_next _ c.in_ok-size.ensures.answer (answers_first _ _ c.in_err-keep_content.ensures.answer)))

pub returns-in_err-judge_header-clause-answer : goal.returns-in_err-judge_header-clause-answer
unfolding ebml_salvaged
returns-in_err-judge_header-clause-answer g c =
    let f = c.in_err-judge_header.field-0.0 in
    let part = c.sound_part-sound.ensures.value ∙ ap sound_part c.as_slice.ensures.value in
    let why = rw part at c.in_err-judge_header.ensures in
    let is = told_cause f ((told_header (sound_part c.keep_content.new.content.items)).only f (sym why)) in
    answers_err _ ebml_salvaged _ _ c.from_residual-in_err-judge_header.ensures.1
    (answers_next _ c.in_ok-read_ident.ensures (answers_next _ c.in_ok-size.ensures.answer
    (answers_next _ c.in_ok-keep_content.ensures.answer (rw (← why) (answers_refused f is)))))

pub returns-clause-answer : goal.returns-clause-answer
unfolding ebml_salvaged
returns-clause-answer g c =
    let part = c.sound_part-sound.ensures.value ∙ ap sound_part c.as_slice.ensures.value in
    let is = rw part at c.in_ok-judge_header.ensures in
    let sum = c.sum_fault-fault.ensures.value ∙ ap sum_fault c.as_slice-2.ensures.value in
    rw sum (answers_ok (answers_next _ c.in_ok-read_ident.ensures
    (answers_next _ c.in_ok-size.ensures.answer (answers_next _ c.in_ok-keep_content.ensures.answer (rw
    (← is) answers_given)))))

pub returns-clause-counted : goal.returns-clause-counted
unfolding ebml_salvaged
returns-clause-counted g c =
    let size = c.in_ok-size.size in
    let content = c.keep_content.new.content.items in
    let part = c.sound_part-sound.ensures.value ∙ ap sound_part c.as_slice.ensures.value in
    let is = rw part at c.in_ok-judge_header.ensures in
    let sum = c.sum_fault-fault.ensures.value ∙ ap sum_fault c.as_slice-2.ensures.value in
    let sized = c.in_ok-size.ensures.counted in
    let last = counted_same (given (sum_fault content)) (behind_content content) (λ text. rw (← is) refl)
    (counted_given (sum_fault content) _) in
    let kept = counted_then (content_kept size) behind_content
    (kept_counted size c.in_ok-keep_content.ensures.answer.1) last in
    let all = counted_then (ident_read ebml) (λ _. top_size >>= behind_size)
    (ident_counted ebml c.in_ok-read_ident.ensures.1)
    (counted_then top_size behind_size sized.1 kept) in
    let long : c.len.result ≡ length content = omega (arith, c.len.ensures) in
    rw sum (
      _,
      all,
      c.saturating_add-2.ensures ∙ rw (sized.2, c.saturating_add.ensures, long)
          (offset_thrice c.args.offset.now 4 sized.0 (length content) (2 ^ 64 - 1)),
    )

pub returns-in_err-read_ident-clause-other : goal.returns-in_err-read_ident-clause-other
unfolding ebml_kept
returns-in_err-read_ident-clause-other g c =
    let p = err_from_is_err_and c.from_residual.result c.from_residual.ensures.1 in
    let f = c.in_err-read_ident.field-0.0 in
    rw p.1 (ebml_stops _ _ _ _ f
    (answers_fault f ebml_kept (answers_first _ _ c.in_err-read_ident.ensures)))

pub returns-in_err-size-clause-other : goal.returns-in_err-size-clause-other
unfolding ebml_kept
returns-in_err-size-clause-other g c =
    let p = err_from_is_err_and c.from_residual-in_err-size.result
    c.from_residual-in_err-size.ensures.1 in
    let f = c.in_err-size.field-0.0 in
    rw p.1 (ebml_stops _ _ _ _ f (answers_fault f ebml_kept
    (answers_next _ c.in_ok-read_ident.ensures (answers_first _ _ c.in_err-size.ensures.answer))))

pub returns-in_err-keep_content-clause-other : goal.returns-in_err-keep_content-clause-other
unfolding ebml_kept
returns-in_err-keep_content-clause-other g c =
    let p = err_from_is_err_and c.from_residual-in_err-keep_content.result
    c.from_residual-in_err-keep_content.ensures.1 in
    let f = c.in_err-keep_content.field-0.0 in
    rw p.1 (ebml_stops _ _ _ _ f (answers_fault f ebml_kept
    (answers_next _ c.in_ok-read_ident.ensures (answers_next _ c.in_ok-size.ensures.answer
    (answers_last _ c.in_err-keep_content.ensures.answer)))))

pub returns-in_err-judge_header-clause-other : goal.returns-in_err-judge_header-clause-other
unfolding ebml_kept
returns-in_err-judge_header-clause-other g c =
    let p = err_from_is_err_and c.from_residual-in_err-judge_header.result
    c.from_residual-in_err-judge_header.ensures.1 in
    let f = c.in_err-judge_header.field-0.0 in
    let content = c.keep_content.new.content.items in
    let part = c.sound_part-sound.ensures.value ∙ ap sound_part c.as_slice.ensures.value in
    let why = rw part at c.in_err-judge_header.ensures in
    let sum = c.sum_fault-fault.ensures.value ∙ ap sum_fault c.as_slice-2.ensures.value in
    let read = answers_ok (answers_next _ c.in_ok-read_ident.ensures
    (answers_next _ c.in_ok-size.ensures.answer (answers_whole c.in_ok-keep_content.ensures.answer))) in
    rw (p.1, sum) (ebml_stops_judged _ _ content f (sym why) read.1)

pub returns-in_err-read_ident-clause-plain : goal.returns-in_err-read_ident-clause-plain
unfolding ebml_read
returns-in_err-read_ident-clause-plain g c =
    let p = err_from_is_err_and c.from_residual.result c.from_residual.ensures.1 in
    rw (p.1, p.2) (λ none. answers_fault c.in_err-read_ident.field-0.0 ebml_read
    (answers_first _ _ c.in_err-read_ident.ensures))

pub returns-in_err-size-clause-plain : goal.returns-in_err-size-clause-plain
unfolding ebml_read
returns-in_err-size-clause-plain g c =
    let p = err_from_is_err_and c.from_residual-in_err-size.result
    c.from_residual-in_err-size.ensures.1 in
    rw (p.1, p.2) (λ none. answers_fault c.in_err-size.field-0.0 ebml_read
    (answers_next _ c.in_ok-read_ident.ensures (answers_first _ _ c.in_err-size.ensures.answer)))

pub returns-in_err-keep_content-clause-plain : goal.returns-in_err-keep_content-clause-plain
unfolding ebml_read
returns-in_err-keep_content-clause-plain g c =
    let p = err_from_is_err_and c.from_residual-in_err-keep_content.result
    c.from_residual-in_err-keep_content.ensures.1 in
    rw (p.1, p.2) (λ none. answers_fault c.in_err-keep_content.field-0.0 ebml_read
    (answers_next _ c.in_ok-read_ident.ensures (answers_next _ c.in_ok-size.ensures.answer
    (answers_first _ _ c.in_err-keep_content.ensures.answer))))

pub returns-in_err-judge_header-clause-plain : goal.returns-in_err-judge_header-clause-plain
unfolding ebml_read
returns-in_err-judge_header-clause-plain g c =
    let p = err_from_is_err_and c.from_residual-in_err-judge_header.result
    c.from_residual-in_err-judge_header.ensures.1 in
    let f = c.in_err-judge_header.field-0.0 in
    let content = c.keep_content.new.content.items in
    let part = c.sound_part-sound.ensures.value ∙ ap sound_part c.as_slice.ensures.value in
    let why = rw part at c.in_err-judge_header.ensures in
    let sum = c.sum_fault-fault.ensures.value ∙ ap sum_fault c.as_slice-2.ensures.value in
    rw (p.1, p.2) (λ none. (let whole = no_sum content (sym sum ∙ none) in
    let plain = rw whole at why in
    let is = told_cause f ((told_header content).only f (sym plain)) in
    answers_fault f ebml_read (answers_next _ c.in_ok-read_ident.ensures
    (answers_next _ c.in_ok-size.ensures.answer (answers_next _ c.in_ok-keep_content.ensures.answer
    (rw (← plain) (answers_refused f is)))))))
