-- Reads Tracks, if there were none yet, or passes an element, and answers its fault.
use Rattle.std.proofs.Common.{◌≡◌, ◌∙◌, ◌==◌, None, true, false, not, ap, refl, rules, arith}
use Rattle.std.proofs.lemmas.Bool.{eq-eqb, ne_eqb}
use Rattle.std.proofs.lemmas.Result.{err_from_is_err_and}
use Rattle.ffv1_matroska.specs.Internal.{found_kept}
use Rattle.ffv1_matroska.specs.Opened.{tracks}
use Rattle.ffv1_matroska.specs.Salvaged.{tracks_or_salvaged}
use Rattle.ffv1_matroska.proofs.SalvagePlain.{element_plain, element_refused, element_stops, kept_some, tracks_plain, tracks_stop}
use Rattle.ffv1_reads.proofs.Answered.{answers_equal, answers_fault, answers_first, answers_given, answers_next, answers_ok}
use Rattle.ffv1_matroska.proofs.salvage.salvage_visit.Goals.{else-is_none-via-then-is_none+else-element-eq-TRACKS, else-is_none-via-else-is_none}
use Rattle.ffv1_matroska.proofs.salvage.salvage_visit.Goals as goal

pub returns-in_err-numbers-clause-answer : goal.returns-in_err-numbers-clause-answer
returns-in_err-numbers-clause-answer g c =
    let p = err_from_is_err_and c.from_residual.result c.from_residual.ensures.1 in
    let none : c.args.found ≡ None = search rules in
    rw (p.1, p.2, none) (answers_fault c.in_err-numbers.field-0.0
    (tracks_or_salvaged None c.args.element.ident c.args.element.size)
    (answers_equal _ c.if-element-eq-TRACKS.true (answers_first _ _ c.in_err-numbers.ensures.answer)))

pub returns-in_err-numbers-clause-other : goal.returns-in_err-numbers-clause-other
returns-in_err-numbers-clause-other g c =
    let p = err_from_is_err_and c.from_residual.result c.from_residual.ensures.1 in
    let none : c.args.found ≡ None = search rules in
    let is : (c.args.element.ident == tracks) ≡ true = eq-eqb _ _ (omega (arith, c.if-element-eq-TRACKS.true)) in
    rw p.1 (tracks_stop (found_kept c.args.found c.args.config.now.items) c.args.element.ident c.args.element.size
    _ (rw none refl) is c.in_err-numbers.ensures.other)

pub returns-in_err-numbers-clause-plain : goal.returns-in_err-numbers-clause-plain
returns-in_err-numbers-clause-plain g c =
    let p = err_from_is_err_and c.from_residual.result c.from_residual.ensures.1 in
    let none : c.args.found ≡ None = search rules in
    let is : (c.args.element.ident == tracks) ≡ true = eq-eqb _ _ (omega (arith, c.if-element-eq-TRACKS.true)) in
    rw (p.1, p.2) (λ other. tracks_plain c.args.element.ident c.args.element.size _ _ _ _ c.in_err-numbers.field-0.0
    (found_kept c.args.found c.args.config.now.items) (rw none refl) is (c.in_err-numbers.ensures.plain other))

pub returns-then-element-eq-TRACKS-clause-answer :
    goal.returns-then-element-eq-TRACKS-clause-answer
returns-then-element-eq-TRACKS-clause-answer g c =
    let none : c.args.found ≡ None = search rules in
    rw none (answers_ok (answers_equal _ c.if-element-eq-TRACKS.true
    (answers_next _ c.in_ok-numbers.ensures.answer answers_given)))

pub returns-in_err-fault-clause-answer : goal.returns-in_err-fault-clause-answer
returns-in_err-fault-clause-answer g c =
    let p = err_from_is_err_and c.from_residual-in_err-fault.result c.from_residual-in_err-fault.ensures.1 in
    let other : found_kept c.args.found c.args.config.now.items ≡ None → (c.args.element.ident == tracks) ≡ false = elim c.else-is_none.branch [
      | else-is_none-via-then-is_none+else-element-eq-TRACKS w ↦ λ none. ne_eqb _ _ (λ z. omega (arith, z, w.if-element-eq-TRACKS.false))
      | else-is_none-via-else-is_none w ↦ λ none. absurd (kept_some c.args.found c.args.config.now.items (c.is_none.ensures ∙ ap not w.if-is_none.false) none)
    ] in
    rw (p.1, p.2) (element_refused c.args.element.ident c.args.element.size _ _ _ _ c.in_err-fault.field-0.0
    (found_kept c.args.found c.args.config.now.items) other c.in_err-fault.ensures.answer)

pub returns-in_err-fault-clause-other : goal.returns-in_err-fault-clause-other
returns-in_err-fault-clause-other g c =
    let p = err_from_is_err_and c.from_residual-in_err-fault.result c.from_residual-in_err-fault.ensures.1 in
    let other : found_kept c.args.found c.args.config.now.items ≡ None → (c.args.element.ident == tracks) ≡ false = elim c.else-is_none.branch [
      | else-is_none-via-then-is_none+else-element-eq-TRACKS w ↦ λ none. ne_eqb _ _ (λ z. omega (arith, z, w.if-element-eq-TRACKS.false))
      | else-is_none-via-else-is_none w ↦ λ none. absurd (kept_some c.args.found c.args.config.now.items (c.is_none.ensures ∙ ap not w.if-is_none.false) none)
    ] in
    rw p.1 (element_stops c.args.element.ident c.args.element.size _ _ _ _ c.in_err-fault.field-0.0
    (found_kept c.args.found c.args.config.now.items) _ other c.in_err-fault.ensures.other c.in_err-fault.ensures.answer)

pub returns-in_err-fault-clause-plain : goal.returns-in_err-fault-clause-plain
returns-in_err-fault-clause-plain g c =
    let p = err_from_is_err_and c.from_residual-in_err-fault.result c.from_residual-in_err-fault.ensures.1 in
    let other : found_kept c.args.found c.args.config.now.items ≡ None → (c.args.element.ident == tracks) ≡ false = elim c.else-is_none.branch [
      | else-is_none-via-then-is_none+else-element-eq-TRACKS w ↦ λ none. ne_eqb _ _ (λ z. omega (arith, z, w.if-element-eq-TRACKS.false))
      | else-is_none-via-else-is_none w ↦ λ none. absurd (kept_some c.args.found c.args.config.now.items (c.is_none.ensures ∙ ap not w.if-is_none.false) none)
    ] in
    rw (p.1, p.2) (λ same. element_plain c.args.element.ident c.args.element.size _ _ _ _ c.in_err-fault.field-0.0
    (found_kept c.args.found c.args.config.now.items) other (c.in_err-fault.ensures.plain same))
