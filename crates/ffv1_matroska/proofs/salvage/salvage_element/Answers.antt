-- Passes an element of the Segment, after its header, and answers its fault.
use Rattle.std.proofs.Common.{◌≡◌, ◌∙◌, true, false, Ok, inl, refl, sym}
use Rattle.std.proofs.lemmas.Result.{err_from_is_err_and}
use Rattle.ffv1_reads.specs.Reads.{passed}
use Rattle.ffv1_reads.specs.declared.fault.FileFault.TheVariants as fault
use Rattle.ffv1_reads.proofs.Answered.{answers_fault, answers_refused, answers_same}
use Rattle.ffv1_ebml.specs.Elements.{content_passed}
use Rattle.ffv1_matroska.specs.Opened.{element_passed}
use Rattle.ffv1_matroska.specs.Segments.{is_filler, is_section}
use Rattle.ffv1_matroska.proofs.SalvagePlain.{err_so, filler_passed, other_scale, refused_as, section_passed}
use Rattle.ffv1_matroska.proofs.ScaleReadings.{known_so, read_known}
use Rattle.ffv1_matroska.proofs.ScaleWalks.{info_unsized}
use Rattle.ffv1_matroska.proofs.salvage.salvage_element.Goals as goal

pub returns-in_default-clause-plain : goal.returns-in_default-clause-plain
returns-in_default-clause-plain g c = λ none. answers_fault fault.BadElement
    (element_passed c.args.ident c.args.size)
    (answers_same (info_unsized c.args.ident c.args.size c.in_default.is)
    (answers_refused _ (inl refl)))

pub returns-then-is_section-clause-plain : goal.returns-then-is_section-clause-plain
returns-then-is_section-clause-plain g c =
    let size = c.in-Some.size in
    let section : is_section c.args.ident ≡ true = sym c.is_section.ensures ∙ c.if-is_section.true in
    rw c.in-Some.is (err_so c.salvage_content.result _ _
    (λ f why none. refused_as (content_passed size) _ _ _ _ _ f
    (λ text. sym (section_passed c.args.ident size section text)) why) c.salvage_content.ensures.plain)

pub returns-in_err-pass-clause-plain : goal.returns-in_err-pass-clause-plain
returns-in_err-pass-clause-plain g c =
    let p = err_from_is_err_and c.from_residual.result c.from_residual.ensures.1 in
    let size = c.in-Some.size in
    let section : is_section c.args.ident ≡ false = sym c.is_section.ensures ∙ c.if-is_section.false in
    let filler : is_filler c.args.ident ≡ true = sym c.is_filler.ensures ∙ c.if-is_filler.true in
    rw (p.1, p.2, c.in-Some.is) (λ none. refused_as (passed size) _ _ _ _ _ c.in_err-pass.field-0.0
    (λ text. sym (filler_passed c.args.ident size section filler text)) c.in_err-pass.ensures)

pub returns-then-is_filler-clause-tick : goal.returns-then-is_filler-clause-tick
returns-then-is_filler-clause-tick g c =
    let size = c.in-Some.size in
    let tick = c.args.noted.now.tick in
    let section : is_section c.args.ident ≡ false = sym c.is_section.ensures ∙ c.if-is_section.false in
    rw c.in-Some.is (λ none. known_so _ _ (λ text rest. passed size text ≡ Ok (tt, rest)) _
    (λ text rest is. sym (other_scale c.args.ident size tick text section))
    (read_known (passed size) _ _ tt c.in_ok-pass.ensures.1))
