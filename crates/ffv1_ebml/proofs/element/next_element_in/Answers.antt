-- Reads the header of the next element of a parent that has `left` bytes left, and outside of which
-- the elements with these IDs stand, and sums it.
use Rattle.std.proofs.Common.{◌≡◌, ◌∙◌, ℕ, List, Bool, true, false, inl, length, refl, sym, ap}
use Rattle.std.proofs.Common.{take, arith}
use Rattle.ffv1_ebml.proofs.Numbers.{four_fit}
use Rattle.ffv1_ebml.specs.Elements.{element_in, element_named, element_rest, is_among}
use Rattle.ffv1_ebml.specs.Vints.{number_of}
use Rattle.ffv1_reads.specs.Reads.{refused}
use Rattle.ffv1_reads.specs.declared.fault.FileFault.TheVariants as fault
use Rattle.ffv1_reads.proofs.Answered.{answers_err, answers_fault, answers_last, answers_next}
use Rattle.ffv1_reads.proofs.Answered.{answers_ok, answers_refused, answers_same, answers_whole}
use Rattle.ffv1_ebml.proofs.element.next_element_in.Goals as goal

pub overflow_cast-number : goal.overflow_cast-number
overflow_cast-number g c =
    let bytes = take c.in_ok-ident.ident.len c.in_ok-ident.ident.bytes in
    let fits = four_fit c.number_of.result (length bytes) c.number_of.ensures.fits
    (omega (arith, c.in_ok-ident.ensures.len, c.in_ok-ident.ensures.most)) in
    omega (arith, fits)

pub returns-then-contains-clause-answer : goal.returns-then-contains-clause-answer
unfolding element_in
returns-then-contains-clause-answer g c =
    let outside = is_among c.args.outside.now in
    let ident = take c.in_ok-ident.ident.len c.in_ok-ident.ident.bytes in
    let there : outside (number_of ident) ≡ true = ap outside (sym c.number_of.ensures.value)
    ∙ sym c.contains.ensures.value ∙ c.if-contains.true in
    let same : (text : List ℕ) → element_named outside c.args.left c.args.sum.now ident text
    ≡ refused fault.BadElement text = λ text. rw there refl in
    answers_fault fault.BadElement (element_in outside c.args.left c.args.sum.now)
    (answers_next _ c.in_ok-ident.ensures.answer (answers_same same
    (answers_refused _ (inl refl))))

pub returns-in_err-element-clause-answer : goal.returns-in_err-element-clause-answer
unfolding element_in
returns-in_err-element-clause-answer g c =
    let outside = is_among c.args.outside.now in
    let ident = take c.in_ok-ident.ident.len c.in_ok-ident.ident.bytes in
    let apart : outside (number_of ident) ≡ false = ap outside (sym c.number_of.ensures.value)
    ∙ sym c.contains.ensures.value ∙ c.if-contains.false in
    let same : (text : List ℕ) → element_named outside c.args.left c.args.sum.now ident text
    ≡ element_rest c.args.left c.args.sum.now ident text = λ text. rw apart refl in
    answers_err _ (element_in outside c.args.left c.args.sum.now) _ _
    c.from_residual-in_err-element.ensures.1 (answers_next _ c.in_ok-ident.ensures.answer
    (answers_same same (answers_last _ c.in_err-element.ensures.answer)))

pub returns-clause-answer : goal.returns-clause-answer
unfolding element_in
returns-clause-answer g c =
    let outside = is_among c.args.outside.now in
    let ident = take c.in_ok-ident.ident.len c.in_ok-ident.ident.bytes in
    let apart : outside (number_of ident) ≡ false = ap outside (sym c.number_of.ensures.value)
    ∙ sym c.contains.ensures.value ∙ c.if-contains.false in
    let same : (text : List ℕ) → element_named outside c.args.left c.args.sum.now ident text
    ≡ element_rest c.args.left c.args.sum.now ident text = λ text. rw apart refl in
    answers_ok (answers_next _ c.in_ok-ident.ensures.answer
    (answers_same same (answers_whole c.in_ok-element.ensures.answer)))
