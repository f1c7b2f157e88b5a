-- The header of the next element of a parent that has `left` bytes left, and outside of which the
-- elements with these IDs stand, and the sum after it.
use Rattle.std.proofs.Common.{◌≡◌, ◌∙◌, ◌-◌, ℕ, List, true, false, Ok, length, take, refl, sym, ap}
use Rattle.std.proofs.Common.{arith}
use Rattle.ffv1_ebml.proofs.Numbers.{four_fit}
use Rattle.ffv1_ebml.specs.declared.tried.Header.TheVariants.{Outside}
use Rattle.ffv1_ebml.specs.Elements.{is_among}
use Rattle.ffv1_ebml.specs.Tried.{header_named, header_tried, size_tried}
use Rattle.ffv1_ebml.specs.Vints.{number_of}
use Rattle.ffv1_reads.specs.Reads.{given}
use Rattle.ffv1_reads.proofs.Answered.{answers_given, answers_next, answers_of, answers_ok}
use Rattle.ffv1_reads.proofs.Answered.{answers_same, answers_tail}
use Rattle.ffv1_ebml.proofs.tried.try_header.Goals as goal

pub overflow_cast-number : goal.overflow_cast-number
overflow_cast-number g c =
    let r = c.in_ok-fault.ensures in
    let bytes = take c.in-Ok.ident.len c.in-Ok.ident.bytes in
    let long = rw c.in-Ok.is at r.len in
    let most = rw c.in-Ok.is at r.most in
    let fits = four_fit c.number_of.result (length bytes) c.number_of.ensures.fits
    (omega (arith, long, most)) in
    omega (arith, fits)

pub returns-then-contains : goal.returns-then-contains
unfolding header_tried
returns-then-contains g c =
    let r = c.in_ok-fault.ensures in
    let outside = is_among c.args.outside.now in
    let ident = take c.in-Ok.ident.len c.in-Ok.ident.bytes in
    let long : length ident ≡ c.in-Ok.ident.len = rw c.in-Ok.is at r.len in
    let there : outside (number_of ident) ≡ true = ap outside (sym c.number_of.ensures.value)
    ∙ sym c.contains.ensures.value ∙ c.if-contains.true in
    let same : (text : List ℕ) → header_named outside c.args.left c.args.sum (Ok ident) text
    ≡ given (Outside c.number_of.result (c.args.left - c.in-Ok.ident.len)) text = λ text. rw
    (there, long, c.number_of.ensures.value) refl in
    answers_ok (answers_next _ (rw c.in-Ok.is at r.answer) (answers_same same answers_given))

pub returns : goal.returns
unfolding header_tried
returns g c =
    let r = c.in_ok-fault.ensures in
    let outside = is_among c.args.outside.now in
    let ident = take c.in-Ok.ident.len c.in-Ok.ident.bytes in
    let long : length ident ≡ c.in-Ok.ident.len = rw c.in-Ok.is at r.len in
    let apart : outside (number_of ident) ≡ false = ap outside (sym c.number_of.ensures.value)
    ∙ sym c.contains.ensures.value ∙ c.if-contains.false in
    let same : (text : List ℕ) → header_named outside c.args.left c.args.sum (Ok ident) text
    ≡ size_tried c.number_of.result (c.args.left - c.in-Ok.ident.len) c.after.result text = λ text.
    rw (apart, long, c.number_of.ensures.value, c.after.ensures) refl in
    answers_of _ (header_tried outside c.args.left c.args.sum) _ _
    (answers_next _ (rw c.in-Ok.is at r.answer) (answers_same same
    (answers_tail _ _ _ _ c.try_size.ensures)))
