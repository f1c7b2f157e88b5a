-- The header of the next chunk of RIFF, up to its first movi.
use Rattle.std.proofs.Common.{◌≡◌, ◌≤◌, ◌∙◌, ℕ, List, Option, drop, take, refl, arith}
use Rattle.byteorder.specs.Endian.{little_number}
use Rattle.ffv1_avi.specs.declared.chunk.Entry.{Entry}
use Rattle.ffv1_reads.specs.Reads.{Reading}
use Rattle.ffv1_avi.specs.Names.{riff_rule}
use Rattle.ffv1_avi.specs.Walk.{Rule, entry_in, entry_judged}
use Rattle.ffv1_avi.proofs.Contents.{number_taken}
use Rattle.ffv1_reads.proofs.Answered.{answers_differ, answers_err, answers_last, answers_most}
use Rattle.ffv1_reads.proofs.Answered.{answers_next, answers_ok, answers_same, answers_whole}
use Rattle.ffv1_avi.proofs.chunk.next_in_riff.Goals as goal

abbrev headed : Rule → ℕ → List ℕ → Reading (Option Entry)
headed rule left head = entry_judged rule left (take 4 head) (little_number 4 (drop 4 head))

headed_as : (rule : Rule) (left : ℕ) (head name : List ℕ) (size : ℕ) → name ≡ take 4 head →
    size ≡ little_number 4 (drop 4 head) → (text : List ℕ) →
    headed rule left head text ≡ entry_judged rule left name size text
headed_as rule left head name size named sized text = rw (named, sized) refl

pub returns-in_err-entry-clause-answer : goal.returns-in_err-entry-clause-answer
unfolding entry_in
returns-in_err-entry-clause-answer g c =
    let left = c.args.left in
    let rule = riff_rule c.args.extent in
    let head = c.take.new.buf in
    let said : c.read_u32-size.result ≡ little_number 4 (drop 4 head) = c.read_u32-size.ensures ∙
    number_taken 4 (drop 4 head) (omega arith) in
    let name : c.copy_from_slice.new.self ≡ take 4 head = c.copy_from_slice.ensures.after in
    let some : left ≡ 0 → ⊥ = λ e. omega (arith, e, c.if-left-lt8.false) in
    let long : 8 ≤ left = omega (arith, c.if-left-lt8.false) in
    answers_err _ _ _ _ c.from_residual-in_err-entry.ensures.1 (answers_differ _ some
    (answers_most _ long (answers_next _ c.in_ok-take.ensures (answers_same
    (headed_as rule left head c.copy_from_slice.new.self c.read_u32-size.result name said)
    (answers_last _ (c.in_err-entry.ensures.answer _ _))))))

pub returns-clause-answer : goal.returns-clause-answer
unfolding entry_in
returns-clause-answer g c =
    let left = c.args.left in
    let rule = riff_rule c.args.extent in
    let head = c.take.new.buf in
    let said : c.read_u32-size.result ≡ little_number 4 (drop 4 head) = c.read_u32-size.ensures ∙
    number_taken 4 (drop 4 head) (omega arith) in
    let name : c.copy_from_slice.new.self ≡ take 4 head = c.copy_from_slice.ensures.after in
    let some : left ≡ 0 → ⊥ = λ e. omega (arith, e, c.if-left-lt8.false) in
    let long : 8 ≤ left = omega (arith, c.if-left-lt8.false) in
    answers_ok (answers_differ _ some (answers_most _ long
    (answers_next _ c.in_ok-take.ensures (answers_same
    (headed_as rule left head c.copy_from_slice.new.self c.read_u32-size.result name said)
    (answers_whole (c.in_ok-entry.ensures.answer _ _))))))
