-- Reads the header of YUV4MPEG2 from an input of which the caller has read the first byte, if it
-- has one; depths up to `most` are read.
use Rattle.std.proofs.Common.{◌≡◌, ◌∙◌, take, length, arith}
use Rattle.std.proofs.lemmas.Grind.{common_steps}
use Rattle.std.proofs.lemmas.Result.{err_from_is_err_and}
use Rattle.ffv1_y4m.specs.Header.{head_of_line, line_read}
use Rattle.ffv1_y4m.specs.Reads.{Nowhere}
use Rattle.ffv1_y4m.specs.Sequence.{judge}
use Rattle.ffv1_y4m.proofs.Lines.{line_stays}
use Rattle.ffv1_y4m.proofs.Sequences.{stands_first, stands_next}
use Rattle.ffv1_y4m.proofs.TextFaults.{header_fault, shortens_line, stands_line, textual_line}
use Rattle.ffv1_y4m.proofs.reading.read_header.Goals as goal

pub returns-in_err-end-clause-answer : goal.returns-in_err-end-clause-answer
returns-in_err-end-clause-answer g c =
    let p = err_from_is_err_and c.from_residual.result c.from_residual.ensures.1 in
    let long : length c.read_line.new.line ≡ 1025 = c.read_line.auto.line in
    let read = rw long at c.in_err-end.ensures.answer in
    rw (p.1, p.2) (stands_first (line_read 1025) (λ line. judge (head_of_line c.args.most line))
    Nowhere Nowhere _ c.in_err-end.field-0.0 (shortens_line c.args.most) (λ xs h. h) read)

pub returns-clause-answer : goal.returns-clause-answer
returns-clause-answer g c =
    let long : length c.read_line.new.line ≡ 1025 = c.read_line.auto.line in
    let read = rw long at c.in_ok-end.ensures.answer in
    let line = take c.in_ok-end.end c.read_line.new.line in
    let is : c.head_of_line.result ≡ head_of_line c.args.most
    (take c.in_ok-end.end c.read_line.new.line) = c.head_of_line.ensures.value ∙ grind
    (arith, common_steps) in
    rw is (stands_next (line_read 1025) (λ l. judge (head_of_line c.args.most l)) Nowhere Nowhere
    Nowhere _ _ _ _ _ _ line (head_of_line c.args.most line) (line_stays 1025 line)
    (λ xs ys a b. b) read (stands_line (head_of_line c.args.most line) _ _
    (textual_line c.args.most line)))

pub returns-clause-own : goal.returns-clause-own
returns-clause-own g c =
    let is : c.head_of_line.result ≡ head_of_line c.args.most
    (take c.in_ok-end.end c.read_line.new.line) = c.head_of_line.ensures.value ∙ grind
    (arith, common_steps) in
    header_fault c.head_of_line.result (rw is (textual_line c.args.most
    (take c.in_ok-end.end c.read_line.new.line)))
