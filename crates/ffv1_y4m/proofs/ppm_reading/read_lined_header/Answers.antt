-- Reads the header of an image of three lines, of which the first byte may have been read before;
-- depths up to `most` are read.
use Rattle.std.proofs.Common.{◌≡◌, ◌∙◌, Some, None, Option, List, ℕ, take, length, arith}
use Rattle.std.proofs.lemmas.Grind.{common_steps}
use Rattle.std.proofs.lemmas.Result.{err_from_is_err_and}
use Rattle.ffv1_y4m.specs.Header.{line_read}
use Rattle.ffv1_y4m.specs.Ppm.{image_head}
use Rattle.ffv1_y4m.specs.Reads.{Nowhere}
use Rattle.ffv1_y4m.proofs.PpmHeads.{head_is_colour, head_is_named}
use Rattle.ffv1_y4m.proofs.PpmSteps.{first_goes, first_stops, head_given, head_refused, second_goes}
use Rattle.ffv1_y4m.proofs.PpmSteps.{second_stops, stands_fresh, third_goes, third_stops}
use Rattle.ffv1_y4m.proofs.ppm_reading.read_lined_header.Goals as goal

pub returns-in-Some-clause-head : goal.returns-in-Some-clause-head
returns-in-Some-clause-head g c =
    let t = head_is_colour _ _ _ c.in-Some.said c.in-Some.ensures in
    (t.sized, t.colour)

pub returns-in-Some-clause-named : goal.returns-in-Some-clause-named
returns-in-Some-clause-named g c = head_is_named c.args.most _ _ _ c.in-Some.said c.in-Some.ensures
    c.in_ok-depth.ensures.named

pub returns-in_err-magic_end-clause-answer : goal.returns-in_err-magic_end-clause-answer
returns-in_err-magic_end-clause-answer g c =
    let p = err_from_is_err_and c.from_residual.result c.from_residual.ensures.1 in
    let long : length c.read_line.new.line ≡ 3 = c.read_line.auto.line in
    let read = rw long at c.in_err-magic_end.ensures.answer in
    rw (p.1, p.2) (first_stops c.args.most _ c.in_err-magic_end.field-0.0 read)

pub returns-in_err-sizes_end-clause-answer : goal.returns-in_err-sizes_end-clause-answer
returns-in_err-sizes_end-clause-answer g c =
    let p = err_from_is_err_and c.from_residual-in_err-sizes_end.result
    c.from_residual-in_err-sizes_end.ensures.1 in
    let long : length c.read_line.new.line ≡ 3 = c.read_line.auto.line in
    let also : length c.read_line-2.new.line ≡ 10 = c.read_line-2.auto.line in
    let magic : List ℕ = take c.in_ok-magic_end.magic_end c.read_line.new.line in
    let one = rw long at c.in_ok-magic_end.ensures.answer in
    let two = rw also at c.in_err-sizes_end.ensures.answer in
    let f = c.in_err-sizes_end.field-0.0 in
    let m = c.args.most in
    rw (p.1, p.2) (first_goes m _ _ _ _ _ _ magic _ one (second_stops m magic _ f (stands_fresh
    (line_read 10) Nowhere _ _ _ _ _ two)))

pub returns-in_err-depth-clause-answer : goal.returns-in_err-depth-clause-answer
returns-in_err-depth-clause-answer g c =
    let p = err_from_is_err_and c.from_residual-in_err-depth.result
    c.from_residual-in_err-depth.ensures.1 in
    let long : length c.read_line.new.line ≡ 3 = c.read_line.auto.line in
    let also : length c.read_line-2.new.line ≡ 10 = c.read_line-2.auto.line in
    let magic : List ℕ = take c.in_ok-magic_end.magic_end c.read_line.new.line in
    let sizes : List ℕ = take c.in_ok-sizes_end.sizes_end c.read_line-2.new.line in
    let one = rw long at c.in_ok-magic_end.ensures.answer in
    let two = rw also at c.in_ok-sizes_end.ensures.answer in
    let f = c.in_err-depth.field-0.0 in
    let m = c.args.most in
    rw (p.1, p.2) (first_goes m _ _ _ _ _ _ magic _ one (second_goes m magic _ _ _ _ _ _ sizes _
    (stands_fresh (line_read 10) Nowhere _ _ _ _ _ two)
    (third_stops m magic sizes _ f c.in_err-depth.ensures.answer)))

pub returns-in-Some-clause-answer : goal.returns-in-Some-clause-answer
returns-in-Some-clause-answer g c =
    let long : length c.read_line.new.line ≡ 3 = c.read_line.auto.line in
    let also : length c.read_line-2.new.line ≡ 10 = c.read_line-2.auto.line in
    let magic : List ℕ = take c.in_ok-magic_end.magic_end c.read_line.new.line in
    let sizes : List ℕ = take c.in_ok-sizes_end.sizes_end c.read_line-2.new.line in
    let depth : Option ℕ = c.in_ok-depth.depth in
    let is : Some c.in-Some.said ≡ image_head (take c.in_ok-magic_end.magic_end
    c.read_line.new.line) (take c.in_ok-sizes_end.sizes_end c.read_line-2.new.line)
    c.in_ok-depth.depth = c.in-Some.ensures ∙ grind (arith, common_steps) in
    let one = rw long at c.in_ok-magic_end.ensures.answer in
    let two = rw also at c.in_ok-sizes_end.ensures.answer in
    let m = c.args.most in
    first_goes m _ _ _ _ _ _ magic _ one (second_goes m magic _ _ _ _ _ _ sizes _
    (stands_fresh (line_read 10) Nowhere _ _ _ _ _ two)
    (third_goes m magic sizes _ _ _ _ depth _ c.in_ok-depth.ensures.answer
    (head_given (image_head magic sizes depth) c.in-Some.said _ _ is)))

pub returns-in-None-clause-answer : goal.returns-in-None-clause-answer
returns-in-None-clause-answer g c =
    let long : length c.read_line.new.line ≡ 3 = c.read_line.auto.line in
    let also : length c.read_line-2.new.line ≡ 10 = c.read_line-2.auto.line in
    let magic : List ℕ = take c.in_ok-magic_end.magic_end c.read_line.new.line in
    let sizes : List ℕ = take c.in_ok-sizes_end.sizes_end c.read_line-2.new.line in
    let depth : Option ℕ = c.in_ok-depth.depth in
    let is : None ≡ image_head (take c.in_ok-magic_end.magic_end c.read_line.new.line)
    (take c.in_ok-sizes_end.sizes_end c.read_line-2.new.line) c.in_ok-depth.depth =
    c.in-None.ensures ∙ grind (arith, common_steps) in
    let one = rw long at c.in_ok-magic_end.ensures.answer in
    let two = rw also at c.in_ok-sizes_end.ensures.answer in
    let m = c.args.most in
    first_goes m _ _ _ _ _ _ magic _ one (second_goes m magic _ _ _ _ _ _ sizes _
    (stands_fresh (line_read 10) Nowhere _ _ _ _ _ two)
    (third_goes m magic sizes _ _ _ _ depth _ c.in_ok-depth.ensures.answer
    (head_refused (image_head magic sizes depth) _ _ is)))
