-- Reads the header of an image as Netpbm writes it, of which the first byte may have been read
-- before; depths up to `most` are read.
use Rattle.std.proofs.lemmas.Result.{err_from_is_err_and}
use Rattle.ffv1_y4m.specs.Ppm.{spaced_head}
use Rattle.ffv1_y4m.proofs.PpmHeads.{spaced_is_colour, spaced_is_named}
use Rattle.ffv1_y4m.proofs.PpmSteps.{head_given, head_refused}
use Rattle.ffv1_y4m.proofs.SpacedHeaders.{depth_goes, depth_stops, height_goes, height_stops}
use Rattle.ffv1_y4m.proofs.SpacedHeaders.{magic_goes, magic_stops, width_goes, width_stops}
use Rattle.ffv1_y4m.proofs.ppm_spaces.read_spaced_header.Goals as goal

pub returns-in-Some-clause-head : goal.returns-in-Some-clause-head
returns-in-Some-clause-head g c =
    let t = spaced_is_colour c.in_ok-magic.magic c.in_ok-width.width c.in_ok-height.height
    c.in_ok-depth.depth c.in-Some.said c.in_ok-width.ensures.sized c.in_ok-height.ensures.sized
    c.in-Some.ensures in
    (t.sized, t.colour)

pub returns-in-Some-clause-named : goal.returns-in-Some-clause-named
returns-in-Some-clause-named g c =
    let t = spaced_is_colour c.in_ok-magic.magic c.in_ok-width.width c.in_ok-height.height
    c.in_ok-depth.depth c.in-Some.said c.in_ok-width.ensures.sized c.in_ok-height.ensures.sized
    c.in-Some.ensures in
    spaced_is_named c.args.most c.in_ok-depth.depth c.in-Some.said t c.in_ok-depth.ensures.named

pub returns-in_err-magic-clause-answer : goal.returns-in_err-magic-clause-answer
returns-in_err-magic-clause-answer g c =
    let p = err_from_is_err_and c.from_residual.result c.from_residual.ensures.1 in
    rw (p.1, p.2) (magic_stops c.args.most _ c.in_err-magic.field-0.0 c.in_err-magic.ensures.answer)

pub returns-in_err-width-clause-answer : goal.returns-in_err-width-clause-answer
returns-in_err-width-clause-answer g c =
    let p = err_from_is_err_and c.from_residual-in_err-width.result
    c.from_residual-in_err-width.ensures.1 in
    let m = c.args.most in
    let magic = c.in_ok-magic.magic in
    rw (p.1, p.2) (magic_goes m _ _ _ _ _ _ magic _ c.in_ok-magic.ensures.answer
    (width_stops m magic _ c.in_err-width.field-0.0 c.in_err-width.ensures.answer))

pub returns-in_err-height-clause-answer : goal.returns-in_err-height-clause-answer
returns-in_err-height-clause-answer g c =
    let p = err_from_is_err_and c.from_residual-in_err-height.result
    c.from_residual-in_err-height.ensures.1 in
    let m = c.args.most in
    let magic = c.in_ok-magic.magic in
    let width = c.in_ok-width.width in
    rw (p.1, p.2) (magic_goes m _ _ _ _ _ _ magic _ c.in_ok-magic.ensures.answer
    (width_goes m magic _ _ _ _ _ _ width _ c.in_ok-width.ensures.answer
    (height_stops m magic width _ c.in_err-height.field-0.0 c.in_err-height.ensures.answer)))

pub returns-in_err-depth-clause-answer : goal.returns-in_err-depth-clause-answer
returns-in_err-depth-clause-answer g c =
    let p = err_from_is_err_and c.from_residual-in_err-depth.result
    c.from_residual-in_err-depth.ensures.1 in
    let m = c.args.most in
    let magic = c.in_ok-magic.magic in
    let width = c.in_ok-width.width in
    let height = c.in_ok-height.height in
    rw (p.1, p.2) (magic_goes m _ _ _ _ _ _ magic _ c.in_ok-magic.ensures.answer
    (width_goes m magic _ _ _ _ _ _ width _ c.in_ok-width.ensures.answer
    (height_goes m magic width _ _ _ _ _ _ height _ c.in_ok-height.ensures.answer
    (depth_stops m magic width height _ c.in_err-depth.field-0.0
    c.in_err-depth.ensures.answer))))

pub returns-in-Some-clause-answer : goal.returns-in-Some-clause-answer
returns-in-Some-clause-answer g c =
    let m = c.args.most in
    let magic = c.in_ok-magic.magic in
    let width = c.in_ok-width.width in
    let height = c.in_ok-height.height in
    let depth = c.in_ok-depth.depth in
    magic_goes m _ _ _ _ _ _ magic _ c.in_ok-magic.ensures.answer
    (width_goes m magic _ _ _ _ _ _ width _ c.in_ok-width.ensures.answer
    (height_goes m magic width _ _ _ _ _ _ height _ c.in_ok-height.ensures.answer
    (depth_goes m magic width height _ _ _ _ depth _ c.in_ok-depth.ensures.answer
    (head_given (spaced_head magic width height depth) c.in-Some.said _ _ c.in-Some.ensures))))

pub returns-in-None-clause-answer : goal.returns-in-None-clause-answer
returns-in-None-clause-answer g c =
    let m = c.args.most in
    let magic = c.in_ok-magic.magic in
    let width = c.in_ok-width.width in
    let height = c.in_ok-height.height in
    let depth = c.in_ok-depth.depth in
    magic_goes m _ _ _ _ _ _ magic _ c.in_ok-magic.ensures.answer
    (width_goes m magic _ _ _ _ _ _ width _ c.in_ok-width.ensures.answer
    (height_goes m magic width _ _ _ _ _ _ height _ c.in_ok-height.ensures.answer
    (depth_goes m magic width height _ _ _ _ depth _ c.in_ok-depth.ensures.answer
    (head_refused (spaced_head magic width height depth) _ _ c.in-None.ensures))))
