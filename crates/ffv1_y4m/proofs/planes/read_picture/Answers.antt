-- Reads the next picture, in place of what the planes were; false if the input has ended.
use Rattle.std.proofs.lemmas.Result.{err_from_is_err_and}
use Rattle.ffv1_y4m.specs.State.{samples_of}
use Rattle.ffv1_y4m.proofs.ImagesBegun.{picture_broken, picture_full, picture_stops, picture_whole}
use Rattle.ffv1_y4m.proofs.planes.read_picture.Goals as goal

pub returns-in_err-read_frame_line-clause-answer : goal.returns-in_err-read_frame_line-clause-answer
returns-in_err-read_frame_line-clause-answer g c =
    let p = err_from_is_err_and c.from_residual.result c.from_residual.ensures.1 in
    rw (p.1, p.2) (picture_stops c.args.depth c.args.head.now _ c.in_err-read_frame_line.field-0.0
    c.in_err-read_frame_line.ensures.answer)

pub returns-in_err-lend_planes-clause-answer : goal.returns-in_err-lend_planes-clause-answer
returns-in_err-lend_planes-clause-answer g c =
    let p = err_from_is_err_and c.from_residual-in_err-lend_planes.result
    c.from_residual-in_err-lend_planes.ensures.1 in
    let begun = rw c.if-not-branch.false at c.in_ok-read_frame_line.ensures.answer in
    rw (p.1, p.2) (picture_full c.args.depth c.args.head.now _ _ _ _ begun)

pub returns-in_err-read_planes-clause-answer : goal.returns-in_err-read_planes-clause-answer
returns-in_err-read_planes-clause-answer g c =
    let p = err_from_is_err_and c.from_residual-in_err-read_planes.result
    c.from_residual-in_err-read_planes.ensures.1 in
    let begun = rw c.if-not-branch.false at c.in_ok-read_frame_line.ensures.answer in
    rw (p.1, p.2) (picture_broken c.args.depth c.args.head.now _ _ _ _ _ _
    c.in_err-read_planes.field-0.0 begun c.in_err-read_planes.ensures.answer)

pub returns-clause-answer : goal.returns-clause-answer
returns-clause-answer g c =
    let begun = rw c.if-not-branch.false at c.in_ok-read_frame_line.ensures.answer in
    picture_whole c.args.depth c.args.head.now _ _ _ _ _ _
    (samples_of c.read_planes.new.planes.items) begun c.in_ok-read_planes.ensures.answer
