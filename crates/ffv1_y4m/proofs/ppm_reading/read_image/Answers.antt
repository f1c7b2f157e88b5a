-- Reads the next image, of which the header may have been read before, in place of what the planes
-- were; false if the input has ended.
use Rattle.std.proofs.lemmas.Result.{err_from_is_err_and}
use Rattle.ffv1_y4m.specs.State.{samples_of}
use Rattle.ffv1_y4m.proofs.ImagesBegun.{image_broken, image_stops, image_whole, stands_some}
use Rattle.ffv1_y4m.proofs.ImagesBegun.{stands_stop}
use Rattle.ffv1_y4m.specs.Ppm.{colours_read, image_bytes}
use Rattle.ffv1_y4m.specs.Reads.{IsNone}
use Rattle.ffv1_y4m.proofs.ppm_reading.read_image.Goals as goal

pub returns-in_err-read_later_header-clause-answer :
    goal.returns-in_err-read_later_header-clause-answer
returns-in_err-read_later_header-clause-answer g c =
    let p = err_from_is_err_and c.from_residual-in_err-read_later_header.result
    c.from_residual-in_err-read_later_header.ensures.1 in
    rw (c.if-begun.false, p.1, p.2) (image_stops c.args.most c.args.said.now _
    c.in_err-read_later_header.field-0.0 c.in_err-read_later_header.ensures.answer)

pub returns-in_err-read_image_planes-2-clause-answer :
    goal.returns-in_err-read_image_planes-2-clause-answer
returns-in_err-read_image_planes-2-clause-answer g c =
    let p = err_from_is_err_and c.from_residual-in_err-read_image_planes-2.result
    c.from_residual-in_err-read_image_planes-2.ensures.1 in
    let begun = rw c.if-not-branch.false at c.in_ok-read_later_header.ensures.answer in
    rw (c.if-begun.false, p.1, p.2) (image_broken c.args.most c.args.said.now _ _ _ _ _ _
    c.in_err-read_image_planes-2.field-0.0
    (record { sized = c.requires.sized; colour = c.requires.colour; named = c.requires.named })
    begun c.in_err-read_image_planes-2.ensures.answer)

pub returns-clause-answer : goal.returns-clause-answer
returns-clause-answer g c =
    let begun = rw c.if-not-branch.false at c.in_ok-read_later_header.ensures.answer in
    rw c.if-begun.false (image_whole c.args.most c.args.said.now _ _ _ _ _ _
    (samples_of c.read_image_planes-2.new.planes.items)
    (record { sized = c.requires.sized; colour = c.requires.colour; named = c.requires.named })
    begun c.in_ok-read_image_planes-2.ensures.answer)

pub returns-in_err-read_image_planes-clause-answer :
    goal.returns-in_err-read_image_planes-clause-answer
returns-in_err-read_image_planes-clause-answer g c =
    let p = err_from_is_err_and c.from_residual.result c.from_residual.ensures.1 in
    rw (c.if-begun.true, p.1, p.2) (stands_stop
    (colours_read c.args.said.now.depth (image_bytes c.args.said.now)) IsNone _
    c.in_err-read_image_planes.field-0.0 c.in_err-read_image_planes.ensures.answer)

pub returns-then-begun-clause-answer : goal.returns-then-begun-clause-answer
returns-then-begun-clause-answer g c =
    rw c.if-begun.true (stands_some (colours_read c.args.said.now.depth
    (image_bytes c.args.said.now)) IsNone _ (samples_of c.read_image_planes.new.planes.items)
    c.in_ok-read_image_planes.ensures.answer)
