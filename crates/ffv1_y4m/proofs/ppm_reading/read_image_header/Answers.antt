-- Reads the header of an image, of which the first byte may have been read before: three lines, or
-- above a depth of 8 as Netpbm writes it; depths up to `most` are read.
use Rattle.std.proofs.Common.{◌≤◌, ◌<◌, arith}
use Rattle.ffv1_y4m.specs.Ppm.{image_header, lined_header, spaced_header}
use Rattle.ffv1_y4m.proofs.PpmSteps.{header_is_lined, header_is_spaced, stands_same}
use Rattle.ffv1_y4m.proofs.ppm_reading.read_image_header.Goals as goal

pub returns-then-most-le8-clause-answer : goal.returns-then-most-le8-clause-answer
returns-then-most-le8-clause-answer g c =
    let few : c.args.most ≤ 8 = omega arith in
    stands_same (lined_header c.args.most) (image_header c.args.most) _ _
    (λ text. header_is_lined c.args.most text few) c.read_lined_header.ensures.answer

pub returns-clause-answer : goal.returns-clause-answer
returns-clause-answer g c =
    let deep : 8 < c.args.most = omega arith in
    stands_same (spaced_header c.args.most) (image_header c.args.most) _ _
    (λ text. header_is_spaced c.args.most text deep) c.read_spaced_header.ensures.answer
