-- A line that is kept stands in its place, every other line of every plane is as it was, and the
-- planes keep their sizes.
use Rattle.std.proofs.Common.{◌∙◌, ap, sym, subst}
use Rattle.ffv1_frame.specs.Picture.{AreOf, plane}
use Rattle.ffv1_frame.specs.Decoding.{row_in}
use Rattle.ffv1_frame.specs.Kept.{Kept}
use Rattle.ffv1_frame.proofs.lemmas.picture.LinesKept.{row_bytes, line_here, line_others, sizes_kept}
use Rattle.ffv1_decode.proofs.sinks.kept_line_stands_in_its_place.Goals as goal

pub returns-clause-here : goal.returns-clause-here
returns-clause-here c = λ s t p y samples are keeps.
    ap (λ (z : Kept). row_in (row_bytes s.grid p) y (plane z.planes p)) keeps.1 ∙ line_here s.grid
    s.planes p y samples are keeps.0

pub returns-clause-others : goal.returns-clause-others
returns-clause-others c = λ s t p y q z samples are keeps few low apart.
    ap (λ (k : Kept). row_in (row_bytes s.grid q) z (plane k.planes q)) keeps.1 ∙ line_others s.grid
    s.planes p y samples are keeps.0 q z few low apart

pub returns-clause-sizes : goal.returns-clause-sizes
returns-clause-sizes c = λ s t p y samples are keeps.
    subst (λ (k : Kept). AreOf k.grid k.planes) (sym keeps.1)
    (sizes_kept s.grid s.planes p y samples are keeps.0)
