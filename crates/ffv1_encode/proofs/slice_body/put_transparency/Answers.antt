-- Codes a row of the plane of transparency, if there is one.
use Rattle.std.proofs.Common.{◌≡◌, ◌∙◌, ap, true, subst, sym}
use Rattle.ffv1_record.specs.Configuration.{Configuration}
use Rattle.ffv1_frame.specs.Picture.{cell_in}
use Rattle.ffv1_frame.specs.SliceList.{Line, chosen_head, chosen_body}
use Rattle.ffv1_encode.specs.Internal.HasPut.{PutsAfter}
use Rattle.ffv1_encode.specs.Internal.CellRows.{fourth_line}
use Rattle.ffv1_encode.proofs.lemmas.slice_body.Bodies.{body_one}
use Rattle.ffv1_encode.proofs.slice_body.put_transparency.Goals as goal

pub returns-clause-ok : goal.returns-clause-ok
returns-clause-ok g c =
    let slice = c.args.slice.now in
    let conf = slice.checked.now.configuration in
    let head = chosen_head conf slice.info in
    let cell = cell_in conf slice.picture.now slice.number in
    let line : Line = record { plane = 3; y = c.args.y } in
    let is : conf.extra_plane ≡ true = ap (λ (k : Configuration). k.extra_plane)
    c.config.ensures.value ∙ c.if-not-config.false in
    subst (λ e. PutsAfter slice.checked.now.table c.args.encoder.now c.args.states.now
    c.put_line.new.encoder c.put_line.new.states
    (chosen_body conf head cell (fourth_line e c.args.y))) (sym is)
    (subst (PutsAfter slice.checked.now.table c.args.encoder.now c.args.states.now
    c.put_line.new.encoder c.put_line.new.states) (body_one conf head cell line)
    (c.in_ok-put_line.ensures.ok cell c.args.y (c.requires.loaded.fourth is)))
