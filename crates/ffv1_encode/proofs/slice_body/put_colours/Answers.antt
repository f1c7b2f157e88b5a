-- Codes line y of Y, Cb, Cr and transparency.
use Rattle.std.proofs.Common.{subst, sym}
use Rattle.ffv1_frame.specs.Picture.{cell_in}
use Rattle.ffv1_frame.specs.SliceList.{chosen_head, chosen_body}
use Rattle.ffv1_encode.specs.Internal.HasPut.{PutsAfter}
use Rattle.ffv1_encode.proofs.lemmas.cell_rows.RowsShown.{is_colour}
use Rattle.ffv1_encode.proofs.lemmas.slice_body.Bodies.{puts_then, colours_of_line}
use Rattle.ffv1_encode.proofs.slice_body.put_colours.Goals as goal

pub returns-clause-ok : goal.returns-clause-ok
returns-clause-ok g c =
    let slice = c.args.slice.now in
    let conf = slice.checked.now.configuration in
    let t = slice.checked.now.table in
    let head = chosen_head conf slice.info in
    let cell = cell_in conf slice.picture.now slice.number in
    let y = c.args.y in
    let loaded = c.load_all.ensures.loaded in
    let chroma = (c.accepted_configuration_has_sound_parts.ensures.rct conf t
    c.config-config.ensures.accepted (is_colour conf.colour c.requires.rct)).0 in
    let rest = puts_then t _ _ _ _ _ _ _ _ (c.in_ok-put_line-3.ensures.ok cell y loaded.third)
    c.in_ok-put_transparency.ensures.ok in
    let rest = puts_then t _ _ _ _ _ _ _ _ (c.in_ok-put_line-2.ensures.ok cell y loaded.second)
    rest in
    let all = puts_then t _ _ _ _ _ _ _ _ (c.in_ok-put_line.ensures.ok cell y loaded.first) rest in
    subst (λ ls. PutsAfter t c.args.encoder.now c.args.states.now c.put_transparency.new.encoder
    c.put_transparency.new.states (chosen_body conf head cell ls))
    (sym (colours_of_line conf.chroma_planes conf.extra_plane y chroma)) all

pub returns-clause-rolled : goal.returns-clause-rolled
returns-clause-rolled g c =
    let slice = c.args.slice.now in
    c.turn.ensures.rolled slice.checked.now.configuration slice.picture.now slice.number c.args.y
    c.load_all.ensures.loaded
