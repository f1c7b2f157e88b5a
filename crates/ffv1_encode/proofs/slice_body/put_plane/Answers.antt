-- Codes the lines of a plane of YCbCr, one after the other.
use Rattle.std.proofs.Common.{◌∙◌, ℕ, ap, sym, subst, length, replicate, arith}
use Rattle.std.proofs.lemmas.List.{length-replicate}
use Rattle.ffv1_frame.specs.Picture.{cell_in, cell_height}
use Rattle.ffv1_frame.specs.SliceList.{chosen_head, set_in, bits_of, base_of}
use Rattle.ffv1_encode.specs.Internal.HasPut.{PutsAfter}
use Rattle.ffv1_frame.proofs.lemmas.picture.WideLines.{plain_bits}
use Rattle.ffv1_encode.proofs.lemmas.slice_body.Classes.{cell_is}
use Rattle.ffv1_encode.proofs.lemmas.slice_body.Bodies.{plane_is}
use Rattle.ffv1_encode.proofs.slice_body.put_plane.Goals as goal

pub put_cell-requires-clause-most : goal.put_cell-requires-clause-most
put_cell-requires-clause-most g c =
    let conf = c.args.slice.now.checked.now.configuration in
    let depth = c.accepted_configuration_is_in_range.ensures.depth conf
    c.args.slice.now.checked.now.table c.config-config.ensures.accepted in
    omega (arith, plain_bits conf c.requires.plain, depth.1, c.coding_of-coding.ensures.bits)

pub put_cell-requires-clause-two : goal.put_cell-requires-clause-two
put_cell-requires-clause-two g c = c.in_ok-restart.ensures.two ∙ ap (λ n. replicate {A = ℕ} n 0)
    c.cell.ensures.width

pub put_cell-requires-clause-one : goal.put_cell-requires-clause-one
put_cell-requires-clause-one g c = c.in_ok-restart.ensures.one ∙ ap (λ n. replicate {A = ℕ} n 0)
    c.cell.ensures.width

pub put_cell-requires-clause-cur_long : goal.put_cell-requires-clause-cur_long
put_cell-requires-clause-cur_long g c = ap length c.in_ok-restart.ensures.cur ∙ length-replicate
    {A = ℕ} c.cell.result.width 0 ∙ c.cell.ensures.width

pub put_cell-requires-clause-fits : goal.put_cell-requires-clause-fits
put_cell-requires-clause-fits g c = omega (arith, c.coding_of-coding.ensures.fits, c.requires.room)

pub returns-clause-ok : goal.returns-clause-ok
returns-clause-ok g c =
    let slice = c.args.slice.now in
    let conf = slice.checked.now.configuration in
    let head = chosen_head conf slice.info in
    let cell = cell_in conf slice.picture.now slice.number in
    let p = c.args.plane in
    let n = cell_height conf slice.number p in
    let same = cell_is (cell p) n _ (set_in conf head p) _ (bits_of conf) _ (base_of conf p)
    c.coding_of-coding.ensures.set c.coding_of-coding.ensures.bits c.coding_of-coding.ensures.at ∙
    sym (plane_is conf head cell p n) in
    let puts = rw c.coding_of-coding.ensures.table at c.in_ok-put_cell.ensures.ok in
    subst (PutsAfter slice.checked.now.table c.args.encoder.now c.args.states.now
    c.put_cell.new.encoder c.put_cell.new.states) same puts
