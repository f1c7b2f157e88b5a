-- Whether the bytes decode to these samples, row by row.
use Rattle.std.proofs.Common.{◌≡◌, ◌∙◌, true, refl, sym, ap, length, ℕ, [], arith}
use Rattle.std.proofs.lemmas.List.{length-replicate}
use Rattle.std.proofs.lemmas.Grind.{common_steps}
use Rattle.ffv1_line.specs.Cell.{Cell, cell_of}
use Rattle.ffv1_line.proofs.lemmas.cell.Cells.{length-rows}
use Rattle.ffv1_pack.specs.Plane.{plane_residuals}
use Rattle.ffv1_pack.specs.declared.comparison.Comparison.{Comparison}
use Rattle.ffv1_pack.proofs.Compared.{cell_same}
use Rattle.ffv1_pack.proofs.comparison.decode_rows.Goals as goal

pub returns : goal.returns
returns g c =
    let plane = c.args.plane.now in
    let set = c.args.set.now in
    let samples = plane.samples.now in
    let cell : Cell = cell_of plane.width samples in
    let wide : plane.width ≡ length c.in_ok-rows.rows.cur.items =
    sym (ap length c.in_ok-rows.ensures.cur ∙ length-replicate {A = ℕ} plane.width 0) in
    let back = c.decode_cell-decoded.ensures.back [] cell
    (plane_residuals set plane.width plane.height samples) wide
    (length-rows set 8 cell plane.height) c.requires.stands in
    let ok : c.is_ok.result ≡ true = c.is_ok.ensures.value ∙ back.0 in
    let same : c.decode_cell-decoded.new.sink.same ≡ true =
    cell_same (λ (s : Comparison). s.rest.now) (λ (s : Comparison). s.same) plane.width samples
    plane.height _ _ plane.whole back.1 refl refl in
    record { same = rw (ok, same) refl }

pub decode_cell-decoded-requires-clause-some : goal.decode_cell-decoded-requires-clause-some
decode_cell-decoded-requires-clause-some g c = grind (arith, common_steps)

pub decode_cell-decoded-requires-clause-two : goal.decode_cell-decoded-requires-clause-two
decode_cell-decoded-requires-clause-two g c = grind (arith, common_steps)

pub decode_cell-decoded-requires-clause-one : goal.decode_cell-decoded-requires-clause-one
decode_cell-decoded-requires-clause-one g c = grind (arith, common_steps)
