-- Whether the code of a mono plane decodes to the plane's samples.
use Rattle.std.proofs.Common.{◌≡◌, ◌<◌, ◌≤◌, ◌*◌, sym, ap, ap₂, ◌∙◌, ℕ, [], replicate, rules, arith}
use Rattle.std.proofs.lemmas.Grind.{common_steps}
use Rattle.ffv1_range.specs.Codes.{value}
use Rattle.ffv1_plane.specs.Quantisation.{contexts_of}
use Rattle.ffv1_line.specs.Cell.{cell_of}
use Rattle.ffv1_line.specs.Coding.{coding_by}
use Rattle.ffv1_line.specs.Coder.{decoder_by}
use Rattle.ffv1_line.specs.Coded.{CodesCellBy}
use Rattle.ffv1_pack.specs.Plane.{plane_code, plane_residuals}
use Rattle.ffv1_pack.proofs.comparison.decodes_to.Goals as goal

pub returns-in_default-clause-same : goal.returns-in_default-clause-same
returns-in_default-clause-same g c =
    let t = c.standard-table.result in
    let set = c.in_ok-set.set in
    let w = c.args.width in
    let h = c.args.height in
    let samples = c.args.samples.now in
    let code : c.args.code.now ≡ plane_code t set w h samples =
    c.requires.coded ∙ sym (ap₂ (λ x s. plane_code x s w h samples) c.standard-table.ensures.value
    c.in_ok-set.ensures.ok) in
    let good = c.plane_code_is_read_back.ensures.start t set w h samples
    c.standard-table.ensures.table c.is_a_bounded_set.ensures.below
    (omega (arith, c.requires.some_wide)) (λ k. omega (arith, c.type_inv.samples k)) in
    let bad : 65280 ≤ value c.args.code.now 2 = c.in_default.ensures.refused.0 (search rules) in
    let good_code : value c.args.code.now 2 < 65280 = rw code good in
    absurd (omega (arith, bad, good_code))

pub decode_rows-requires-clause-stands : goal.decode_rows-requires-clause-stands
decode_rows-requires-clause-stands g c =
    let t = c.standard-table.result in
    let set = c.in_ok-set.set in
    let w = c.args.width in
    let h = c.args.height in
    let samples = c.args.samples.now in
    let code : c.in-Ok.decoder.bytes ≡ plane_code t set w h samples =
    c.in-Ok.ensures.bytes ∙ c.requires.coded ∙
    sym (ap₂ (λ x s. plane_code x s w h samples) c.standard-table.ensures.value
    c.in_ok-set.ensures.ok) in
    let coded = c.plane_code_is_read_back.ensures.coded t set w h samples
    c.standard-table.ensures.table c.is_a_bounded_set.ensures.below
    (omega (arith, c.requires.some_wide)) (λ k. omega (arith, c.type_inv.samples k)) in
    let fresh : c.as_mut_slice.result.now ≡ replicate (contexts_of set * 32) 128 =
    c.as_mut_slice.ensures.value ∙ c.in_ok-states.ensures ∙ ap (λ n. replicate {A = ℕ} (n * 32) 128)
    c.contexts.ensures.value in
    let here : CodesCellBy c.in-Ok.decoder.bytes [] (coding_by t set 8) c.as_mut_slice.result.now
    (cell_of w samples) (plane_residuals set w h samples) = rw (code, fresh) coded in
    c.coded_cell_is_read_back.ensures.first [] (coding_by t set 8)
    (decoder_by c.in-Ok.decoder c.as_mut_slice.result.now) (cell_of w samples)
    (plane_residuals set w h samples) c.in-Ok.ensures.at here

pub decode_rows-requires-clause-rows : goal.decode_rows-requires-clause-rows
decode_rows-requires-clause-rows g c = grind (arith, common_steps)

pub decode_rows-requires-clause-held : goal.decode_rows-requires-clause-held
decode_rows-requires-clause-held g c = grind (arith, common_steps)
