-- Fills places whose differences are 0.
use Rattle.std.proofs.Common.{false, sym, ◌≡◌, ◌∙◌, ap, pos, arith, to_z, of_z, w32, to_z-of_z}
use Rattle.ffv1_plane.specs.Context.{flip_of}
use Rattle.ffv1_plane.specs.Prediction.{predicted}
use Rattle.ffv1_plane.specs.Residual.{sample_of}
use Rattle.ffv1_line.specs.Beside.{beside}
use Rattle.ffv1_rice.proofs.Rows.{agree_itself, agree_set, agree_trans}
use Rattle.ffv1_rice.proofs.RowPlaces.{chosen_is, zero_folded, zero_made}
use Rattle.ffv1_rice.proofs.RowPlaces.{zeros_next}
use Rattle.ffv1_rice.proofs.RowSamples.{samples_set}
use Rattle.ffv1_rice.proofs.row.fill_zeros.Goals as goal

pub loop-x-init : goal.loop-x-init
loop-x-init g c = record {
  agree = agree_itself c.args.from c.args.cur.now;
  zeros = λ k least most. absurd (omega (arith, least, most));
  samples = λ k least most. absurd (omega (arith, least, most));
}

pub loop-x-preserved : goal.loop-x-preserved
loop-x-preserved g c =
    let below = c.args.below.now in
    let cur = c.loop-x.cur in
    let x = c.loop-x.x in
    let a = beside below.two.now below.one.now cur x in
    let sample = c.sample_from.result in
    let around = c.around_place-around.ensures in
    let prediction : to_z w32 (of_z w32 c.predict.result) ≡ predicted a = to_z-of_z {w = w32}
    {z = c.predict.result} (record { sfits = c.predict.type_inv }) ∙ c.predict.ensures ∙
    ap predicted around in
    let made : pos sample ≡ sample_of below.depth (predicted a) (flip_of below.set.now a) (pos 0) =
    c.sample_from.ensures.value ∙ ap (λ p. sample_of below.depth p false (pos 0)) prediction
    ∙ sym (zero_made below.depth (predicted a) (flip_of below.set.now a)) in
    let last = chosen_is below.set.now below.depth below.two.now below.one.now cur x sample (pos 0)
    c.requires.depth (omega arith) (zero_folded below.depth) made in
    record {
      agree = agree_trans c.args.from _ _ _ (agree_set c.args.from x sample cur (omega arith))
          c.loop-x.invariant.agree;
      zeros = zeros_next below.set.now below.depth below.two.now below.one.now cur c.args.from x
          sample c.loop-x.invariant.zeros last;
      samples = samples_set below.depth cur c.args.from x sample (omega arith)
          c.loop-x.invariant.samples
          c.sample_from.ensures.small;
    }
