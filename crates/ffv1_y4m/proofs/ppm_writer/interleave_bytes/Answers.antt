-- Red, green and blue of each place, of one byte each, one after the other.
use Rattle.std.proofs.Common.{◌≡◌, ◌<◌, ◌+◌, ◌*◌, ◌∷◌, [], ◌++◌, length, take, get_or, arith, ◌∙◌}
use Rattle.std.proofs.Common.{sym, add-one}
use Rattle.std.proofs.lemmas.Grind.{common_steps}
use Rattle.std.proofs.Math.Seq.{take-suc}
use Rattle.ffv1_y4m.proofs.ColourThirds.{in_turn_more, three_stores}
use Rattle.ffv1_y4m.proofs.ppm_writer.interleave_bytes.Goals as goal

pub loop-place-preserved : goal.loop-place-preserved
loop-place-preserved c =
    let h = c.loop-place.invariant in
    let i = c.loop-place.place in
    let inside : 3 * c.loop-place.place + 2 < length c.loop-place.text = omega (arith, h.0) in
    let stored = three_stores c.loop-place.text i (get_or c.args.red.now i 0)
    (get_or c.args.green.now i 0) (get_or c.args.blue.now i 0) inside in
    let red : take (c.loop-place.place + 1) c.args.red.now ≡ take c.loop-place.place c.args.red.now
    ++ get_or c.args.red.now c.loop-place.place 0 ∷ [] = rw add-one
    (take-suc c.args.red.now i 0 (omega arith)) in
    let green : take (c.loop-place.place + 1) c.args.green.now ≡ take c.loop-place.place
    c.args.green.now ++ get_or c.args.green.now c.loop-place.place 0 ∷ [] = rw add-one
    (take-suc c.args.green.now i 0 (omega arith)) in
    let blue : take (c.loop-place.place + 1) c.args.blue.now ≡ take c.loop-place.place
    c.args.blue.now ++ get_or c.args.blue.now c.loop-place.place 0 ∷ [] = rw add-one
    (take-suc c.args.blue.now i 0 (omega arith)) in
    let more = in_turn_more (take i c.args.red.now) (take i c.args.green.now)
    (take i c.args.blue.now) (get_or c.args.red.now i 0) (get_or c.args.green.now i 0)
    (get_or c.args.blue.now i 0) (grind (arith, common_steps)) (grind (arith, common_steps)) in
    (grind (arith, common_steps, h.0), stored ∙ (rw (h.1, red, green, blue) (sym more)))
