-- Reads the samples of as many places as each plane has.
use Rattle.std.proofs.Common.{◌≡◌, ◌⊎◌, inl, inr, ◌+◌, ◌-◌, ◌≤◌, ◌∙◌, ◌++◌, ◌*◌, ap, length, take}
use Rattle.std.proofs.Common.{drop, arith}
use Rattle.std.proofs.lemmas.Grind.{common_steps}
use Rattle.std.proofs.lemmas.Slice.{take-put_mid}
use Rattle.std.proofs.lemmas.Result.{err_from_is_err_and}
use borrow.Rule.Slice.PartMut.{put_mid}
use Rattle.std.proofs.lemmas.Bool.{cases_lt}
use Rattle.ffv1_y4m.proofs.DeepThirds.{whole_end}
use Rattle.ffv1_y4m.proofs.Colours.{colours_more, colours_stop}
use Rattle.ffv1_y4m.proofs.ppm_reading.read_colours.Goals as goal

pub loop-done-preserved : goal.loop-done-preserved
loop-done-preserved g c =
    let h = c.loop-done.invariant in
    let i = c.loop-done.done in
    let end = c.min-end.result in
    let least : c.loop-done.done ≤ c.min-end.result = grind
    (arith, common_steps, c.min-end.ensures) in
    let most : c.min-end.result ≤ length c.loop-done.red = grind
    (arith, common_steps, c.min-end.ensures) in
    let size : length (take (c.min-end.result - c.loop-done.done)
    (drop c.loop-done.done c.loop-done.red)) ≡ c.min-end.result - c.loop-done.done = grind
    (arith, common_steps, least, most) in
    let read = c.in_ok-read_block.ensures.answer in
    let three_times : 3 * length (take (c.min-end.result - c.loop-done.done)
    (drop c.loop-done.done c.loop-done.red)) ≡ 3 * (c.min-end.result - c.loop-done.done) =
    ap (λ z. 3 * z) size in
    let red : length c.read_block.new.red ≡ c.min-end.result - c.loop-done.done =
    c.read_block.auto.red ∙ size in
    let green : length c.read_block.new.green ≡ c.min-end.result - c.loop-done.done =
    c.read_block.auto.green ∙ grind (arith, common_steps, least, most, h.1) in
    let blue : length c.read_block.new.blue ≡ c.min-end.result - c.loop-done.done =
    c.read_block.auto.blue ∙ grind (arith, common_steps, least, most, h.2) in
    let one : take c.min-end.result (put_mid c.loop-done.done
    (c.min-end.result - c.loop-done.done) c.loop-done.red c.read_block.new.red) ≡ take
    c.loop-done.done c.loop-done.red ++ c.read_block.new.red = take-put_mid i
    (end - i) c.loop-done.red c.read_block.new.red end (omega (arith, red, least)) h.0 in
    let two : take c.min-end.result (put_mid c.loop-done.done
    (c.min-end.result - c.loop-done.done) c.loop-done.green c.read_block.new.green) ≡ take
    c.loop-done.done c.loop-done.green ++ c.read_block.new.green = take-put_mid i
    (end - i) c.loop-done.green c.read_block.new.green end (omega (arith, green, least))
    (omega (arith, h.0, h.1)) in
    let three : take c.min-end.result (put_mid c.loop-done.done
    (c.min-end.result - c.loop-done.done) c.loop-done.blue c.read_block.new.blue) ≡ take
    c.loop-done.done c.loop-done.blue ++ c.read_block.new.blue = take-put_mid i
    (end - i) c.loop-done.blue c.read_block.new.blue end (omega (arith, blue, least))
    (omega (arith, h.0, h.2)) in
    let more = colours_more c.args.depth _ _ _ i (end - i) _ (take i c.loop-done.red)
    (take i c.loop-done.green) (take i c.loop-done.blue) c.read_block.new.red
    c.read_block.new.green c.read_block.new.blue three_times h.4 h.5 read.1.0 read.1.1
    read.1.2.0 read.1.2.1 in
    let same : length c.loop-done.red ≡ length c.args.red.now = c.loop-done.auto.red in
    let ends : (c.min-end.result ≡ length c.args.red.now) ⊎
    (c.min-end.result ≡ c.loop-done.done + 1024) =
    elim (cases_lt (length c.loop-done.red) (c.loop-done.done + 1024)) [
      | inl few ↦ inl (grind (arith, common_steps, c.min-end.ensures, few, same))
      | inr enough ↦ inr (grind (arith, common_steps, c.min-end.ensures, enough))
    ] in
    let whole = whole_end c.args.depth (length c.args.red.now) i end c.requires.whole h.4 ends in
    let sum : c.loop-done.done + (c.min-end.result - c.loop-done.done) ≡ c.min-end.result =
    omega (arith, least) in (
      grind (arith, common_steps, most, red),
      grind (arith, common_steps, h.1, red, green),
      grind (arith, common_steps, h.2, red, blue),
      read.0 ∙ h.3,
      whole,
      rw (one, two, three) (rw sum at more),
    )

pub returns-in_err-read_block : goal.returns-in_err-read_block
returns-in_err-read_block g c =
    let p = err_from_is_err_and c.from_residual.result c.from_residual.ensures.1 in
    let h = c.loop-done.invariant in
    let i = c.loop-done.done in
    let least : c.loop-done.done ≤ c.min-end.result = grind
    (arith, common_steps, c.min-end.ensures) in
    let most : c.min-end.result ≤ length c.loop-done.red = grind
    (arith, common_steps, c.min-end.ensures) in
    let size : length (take (c.min-end.result - c.loop-done.done)
    (drop c.loop-done.done c.loop-done.red)) ≡ c.min-end.result - c.loop-done.done = grind
    (arith, common_steps, least, most) in
    let same : length c.loop-done.red ≡ length c.args.red.now = c.loop-done.auto.red in
    let within : 3 * c.loop-done.done + 3 * length (take (c.min-end.result - c.loop-done.done)
    (drop c.loop-done.done c.loop-done.red)) ≤ 3 * length c.args.red.now = omega
    (arith, size, least, most, same) in
    record {
      answer = rw (p.1, p.2) (colours_stop c.args.depth _ _ _ i _ _ _ _ _ _
          c.in_err-read_block.field-0.0 within h.5 h.3 c.in_err-read_block.ensures.answer);
    }
