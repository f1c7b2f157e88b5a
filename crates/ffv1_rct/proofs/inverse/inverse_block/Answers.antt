-- The colours of 16 places from `at` on, or `false` and nothing done where not each of them has
-- one.
use Rattle.std.proofs.Common.{rules, ◌≤◌, ◌+◌, length, slice_index, arith}
use Rattle.ffv1_rct.proofs.Vectors.{mapped, bytes_fit, stored_kept}
use Rattle.ffv1_rct.proofs.Rounded.{colour_rounded}
use Rattle.ffv1_rct.proofs.InverseLanes.{green_are, other_are, bytes_at}
use Rattle.ffv1_rct.proofs.LinesMore.{colours_block}
use Rattle.ffv1_rct.proofs.inverse.inverse_block.Goals as goal

pub overflow_cast-r : goal.overflow_cast-r
overflow_cast-r c =
    let q = c.requires in
    let y = c.args.line.now.y.now in
    let cb = c.args.line.now.cb.now in
    let cr = c.args.line.now.cr.now in
    let lb : c.args.at + 16 ≤ length cb = omega (arith, q.at, q.cb) in
    let lr : c.args.at + 16 ≤ length cr = omega (arith, q.at, q.cr) in
    let bytes = bytes_at c.args.at y cb cr q.at lb lr c.if-bits-ne0.false in
    bytes_fit c.args.at 16 _ _ (other_are c.args.at cr y cb cr lr q.at lb lr)
    (λ k le lt. (bytes k le lt).red)

pub overflow_cast-g : goal.overflow_cast-g
overflow_cast-g c =
    let q = c.requires in
    let y = c.args.line.now.y.now in
    let cb = c.args.line.now.cb.now in
    let cr = c.args.line.now.cr.now in
    let lb : c.args.at + 16 ≤ length cb = omega (arith, q.at, q.cb) in
    let lr : c.args.at + 16 ≤ length cr = omega (arith, q.at, q.cr) in
    let bytes = bytes_at c.args.at y cb cr q.at lb lr c.if-bits-ne0.false in
    bytes_fit c.args.at 16 _ _ (green_are c.args.at y cb cr q.at lb lr)
    (λ k le lt. (bytes k le lt).green)

pub overflow_cast-b : goal.overflow_cast-b
overflow_cast-b c =
    let q = c.requires in
    let y = c.args.line.now.y.now in
    let cb = c.args.line.now.cb.now in
    let cr = c.args.line.now.cr.now in
    let lb : c.args.at + 16 ≤ length cb = omega (arith, q.at, q.cb) in
    let lr : c.args.at + 16 ≤ length cr = omega (arith, q.at, q.cr) in
    let bytes = bytes_at c.args.at y cb cr q.at lb lr c.if-bits-ne0.false in
    bytes_fit c.args.at 16 _ _ (other_are c.args.at cb y cb cr lb q.at lb lr)
    (λ k le lt. (bytes k le lt).blue)

pub returns : goal.returns
returns c =
    let q = c.requires in
    let y = c.args.line.now.y.now in
    let cb = c.args.line.now.cb.now in
    let cr = c.args.line.now.cr.now in
    let lb : c.args.at + 16 ≤ length cb = omega (arith, q.at, q.cb) in
    let lr : c.args.at + 16 ≤ length cr = omega (arith, q.at, q.cr) in
    let bytes = bytes_at c.args.at y cb cr q.at lb lr c.if-bits-ne0.false in
    let red = mapped c.args.at 16 (λ x. x) _ _ (other_are c.args.at cr y cb cr lr q.at lb lr) in
    let green = mapped c.args.at 16 (λ x. x) _ _ (green_are c.args.at y cb cr q.at lb lr) in
    let blue = mapped c.args.at 16 (λ x. x) _ _ (other_are c.args.at cb y cb cr lb q.at lb lr) in
    record {
      all = λ t.
          colours_block 8 y cb cr c.args.r.now c.args.g.now c.args.b.now c.args.at 16 _ _ _ _ _ _
          (omega (arith, q.at, q.r)) (omega (arith, q.at, q.g)) (omega (arith, q.at, q.b)) q.done
          red green blue
          (λ k le lt.
          let is = bytes k le lt in
          colour_rounded (slice_index y k) (slice_index cb k) (slice_index cr k)
          (c.are_words.ensures k) (c.are_words-2.ensures k) (c.are_words-3.ensures k) is.red
          is.green is.blue);
      red = λ t. stored_kept c.args.at 16 c.args.r.now _ _ red;
      green = λ t. stored_kept c.args.at 16 c.args.g.now _ _ green;
      blue = λ t. stored_kept c.args.at 16 c.args.b.now _ _ blue;
      none = search rules;
    }
