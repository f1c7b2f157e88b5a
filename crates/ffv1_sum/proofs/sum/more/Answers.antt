-- The sum of 32 bits after some bytes more (RFC 8794, 11.3.1), from the sum of those before them.
use Rattle.std.specs.Prelude.{fold}
use Rattle.std.proofs.Common.{◌≡◌, ℕ, ◌*◌, ◌/◌, ◌<◌, List, [], length, take, get_or, ap, sym, ◌∙◌}
use Rattle.ffv1_sum.specs.Sum.{byte_step}
use Rattle.ffv1_sum.proofs.Blocks.{next_block}
use Rattle.ffv1_sum.proofs.sum.more.Goals as goal

pub loop-block-preserved : goal.loop-block-preserved
loop-block-preserved c =
    let bytes = c.args.bytes.now in
    let i = c.loop-block.block-index in
    let count : length c.as_chunks.result.0.now ≡ length bytes / 8 =
    c.as_chunks.ensures.front_len in
    let inside : i < length bytes / 8 = rw (sym count) c.loop-block-test.true in
    c.after_block-sum.ensures ∙ ap (λ s. fold byte_step s (get_or c.as_chunks.result.0.now i []))
    c.loop-block.invariant
    ∙ ap (λ (blocks : List (List ℕ)). fold byte_step
    (fold byte_step c.args.sum (take (8 * i) bytes)) (get_or blocks i []))
    c.as_chunks.ensures.front
    ∙ next_block c.args.sum i bytes inside
