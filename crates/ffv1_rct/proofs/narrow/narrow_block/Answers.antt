-- 32 places from `at` on, or `false` and nothing done where one of them lies above 255.
use Rattle.std.proofs.Common.{rules, ◌≡◌, ◌∙◌, ℕ, ◌≤◌, ◌<◌, ◌+◌, List, map, length, slice_index}
use Rattle.std.proofs.Common.{arith, bit_or}
use Rattle.std.proofs.lemmas.Nat.{le_or_l, le_or_r}
use Rattle.std.proofs.lemmas.Simd.{length-put_chunk}
use Rattle.std.specs.Simd.Lanes.{chunk, put_chunk}
use Rattle.ffv1_rct.proofs.Vectors.{loaded, mapped, zipped, shifted, bytes_fit, stored_kept}
use Rattle.ffv1_rct.proofs.Masks.{mask_of, none_above}
use Rattle.ffv1_rct.proofs.LinesMore.{narrow_block}
use Rattle.ffv1_rct.proofs.narrow.narrow_block.Goals as goal
use lib.Lanes.{zip2}

none : (at : ℕ) (a : List ℕ) → at + 32 ≤ length a → mask_of 16
    (zip2 bit_or (chunk at 16 a) (chunk (at + 16) 16 a)) ≡ 0 → (k : ℕ) → at ≤ k → k < at + 16 →
    bit_or (slice_index a k) (slice_index a (k + 16)) ≤ 255
none at a room e =
    let both = zipped at 16 bit_or _ _ _ _ (loaded at 16 a (omega (arith, room)))
    (shifted 16 at 16 _ _ (loaded (at + 16) 16 a (omega (arith, room)))) in
    none_above at 16 (zip2 bit_or (chunk at 16 a) (chunk (at + 16) 16 a))
    (λ x. bit_or (slice_index a x) (slice_index a (x + 16))) both (omega arith) e

pub overflow_cast-out : goal.overflow_cast-out
overflow_cast-out c =
    let at = c.args.at in
    let a = c.args.a.now in
    let room = c.requires.at in
    bytes_fit at 16 _ _ (loaded at 16 a (omega (arith, room))) (λ k le lt.
    let all = none at a room c.if-bits-ne0.false k le lt in
    let part = le_or_l (slice_index a k) (slice_index a (k + 16)) in
    omega (arith, all, part))

pub overflow_cast-out-2 : goal.overflow_cast-out-2
overflow_cast-out-2 c =
    let at = c.args.at in
    let a = c.args.a.now in
    let room = c.requires.at in
    bytes_fit at 16 _ _ (shifted 16 at 16 _ _ (loaded (at + 16) 16 a (omega (arith, room))))
    (λ k le lt.
    let all = none at a room c.if-bits-ne0.false k le lt in
    let part = le_or_r (slice_index a k) (slice_index a (k + 16)) in
    omega (arith, all, part))

pub returns : goal.returns
returns c =
    let at = c.args.at in
    let a = c.args.a.now in
    let out = c.args.out.now in
    let q = c.requires in
    let early = mapped at 16 (λ x. x) _ _ (loaded at 16 a (omega (arith, q.at))) in
    let late = mapped (at + 16) 16 (λ x. x) _ _ (loaded (at + 16) 16 a (omega (arith, q.at))) in
    let half = narrow_block a out at 16 _ (omega (arith, q.at, q.out)) q.done early in
    let first = stored_kept at 16 out _ _ early in
    let second = stored_kept (at + 16) 16 (put_chunk at out _) _ _ late in
    record {
      all = λ t k lt. narrow_block a (put_chunk at out _) (at + 16) 16 _
          (omega (arith, q.at, q.out, length-put_chunk at out (map (λ x. x) (chunk at 16 a)))) half
          late k (omega (arith, lt));
      kept = λ t k le. second k (omega (arith, le)) ∙ first k (omega (arith, le));
      none = search rules;
    }
