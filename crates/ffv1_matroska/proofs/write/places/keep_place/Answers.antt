-- Keeps the place of a Cluster that has so many before it, if it has a cue. If there are 8192
-- places already, only every second one of them is kept, for twice the stride.
use Rattle.std.proofs.Common.{◌≡◌, ◌+◌, ◌*◌, ◌∙◌, ◌∷◌, [], ℕ, List, length, arith, ap}
use Rattle.std.proofs.Common.{length-append}
use Rattle.ffv1_matroska.specs.Internal.Keeping.{Kept}
use Rattle.ffv1_matroska.proofs.PlaceSteps.{seconds_count}
use Rattle.ffv1_matroska.proofs.write.places.keep_place.Goals as goal

pub push_reserved-requires : goal.push_reserved-requires
push_reserved-requires g c =
    let old = c.args.places.now.items in
    let now = c.halve.new.places.items in
    let full : length old ≡ 8192 = omega (arith, c.if-len-eq-MOST_CUES.true, c.len-2.ensures) in
    let half : length now ≡ 4096 = ap length c.halve.ensures.items ∙ seconds_count old ∙
    (omega (arith, full)) in
    omega (arith, half, c.halve.ensures.capacity, c.requires.room)

-- twice the stride, and half of the places and one more
doubled : (count stride : ℕ) (old now : List ℕ) → Kept count stride old → length old ≡ 8192 → count
    ≡ stride * length old → length now ≡ 4097 → Kept (count + 1) (2 * stride) now
doubled count stride old now kept full whole long =
    let is : count ≡ stride * 8192 = whole ∙ ap (λ n. stride * n) full in
    let reach : 2 * stride * length now ≡ 2 * stride * 4097 = ap (λ n. 2 * stride * n) long in
    record {
      some = omega (arith, kept.some);
      few = omega (arith, long);
      reach = omega (arith, reach, is, kept.some);
      near = omega (arith, reach, is, kept.some);
      low = omega (arith, is, kept.some);
    }

pub returns-then-len-eq-MOST_CUES-clause-kept : goal.returns-then-len-eq-MOST_CUES-clause-kept
returns-then-len-eq-MOST_CUES-clause-kept g c =
    let old = c.args.places.now.items in
    let half_items = c.halve.new.places.items in
    let now = c.push_reserved.new.self.items in
    let full : length old ≡ 8192 = omega (arith, c.if-len-eq-MOST_CUES.true, c.len-2.ensures) in
    let half : length half_items ≡ 4096 = ap length c.halve.ensures.items ∙ seconds_count old ∙
    (omega (arith, full)) in
    let one : length (c.args.at ∷ []) ≡ 1 = omega arith in
    let long : length now ≡ 4097 = ap length c.push_reserved.ensures.items ∙ length-append
    half_items (c.args.at ∷ []) ∙ (omega (arith, half, one)) in
    let len : c.len.result ≡ length old = omega (arith, c.len.ensures) in
    doubled c.args.count c.args.stride old now c.requires.kept full
    (c.if-count-stride.false ∙ ap (λ n. c.args.stride * n) len) long
