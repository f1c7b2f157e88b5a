-- A decoder that stands at an interval stands at the part of its decision.
use Rattle.std.proofs.Common.{◌≡◌, ℕ, ◌-◌, ◌<◌, ◌≤◌, true, false, arith, ap}
use Rattle.ffv1_range.specs.Interval.{Interval, share, part}
use Rattle.ffv1_range.specs.Reading.{Reading, At}
use Rattle.ffv1_range.proofs.Nested.{share_le}

-- the decoder goes on with this width and this gap
abbrev pub going : Reading → ℕ → ℕ → Reading
going r width gap = record { bytes = r.bytes; width = width; gap = gap; renormalisations = r.renormalisations; counts = r.counts }

pub at_one : (r : Reading) (i : Interval) (state : ℕ) → state < 256 → 0 < r.gap → r.gap ≤ share r.width state → At r i → At (going r (share r.width state) r.gap) (part i state true)
at_one r i state small some le h =
    let same : share r.width state ≡ share i.width state = ap (λ w. share w state) h.width in
    let most = share_le i.width state small in
    let gap = h.gap in
    record {
      inside = record { above = omega arith; below = omega arith };
      width = same;
      gap = omega arith;
      renormalisations = h.renormalisations;
    }

pub at_zero : (r : Reading) (i : Interval) (state : ℕ) → state < 256 → r.gap ≤ r.width → share r.width state < r.gap → At r i → At (going r (r.width - share r.width state) (r.gap - share r.width state)) (part i state false)
at_zero r i state small within more h =
    let same : share r.width state ≡ share i.width state = ap (λ w. share w state) h.width in
    let most = share_le i.width state small in
    let gap = h.gap in
    let width = h.width in
    record {
      inside = record { above = omega (arith, h.inside.above); below = omega arith };
      width = omega arith;
      gap = omega arith;
      renormalisations = h.renormalisations;
    }
