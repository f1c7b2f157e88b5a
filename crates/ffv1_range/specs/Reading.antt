-- Where a decoder stands.
use Rattle.std.specs.Prelude.{◌≡◌, ℕ, ◌+◌, ◌^◌, min, List, []}
use Rattle.ffv1_range.specs.Interval.{Interval}
use Rattle.ffv1_range.specs.Codes.{value, Inside}
use Rattle.ffv1_range.specs.Counts.{Counts, saturated, uncounted}
use Rattle.ffv1_range.specs.declared.tally.Sums.{Sums}

-- what a decoder holds: the bytes, the width of its interval, how far the upper end of the interval
-- lies above the number of the bytes, how often it renormalised, and what it decided
pub record Reading : Type 0 where
  pub bytes : List ℕ
  pub width : ℕ
  pub gap : ℕ
  pub renormalisations : ℕ
  pub counts : Counts

-- a decoder of no bytes, at the first interval
abbrev pub of_nothing : Reading
of_nothing = record {
  bytes = [];
  width = 65280;
  gap = 65280;
  renormalisations = 0;
  counts = uncounted;
}

-- the decoder stands at this interval (RFC 9043, 3.8.1.1)
pub record At (r : Reading) (i : Interval) : Type 0 where
  pub inside : Inside r.bytes i
  pub width : r.width ≡ i.width
  pub gap : value r.bytes i.count + r.gap ≡ i.low + i.width
  pub renormalisations : r.renormalisations + 2 ≡ min i.count (2 ^ 64 + 1)

-- a decoder without its bytes
pub record Pause : Type 0 where
  pub width : ℕ
  pub gap : ℕ
  pub renormalisations : ℕ
  pub counts : Counts

-- what is left of a decoder that lets its bytes go
abbrev pub paused : Reading → Pause
paused r = record {
  width = r.width;
  gap = r.gap;
  renormalisations = r.renormalisations;
  counts = r.counts;
}

-- a decoder that goes on with bytes
abbrev pub resumed : Pause → List ℕ → Reading
resumed p bytes = record {
  bytes = bytes;
  width = p.width;
  gap = p.gap;
  renormalisations = p.renormalisations;
  counts = p.counts;
}

-- a decoder whose counts go on by sums
abbrev pub summed : Reading → Sums → Reading
summed r s = record {
  bytes = r.bytes;
  width = r.width;
  gap = r.gap;
  renormalisations = r.renormalisations;
  counts = record {
    ones = saturated (r.counts.ones + s.ones);
    zeros = saturated (r.counts.zeros + s.zeros);
  };
}
