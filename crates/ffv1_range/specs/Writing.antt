-- Where an encoder stands.
use Rattle.std.specs.Prelude.{◌≡◌, ◌+◌, Bool, true, false, IsTrue, IsFalse}
use Rattle.ffv1_range.specs.Interval.{Interval, start}
use Rattle.ffv1_range.specs.Counts.{Counts, uncounted, saturated}
use Rattle.ffv1_range.specs.declared.tally.Sums.{Sums}

-- the interval of the decisions that were put, how many they were, and whether memory was refused
pub record Writing : Type 0 where
  pub interval : Interval
  pub counts : Counts
  pub failed : Bool

-- nothing was put yet
abbrev pub unwritten : Writing
unwritten = record { interval = start; counts = uncounted; failed = false }

-- what is left of an encoder whose growth is refused: no byte, and its counts
abbrev pub refused_writing : Writing → Writing
refused_writing w = record { interval = start; counts = w.counts; failed = true }

-- the same of one that may have failed before: then nothing of it moves
abbrev pub LeavesNothing : Writing → Writing → Type 0
LeavesNothing old new =
    (IsTrue old.failed → new ≡ old) × (IsFalse old.failed → new ≡ refused_writing old)

-- an encoder whose counts go on by sums
abbrev pub summed_writing : Writing → Sums → Writing
summed_writing w s = record {
  interval = w.interval;
  counts = record {
    ones = saturated (w.counts.ones + s.ones);
    zeros = saturated (w.counts.zeros + s.zeros);
  };
  failed = w.failed;
}
