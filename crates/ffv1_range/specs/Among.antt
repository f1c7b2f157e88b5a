-- The decisions of a run of symbols by those of its nonzero numbers: a zero is one decision 1.
use Rattle.std.specs.Prelude.{ℕ, ◌+◌, ◌-◌, ◌*◌, ◌≤◌}
use Rattle.ffv1_range.specs.declared.tally.Sums.{Sums}
use Rattle.ffv1_range.specs.declared.tally.Nonzeros.{Nonzeros}

-- what n symbols add to the counts of a coder, if these of them are not zero: a number of
-- exponent e has e decisions 1 of its exponent, e + 1 bits after it, and two decisions 0
abbrev pub sums_among : ℕ → Nonzeros → Sums
sums_among n s = record {
  ones = n - s.symbols + s.exponents + s.ones;
  zeros = 3 * s.symbols + s.exponents - s.ones;
}

-- the same with a symbol that is refused after them
abbrev pub sums_refused : ℕ → Nonzeros → Sums
sums_refused n s = record {
  ones = n - s.symbols + s.exponents + s.ones + 31;
  zeros = 3 * s.symbols + s.exponents - s.ones + 1;
}

-- no more ones than bits after the exponents, and no exponent above 30
pub record AreNonzeros (s : Nonzeros) : Type 0 where
  pub ones : s.ones ≤ s.symbols + s.exponents
  pub exponents : s.exponents ≤ 30 * s.symbols
