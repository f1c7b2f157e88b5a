-- What was decided in some slices, in all.
use Rattle.std.specs.Prelude.{◌+◌, List}
use Rattle.std.specs.List.{sum_by}
use Rattle.ffv1_range.specs.declared.tally.Tally.{Tally}
use Rattle.ffv1_range.specs.Table.{Table}
use Rattle.ffv1_range.specs.Counts.{saturated, ones_in, zeros_in}
use Rattle.ffv1_frame.specs.Decoding.{Slice}
use Rattle.ffv1_frame.specs.Answer.{renormalisations_in}

-- how many decisions were 1, how many 0, and how often their coders renormalised
abbrev pub tally_over : Table → List Slice → Tally
tally_over t slices = record {
  ones = saturated (sum_by (λ (q : Slice). ones_in q.past) slices);
  zeros = saturated (sum_by (λ (q : Slice). zeros_in q.past) slices);
  renormalisations = saturated (sum_by (renormalisations_in t) slices);
}

-- two tallies as one
abbrev pub both : Tally → Tally → Tally
both a b = record {
  ones = saturated (a.ones + b.ones);
  zeros = saturated (a.zeros + b.zeros);
  renormalisations = saturated (a.renormalisations + b.renormalisations);
}
