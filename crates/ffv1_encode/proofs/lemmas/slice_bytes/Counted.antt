-- What an encoder's counter tells of the residuals of a slice.
use Rattle.std.proofs.Common.{◌≡◌, ℕ, Bool, true, false, if◌then◌else◌, nat_lt, ◌+◌, ◌-◌, ◌^◌, ◌<◌, ◌≤◌, List, ◌++◌, length, arith, length-append}
use Rattle.ffv1_range.specs.Symbols.{Step}
use Rattle.ffv1_range.specs.Counts.{saturated}
use Rattle.ffv1_record.specs.Configuration.{Configuration}
use Rattle.ffv1_frame.specs.Length.{slice_most}

-- the steps of a body stand between two counts
pub counted_between : (first all body : ℕ) (before steps : List Step) → first ≡ saturated (length before) → all ≡ saturated (length (before ++ steps)) → length steps ≡ body →
    length before < 2 ^ 40 → body < 2 ^ 40 → (first ≤ all) × (all - first ≡ body)
counted_between first all body before steps before_is all_is long few more =
    let both = length-append before steps in
    (omega (arith, before_is, all_is, both, long, few, more), omega (arith, before_is, all_is, both, long, few, more))

-- a slice begins by few decisions
by_flags : (extra wide high : Bool) (n : ℕ) → n + 10 ≤ 109 + (if extra then 6 else 0) + (if wide then 2 else 0) + (if high then 2 else 0) → n < 2 ^ 40
by_flags true true true n few = omega (arith, few)
by_flags true true false n few = omega (arith, few)
by_flags true false true n few = omega (arith, few)
by_flags true false false n few = omega (arith, few)
by_flags false true true n few = omega (arith, few)
by_flags false true false n few = omega (arith, few)
by_flags false false true n few = omega (arith, few)
by_flags false false false n few = omega (arith, few)

pub begin_few : (c : Configuration) (n : ℕ) → n + 10 ≤ slice_most c → n < 2 ^ 40
begin_few c n few = by_flags c.extra_plane (nat_lt 16 c.columns) (nat_lt 16 c.rows) n few
