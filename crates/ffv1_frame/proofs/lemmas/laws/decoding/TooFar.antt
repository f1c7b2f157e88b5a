-- A slice is read too far, or it is not; and what is read of a slice is read no further than it is.
use Rattle.std.proofs.Common.{◌≡◌, ℕ, ◌≤◌, List, [], ◌++◌, ap, ◌∙◌, arith}
use Rattle.ffv1_range.specs.Interval.{Interval, interval_of, narrowed, start}
use Rattle.ffv1_range.specs.Table.{Table}
use Rattle.ffv1_range.specs.Symbols.{Step}
use Rattle.ffv1_range.specs.History.{decisions_after}
use Rattle.ffv1_range.proofs.Nested.{narrowed-append}
use Rattle.ffv1_range.proofs.OneAfter.{after_append}
use Rattle.ffv1_range.proofs.Growth.{narrowed-count}
use Rattle.ffv1_record.specs.Accepted.{Accepted}
use Rattle.ffv1_frame.specs.Overread.{IsWithin, IsOverread, renormalisations_of}

pub not_overread : (a : Accepted) (bytes : List ℕ) (past : List Step) → IsWithin a bytes past → IsOverread a bytes past → ⊥
not_overread a bytes past within over = let few = within.few over.wide in let more = over.more in absurd (omega (arith, few, more))

pub front_fewer : (t : Table) (xs ys : List Step) → renormalisations_of t xs ≤ renormalisations_of t (xs ++ ys)
front_fewer t xs ys =
    let later = decisions_after t ([] ++ xs) ys in
    let i = interval_of (decisions_after t [] xs) in
    let whole : interval_of (decisions_after t [] (xs ++ ys)) ≡ narrowed i later = ap interval_of (after_append t [] xs ys) ∙ narrowed-append start (decisions_after t [] xs) later in
    let count : (interval_of (decisions_after t [] (xs ++ ys))).count ≡ (narrowed i later).count = ap (λ (j : Interval). j.count) whole in
    let more = narrowed-count i later in
    omega (arith, count, more)

pub within_front : (a : Accepted) (bytes : List ℕ) (xs ys : List Step) → IsWithin a bytes (xs ++ ys) → IsWithin a bytes xs
within_front a bytes xs ys within = record {
  few = λ wide. let fewer = front_fewer a.table xs ys in let few = within.few wide in omega (arith, fewer, few);
}
