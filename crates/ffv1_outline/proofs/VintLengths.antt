-- How many bytes a variable-size integer has: one more than the bits 0 before the first bit 1.
use Rattle.std.proofs.Common.{◌≡◌, ◌<◌, ◌≤◌, ◌+◌, ◌-◌, ◌^◌, ℕ, zero, suc, List, [], Bool, true, false, if◌then◌else◌, length, take, drop, slice_index, refl, sym, arith}
use Rattle.std.proofs.lemmas.List.{drop_all}
use Rattle.std.proofs.lemmas.Nat.{leading_top}
use lib.Count.{count_leading_zeros}
use Rattle.ffv1_avi.specs.Walk.{is_name}
use Rattle.ffv1_ebml.specs.Vints.{length_of}
use Rattle.ffv1_outline.specs.MatroskaOutline.{segment_content, segment_ident}

-- in the standard's terms, for bytes above 0
abbrev pub SaysLength : Type 0
SaysLength = (n first : ℕ) → 1 ≤ n → n ≤ 8 → 2 ^ (8 - n) ≤ first → first < 2 ^ (9 - n) → length_of first ≡ n

none_set : count_leading_zeros 8 0 + 1 ≡ length_of 0
unfolding length_of count_leading_zeros
none_set = refl

pub length_by_zeros : SaysLength → (first : ℕ) → first < 2 ^ 8 → count_leading_zeros 8 first + 1 ≡ length_of first
length_by_zeros law zero few = none_set
length_by_zeros law (suc k) few =
    let top = leading_top 8 (suc k) (omega arith) few in
    let n = count_leading_zeros 8 (suc k) + 1 in
    let low : 8 - n ≡ top.0 = omega (arith, top.1) in
    let high : 9 - n ≡ suc top.0 = omega (arith, top.1) in
    sym (law n (suc k) (omega arith) (omega (arith, top.1)) (rw low top.2) (rw high top.3))

-- a Segment that ends before its size has no content
pub short_segment : (bytes : List ℕ) → length bytes ≤ 4 → segment_content bytes ≡ []
unfolding segment_content
short_segment bytes few = on (is_name (take 4 bytes) segment_ident)
  where
    on : (b : Bool) → (if b then drop (4 + length_of (slice_index bytes 4)) bytes else []) ≡ []
    on true = drop_all (4 + length_of (slice_index bytes 4)) bytes (omega (arith, few))
    on false = refl
