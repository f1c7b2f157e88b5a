-- Marked low ends.
use Rattle.std.proofs.Common.{◌≡◌, refl, ℕ, zero, suc, ◌+◌, ◌-◌, ◌*◌, ◌/◌, ◌%◌, ◌^◌, ◌<◌, ◌≤◌, List, length, arith, ap, ◌∙◌, subst, inl, inr}
use Rattle.std.proofs.lemmas.Bool.{cases_lt}
use Rattle.ffv1_range.specs.Codes.{value, AreBytes}
use Rattle.ffv1_range.specs.Internal.Registers.{held_in, mark_of, low_in, interval_from, interval_marked, IsWriting, IsHolding, IsMarked}
use Rattle.ffv1_range.proofs.EmittedBytes.{same_interval}
use Rattle.ffv1_range.proofs.HeldBack.{power_next, power_some, power_thrice, emptied_holding}

-- how many bytes are held back, by where a low end lies
pub below_first : (marked : ℕ) → marked < 2 ^ 39 → held_in marked ≡ 0
unfolding held_in
below_first marked below = omega arith

pub below_second : (marked : ℕ) → 2 ^ 39 ≤ marked → marked < 2 ^ 47 → held_in marked ≡ 1
unfolding held_in
below_second marked least below = omega arith

pub below_third : (marked : ℕ) → 2 ^ 47 ≤ marked → marked < 2 ^ 55 → held_in marked ≡ 2
unfolding held_in
below_third marked least below = omega arith

pub below_fourth : (marked : ℕ) → 2 ^ 55 ≤ marked → marked < 2 ^ 63 → held_in marked ≡ 3
unfolding held_in
below_fourth marked least below = omega arith

pub full : (marked : ℕ) → 2 ^ 63 ≤ marked → held_in marked ≡ 4
unfolding held_in
full marked least = omega arith

pub not_full : (marked : ℕ) → marked < 2 ^ 63 → held_in marked < 4
unfolding held_in
not_full marked below = omega arith

pub under : (marked : ℕ) → held_in marked < 4 → marked < 2 ^ 63
unfolding held_in
under marked few = omega arith

pub at_most : (marked : ℕ) → held_in marked ≤ 4
unfolding held_in
at_most marked = omega arith

-- a number below its mark
pub marks : (held low : ℕ) → held ≤ 4 → low < 2 ^ 31 * 256 ^ held → held_in (mark_of held + low) ≡ held
unfolding mark_of
marks zero low few below = below_first (mark_of 0 + low) (omega arith)
marks (suc zero) low few below = below_second (mark_of 1 + low) (omega arith) (omega arith)
marks (suc (suc zero)) low few below = below_third (mark_of 2 + low) (omega arith) (omega arith)
marks (suc (suc (suc zero))) low few below = below_fourth (mark_of 3 + low) (omega arith) (omega arith)
marks (suc (suc (suc (suc zero)))) low few below = full (mark_of 4 + low) (omega arith)
marks (suc (suc (suc (suc (suc held))))) low few below = absurd (omega arith)

pub low_marked : (held low : ℕ) → held ≤ 4 → low < 2 ^ 31 * 256 ^ held → low_in (mark_of held + low) ≡ low
unfolding low_in
low_marked held low few below = rw (marks held low few below) (omega arith)

-- and each number is so
least_is : (marked held : ℕ) → held_in marked ≡ held → mark_of held ≤ marked → marked ≡ mark_of (held_in marked) + low_in marked
unfolding low_in
least_is marked held is least = rw is (omega arith)

pub is_marked : (marked : ℕ) → 2 ^ 31 ≤ marked → marked ≡ mark_of (held_in marked) + low_in marked
unfolding mark_of
is_marked marked some = elim (cases_lt marked (2 ^ 39)) [
  | inl first ↦ least_is marked 0 (below_first marked first) (omega arith)
  | inr first ↦ elim (cases_lt marked (2 ^ 47)) [
    | inl second ↦ least_is marked 1 (below_second marked first second) (omega arith)
    | inr second ↦ elim (cases_lt marked (2 ^ 55)) [
      | inl third ↦ least_is marked 2 (below_third marked second third) (omega arith)
      | inr third ↦ elim (cases_lt marked (2 ^ 63)) [
        | inl fourth ↦ least_is marked 3 (below_fourth marked third fourth) (omega arith)
        | inr fourth ↦ least_is marked 4 (full marked fourth) (omega (arith, at_most marked, full marked fourth))
      ]
    ]
  ]
]

-- a mark stays where a part of the width is added
module _ (marked lower width : ℕ) (some : 2 ^ 31 ≤ marked) (below : low_in marked + width ≤ 131072 * 256 ^ held_in marked) (within : lower ≤ width) where
  parts_plus : marked + lower ≡ mark_of (held_in marked) + (low_in marked + lower)
  parts_plus = omega (arith, is_marked marked some)

  small_plus : low_in marked + lower < 2 ^ 31 * 256 ^ held_in marked
  small_plus = omega (arith, power_some (held_in marked))

  pub held_plus : held_in (marked + lower) ≡ held_in marked
  held_plus = ap held_in parts_plus ∙ marks (held_in marked) (low_in marked + lower) (at_most marked) small_plus

  pub low_plus : low_in (marked + lower) ≡ low_in marked + lower
  low_plus = ap low_in parts_plus ∙ low_marked (held_in marked) (low_in marked + lower) (at_most marked) small_plus

-- and is shifted with what is below it
module _ (marked width : ℕ) (some : 2 ^ 31 ≤ marked) (few : held_in marked ≤ 3) (below : low_in marked + width ≤ 131072 * 256 ^ held_in marked) (wide : 0 < width) where
  parts_times : marked * 256 ≡ mark_of (held_in marked + 1) + low_in marked * 256
  unfolding mark_of
  parts_times = omega (arith, is_marked marked some, power_next (held_in marked))

  small_times : low_in marked * 256 < 2 ^ 31 * 256 ^ (held_in marked + 1)
  small_times = omega (arith, power_next (held_in marked), power_some (held_in marked))

  pub held_times : held_in (marked * 256) ≡ held_in marked + 1
  held_times = ap held_in parts_times ∙ marks (held_in marked + 1) (low_in marked * 256) (omega arith) small_times

  pub low_times : low_in (marked * 256) ≡ low_in marked * 256
  low_times = ap low_in parts_times ∙ low_marked (held_in marked + 1) (low_in marked * 256) (omega arith) small_times

-- there is room for that
pub times_fits : (marked width : ℕ) → 2 ^ 31 ≤ marked → held_in marked ≤ 3 → low_in marked + width ≤ 131072 * 256 ^ held_in marked → marked * 256 < 2 ^ 64
unfolding mark_of
times_fits marked width some few below = omega (arith, is_marked marked some, power_thrice (held_in marked) few)

-- where no byte is held back
pub held_none : (low : ℕ) → low < 2 ^ 31 → held_in (low + 2 ^ 31) ≡ 0
held_none low below = below_first (low + 2 ^ 31) (omega arith)

pub low_none : (low : ℕ) → low < 2 ^ 31 → low_in (low + 2 ^ 31) ≡ low
unfolding low_in mark_of
low_none low below = rw (held_none low below) (omega arith)

pub begun_interval : (bytes : List ℕ) (low width : ℕ) → low < 2 ^ 31 → interval_marked bytes (low + 2 ^ 31) width ≡ interval_from bytes low width
begun_interval bytes low width below = rw (held_none low below, low_none low below) (same_interval _ _ (omega arith) refl (omega arith))

pub begun_marked : (bytes : List ℕ) (low width : ℕ) → IsWriting bytes low width → IsMarked bytes (low + 2 ^ 31) width
begun_marked bytes low width is =
    let holding : IsHolding bytes low width 0 = record {
      bytes_fit = is.bytes_fit;
      few = omega arith;
      below = omega (arith, is.below);
      least = is.least;
      most = is.most;
      room = omega (arith, is.room);
    } in
    record {
      some = omega arith;
      holding = rw (held_none low (omega (arith, is.below)), low_none low (omega (arith, is.below))) holding;
    }

-- a mark by a shift
pub shifted_mark : (held : ℕ) → held < 4 → 2 ^ 31 * 2 ^ (8 * held) % 2 ^ 64 ≡ mark_of held
unfolding mark_of
shifted_mark zero few = refl
shifted_mark (suc zero) few = refl
shifted_mark (suc (suc zero)) few = refl
shifted_mark (suc (suc (suc zero))) few = refl
shifted_mark (suc (suc (suc (suc held)))) few = absurd (omega arith)

-- where four bytes are held back
pub low_full : (marked : ℕ) → 2 ^ 63 ≤ marked → low_in marked ≡ marked - 2 ^ 63
unfolding low_in mark_of
low_full marked least = rw (full marked least) refl

pub holding_full : (bytes : List ℕ) (marked width : ℕ) → 2 ^ 63 ≤ marked → IsMarked bytes marked width → IsHolding bytes (marked - 2 ^ 63) width 4
holding_full bytes marked width least is = rw (full marked least, low_full marked least) at is.holding

-- and are given out
module _ (xs ys : List ℕ) (marked width : ℕ) (least : 2 ^ 63 ≤ marked) (number : value xs (length xs) ≡ 4294967296 * value ys (length ys) + (marked - 2 ^ 63) / 65536) (long : length xs ≡ length ys + 4) where
  rest_is : (marked - 2 ^ 63) % 65536 ≡ marked % 65536
  rest_is = omega arith

  pub emptied_interval : interval_marked xs (marked % 65536 + 2 ^ 31) width ≡ interval_marked ys marked width
  emptied_interval =
      rw (held_none (marked % 65536) (omega arith), low_none (marked % 65536) (omega arith), full marked least, low_full marked least)
      (same_interval _ _ (omega (arith, number)) refl (omega (arith, long)))

  pub emptied_marked : IsMarked ys marked width → AreBytes xs → IsMarked xs (marked % 65536 + 2 ^ 31) width
  emptied_marked is are =
      let holding : IsHolding xs (marked % 65536) width 0 = subst (λ n. IsHolding xs n width 0) rest_is (emptied_holding xs ys (marked - 2 ^ 63) width 4 refl (holding_full ys marked width least is) number long are) in
      record {
        some = omega arith;
        holding = rw (held_none (marked % 65536) (omega arith), low_none (marked % 65536) (omega arith)) holding;
      }
