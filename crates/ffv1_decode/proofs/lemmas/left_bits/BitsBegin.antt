-- Where the bits of a slice begin behind its head, and those that are left of them.
use Rattle.std.proofs.Common.{◌≡◌, ℕ, ◌-◌, ◌*◌, ◌^◌, ◌<◌, ◌≤◌, ◌⊎◌, inl, inr, min, Bool, Option, Some, None, List, [], ◌∷◌, ◌++◌, length, take, drop, ap, sym, subst, ◌∙◌, arith, append_assoc}
use Rattle.std.proofs.lemmas.Bool.{cases_lt}
use Rattle.std.proofs.lemmas.List.{drop_all, length-drop, take-append-drop}
use Rattle.ffv1_range.specs.Interval.{Interval, start, narrow, interval_of}
use Rattle.ffv1_range.specs.Codes.{AreBytes, Inside}
use Rattle.ffv1_range.specs.Ending.{bits_place}
use Rattle.ffv1_range.specs.Reading.{Pause, At, resumed}
use Rattle.ffv1_range.specs.Symbols.{Step}
use Rattle.ffv1_range.specs.History.{decisions_after}
use Rattle.ffv1_range.specs.Table.{Table}
use Rattle.ffv1_range.proofs.Nested.{narrowed-append}
use Rattle.ffv1_rice.specs.Bits.{bits_of}
use Rattle.ffv1_rice.proofs.Fields.{length-bits_from}
use Rattle.ffv1_record.specs.Accepted.{Accepted}
use Rattle.ffv1_frame.specs.Ending.{IsBehind, sealed_by}
use Rattle.ffv1_decode.specs.Internal.LeftBits.{AreLeft}
use Rattle.ffv1_decode.specs.Internal.Stands.{IsParked}

same_pause : (p r : Pause) → Some p ≡ Some r → p ≡ r
same_pause p r e = cc

none_some : {P : Type 0} (p : Pause) → None ≡ Some p → P
none_some p e = absurd (cc)

-- no decoder was parked
pub none_parked : {P : Type 0} (bytes : List ℕ) (t : Table) (parked : Option Pause) (past : List Step) → parked ≡ None → IsParked bytes t parked past → P
none_parked bytes t parked past none is = none_some is.pause (sym none ∙ is.is)

-- a place that is at most the end
same_place : (place shown at long : ℕ) → long ≤ 2 ^ 64 - 1 → shown ≡ min place (2 ^ 64 - 1) → ((at ≡ shown) × (shown ≤ long)) ⊎ ((at ≡ long) × (long < shown)) → (at ≡ place) ⊎ ((long ≤ at) × (long ≤ place))
same_place place shown at long few is how = elim (cases_lt place long) [
  | inl less ↦ elim how [
    | inl here ↦ inl (omega (arith, less, few, is, here.0))
    | inr end ↦ absurd (omega (arith, less, few, is, end.1))
  ]
  | inr more ↦ elim how [
    | inl here ↦ inr (omega (arith, more, few, is, here.0), more)
    | inr end ↦ inr (omega (arith, end.0), more)
  ]
]

same_rest : (bytes : List ℕ) (place shown at : ℕ) → length bytes ≤ 2 ^ 64 - 1 → shown ≡ min place (2 ^ 64 - 1) → ((at ≡ shown) × (shown ≤ length bytes)) ⊎ ((at ≡ length bytes) × (length bytes < shown)) →
    drop (8 * at) (bits_of bytes) ≡ drop (8 * place) (bits_of bytes)
same_rest bytes place shown at few is how =
    let long = length-bits_from bytes 0 (8 * length bytes) in
    elim (same_place place shown at (length bytes) few is how) [
      | inl same ↦ ap (λ z. drop (8 * z) (bits_of bytes)) same
      | inr past ↦ drop_all (8 * at) (bits_of bytes) (omega (arith, long, past.0)) ∙ sym (drop_all (8 * place) (bits_of bytes) (omega (arith, long, past.1)))
    ]

-- the bits behind what was decided
module _ (bytes : List ℕ) (pause : Pause) (parked : Option Pause) (shown at : ℕ) (are : AreBytes bytes) (few : length bytes ≤ 2 ^ 64 - 1) (is : parked ≡ Some pause)
    (law : (bytes : List ℕ) (i : Interval) → AreBytes bytes → At (resumed pause bytes) i → (bit : Bool) × Inside bytes (narrow i 129 bit) × (shown ≡ min (bits_place (narrow i 129 bit)) (2 ^ 64 - 1)))
    (how : ((at ≡ shown) × (shown ≤ length bytes)) ⊎ ((at ≡ length bytes) × (length bytes < shown))) where
  pub begins_behind : (a : Accepted) (past : List Step) → IsParked bytes a.table parked past → IsBehind a bytes past (drop (8 * at) (bits_of bytes))
  begins_behind a past where_is =
      let i = interval_of (decisions_after a.table [] past) in
      let same : where_is.pause ≡ pause = same_pause where_is.pause pause (sym where_is.is ∙ is) in
      let found = law bytes i are (subst (λ p. At (resumed p bytes) i) same where_is.at) in
      let joined : narrow i 129 found.0 ≡ interval_of (sealed_by a past found.0) = sym (narrowed-append start (decisions_after a.table [] past) (record { state = 129; bit = found.0 } ∷ [])) in
      record {
        unused = found.0;
        codes = subst (Inside bytes) joined found.1;
        is = same_rest bytes (bits_place (narrow i 129 found.0)) shown at few found.2 how ∙ ap (λ z. drop (8 * bits_place z) (bits_of bytes)) joined;
      }

-- bits behind some are no more than all
pub few_behind : (bytes : List ℕ) (n : ℕ) → length (drop n (bits_of bytes)) ≤ 8 * length bytes
few_behind bytes n =
    let long = length-bits_from bytes 0 (8 * length bytes) in
    let cut = length-drop n (bits_of bytes) in
    omega (arith, long, cut)

-- bits of which nothing is read yet
pub begun_behind : (a : Accepted) (bytes : List ℕ) (past : List Step) (read text : List Bool) (left : Option ℕ) → left ≡ None → AreLeft a bytes past read left → IsBehind a bytes past text → IsBehind a bytes past (read ++ text)
begun_behind a bytes past read text left none kept behind = subst (λ z. IsBehind a bytes past (z ++ text)) (sym (kept.none none)) behind

-- and those that are woken by how many they are
pub woken_behind : ((bytes : List ℕ) (read text : List Bool) → bits_of bytes ≡ read ++ text → (length text ≤ 8 * length bytes) × (drop (8 * length bytes - length text) (bits_of bytes) ≡ text)) →
    (a : Accepted) (bytes : List ℕ) (past : List Step) (read : List Bool) (left : Option ℕ) (n : ℕ) → left ≡ Some n → AreLeft a bytes past read left → IsBehind a bytes past (read ++ drop (8 * length bytes - n) (bits_of bytes))
woken_behind law a bytes past read left n is kept =
    let found = kept.some n is in
    let rest = found.0 in
    let behind = found.1 in
    let all = bits_of bytes in
    let place = 8 * bits_place (interval_of (sealed_by a past behind.unused)) in
    let parts : all ≡ (take place all ++ read) ++ rest =
    sym (take-append-drop place all) ∙ ap (λ z. take place all ++ z) (sym behind.is) ∙ sym (append_assoc (take place all) read rest) in
    let woken : drop (8 * length bytes - n) all ≡ rest = ap (λ z. drop (8 * length bytes - z) all) found.2 ∙ (law bytes (take place all ++ read) rest parts).1 in
    subst (λ z. IsBehind a bytes past (read ++ z)) (sym woken) behind
