-- Deltas make at most one table, and those of 0 make the standard's.
use Rattle.std.proofs.Common.{◌≡◌, refl, ℕ, zero, suc, ◌<◌, ◌≤◌, Bool, true, List, get_or, replicate, arith, ap, sym, ◌∙◌, inl, inr, ℤ, pos, negsuc, ◌+ℤ◌, nat_lt}
use Rattle.std.proofs.lemmas.Bool.{cases_lt, lt-ltb}
use Rattle.std.proofs.lemmas.Bool.Decides.{nat_tests}
use Rattle.std.proofs.lemmas.Grind.{same_number_lists}
use Rattle.std.proofs.lemmas.Int.{ints}
use Rattle.std.proofs.lemmas.List.{get_or-replicate, get_or_past, length-replicate}
use Rattle.ffv1_range.specs.Standard.{default_state_transition}
use Rattle.ffv1_range.specs.Table.{Table, IsTable}
use Rattle.ffv1_range.specs.Deltas.{entry_of, byte_of, IsTableOf}
use Rattle.ffv1_range.proofs.Standard.{standard, all_below, all_below-at}
use Rattle.ffv1_range.proofs.DeltaTables.{table_of_floor, floor_of_table}

pub one_table : (deltas : List ℤ) (t s : Table) → IsTableOf deltas t → IsTableOf deltas s → t ≡ s
one_table deltas t s is_t is_s =
    let below = is_t.lowest s.floor is_s.floor in
    let above = is_s.lowest t.floor is_t.floor in
    let floors : t.floor ≡ s.floor = omega arith in
    let long = is_t.long in
    let entries : t.one ≡ s.one = same_number_lists t.one s.one (long ∙ sym is_s.long)
    (λ state inside. is_t.entries state (omega arith) ∙ sym (is_s.entries state (omega arith))) in
    let f : ℕ → Table = λ n. record { floor = n; one = t.one } in
    let g : List ℕ → Table = λ l. record { floor = s.floor; one = l } in
    ap f floors ∙ ap g entries

pub table_of : (deltas : List ℤ) (t : Table) → IsTableOf deltas t → IsTable t.floor t.one
table_of deltas t is = table_of_floor deltas t.one is.entries t.floor is.floor

-- no delta is other than 0
zero_delta : (k : ℕ) → get_or {A = ℤ} (replicate 255 (pos 0)) k (pos 0) ≡ pos 0
zero_delta k = elim (cases_lt k 255) [
  | inl inside ↦ get_or-replicate 255 k (pos 0) (pos 0) inside
  | inr behind ↦ get_or_past (replicate 255 (pos 0)) k (pos 0) (omega (arith, length-replicate {A = ℤ} 255 (pos 0)))
]

-- each entry of the standard is a byte
abbrev is_byte : ℕ → Bool
is_byte state = nat_lt (get_or default_state_transition state 0) 256

standard_bytes : all_below is_byte 256 ≡ true
unfolding all_below
standard_bytes = refl

byte_plus_none : (n : ℕ) → n < 256 → byte_of (pos n +ℤ pos 0) ≡ n
byte_plus_none n small =
    let same : pos n +ℤ pos 0 ≡ pos n = omega (arith, ints) in
    let whole : byte_of (pos n) ≡ n = rw (lt-ltb n 256 small) refl in
    ap byte_of same ∙ whole

entries : (state : ℕ) → state < 256 → get_or default_state_transition state 0 ≡ byte_of (entry_of (replicate 255 (pos 0)) state)
entries zero below = refl
entries (suc k) below =
    let test = all_below-at is_byte 256 (suc k) standard_bytes below in
    let small : get_or default_state_transition (suc k) 0 < 256 = grind (arith, nat_tests) in
    rw (zero_delta k) (sym (byte_plus_none (get_or default_state_transition (suc k) 0) small))

abbrev is_none : ℕ → Bool
is_none state = nat_lt (get_or default_state_transition state 0) 1

first_none : all_below is_none 8 ≡ true
unfolding all_below
first_none = refl

first_entries : (state : ℕ) → state < 8 → get_or default_state_transition state 0 ≡ 0
first_entries state below =
    let test = all_below-at is_none 8 state first_none below in
    grind (arith, nat_tests)

different : pos 0 ≡ negsuc 2147483647 → ⊥
different e = omega (arith, ints)

-- a floor is not below 8, where the entries are 0
least_floor : (floor : ℕ) → IsTable floor default_state_transition → 8 ≤ floor
least_floor floor is = elim (cases_lt floor 8) [
  | inl less ↦
      let positive = is.positive in
      let middle = is.middle in
      let entry = is.least floor (omega arith) (omega arith) in
      let none = first_entries floor less in
      absurd (omega arith)
  | inr more ↦ more
]

pub standard_of : IsTableOf (replicate 255 (pos 0)) (record { floor = 8; one = default_state_transition })
standard_of = record {
  sound = λ k below e. different (sym (zero_delta k) ∙ e);
  floor = floor_of_table (replicate 255 (pos 0)) default_state_transition entries 8 standard;
  lowest = λ floor is. least_floor floor (table_of_floor (replicate 255 (pos 0)) default_state_transition entries floor is);
  long = refl;
  entries = entries;
}
