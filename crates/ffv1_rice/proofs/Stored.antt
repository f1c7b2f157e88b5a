-- Five bytes that are stored one after the other.
use Rattle.std.proofs.Common.{◌≡◌, ◌≢◌, refl, ◌∙◌, subst, ℕ, ◌+◌, ◌*◌, ◌<◌, ◌≤◌, ◌⊎◌, List, length}
use Rattle.std.proofs.Common.{get_or, set}
use Rattle.std.proofs.Common.{arith, inl, inr, length-set, get_or-set_same, get_or-set_other, pos}
use Rattle.std.proofs.Common.{◌-ℤ◌}
use Rattle.ffv1_rice.specs.declared.state.State.{State}
use Rattle.ffv1_rice.specs.Kept.{state_of}

abbrev pub five : List ℕ → ℕ → ℕ → ℕ → ℕ → ℕ → ℕ → List ℕ
five bytes at a b c d e = set (set (set (set (set bytes at a) (at + 1) b) (at + 2) c) (at + 3) d)
    (at + 4) e

pub record IsFive (bytes : List ℕ) (at a b c d e : ℕ) : Type 0 where
  pub first : get_or (five bytes at a b c d e) at 0 ≡ a
  pub second : get_or (five bytes at a b c d e) (at + 1) 0 ≡ b
  pub third : get_or (five bytes at a b c d e) (at + 2) 0 ≡ c
  pub fourth : get_or (five bytes at a b c d e) (at + 3) 0 ≡ d
  pub fifth : get_or (five bytes at a b c d e) (at + 4) 0 ≡ e

pub is_five : (bytes : List ℕ) (at a b c d e : ℕ) → at + 5 ≤ length bytes → IsFive bytes at a b c d
    e
is_five bytes at a b c d e inside =
    let one = set bytes at a in
    let two = set one (at + 1) b in
    let three = set two (at + 2) c in
    let four = set three (at + 3) d in
    let l1 : length one ≡ length bytes = length-set bytes at a in
    let l2 : length two ≡ length bytes = length-set one (at + 1) b ∙ l1 in
    let l3 : length three ≡ length bytes = length-set two (at + 2) c ∙ l2 in
    let l4 : length four ≡ length bytes = length-set three (at + 3) d ∙ l3 in
    record {
      first = get_or-set_other four (at + 4) at e 0 (omega arith) ∙ get_or-set_other three (at + 3)
          at d 0 (omega arith)
          ∙ get_or-set_other two (at + 2) at c 0 (omega arith) ∙ get_or-set_other one (at + 1) at b
          0 (omega arith)
          ∙ get_or-set_same bytes at a 0 (omega (arith, inside));
      second = get_or-set_other four (at + 4) (at + 1) e 0 (omega arith) ∙ get_or-set_other three
          (at + 3) (at + 1) d 0 (omega arith)
          ∙ get_or-set_other two (at + 2) (at + 1) c 0 (omega arith) ∙ get_or-set_same one (at + 1)
          b 0 (omega (arith, inside, l1));
      third = get_or-set_other four (at + 4) (at + 2) e 0 (omega arith) ∙ get_or-set_other three
          (at + 3) (at + 2) d 0 (omega arith)
          ∙ get_or-set_same two (at + 2) c 0 (omega (arith, inside, l2));
      fourth = get_or-set_other four (at + 4) (at + 3) e 0 (omega arith) ∙ get_or-set_same three
          (at + 3) d 0 (omega (arith, inside, l3));
      fifth = get_or-set_same four (at + 4) e 0 (omega (arith, inside, l4));
    }

pub beside_five : (bytes : List ℕ) (at a b c d e k : ℕ) → (k < at) ⊎ (at + 5 ≤ k) →
    get_or (five bytes at a b c d e) k 0 ≡ get_or bytes k 0
beside_five bytes at a b c d e k apart =
    let one = set bytes at a in
    let two = set one (at + 1) b in
    let three = set two (at + 2) c in
    let four = set three (at + 3) d in
    let n0 : k ≢ at = elim apart [
      | inl less ↦ omega (arith, less)
      | inr more ↦ omega (arith, more)
    ] in
    let n1 : k ≢ at + 1 = elim apart [
      | inl less ↦ omega (arith, less)
      | inr more ↦
          omega (arith, more)
    ] in
    let n2 : k ≢ at + 2 = elim apart [
      | inl less ↦ omega (arith, less)
      | inr more ↦
          omega (arith, more)
    ] in
    let n3 : k ≢ at + 3 = elim apart [
      | inl less ↦ omega (arith, less)
      | inr more ↦
          omega (arith, more)
    ] in
    let n4 : k ≢ at + 4 = elim apart [
      | inl less ↦ omega (arith, less)
      | inr more ↦
          omega (arith, more)
    ] in
    get_or-set_other four (at + 4) k e 0 n4 ∙ get_or-set_other three (at + 3) k d 0 n3
    ∙ get_or-set_other two (at + 2) k c 0 n2 ∙ get_or-set_other one (at + 1) k b 0 n1
    ∙ get_or-set_other bytes at k a 0 n0

pub stored_state : (bytes : List ℕ) (at a b c d e : ℕ) (s : State) → at + 5 ≤ length bytes →
    pos 0 -ℤ pos a ≡ s.drift → b + 256 * c ≡ s.error_sum → pos d -ℤ pos 128 ≡ s.bias → e ≡ s.count →
    state_of (five bytes at a b c d e) at ≡ s
stored_state bytes at a b c d e s inside drift sum bias count =
    let is = is_five bytes at a b c d e inside in
    rw (is.first, is.second, is.third, is.fourth, is.fifth, drift, sum, bias, count) refl

pub other_state : (bytes : List ℕ) (at a b c d e k : ℕ) → (k + 5 ≤ at) ⊎ (at + 5 ≤ k) →
    state_of (five bytes at a b c d e) k ≡ state_of bytes k
other_state bytes at a b c d e k apart =
    let apart_by : (i : ℕ) → i < 5 → (k + i < at) ⊎ (at + 5 ≤ k + i) = λ i few. elim apart
    [ inl less ↦ inl (omega (arith, less, few)) | inr more ↦ inr (omega (arith, more)) ] in
    let here : k + 0 ≡ k = omega arith in
    let first : get_or (five bytes at a b c d e) k 0 ≡ get_or bytes k 0 =
    subst (λ n. get_or (five bytes at a b c d e) n 0 ≡ get_or bytes n 0) here
    (beside_five bytes at a b c d e (k + 0) (apart_by 0 (omega arith))) in
    rw (
      first,
      beside_five bytes at a b c d e (k + 1) (apart_by 1 (omega arith)),
      beside_five bytes at a b c d e (k + 2) (apart_by 2 (omega arith)),
      beside_five bytes at a b c d e (k + 3) (apart_by 3 (omega arith)),
      beside_five bytes at a b c d e (k + 4) (apart_by 4 (omega arith)),
    ) refl
