-- Runs in a window of 32 bits.
use Rattle.std.proofs.Common.{◌≡◌, refl, sym, ◌∙◌, ap, subst, ℕ, suc, ◌+◌, ◌-◌, ◌/◌, ◌%◌, ◌^◌}
use Rattle.std.proofs.Common.{◌<◌, ◌≤◌, Bool, true, false, List, [], ◌∷◌, ◌++◌, length, drop}
use Rattle.std.proofs.Common.{inl, inr, arith, take-append-drop, leb, slice_index}
use Rattle.std.proofs.lemmas.Nat.{mod_below, pow_pos}
use Rattle.ffv1_rice.specs.Bits.{binary, number_of}
use Rattle.std.proofs.lemmas.Bool.{agree_below_at, leb-true}
use Rattle.ffv1_rice.specs.Run.{EndsInRun, run_log, run_logs}
use Rattle.ffv1_rice.proofs.Binary.{number-below, window_within}
use Rattle.ffv1_rice.proofs.Numbers.{field_window}

-- the first bit of a window
pub first_is_one : (n : ℕ) (text : List Bool) → 2 ^ n ≤ number_of (suc n) text → text ≡ true ∷ drop
    1 text
unfolding number_of
first_is_one n [] most = let some = pow_pos n in absurd (omega (arith, most, some))
first_is_one n (true ∷ text) most = refl
first_is_one n (false ∷ text) most = let less = number-below n text in
    absurd (omega (arith, most, less))

pub first_is_zero : (n : ℕ) (text : List Bool) → number_of (suc n) text < 2 ^ n → 0 < length text →
    text ≡ false ∷ drop 1 text
unfolding number_of
first_is_zero n [] least some = absurd (omega (arith, some))
first_is_zero n (false ∷ text) least some = refl
first_is_zero n (true ∷ text) least some = absurd (omega (arith, least))

-- a 0 and some bits after it
pub broken_window : (log low : ℕ) (text : List Bool) → log ≤ 31 → number_of 32 text < 2 ^ 31 → 1 +
    log ≤ length text →
    low ≡ number_of 32 text / 2 ^ (31 - log) % 2 ^ log →
    text ≡ false ∷ (binary log low ++ drop (1 + log) text)
broken_window log low text few small within is =
    let room : 31 ≡ log + (31 - log) = omega (arith, few) in
    let field = field_window (number_of 32 text) 1 log (31 - log) low (omega (arith, few))
    (subst (λ k. number_of 32 text < 2 ^ k) room small) is in
    sym (take-append-drop (1 + log) text)
    ∙ ap (λ bits. bits ++ drop (1 + log) text)
    (sym (window_within 32 (1 + log) text (omega (arith, few)) within) ∙ field)

pub ends_in_run : (index : ℕ) (text : List Bool) → number_of 32 text < 2 ^ 31 → length text < 1 +
    run_log index →
    EndsInRun index text
ends_in_run index [] small less = inl refl
ends_in_run index (bit ∷ text) small less =
    inr (text, first_is_zero 31 (bit ∷ text) small (omega arith), omega (arith, less))

pub low_below : (window log r low : ℕ) → low ≡ window / 2 ^ r % 2 ^ log → low < 2 ^ log
low_below window log r low is = rw is (mod_below (window / 2 ^ r) (2 ^ log) (pow_pos log))

pub run_log_most : (index : ℕ) → index ≤ 40 → run_log index ≤ 24
unfolding run_log
run_log_most index few =
    let test = agree_below_at (λ k. leb (run_log k) 24) (λ k. true) 41 index refl
    (omega (arith, few)) in
    leb-true (run_log index) 24 test

pub run_log_is : (index : ℕ) → slice_index run_logs index ≡ run_log index
unfolding run_log
run_log_is index = refl

pub run_log_last : run_log 32 ≡ 16
unfolding run_log
run_log_last = refl
