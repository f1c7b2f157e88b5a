-- Runs of differences that are 0 (RFC 9043, 3.8.2.2).
use Rattle.std.specs.Prelude.{ℕ, ◌≡◌, ◌+◌, ◌-◌, ◌^◌, ◌<◌, ◌≤◌, ◌⊎◌, Bool, true, false, List}
use Rattle.std.specs.Prelude.{[], ◌∷◌, ◌++◌, length, slice_index}
use Rattle.ffv1_rice.specs.Bits.{binary}
use Rattle.ffv1_rice.specs.declared.run.Run.{Run}

-- the binary logarithm of how many differences a 1 of a run stands for, by the run's index (RFC
-- 9043, 3.8.2.2.1)
abbrev pub run_logs : List ℕ
run_logs =
    0 ∷ 0 ∷ 0 ∷ 0 ∷ 1 ∷ 1 ∷ 1 ∷ 1 ∷ 2 ∷ 2 ∷ 2 ∷ 2 ∷ 3 ∷ 3 ∷ 3 ∷ 3 ∷ 4 ∷ 4 ∷ 5 ∷ 5 ∷ 6 ∷ 6 ∷
    7 ∷ 7 ∷ 8 ∷ 9 ∷ 10 ∷ 11 ∷ 12 ∷ 13 ∷ 14 ∷ 15 ∷ 16 ∷ 17 ∷ 18 ∷ 19 ∷ 20 ∷ 21 ∷ 22 ∷ 23 ∷ 24 ∷ []

unfoldable pub run_log : ℕ → ℕ
run_log index = slice_index run_logs index

-- what stands at the begin of some bits, in a run of this index, where so many places of the row
-- are left: a 1 for 2^L differences, or for all that are left, or a 0 and how many they are before
-- the one that is not 0
pub record IsRun (index left : ℕ) (run : Run) (text rest : List Bool) (next : ℕ) : Type 0 where
  pub whole : run.is_broken ≡ false → text ≡ true ∷ rest
  pub grown : run.is_broken ≡ false → 2 ^ run_log index ≤ left →
      (run.zeros ≡ 2 ^ run_log index) × (next ≡ index + 1)
  pub last : run.is_broken ≡ false → left < 2 ^ run_log index → (run.zeros ≡ left) × (next ≡ index)
  pub broken : run.is_broken ≡ true → (text ≡ false ∷ (binary (run_log index) run.zeros ++ rest)) ×
      (run.zeros < 2 ^ run_log index) × (run.zeros < left) × (next ≡ index - 1)

-- the bits end there
abbrev pub EndsInRun : ℕ → List Bool → Type 0
EndsInRun index text = (text ≡ []) ⊎ ((rest : List Bool) × (text ≡ false ∷ rest) ×
    (length rest < run_log index))

-- a run is broken after the end of the row
pub record LeavesRow (index left : ℕ) (text : List Bool) : Type 0 where
  pub zeros : ℕ
  pub rest : List Bool
  pub few : zeros < 2 ^ run_log index
  pub is : text ≡ false ∷ (binary (run_log index) zeros ++ rest)
  pub beyond : left ≤ zeros
