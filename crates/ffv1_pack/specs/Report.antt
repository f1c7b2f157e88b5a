-- The lines of a trial.
use Rattle.std.specs.Prelude.{ℕ, ◌+◌, ◌/◌, ◌%◌, nat_lt, Bool, if◌then◌else◌, List, [], ◌∷◌, ◌++◌}
use Rattle.std.specs.Prelude.{codes, decimal}

-- a digit of a hexadecimal number, in upper case
abbrev pub digit_of : ℕ → ℕ
digit_of n = if nat_lt n 10 then 48 + n else 55 + n

-- two digits for each byte
abbrev pub hexadecimal : List ℕ → List ℕ
hexadecimal [] = []
hexadecimal (b ∷ bs) = digit_of (b / 16) ∷ digit_of (b % 16) ∷ hexadecimal bs

abbrev pub same_line : Bool → List ℕ
same_line same = if same then codes "\nsame yes\n" else codes "\nsame no\n"

-- how many samples and decisions, the code, and whether it was decoded to the same samples
abbrev pub report_of : ℕ → ℕ → List ℕ → Bool → List ℕ
report_of samples decisions code same =
    codes "samples " ++ decimal samples ++ (10 ∷ []) ++ codes "decisions " ++ decimal decisions
    ++ (10 ∷ [])
    ++ codes "code " ++ hexadecimal code ++ same_line same
