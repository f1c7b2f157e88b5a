-- A line of a list of MD5s that grows, and one that is too long.
use Rattle.std.proofs.Common.{◌≡◌, ◌==◌, ℕ, ◌+◌, ◌<◌, Bool, true, false, Err, List, [], ◌∷◌, ◌++◌, length, length-append, nat_lt, if◌then◌else◌, refl, arith}
use Rattle.std.proofs.lemmas.Bool.{lt-ltb, ltb-true}
use Rattle.std.proofs.lemmas.Bool.Decides.{nat_tests}
use Rattle.ffv1_range.specs.Counts.{saturated}
use Rattle.ffv1_unpack.specs.Md5Line.{longest_line, says}
use Rattle.ffv1_unpack.specs.Md5List.{Listed, lines_from, md5s_in}
use Rattle.ffv1_unpack.specs.declared.md5_line.Md5Line.TheVariants as line

-- more than the most bytes of a line
pub over_longest : (n : ℕ) → 65536 < n → nat_lt longest_line n ≡ true
unfolding longest_line
over_longest n h = lt-ltb 65536 n h

long_says : (text : List ℕ) → nat_lt longest_line (length text) ≡ true → says text ≡ line.Other
unfolding says
long_says text long = rw long refl

-- a line that is too long is none, whatever comes after
pub long_refused : (l : Listed) (text rest : List ℕ) → nat_lt longest_line (length text) ≡ true → md5s_in l (lines_from text rest) ≡ Err (saturated (l.number + 1))
long_refused l text [] long =
    let more = ltb-true longest_line (length text) long in
    let some : (length text == 0) ≡ false = grind (arith, nat_tests) in
    rw (some, long_says text long) refl
long_refused l text (b ∷ bs) long =
    let more = ltb-true longest_line (length text) long in
    let grown : length (text ++ (b ∷ [])) ≡ length text + 1 = length-append text (b ∷ []) in
    let longer : nat_lt longest_line (length (text ++ (b ∷ []))) ≡ true = lt-ltb longest_line (length (text ++ (b ∷ []))) (omega (arith, more, grown)) in
    go (b == 10) (long_refused l (text ++ (b ∷ [])) bs longer)
  where
    go : (t : Bool) → md5s_in l (lines_from (text ++ (b ∷ [])) bs) ≡ Err (saturated (l.number + 1))
        → md5s_in l (if t then text ∷ lines_from [] bs else lines_from (text ++ (b ∷ [])) bs) ≡ Err (saturated (l.number + 1))
    go true later = rw (long_says text long) refl
    go false later = later

-- a line has one byte more
pub line_grows : (l : Listed) (text rest : List ℕ) (b : ℕ) → (b ≡ 10 → ⊥) → md5s_in l (lines_from text (b ∷ rest)) ≡ md5s_in l (lines_from (text ++ (b ∷ [])) rest)
line_grows l text rest b other =
    let none : (b == 10) ≡ false = grind (arith, nat_tests) in
    rw none refl
