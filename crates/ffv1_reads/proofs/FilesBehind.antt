-- What stands behind the end of a file, of which four bytes are looked at.
use Rattle.std.proofs.Common.{◌≡◌, ◌<◌, ◌≤◌, ◌||◌, if◌then◌else◌, ℕ, List, [], ◌∷◌, ◌++◌, Bool, true, false, Result, Ok, Err, length, take, drop, nat_eq, nat_lt, codes, lt-ltb, ap, refl, sym, ◌∙◌, arith}
use Rattle.std.proofs.Math.Seq.{take-append_seam, drop-append_seam}
use Rattle.std.proofs.lemmas.List.{drop_all, take_all}
use lib.Pointwise.{pointwise, pointwise_long}
use Rattle.ffv1_reads.specs.Reads.{Met, Stop, given, refused}
use Rattle.ffv1_reads.specs.Behind.{begins_file, behind_judged, behind_read}
use Rattle.ffv1_reads.specs.declared.fault.FileFault.TheVariants as fault

pub file_by_four : (bytes : List ℕ) → begins_file bytes ≡ true → length bytes ≡ 4
unfolding begins_file
file_by_four bytes begins = on (pointwise nat_eq bytes (26 ∷ 69 ∷ 223 ∷ 163 ∷ [])) refl begins
  where
    on : (b : Bool) → pointwise nat_eq bytes (26 ∷ 69 ∷ 223 ∷ 163 ∷ []) ≡ b → (b || pointwise nat_eq bytes (codes "RIFF")) ≡ true → length bytes ≡ 4
    on true is h = pointwise_long nat_eq bytes (26 ∷ 69 ∷ 223 ∷ 163 ∷ []) is
    on false is h = pointwise_long nat_eq bytes (codes "RIFF") h

few_begin_none : (bytes : List ℕ) → length bytes < 4 → begins_file bytes ≡ false
few_begin_none bytes few = on (begins_file bytes) refl
  where
    on : (b : Bool) → begins_file bytes ≡ b → b ≡ false
    on true is = absurd (omega (arith, few, file_by_four bytes is))
    on false is = refl

-- fewer are judged as they are
pub few_are_read : (bytes : List ℕ) → length bytes < 4 → behind_read bytes ≡ Ok (nat_lt 0 (length bytes), [])
unfolding behind_read
few_are_read bytes few =
    rw (take_all 4 bytes (omega (arith, few)), drop_all 4 bytes (omega (arith, few)), few_begin_none bytes few) refl

-- another file is met, whatever comes after its four bytes
pub another_is_met : (bytes rest : List ℕ) → begins_file bytes ≡ true → behind_read (bytes ++ rest) ≡ Err (Met fault.Another rest)
unfolding behind_read
another_is_met bytes rest begins =
    let long = file_by_four bytes begins in
    let front : take (length bytes) (bytes ++ rest) ≡ bytes = take-append_seam bytes rest in
    let back : drop (length bytes) (bytes ++ rest) ≡ rest = drop-append_seam bytes rest in
    rw (rw long at front, rw long at back, begins) refl

abbrev told : Result (Bool × List ℕ) Stop → Bool
told (Ok p) = p.0
told (Err why) = true

-- no bytes are told as none
pub none_are_read : (text rest : List ℕ) → behind_read text ≡ Ok (false, rest) → text ≡ []
unfolding behind_read
none_are_read [] rest is = refl
none_are_read (b ∷ bs) rest is = on (begins_file (take 4 (b ∷ bs))) is
  where
    on : (another : Bool) → (if another then refused fault.Another else given (nat_lt 0 (length (take 4 (b ∷ bs))))) (drop 4 (b ∷ bs)) ≡ Ok (false, rest) → (b ∷ bs) ≡ []
    on true is = absurd cc
    on false is =
        let more : nat_lt 0 (length (take 4 (b ∷ bs))) ≡ true = lt-ltb 0 (length (take 4 (b ∷ bs))) (omega arith) in
        let none : nat_lt 0 (length (take 4 (b ∷ bs))) ≡ false = ap told is in
        absurd (let both : true ≡ false = sym more ∙ none in cc)

-- other bytes are told
pub others_are_read : (text : List ℕ) → 0 < length text → begins_file (take 4 text) ≡ false → behind_read text ≡ Ok (true, drop 4 text)
unfolding behind_read
others_are_read [] some other = absurd (omega (arith, some))
others_are_read (b ∷ bs) some other =
    let more : nat_lt 0 (length (take 4 (b ∷ bs))) ≡ true = lt-ltb 0 (length (take 4 (b ∷ bs))) (omega arith) in
    rw (other, more) refl
