-- The symbols of numbers in their rows, one after another.
use Rattle.std.proofs.Common.{◌≡◌, refl, ℕ, zero, suc, ◌+◌, ◌-◌, ◌*◌, ◌<◌, List, [], ◌++◌, arith, append_assoc, length, length-append, get_or, ℤ, pos}
use Rattle.std.proofs.lemmas.List.{append-nil}
use Rattle.std.specs.Prelude.{slice_index_or}
use Rattle.ffv1_range.specs.Table.{Table}
use Rattle.ffv1_range.specs.Symbols.{Step, shifted, signed_steps}
use Rattle.ffv1_range.specs.Counts.{ones_in}
use Rattle.ffv1_range.specs.Rows.{rows_steps}
use Rattle.ffv1_range.specs.Writing.{Writing}
use Rattle.ffv1_range.specs.Puts.{Grows}
use Rattle.ffv1_range.specs.Internal.Registers.{Writes}
use Rattle.ffv1_range.proofs.Counting.{ones_in-append, shifted_ones, length-shifted}
use Rattle.ffv1_range.proofs.Steps.{writes_append}
use Rattle.ffv1_range.proofs.Growth.{grows_first, grows_second}

-- the symbol at an index
abbrev pub row_steps : List ℕ → List ℤ → ℕ → List Step
row_steps rows numbers k = shifted (get_or rows k 0 * 32) (signed_steps (slice_index_or numbers k (pos 0)))

pub rows-none : (rows : List ℕ) (numbers : List ℤ) → rows_steps rows numbers 0 ≡ []
unfolding rows_steps
rows-none rows numbers = refl

pub rows-more : (rows : List ℕ) (numbers : List ℤ) (k : ℕ) → rows_steps rows numbers (k + 1) ≡ rows_steps rows numbers k ++ row_steps rows numbers k
unfolding rows_steps
rows-more rows numbers k =
    let up : k + 1 ≡ suc k = omega arith in
    rw up refl

rows_on : (rows : List ℕ) (numbers : List ℤ) (k more : ℕ) → (rest : List Step) × (rows_steps rows numbers (k + more) ≡ rows_steps rows numbers k ++ rest)
rows_on rows numbers k zero = ([], let same : k + 0 ≡ k = omega arith in rw (same, append-nil (rows_steps rows numbers k)) refl)
rows_on rows numbers k (suc more) =
    let before = rows_on rows numbers k more in
    let up : k + suc more ≡ k + more + 1 = omega arith in (
      before.0 ++ row_steps rows numbers (k + more),
      rw (up, rows-more rows numbers (k + more), before.1) (append_assoc (rows_steps rows numbers k) before.0 (row_steps rows numbers (k + more))),
    )

-- a symbol more is written
pub rows_next : (t : Table) (a b c : Writing) (states mid after : List ℕ) (rows : List ℕ) (numbers : List ℤ) (k : ℕ) →
    Writes t a states b mid (rows_steps rows numbers k) → Writes t b mid c after (row_steps rows numbers k) →
    Writes t a states c after (rows_steps rows numbers (k + 1))
rows_next t a b c states mid after rows numbers k first second =
    rw (rows-more rows numbers k) (writes_append t a b c states mid after _ _ first second)

-- one that is refused
pub rows_grow : (t : Table) (a b : Writing) (states after : List ℕ) (rows : List ℕ) (numbers : List ℤ) (k n : ℕ) → k < n →
    Writes t a states b after (rows_steps rows numbers k) → Grows t b.interval after (row_steps rows numbers k) →
    Grows t a.interval states (rows_steps rows numbers n)
rows_grow t a b states after rows numbers k n inside writes grows =
    let on = rows_on rows numbers (k + 1) (n - (k + 1)) in
    let all : k + 1 + (n - (k + 1)) ≡ n = omega arith in
    let split = rw all at on.1 in
    rw (split, rows-more rows numbers k)
    (grows_first t a.interval states (rows_steps rows numbers k ++ row_steps rows numbers k) on.0
    (grows_second t a b states after (rows_steps rows numbers k) (row_steps rows numbers k) writes grows))

-- how many decisions 1 there are, and how many decisions, with a symbol more
pub rows_ones : (rows : List ℕ) (numbers : List ℤ) (k ones more : ℕ) → ones ≡ ones_in (rows_steps rows numbers k) →
    more ≡ ones_in (signed_steps (slice_index_or numbers k (pos 0))) → ones + more ≡ ones_in (rows_steps rows numbers (k + 1))
rows_ones rows numbers k ones more is next =
    rw (rows-more rows numbers k, ones_in-append (rows_steps rows numbers k) (row_steps rows numbers k), shifted_ones, is, next) refl

pub rows_length : (rows : List ℕ) (numbers : List ℤ) (k long more : ℕ) → long ≡ length (rows_steps rows numbers k) →
    more ≡ length (signed_steps (slice_index_or numbers k (pos 0))) → long + more ≡ length (rows_steps rows numbers (k + 1))
rows_length rows numbers k long more is next =
    rw (rows-more rows numbers k, length-append (rows_steps rows numbers k) (row_steps rows numbers k), length-shifted, is, next) refl
