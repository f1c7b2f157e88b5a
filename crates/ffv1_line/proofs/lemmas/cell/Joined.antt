-- Rows one after the other.
use Rattle.std.proofs.Common.{◌≡◌, refl, ℕ, ◌+◌, ◌*◌, ◌<◌, ◌≤◌, List, [], ◌∷◌, ◌++◌, length, arith, ap, sym, ◌∙◌, suc, append_assoc, append-nil, ℤ}
use Rattle.ffv1_range.specs.Table.{Table}
use Rattle.ffv1_range.specs.Writing.{Writing}
use Rattle.ffv1_range.specs.Puts.{Puts}
use Rattle.ffv1_range.specs.Symbols.{Step, shifted, signed_steps}
use Rattle.ffv1_range.specs.History.{AreBelow}
use Rattle.ffv1_range.proofs.Steps.{follows_append, puts_append}
use Rattle.ffv1_range.proofs.Windows.{signed_below, AreBelow-append}
use Rattle.ffv1_plane.specs.declared.prediction.Around.{Around}
use Rattle.ffv1_plane.specs.Quantisation.{Set, contexts_of}
use Rattle.ffv1_plane.specs.Context.{size_of}
use Rattle.ffv1_line.specs.Cell.{Cell, around}
use Rattle.ffv1_line.specs.Row.{AreSuiting, row_steps, cell_steps}
use Rattle.ffv1_line.specs.Decoded.{RowRead, Rows, RowsSuit}
use Rattle.ffv1_line.specs.Coding.{RowCoding}
use Rattle.ffv1_line.specs.Coder.{Decoder}

cell_steps-at : (set : Set) (c : Cell) (y n : ℕ) (rows : List (List ℤ)) (qs : List ℤ) → n ≡ y + length rows →
    cell_steps set c y (rows ++ (qs ∷ [])) ≡ cell_steps set c y rows ++ row_steps set c n 0 qs
cell_steps-at set c y n [] qs is =
    let same : n ≡ y = omega arith in
    rw same (append-nil (row_steps set c y 0 qs))
cell_steps-at set c y n (ps ∷ rows) qs is =
    let rest = cell_steps-at set c (suc y) n rows qs (omega arith) in
    ap (λ l. row_steps set c y 0 ps ++ l) rest ∙ sym (append_assoc (row_steps set c y 0 ps) (cell_steps set c (suc y) rows) (row_steps set c n 0 qs))

pub cell_steps-append : (set : Set) (c : Cell) (y : ℕ) (rows : List (List ℤ)) (qs : List ℤ) →
    cell_steps set c y (rows ++ (qs ∷ [])) ≡ cell_steps set c y rows ++ row_steps set c (y + length rows) 0 qs
cell_steps-append set c y rows qs = cell_steps-at set c y (y + length rows) rows qs refl

pub rows_suit-append : (set : Set) (bits : ℕ) (c : Cell) (y n : ℕ) (rows : List (List ℤ)) (qs : List ℤ) → n ≡ y + length rows → length qs ≡ c.width →
    RowsSuit set bits c y rows → AreSuiting set bits c n 0 qs → RowsSuit set bits c y (rows ++ (qs ∷ []))
rows_suit-append set bits c y n [] qs is long are one =
    let same : n ≡ y = omega arith in
    (long, rw same at one, tt)
rows_suit-append set bits c y n (ps ∷ rows) qs is long are one = (are.0, are.1, rows_suit-append set bits c (suc y) n rows qs (omega arith) long are.2 one)

pub rows_next : (coding : RowCoding) (a b d : Decoder) (c : Cell) (rows : List (List ℤ)) (qs : List ℤ) →
    Rows coding a b c rows → length qs ≡ c.width → RowRead coding b d qs c (length rows) → Rows coding a d c (rows ++ (qs ∷ []))
rows_next coding a b d c rows qs read long coded = record {
  suits = rows_suit-append coding.set coding.bits c 0 (length rows) rows qs (omega arith) long read.suits coded.suits;
  follows = rw (cell_steps-at coding.set c 0 (length rows) rows qs (omega arith)) (follows_append _ _ _ _ _ _ _ _ _ read.follows coded.follows);
}

pub puts_next : (t : Table) (set : Set) (a b d : Writing) (states between after : List ℕ) (c : Cell) (rows : List (List ℤ)) (qs : List ℤ) →
    Puts t a states b between (cell_steps set c 0 rows) → Puts t b between d after (row_steps set c (length rows) 0 qs) → Puts t a states d after (cell_steps set c 0 (rows ++ (qs ∷ [])))
puts_next t set a b d states between after c rows qs wrote next =
    rw (cell_steps-at set c 0 (length rows) rows qs (omega arith)) (puts_append _ _ _ _ _ _ _ _ _ wrote next)

pub shifted_below : (base count limit : ℕ) (steps : List Step) → base + count ≤ limit → AreBelow steps count → AreBelow (shifted base steps) limit
shifted_below base count limit [] fits below = tt
shifted_below base count limit (s ∷ ss) fits below =
    let first = below.0 in
    (omega arith, shifted_below base count limit ss fits below.1)

pub row_below : (set : Set) (c : Cell) (y x : ℕ) (qs : List ℤ) → ((a : Around) → size_of set a < contexts_of set) → AreBelow (row_steps set c y x qs) (contexts_of set * 32)
row_below set c y x [] bound = tt
row_below set c y x (q ∷ qs) bound =
    let first = bound (around c x y) in
    AreBelow-append (shifted (size_of set (around c x y) * 32) (signed_steps q)) (row_steps set c y (suc x) qs) (contexts_of set * 32)
    (shifted_below (size_of set (around c x y) * 32) 32 (contexts_of set * 32) (signed_steps q) (omega arith) (signed_below q))
    (row_below set c y (suc x) qs bound)
