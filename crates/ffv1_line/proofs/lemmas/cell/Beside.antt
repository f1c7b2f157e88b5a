-- The neighbours of a sample by the row are those of the cell, and blocks of places make a row.
use Rattle.std.proofs.Common.{inl, inr, ◌≡◌, refl, ℕ, zero, suc, ◌+◌, ◌-◌, ◌*◌, ◌<◌, ◌≤◌, min, List, [], ◌++◌, length, get_or, arith, ap, sym, subst, ◌≢◌, slice_set, get_or-set_same, get_or-set_other, below_more, ◌∙◌, append_assoc, Bool, append-nil, ℤ, pos, unsigned_abs, ◌^◌}
use Rattle.std.specs.Prelude.{slice_index_or}
use Rattle.ffv1_range.specs.Rows.{rows_steps}
use Rattle.std.proofs.lemmas.Bool.{cases_lt}
use Rattle.ffv1_range.specs.Table.{Table}
use Rattle.ffv1_range.specs.Symbols.{Step, shifted, signed_steps}
use Rattle.ffv1_range.specs.History.{AreBelow}
use Rattle.ffv1_range.specs.Listed.{of_nine_bits}
use Rattle.ffv1_range.specs.Writing.{Writing}
use Rattle.ffv1_range.specs.Puts.{Puts, MayBeRefused}
use Rattle.ffv1_range.specs.Counts.{Counts, Counted}
use Rattle.ffv1_range.proofs.Counting.{counted_none, counted_append}
use Rattle.ffv1_range.proofs.Steps.{puts_append}
use Rattle.ffv1_range.proofs.Growth.{refused_first, refused_second}
use Rattle.ffv1_range.proofs.Windows.{signed_below, AreBelow-append}
use Rattle.ffv1_line.proofs.lemmas.cell.Joined.{shifted_below}
use Rattle.ffv1_plane.specs.declared.prediction.Around.{Around}
use Rattle.ffv1_plane.specs.Prediction.{predicted_in}
use Rattle.ffv1_plane.specs.Quantisation.{Set, contexts_of}
use Rattle.ffv1_plane.specs.Context.{size_of, flip_of}
use Rattle.ffv1_plane.specs.Residual.{chosen_of, IsFolded}
use Rattle.ffv1_plane.proofs.Folding.{chosen_folded}
use Rattle.ffv1_line.specs.Cell.{Cell, seen, around, Shows, Above}
use Rattle.ffv1_line.specs.Internal.Along.{Left}
use Rattle.ffv1_line.specs.Internal.Parts.{ArePrepared, HaveContexts, HaveResiduals, part_steps, residual_by, residual_limit}
use Rattle.ffv1_line.specs.Row.{chosen_at, chosen_row, row_steps, sample_steps}
use Rattle.ffv1_line.specs.Encoded.{Written, MayBeRefusedRow, CountsFirst}
use Rattle.ffv1_line.specs.Beside.{before, two_before, beside, chosen_beside, place_steps, places_steps}
use Rattle.ffv1_line.proofs.lemmas.cell.Rows.{around_is, scalars, seen_border, seen_far, row_steps-append, chosen-more, length-chosen, written_none}
use Rattle.ffv1_line.specs.Coding.{RowCoding}
use Rattle.ffv1_line.specs.Coder.{Encoder}
use Rattle.ffv1_line.specs.Above.{RowsAbove}
use Rattle.ffv1_line.specs.declared.encode.part.Part.{Part}

-- ---- neighbours

pub before_seen : (c : Cell) (y : ℕ) (above row : List ℕ) (x n : ℕ) → x ≤ n → 0 < c.width → Shows c (suc y) row n → Shows c y above c.width → before above row x ≡ seen c (suc x) (suc y)
before_seen c y above row zero n inside some shows top = top.each 0 some ∙ sym (seen_border c y)
before_seen c y above row (suc x) n inside some shows top = shows.each x (omega arith)

pub two_before_seen : (c : Cell) (y : ℕ) (above row : List ℕ) (x n : ℕ) → x ≤ n → 0 < c.width → Shows c (suc y) row n → Shows c y above c.width → two_before above row x ≡ seen c x (suc y)
two_before_seen c y above row zero n inside some shows top = sym (seen_far c (suc y))
two_before_seen c y above row (suc x) n inside some shows top = before_seen c y above row x n (omega arith) some shows top

pub beside_is : (c : Cell) (y x : ℕ) (two one cur : List ℕ) → x < length one → Above c y two one → Shows c (suc (suc y)) cur x → beside two one cur x ≡ around c x y
beside_is c y x two one cur inside above shows =
    let some : 0 < c.width = omega (arith, above.wide) in
    let left : Left c y x (two_before one cur x) (before one cur x) (before two one x) (get_or one x 0) = record {
      ll_is = two_before_seen c (suc y) one cur x x (omega arith) some shows above.first;
      l_is = before_seen c (suc y) one cur x x (omega arith) some shows above.first;
      tl_is = before_seen c y two one x c.width (omega (arith, above.wide)) some above.first above.second;
      t_is = above.first.each x (omega (arith, above.wide));
    } in
    around_is c y x two one (min (x + 1) (length one - 1)) (two_before one cur x) (before one cur x) (before two one x) (get_or one x 0) refl inside above left

-- ---- blocks

pub places-none : (set : Set) (bits : ℕ) (two one cur : List ℕ) (from : ℕ) → places_steps set bits two one cur from 0 ≡ []
unfolding places_steps
places-none set bits two one cur from = refl

pub places-more : (set : Set) (bits : ℕ) (two one cur : List ℕ) (from n : ℕ) → places_steps set bits two one cur from (n + 1) ≡
    places_steps set bits two one cur from n ++ place_steps set bits two one cur (from + n)
unfolding places_steps
places-more set bits two one cur from n =
    let up : n + 1 ≡ suc n = omega arith in
    rw up refl

-- the row's decisions up to a block, and the block's
pub row_joined : (set : Set) (bits : ℕ) (c : Cell) (y : ℕ) (two one cur : List ℕ) (from n : ℕ) → from + n ≤ length one → Above c y two one → Shows c (suc (suc y)) cur (from + n) →
    row_steps set c y 0 (chosen_row set bits c y (from + n)) ≡ row_steps set c y 0 (chosen_row set bits c y from) ++ places_steps set bits two one cur from n
unfolding places_steps
row_joined set bits c y two one cur from zero inside above shows =
    let same : from + 0 ≡ from = omega arith in
    ap (λ k. row_steps set c y 0 (chosen_row set bits c y k)) same ∙ sym (append-nil (row_steps set c y 0 (chosen_row set bits c y from)))
row_joined set bits c y two one cur from (suc n) inside above shows =
    let x = from + n in
    let up : from + suc n ≡ from + n + 1 = omega arith in
    let fewer : Shows c (suc (suc y)) cur x = record { each = λ k h. shows.each k (omega arith) } in
    let rest = row_joined set bits c y two one cur from n (omega arith) above fewer in
    let is = beside_is c y x two one cur (omega arith) above fewer in
    let sample : get_or cur x 0 ≡ seen c (suc (suc x)) (suc (suc y)) = shows.each x (omega arith) in
    let here : place_steps set bits two one cur x ≡ sample_steps set (around c x y) (chosen_at set bits c y x) =
    ap (λ (a : Around). sample_steps set a (chosen_of bits (predicted_in bits a) (flip_of set a) (get_or cur x 0))) is
    ∙ ap (λ s. sample_steps set (around c x y) (chosen_of bits (predicted_in bits (around c x y)) (flip_of set (around c x y)) s)) sample in
    let all = row_steps-append set c y 0 x (chosen_row set bits c y x) (chosen_at set bits c y x) (omega (arith, length-chosen set bits c y x)) in
    ap (λ k. row_steps set c y 0 (chosen_row set bits c y k)) up ∙ ap (row_steps set c y 0) (chosen-more set bits c y x) ∙ all
    ∙ ap (λ l. l ++ sample_steps set (around c x y) (chosen_at set bits c y x)) rest
    ∙ append_assoc (row_steps set c y 0 (chosen_row set bits c y from)) (places_steps set bits two one cur from n) (sample_steps set (around c x y) (chosen_at set bits c y x))
    ∙ ap (λ l. row_steps set c y 0 (chosen_row set bits c y from) ++ (places_steps set bits two one cur from n ++ l)) (sym here)

shows_fewer : (c : Cell) (y m n : ℕ) (cur : List ℕ) → m ≤ n → Shows c y cur n → Shows c y cur m
shows_fewer c y m n cur less shows = record { each = λ k h. shows.each k (omega arith) }

-- a block more is written
pub written_block : (coding : RowCoding) (old mid new : Encoder) (over : RowsAbove) (cur : List ℕ) (from n : ℕ) →
    from + n ≤ length over.one → Written coding old mid over cur from → Puts coding.table mid.writing mid.states new.writing new.states (places_steps coding.set coding.bits over.two over.one cur from n) →
    Written coding old new over cur (from + n)
written_block coding old mid new over cur from n inside written puts = record {
  puts = λ c y above shows.
      rw (row_joined coding.set coding.bits c y over.two over.one cur from n inside above shows)
      (puts_append coding.table old.writing mid.writing new.writing old.states mid.states new.states (row_steps coding.set c y 0 (chosen_row coding.set coding.bits c y from)) (places_steps coding.set coding.bits over.two over.one cur from n)
      (written.puts c y above (shows_fewer c (suc (suc y)) from (from + n) cur (omega arith) shows)) puts);
}

-- a block that may be refused, in a row
pub refused_block : (coding : RowCoding) (old mid : Encoder) (over : RowsAbove) (cur : List ℕ) (from n : ℕ) →
    from + n ≤ length cur → length over.one ≡ length cur → Written coding old mid over cur from → MayBeRefused coding.table mid.writing mid.states (places_steps coding.set coding.bits over.two over.one cur from n) →
    MayBeRefusedRow coding old over cur (length cur)
refused_block coding old mid over cur from n inside same written refused = record {
  may = λ c y above shows.
      let rest = length cur - (from + n) in
      let all : length cur ≡ from + n + rest = omega arith in
      let fewer = shows_fewer c (suc (suc y)) (from + n) (length cur) cur inside shows in
      let here : MayBeRefused coding.table old.writing old.states (row_steps coding.set c y 0 (chosen_row coding.set coding.bits c y (from + n))) =
      rw (row_joined coding.set coding.bits c y over.two over.one cur from n (omega arith) above fewer)
      (refused_second coding.table old.writing mid.writing old.states mid.states (row_steps coding.set c y 0 (chosen_row coding.set coding.bits c y from)) (places_steps coding.set coding.bits over.two over.one cur from n)
      (written.puts c y above (shows_fewer c (suc (suc y)) from (length cur) cur (omega arith) shows)) refused) in
      let whole = row_joined coding.set coding.bits c y over.two over.one cur (from + n) rest (omega arith) above (subst (Shows c (suc (suc y)) cur) all shows) in
      rw (all, whole) (refused_first coding.table old.writing old.states (row_steps coding.set c y 0 (chosen_row coding.set coding.bits c y (from + n))) (places_steps coding.set coding.bits over.two over.one cur (from + n) rest) here);
}

-- the counters after a row up to a block, and the block's first places
pub counts_block : (coding : RowCoding) (old mid : Encoder) (new : Counts) (over : RowsAbove) (cur : List ℕ) (from n : ℕ) →
    from + n < length cur → length over.one ≡ length cur → Written coding old mid over cur from → Counted mid.writing.counts (places_steps coding.set coding.bits over.two over.one cur from n) new →
    CountsFirst coding old.writing.counts new over cur
counts_block coding old mid new over cur from n inside same written counted = record {
  first = from + n;
  few = inside;
  counted = λ c y above shows.
      rw (row_joined coding.set coding.bits c y over.two over.one cur from n (omega (arith, inside, same)) above shows)
      (counted_append old.writing.counts mid.writing.counts new (row_steps coding.set c y 0 (chosen_row coding.set coding.bits c y from)) (places_steps coding.set coding.bits over.two over.one cur from n)
      (written.puts c y above (shows_fewer c (suc (suc y)) from (from + n) cur (omega arith) shows)).counts counted);
}

-- none of its places
pub counts_no_places : (set : Set) (bits : ℕ) (two one cur : List ℕ) (from : ℕ) (old new : Counts) → new ≡ old → Counted old (places_steps set bits two one cur from 0) new
counts_no_places set bits two one cur from old new same = subst (λ k. Counted old (places_steps set bits two one cur from 0) k) (sym same) (rw (places-none set bits two one cur from) (counted_none old))

-- and none of a row
pub counts_nothing : (coding : RowCoding) (old : Encoder) (new : Counts) (over : RowsAbove) (cur : List ℕ) → 0 < length cur → length over.one ≡ length cur → new ≡ old.writing.counts →
    CountsFirst coding old.writing.counts new over cur
counts_nothing coding old new over cur some same kept =
    counts_block coding old old new over cur 0 0 (omega (arith, some)) same (written_none coding old over cur) (counts_no_places coding.set coding.bits over.two over.one cur 0 old.writing.counts new kept)

-- ---- slots

-- a symbol more of a block
pub listed_next : {A : Type 0} (p : Part A) (n k context residual : ℕ) (xs ys : List ℕ) → residual_by p.bits (get_or ys k 0) ≡ of_nine_bits residual → ArePrepared p n xs ys → k < n →
    context ≡ get_or xs k 0 → (done : List Step) → done ≡ part_steps p k ++ shifted (context * 32) (signed_steps (of_nine_bits residual)) →
    done ≡ part_steps p (k + 1)
listed_next p n k context residual xs ys nine is inside x done steps =
    let size = x ∙ is.context k inside in
    let chosen = sym nine ∙ is.residual k inside in
    steps ∙ ap (λ j. part_steps p k ++ shifted (j * 32) (signed_steps (of_nine_bits residual))) size
    ∙ ap (λ q. part_steps p k ++ shifted (size_of p.set.now (beside p.two.now p.one.now p.cur.now (p.from + k)) * 32) (signed_steps q)) chosen
    ∙ sym (places-more p.set.now p.bits p.two.now p.one.now p.cur.now p.from k)

pub below_next : (count context residual : ℕ) (done before : List Step) → context < count → AreBelow before (count * 32) →
    done ≡ before ++ shifted (context * 32) (signed_steps (of_nine_bits residual)) → AreBelow done (count * 32)
below_next count context residual done before few below steps =
    rw steps (AreBelow-append before (shifted (context * 32) (signed_steps (of_nine_bits residual))) (count * 32) below
    (shifted_below (context * 32) 32 (count * 32) (signed_steps (of_nine_bits residual)) (omega arith) (signed_below (of_nine_bits residual))))

-- ---- a sample more of a block

pub beside_by : (two one cur : List ℕ) (x last ll l tl tr : ℕ) → last ≡ length one - 1 → ll ≡ two_before one cur x → l ≡ before one cur x → tl ≡ before two one x → tr ≡ get_or one (min (x + 1) last) 0 →
    scalars l (get_or one x 0) tl tr ll (get_or two x 0) ≡ beside two one cur x
beside_by two one cur x last ll l tl tr end far left top right =
    let right = rw end at right in
    rw (far, left, top, right) refl

pub before_next : (above row : List ℕ) (from k : ℕ) → get_or row (from + k) 0 ≡ before above row (from + (k + 1))
before_next above row from k =
    let up : from + (k + 1) ≡ suc (from + k) = omega arith in
    ap (before above row) (sym up)

pub two_before_next : (above row : List ℕ) (from k l : ℕ) → l ≡ before above row (from + k) → l ≡ two_before above row (from + (k + 1))
two_before_next above row from k l is =
    let up : from + (k + 1) ≡ suc (from + k) = omega arith in
    is ∙ ap (two_before above row) (sym up)

pub block_next : {A : Type 0} (p : Part A) (n size residual : ℕ) (xs ys : List ℕ) → ArePrepared p n xs ys → n < length xs → n < length ys →
    size ≡ size_of p.set.now (beside p.two.now p.one.now p.cur.now (p.from + n)) → size < contexts_of p.set.now → residual_by p.bits residual ≡ chosen_beside p.set.now p.bits p.two.now p.one.now p.cur.now (p.from + n) → residual < residual_limit p.bits →
    ArePrepared p (n + 1) (slice_set xs n size) (slice_set ys n residual)
block_next p n size residual xs ys is in_xs in_ys context few chosen small = record {
  context = below_more (λ k. get_or (slice_set xs n size) k 0 ≡ size_of p.set.now (beside p.two.now p.one.now p.cur.now (p.from + k))) n
      (λ k h. let other : k ≢ n = omega arith in get_or-set_other xs n k size 0 other ∙ is.context k h) (get_or-set_same xs n size 0 in_xs ∙ context);
  few = below_more (λ k. get_or (slice_set xs n size) k 0 < contexts_of p.set.now) n
      (λ k h. let other : k ≢ n = omega arith in rw get_or-set_other (is.few k h)) (rw (get_or-set_same xs n size 0 in_xs) few);
  residual = below_more (λ k. residual_by p.bits (get_or (slice_set ys n residual) k 0) ≡ chosen_beside p.set.now p.bits p.two.now p.one.now p.cur.now (p.from + k)) n
      (λ k h. let other : k ≢ n = omega arith in ap (residual_by p.bits) (get_or-set_other ys n k residual 0 other) ∙ is.residual k h) (ap (residual_by p.bits) (get_or-set_same ys n residual 0 in_ys) ∙ chosen);
  small = below_more (λ k. get_or (slice_set ys n residual) k 0 < residual_limit p.bits) n
      (λ k h. let other : k ≢ n = omega arith in rw get_or-set_other (is.small k h)) (rw (get_or-set_same ys n residual 0 in_ys) small);
}

pub folded_by : (bits : ℕ) (p : ℤ) (flip : Bool) (s : ℕ) (q : ℤ) → 0 < bits → q ≡ chosen_of bits p flip s → IsFolded bits q
folded_by bits p flip s q some is = subst (IsFolded bits) (sym is) (chosen_folded bits p flip s some)

-- a block's decisions begin with those of its first places
pub places_begin : (set : Set) (bits : ℕ) (two one cur : List ℕ) (from n m : ℕ) → n ≤ m →
    (rest : List Step) × (places_steps set bits two one cur from m ≡ places_steps set bits two one cur from n ++ rest)
places_begin set bits two one cur from n zero inside =
    let none : n ≡ 0 = omega arith in
    ([], rw none (sym (append-nil _)))
places_begin set bits two one cur from n (suc m) inside = elim (cases_lt m n) [
  | inl less ↦
      let same : n ≡ suc m = omega arith in
      ([], rw same (sym (append-nil _)))
  | inr more ↦
      let shorter = places_begin set bits two one cur from n m more in
      let up : suc m ≡ m + 1 = omega arith in (
        shorter.0 ++ place_steps set bits two one cur (from + m),
        ap (places_steps set bits two one cur from) up ∙ places-more set bits two one cur from m ∙ ap (λ l. l ++ place_steps set bits two one cur (from + m)) shorter.1
            ∙ append_assoc (places_steps set bits two one cur from n) shorter.0 (place_steps set bits two one cur (from + m)),
      )
]

-- a refusal at a sample is one of its block
pub refused_place : (t : Table) (a b : Writing) (states after : List ℕ) (set : Set) (bits : ℕ) (two one cur : List ℕ) (from k n : ℕ) → k < n →
    Puts t a states b after (places_steps set bits two one cur from k) → MayBeRefused t b after (place_steps set bits two one cur (from + k)) →
    MayBeRefused t a states (places_steps set bits two one cur from n)
refused_place t a b states after set bits two one cur from k n inside puts refused =
    let all = places_begin set bits two one cur from (k + 1) n (omega arith) in
    rw (all.1, places-more set bits two one cur from k)
    (refused_first t a states (places_steps set bits two one cur from k ++ place_steps set bits two one cur (from + k)) all.0
    (refused_second t a b states after (places_steps set bits two one cur from k) (place_steps set bits two one cur (from + k)) puts refused))

-- the symbol of a sample of a block
pub place_is : {A : Type 0} (p : Part A) (n k : ℕ) (xs ys : List ℕ) (v : ℤ) → ArePrepared p n xs ys → k < n → v ≡ residual_by p.bits (get_or ys k 0) →
    shifted (get_or xs k 0 * 32) (signed_steps v) ≡ place_steps p.set.now p.bits p.two.now p.one.now p.cur.now (p.from + k)
place_is p n k xs ys v is inside value =
    ap (λ j. shifted (j * 32) (signed_steps v)) (is.context k inside)
    ∙ ap (λ q. shifted (size_of p.set.now (beside p.two.now p.one.now p.cur.now (p.from + k)) * 32) (signed_steps q)) (value ∙ is.residual k inside)

-- the symbols of places in the rows of their contexts
pub rows_are : (set : Set) (bits : ℕ) (two one cur : List ℕ) (from : ℕ) (rows : List ℕ) (numbers : List ℤ) (n : ℕ) →
    ((k : ℕ) → k < n → get_or rows k 0 ≡ size_of set (beside two one cur (from + k))) →
    ((k : ℕ) → k < n → slice_index_or numbers k (pos 0) ≡ chosen_beside set bits two one cur (from + k)) →
    rows_steps rows numbers n ≡ places_steps set bits two one cur from n
unfolding rows_steps places_steps
rows_are set bits two one cur from rows numbers zero contexts chosen = refl
rows_are set bits two one cur from rows numbers (suc n) contexts chosen =
    let before = rows_are set bits two one cur from rows numbers n (λ k less. contexts k (omega arith)) (λ k less. chosen k (omega arith)) in
    let v = slice_index_or numbers n (pos 0) in
    let here : shifted (get_or rows n 0 * 32) (signed_steps v) ≡ place_steps set bits two one cur (from + n) =
    ap (λ j. shifted (j * 32) (signed_steps v)) (contexts n (omega arith))
    ∙ ap (λ q. shifted (size_of set (beside two one cur (from + n)) * 32) (signed_steps q)) (chosen n (omega arith)) in
    ap (λ l. l ++ shifted (get_or rows n 0 * 32) (signed_steps v)) before ∙ ap (λ l. places_steps set bits two one cur from n ++ l) here

-- a residual more as a signed number
pub numbered_next : (set : Set) (bits : ℕ) (two one cur : List ℕ) (from : ℕ) (numbers : List ℤ) (n : ℕ) (v : ℤ) → HaveResiduals (λ k. chosen_beside set bits two one cur (from + k)) numbers n → n < length numbers →
    v ≡ chosen_beside set bits two one cur (from + n) → unsigned_abs v < 2 ^ 31 →
    HaveResiduals (λ k. chosen_beside set bits two one cur (from + k)) (slice_set numbers n v) (n + 1)
numbered_next set bits two one cur from numbers n v is inside value small = record {
  number = below_more (λ k. slice_index_or (slice_set numbers n v) k (pos 0) ≡ chosen_beside set bits two one cur (from + k)) n
      (λ k h. let other : k ≢ n = omega arith in get_or-set_other numbers n k v (pos 0) other ∙ is.number k h) (get_or-set_same numbers n v (pos 0) inside ∙ value);
  size = below_more (λ k. unsigned_abs (slice_index_or (slice_set numbers n v) k (pos 0)) < 2 ^ 31) n
      (λ k h. let other : k ≢ n = omega arith in rw (get_or-set_other numbers n k v (pos 0) other) (is.size k h)) (rw (get_or-set_same numbers n v (pos 0) inside) small);
}

-- and its context
pub contexts_next : (set : Set) (two one cur : List ℕ) (from : ℕ) (contexts : List ℕ) (n size : ℕ) → HaveContexts set two one cur from contexts n → n < length contexts →
    size ≡ size_of set (beside two one cur (from + n)) → size < contexts_of set →
    HaveContexts set two one cur from (slice_set contexts n size) (n + 1)
contexts_next set two one cur from contexts n size is inside context few = record {
  context = below_more (λ k. get_or (slice_set contexts n size) k 0 ≡ size_of set (beside two one cur (from + k))) n
      (λ k h. let other : k ≢ n = omega arith in get_or-set_other contexts n k size 0 other ∙ is.context k h) (get_or-set_same contexts n size 0 inside ∙ context);
  few = below_more (λ k. get_or (slice_set contexts n size) k 0 < contexts_of set) n
      (λ k h. let other : k ≢ n = omega arith in rw get_or-set_other (is.few k h)) (rw (get_or-set_same contexts n size 0 inside) few);
}

-- ---- rows of places

one_place : (set : Set) (bits : ℕ) (two one cur : List ℕ) (x : ℕ) → places_steps set bits two one cur x 1 ≡ place_steps set bits two one cur x
one_place set bits two one cur x =
    let same : x + 0 ≡ x = omega arith in
    places-more set bits two one cur x 0 ∙ ap (λ l. l ++ place_steps set bits two one cur (x + 0)) (places-none set bits two one cur x) ∙ ap (place_steps set bits two one cur) same

-- the symbol of a sample by its neighbours
pub placed : (set : Set) (bits : ℕ) (two one cur : List ℕ) (x context : ℕ) (a : Around) (q : ℤ) → a ≡ beside two one cur x → context ≡ size_of set a →
    q ≡ chosen_of bits (predicted_in bits a) (flip_of set a) (get_or cur x 0) → shifted (context * 32) (signed_steps q) ≡ place_steps set bits two one cur x
placed set bits two one cur x context a q is size chosen =
    rw (size, chosen) (ap (λ (a : Around). sample_steps set a (chosen_of bits (predicted_in bits a) (flip_of set a) (get_or cur x 0))) is)

-- a sample more of a row is written
pub written_place : (coding : RowCoding) (old mid new : Encoder) (over : RowsAbove) (cur : List ℕ) (x : ℕ) →
    x < length over.one → Written coding old mid over cur x → Puts coding.table mid.writing mid.states new.writing new.states (place_steps coding.set coding.bits over.two over.one cur x) → Written coding old new over cur (x + 1)
written_place coding old mid new over cur x inside written puts =
    written_block coding old mid new over cur x 1 (omega arith) written (rw (one_place coding.set coding.bits over.two over.one cur x) puts)

-- a sample that may be refused, in a row
pub refused_after : (coding : RowCoding) (old mid : Encoder) (over : RowsAbove) (cur : List ℕ) (x : ℕ) →
    x < length cur → length over.one ≡ length cur → Written coding old mid over cur x → MayBeRefused coding.table mid.writing mid.states (place_steps coding.set coding.bits over.two over.one cur x) →
    MayBeRefusedRow coding old over cur (length cur)
refused_after coding old mid over cur x inside same written refused =
    refused_block coding old mid over cur x 1 (omega arith) same written (rw (one_place coding.set coding.bits over.two over.one cur x) refused)
