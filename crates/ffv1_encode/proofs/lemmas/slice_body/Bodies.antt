-- Lines of a slice that are put one after the other.
use Rattle.std.proofs.Common.{◌≡◌, refl, ℕ, zero, suc, ◌+◌, Bool, true, false, if◌then◌else◌, List, [], ◌∷◌, ◌++◌, length, replicate, sym, ◌∙◌, ap, arith, subst, append_assoc, append-nil, map-id}
use Rattle.std.specs.List.{flat_map, range_with_len}
use Rattle.std.proofs.lemmas.Grind.{flat_map-append}
use Rattle.std.proofs.lemmas.List.{length-replicate}
use Rattle.std.proofs.lemmas.List.FromFn.{map-range_with_len_more}
use Rattle.std.specs.declared.vec.Vec.{Vec}
use Rattle.ffv1_range.specs.Table.{Table}
use Rattle.ffv1_range.specs.Writing.{Writing}
use Rattle.ffv1_range.specs.Symbols.{Step, shifted}
use Rattle.ffv1_range.proofs.Parts.{shifted-append}
use Rattle.ffv1_line.specs.Cell.{Cell, Above, Shows}
use Rattle.ffv1_line.specs.Row.{row_steps, chosen_row, cell_steps, chosen_rows}
use Rattle.ffv1_line.proofs.lemmas.cell.Cells.{cell_more}
use Rattle.ffv1_line.specs.declared.cell.rows.RollingRows.{RollingRows}
use Rattle.ffv1_record.specs.Configuration.{Configuration, is_rct}
use Rattle.ffv1_slice.specs.declared.head.SliceHead.{SliceHead}
use Rattle.ffv1_frame.specs.Picture.{plane_count, cell_height}
use Rattle.ffv1_frame.specs.SliceList.{Line, base_of, set_in, bits_of, lines_of_plane, planes_of_line, lines_in, chosen_line, chosen_body}
use Rattle.ffv1_encode.specs.Internal.HasPut.{HasPut, PutsAfter}
use Rattle.ffv1_encode.specs.Internal.CellRows.{Rolled, Loaded, fourth_line}
use Rattle.ffv1_slice.specs.Grid.{planes_in}

pub puts_none : (t : Table) (w : Writing) (states : List ℕ) → PutsAfter t w states w states []
puts_none t w states = record { behind = λ past behind. subst (λ ss. HasPut t ss w states) (sym (append-nil past)) behind }

pub puts_then : (t : Table) (a b d : Writing) (ss ts us : List ℕ) (xs ys : List Step) → PutsAfter t a ss b ts xs → PutsAfter t b ts d us ys → PutsAfter t a ss d us (xs ++ ys)
puts_then t a b d ss ts us xs ys first second = record {
  behind = λ past behind. subst (λ zs. HasPut t zs d us) (append_assoc past xs ys) (second.behind (past ++ xs) (first.behind past behind));
}

-- the steps of lines in two parts
pub body_append : (c : Configuration) (h : SliceHead) (cell : ℕ → Cell) (ls ms : List Line) → chosen_body c h cell (ls ++ ms) ≡ chosen_body c h cell ls ++ chosen_body c h cell ms
body_append c h cell ls ms = flat_map-append (chosen_line c h cell) ls ms

pub body_one : (c : Configuration) (h : SliceHead) (cell : ℕ → Cell) (l : Line) → chosen_line c h cell l ≡ chosen_body c h cell (l ∷ [])
body_one c h cell l = sym (append-nil (chosen_line c h cell l))

-- one line more
pub lines_more : (p y : ℕ) → lines_of_plane (y + 1) p ≡ lines_of_plane y p ++ (record { plane = p; y = y } ∷ [])
lines_more p y = map-range_with_len_more (λ k. let l : Line = record { plane = p; y = k } in l) 0 y y (omega arith)

pub plane_is : (c : Configuration) (h : SliceHead) (cell : ℕ → Cell) (p n : ℕ) →
    chosen_body c h cell (lines_of_plane n p) ≡ shifted (base_of c p) (cell_steps (set_in c h p) (cell p) 0 (chosen_rows (set_in c h p) (bits_of c) (cell p) n))
unfolding chosen_rows
plane_is c h cell p zero = refl
plane_is c h cell p (suc n) =
    let set = set_in c h p in
    let bits = bits_of c in
    let base = base_of c p in
    let l : Line = record { plane = p; y = n } in
    let more : suc n ≡ n + 1 = omega arith in
    let before : List Step = cell_steps set (cell p) 0 (chosen_rows set bits (cell p) n) in
    let row : List Step = row_steps set (cell p) n 0 (chosen_row set bits (cell p) n (cell p).width) in
    ap (λ k. chosen_body c h cell (lines_of_plane k p)) more ∙ ap (chosen_body c h cell) (lines_more p n) ∙ body_append c h cell (lines_of_plane n p) (l ∷ [])
    ∙ ap (λ z. z ++ chosen_body c h cell (l ∷ [])) (plane_is c h cell p n) ∙ ap (λ z. shifted base before ++ z) (sym (body_one c h cell l)) ∙ sym (shifted-append base before row)
    ∙ ap (shifted base) (sym (cell_more set bits (cell p) n)) ∙ ap (λ k. shifted base (cell_steps set (cell p) 0 (chosen_rows set bits (cell p) k))) (sym more)

-- one part more
pub range_more : (n : ℕ) → range_with_len 0 (n + 1) ≡ range_with_len 0 n ++ (n ∷ [])
range_more n = sym (map-id (range_with_len 0 (n + 1))) ∙ map-range_with_len_more (λ k. k) 0 n n (omega arith) ∙ ap (λ z. z ++ (n ∷ [])) (map-id (range_with_len 0 n))

pub parts_next : (t : Table) (a b d : Writing) (ss ts us : List ℕ) (c : Configuration) (h : SliceHead) (cell : ℕ → Cell) (f : ℕ → List Line) (n : ℕ) →
    PutsAfter t a ss b ts (chosen_body c h cell (flat_map f (range_with_len 0 n))) → PutsAfter t b ts d us (chosen_body c h cell (f n)) →
    PutsAfter t a ss d us (chosen_body c h cell (flat_map f (range_with_len 0 (n + 1))))
parts_next t a b d ss ts us c h cell f n first second =
    let before = flat_map f (range_with_len 0 n) in
    let more : flat_map f (range_with_len 0 (n + 1)) ≡ before ++ f n =
    ap (flat_map f) (range_more n) ∙ flat_map-append f (range_with_len 0 n) (n ∷ []) ∙ ap (λ z. before ++ z) (append-nil (f n)) in
    let same : chosen_body c h cell before ++ chosen_body c h cell (f n) ≡ chosen_body c h cell (flat_map f (range_with_len 0 (n + 1))) =
    sym (body_append c h cell before (f n)) ∙ ap (chosen_body c h cell) (sym more) in
    subst (PutsAfter t a ss d us) same (puts_then t a b d ss ts us _ _ first second)

-- all lines of a slice
pub planes_in_order : (c : Configuration) (n : ℕ) → is_rct c.colour ≡ false → flat_map (λ p. lines_of_plane (cell_height c n p) p) (range_with_len 0 (plane_count c)) ≡ lines_in c n
planes_in_order c n plain =
    ap (λ k. if k then flat_map (planes_of_line (plane_count c)) (range_with_len 0 (cell_height c n 0)) else flat_map (λ p. lines_of_plane (cell_height c n p) p) (range_with_len 0 (plane_count c))) (sym plain)

pub lines_in_order : (c : Configuration) (n : ℕ) → is_rct c.colour ≡ true → flat_map (planes_of_line (plane_count c)) (range_with_len 0 (cell_height c n 0)) ≡ lines_in c n
lines_in_order c n rct =
    ap (λ k. if k then flat_map (planes_of_line (plane_count c)) (range_with_len 0 (cell_height c n 0)) else flat_map (λ p. lines_of_plane (cell_height c n p) p) (range_with_len 0 (plane_count c))) (sym rct)

-- at a cell's top
pub rolled_top : {W A : Type 0} (samples : List W → List ℕ) (c : Cell) (width : ℕ) (rows : RollingRows (Vec W A)) → ((d : Cell) → Above d 0 (replicate d.width 0) (replicate d.width 0)) → width ≡ c.width →
    samples rows.two.items ≡ replicate width 0 → samples rows.one.items ≡ replicate width 0 → samples rows.cur.items ≡ replicate width 0 → Rolled samples c 0 rows
rolled_top samples c width rows top wide two one cur = record {
  above = rw (two, one, wide) (top c);
  two_long = ap length two ∙ length-replicate {A = ℕ} width 0 ∙ wide;
  cur_long = ap length cur ∙ length-replicate {A = ℕ} width 0 ∙ wide;
}

-- from a row to the next
pub rolled_next : {W A : Type 0} (samples : List W → List ℕ) (c : Cell) (y : ℕ) (old new : RollingRows (Vec W A)) →
    ((d : Cell) (z : ℕ) (two one cur : List ℕ) → Above d z two one → length cur ≡ d.width → Shows d (z + 2) cur d.width → Above d (z + 1) one cur) →
    Loaded samples c y old → new.two ≡ old.one → new.one ≡ old.cur → new.cur ≡ old.two → Rolled samples c (y + 1) new
rolled_next samples c y old new next loaded two one cur =
    let more : suc (suc y) ≡ y + 2 = omega arith in
    let shows : Shows c (y + 2) (samples old.cur.items) c.width = subst (λ k. Shows c k (samples old.cur.items) c.width) more loaded.shows in
    rw (two, one, cur) (record {
      above = next c y (samples old.two.items) (samples old.one.items) (samples old.cur.items) loaded.above loaded.cur_long shows;
      two_long = loaded.above.wide;
      cur_long = loaded.two_long;
    })

-- the planes of a line of RCT
pub colours_of_line : (chroma extra : Bool) (y : ℕ) → chroma ≡ true →
    planes_of_line (planes_in chroma extra) y ≡ (record { plane = 0; y = y }) ∷ (record { plane = 1; y = y }) ∷ (record { plane = 2; y = y }) ∷ fourth_line extra y
colours_of_line true true y is = refl
colours_of_line true false y is = refl
colours_of_line false extra y is = cc
