-- How many decisions and bytes slices take.
use Rattle.std.proofs.Common.{◌≡◌, refl, ℕ, zero, suc, ◌+◌, ◌-◌, ◌*◌, ◌/◌, ◌%◌, ◌^◌, ◌<◌, ◌≤◌, Bool, true, false, if◌then◌else◌, nat_lt, List, [], ◌∷◌, ◌++◌, length, map, ◌∙◌, ap, arith, length-append}
use Rattle.std.specs.Prelude.{ℤ, unsigned_abs}
use Rattle.std.specs.List.{flat_map, range_with_len}
use Rattle.std.proofs.lemmas.List.FromFn.{length-map-range_with_len, length-range_with_len}
use Rattle.std.proofs.Math.Nat.{mul-le-mul_left}
use Rattle.std.proofs.Math.Pow.{pow_mono}
use Rattle.ffv1_range.specs.Interval.{Interval, Decision, narrow, narrowed, interval_of, start, renormalised, part}
use Rattle.ffv1_range.specs.Symbols.{Step, shifted}
use Rattle.ffv1_range.specs.History.{decisions_after}
use Rattle.ffv1_range.specs.Table.{Table}
use Rattle.ffv1_range.specs.Codes.{digits, raised, sentinel_of}
use Rattle.ffv1_slice.specs.Footer.{foot_length, footer_of}
use Rattle.ffv1_slice.specs.Cutting.{joined_of}
use Rattle.std.specs.Prelude.{sum}
use Rattle.std.proofs.lemmas.List.Sums.{sum_by-cons}
use Rattle.std.proofs.lemmas.List.{length-take-le}
use Rattle.ffv1_plane.specs.Quantisation.{Set}
use Rattle.ffv1_line.specs.Cell.{Cell}
use Rattle.ffv1_line.specs.Row.{row_steps, chosen_row, chosen_rows}
use Rattle.ffv1_line.specs.Length.{decisions_of, row_decisions, AreSmall, AreSmallRows}
use Rattle.ffv1_record.specs.Configuration.{Configuration, is_rct}
use Rattle.ffv1_slice.specs.declared.head.SliceHead.{SliceHead}
use Rattle.ffv1_slice.specs.Head.{key_steps}
use Rattle.ffv1_slice.specs.Grid.{Division, IsDivision, factor_of, reduced, planes_in, slices_in, across, down, coded_of, whole_of, division_of}
use Rattle.ffv1_frame.specs.Picture.{Planes, plane_count, cell_in, cell_height}
use Rattle.ffv1_frame.specs.SliceList.{Line, base_of, bits_of, set_in, lines_of_plane, planes_of_line, lines_in, chosen_line, chosen_body}
use Rattle.ffv1_frame.specs.Length.{line_residuals, body_residuals}
use Rattle.ffv1_frame.proofs.lemmas.picture.Lines.{Sides, column_inside, row_inside}

-- the laws of rows
pub record Rows : Type 0 where
  pub row : (set : Set) (c : Cell) (y x : ℕ) (qs : List ℤ) → AreSmall qs → length (row_steps set c y x qs) ≡ row_decisions qs
  pub most : (v : ℤ) → unsigned_abs v < 2 ^ 31 → decisions_of v ≤ 63
  pub small : (set : Set) (bits : ℕ) (c : Cell) (n : ℕ) → 0 < bits → 2 ^ (bits - 1) < 2 ^ 31 → AreSmallRows (chosen_rows set bits c n)
  pub long : (set : Set) (bits : ℕ) (c : Cell) (y n : ℕ) → length (chosen_row set bits c y n) ≡ n
  pub shifted_long : (base : ℕ) (steps : List Step) → length (shifted base steps) ≡ length steps

last_small : (rows : List (List ℤ)) (qs : List ℤ) → AreSmallRows (rows ++ (qs ∷ [])) → AreSmall qs
last_small [] qs small = small.0
last_small (r ∷ rs) qs small = last_small rs qs small.1

-- residuals of so many bits are short
small_bits : (bits : ℕ) → bits ≤ 17 → 2 ^ (bits - 1) < 2 ^ 31
small_bits bits most = let few : 2 ^ (bits - 1) ≤ 2 ^ 16 = pow_mono {i = bits - 1} {j = 16} (omega (arith, most)) in omega (arith, few)

few_bits : (rct : Bool) (depth : ℕ) → 0 < depth → depth ≤ 16 → (0 < (if rct then depth + 1 else depth)) × (2 ^ ((if rct then depth + 1 else depth) - 1) < 2 ^ 31)
few_bits true depth some most = (omega arith, small_bits (depth + 1) (omega (arith, most)))
few_bits false depth some most = (some, small_bits depth (omega (arith, most)))

row_small : Rows → (c : Configuration) → 0 < c.depth → c.depth ≤ 16 → (set : Set) (cell : Cell) (y : ℕ) → AreSmall (chosen_row set (bits_of c) cell y cell.width)
unfolding chosen_rows
row_small laws c some most set cell y =
    let bits = few_bits (is_rct c.colour) c.depth some most in
    last_small (chosen_rows set (bits_of c) cell y) (chosen_row set (bits_of c) cell y cell.width) (laws.small set (bits_of c) cell (suc y) bits.0 bits.1)

pub decisions_append : (xs ys : List ℤ) → row_decisions (xs ++ ys) ≡ row_decisions xs + row_decisions ys
decisions_append [] ys = omega arith
decisions_append (x ∷ xs) ys = let rest = decisions_append xs ys in omega (arith, rest)

row_most : Rows → (qs : List ℤ) → AreSmall qs → row_decisions qs ≤ 63 * length qs
row_most laws [] small = omega arith
row_most laws (q ∷ qs) small = let first = laws.most q small.0 in let rest = row_most laws qs small.1 in omega (arith, first, rest)

-- the decisions of lines are those of their residuals
line_long : Rows → (c : Configuration) → 0 < c.depth → c.depth ≤ 16 → (h : SliceHead) (cell : ℕ → Cell) (l : Line) → length (chosen_line c h cell l) ≡ row_decisions (line_residuals c h cell l)
line_long laws c some most h cell l =
    laws.shifted_long (base_of c l.plane) (row_steps (set_in c h l.plane) (cell l.plane) l.y 0 (line_residuals c h cell l))
    ∙ laws.row (set_in c h l.plane) (cell l.plane) l.y 0 (line_residuals c h cell l) (row_small laws c some most (set_in c h l.plane) (cell l.plane) l.y)

pub body_long : Rows → (c : Configuration) → 0 < c.depth → c.depth ≤ 16 → (h : SliceHead) (cell : ℕ → Cell) (ls : List Line) → length (chosen_body c h cell ls) ≡ row_decisions (body_residuals c h cell ls)
body_long laws c some most h cell [] = refl
body_long laws c some most h cell (l ∷ ls) =
    let first = line_long laws c some most h cell l in
    let rest = body_long laws c some most h cell ls in
    let steps = length-append (chosen_line c h cell l) (chosen_body c h cell ls) in
    let residuals = decisions_append (line_residuals c h cell l) (body_residuals c h cell ls) in
    omega (arith, first, rest, steps, residuals)

-- no cell is wider or higher than a picture may be
reduced_few : (log2 n : ℕ) → log2 ≤ 2 → reduced log2 n ≤ n
unfolding reduced
reduced_few zero n few = omega arith
reduced_few (suc zero) n few = omega arith
reduced_few (suc (suc zero)) n few = omega arith
reduced_few (suc (suc (suc k))) n few = absurd (omega (arith, few))

factor_few : (log2 p : ℕ) → log2 ≤ 2 → factor_of log2 p ≤ 2
factor_few log2 zero few = omega arith
factor_few log2 (suc zero) few = few
factor_few log2 (suc (suc zero)) few = few
factor_few log2 (suc (suc (suc p))) few = omega arith

-- no plane is wider or higher than a picture may be
pub whole_wide : (d : Division) (p : ℕ) → IsDivision d → whole_of (across d p) ≤ 8192
whole_wide d p is = let whole = reduced_few (factor_of d.log2_h p) d.width (factor_few d.log2_h p is.log2_h) in omega (arith, whole, is.width)

pub whole_high : (d : Division) (p : ℕ) → IsDivision d → whole_of (down d p) ≤ 8192
whole_high d p is = let whole = reduced_few (factor_of d.log2_v p) d.height (factor_few d.log2_v p is.log2_v) in omega (arith, whole, is.height)

pub width_few : (d : Division) (n p : ℕ) → Sides → IsDivision d → coded_of (across d p) (n % d.columns) ≤ 8192
width_few d n p laws is =
    let column = column_inside n d.columns d.rows is.some_columns in
    let sound = laws.across d p is in
    let end = laws.ends (across d p) (n % d.columns) sound column in
    let whole = reduced_few (factor_of d.log2_h p) d.width (factor_few d.log2_h p is.log2_h) in
    omega (arith, end, whole, is.width)

pub height_few : (d : Division) (n p : ℕ) → Sides → IsDivision d → n < slices_in d → coded_of (down d p) (n / d.columns) ≤ 8192
height_few d n p laws is inside =
    let row = row_inside n d.columns d.rows is.some_columns inside in
    let sound = laws.down d p is in
    let end = laws.ends (down d p) (n / d.columns) sound row in
    let whole = reduced_few (factor_of d.log2_v p) d.height (factor_few d.log2_v p is.log2_v) in
    omega (arith, end, whole, is.height)

body_most : Rows → (c : Configuration) → 0 < c.depth → c.depth ≤ 16 → (h : SliceHead) (cell : ℕ → Cell) (ls : List Line) → ((p : ℕ) → (cell p).width ≤ 8192) → row_decisions (body_residuals c h cell ls) ≤ 516096 * length ls
body_most laws c some most h cell [] wide = omega arith
body_most laws c some most h cell (l ∷ ls) wide =
    let first = row_most laws (line_residuals c h cell l) (row_small laws c some most (set_in c h l.plane) (cell l.plane) l.y) in
    let long = laws.long (set_in c h l.plane) (bits_of c) (cell l.plane) l.y (cell l.plane).width in
    let rest = body_most laws c some most h cell ls wide in
    let residuals = decisions_append (line_residuals c h cell l) (body_residuals c h cell ls) in
    omega (arith, first, long, rest, residuals, wide l.plane)

-- how many lines a slice has
flat_few : {X Y : Type 0} (f : X → List Y) (xs : List X) (most : ℕ) → ((x : X) → length (f x) ≤ most) → length (flat_map f xs) ≤ most * length xs
flat_few f [] most few = omega arith
flat_few f (x ∷ xs) most few =
    let rest = flat_few f xs most few in
    omega (arith, length-append (f x) (flat_map f xs), few x, rest)

planes_few : (chroma extra : Bool) → planes_in chroma extra ≤ 4
planes_few chroma true = omega arith
planes_few true false = omega arith
planes_few false false = omega arith

by_colour : {X : Type 0} (rct : Bool) (xs ys : List X) (most : ℕ) → length xs ≤ most → length ys ≤ most → length (if rct then xs else ys) ≤ most
by_colour true xs ys most first second = first
by_colour false xs ys most first second = second

lines_few : (c : Configuration) (n : ℕ) → ((p : ℕ) → cell_height c n p ≤ 8192) → length (lines_in c n) ≤ 32768
lines_few c n high =
    let count : ℕ = plane_count c in
    let planes = planes_few c.chroma_planes c.extra_plane in
    let across = flat_few (planes_of_line count) (range_with_len 0 (cell_height c n 0)) count (λ y. let long = length-map-range_with_len (λ p. let l : Line = record { plane = p; y = y } in l) 0 count in omega (arith, long)) in
    let down = flat_few (λ p. lines_of_plane (cell_height c n p) p) (range_with_len 0 count) 8192 (λ p. let long = length-map-range_with_len (λ y. let l : Line = record { plane = p; y = y } in l) 0 (cell_height c n p) in omega (arith, long, high p)) in
    let rows = length-range_with_len 0 (cell_height c n 0) in
    let more = mul-le-mul_left {m = count} {n = 4} (cell_height c n 0) planes in
    by_colour (is_rct c.colour) _ _ 32768 (omega (arith, across, ap (λ k. count * k) rows, more, high 0)) (omega (arith, down, length-range_with_len 0 count, planes))

pub residuals_few : Rows → Sides → (c : Configuration) (planes : Planes) (h : SliceHead) (n : ℕ) → IsDivision (division_of c) → n < c.columns * c.rows → row_decisions (body_residuals c h (cell_in c planes n) (lines_in c n)) < 2 ^ 40
residuals_few laws sides c planes h n is inside =
    let many = body_most laws c (omega (arith, is.shallow)) is.deep h (cell_in c planes n) (lines_in c n) (λ p. width_few (division_of c) n p sides is) in
    let few = lines_few c n (λ p. height_few (division_of c) n p sides is inside) in
    omega (arith, many, few)

-- each decision makes one renormalisation at most
one_more : (i : Interval) (b : Bool) → (let r : Interval = if b then record { low = 256 * i.low; width = 256 * i.width; count = suc i.count } else i in (i.count ≤ r.count) × (r.count ≤ i.count + 1))
one_more i true = (omega arith, omega arith)
one_more i false = (omega arith, omega arith)

renormalised_count : (i : Interval) → (i.count ≤ (renormalised i).count) × ((renormalised i).count ≤ i.count + 1)
renormalised_count i = one_more i (nat_lt i.width 256)

part_count : (i : Interval) (state : ℕ) (bit : Bool) → (part i state bit).count ≡ i.count
part_count i state true = refl
part_count i state false = refl

narrow_most : (i : Interval) (state : ℕ) (bit : Bool) → (narrow i state bit).count ≤ i.count + 1
narrow_most i state bit = let most = (renormalised_count (part i state bit)).1 in omega (arith, most, part_count i state bit)

narrowed_most : (i : Interval) (ds : List Decision) → (narrowed i ds).count ≤ i.count + length ds
narrowed_most i [] = omega arith
narrowed_most i (d ∷ ds) = let rest = narrowed_most (narrow i d.state d.bit) ds in let first = narrow_most i d.state d.bit in omega (arith, rest, first)

decisions_long : (t : Table) (past steps : List Step) → length (decisions_after t past steps) ≡ length steps
decisions_long t past [] = refl
decisions_long t past (s ∷ ss) = let rest = decisions_long t (past ++ (s ∷ [])) ss in omega (arith, rest)

pub key_few : (n : ℕ) → length (key_steps n) ≤ 1
key_few zero = omega arith
key_few (suc n) = omega arith

-- the count after a slice's decisions and its sentinel
pub sealed_most : (t : Table) (steps : List Step) → (narrow (interval_of (decisions_after t [] steps)) 129 false).count ≤ 3 + length steps
sealed_most t steps =
    let all = narrowed_most start (decisions_after t [] steps) in
    let last = narrow_most (interval_of (decisions_after t [] steps)) 129 false in
    omega (arith, all, last, decisions_long t [] steps)

-- the count of an interval never falls
narrow_least : (i : Interval) (state : ℕ) (bit : Bool) → i.count ≤ (narrow i state bit).count
narrow_least i state bit = let least = (renormalised_count (part i state bit)).0 in omega (arith, least, part_count i state bit)

narrowed_least : (i : Interval) (ds : List Decision) → i.count ≤ (narrowed i ds).count
narrowed_least i [] = omega arith
narrowed_least i (d ∷ ds) = let rest = narrowed_least (narrow i d.state d.bit) ds in let first = narrow_least i d.state d.bit in omega (arith, rest, first)

pub sealed_least : (t : Table) (steps : List Step) → 2 ≤ (narrow (interval_of (decisions_after t [] steps)) 129 false).count
sealed_least t steps =
    let all = narrowed_least start (decisions_after t [] steps) in
    let last = narrow_least (interval_of (decisions_after t [] steps)) 129 false in
    omega (arith, all, last)

-- the bytes of the sentinel ending
digits_long : (count n : ℕ) → length (digits count n) ≡ count
digits_long zero n = refl
digits_long (suc count) n =
    let rest = digits_long count (n / 256) in
    omega (arith, length-append (digits count (n / 256)) (n % 256 ∷ []), rest)

pub sentinel_long : (i : Interval) → length (sentinel_of i) ≡ (narrow i 129 false).count - 1
sentinel_long i =
    let j : Interval = narrow i 129 false in
    length-take-le (j.count - 1) (digits j.count (raised j.low)) (omega (arith, digits_long j.count (raised j.low)))

times_more : (m k : ℕ) → suc m * k ≡ m * k + k
times_more m k = omega arith

-- slices joined
pub joined_long : (ec : Bool) (f : ℕ → List ℕ) (r : ℕ → ℕ) (ns : List ℕ) → ((n : ℕ) → length (f n) ≡ r n + 1) → ((bytes : List ℕ) → length (footer_of ec bytes) ≡ foot_length ec) →
    length (joined_of ec (map f ns)) ≡ sum (map r ns) + length ns * (1 + foot_length ec)
joined_long ec f r [] each foot = omega arith
joined_long ec f r (n ∷ ns) each foot =
    let rest = joined_long ec f r ns each foot in
    let first = length-append (f n) (footer_of ec (f n)) in
    let all = length-append (f n ++ footer_of ec (f n)) (joined_of ec (map f ns)) in
    let more : length (n ∷ ns) * (1 + foot_length ec) ≡ length ns * (1 + foot_length ec) + (1 + foot_length ec) = times_more (length ns) (1 + foot_length ec) in
    let total : sum (map r (n ∷ ns)) ≡ r n + sum (map r ns) = sum_by-cons (λ x. x) (r n) (map r ns) in
    omega (arith, rest, first, all, each n, foot (f n), more, total)

foot_few : (ec : Bool) → foot_length ec ≤ 8
foot_few true = omega arith
foot_few false = omega arith

pub joined_most : (ec : Bool) (f : ℕ → List ℕ) (r : ℕ → ℕ) (g : ℕ → List ℤ) (most from count : ℕ) → ((n : ℕ) → length (f n) ≡ r n + 1) → ((bytes : List ℕ) → length (footer_of ec bytes) ≡ foot_length ec) →
    ((n : ℕ) → n < from + count → r n + 9 ≤ row_decisions (g n) + most) →
    length (joined_of ec (map f (range_with_len from count))) ≤ row_decisions (flat_map g (range_with_len from count)) + count * most
joined_most ec f r g most from zero each foot few = omega arith
joined_most ec f r g most from (suc count) each foot few =
    let rest = joined_most ec f r g most (from + 1) count each foot (λ n inside. few n (omega (arith, inside))) in
    let first = length-append (f from) (footer_of ec (f from)) in
    let all = length-append (f from ++ footer_of ec (f from)) (joined_of ec (map f (range_with_len (from + 1) count))) in
    let residuals = decisions_append (g from) (flat_map g (range_with_len (from + 1) count)) in
    let here = few from (omega arith) in
    omega (arith, rest, first, all, residuals, here, each from, foot (f from), foot_few ec)
