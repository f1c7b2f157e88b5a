-- The last line of a row of slices, kept for the row below.
use Rattle.std.proofs.Common.{◌≡◌, ℕ, suc, ◌+◌, ◌-◌, ◌*◌, List, ◌++◌, length, get_or, slice_index, ap, sym, ◌∙◌, arith}
use Rattle.std.proofs.lemmas.List.{get_or-append-add}
use Rattle.ffv1_record.specs.Configuration.{Configuration}
use Rattle.ffv1_frame.specs.Picture.{plane}
use Rattle.ffv1_frame.specs.Order.{lines_down}
use Rattle.ffv1_frame.specs.Decoding.{State, Slice, slice_at, slice_number, unread, left_of, width_in}
use Rattle.ffv1_decode.specs.Internal.Tied.{TiedLine, TiedKept, TiedLast, part_of, rolling_lines}
use Rattle.ffv1_frame.proofs.lemmas.WrittenParts.{window_at}
use Rattle.ffv1_decode.proofs.lemmas.shared.SharedColumns.{rolled_row}

-- the line above the next one is the last that was read
pub last_stands : (c : Configuration) (r p h : ℕ) (two one cur : List ℕ) (s : State) → suc h ≡ lines_down c p r → TiedLine c p 0 0 (suc h) (rolling_lines two one cur) s → TiedLast c r p one s
last_stands c r p h two one cur s high line = λ k x inside less.
    let w = width_in c p k in
    let samples = plane (slice_at s k).cells p in
    let place : left_of c p k + x ≡ 0 + left_of c p k + x = omega arith in
    let last : h ≡ lines_down c p r - 1 = omega (arith, high) in
    ap (λ n. get_or one n 0) place
    ∙ sym (window_at (0 + left_of c p k) w one x less)
    ∙ ap (λ xs. get_or xs x 0) (rolled_row w h samples (part_of c p 0 k two) (part_of c p 0 k one) (line.unread k (omega arith) inside))
    ∙ window_at (h * w) w samples x less
    ∙ ap (λ n. get_or samples (n * w + x) 0) last

-- once the row is closed it is what the next row has above
pub kept_closed : (c : Configuration) (r p y : ℕ) (kept : List ℕ) (s t : State) → length s.done ≡ r * c.columns → t.done ≡ s.done ++ s.columns → TiedLast c r p kept s → TiedKept c (suc r) p y kept t
kept_closed c r p y kept s t long done tied = λ shared k x inside less.
    let last : suc r - 1 ≡ r = omega arith in
    let here : get_or t.done (r * c.columns + k) unread ≡ slice_at s k =
    ap (λ qs. get_or qs (r * c.columns + k) unread) done ∙ ap (λ n. get_or (s.done ++ s.columns) (n + k) unread) (sym long) ∙ get_or-append-add {A = Slice} s.done s.columns k unread in
    tied k x inside less
    ∙ ap (λ (q : Slice). slice_index (plane q.cells p) ((lines_down c p r - 1) * width_in c p k + x)) (sym here)
    ∙ ap (λ i. slice_index (plane (get_or t.done (slice_number c i k) unread).cells p) ((lines_down c p i - 1) * width_in c p k + x)) (sym last)
