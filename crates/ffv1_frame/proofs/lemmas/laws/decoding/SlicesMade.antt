-- Each slice of what was decoded codes its part of the picture.
use Rattle.std.proofs.Common.{◌≡◌, refl, ℕ, zero, suc, ◌+◌, ◌-◌, ◌*◌, ◌/◌, ◌%◌, ◌<◌, ◌≤◌, Bool, true, false, if◌then◌else◌, Option, Some, List, [], ◌∷◌, ◌++◌, map, get_or, inl, inr, ap, sym, subst, ◌∙◌, arith}
use Rattle.std.specs.List.{flat_map, range_with_len}
use Rattle.std.proofs.lemmas.Bool.{cases_eq, cases_lt}
use Rattle.std.proofs.lemmas.Nat.{div-add-mod', div_below}
use Rattle.ffv1_wire.specs.Runs as wire
use Rattle.ffv1_range.specs.Codes.{Codes}
use Rattle.ffv1_range.specs.Symbols.{Step}
use Rattle.ffv1_range.specs.History.{decisions_after}
use Rattle.ffv1_line.specs.Cell.{Cell, Agree, cell_of}
use Rattle.ffv1_record.specs.Configuration.{Configuration, is_rct}
use Rattle.ffv1_record.specs.Accepted.{Accepted}
use Rattle.ffv1_slice.specs.Grid.{down, division_of, begin_of, first_of, shared_of}
use Rattle.ffv1_slice.specs.Head.{key_steps, head_steps}
use Rattle.ffv1_frame.specs.Picture.{Planes, plane, plane_count, cell_in, coded_at}
use Rattle.ffv1_frame.specs.SliceList.{Line, Said, said_by, lines_of_plane, planes_of_line}
use Rattle.ffv1_frame.specs.Order.{lines_down}
use Rattle.ffv1_slice.specs.Footer.{foot_length}
use Rattle.ffv1_slice.specs.Cutting.{Cuts, coded_of}
use Rattle.ffv1_frame.specs.Frame.{CodesPicture}
use Rattle.ffv1_frame.specs.Lines.{lines_of}
use Rattle.ffv1_frame.specs.Decoding.{State, Decodes, at_first, Slice, slice_at, slice_number, unread, width_in, left_of, top_of, left_sample, above_sample}
use Rattle.ffv1_frame.proofs.lemmas.laws.decoding.Machines.{each_left, each_right, each_both, Each, each_append}
use Rattle.ffv1_frame.proofs.lemmas.laws.decoding.LinesRead.{row_lines, lines_at}
use Rattle.ffv1_frame.proofs.lemmas.laws.decoding.Groups.{Group, IsGroup, group_lines, groups_of, groups_are, lines_by_groups}
use Rattle.ffv1_frame.proofs.lemmas.laws.decoding.SliceBodies.{body_alike}
use Rattle.ffv1_frame.proofs.lemmas.laws.decoding.RowsDone.{all_done, IsBelow}
use Rattle.ffv1_frame.proofs.lemmas.laws.decoding.Agreed.{IsAgreed}
use Rattle.ffv1_frame.proofs.lemmas.laws.decoding.CellsShown.{IsLine, Shown, AgreesLeft, IsOld, groups_shown, alike_down}
use Rattle.ffv1_frame.proofs.lemmas.laws.decoding.PictureMade.{PictureLaws, Part, Rows, all_there, alike_lines, some_wide, all_sized, all_keys, planes_made, lines_are, all_lines, picture_made}
use Rattle.ffv1_frame.specs.Ending.{HasEnding, HasPadding}
use Rattle.ffv1_frame.specs.CodedSlice.{CodesSlice}
use Rattle.ffv1_frame.specs.RiceLines.{fresh_coder, rice_bits}
use Rattle.ffv1_frame.proofs.lemmas.laws.rice.BitBodies.{bits_alike}
use Rattle.ffv1_frame.proofs.lemmas.laws.decoding.LastLine.{has_last, planes_some}

pub at_number : {B : Type 0} (P : B → Type 0) (f : ℕ → B) (from count k : ℕ) → from ≤ k → k < from + count → Each P (map f (range_with_len from count)) → P (f k)
at_number P f from zero k least most all = absurd (omega (arith, least, most))
at_number P f from (suc count) k least most all = elim (cases_eq from k) [
  | inl same ↦ subst (λ n. P (f n)) same all.0
  | inr other ↦ at_number P f (from + 1) count k (omega (arith, least, other)) (omega (arith, most)) all.1
]

pub at_range : (P : ℕ → Type 0) (from count k : ℕ) → from ≤ k → k < from + count → Each P (range_with_len from count) → P k
at_range P from zero k least most all = absurd (omega (arith, least, most))
at_range P from (suc count) k least most all = elim (cases_eq from k) [
  | inl same ↦ subst P same all.0
  | inr other ↦ at_range P (from + 1) count k (omega (arith, least, other)) (omega (arith, most)) all.1
]

pub part_of : {B : Type 0} (P : B → Type 0) (f : ℕ → List B) (from count k : ℕ) → from ≤ k → k < from + count → Each P (flat_map f (range_with_len from count)) → Each P (f k)
part_of P f from zero k least most all = absurd (omega (arith, least, most))
part_of P f from (suc count) k least most all = elim (cases_eq from k) [
  | inl same ↦ subst (λ n. Each P (f n)) same (each_left P (f from) (flat_map f (range_with_len (from + 1) count)) all)
  | inr other ↦
      part_of P f (from + 1) count k (omega (arith, least, other)) (omega (arith, most))
      (each_right P (f from) (flat_map f (range_with_len (from + 1) count)) all)
]

-- each line of each plane is in the list of a slice
line_by : (c : Configuration) (P : Line → Type 0) (r p y : ℕ) (rct : Bool) → is_rct c.colour ≡ rct → (is_rct c.colour ≡ true → lines_down c p r ≡ lines_down c 0 r) →
    p < plane_count c → y < lines_down c p r →
    Each P (if rct then flat_map (planes_of_line (plane_count c)) (range_with_len 0 (lines_down c 0 r)) else flat_map (λ p. lines_of_plane (lines_down c p r) p) (range_with_len 0 (plane_count c))) →
    P (record { plane = p; y = y })
line_by c P r p y true e same inside below all =
    let here : y < 0 + lines_down c 0 r = omega (arith, below, same e) in
    at_number P (λ p. record { plane = p; y = y }) 0 (plane_count c) p (omega arith) (omega (arith, inside))
    (part_of P (planes_of_line (plane_count c)) 0 (lines_down c 0 r) y (omega arith) here all)
line_by c P r p y false e same inside below all =
    at_number P (λ y. record { plane = p; y = y }) 0 (lines_down c p r) y (omega arith) (omega (arith, below))
    (part_of P (λ p. lines_of_plane (lines_down c p r) p) 0 (plane_count c) p (omega arith) (omega (arith, inside)) all)

pub at_line : (c : Configuration) (P : Line → Type 0) (r p y : ℕ) → (is_rct c.colour ≡ true → lines_down c p r ≡ lines_down c 0 r) → p < plane_count c → y < lines_down c p r →
    Each P (row_lines c r) → P (record { plane = p; y = y })
at_line c P r p y same inside below all = line_by c P r p y (is_rct c.colour) refl same inside below all

-- a line of the slices of row r
pub record IsLineOf (c : Configuration) (r : ℕ) (l : Line) : Type 0 where
  pub inside : l.plane < plane_count c
  pub below : l.y < lines_down c l.plane r

lines_of_group : (c : Configuration) (r y : ℕ) (planes : List ℕ) → Each (λ p. p < plane_count c) planes → Each (λ p. y < lines_down c p r) planes → Each (IsLineOf c r) (lines_at planes y)
lines_of_group c r y [] inside below = tt
lines_of_group c r y (p ∷ planes) inside below = (record { inside = inside.0; below = below.0 }, lines_of_group c r y planes inside.1 below.1)

lines_of_groups : (c : Configuration) (r : ℕ) (gs : List Group) → Each (IsGroup c r) gs → Each (IsLineOf c r) (flat_map group_lines gs)
lines_of_groups c r [] are = tt
lines_of_groups c r (g ∷ gs) are =
    each_append (IsLineOf c r) (group_lines g) (flat_map group_lines gs) (lines_of_group c r g.y g.planes are.0.inside are.0.down) (lines_of_groups c r gs are.1)

pub lines_are_of : (c : Configuration) (r : ℕ) → (is_rct c.colour ≡ true → (p : ℕ) → lines_down c p r ≡ lines_down c 0 r) → Each (IsLineOf c r) (row_lines c r)
lines_are_of c r same = subst (Each (IsLineOf c r)) (sym (lines_by_groups c r)) (lines_of_groups c r (groups_of c r) (groups_are c r same))

pub column_inside : (n columns : ℕ) → 0 < columns → n % columns < columns
column_inside n columns some = grind (arith, some)

pub row_inside : (n columns rows : ℕ) → 0 < columns → n < columns * rows → n / columns < rows
row_inside n columns rows some inside = div_below n columns rows some (omega (arith, inside))

pub number_is : (n columns : ℕ) → 0 < columns → n / columns * columns + n % columns ≡ n
number_is n columns some = div-add-mod' n columns

-- the slices of a row have read the picture's samples, those that they share too
module _ (a : Accepted) (laws : PictureLaws a) (coded : ℕ → List ℕ) (said : Option Said) (planes : Planes) where
  abbrev pub ShownIn : (ℕ → Slice) → ℕ → Type 0
  ShownIn slice r = Each (Shown a.configuration planes slice laws.tiles_h r) (row_lines a.configuration r)

  module _ (r : ℕ) (r_inside : r < a.configuration.rows) (ls : List wire.Line) (part : Part a laws coded said r ls) (lines : Each (IsLine a.configuration planes) ls) (before : ℕ → Slice)
      (below : IsBelow a coded laws.cells laws.few (some_wide a laws) (alike_lines a laws) before r part.state) (above : 0 < r → ShownIn before (r - 1)) where
    abbrev c : Configuration
    c = a.configuration

    cell : (k p : ℕ) → plane (part.slice k).cells p ≡ plane (slice_at part.state k).cells p
    cell k p = ap (λ (q : Slice). plane q.cells p) (part.is k)

    agreed_at : (k : ℕ) → k < a.configuration.columns → (l : Line) → IsLineOf a.configuration r l → IsAgreed a coded r part.state k l
    agreed_at k inside l is = at_line c (IsAgreed a coded r part.state k) r l.plane l.y (λ e. alike_lines a laws e l.plane r) is.inside is.below (part.agreed k inside)

    beside : (l : Line) → IsLineOf a.configuration r l → AgreesLeft a.configuration planes part.slice laws.tiles_h r l
    beside l is = λ j x inside shared.
        let p = l.plane in
        let w = width_in c p (suc j) in
        let last : suc j - 1 ≡ j = omega arith in
        let some = some_wide a laws p (suc j) inside in
        let few = (laws.tiles_h p).few (suc j) inside in
        ap (λ xs. get_or xs (l.y * w + x) 0) (cell (suc j) p)
        ∙ agreed_at (suc j) inside l is x (left_sample c part.state (suc j) p l.y) (omega (arith, shared, few, some)) (inl (shared, refl))
        ∙ ap (λ i. get_or (plane (slice_at part.state i).cells p) (l.y * width_in c p i + (width_in c p i - 1)) 0) last
        ∙ ap (λ xs. get_or xs (l.y * width_in c p j + (width_in c p j - 1)) 0) (sym (cell j p))

    old : (l : Line) → IsLineOf a.configuration r l → IsOld a.configuration planes part.slice laws.tiles_h r l
    old l is shared = λ k x inside small.
        let p = l.plane in
        let side = down (division_of c) p in
        let w = width_in c p k in
        let any : 0 < r = elim (cases_lt 0 r) [
          | inl some ↦ some
          | inr none ↦
              let first : r ≡ 0 = omega (arith, none) in
              let zero_is = subst (λ i. l.y < shared_of side i) first shared in absurd (omega (arith, zero_is))
        ] in
        let up = r - 1 in
        let high = lines_down c p up in
        let next : suc up ≡ r = omega (arith, any) in
        let up_inside : up < c.rows = omega (arith, r_inside) in
        let some : 0 < high = (laws.tiles_v p).some up up_inside in
        let begins : first_of side (suc up) ≤ first_of side up + high = subst (λ i. first_of side i ≤ begin_of side i) (sym next) ((laws.tiles_v p).begins r r_inside) in
        let few : (first_of side up + high) - first_of side (suc up) ≤ 1 = subst (λ i. shared_of side i ≤ 1) (sym next) ((laws.tiles_v p).few r r_inside) in
        let less : l.y < (first_of side up + high) - first_of side (suc up) = subst (λ i. l.y < shared_of side i) (sym next) shared in
        let place : top_of c p up + (high - 1) ≡ top_of c p (suc up) + l.y = omega (arith, some, begins, few, less) in
        let there = at_line c (Shown c planes before laws.tiles_h up) up p (high - 1) (λ e. alike_lines a laws e p up) is.inside (omega (arith, some)) (above any) in
        ap (λ xs. get_or xs (l.y * w + x) 0) (cell k p)
        ∙ agreed_at k inside l is x (above_sample c part.state r k p x) small (inr (shared, refl))
        ∙ ap (λ (q : Slice). get_or (plane q.cells p) ((high - 1) * w + x) 0) (below k any inside)
        ∙ there k x inside small
        ∙ ap (λ n. coded_at c planes p (left_of c p k + x) n) (place ∙ ap (λ i. top_of c p i + l.y) next)

    row_shown : ShownIn part.slice r
    row_shown =
        let lines_of = lines_are_of c r (λ rct p. alike_lines a laws rct p r) in
        let groups = groups_of c r in
        let by = lines_by_groups c r in
        subst (Each (Shown c planes part.slice laws.tiles_h r)) (sym by)
        (groups_shown c planes part.slice laws.tiles_h r laws.in_rct (λ e p. alike_down c (laws.in_rct.alike e) laws.tiles_v p r r_inside) groups ls
        (groups_are c r (λ rct p. alike_lines a laws rct p r)) (all_there a laws coded said r ls part)
        (subst (Each (AgreesLeft c planes part.slice laws.tiles_h r)) by (each_both (IsLineOf c r) (AgreesLeft c planes part.slice laws.tiles_h r) (row_lines c r) lines_of beside))
        (subst (Each (IsOld c planes part.slice laws.tiles_h r)) by (each_both (IsLineOf c r) (IsOld c planes part.slice laws.tiles_h r) (row_lines c r) lines_of old))
        part.made lines)

  -- the part of a row
  pub record RowShown (r : ℕ) : Type 0 where
    pub lines : List wire.Line
    pub part : Part a laws coded said r lines
    pub shown : ShownIn part.slice r

  pub part_at : (r : ℕ) (before : ℕ → Slice) (from count : ℕ) (ls : List wire.Line) → from + count ≤ a.configuration.rows → (0 < from → ShownIn before (from - 1)) → from ≤ r → r < from + count →
      Rows a laws coded said before (range_with_len from count) ls → Each (IsLine a.configuration planes) ls → RowShown r
  part_at r before from zero ls fits above least most rows lines = absurd (omega (arith, least, most))
  part_at r before from (suc count) ls fits above least most rows lines =
      let all : Each (IsLine a.configuration planes) (rows.0 ++ rows.1) = subst (Each (IsLine a.configuration planes)) rows.4 lines in
      let mine = each_left (IsLine a.configuration planes) rows.0 rows.1 all in
      let shown = row_shown from (omega (arith, fits)) rows.0 rows.2 mine before rows.5 above in
      let last : from + 1 - 1 ≡ from = omega arith in
      elim (cases_eq from r) [
        | inl same ↦ subst RowShown same (record { lines = rows.0; part = rows.2; shown = shown })
        | inr other ↦
            part_at r rows.2.slice (from + 1) count rows.1 (omega (arith, fits)) (λ any. subst (ShownIn rows.2.slice) (sym last) shown) (omega (arith, least, other)) (omega (arith, most)) rows.3
            (each_right (IsLine a.configuration planes) rows.0 rows.1 all)
      ]

module _ (a : Accepted) (laws : PictureLaws a) (coded : ℕ → List ℕ) (info : Said) (planes : Planes) where
  module _ (n : ℕ) (ls : List wire.Line) (part : Part a laws coded (Some info) (n / a.configuration.columns) ls) (shown : Each (Shown a.configuration planes part.slice laws.tiles_h (n / a.configuration.columns)) (row_lines a.configuration (n / a.configuration.columns))) where
    abbrev pub column : ℕ
    column = n % a.configuration.columns

    abbrev pub row : ℕ
    row = n / a.configuration.columns

    abbrev pub read : Slice
    read = part.slice column

    abbrev pub cells : ℕ → Cell
    cells p = cell_of (width_in a.configuration p column) (plane read.cells p)

    -- the cells that were read are those of the picture
    agree : 0 < a.configuration.columns → (l : Line) → IsLineOf a.configuration row l → Agree (cells l.plane) (cell_in a.configuration planes n l.plane) l.y
    agree some l is = record {
      some = some_wide a laws l.plane column (column_inside n a.configuration.columns some);
      wide = refl;
      each = λ x z inside below.
          at_line a.configuration (Shown a.configuration planes part.slice laws.tiles_h row) row l.plane z (λ rct. alike_lines a laws rct l.plane row) is.inside (omega (arith, below, is.below)) shown
          column x (column_inside n a.configuration.columns some) inside;
    }

    same_said : Some info ≡ Some (said_by a.profile read.head) → said_by a.profile read.head ≡ info
    same_said e = cc

    pub slice_codes : n < a.configuration.columns * a.configuration.rows → CodesSlice (coded n) a planes info n
    slice_codes inside =
        let c = a.configuration in
        let here : column < c.columns = column_inside n c.columns laws.columns in
        let has = part.done column here in
        let number : slice_number c row column ≡ n = number_is n c.columns laws.columns in
        let past : read.past ≡ key_steps n ++ (head_steps c n read.head ++ has.body) =
        has.past ∙ ap (λ m. key_steps m ++ (head_steps c m read.head ++ has.body)) number in
        let all_agree : Each (λ (l : Line). Agree (cells l.plane) (cell_in c planes n l.plane) l.y) (row_lines c row) =
        each_both (IsLineOf c row) (λ (l : Line). Agree (cells l.plane) (cell_in c planes n l.plane) l.y) (row_lines c row)
        (lines_are_of c row (λ rct p. alike_lines a laws rct p row)) (agree laws.columns) in
        record {
          head = read.head;
          is_head = has.is_head;
          says = same_said (part.says column here);
          body = has.body;
          is_body = record {
            range = λ is. body_alike laws.cells c read.head cells (cell_in c planes n) (row_lines c row) has.body all_agree (has.is_body.range is);
            rice = has.is_body.rice;
          };
          codes =
              subst (λ (steps : List Step). Codes (coded n) (decisions_after a.table [] steps)) past
              (subst (λ m. Codes (coded m) (decisions_after a.table [] read.past)) number has.codes);
          ending =
              let last = has_last c row (λ rct p. alike_lines a laws rct p row) (planes_some c) (λ p. (laws.tiles_v p).some row (row_inside n c.columns c.rows laws.columns inside)) in
              let ends = has.ending last.front last.last last.parts last.is in record {
                range = λ is. subst (HasEnding a (coded n)) past (subst (λ m. HasEnding a (coded m) read.past) number (ends.range is));
                rice = λ is.
                    let same : read.bits ≡ rice_bits c read.head (cell_in c planes n) (row_lines c row) =
                    (has.bits.rice is).bits ∙ bits_alike c read.head cells (cell_in c planes n) fresh_coder (row_lines c row) all_agree in
                    subst (λ steps. HasPadding a (coded n) steps (rice_bits c read.head (cell_in c planes n) (row_lines c row))) past
                    (subst (HasPadding a (coded n) read.past) same (subst (λ m. HasPadding a (coded m) read.past read.bits) number (ends.rice is)));
              };
        }

-- what was decoded to the end is a picture that the payload codes
pub record IsMade (a : Accepted) (payload : List ℕ) (t : State) : Type 0 where
  pub planes : Planes
  pub info : Said
  pub codes : CodesPicture a payload planes info
  pub says : t.info ≡ Some info
  pub lines : t.lines ≡ lines_of a.configuration planes

pub is_made : (a : Accepted) (laws : PictureLaws a) (payload : List ℕ) (spans : ℕ → ℕ) (t : State) → Cuts a.configuration payload spans →
    Decodes a (coded_of payload (foot_length a.configuration.ec) spans) t → IsMade a payload t
is_made a laws payload spans t cuts decodes =
    let conf = a.configuration in
    let coded = coded_of payload (foot_length conf.ec) spans in
    let done = all_done a coded laws.cells laws.few (some_wide a laws) (alike_lines a laws) laws.columns (λ k. unread) 0 conf.rows (at_first conf) t refl (omega arith) (λ k any inside. absurd (omega (arith, any))) decodes in
    let sized = all_sized a laws coded t.info (λ k. unread) (range_with_len 0 conf.rows) done.lines done.parts in
    let keys = all_keys a laws coded t.info (λ k. unread) (range_with_len 0 conf.rows) done.lines done.parts in
    let planes = planes_made a laws done.lines in
    let lines = lines_are a laws done.lines sized keys in
    let none : (any : 0 < 0) → ShownIn a laws coded t.info planes (λ k. unread) (0 - 1) = λ any. absurd (omega (arith, any)) in
    let top = part_at a laws coded t.info planes 0 (λ k. unread) 0 conf.rows done.lines (omega arith) none (omega arith) (omega (arith, laws.rows)) done.parts lines in
    let info = said_by a.profile (top.part.slice 0).head in
    let says : t.info ≡ Some info = top.part.says 0 laws.columns in
    let rows : Rows a laws coded (Some info) (λ k. unread) (range_with_len 0 conf.rows) done.lines = subst (λ i. Rows a laws coded i (λ k. unread) (range_with_len 0 conf.rows) done.lines) says done.parts in
    record {
      planes = planes;
      info = info;
      codes = record {
        picture = picture_made a laws done.lines sized keys;
        spans = spans;
        cuts = cuts;
        slices = λ n inside.
            let row = part_at a laws coded (Some info) planes (n / conf.columns) (λ k. unread) 0 conf.rows done.lines (omega arith) (λ any. absurd (omega (arith, any))) (omega arith)
            (omega (arith, row_inside n conf.columns conf.rows laws.columns inside)) rows lines in
            slice_codes a laws coded info planes n row.lines row.part row.shown inside;
      };
      says = says;
      lines = done.behind ∙ all_lines a laws done.lines sized keys;
    }
