-- What the bytes of a slice code of some lines, no others do.
use Rattle.std.proofs.Common.{◌≡◌, ◌≢◌, refl, ℕ, ℤ, zero, suc, ◌+◌, ◌-◌, ◌*◌, ◌/◌, ◌%◌, ◌<◌, ◌≤◌, min, if◌then◌else◌, List, [], ◌∷◌, ◌++◌, map, length, get_or, replicate, false, inl, inr, ap, sym, subst, ◌∙◌, arith, append_assoc}
use Rattle.std.specs.List.{range_with_len}
use Rattle.std.proofs.lemmas.Bool.{cases_lt, cases_eq, eq-eqb, ne_eqb}
use Rattle.std.proofs.lemmas.List.FromFn.{length-map-range_with_len, get_or-map-range_with_len}
use Rattle.ffv1_range.specs.Codes.{Codes}
use Rattle.ffv1_range.specs.Symbols.{Step, shifted}
use Rattle.ffv1_range.specs.History.{decisions_after}
use Rattle.ffv1_plane.specs.Quantisation.{Set}
use Rattle.ffv1_line.specs.Cell.{Cell, seen, Above, Shows, Agree}
use Rattle.ffv1_line.specs.Row.{row_steps}
use Rattle.ffv1_line.specs.Coded.{AreSame, CodesRow}
use Rattle.ffv1_record.specs.Configuration.{Configuration}
use Rattle.ffv1_record.specs.Accepted.{Accepted}
use Rattle.ffv1_slice.specs.declared.head.SliceHead.{SliceHead}
use Rattle.ffv1_frame.specs.SliceList.{Line, IsBody, lines_in, line_steps, set_in, bits_of, base_of}
use Rattle.ffv1_frame.specs.Known.{ShowSame, CodesRead, cells_of}
use Rattle.ffv1_record.specs.Accepted.{is_rice}
use Rattle.ffv1_frame.specs.Sides.{Sides}
use Rattle.ffv1_frame.specs.Picture.{plane_count}
use Rattle.ffv1_frame.specs.Order.{lines_down}
use Rattle.ffv1_frame.specs.Decoding.{Slice}
use Rattle.ffv1_slice.specs.Head.{CodesHead, key_steps, head_steps}
use Rattle.std.proofs.lemmas.Grind.{flat_map-append}
use Rattle.ffv1_frame.proofs.lemmas.laws.decoding.Machines.{Each, each_left}
use Rattle.ffv1_frame.proofs.lemmas.laws.decoding.LinesRead.{row_lines}
use Rattle.ffv1_frame.proofs.lemmas.picture.Keys.{rows_of_lines}
use Rattle.ffv1_frame.proofs.lemmas.laws.decoding.SlicesMade.{IsLineOf, lines_are_of, column_inside}
use Rattle.ffv1_frame.proofs.lemmas.laws.decoding.FromCoded.{lines_alike}
use Rattle.ffv1_frame.proofs.lemmas.picture.PlanesMade.{rows_in, row_if, counted}
use Rattle.ffv1_line.specs.Coding.{coding_by}

-- the laws of rows
pub record OnlyLaws (a : Accepted) (bytes : List ℕ) : Type 0 where
  pub top : (c : Cell) → Above c 0 (replicate c.width 0) (replicate c.width 0)
  pub next : (c : Cell) (y : ℕ) (two one cur : List ℕ) → Above c y two one → length cur ≡ c.width → Shows c (y + 2) cur c.width → Above c (y + 1) one cur
  pub one : (base : ℕ) (past : List Step) (set : Set) (bits : ℕ) (c d : Cell) (y z : ℕ) (two one : List ℕ) (ps qs : List ℤ) →
      0 < length one → Above c y two one → Above d z two one → length ps ≡ length qs →
      CodesRow bytes (coding_by a.table set bits) base past c y ps → CodesRow bytes (coding_by a.table set bits) base past d z qs → (ps ≡ qs) × AreSame c y d z (length ps)
  pub steps : (set : Set) (c d : Cell) (y x : ℕ) (qs : List ℤ) → Agree c d y → row_steps set c y x qs ≡ row_steps set d y x qs
  pub front : (xs ys : List Step) → Codes bytes (decisions_after a.table [] (xs ++ ys)) → Codes bytes (decisions_after a.table [] xs)

-- a row of a cell
cell_row : Cell → ℕ → List ℕ
cell_row c y = map (λ x. c.at x y) (range_with_len 0 c.width)

cell_row_long : (c : Cell) (y : ℕ) → length (cell_row c y) ≡ c.width
unfolding cell_row
cell_row_long c y = length-map-range_with_len (λ x. c.at x y) 0 c.width

cell_row_at : (c : Cell) (y x : ℕ) → x < c.width → get_or (cell_row c y) x 0 ≡ c.at x y
unfolding cell_row
cell_row_at c y x inside = get_or-map-range_with_len (λ x. c.at x y) 0 c.width x x 0 inside (omega arith)

seen_at : (c : Cell) (y x : ℕ) → x < c.width → seen c (suc (suc x)) (suc (suc y)) ≡ c.at x y
unfolding seen
seen_at c y x inside = ap (λ k. c.at k y) (let least : min x (c.width - 1) ≡ x = omega (arith, inside) in least)

-- cells that agree above row y
pub record AgreeAbove (c d : Cell) (y : ℕ) : Type 0 where
  pub wide : c.width ≡ d.width
  pub each : (x z : ℕ) → x < c.width → z < y → c.at x z ≡ d.at x z

-- the rows above row y, which both have
pub record BothAbove (c d : Cell) (y : ℕ) : Type 0 where
  pub two : List ℕ
  pub one : List ℕ
  pub first : Above c y two one
  pub second : Above d y two one

module _ (a : Accepted) (bytes : List ℕ) (laws : OnlyLaws a bytes) where
  both_above : (c d : Cell) (y : ℕ) → AgreeAbove c d y → BothAbove c d y
  both_above c d zero agree = record {
    two = replicate c.width 0;
    one = replicate c.width 0;
    first = laws.top c;
    second = subst (λ w. Above d 0 (replicate w 0) (replicate w 0)) (sym agree.wide) (laws.top d);
  }
  both_above c d (suc y) agree =
      let before = both_above c d y (record { wide = agree.wide; each = λ x z inside below. agree.each x z inside (omega (arith, below)) }) in
      let cur = cell_row c y in
      let long = cell_row_long c y in
      let row : y + 2 ≡ suc (suc y) = omega arith in
      let next : y + 1 ≡ suc y = omega arith in
      let mine : Shows c (y + 2) cur c.width = subst (λ n. Shows c n cur c.width) (sym row) (record { each = λ x inside. cell_row_at c y x inside ∙ sym (seen_at c y x inside) }) in
      let other : Shows d (y + 2) cur d.width = subst (λ n. Shows d n cur d.width) (sym row) (record {
        each = λ x inside.
            let here : x < c.width = rw agree.wide inside in
            cell_row_at c y x here ∙ agree.each x y here (omega arith) ∙ sym (seen_at d y x inside);
      }) in
      record {
        two = before.one;
        one = cur;
        first = subst (λ n. Above c n before.one cur) next (laws.next c y before.two before.one cur before.first long mine);
        second = subst (λ n. Above d n before.one cur) next (laws.next d y before.two before.one cur before.second (long ∙ agree.wide) other);
      }

  -- the lines of a plane that are to come, above which the cells agree
  pub record Stands (c d : ℕ → Cell) (ls : List Line) (p : ℕ) : Type 0 where
    pub y : ℕ
    pub count : ℕ
    pub rows : rows_in p ls ≡ range_with_len y count
    pub agree : AgreeAbove (c p) (d p) y

  module _ (conf : Configuration) (h : SliceHead) (c d : ℕ → Cell) (some : (p : ℕ) → 0 < (c p).width) where
    stands_here : (p y : ℕ) (ls : List Line) → ((x : ℕ) → x < (c p).width → (c p).at x y ≡ (d p).at x y) → Stands c d (record { plane = p; y = y } ∷ ls) p → Stands c d ls p
    stands_here p y ls row stands =
        let here = counted y stands.y stands.count (rows_in p ls) (sym (ap (λ b. (if b then y ∷ [] else []) ++ rows_in p ls) (eq-eqb p p refl)) ∙ stands.rows) in
        record {
          y = suc y;
          count = here.less;
          rows = here.rest ∙ ap (λ n. range_with_len n here.less) (let next : stands.y + 1 ≡ suc y = omega (arith, here.here) in next);
          agree = record {
            wide = stands.agree.wide;
            each = λ x z inside below. elim (cases_lt z y) [
              | inl above ↦ stands.agree.each x z inside (omega (arith, above, here.here))
              | inr last ↦
                  let same : z ≡ y = omega (arith, below, last) in
                  subst (λ n. (c p).at x n ≡ (d p).at x n) (sym same) (row x inside)
            ];
          };
        }

    stands_beside : (p y j : ℕ) (ls : List Line) → j ≢ p → Stands c d (record { plane = p; y = y } ∷ ls) j → Stands c d ls j
    stands_beside p y j ls other stands =
        let apart : p ≢ j = λ e. other (sym e) in
        record {
          y = stands.y;
          count = stands.count;
          rows = sym (ap (λ b. (if b then y ∷ [] else []) ++ rows_in j ls) (ne_eqb p j apart)) ∙ stands.rows;
          agree = stands.agree;
        }

    -- one line is the same
    record LineSame (past : List Step) (p y : ℕ) (qs ps : List ℤ) : Type 0 where
      pub row : (x : ℕ) → x < (c p).width → (c p).at x y ≡ (d p).at x y
      pub steps : line_steps conf h c (record { plane = p; y = y }) qs ≡ line_steps conf h d (record { plane = p; y = y }) ps

    line_same : (past : List Step) (p y : ℕ) (qs ps : List ℤ) → AgreeAbove (c p) (d p) y → length qs ≡ (c p).width → length ps ≡ (d p).width →
        CodesRow bytes (coding_by a.table (set_in conf h p) (bits_of conf)) (base_of conf p) past (c p) y qs → CodesRow bytes (coding_by a.table (set_in conf h p) (bits_of conf)) (base_of conf p) past (d p) y ps → LineSame past p y qs ps
    line_same past p y qs ps agree long other f g =
        let above = both_above (c p) (d p) y agree in
        let any : 0 < length above.one = rw above.first.wide (some p) in
        let one = laws.one (base_of conf p) past (set_in conf h p) (bits_of conf) (c p) (d p) y y above.two above.one qs ps any above.first above.second (long ∙ agree.wide ∙ sym other) f g in
        let row : (x : ℕ) → x < (c p).width → (c p).at x y ≡ (d p).at x y = λ x inside.
        let there : x < (d p).width = rw (sym agree.wide) inside in
        sym (seen_at (c p) y x inside) ∙ one.1.each x (rw long inside) ∙ seen_at (d p) y x there in
        let all : Agree (c p) (d p) y = record {
          some = some p;
          wide = agree.wide;
          each = λ x z inside below. elim (cases_lt z y) [
            | inl above ↦ agree.each x z inside above
            | inr last ↦
                let same : z ≡ y = omega (arith, below, last) in
                subst (λ n. (c p).at x n ≡ (d p).at x n) (sym same) (row x inside)
          ];
        } in
        record {
          row = row;
          steps =
              ap (λ rs. shifted (base_of conf p) (row_steps (set_in conf h p) (c p) y 0 rs)) one.0
              ∙ ap (shifted (base_of conf p)) (laws.steps (set_in conf h p) (c p) (d p) y 0 ps all);
        }

    pub lines_same : (ls : List Line) (past xs ys : List Step) → IsBody conf h c ls xs → IsBody conf h d ls ys → ((p : ℕ) → Stands c d ls p) →
        Codes bytes (decisions_after a.table [] (past ++ xs)) → Codes bytes (decisions_after a.table [] (past ++ ys)) → (xs ≡ ys) × ShowSame c d ls
    unfolding IsBody
    lines_same [] past xs ys f g stands this that = (f ∙ sym g, tt)
    lines_same (l ∷ ls) past xs ys f g stands this that =
        let p = l.plane in
        let y = l.y in
        let mine = line_steps conf h c l f.0 in
        let other = line_steps conf h d l g.0 in
        let this_all : Codes bytes (decisions_after a.table [] ((past ++ mine) ++ f.1)) =
        subst (λ (z : List Step). Codes bytes (decisions_after a.table [] z)) (ap (λ z. past ++ z) f.5 ∙ sym (append_assoc past mine f.1)) this in
        let that_all : Codes bytes (decisions_after a.table [] ((past ++ other) ++ g.1)) =
        subst (λ (z : List Step). Codes bytes (decisions_after a.table [] z)) (ap (λ z. past ++ z) g.5 ∙ sym (append_assoc past other g.1)) that in
        let at = stands p in
        let here = counted y at.y at.count (rows_in p ls) (sym (ap (λ b. (if b then y ∷ [] else []) ++ rows_in p ls) (eq-eqb p p refl)) ∙ at.rows) in
        let agree : AgreeAbove (c p) (d p) y = subst (AgreeAbove (c p) (d p)) (sym here.here) at.agree in
        let same = line_same past p y f.0 g.0 agree f.2 g.2
        (record { suits = f.3; codes = laws.front (past ++ mine) f.1 this_all }) (record { suits = g.3; codes = laws.front (past ++ other) g.1 that_all }) in
        let that_here : Codes bytes (decisions_after a.table [] ((past ++ mine) ++ g.1)) =
        subst (λ (z : List Step). Codes bytes (decisions_after a.table [] ((past ++ z) ++ g.1))) (sym same.steps) that_all in
        let rest = lines_same ls (past ++ mine) f.1 g.1 f.4 g.4
        (λ j. elim (cases_eq j p) [
          | inl equal ↦ subst (Stands c d ls) (sym equal) (stands_here p y ls same.row at)
          | inr beside ↦ stands_beside p y j ls beside (stands j)
        ])
        this_all that_here in
        (f.5 ∙ ap (λ z. z ++ f.1) same.steps ∙ ap (λ z. other ++ z) rest.0 ∙ sym g.5, (same.row, rest.1))

beginning_range : (from count : ℕ) (xs ys : List ℕ) → range_with_len from count ≡ xs ++ ys → xs ≡ range_with_len from (length xs)
beginning_range from count [] ys e = refl
beginning_range from zero (x ∷ xs) ys e = cc
beginning_range from (suc count) (x ∷ xs) ys e =
    let here : from ≡ x = cc in
    let there : range_with_len (from + 1) count ≡ xs ++ ys = cc in
    ap (λ n. n ∷ xs) (sym here) ∙ ap (λ z. from ∷ z) (beginning_range (from + 1) count xs ys there)

no_rows : (c : Configuration) (r p : ℕ) (ls : List Line) → plane_count c ≤ p → Each (IsLineOf c r) ls → rows_in p ls ≡ []
no_rows c r p [] past all = refl
no_rows c r p (l ∷ ls) past all =
    let other : l.plane ≢ p = omega (arith, past, all.0.inside) in
    ap (λ b. (if b then l.y ∷ [] else []) ++ rows_in p ls) (ne_eqb l.plane p other) ∙ no_rows c r p ls past all.1

module _ (a : Accepted) (coded : ℕ → List ℕ) (n : ℕ) (laws : OnlyLaws a (coded n)) (sides : Sides a.configuration) where
  -- the rows of a plane among the first lines of a slice
  pub rows_begun : (read more : List Line) → lines_in a.configuration n ≡ read ++ more → (p : ℕ) → (count : ℕ) × (rows_in p read ≡ range_with_len 0 count)
  rows_begun read more parts p =
      let c = a.configuration in
      let r = n / c.columns in
      let split : rows_in p (row_lines c r) ≡ rows_in p read ++ rows_in p more = ap (rows_in p) parts ∙ flat_map-append (row_if p) read more in
      elim (cases_lt p (plane_count c)) [
        | inl inside ↦
            let all = rows_of_lines c p inside r (λ rct. lines_alike c sides rct p r) in
            (length (rows_in p read), beginning_range 0 (lines_down c p r) (rows_in p read) (rows_in p more) (sym all ∙ split))
        | inr past ↦
            let lines = lines_are_of c r (λ rct j. lines_alike c sides rct j r) in
            (0, no_rows c r p read (omega (arith, past)) (each_left (IsLineOf c r) read more (subst (Each (IsLineOf c r)) parts lines)))
      ]

  same_head : (q : Slice) (read : List Line) (known : CodesRead a coded n q read) → CodesHead (coded n) a.table a.profile a.configuration n q.head
  same_head q read known =
      let c = a.configuration in
      record {
        head = known.is_head;
        codes =
            laws.front (key_steps n ++ head_steps c n q.head) known.body
            (subst (λ (z : List Step). Codes (coded n) (decisions_after a.table [] z)) (known.past ∙ sym (append_assoc (key_steps n) (head_steps c n q.head) known.body)) known.codes);
      }

  pub record ReadSame (q r : Slice) (read : List Line) : Type 0 where
    pub head : q.head ≡ r.head
    pub past : q.past ≡ r.past
    pub shown : ShowSame (cells_of a.configuration n q) (cells_of a.configuration n r) read

  pub read_same : is_rice a.configuration.coder ≡ false → (q r : Slice) (read more : List Line) → n < a.configuration.columns * a.configuration.rows → lines_in a.configuration n ≡ read ++ more →
      ((g h : SliceHead) → CodesHead (coded n) a.table a.profile a.configuration n g → CodesHead (coded n) a.table a.profile a.configuration n h → g ≡ h) →
      CodesRead a coded n q read → CodesRead a coded n r read → ReadSame q r read
  read_same is q r read more inside parts one this that =
      let c = a.configuration in
      let k = n % c.columns in
      let here : k < c.columns = column_inside n c.columns sides.columns in
      let head : q.head ≡ r.head = one q.head r.head (same_head q read this) (same_head r read that) in
      let opening = key_steps n ++ head_steps c n q.head in
      let those : IsBody c q.head (cells_of c n r) read that.body = subst (λ h. IsBody c h (cells_of c n r) read that.body) (sym head) (that.is_body.range is) in
      let this_past : q.past ≡ opening ++ this.body = this.past ∙ sym (append_assoc (key_steps n) (head_steps c n q.head) this.body) in
      let that_past : r.past ≡ opening ++ that.body =
      that.past ∙ ap (λ h. key_steps n ++ (head_steps c n h ++ that.body)) (sym head) ∙ sym (append_assoc (key_steps n) (head_steps c n q.head) that.body) in
      let same = lines_same a (coded n) laws c q.head (cells_of c n q) (cells_of c n r) (λ p. (sides.columns_tile p).some k here) read opening this.body that.body (this.is_body.range is) those
      (λ p.
      let rows = rows_begun read more parts p in
      record { y = 0; count = rows.0; rows = rows.1; agree = record { wide = refl; each = λ x z inside below. absurd (omega (arith, below)) } })
      (subst (λ (z : List Step). Codes (coded n) (decisions_after a.table [] z)) this_past this.codes)
      (subst (λ (z : List Step). Codes (coded n) (decisions_after a.table [] z)) that_past that.codes) in
      record { head = head; past = this_past ∙ ap (λ z. opening ++ z) same.0 ∙ sym that_past; shown = same.1 }
