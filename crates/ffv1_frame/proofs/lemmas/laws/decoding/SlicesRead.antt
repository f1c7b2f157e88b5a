-- If the bytes code the slices of a picture, each slice reads its lines.
use Rattle.std.proofs.Common.{◌≡◌, ◌≢◌, refl, ℕ, ℤ, suc, ◌+◌, ◌*◌, ◌^◌, ◌<◌, true, false, if◌then◌else◌, List, [], ◌∷◌, ◌++◌, map, length, get_or, set, inl, inr, ap, sym, subst, ◌∙◌, arith, append-nil, append_assoc, length-append, length-set}
use Rattle.std.specs.List.{range_with_len}
use Rattle.std.proofs.lemmas.Bool.{cases_lt, cases_eq, eq-eqb, ne_eqb, cases_Bool}
use Rattle.std.proofs.lemmas.List.{get_or_append_left, get_or-append-add}
use Rattle.std.proofs.lemmas.List.FromFn.{length-map-range_with_len, get_or-map-range_with_len}
use Rattle.ffv1_range.specs.Codes.{Codes}
use Rattle.ffv1_range.specs.Symbols.{Step, shifted}
use Rattle.ffv1_range.specs.History.{decisions_after}
use Rattle.ffv1_line.specs.Cell.{Cell, Agree, cell_of}
use Rattle.ffv1_line.specs.Row.{AreSuiting, row_steps}
use Rattle.ffv1_record.specs.Accepted.{Accepted}
use Rattle.ffv1_slice.specs.declared.head.SliceHead.{SliceHead}
use Rattle.ffv1_slice.specs.Head.{key_steps, head_steps}
use Rattle.ffv1_frame.specs.Picture.{Planes, plane, plane_count, coded_at}
use Rattle.ffv1_frame.specs.SliceList.{Line, IsBody, line_steps, set_in, bits_of, base_of}
use Rattle.ffv1_frame.specs.Decoding.{Slice, ReadsLine, slice_number, width_in, left_of, top_of, after_line, steps_of_line, bits_of_line, coder_of_line}
use Rattle.ffv1_frame.proofs.lemmas.laws.decoding.OneLine.{in_rows}
use Rattle.ffv1_frame.proofs.lemmas.laws.decoding.SliceBodies.{CellLaws, plane_put, plane_beside}
use Rattle.ffv1_frame.proofs.lemmas.picture.PlanesMade.{rows_in, counted}
use Rattle.ffv1_frame.specs.Order.{IsLastLine}
use Rattle.ffv1_frame.specs.Overread.{IsWithin}
use Rattle.ffv1_frame.specs.Ending.{HasEnding, HasPadding, IsBehind, SliceEnds}
use Rattle.ffv1_frame.specs.CodedSlice.{IsBodyOf}
use Rattle.ffv1_frame.specs.RiceLines.{fresh_coder, line_bits, line_after, lines_bits, lines_after, rice_bits}
use Rattle.ffv1_record.specs.Accepted.{is_rice}
use Rattle.ffv1_frame.proofs.lemmas.Coders.{by_range, by_rice, not_both_coders}
use Rattle.ffv1_frame.proofs.lemmas.laws.rice.BitBodies.{bits_append, after_append, bits_none, after_none, bits_first, after_first, same_rows, same_bits, same_after, bits_added, after_added}
use Rattle.ffv1_frame.proofs.lemmas.laws.decoding.TooFar.{within_front}
use Rattle.ffv1_frame.proofs.lemmas.laws.decoding.SliceEnds.{end_within}
use Rattle.ffv1_frame.proofs.lemmas.laws.decoding.LinesRead.{row_lines}
use Rattle.ffv1_frame.proofs.lemmas.laws.decoding.LastLine.{HasLast, last_ends}

-- the laws of decisions
pub record FrontLaws (a : Accepted) (bytes : List ℕ) : Type 0 where
  pub front : (xs ys : List Step) → Codes bytes (decisions_after a.table [] (xs ++ ys)) → Codes bytes (decisions_after a.table [] xs)

module _ (a : Accepted) (coded : ℕ → List ℕ) (planes : Planes) (r k : ℕ) where
  -- the cell of the slice in plane p
  abbrev pub cell_at : ℕ → Cell
  cell_at p = record {
    width = width_in a.configuration p k;
    at = λ x y. coded_at a.configuration planes p (left_of a.configuration p k + x) (top_of a.configuration p r + y);
  }

  -- of plane p the rows above row y were read, and these are to come
  pub record Begun (more : List Line) (q : Slice) (p : ℕ) : Type 0 where
    pub y : ℕ
    pub count : ℕ
    pub rows : rows_in p more ≡ range_with_len y count
    pub long : length (plane q.cells p) ≡ y * width_in a.configuration p k
    pub shown : (x z : ℕ) → x < width_in a.configuration p k → z < y → get_or (plane q.cells p) (z * width_in a.configuration p k + x) 0 ≡ (cell_at p).at x z

  -- what the bytes code of the slice
  pub record Coding (h : SliceHead) (body : List Step) : Type 0 where
    pub codes : Codes (coded (slice_number a.configuration r k)) (decisions_after a.table []
        (key_steps (slice_number a.configuration r k) ++ (head_steps a.configuration (slice_number a.configuration r k) h ++ body)))
    pub ending : SliceEnds a (coded (slice_number a.configuration r k))
        (key_steps (slice_number a.configuration r k) ++ (head_steps a.configuration (slice_number a.configuration r k) h ++ body))
        (rice_bits a.configuration h cell_at (row_lines a.configuration r))
    pub small : (p x y : ℕ) → (cell_at p).at x y < 2 ^ bits_of a.configuration

  -- the slice stands before these lines of its list
  pub record StandsBefore (h : SliceHead) (body : List Step) (more : List Line) (q : Slice) : Type 0 where
    pub head : q.head ≡ h
    pub many : length q.cells ≡ plane_count a.configuration
    pub begun : (p : ℕ) → p < plane_count a.configuration → Begun more q p
    pub read : List Line
    pub lines : row_lines a.configuration r ≡ read ++ more
    pub before : List Step
    pub rest : List Step
    pub whole : body ≡ before ++ rest
    pub is_rest : IsBodyOf a.configuration h cell_at more rest
    pub bits : is_rice a.configuration.coder ≡ true → q.bits ≡ rice_bits a.configuration h cell_at read
    pub coder : is_rice a.configuration.coder ≡ true → q.coder ≡ lines_after a.configuration h cell_at fresh_coder read
    pub past : q.past ≡ key_steps (slice_number a.configuration r k) ++ (head_steps a.configuration (slice_number a.configuration r k) h ++ before)

  -- a line that is read
  pub record Goes (h : SliceHead) (body : List Step) (p y : ℕ) (more : List Line) (q : Slice) : Type 0 where
    pub qs : List ℤ
    pub row : List ℕ
    pub reads : ReadsLine a coded (slice_number a.configuration r k) p (width_in a.configuration p k) y q qs row
    pub stands : StandsBefore h body more (after_line a coded q p (width_in a.configuration p k) y qs row)
    pub within : IsWithin a (coded (slice_number a.configuration r k)) (q.past ++ steps_of_line a coded q p (width_in a.configuration p k) y qs row)
    pub ending : IsLastLine a.configuration r p y → SliceEnds a (coded (slice_number a.configuration r k)) (q.past ++ steps_of_line a coded q p (width_in a.configuration p k) y qs row)
        (after_line a coded q p (width_in a.configuration p k) y qs row).bits
    pub shows : (x : ℕ) → x < width_in a.configuration p k → get_or row x 0 ≡ (cell_at p).at x y

  -- the residuals of the next line
  record Split (h : SliceHead) (l : Line) (more : List Line) (steps : List Step) : Type 0 where
    pub qs : List ℤ
    pub rest : List Step
    pub long : length qs ≡ width_in a.configuration l.plane k
    pub suits : AreSuiting (set_in a.configuration h l.plane) (bits_of a.configuration) (cell_at l.plane) l.y 0 qs
    pub is_rest : IsBody a.configuration h cell_at more rest
    pub parts : steps ≡ line_steps a.configuration h cell_at l qs ++ rest

  split : (h : SliceHead) (l : Line) (more : List Line) (steps : List Step) → IsBody a.configuration h cell_at (l ∷ more) steps → Split h l more steps
  unfolding IsBody
  split h l more steps f = record { qs = f.0; rest = f.1; long = f.2; suits = f.3; is_rest = f.4; parts = f.5 }

  nothing_left : (h : SliceHead) (more : List Line) (steps : List Step) → more ≡ [] → IsBody a.configuration h cell_at more steps → steps ≡ []
  unfolding IsBody
  nothing_left h [] steps none f = f
  nothing_left h (l ∷ more) steps none f = cc

  -- the row of the cell
  abbrev pub row_of : ℕ → ℕ → List ℕ
  row_of p y = map (λ x. (cell_at p).at x y) (range_with_len 0 (width_in a.configuration p k))

  row_of_long : (p y : ℕ) → length (row_of p y) ≡ width_in a.configuration p k
  row_of_long p y = length-map-range_with_len (λ x. (cell_at p).at x y) 0 (width_in a.configuration p k)

  row_of_at : (p y x : ℕ) → x < width_in a.configuration p k → get_or (row_of p y) x 0 ≡ (cell_at p).at x y
  row_of_at p y x inside = get_or-map-range_with_len (λ x. (cell_at p).at x y) 0 (width_in a.configuration p k) x x 0 inside (omega arith)

  -- with it the samples show one row more
  shown_more : (p y : ℕ) (samples : List ℕ) → length samples ≡ y * width_in a.configuration p k →
      ((x z : ℕ) → x < width_in a.configuration p k → z < y → get_or samples (z * width_in a.configuration p k + x) 0 ≡ (cell_at p).at x z) →
      (x z : ℕ) → x < width_in a.configuration p k → z < suc y → get_or (samples ++ row_of p y) (z * width_in a.configuration p k + x) 0 ≡ (cell_at p).at x z
  shown_more p y samples long shown x z inside below =
      let width = width_in a.configuration p k in
      elim (cases_lt z y) [
        | inl above ↦
            let place : z * width + x < length samples = rw long (in_rows width x z y inside above) in
            get_or_append_left samples (row_of p y) 0 (z * width + x) place ∙ shown x z inside above
        | inr here ↦
            let same : z ≡ y = omega (arith, below, here) in
            ap (λ n. get_or (samples ++ row_of p y) (n * width + x) 0) same
            ∙ ap (λ n. get_or (samples ++ row_of p y) (n + x) 0) (sym long)
            ∙ get_or-append-add samples (row_of p y) x 0
            ∙ row_of_at p y x inside
            ∙ ap (λ n. (cell_at p).at x n) (sym same)
      ]

  begun_after : (h : SliceHead) (p y : ℕ) (more : List Line) (q t : Slice) → p < length q.cells →
      (now : t.cells ≡ set q.cells p (plane q.cells p ++ row_of p y)) → Begun (record { plane = p; y = y } ∷ more) q p → Begun more t p
  begun_after h p y more q t inside now begun =
      let here = counted y begun.y begun.count (rows_in p more)
      (sym (ap (λ b. (if b then y ∷ [] else []) ++ rows_in p more) (eq-eqb p p refl)) ∙ begun.rows) in
      let samples : plane t.cells p ≡ plane q.cells p ++ row_of p y = ap (λ cells. plane cells p) now ∙ plane_put q.cells p (plane q.cells p ++ row_of p y) inside in
      let width = width_in a.configuration p k in
      let long : length (plane q.cells p) ≡ y * width = begun.long ∙ ap (λ n. n * width) (sym here.here) in
      record {
        y = suc y;
        count = here.less;
        rows = here.rest ∙ ap (λ n. range_with_len n here.less) (let next : begun.y + 1 ≡ suc y = omega (arith, here.here) in next);
        long =
            ap (λ (xs : List ℕ). length xs) samples ∙ length-append (plane q.cells p) (row_of p y)
            ∙ (let row = row_of_long p y in let sum : length (plane q.cells p) + length (row_of p y) ≡ suc y * width = omega (arith, long, row) in sum);
        shown = λ x z small below.
            ap (λ xs. get_or xs (z * width + x) 0) samples
            ∙ shown_more p y (plane q.cells p) long (λ x z small above. begun.shown x z small (omega (arith, above, here.here))) x z small below;
      }

  begun_beside : (p y j : ℕ) (more : List Line) (q t : Slice) (xs : List ℕ) → j ≢ p → t.cells ≡ set q.cells p xs → Begun (record { plane = p; y = y } ∷ more) q j → Begun more t j
  begun_beside p y j more q t xs other now begun =
      let apart : p ≢ j = λ e. other (sym e) in
      let same : plane t.cells j ≡ plane q.cells j = ap (λ cells. plane cells j) now ∙ plane_beside q.cells p j xs other in
      record {
        y = begun.y;
        count = begun.count;
        rows = sym (ap (λ b. (if b then y ∷ [] else []) ++ rows_in j more) (ne_eqb p j apart)) ∙ begun.rows;
        long = ap (λ (xs : List ℕ). length xs) same ∙ begun.long;
        shown = λ x z small below. ap (λ xs. get_or xs (z * width_in a.configuration j k + x) 0) same ∙ begun.shown x z small below;
      }

  module _ (laws : CellLaws) (front : FrontLaws a (coded (slice_number a.configuration r k))) (some : (p : ℕ) → 0 < width_in a.configuration p k) (last : HasLast a.configuration r) where
    -- the next line of the list is read by its residuals
    coded_goes : is_rice a.configuration.coder ≡ false → (h : SliceHead) (body : List Step) (p y : ℕ) (more : List Line) (q : Slice) → Coding h body → p < plane_count a.configuration →
        StandsBefore h body (record { plane = p; y = y } ∷ more) q → Goes h body p y more q
    coded_goes is h body p y more q coding inside stands =
        let c = a.configuration in
        let n = slice_number c r k in
        let width = width_in c p k in
        let l : Line = record { plane = p; y = y } in
        let parts = split h l more stands.rest (stands.is_rest.range is) in
        let begun = stands.begun p inside in
        let here = counted y begun.y begun.count (rows_in p more)
        (sym (ap (λ b. (if b then y ∷ [] else []) ++ rows_in p more) (eq-eqb p p refl)) ∙ begun.rows) in
        let samples = plane q.cells p in
        let long : length samples ≡ y * width = begun.long ∙ ap (λ n. n * width) (sym here.here) in
        let row = row_of p y in
        let agree : Agree (cell_at p) (cell_of width (samples ++ row)) y = record {
          some = some p;
          wide = refl;
          each = λ x z small below.
              sym (shown_more p y samples long (λ x z small above. begun.shown x z small (omega (arith, above, here.here))) x z small below);
        } in
        let set = set_in c h p in
        let same_steps : row_steps set (cell_at p) y 0 parts.qs ≡ row_steps set (cell_of width (samples ++ row)) y 0 parts.qs =
        laws.steps set (cell_at p) (cell_of width (samples ++ row)) y 0 parts.qs agree in
        let steps = steps_of_line a coded q p width y parts.qs row in
        let steps_is : line_steps c h cell_at l parts.qs ≡ steps =
        ap (shifted (base_of c p)) same_steps ∙ ap (λ (g : SliceHead). shifted (base_of c p) (row_steps (set_in c g p) (cell_of width (samples ++ row)) y 0 parts.qs)) (sym stands.head) in
        let old = key_steps n ++ (head_steps c n h ++ stands.before) in
        let whole : key_steps n ++ (head_steps c n h ++ body) ≡ (q.past ++ steps) ++ parts.rest =
        ap (λ z. key_steps n ++ (head_steps c n h ++ z)) stands.whole
        ∙ ap (λ z. key_steps n ++ (head_steps c n h ++ (stands.before ++ z))) (parts.parts ∙ ap (λ z. z ++ parts.rest) steps_is)
        ∙ ap (λ z. key_steps n ++ z) (sym (append_assoc (head_steps c n h) stands.before (steps ++ parts.rest)))
        ∙ sym (append_assoc (key_steps n) (head_steps c n h ++ stands.before) (steps ++ parts.rest))
        ∙ ap (λ z. z ++ (steps ++ parts.rest)) (sym stands.past)
        ∙ sym (append_assoc q.past steps parts.rest) in
        let codes : Codes (coded n) (decisions_after a.table [] (q.past ++ steps)) =
        front.front (q.past ++ steps) parts.rest (subst (λ (z : List Step). Codes (coded n) (decisions_after a.table [] z)) whole coding.codes) in
        let suits : AreSuiting set (bits_of c) (cell_of width (samples ++ row)) y 0 parts.qs =
        laws.suits set (bits_of c) (cell_at p) (cell_of width (samples ++ row)) y 0 parts.qs agree parts.suits in
        let t = after_line a coded q p width y parts.qs row in
        let place : p < length q.cells = rw stands.many inside in
        record {
          qs = parts.qs;
          row = row;
          shows = λ x small. row_of_at p y x small;
          reads = record {
            above = long;
            long = by_range is parts.long;
            row_long = row_of_long p y;
            codes = by_range is (record {
              suits = subst (λ (g : SliceHead). AreSuiting (set_in c g p) (bits_of c) (cell_of width (samples ++ row)) y 0 parts.qs) (sym stands.head) suits;
              codes = codes;
            });
          };
          stands = record {
            head = stands.head;
            many = length-set q.cells p (samples ++ row) ∙ stands.many;
            begun = λ j below. elim (cases_eq j p) [
              | inl same ↦ subst (Begun more t) (sym same) (begun_after h p y more q t place refl begun)
              | inr other ↦ begun_beside p y j more q t (samples ++ row) other refl (stands.begun j below)
            ];
            read = stands.read ++ (l ∷ []);
            lines = stands.lines ∙ sym (append_assoc stands.read (l ∷ []) more);
            before = stands.before ++ steps;
            rest = parts.rest;
            whole = stands.whole ∙ ap (λ z. stands.before ++ z) (parts.parts ∙ ap (λ z. z ++ parts.rest) steps_is) ∙ sym (append_assoc stands.before steps parts.rest);
            is_rest = by_range is parts.is_rest;
            bits = λ other. absurd (not_both_coders other is);
            coder = λ other. absurd (not_both_coders other is);
            past =
                ap (λ z. z ++ steps) stands.past ∙ append_assoc (key_steps n) (head_steps c n h ++ stands.before) steps
                ∙ ap (λ z. key_steps n ++ z) (append_assoc (head_steps c n h) stands.before steps);
          };
          within = within_front a (coded n) (q.past ++ steps) parts.rest (subst (IsWithin a (coded n)) whole (end_within a (coded n) _ _ coding.ending));
          ending = λ ends.
              let none : parts.rest ≡ [] = nothing_left h more parts.rest (last_ends c r stands.read l more last stands.lines ends) parts.is_rest in
              by_range is (subst (HasEnding a (coded n)) (whole ∙ ap (λ z. (q.past ++ steps) ++ z) none ∙ append-nil (q.past ++ steps)) (coding.ending.range is));
        }

    -- or by its bits
    bits_go : is_rice a.configuration.coder ≡ true → (h : SliceHead) (body : List Step) (p y : ℕ) (more : List Line) (q : Slice) → Coding h body → p < plane_count a.configuration →
        StandsBefore h body (record { plane = p; y = y } ∷ more) q → Goes h body p y more q
    bits_go is h body p y more q coding inside stands =
        let c = a.configuration in
        let n = slice_number c r k in
        let width = width_in c p k in
        let l : Line = record { plane = p; y = y } in
        let begun = stands.begun p inside in
        let here = counted y begun.y begun.count (rows_in p more)
        (sym (ap (λ b. (if b then y ∷ [] else []) ++ rows_in p more) (eq-eqb p p refl)) ∙ begun.rows) in
        let samples = plane q.cells p in
        let long : length samples ≡ y * width = begun.long ∙ ap (λ n. n * width) (sym here.here) in
        let row = row_of p y in
        let agree : Agree (cell_at p) (cell_of width (samples ++ row)) y = record {
          some = some p;
          wide = refl;
          each = λ x z small below.
              sym (shown_more p y samples long (λ x z small above. begun.shown x z small (omega (arith, above, here.here))) x z small below);
        } in
        let t = after_line a coded q p width y [] row in
        let place : p < length q.cells = rw stands.many inside in
        let beside : ℕ → Cell = λ j. cell_of width (samples ++ row) in
        let rows = same_rows (cell_at p) (cell_of width (samples ++ row)) y agree in
        let mine = bits_of_line true c q p width y row in
        let line_is : line_bits c h cell_at q.coder l ≡ mine =
        ap (λ g. line_bits c g cell_at q.coder l) (sym stands.head) ∙ same_bits c q.head cell_at beside q.coder l rows
        ∙ bits_added c q.head beside q.coder p width y samples row long (row_of_long p y) refl in
        let after_is : line_after c h cell_at q.coder l ≡ coder_of_line true c q p width y row =
        ap (λ g. line_after c g cell_at q.coder l) (sym stands.head) ∙ same_after c q.head cell_at beside q.coder l rows
        ∙ after_added c q.head beside q.coder p width y samples row long (row_of_long p y) refl in
        let later = lines_bits c h cell_at (line_after c h cell_at q.coder l) more in
        let all : rice_bits c h cell_at (row_lines c r) ≡ q.bits ++ (mine ++ later) =
        ap (rice_bits c h cell_at) stands.lines ∙ bits_append c h cell_at fresh_coder stands.read (l ∷ more)
        ∙ ap (λ z. z ++ lines_bits c h cell_at (lines_after c h cell_at fresh_coder stands.read) (l ∷ more)) (sym (stands.bits is))
        ∙ ap (λ z. q.bits ++ lines_bits c h cell_at z (l ∷ more)) (sym (stands.coder is))
        ∙ ap (λ z. q.bits ++ z) (bits_first c h cell_at q.coder l more)
        ∙ ap (λ z. q.bits ++ (z ++ later)) line_is in
        let pad = coding.ending.rice is in
        let past_is : key_steps n ++ (head_steps c n h ++ body) ≡ q.past =
        ap (λ z. key_steps n ++ (head_steps c n h ++ z)) (stands.whole ∙ ap (λ z. stands.before ++ z) (stands.is_rest.rice is) ∙ append-nil stands.before) ∙ sym stands.past in
        let text = mine ++ (later ++ pad.rest) in
        let text_is : rice_bits c h cell_at (row_lines c r) ++ pad.rest ≡ q.bits ++ text =
        ap (λ z. z ++ pad.rest) all ∙ append_assoc q.bits (mine ++ later) pad.rest ∙ ap (λ z. q.bits ++ z) (append_assoc mine later pad.rest) in
        let behind : IsBehind a (coded n) q.past (q.bits ++ text) =
        subst (λ past. IsBehind a (coded n) past (q.bits ++ text)) past_is (subst (IsBehind a (coded n) (key_steps n ++ (head_steps c n h ++ body))) text_is pad.behind) in
        let now : t.bits ≡ q.bits ++ mine = ap (λ b. q.bits ++ bits_of_line b c q p width y row) is in
        let none : q.past ++ [] ≡ q.past = append-nil q.past in
        record {
          qs = [];
          row = row;
          shows = λ x small. row_of_at p y x small;
          reads = record {
            above = long;
            long = by_rice is refl;
            row_long = row_of_long p y;
            codes = by_rice is (record {
              text = text;
              rest = later ++ pad.rest;
              behind = behind;
              codes = record {
                samples = record {
                  each = λ x small.
                      let narrow : x < width = subst (λ m. x < m) (row_of_long p y) small in
                      rw (row_of_at p y x narrow) (coding.small p x y);
                };
                bits = refl;
              };
            });
          };
          stands = record {
            head = stands.head;
            many = length-set q.cells p (samples ++ row) ∙ stands.many;
            begun = λ j below. elim (cases_eq j p) [
              | inl same ↦ subst (Begun more t) (sym same) (begun_after h p y more q t place refl begun)
              | inr other ↦ begun_beside p y j more q t (samples ++ row) other refl (stands.begun j below)
            ];
            read = stands.read ++ (l ∷ []);
            lines = stands.lines ∙ sym (append_assoc stands.read (l ∷ []) more);
            before = stands.before;
            rest = stands.rest;
            whole = stands.whole;
            is_rest = by_rice is (stands.is_rest.rice is);
            bits = λ same.
                now ∙ ap (λ z. q.bits ++ z) (sym line_is) ∙ ap (λ z. z ++ line_bits c h cell_at q.coder l) (stands.bits is)
                ∙ ap (λ z. rice_bits c h cell_at stands.read ++ line_bits c h cell_at z l) (stands.coder is)
                ∙ ap (λ z. rice_bits c h cell_at stands.read ++ z) (sym (append-nil (line_bits c h cell_at (lines_after c h cell_at fresh_coder stands.read) l)))
                ∙ ap (λ z. rice_bits c h cell_at stands.read ++ (line_bits c h cell_at (lines_after c h cell_at fresh_coder stands.read) l ++ z)) (sym (bits_none c h cell_at (line_after c h cell_at (lines_after c h cell_at fresh_coder stands.read) l)))
                ∙ ap (λ z. rice_bits c h cell_at stands.read ++ z) (sym (bits_first c h cell_at (lines_after c h cell_at fresh_coder stands.read) l []))
                ∙ sym (bits_append c h cell_at fresh_coder stands.read (l ∷ []));
            coder = λ same.
                ap (λ b. coder_of_line b c q p width y row) is ∙ sym after_is ∙ ap (λ z. line_after c h cell_at z l) (stands.coder is)
                ∙ sym (after_none c h cell_at (line_after c h cell_at (lines_after c h cell_at fresh_coder stands.read) l))
                ∙ sym (after_first c h cell_at (lines_after c h cell_at fresh_coder stands.read) l [])
                ∙ sym (after_append c h cell_at fresh_coder stands.read (l ∷ []));
            past = none ∙ stands.past;
          };
          within = subst (IsWithin a (coded n)) (past_is ∙ sym none) pad.within;
          ending = λ ends.
              let over : more ≡ [] = last_ends c r stands.read l more last stands.lines ends in
              let nothing : later ≡ [] = ap (λ ls. lines_bits c h cell_at (line_after c h cell_at q.coder l) ls) over ∙ bits_none c h cell_at (line_after c h cell_at q.coder l) in
              let whole : rice_bits c h cell_at (row_lines c r) ≡ t.bits =
              all ∙ ap (λ z. q.bits ++ (mine ++ z)) nothing ∙ ap (λ z. q.bits ++ z) (append-nil mine) ∙ sym now in
              by_rice is (subst (λ past. HasPadding a (coded n) past t.bits) (past_is ∙ sym none) (subst (HasPadding a (coded n) (key_steps n ++ (head_steps c n h ++ body))) whole pad));
        }

    -- the next line of the list is read
    pub goes : (h : SliceHead) (body : List Step) (p y : ℕ) (more : List Line) (q : Slice) → Coding h body → p < plane_count a.configuration →
        StandsBefore h body (record { plane = p; y = y } ∷ more) q → Goes h body p y more q
    goes h body p y more q coding inside stands = elim (cases_Bool (is_rice a.configuration.coder)) [
      | inl is ↦ bits_go is h body p y more q coding inside stands
      | inr is ↦ coded_goes is h body p y more q coding inside stands
    ]
