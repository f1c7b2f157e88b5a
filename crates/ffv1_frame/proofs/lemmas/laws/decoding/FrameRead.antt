-- If the bytes of all slices code a picture, decoding runs to its end.
use Rattle.std.proofs.Common.{◌≡◌, ◌≢◌, refl, ℕ, zero, suc, ◌+◌, ◌-◌, ◌*◌, ◌<◌, ◌≤◌, ◌⊎◌, Option, Some, None, List, [], ◌∷◌, ◌++◌, map, length, replicate, inl, inr, ap, sym, subst, ◌∙◌, arith, append-nil, append_assoc, length-append, get_or, get_or-append-add, length-set, get_or-set_same, get_or-set_other}
use Rattle.std.specs.List.{flat_map, range_with_len}
use Rattle.std.proofs.lemmas.Bool.{cases_eq}
use Rattle.std.proofs.lemmas.List.{length-replicate}
use Rattle.ffv1_range.specs.Codes.{Codes}
use Rattle.ffv1_range.specs.Symbols.{Step}
use Rattle.ffv1_range.specs.History.{decisions_after}
use Rattle.ffv1_record.specs.Accepted.{Accepted}
use Rattle.ffv1_slice.specs.declared.head.SliceHead.{SliceHead}
use Rattle.ffv1_slice.specs.Grid.{across, division_of, whole_of}
use Rattle.ffv1_slice.specs.Head.{IsHead, CodesHead, key_steps, head_steps}
use Rattle.ffv1_frame.specs.Sides.{HasPart}
use Rattle.ffv1_frame.specs.Picture.{Planes, IsPicture, plane, plane_count, coded_at}
use Rattle.ffv1_frame.specs.SliceList.{Said, said_by}
use Rattle.ffv1_frame.specs.Order.{row_events, series_events, series_of, lines_down}
use Rattle.ffv1_frame.specs.Order.Event.{Open, Close}
use Rattle.ffv1_frame.specs.Runs.{Runs}
use Rattle.ffv1_frame.specs.Lines.{lines_of, lines_of_series}
use Rattle.ffv1_frame.specs.Decoding.{State, Slice, StepsBy, AgreesWith, Decodes, at_first, slice_at, slice_number, width_in, left_of, top_of, put_slice, opened, unread}
use Rattle.ffv1_frame.proofs.lemmas.laws.decoding.Machines.{Each, runs_append}
use Rattle.ffv1_frame.proofs.lemmas.laws.decoding.LinesRead.{row_lines}
use Rattle.ffv1_frame.proofs.lemmas.laws.decoding.Groups.{groups_of, group_lines, group_out, groups_are, row_by_groups, lines_by_groups, out_by_groups}
use Rattle.ffv1_frame.proofs.lemmas.laws.decoding.LinesMade.{AllHave}
use Rattle.ffv1_frame.proofs.lemmas.laws.decoding.RowsDone.{opens, empty_cells}
use Rattle.ffv1_frame.proofs.lemmas.picture.Keys.{rows_of_lines}
use Rattle.ffv1_frame.proofs.lemmas.laws.decoding.PictureLines.{ColourLaws}
use Rattle.ffv1_frame.proofs.lemmas.laws.decoding.PictureMade.{PictureLaws, alike_lines, some_wide}
use Rattle.ffv1_frame.proofs.lemmas.laws.decoding.SlicesRead.{FrontLaws, Coding, cell_at}
use Rattle.ffv1_frame.proofs.lemmas.laws.decoding.RowsRead.{Standing, AllStand, AboveShows, line_shown, groups_go}
use Rattle.ffv1_frame.proofs.lemmas.laws.decoding.SliceBodies.{IsRead}
use Rattle.ffv1_frame.proofs.lemmas.laws.decoding.SlicesMade.{at_line}
use Rattle.ffv1_frame.specs.Overread.{IsWithin}
use Rattle.ffv1_frame.proofs.lemmas.laws.decoding.TooFar.{within_front}
use Rattle.ffv1_frame.proofs.lemmas.laws.decoding.SliceEnds.{end_within}
use Rattle.ffv1_frame.specs.CodedSlice.{IsBodyOf}
use Rattle.ffv1_frame.specs.RiceLines.{fresh_coder}
use Rattle.ffv1_frame.proofs.lemmas.laws.rice.BitBodies.{bits_none, after_none}
use Rattle.ffv1_frame.proofs.lemmas.laws.decoding.LastLine.{has_last, planes_some}

module _ (a : Accepted) (coded : ℕ → List ℕ) (planes : Planes) (info : Said) (r : ℕ) where
  -- the bytes code a slice of the picture
  pub record Known (k : ℕ) : Type 0 where
    pub head : SliceHead
    pub body : List Step
    pub is_head : IsHead a.profile a.configuration head
    pub says : said_by a.profile head ≡ info
    pub coding : Coding a coded planes r k head body
    pub is_body : IsBodyOf a.configuration head (cell_at a coded planes r k) (row_lines a.configuration r) body

  -- nothing was said before, or the same
  abbrev pub MaySay : Option Said → Type 0
  MaySay said = (said ≡ None) ⊎ (said ≡ Some info)

  agrees : (said : Option Said) (h : SliceHead) → MaySay said → said_by a.profile h ≡ info → AgreesWith said (said_by a.profile h)
  agrees said h may says = elim may [
    | inl none ↦ subst (λ i. AgreesWith i (said_by a.profile h)) (sym none) tt
    | inr some ↦ subst (λ i. AgreesWith i (said_by a.profile h)) (sym some) says
  ]

  module _ (laws : PictureLaws a) (front : (k : ℕ) → k < a.configuration.columns → FrontLaws a (coded (slice_number a.configuration r k)))
      (known : (k : ℕ) → k < a.configuration.columns → Known k) where
    codes_head : (k : ℕ) → k < a.configuration.columns → (w : Known k) → CodesHead (coded (slice_number a.configuration r k)) a.table a.profile a.configuration (slice_number a.configuration r k) w.head
    codes_head k inside w =
        let n = slice_number a.configuration r k in
        let c = a.configuration in
        record {
          head = w.is_head;
          codes =
              (front k inside).front (key_steps n ++ head_steps c n w.head) w.body
              (subst (λ (z : List Step). Codes (coded n) (decisions_after a.table [] z)) (sym (append_assoc (key_steps n) (head_steps c n w.head) w.body)) w.coding.codes);
        }

    opening_within : (k : ℕ) (w : Known k) → IsWithin a (coded (slice_number a.configuration r k)) (key_steps (slice_number a.configuration r k) ++ head_steps a.configuration (slice_number a.configuration r k) w.head)
    opening_within k w =
        let n = slice_number a.configuration r k in
        let c = a.configuration in
        within_front a (coded n) (key_steps n ++ head_steps c n w.head) w.body
        (subst (IsWithin a (coded n)) (sym (append_assoc (key_steps n) (head_steps c n w.head) w.body)) (end_within a (coded n) _ _ w.coding.ending))

    standing : (k : ℕ) → (w : Known k) → Standing a coded planes info r k (row_lines a.configuration r) (opened a coded (slice_number a.configuration r k) w.head)
    standing k w =
        let c = a.configuration in
        let n = slice_number c r k in
        record {
          head = w.head;
          body = w.body;
          says = w.says;
          coding = w.coding;
          stands = record {
            head = refl;
            many = length-replicate {A = List ℕ} (plane_count c) [];
            begun = λ p inside. record {
              y = 0;
              count = lines_down c p r;
              rows = rows_of_lines c p inside r (λ rct. alike_lines a laws rct p r);
              long = ap (λ (xs : List ℕ). length xs) (empty_cells a coded r (plane_count c) p) ∙ (let none : 0 ≡ 0 * width_in c p k = omega arith in none);
              shown = λ x z small below. absurd (omega (arith, below));
            };
            read = [];
            lines = refl;
            before = [];
            rest = w.body;
            whole = refl;
            is_rest = w.is_body;
            bits = λ is. sym (bits_none c w.head (cell_at a coded planes r k) fresh_coder);
            coder = λ is. sym (after_none c w.head (cell_at a coded planes r k) fresh_coder);
            past = ap (λ z. key_steps n ++ z) (sym (append-nil (head_steps c n w.head)));
          };
        }

    pub record OpensGo (from count : ℕ) (s : State) : Type 0 where
      pub end : State
      pub runs : Runs (StepsBy a coded) s (map (Open r) (range_with_len from count)) end
      pub stand : (k : ℕ) → from ≤ k → k < from + count → Standing a coded planes info r k (row_lines a.configuration r) (slice_at end k)
      pub before : (k : ℕ) → k < from → slice_at end k ≡ slice_at s k
      pub long : length end.columns ≡ length s.columns
      pub lines : end.lines ≡ s.lines
      pub says : 0 < count → end.info ≡ Some info
      pub kept : s.info ≡ Some info → end.info ≡ Some info

    pub opens_go : (from count : ℕ) (s : State) → from + count ≤ a.configuration.columns → length s.columns ≡ a.configuration.columns → MaySay s.info → OpensGo from count s
    opens_go from zero s fits long may = record {
      end = s;
      runs = refl;
      stand = λ k least most. absurd (omega (arith, least, most));
      before = λ k below. refl;
      long = refl;
      lines = refl;
      says = λ some. absurd (omega (arith, some));
      kept = λ is. is;
    }
    opens_go from (suc count) s fits long may =
        let c = a.configuration in
        let n = slice_number c r from in
        let inside : from < c.columns = omega (arith, fits) in
        let w = known from inside in
        let q = opened a coded n w.head in
        let m = put_slice (record s { info = Some (said_by a.profile w.head) }) from q in
        let m_says : Some (said_by a.profile w.head) ≡ Some info = ap Some w.says in
        let m_long : length m.columns ≡ c.columns = length-set s.columns from q ∙ long in
        let rest = opens_go (from + 1) count m (omega (arith, fits)) m_long (inr m_says) in
        let place : from < length s.columns = rw long inside in
        let here : slice_at rest.end from ≡ q = rest.before from (omega arith) ∙ get_or-set_same s.columns from q unread place in
        record {
          end = rest.end;
          runs = (m, (w.head, codes_head from inside w, agrees s.info w.head may w.says, refl, opening_within from w), rest.runs);
          stand = λ k least most. elim (cases_eq k from) [
            | inl same ↦
                subst (λ j. Standing a coded planes info r j (row_lines c r) (slice_at rest.end j)) (sym same)
                (subst (Standing a coded planes info r from (row_lines c r)) (sym here) (standing from w))
            | inr other ↦ rest.stand k (omega (arith, least, other)) (omega (arith, most))
          ];
          before = λ k below.
              let other : k ≢ from = omega (arith, below) in
              rest.before k (omega (arith, below)) ∙ get_or-set_other s.columns from k q unread other;
          long = rest.long ∙ m_long ∙ sym long;
          lines = rest.lines;
          says = λ some. rest.kept m_says;
          kept = λ is. rest.kept m_says;
        }

    pub record RowGoes (s : State) : Type 0 where
      pub end : State
      pub runs : Runs (StepsBy a coded) s (row_events a.configuration r) end
      pub lines : end.lines ≡ s.lines ++ flat_map (lines_of_series a.configuration planes r) (series_of a.configuration r)
      pub says : end.info ≡ Some info
      pub deep : length end.done ≡ suc r * a.configuration.columns
      pub shows : (k p x : ℕ) → k < a.configuration.columns → p < plane_count a.configuration → x < width_in a.configuration p k →
          get_or (plane (get_or end.done (slice_number a.configuration r k) unread).cells p) ((lines_down a.configuration p r - 1) * width_in a.configuration p k + x) 0
          ≡ coded_at a.configuration planes p (left_of a.configuration p k + x) (top_of a.configuration p r + (lines_down a.configuration p r - 1))
      pub columns : end.columns ≡ replicate a.configuration.columns unread

    pub row_goes : IsPicture a.configuration planes → ((p x : ℕ) → x < whole_of (across (division_of a.configuration) p) → HasPart (across (division_of a.configuration) p) x) → ColourLaws → r < a.configuration.rows →
        (s : State) → s.columns ≡ replicate a.configuration.columns unread → MaySay s.info → length s.done ≡ r * a.configuration.columns → AboveShows a coded planes info r s.done → RowGoes s
    row_goes picture part colours inside s fresh may deep above =
        let c = a.configuration in
        let long : length s.columns ≡ c.columns = ap (λ qs. length qs) fresh ∙ length-replicate {A = Slice} c.columns unread in
        let open_all = opens_go 0 c.columns s (omega arith) long may in
        let o = open_all.end in
        let o_long : length o.columns ≡ c.columns = open_all.long ∙ long in
        let done = opens a coded r 0 c.columns s o (omega (arith, long)) open_all.runs in
        let have : AllHave a coded r laws.cells (some_wide a laws) [] o = λ k inside. (done.each k (omega arith) (omega (arith, inside))).0 in
        let gs = groups_of c r in
        let groups = groups_are c r (λ rct p. alike_lines a laws rct p r) in
        let stand : AllStand a coded planes info r (λ k. flat_map group_lines gs) o = λ k inside.
        subst (λ ls. Standing a coded planes info r k ls (slice_at o k)) (lines_by_groups c r) (open_all.stand k (omega arith) (omega (arith, inside))) in
        let last = has_last c r (λ rct p. alike_lines a laws rct p r) (planes_some c) (λ p. (laws.tiles_v p).some r inside) in
        let go = groups_go a coded planes info r laws.cells front (some_wide a laws) last picture laws.tiles_h laws.tiles_v part colours laws.in_rct inside gs [] o groups o_long
        (subst (AboveShows a coded planes info r) (sym done.done) above) stand have in
        let e = go.end in
        let e_done : length e.done ≡ r * c.columns = ap (λ (qs : List Slice). length qs) (go.done ∙ done.done) ∙ deep in
        let e_long : length e.columns ≡ c.columns = go.long ∙ o_long in
        let closed : State = record e { done = e.done ++ e.columns; columns = replicate c.columns unread } in
        let run : Runs (StepsBy a coded) o (flat_map (series_events c r) (series_of c r)) e =
        subst (λ es. Runs (StepsBy a coded) o es e) (sym (row_by_groups c r)) go.runs in
        record {
          end = closed;
          runs =
              runs_append (StepsBy a coded) s o closed (map (Open r) (range_with_len 0 c.columns)) (flat_map (series_events c r) (series_of c r) ++ (Close ∷ [])) open_all.runs
              (runs_append (StepsBy a coded) o e closed (flat_map (series_events c r) (series_of c r)) (Close ∷ []) run (closed, refl, refl));
          lines = go.lines ∙ ap (λ ls. ls ++ flat_map (group_out c planes r) gs) open_all.lines ∙ ap (λ ls. s.lines ++ ls) (sym (out_by_groups c planes r));
          says = go.info_same ∙ open_all.says laws.columns;
          deep =
              let all = length-append e.done e.columns in
              let more : suc r * c.columns ≡ r * c.columns + c.columns = omega arith in
              omega (arith, all, e_done, e_long, more);
          shows = λ k p x k_inside p_inside small.
              let w = width_in c p k in
              let high = lines_down c p r in
              let tall = (laws.tiles_v p).some r inside in
              let here : get_or (e.done ++ e.columns) (slice_number c r k) unread ≡ slice_at e k =
              ap (λ n. get_or (e.done ++ e.columns) (n + k) unread) (sym e_done) ∙ get_or-append-add {A = Slice} e.done e.columns k unread in
              let are : Each (IsRead a coded r k (slice_at e k)) (row_lines c r) = subst (Each (IsRead a coded r k (slice_at e k))) (sym (lines_by_groups c r)) (go.have k k_inside).are in
              let is = at_line c (IsRead a coded r k (slice_at e k)) r p (high - 1) (λ rct. alike_lines a laws rct p r) p_inside (omega (arith, tall)) are in
              ap (λ (q : Slice). get_or (plane q.cells p) ((high - 1) * w + x) 0) here
              ∙ line_shown a coded planes info r laws.cells front (some_wide a laws) last laws.tiles_h laws.tiles_v inside k p (high - 1) x [] (slice_at e k) k_inside p_inside (go.stand k k_inside) is small;
          columns = refl;
        }

-- decoding to the end hands over the picture
pub record FrameGoes (a : Accepted) (coded : ℕ → List ℕ) (planes : Planes) (info : Said) : Type 0 where
  pub end : State
  pub decodes : Decodes a coded end
  pub says : end.info ≡ Some info
  pub lines : end.lines ≡ lines_of a.configuration planes

module _ (a : Accepted) (coded : ℕ → List ℕ) (planes : Planes) (info : Said) (laws : PictureLaws a)
    (front : (r k : ℕ) → r < a.configuration.rows → k < a.configuration.columns → FrontLaws a (coded (slice_number a.configuration r k)))
    (known : (r k : ℕ) → r < a.configuration.rows → k < a.configuration.columns → Known a coded planes info r k) (picture : IsPicture a.configuration planes)
    (part : (p x : ℕ) → x < whole_of (across (division_of a.configuration) p) → HasPart (across (division_of a.configuration) p) x) (colours : ColourLaws) where
  pub record RowsGo (from count : ℕ) (s : State) : Type 0 where
    pub end : State
    pub runs : Runs (StepsBy a coded) s (flat_map (row_events a.configuration) (range_with_len from count)) end
    pub lines : end.lines ≡ s.lines ++ flat_map (λ r. flat_map (lines_of_series a.configuration planes r) (series_of a.configuration r)) (range_with_len from count)
    pub says : 0 < count → end.info ≡ Some info
    pub kept : s.info ≡ Some info → end.info ≡ Some info

  rows_go : (from count : ℕ) (s : State) → from + count ≤ a.configuration.rows → s.columns ≡ replicate a.configuration.columns unread → MaySay a coded planes info 0 s.info →
      length s.done ≡ from * a.configuration.columns → AboveShows a coded planes info from s.done → RowsGo from count s
  rows_go from zero s fits fresh may deep above = record { end = s; runs = refl; lines = sym (append-nil s.lines); says = λ some. absurd (omega (arith, some)); kept = λ is. is }
  rows_go from (suc count) s fits fresh may deep above =
      let c = a.configuration in
      let inside : from < c.rows = omega (arith, fits) in
      let first = row_goes a coded planes info from laws (λ k. front from k inside) (λ k. known from k inside) picture part colours inside s fresh may deep above in
      let last : from + 1 - 1 ≡ from = omega arith in
      let next : suc from * c.columns ≡ (from + 1) * c.columns = omega arith in
      let below : AboveShows a coded planes info (from + 1) first.end.done = λ k p x any k_inside p_inside small.
      subst (λ n. get_or (plane (get_or first.end.done (slice_number c n k) unread).cells p) ((lines_down c p n - 1) * width_in c p k + x) 0
      ≡ coded_at c planes p (left_of c p k + x) (top_of c p n + (lines_down c p n - 1))) (sym last) (first.shows k p x k_inside p_inside small) in
      let rest = rows_go (from + 1) count first.end (omega (arith, fits)) first.columns (inr first.says) (first.deep ∙ next) below in
      let here = flat_map (lines_of_series c planes from) (series_of c from) in
      let more = flat_map (λ r. flat_map (lines_of_series c planes r) (series_of c r)) (range_with_len (from + 1) count) in
      record {
        end = rest.end;
        runs = runs_append (StepsBy a coded) s first.end rest.end (row_events c from) (flat_map (row_events c) (range_with_len (from + 1) count)) first.runs rest.runs;
        lines = rest.lines ∙ ap (λ ls. ls ++ more) first.lines ∙ append_assoc s.lines here more;
        says = λ some. rest.kept first.says;
        kept = λ is. rest.kept first.says;
      }

  pub frame_goes : FrameGoes a coded planes info
  frame_goes =
      let go = rows_go 0 a.configuration.rows (at_first a.configuration) (omega arith) refl (inl refl) (omega arith) (λ k p x any k_inside p_inside small. absurd (omega (arith, any))) in
      record { end = go.end; decodes = go.runs; says = go.says laws.rows; lines = go.lines }
