-- If the bytes code a picture, decoding runs to its end.
use Rattle.std.proofs.Common.{◌≡◌, ◌≢◌, refl, ℕ, zero, suc, ◌+◌, ◌-◌, ◌*◌, ◌<◌, ◌≤◌, if◌then◌else◌, List, [], ◌∷◌, ◌++◌, map, length, get_or, inl, inr, ap, sym, subst, ◌∙◌, arith, append-nil, append_assoc, length-set, get_or-set_same, get_or-set_other}
use Rattle.std.specs.List.{flat_map, range_with_len}
use Rattle.std.proofs.Math.Nat.{mul-le-mul_left}
use Rattle.std.proofs.lemmas.Bool.{cases_lt, cases_eq, eq-eqb, ne_eqb}
use Rattle.ffv1_wire.specs.Runs as wire
use Rattle.ffv1_range.specs.Symbols.{Step}
use Rattle.ffv1_record.specs.Accepted.{Accepted}
use Rattle.ffv1_slice.specs.declared.head.SliceHead.{SliceHead}
use Rattle.ffv1_slice.specs.Grid.{across, down, division_of, begin_of, first_of, shared_of, whole_of}
use Rattle.ffv1_frame.specs.Sides.{HasPart, Tiles}
use Rattle.ffv1_frame.specs.Picture.{Planes, IsPicture, plane, plane_count, coded_at}
use Rattle.ffv1_frame.specs.SliceList.{Line, Said, said_by}
use Rattle.ffv1_frame.specs.Order.{Event, column_events, hand_events, lines_down, new_planes, numbered}
use Rattle.ffv1_frame.specs.Order.Event.{Read, Finish, Hand}
use Rattle.ffv1_frame.specs.Runs.{Runs}
use Rattle.ffv1_frame.specs.Lines.{line_in}
use Rattle.ffv1_frame.specs.Decoding.{State, Agrees, Slice, StepsBy, left_of, slice_at, slice_number, width_in, top_of, put_slice, after_line, steps_of_line, unread}
use Rattle.ffv1_frame.proofs.lemmas.laws.decoding.Machines.{each_right, Each, runs_append}
use Rattle.ffv1_frame.proofs.lemmas.laws.decoding.LinesRead.{reads_of, lines_at, columns_read}
use Rattle.ffv1_frame.proofs.lemmas.laws.decoding.LastLine.{HasLast}
use Rattle.ffv1_frame.proofs.lemmas.laws.decoding.Groups.{Group, IsGroup, group_events, group_lines, group_out}
use Rattle.ffv1_frame.proofs.lemmas.laws.decoding.SliceBodies.{CellLaws, HasRead, IsRead, read_later}
use Rattle.ffv1_frame.proofs.lemmas.laws.decoding.Agreed.{read_there}
use Rattle.ffv1_frame.proofs.lemmas.laws.decoding.LinesMade.{AllHave, column_of_row, goes_on, have_more, reads_of_row}
use Rattle.ffv1_frame.proofs.lemmas.picture.LineSizes.{by_number}
use Rattle.ffv1_frame.proofs.lemmas.laws.decoding.NewPlanes.{each_new}
use Rattle.ffv1_frame.proofs.lemmas.laws.decoding.CellsShown.{InRct, Shown, IsThere, picture_row}
use Rattle.ffv1_frame.proofs.lemmas.laws.decoding.PictureMade.{each_all}
use Rattle.ffv1_frame.proofs.lemmas.laws.decoding.PictureLines.{ColourLaws, picture_finishes}
use Rattle.ffv1_frame.proofs.lemmas.laws.decoding.SlicesRead.{FrontLaws, Coding, StandsBefore, goes, cell_at}

module _ (a : Accepted) (coded : ℕ → List ℕ) (planes : Planes) (info : Said) (r : ℕ) where
  -- a slice stands before these lines of a list that its bytes code
  pub record Standing (k : ℕ) (more : List Line) (q : Slice) : Type 0 where
    pub head : SliceHead
    pub body : List Step
    pub says : said_by a.profile head ≡ info
    pub coding : Coding a coded planes r k head body
    pub stands : StandsBefore a coded planes r k head body more q

  abbrev pub AllStand : (ℕ → List Line) → State → Type 0
  AllStand more s = (k : ℕ) → k < a.configuration.columns → Standing k (more k) (slice_at s k)

  -- a run in which the slices read on, and nothing else changes
  pub record ReadsOn (es : List Event) (more : ℕ → List Line) (s : State) : Type 0 where
    pub end : State
    pub runs : Runs (StepsBy a coded) s es end
    pub stand : AllStand more end
    pub long : length end.columns ≡ length s.columns
    pub lines : end.lines ≡ s.lines
    pub info_same : end.info ≡ s.info
    pub done : end.done ≡ s.done

  -- what the slices above have of their last line
  abbrev pub AboveShows : List Slice → Type 0
  AboveShows done =
      (k p x : ℕ) → 0 < r → k < a.configuration.columns → p < plane_count a.configuration → x < width_in a.configuration p k →
      get_or (plane (get_or done (slice_number a.configuration (r - 1) k) unread).cells p) ((lines_down a.configuration p (r - 1) - 1) * width_in a.configuration p k + x) 0
      ≡ coded_at a.configuration planes p (left_of a.configuration p k + x) (top_of a.configuration p (r - 1) + (lines_down a.configuration p (r - 1) - 1))

  abbrev pub ReadAll : State → ℕ → ℕ → List ℕ → Type 0
  ReadAll s k y ps = Each (λ p. IsRead a coded r k (slice_at s k) (record { plane = p; y = y })) ps

  module _ (laws : CellLaws) (front : (k : ℕ) → k < a.configuration.columns → FrontLaws a (coded (slice_number a.configuration r k)))
      (some : (p k : ℕ) → k < a.configuration.columns → 0 < width_in a.configuration p k) (last : HasLast a.configuration r)
      (tiles : (p : ℕ) → Tiles (across (division_of a.configuration) p)) (tiles_v : (p : ℕ) → Tiles (down (division_of a.configuration) p)) (r_inside : r < a.configuration.rows) where
    -- a slice that has read a line, and stands after it, shows it
    pub line_shown : (k p y x : ℕ) (more : List Line) (q : Slice) → k < a.configuration.columns → p < plane_count a.configuration → Standing k more q → IsRead a coded r k q (record { plane = p; y = y }) →
        x < width_in a.configuration p k → get_or (plane q.cells p) (y * width_in a.configuration p k + x) 0 ≡ (cell_at a coded planes r k p).at x y
    line_shown k p y x more q inside few standing is small =
        let begun = standing.stands.begun p few in
        let width = width_in a.configuration p k in
        let fits : suc y * width ≤ begun.y * width = omega (arith, is, begun.long) in
        let below : y < begun.y = elim (cases_lt y begun.y) [
          | inl below ↦ below
          | inr above ↦
              let wide = some p k inside in
              let more = mul-le-mul_left {m = suc begun.y} {n = suc y} width (omega (arith, above)) in
              absurd (omega (arith, fits, more, wide))
        ] in
        begun.shown x y small below

    -- the picture's row agrees with what was said of it
    picture_agrees : (s : State) (i p y : ℕ) (more : List Line) → i < a.configuration.columns → p < plane_count a.configuration →
        (0 < i → Standing (i - 1) more (slice_at s (i - 1)) × IsRead a coded r (i - 1) (slice_at s (i - 1)) (record { plane = p; y = y })) → AboveShows s.done →
        (row : List ℕ) → ((x : ℕ) → x < width_in a.configuration p i → get_or row x 0 ≡ (cell_at a coded planes r i p).at x y) → Agrees a.configuration s r i p y (width_in a.configuration p i) row
    picture_agrees s i p y more inside few left above row shows = λ x v small said.
        let c = a.configuration in
        elim said [
          | inl beside ↦
              let side = across (division_of c) p in
              let any : 0 < i = elim (cases_lt 0 i) [
                | inl some ↦ some
                | inr none ↦ let first : i ≡ 0 = omega (arith, none) in let zero_is = subst (λ n. x < shared_of side n) first beside.0 in absurd (omega (arith, zero_is))
              ] in
              let j = i - 1 in
              let w = width_in c p j in
              let next : suc j ≡ i = omega (arith, any) in
              let j_inside : j < c.columns = omega (arith, inside) in
              let here = left any in
              let wide : 0 < w = some p j j_inside in
              let shown = line_shown j p y (w - 1) more (slice_at s j) j_inside few here.0 here.1 (omega (arith, wide)) in
              let begins : first_of side (suc j) ≤ first_of side j + w = subst (λ n. first_of side n ≤ begin_of side n) (sym next) ((tiles p).begins i inside) in
              let shares : (first_of side j + w) - first_of side (suc j) ≤ 1 = subst (λ n. shared_of side n ≤ 1) (sym next) ((tiles p).few i inside) in
              let less : x < (first_of side j + w) - first_of side (suc j) = subst (λ n. x < shared_of side n) (sym next) beside.0 in
              let place : left_of c p (suc j) + x ≡ left_of c p j + (w - 1) = omega (arith, wide, begins, shares, less) in
              shows x small ∙ ap (λ n. coded_at c planes p (left_of c p n + x) (top_of c p r + y)) (sym next) ∙ ap (λ n. coded_at c planes p n (top_of c p r + y)) place ∙ sym shown ∙ sym beside.1
          | inr below ↦
              let side = down (division_of c) p in
              let any : 0 < r = elim (cases_lt 0 r) [
                | inl some ↦ some
                | inr none ↦ let first : r ≡ 0 = omega (arith, none) in let zero_is = subst (λ n. y < shared_of side n) first below.0 in absurd (omega (arith, zero_is))
              ] in
              let up = r - 1 in
              let high = lines_down c p up in
              let next : suc up ≡ r = omega (arith, any) in
              let up_inside : up < c.rows = omega (arith, r_inside) in
              let tall : 0 < high = (tiles_v p).some up up_inside in
              let begins : first_of side (suc up) ≤ first_of side up + high = subst (λ n. first_of side n ≤ begin_of side n) (sym next) ((tiles_v p).begins r r_inside) in
              let shares : (first_of side up + high) - first_of side (suc up) ≤ 1 = subst (λ n. shared_of side n ≤ 1) (sym next) ((tiles_v p).few r r_inside) in
              let less : y < (first_of side up + high) - first_of side (suc up) = subst (λ n. y < shared_of side n) (sym next) below.0 in
              let place : top_of c p (suc up) + y ≡ top_of c p up + (high - 1) = omega (arith, tall, begins, shares, less) in
              shows x small ∙ ap (λ n. coded_at c planes p (left_of c p i + x) (top_of c p n + y)) (sym next) ∙ ap (coded_at c planes p (left_of c p i + x)) place
              ∙ sym (above i p x any inside few small) ∙ sym below.1
        ]

    -- one line is read
    record ReadOne (i p y : ℕ) (es : List Event) (more : ℕ → List Line) (s : State) : Type 0 where
      pub next : State
      pub steps : StepsBy a coded s (Read r i p y) next
      pub stand : AllStand (λ k. reads_of k es ++ more k) next
      pub long : length next.columns ≡ length s.columns
      pub lines : next.lines ≡ s.lines
      pub info_same : next.info ≡ s.info
      pub beside : (j : ℕ) → j ≢ i → slice_at next j ≡ slice_at s j
      pub done : next.done ≡ s.done

    read_one : (i p y : ℕ) (es : List Event) (more : ℕ → List Line) (s : State) → i < a.configuration.columns → p < plane_count a.configuration → length s.columns ≡ a.configuration.columns →
        ((row : List ℕ) → ((x : ℕ) → x < width_in a.configuration p i → get_or row x 0 ≡ (cell_at a coded planes r i p).at x y) → Agrees a.configuration s r i p y (width_in a.configuration p i) row) →
        AllStand (λ k. reads_of k (Read r i p y ∷ es) ++ more k) s → ReadOne i p y es more s
    read_one i p y es more s inside few long agrees all =
        let c = a.configuration in
        let q = slice_at s i in
        let mine = all i inside in
        let lines : reads_of i (Read r i p y ∷ es) ++ more i ≡ record { plane = p; y = y } ∷ (reads_of i es ++ more i) =
        ap (λ b. ((if b then record { plane = p; y = y } ∷ [] else []) ++ reads_of i es) ++ more i) (eq-eqb i i refl) in
        let stands = subst (λ ls. StandsBefore a coded planes r i mine.head mine.body ls q) lines mine.stands in
        let go = goes a coded planes r i laws (front i inside) (λ p. some p i inside) last mine.head mine.body p y (reads_of i es ++ more i) q mine.coding few stands in
        let next = after_line a coded q p (width_in c p i) y go.qs go.row in
        let place : i < length s.columns = rw long inside in
        let m = put_slice s i next in
        record {
          next = m;
          steps = (go.qs, go.row, go.reads, refl, go.within, go.ending, agrees go.row go.shows);
          beside = λ j other. get_or-set_other s.columns i j next unread other;
          done = refl;
          stand = λ k here. elim (cases_eq k i) [
            | inl same ↦
                let now : slice_at m i ≡ next = get_or-set_same s.columns i next unread place in
                subst (λ j. Standing j (reads_of j es ++ more j) (slice_at m j)) (sym same)
                (subst (Standing i (reads_of i es ++ more i)) (sym now) (record { head = mine.head; body = mine.body; says = mine.says; coding = mine.coding; stands = go.stands }))
            | inr other ↦
                let now : slice_at m k ≡ slice_at s k = get_or-set_other s.columns i k next unread other in
                let apart : i ≢ k = λ e. other (sym e) in
                let less : reads_of k (Read r i p y ∷ es) ++ more k ≡ reads_of k es ++ more k =
                ap (λ b. ((if b then record { plane = p; y = y } ∷ [] else []) ++ reads_of k es) ++ more k) (ne_eqb i k apart) in
                subst (Standing k (reads_of k es ++ more k)) (sym now) (subst (λ ls. Standing k ls (slice_at s k)) less (all k here))
          ];
          long = length-set s.columns i next;
          lines = refl;
          info_same = refl;
        }

    -- a column reads its lines
    record ColumnOn (i y : ℕ) (ps : List ℕ) (es : List Event) (more : ℕ → List Line) (s : State) : Type 0 where
      pub end : State
      pub runs : Runs (StepsBy a coded) s (column_events r ps y i) end
      pub stand : AllStand (λ k. reads_of k es ++ more k) end
      pub has : ReadAll end i y ps
      pub long : length end.columns ≡ length s.columns
      pub lines : end.lines ≡ s.lines
      pub info_same : end.info ≡ s.info
      pub done : end.done ≡ s.done

    column_on : (i y : ℕ) (ps : List ℕ) (es : List Event) (more : ℕ → List Line) (s : State) → i < a.configuration.columns → Each (λ p. p < plane_count a.configuration) ps →
        length s.columns ≡ a.configuration.columns → (0 < i → ReadAll s (i - 1) y ps) → AboveShows s.done → AllStand (λ k. reads_of k (column_events r ps y i ++ es) ++ more k) s → ColumnOn i y ps es more s
    column_on i y [] es more s inside few long left above all = record { end = s; runs = refl; stand = all; has = tt; long = refl; lines = refl; info_same = refl; done = refl }
    column_on i y (p ∷ ps) es more s inside few long left above all =
        let c = a.configuration in
        let behind = column_events r ps y i ++ es in
        let before : 0 < i → i - 1 < c.columns = λ any. omega (arith, inside) in
        let one = read_one i p y behind more s inside few.0 long
        (picture_agrees s i p y (reads_of (i - 1) (Read r i p y ∷ behind) ++ more (i - 1)) inside few.0 (λ any. (all (i - 1) (before any), (left any).0)) above) all in
        let m = one.next in
        let moved : 0 < i → ReadAll m (i - 1) y ps = λ any.
        let other : i - 1 ≢ i = omega (arith, any) in subst (λ q. Each (λ p. IsRead a coded r (i - 1) q (record { plane = p; y = y })) ps) (sym (one.beside (i - 1) other)) (left any).1 in
        let rest = column_on i y ps es more m inside few.1 (one.long ∙ long) moved (subst AboveShows (sym one.done) above) one.stand in
        let inside_s : i < length s.columns = rw long inside in
        let inside_m : i < length m.columns = rw (one.long ∙ long) inside in
        let inside_p : p < length (slice_at s i).cells = rw (all i inside).stands.many few.0 in
        let there = read_there a coded r s m i p y inside_s inside_p one.steps in
        let longer = goes_on a coded r i (column_events r ps y i) m rest.end (column_of_row c r ps i y inside few.1) inside_m (one.stand i inside).stands.many rest.runs in
        record {
          end = rest.end;
          runs = (m, one.steps, rest.runs);
          stand = rest.stand;
          has = (read_later a coded r i (slice_at m i) (slice_at rest.end i) (record { plane = p; y = y }) longer there, rest.has);
          long = rest.long ∙ one.long;
          lines = rest.lines ∙ one.lines;
          info_same = rest.info_same ∙ one.info_same;
          done = rest.done ∙ one.done;
        }

    -- and all columns, one after the other
    pub reads_on : (y : ℕ) (ps : List ℕ) (from count : ℕ) (more : ℕ → List Line) (s : State) → from + count ≤ a.configuration.columns → Each (λ p. p < plane_count a.configuration) ps →
        length s.columns ≡ a.configuration.columns → (0 < from → ReadAll s (from - 1) y ps) → AboveShows s.done →
        AllStand (λ k. reads_of k (flat_map (column_events r ps y) (range_with_len from count)) ++ more k) s → ReadsOn (flat_map (column_events r ps y) (range_with_len from count)) more s
    reads_on y ps from zero more s fits few long left above all = record { end = s; runs = refl; stand = all; long = refl; lines = refl; info_same = refl; done = refl }
    reads_on y ps from (suc count) more s fits few long left above all =
        let es = flat_map (column_events r ps y) (range_with_len (from + 1) count) in
        let col = column_on from y ps es more s (omega (arith, fits)) few long left above all in
        let last : from + 1 - 1 ≡ from = omega arith in
        let rest = reads_on y ps (from + 1) count more col.end (omega (arith, fits)) few (col.long ∙ long) (λ any. subst (λ k. ReadAll col.end k y ps) (sym last) col.has) (subst AboveShows (sym col.done) above) col.stand in
        record {
          end = rest.end;
          runs = runs_append (StepsBy a coded) s col.end rest.end (column_events r ps y from) es col.runs rest.runs;
          stand = rest.stand;
          long = rest.long ∙ col.long;
          lines = rest.lines ∙ col.lines;
          info_same = rest.info_same ∙ col.info_same;
          done = rest.done ∙ col.done;
        }

  -- a run that hands over some lines, and leaves the slices as they are
  pub record HandsOver (es : List Event) (lines : List wire.Line) (s : State) : Type 0 where
    pub end : State
    pub runs : Runs (StepsBy a coded) s es end
    pub behind : end.lines ≡ s.lines ++ lines
    pub columns_same : end.columns ≡ s.columns
    pub info_same : end.info ≡ s.info
    pub done : end.done ≡ s.done

  pub hands_over : (y i : ℕ) (ps : List ℕ) (s : State) → Each (λ (ip : ℕ × ℕ). get_or s.out ip.0 [] ≡ picture_row a.configuration planes (top_of a.configuration ip.1 r + y) ip.1) (numbered i ps) →
      HandsOver (map (λ (ip : ℕ × ℕ). Hand r ip.0 ip.1 y) (numbered i ps)) (map (λ p. line_in a.configuration planes (top_of a.configuration p r + y) p) ps) s
  hands_over y i [] s own = record { end = s; runs = refl; behind = sym (append-nil s.lines); columns_same = refl; info_same = refl; done = refl }
  hands_over y i (p ∷ ps) s own =
      let c = a.configuration in
      let with_samples : List ℕ → wire.Line = λ xs. record { plane = p; row = top_of c p r + y; samples = xs } in
      let next : State = record s { lines = s.lines ++ (with_samples (get_or s.out i []) ∷ []) } in
      let rest = hands_over y (suc i) ps next own.1 in
      let more = map (λ p. line_in c planes (top_of c p r + y) p) ps in
      record {
        end = rest.end;
        runs = (next, refl, rest.runs);
        behind =
            rest.behind ∙ append_assoc s.lines (with_samples (get_or s.out i []) ∷ []) more
            ∙ ap (λ xs. s.lines ++ (with_samples xs ∷ more)) own.0;
        columns_same = rest.columns_same;
        info_same = rest.info_same;
        done = rest.done;
      }

  module _ (laws : CellLaws) (front : (k : ℕ) → k < a.configuration.columns → FrontLaws a (coded (slice_number a.configuration r k)))
      (some : (p k : ℕ) → k < a.configuration.columns → 0 < width_in a.configuration p k) (last : HasLast a.configuration r)
      (picture : IsPicture a.configuration planes) (tiles : (p : ℕ) → Tiles (across (division_of a.configuration) p)) (tiles_v : (p : ℕ) → Tiles (down (division_of a.configuration) p))
      (part : (p x : ℕ) → x < whole_of (across (division_of a.configuration) p) → HasPart (across (division_of a.configuration) p) x) (colours : ColourLaws) (in_rct : InRct a.configuration)
      (r_inside : r < a.configuration.rows) where
    lines_shown : (ps : List ℕ) (y : ℕ) (more : ℕ → List Line) (m : State) → Each (λ p. p < plane_count a.configuration) ps → AllStand more m →
        Each (IsThere a.configuration planes (slice_at m) tiles r) (lines_at ps y) → Each (Shown a.configuration planes (slice_at m) tiles r) (lines_at ps y)
    lines_shown [] y more m inside all there = tt
    lines_shown (p ∷ ps) y more m inside all there = (
      λ k x here small. line_shown laws front some last tiles tiles_v r_inside k p y x (more k) (slice_at m k) here inside.0 (all k here) (there.0 k here) small,
      lines_shown ps y more m inside.1 all there.1,
    )

    -- the run of a group
    pub record GroupGoes (g : Group) (pre : List Line) (more : ℕ → List Line) (s : State) : Type 0 where
      pub end : State
      pub runs : Runs (StepsBy a coded) s (group_events a.configuration r g) end
      pub stand : AllStand more end
      pub have : AllHave a coded r laws some (pre ++ group_lines g) end
      pub long : length end.columns ≡ length s.columns
      pub lines : end.lines ≡ s.lines ++ group_out a.configuration planes r g
      pub info_same : end.info ≡ s.info
      pub done : end.done ≡ s.done

    group_goes : (g : Group) (pre : List Line) (more : ℕ → List Line) (s : State) → IsGroup a.configuration r g → length s.columns ≡ a.configuration.columns → AboveShows s.done →
        AllStand (λ k. group_lines g ++ more k) s → AllHave a coded r laws some pre s → GroupGoes g pre more s
    group_goes g pre more s is long above all have =
        let c = a.configuration in
        let reads = flat_map (column_events r g.planes g.y) (range_with_len 0 c.columns) in
        let own = reads_of_row c r g is in
        let on = reads_on laws front some last tiles tiles_v r_inside g.y g.planes 0 c.columns more s (omega arith) is.inside long (λ any. absurd (omega (arith, any))) above
        (λ k inside. subst (λ ls. Standing k (ls ++ more k) (slice_at s k)) (sym (columns_read c.columns r k g.y g.planes inside)) (all k inside)) in
        let m = on.end in
        let have_m : AllHave a coded r laws some (pre ++ group_lines g) m = λ k inside.
        subst (λ ls. HasRead a coded r k (pre ++ ls) (slice_at m k)) (columns_read c.columns r k g.y g.planes inside)
        (have_more a coded r laws some reads pre s m own long on.runs have k inside) in
        let there : Each (IsThere c planes (slice_at m) tiles r) (group_lines g) =
        each_all c.columns (λ k. IsRead a coded r k (slice_at m k)) (group_lines g) (λ k inside. each_right (IsRead a coded r k (slice_at m k)) pre (group_lines g) (have_m k inside).are) in
        let shown = lines_shown g.planes g.y more m is.inside on.stand there in
        let f : ℕ → List ℕ = λ p. picture_row c planes (top_of c p r + g.y) p in
        let out = map f g.planes in
        let finishes = picture_finishes c planes picture tiles tiles_v part colours in_rct (slice_at m) r r_inside g is there shown in
        let made : State = record m { out = out } in
        let new = new_planes c r g.planes g.y in
        let hands = hands_over g.y 0 new made
        (each_new (λ (ip : ℕ × ℕ). get_or out ip.0 [] ≡ picture_row c planes (top_of c ip.1 r + g.y) ip.1) c r g.planes g.y (by_number f [] g.planes)) in
        let same : (k : ℕ) → slice_at hands.end k ≡ slice_at m k = λ k. ap (λ qs. get_or qs k unread) hands.columns_same in
        record {
          end = hands.end;
          runs = runs_append (StepsBy a coded) s m hands.end reads (Finish r g.planes g.y ∷ hand_events r new g.y) on.runs (made, (out, finishes, refl), hands.runs);
          stand = λ k inside. subst (Standing k (more k)) (sym (same k)) (on.stand k inside);
          have = λ k inside. subst (HasRead a coded r k (pre ++ group_lines g)) (sym (same k)) (have_m k inside);
          long = ap (λ qs. length qs) hands.columns_same ∙ on.long;
          lines = hands.behind ∙ ap (λ ls. ls ++ group_out c planes r g) on.lines;
          info_same = hands.info_same ∙ on.info_same;
          done = hands.done ∙ on.done;
        }

    pub record GroupsGo (gs : List Group) (pre : List Line) (s : State) : Type 0 where
      pub end : State
      pub runs : Runs (StepsBy a coded) s (flat_map (group_events a.configuration r) gs) end
      pub lines : end.lines ≡ s.lines ++ flat_map (group_out a.configuration planes r) gs
      pub info_same : end.info ≡ s.info
      pub done : end.done ≡ s.done
      pub long : length end.columns ≡ length s.columns
      pub stand : AllStand (λ k. []) end
      pub have : AllHave a coded r laws some (pre ++ flat_map group_lines gs) end

    pub groups_go : (gs : List Group) (pre : List Line) (s : State) → Each (IsGroup a.configuration r) gs → length s.columns ≡ a.configuration.columns → AboveShows s.done →
        AllStand (λ k. flat_map group_lines gs) s → AllHave a coded r laws some pre s → GroupsGo gs pre s
    groups_go [] pre s are long above all have = record {
      end = s;
      runs = refl;
      lines = sym (append-nil s.lines);
      info_same = refl;
      done = refl;
      long = refl;
      stand = all;
      have = subst (λ ls. AllHave a coded r laws some ls s) (sym (append-nil pre)) have;
    }
    groups_go (g ∷ gs) pre s are long above all have =
        let c = a.configuration in
        let first = group_goes g pre (λ k. flat_map group_lines gs) s are.0 long above all have in
        let rest = groups_go gs (pre ++ group_lines g) first.end are.1 (first.long ∙ long) (subst AboveShows (sym first.done) above) first.stand first.have in
        record {
          end = rest.end;
          runs = runs_append (StepsBy a coded) s first.end rest.end (group_events c r g) (flat_map (group_events c r) gs) first.runs rest.runs;
          lines =
              rest.lines ∙ ap (λ ls. ls ++ flat_map (group_out c planes r) gs) first.lines
              ∙ append_assoc s.lines (group_out c planes r g) (flat_map (group_out c planes r) gs);
          info_same = rest.info_same ∙ first.info_same;
          done = rest.done ∙ first.done;
          long = rest.long ∙ first.long;
          stand = rest.stand;
          have = subst (λ ls. AllHave a coded r laws some ls rest.end) (append_assoc pre (group_lines g) (flat_map group_lines gs)) rest.have;
        }
