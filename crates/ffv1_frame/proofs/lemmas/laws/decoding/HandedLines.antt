-- Each line that was handed over is the finish of a line that the bytes of its slices code.
use Rattle.std.proofs.Common.{◌≡◌, refl, ℕ, zero, suc, ◌+◌, ◌*◌, ◌<◌, ◌≤◌, List, [], ◌∷◌, ◌++◌, map, length, get_or, drop, inl, inr, ap, sym, subst, ◌∙◌, arith, append-nil, append_assoc, length-append}
use Rattle.std.proofs.Math.Nat.{mul-le-mul_left}
use Rattle.std.specs.List.{All, Contains, flat_map, range_with_len}
use Rattle.std.proofs.lemmas.Grind.{flat_map-append}
use Rattle.std.proofs.lemmas.List.Elements.{All-nil, All-cons, All-contains, Contains-append_left, Contains-append_right}
use Rattle.std.proofs.lemmas.List.{get_or_append_left, get_or-append-add}
use Rattle.ffv1_wire.specs.Runs as wire
use Rattle.ffv1_record.specs.Accepted.{Accepted}
use Rattle.ffv1_slice.specs.Grid.{across, division_of, shared_of}
use Rattle.ffv1_frame.specs.Picture.{plane}
use Rattle.ffv1_frame.specs.SliceList.{Line}
use Rattle.ffv1_frame.specs.Order.{Event, events_of, row_events, series_events, series_of, column_events, hand_events, new_planes, numbered}
use Rattle.ffv1_frame.specs.Order.Event.{Open, Read, Finish, Hand, Close}
use Rattle.ffv1_frame.specs.Runs.{Runs}
use Rattle.ffv1_frame.specs.declared.fault.FrameFault.{FrameFault}
use Rattle.ffv1_record.specs.Accepted.{is_rice}
use Rattle.std.proofs.lemmas.Bool.{cases_Bool}
use Rattle.ffv1_frame.specs.Decoding.{Decodes, FaultsWith, Offers, Refuses}
use Rattle.ffv1_frame.specs.Decoding.{State, Slice, StepsBy, Finishes, at_first, own_row, slice_at, slice_number, unread, width_in}
use Rattle.ffv1_frame.specs.Handed.{CodesLine, IsFinishOf, line_across, offered, slice_of}
use Rattle.ffv1_frame.proofs.lemmas.laws.decoding.Machines.{Each, each_append, each_left, each_map, each_range, each_both, runs_append, runs_split, stops_at}
use Rattle.ffv1_frame.proofs.lemmas.FlatLists.{flat_range_same}
use Rattle.ffv1_frame.proofs.lemmas.laws.decoding.LinesRead.{read_at, reads_of, lines_at, columns_read, hands_read, row_reads}
use Rattle.ffv1_frame.proofs.lemmas.laws.decoding.Groups.{Group, IsGroup, group_events, groups_of, groups_are, row_by_groups}
use Rattle.ffv1_frame.proofs.lemmas.laws.decoding.ColumnSteps.{IsOfRow, columns_kept_along}
use Rattle.ffv1_frame.proofs.lemmas.laws.decoding.SliceBodies.{HasRead, IsRead, Longer}
use Rattle.ffv1_frame.proofs.lemmas.laws.decoding.LinesMade.{AllHave, IsReading, joined_line, handed, map_each, row_before, goes_on, group_of_row, reads_of_row, have_more, hands_made, reads_keep}
use Rattle.ffv1_frame.proofs.lemmas.laws.decoding.NewPlanes.{each_new}
use Rattle.ffv1_frame.proofs.lemmas.laws.decoding.RowsDone.{opens}
use Rattle.ffv1_frame.proofs.lemmas.laws.decoding.PictureMade.{PictureLaws, alike_lines, some_wide}
use Rattle.ffv1_frame.proofs.lemmas.laws.decoding.KnownSlices.{parts_of, beginning_of, codes_read, list_is, Above, above_same, done_kept, RowStart, RowOpen, start_long, row_open, row_closed, first_start}

-- what each element of a list of numbered elements is
each_numbered : (P : ℕ × ℕ → Type 0) (from : ℕ) (ps : List ℕ) → ((i j : ℕ) → i < length ps → j ≡ from + i → P (j, get_or ps i 0)) → Each P (numbered from ps)
each_numbered P from [] all = tt
each_numbered P from (p ∷ ps) all = (
  all 0 from (omega arith) (omega arith),
  each_numbered P (suc from) ps (λ i j inside is. all (suc i) j (omega (arith, inside)) (omega (arith, is))),
)

each_all : {X : Type 0} (P : X → Type 0) (xs : List X) → Each P xs → All P xs
each_all P [] all = All-nil P
each_all P (x ∷ xs) all = All-cons P x xs all.0 (each_all P xs all.1)

-- the elements that a beginning of a list of images is of
begins_map : {A B : Type 0} (f : A → B) (xs : List A) (before rest : List B) → map f xs ≡ before ++ rest → (ys : List A) × (zs : List A) × (xs ≡ ys ++ zs) × (before ≡ map f ys)
begins_map f xs [] rest e = ([], xs, refl, refl)
begins_map f [] (b ∷ before) rest e = cc
begins_map f (x ∷ xs) (b ∷ before) rest e =
    let here : f x ≡ b = cc in
    let there : map f xs ≡ before ++ rest = cc in
    let more = begins_map f xs before rest there in
    (x ∷ more.0, more.1, ap (λ z. x ∷ z) more.2, ap (λ z. z ∷ before) (sym here) ∙ ap (λ z. f x ∷ z) more.3)

lines_inside : (ls : List Line) (y : ℕ) (planes : List ℕ) → ((i : ℕ) → i < length planes → Contains ls (record { plane = get_or planes i 0; y = y })) → (P : Line → Type 0) → Each P ls → Each P (lines_at planes y)
lines_inside ls y [] all P each = tt
lines_inside ls y (p ∷ planes) all P each = (
  All-contains P ls (record { plane = p; y = y }) (each_all P ls each) (all 0 (omega arith)),
  lines_inside ls y planes (λ i inside. all (suc i) (omega (arith, inside))) P each,
)

each_image : {A B : Type 0} (P : B → Type 0) (f : A → B) (xs : List A) → Each (λ x. P (f x)) xs → Each P (map f xs)
each_image P f [] all = tt
each_image P f (x ∷ xs) all = (all.0, each_image P f xs all.1)

lines_among : (y : ℕ) (planes : List ℕ) (i : ℕ) → i < length planes → Contains (lines_at planes y) (record { plane = get_or planes i 0; y = y })
lines_among y [] i few = absurd (omega (arith, few))
lines_among y (p ∷ planes) zero few = (0, omega arith, refl)
lines_among y (p ∷ planes) (suc i) few =
    Contains-append_right (record { plane = p; y = y } ∷ []) (lines_at planes y) (record { plane = get_or planes i 0; y = y }) (lines_among y planes i (omega (arith, few)))

module _ (a : Accepted) (coded : ℕ → List ℕ) (laws : PictureLaws a) (r : ℕ) where
  abbrev Step : State → Event → State → Type 0
  Step = StepsBy a coded

  -- a line is the finish of one that each slice of the row has read
  record Made (slice : ℕ → Slice) (reads : ℕ → List Line) (l : wire.Line) : Type 0 where
    pub group : Group
    pub is_group : IsGroup a.configuration r group
    pub among : (k i : ℕ) → k < a.configuration.columns → i < length group.planes → Contains (reads k) (record { plane = get_or group.planes i 0; y = group.y })
    pub out : List (List ℕ)
    pub finishes : Finishes a.configuration (map (joined_line a.configuration slice group.y) group.planes) out
    pub number : ℕ
    pub inside : number < length group.planes
    pub is : l ≡ handed a.configuration r group.y out (number, get_or group.planes number 0)

  joined_same : (slice other : ℕ → Slice) (y : ℕ) (planes : List ℕ) → ((k : ℕ) → k < a.configuration.columns → Longer a coded r k (slice k) (other k)) →
      ((k : ℕ) → k < a.configuration.columns → Each (IsRead a coded r k (slice k)) (lines_at planes y)) →
      Each (λ p. joined_line a.configuration slice y p ≡ joined_line a.configuration other y p) planes
  joined_same slice other y [] more are = tt
  joined_same slice other y (p ∷ planes) more are =
      let c = a.configuration in (
        flat_range_same (λ k. own_row c p k y (plane (slice k).cells p)) (λ k. own_row c p k y (plane (other k).cells p)) 0 c.columns
            (λ k least most.
            let inside : k < c.columns = omega (arith, most) in
            let longer = (more k inside).more p in
            sym (ap (own_row c p k y) longer.1 ∙ ap (drop (shared_of (across (division_of c) p) k)) (row_before (width_in c p k) y (plane (slice k).cells p) longer.0 (are k inside).0))),
        joined_same slice other y planes more (λ k inside. (are k inside).1),
      )

  -- it stays so while slices go on
  made_later : (slice other : ℕ → Slice) (reads more : ℕ → List Line) → ((k : ℕ) → k < a.configuration.columns → Longer a coded r k (slice k) (other k)) →
      ((k : ℕ) → k < a.configuration.columns → Each (IsRead a coded r k (slice k)) (reads k)) → (l : wire.Line) → Made slice reads l → Made other (λ k. reads k ++ more k) l
  made_later slice other reads more longer are l made =
      let c = a.configuration in
      let g = made.group in
      let same = map_each (joined_line c slice g.y) (joined_line c other g.y) g.planes
      (joined_same slice other g.y g.planes longer (λ k inside. lines_inside (reads k) g.y g.planes (λ i few. made.among k i inside few) (IsRead a coded r k (slice k)) (are k inside))) in
      record {
        group = g;
        is_group = made.is_group;
        among = λ k i inside few. Contains-append_left (reads k) (more k) (record { plane = get_or g.planes i 0; y = g.y }) (made.among k i inside few);
        out = made.out;
        finishes = subst (λ read. Finishes c read made.out) same made.finishes;
        number = made.number;
        inside = made.inside;
        is = made.is;
      }

  made_reads : (slice : ℕ → Slice) (reads other : ℕ → List Line) → ((k : ℕ) → k < a.configuration.columns → (x : Line) → Contains (reads k) x → Contains (other k) x) → (l : wire.Line) → Made slice reads l → Made slice other l
  made_reads slice reads other more l made = record {
    group = made.group;
    is_group = made.is_group;
    among = λ k i inside few. more k inside (record { plane = get_or made.group.planes i 0; y = made.group.y }) (made.among k i inside few);
    out = made.out;
    finishes = made.finishes;
    number = made.number;
    inside = made.inside;
    is = made.is;
  }

  -- what events of the row, from its opened slices on, have made of the lines
  record Stand (o : State) (es : List Event) (s : State) : Type 0 where
    pub of_row : Each (IsOfRow a.configuration r) es
    pub runs : Runs Step o es s
    pub lines : List wire.Line
    pub are : s.lines ≡ o.lines ++ lines
    pub made : Each (Made (slice_at s) (λ k. reads_of k es)) lines

  module _ (o : State) (long : length o.columns ≡ a.configuration.columns) (have : AllHave a coded r laws.cells (some_wide a laws) [] o) where
    have_read : (es : List Event) (s : State) → Each (IsOfRow a.configuration r) es → Runs Step o es s → (k : ℕ) → k < a.configuration.columns → HasRead a coded r k (reads_of k es) (slice_at s k)
    have_read es s all f k inside = have_more a coded r laws.cells (some_wide a laws) es [] o s all long f have k inside

    -- events that hand nothing over
    stand_later : (es more : List Event) (s t : State) → Stand o es s → Each (IsOfRow a.configuration r) more → Runs Step s more t → t.lines ≡ s.lines → Stand o (es ++ more) t
    stand_later es more s t stand all f same =
        let c = a.configuration in
        let s_long : length s.columns ≡ c.columns = columns_kept_along a coded r es o s stand.of_row stand.runs ∙ long in
        let longer : (k : ℕ) → k < c.columns → Longer a coded r k (slice_at s k) (slice_at t k) = λ k inside.
        goes_on a coded r k more s t all (rw s_long inside) (have_read es s stand.of_row stand.runs k inside).many f in
        record {
          of_row = each_append (IsOfRow c r) es more stand.of_row all;
          runs = runs_append Step o s t es more stand.runs f;
          lines = stand.lines;
          are = same ∙ stand.are;
          made = each_both (Made (slice_at s) (λ k. reads_of k es)) (Made (slice_at t) (λ k. reads_of k (es ++ more))) stand.lines stand.made (λ l made.
              made_reads (slice_at t) (λ k. reads_of k es ++ reads_of k more) (λ k. reads_of k (es ++ more))
              (λ k inside x has. subst (λ ls. Contains ls x) (sym (flat_map-append (read_at k) es more)) has) l
              (made_later (slice_at s) (slice_at t) (λ k. reads_of k es) (λ k. reads_of k more) longer (λ k inside. (have_read es s stand.of_row stand.runs k inside).are) l made));
        }

    abbrev reads_in : Group → List Event
    reads_in g = flat_map (column_events r g.planes g.y) (range_with_len 0 a.configuration.columns)

    abbrev hand_of : ℕ → ℕ × ℕ → Event
    hand_of y ip = Hand r ip.0 ip.1 y

    reading : (g : Group) → Each IsReading (reads_in g)
    reading g = each_range IsReading (column_events r g.planes g.y) 0 a.configuration.columns (λ k least most. each_map IsReading (λ p. Read r k p g.y) g.planes (λ p. tt))

    -- a group is read and finished, and some of its lines are handed over
    stand_handed : (g : Group) (es hs rest : List Event) (s t : State) → IsGroup a.configuration r g → Stand o es s → Runs Step s (reads_in g ++ (Finish r g.planes g.y ∷ hs)) t →
        hand_events r (new_planes a.configuration r g.planes g.y) g.y ≡ hs ++ rest → Stand o (es ++ (reads_in g ++ (Finish r g.planes g.y ∷ hs))) t
    stand_handed g es hs rest s t is stand f parts =
        let c = a.configuration in
        let reads = reads_in g in
        let after = Finish r g.planes g.y ∷ hs in
        let all = reads ++ after in
        let split = runs_split Step s t reads after f in
        let m = split.0 in
        let u = split.2.0 in
        let finish = split.2.1 in
        let begun = begins_map (hand_of g.y) (numbered 0 (new_planes c r g.planes g.y)) hs rest parts in
        let hands = hands_made a coded r g.y begun.0 u t (subst (λ zs. Runs Step u zs t) begun.3 split.2.2) in
        let of_row : Each (IsOfRow c r) all =
        each_left (IsOfRow c r) all rest
        (subst (Each (IsOfRow c r)) (ap (λ zs. reads ++ (Finish r g.planes g.y ∷ zs)) parts ∙ sym (append_assoc reads after rest)) (group_of_row c r g is)) in
        let keeps = reads_keep a coded r reads s m (reading g) split.1 in
        let read = stand_later es reads s m stand (each_left (IsOfRow c r) reads after of_row) split.1 keeps in
        let columns : t.columns ≡ m.columns = hands.0 ∙ ap (λ (z : State). z.columns) finish.2 in
        let out = finish.0 in
        let new = map (handed c r g.y out) begun.0 in
        let none : (k : ℕ) → reads_of k after ≡ [] = λ k. ap (reads_of k) begun.3 ∙ hands_read r k g.y begun.0 in
        let later : (k : ℕ) → reads_of k (es ++ all) ≡ reads_of k (es ++ reads) = λ k.
        flat_map-append (read_at k) es all
        ∙ ap (λ z. reads_of k es ++ z) (flat_map-append (read_at k) reads after ∙ ap (λ z. reads_of k reads ++ z) (none k) ∙ append-nil (reads_of k reads))
        ∙ sym (flat_map-append (read_at k) es reads) in
        let here : (k : ℕ) → k < c.columns → reads_of k (es ++ all) ≡ reads_of k es ++ lines_at g.planes g.y = λ k inside.
        later k ∙ flat_map-append (read_at k) es reads ∙ ap (λ z. reads_of k es ++ z) (columns_read c.columns r k g.y g.planes inside) in
        record {
          of_row = each_append (IsOfRow c r) es all stand.of_row of_row;
          runs = runs_append Step o s t es all stand.runs f;
          lines = read.lines ++ new;
          are = hands.1 ∙ ap (λ (z : State). z.lines ++ map (handed c r g.y z.out) begun.0) finish.2 ∙ ap (λ z. z ++ new) read.are ∙ append_assoc o.lines read.lines new;
          made = each_append (Made (slice_at t) (λ k. reads_of k (es ++ all))) read.lines new
              (each_both (Made (slice_at m) (λ k. reads_of k (es ++ reads))) (Made (slice_at t) (λ k. reads_of k (es ++ all))) read.lines read.made (λ l made.
              made_reads (slice_at t) (λ k. reads_of k (es ++ reads)) (λ k. reads_of k (es ++ all)) (λ k inside x has. subst (λ ls. Contains ls x) (sym (later k)) has) l
              (subst (λ qs. Made (λ k. get_or qs k unread) (λ k. reads_of k (es ++ reads)) l) (sym columns) made)))
              (each_image (Made (slice_at t) (λ k. reads_of k (es ++ all))) (handed c r g.y out) begun.0
              (each_left (λ ip. Made (slice_at t) (λ k. reads_of k (es ++ all)) (handed c r g.y out ip)) begun.0 begun.1
              (subst (Each (λ ip. Made (slice_at t) (λ k. reads_of k (es ++ all)) (handed c r g.y out ip))) begun.2
              (each_new (λ ip. Made (slice_at t) (λ k. reads_of k (es ++ all)) (handed c r g.y out ip)) c r g.planes g.y
              (each_numbered (λ ip. Made (slice_at t) (λ k. reads_of k (es ++ all)) (handed c r g.y out ip)) 0 g.planes (λ i j inside place. record {
                group = g;
                is_group = is;
                among = λ k n column few.
                    subst (λ ls. Contains ls (record { plane = get_or g.planes n 0; y = g.y })) (sym (here k column))
                    (Contains-append_right (reads_of k es) (lines_at g.planes g.y) (record { plane = get_or g.planes n 0; y = g.y }) (lines_among g.y g.planes n few));
                out = out;
                finishes = subst (λ qs. Finishes c (map (joined_line c (λ k. get_or qs k unread) g.y) g.planes) out) (sym columns) finish.1;
                number = i;
                inside = inside;
                is = ap (λ n. handed c r g.y out (n, get_or g.planes i 0)) (let same : j ≡ i = omega (arith, place) in same);
              }))))));
        }

    stand_finish : (g : Group) (es more rest : List Event) (s t : State) → IsGroup a.configuration r g → Stand o es s → Runs Step s (reads_in g ++ more) t →
        Finish r g.planes g.y ∷ hand_events r (new_planes a.configuration r g.planes g.y) g.y ≡ more ++ rest → Stand o (es ++ (reads_in g ++ more)) t
    stand_finish g es [] rest s t is stand f parts =
        let only = subst (Each IsReading) (sym (append-nil (reads_in g))) (reading g) in
        stand_later es (reads_in g ++ []) s t stand (subst (Each (IsOfRow a.configuration r)) (sym (append-nil (reads_in g))) (reads_of_row a.configuration r g is)) f (reads_keep a coded r (reads_in g ++ []) s t only f)
    stand_finish g es (e ∷ hs) rest s t is stand f parts =
        let here : Finish r g.planes g.y ≡ e = cc in
        let there : hand_events r (new_planes a.configuration r g.planes g.y) g.y ≡ hs ++ rest = cc in
        subst (λ z. Stand o (es ++ (reads_in g ++ (z ∷ hs))) t) here
        (stand_handed g es hs rest s t is stand (subst (λ z. Runs Step s (reads_in g ++ (z ∷ hs)) t) (sym here) f) there)

    stand_group : (g : Group) (es before rest : List Event) (s t : State) → IsGroup a.configuration r g → Stand o es s → group_events a.configuration r g ≡ before ++ rest → Runs Step s before t → Stand o (es ++ before) t
    stand_group g es before rest s t is stand parts f =
        let c = a.configuration in
        elim (parts_of (reads_in g) (Finish r g.planes g.y ∷ hand_events r (new_planes c r g.planes g.y) g.y) before rest parts) [
          | inl sooner ↦
              let only = each_left IsReading before sooner.0 (subst (Each IsReading) sooner.1 (reading g)) in
              let of_row = each_left (IsOfRow c r) before sooner.0 (subst (Each (IsOfRow c r)) sooner.1 (reads_of_row c r g is)) in
              stand_later es before s t stand of_row f (reads_keep a coded r before s t only f)
          | inr later ↦
              subst (λ zs. Stand o (es ++ zs) t) (sym later.1)
              (stand_finish g es later.0 rest s t is stand (subst (λ zs. Runs Step s zs t) later.1 f) later.2)
        ]

    stand_groups : (gs : List Group) (es before rest : List Event) (s t : State) → Each (IsGroup a.configuration r) gs → Stand o es s → flat_map (group_events a.configuration r) gs ≡ before ++ rest → Runs Step s before t →
        Stand o (es ++ before) t
    stand_groups [] es [] rest s t are stand parts f = subst (λ zs. Stand o zs t) (sym (append-nil es)) (subst (Stand o es) (sym f) stand)
    stand_groups [] es (b ∷ before) rest s t are stand parts f = cc
    stand_groups (g ∷ gs) es before rest s t are stand parts f =
        let c = a.configuration in
        let here = group_events c r g in
        elim (parts_of here (flat_map (group_events c r) gs) before rest parts) [
          | inl sooner ↦ stand_group g es before sooner.0 s t are.0 stand sooner.1 f
          | inr later ↦
              let split = runs_split Step s t here later.0 (subst (λ zs. Runs Step s zs t) later.1 f) in
              let first = stand_group g es here [] s split.0 are.0 stand (sym (append-nil here)) split.1 in
              let whole = stand_groups gs (es ++ here) later.0 rest split.0 t are.1 first later.2 split.2 in
              subst (λ zs. Stand o zs t) (append_assoc es here later.0 ∙ ap (λ z. es ++ z) (sym later.1)) whole
        ]

    part_stands : (before rest : List Event) (t : State) → flat_map (series_events a.configuration r) (series_of a.configuration r) ≡ before ++ rest → Runs Step o before t → Stand o before t
    part_stands before rest t parts f =
        let c = a.configuration in
        stand_groups (groups_of c r) [] before rest o t (groups_are c r (λ rct p. alike_lines a laws rct p r))
        (record { of_row = tt; runs = refl; lines = []; are = sym (append-nil o.lines); made = tt })
        (sym (row_by_groups c r) ∙ parts) f

number_below : (row r k columns : ℕ) → row < r → k < columns → row * columns + k < r * columns
number_below row r k columns above inside =
    let fits = mul-le-mul_left {m = suc row} {n = r} columns above in
    omega (arith, fits, inside)

module _ (a : Accepted) (coded : ℕ → List ℕ) (laws : PictureLaws a) where
  -- a line of a row of slices above row r
  record UpTo (r : ℕ) (slice : ℕ → Slice) (l : wire.Line) : Type 0 where
    pub finish : IsFinishOf a coded slice l
    pub above : finish.row < r

  across_same : (slice other : ℕ → Slice) (row y : ℕ) → ((k : ℕ) → k < a.configuration.columns → slice (slice_number a.configuration row k) ≡ other (slice_number a.configuration row k)) →
      (planes : List ℕ) → map (line_across a.configuration slice row y) planes ≡ map (line_across a.configuration other row y) planes
  across_same slice other row y same [] = refl
  across_same slice other row y same (p ∷ planes) =
      let c = a.configuration in
      let n = slice_number c row in
      let here : line_across c slice row y p ≡ line_across c other row y p =
      flat_range_same (λ k. own_row c p k y (plane (slice (n k)).cells p)) (λ k. own_row c p k y (plane (other (n k)).cells p)) 0 c.columns
      (λ k least most. ap (λ (q : Slice). own_row c p k y (plane q.cells p)) (same k (omega (arith, most)))) in
      ap (λ z. z ∷ map (line_across c slice row y) planes) here ∙ ap (λ zs. line_across c other row y p ∷ zs) (across_same slice other row y same planes)

  -- later slices are not its own
  up_later : (r next : ℕ) (slice other : ℕ → Slice) → r ≤ next → ((n : ℕ) → n < r * a.configuration.columns → other n ≡ slice n) → (l : wire.Line) → UpTo r slice l → UpTo next other l
  up_later r next slice other more same l up =
      let c = a.configuration in
      let was = up.finish in
      let here : (k : ℕ) → k < c.columns → slice (slice_number c was.row k) ≡ other (slice_number c was.row k) = λ k inside.
      sym (same (slice_number c was.row k) (number_below was.row r k c.columns up.above inside)) in
      let above = up.above in
      record {
        finish = record {
          row = was.row;
          y = was.y;
          planes = was.planes;
          in_rct = was.in_rct;
          codes = λ k i inside few. subst (CodesLine a coded (slice_number c was.row k) (get_or was.planes i 0) was.y) (here k inside) (was.codes k i inside few);
          out = was.out;
          finishes = subst (λ read. Finishes c read was.out) (across_same slice other was.row was.y here was.planes) was.finishes;
          number = was.number;
          inside = was.inside;
          is = was.is;
        };
        above = omega (arith, above, more);
      }

  lines_later : (r next : ℕ) (s t : State) → r ≤ next → ((n : ℕ) → n < r * a.configuration.columns → slice_of t n ≡ slice_of s n) → (ls : List wire.Line) → Each (UpTo r (slice_of s)) ls → Each (UpTo next (slice_of t)) ls
  lines_later r next s t more same ls are = each_both (UpTo r (slice_of s)) (UpTo next (slice_of t)) ls are (up_later r next (slice_of s) (slice_of t) more same)

  -- slices that are done stay
  done_slices : (r : ℕ) (s t : State) → Above a coded laws r s → t.done ≡ s.done → (n : ℕ) → n < r * a.configuration.columns → slice_of t n ≡ slice_of s n
  done_slices r s t above same n inside =
      let in_s : n < length s.done = rw above.long inside in
      let in_t : n < length t.done = rw same in_s in
      get_or_append_left {A = Slice} t.done t.columns unread n in_t ∙ ap (λ qs. get_or qs n unread) same ∙ sym (get_or_append_left {A = Slice} s.done s.columns unread n in_s)

  column_slice : (r k : ℕ) (t : State) → Above a coded laws r t → slice_of t (slice_number a.configuration r k) ≡ slice_at t k
  column_slice r k t above =
      ap (λ m. get_or (t.done ++ t.columns) (m + k) unread) (sym above.long) ∙ get_or-append-add {A = Slice} t.done t.columns k unread

  joined_across : (r y : ℕ) (t : State) → Above a coded laws r t → (planes : List ℕ) → map (joined_line a.configuration (slice_at t) y) planes ≡ map (line_across a.configuration (slice_of t) r y) planes
  joined_across r y t above [] = refl
  joined_across r y t above (p ∷ planes) =
      let c = a.configuration in
      let here : joined_line c (slice_at t) y p ≡ line_across c (slice_of t) r y p =
      flat_range_same (λ k. own_row c p k y (plane (slice_at t k).cells p)) (λ k. own_row c p k y (plane (slice_of t (slice_number c r k)).cells p)) 0 c.columns
      (λ k least most. ap (λ (q : Slice). own_row c p k y (plane q.cells p)) (sym (column_slice r k t above))) in
      ap (λ z. z ∷ map (joined_line c (slice_at t) y) planes) here ∙ ap (λ zs. line_across c (slice_of t) r y p ∷ zs) (joined_across r y t above planes)

  -- a line of the row that is decoded
  made_up : (r : ℕ) (before rest : List Event) (t : State) → Above a coded laws r t → flat_map (series_events a.configuration r) (series_of a.configuration r) ≡ before ++ rest →
      ((k : ℕ) → k < a.configuration.columns → HasRead a coded r k (reads_of k before) (slice_at t k)) → (l : wire.Line) → Made a coded laws r (slice_at t) (λ k. reads_of k before) l → UpTo (suc r) (slice_of t) l
  made_up r before rest t above parts have l made =
      let c = a.configuration in
      let g = made.group in
      record {
        finish = record {
          row = r;
          y = g.y;
          planes = g.planes;
          in_rct = made.is_group.rct;
          codes = λ k i inside few.
              subst (CodesLine a coded (slice_number c r k) (get_or g.planes i 0) g.y) (sym (column_slice r k t above)) (record {
                begun = record {
                  read = reads_of k before;
                  more = reads_of k rest;
                  parts = list_is a coded laws r k inside ∙ sym (row_reads c r k inside) ∙ ap (reads_of k) parts ∙ flat_map-append (read_at k) before rest;
                  known = codes_read a coded laws r k (reads_of k before) (slice_at t k) inside (have k inside);
                };
                among = made.among k i inside few;
              });
          out = made.out;
          finishes = subst (λ read. Finishes c read made.out) (joined_across r g.y t above g.planes) made.finishes;
          number = made.number;
          inside = made.inside;
          is = made.is;
        };
        above = omega arith;
      }

  abbrev AreUp : ℕ → State → Type 0
  AreUp r s = Each (UpTo r (slice_of s)) s.lines

  lines_up : (r : ℕ) (before rest : List Event) (o t : State) → RowOpen a coded laws r o → AreUp r o → flat_map (series_events a.configuration r) (series_of a.configuration r) ≡ before ++ rest → Runs (StepsBy a coded) o before t →
      AreUp (suc r) t
  lines_up r before rest o t opening are parts f =
      let c = a.configuration in
      let stand = part_stands a coded laws r o opening.long opening.have before rest t parts f in
      let done = done_kept a coded laws r before o t stand.of_row f in
      let above = above_same a coded laws r o t done opening.above in
      subst (Each (UpTo (suc r) (slice_of t))) (sym stand.are)
      (each_append (UpTo (suc r) (slice_of t)) o.lines stand.lines
      (lines_later r (suc r) o t (omega arith) (done_slices r o t opening.above done) o.lines are)
      (each_both (Made a coded laws r (slice_at t) (λ k. reads_of k before)) (UpTo (suc r) (slice_of t)) stand.lines stand.made
      (made_up r before rest t above parts (have_read a coded laws r o opening.long opening.have before t stand.of_row f))))

  closed_slices : (r : ℕ) (e t : State) → Above a coded laws r e → length e.columns ≡ a.configuration.columns → t.done ≡ e.done ++ e.columns → (n : ℕ) → n < suc r * a.configuration.columns → slice_of t n ≡ slice_of e n
  closed_slices r e t above long closed n inside =
      let whole = length-append e.done e.columns in
      let here : n < length (e.done ++ e.columns) = omega (arith, inside, whole, above.long, long) in
      ap (λ qs. get_or (qs ++ t.columns) n unread) closed ∙ get_or_append_left {A = Slice} (e.done ++ e.columns) t.columns unread n here

  close_up : (r : ℕ) (more after : List Event) (e t : State) → Above a coded laws r e → length e.columns ≡ a.configuration.columns → AreUp (suc r) e → Close ∷ [] ≡ more ++ after → Runs (StepsBy a coded) e more t → AreUp (suc r) t
  close_up r [] after e t above long are last f = subst (AreUp (suc r)) (sym f) are
  close_up r (m ∷ []) after e t above long are last f =
      let here : Close ≡ m = cc in
      let run : Runs (StepsBy a coded) e (Close ∷ []) t = subst (λ z. Runs (StepsBy a coded) e (z ∷ []) t) (sym here) f in
      let same = run.2 ∙ run.1 in
      let closed : t.done ≡ e.done ++ e.columns = ap (λ (z : State). z.done) same in
      subst (Each (UpTo (suc r) (slice_of t))) (sym (ap (λ (z : State). z.lines) same))
      (lines_later (suc r) (suc r) e t (omega arith) (closed_slices r e t above long closed) e.lines are)
  close_up r (m ∷ (n ∷ more)) after e t above long are last f = cc

  row_end : (r : ℕ) (more after : List Event) (o t : State) → RowOpen a coded laws r o → AreUp r o → Close ∷ [] ≡ more ++ after →
      Runs (StepsBy a coded) o (flat_map (series_events a.configuration r) (series_of a.configuration r) ++ more) t → AreUp (suc r) t
  row_end r more after o t opening are last f =
      let c = a.configuration in
      let lines = flat_map (series_events c r) (series_of c r) in
      let split = runs_split (StepsBy a coded) o t lines more f in
      let e = split.0 in
      let are_e = lines_up r lines [] o e opening are (sym (append-nil lines)) split.1 in
      let stand = part_stands a coded laws r o opening.long opening.have lines [] e (sym (append-nil lines)) split.1 in
      let above = above_same a coded laws r o e (done_kept a coded laws r lines o e stand.of_row split.1) opening.above in
      let long : length e.columns ≡ c.columns = columns_kept_along a coded r lines o e stand.of_row split.1 ∙ opening.long in
      close_up r more after e t above long are_e last split.2

  row_up : (r : ℕ) (before after : List Event) (s t : State) → RowStart a coded laws r s → AreUp r s → row_events a.configuration r ≡ before ++ after → Runs (StepsBy a coded) s before t → AreUp (suc r) t
  row_up r before after s t start are parts f =
      let c = a.configuration in
      let opened_events = map (Open r) (range_with_len 0 c.columns) in
      let lines = flat_map (series_events c r) (series_of c r) in
      let long = start_long a coded laws r s start in
      elim (parts_of opened_events (lines ++ (Close ∷ [])) before after parts) [
        | inl sooner ↦
            let few = beginning_of (Open r) 0 c.columns before sooner.0 sooner.1 in
            let all = opens a coded r 0 few.0 s t (omega (arith, long, few.1)) (subst (λ es. Runs (StepsBy a coded) s es t) few.2 f) in
            subst (Each (UpTo (suc r) (slice_of t))) (sym all.lines) (lines_later r (suc r) s t (omega arith) (done_slices r s t start.above all.done) s.lines are)
        | inr later ↦
            let split = runs_split (StepsBy a coded) s t opened_events later.0 (subst (λ es. Runs (StepsBy a coded) s es t) later.1 f) in
            let o = split.0 in
            let opening = row_open a coded laws r s o start split.1 in
            let all = opens a coded r 0 c.columns s o (omega (arith, long)) split.1 in
            let are_o : AreUp r o = subst (Each (UpTo r (slice_of o))) (sym all.lines) (lines_later r r s o (omega arith) (done_slices r s o start.above all.done) s.lines are) in
            elim (parts_of lines (Close ∷ []) later.0 after later.2) [
              | inl some ↦ lines_up r later.0 some.0 o t opening are_o some.1 split.2
              | inr end ↦ row_end r end.0 after o t opening are_o end.2 (subst (λ es. Runs (StepsBy a coded) o es t) end.1 split.2)
            ]
      ]

  rows_up : (from count : ℕ) (before after : List Event) (s t : State) → RowStart a coded laws from s → AreUp from s → flat_map (row_events a.configuration) (range_with_len from count) ≡ before ++ after → Runs (StepsBy a coded) s before t →
      Each (IsFinishOf a coded (slice_of t)) t.lines
  rows_up from zero [] after s t start are parts f =
      subst (λ z. Each (IsFinishOf a coded (slice_of z)) z.lines) (sym f) (each_both (UpTo from (slice_of s)) (IsFinishOf a coded (slice_of s)) s.lines are (λ l up. up.finish))
  rows_up from zero (b ∷ before) after s t start are parts f = cc
  rows_up from (suc count) before after s t start are parts f =
      let c = a.configuration in
      let more = flat_map (row_events c) (range_with_len (from + 1) count) in
      elim (parts_of (row_events c from) more before after parts) [
        | inl sooner ↦ each_both (UpTo (suc from) (slice_of t)) (IsFinishOf a coded (slice_of t)) t.lines (row_up from before sooner.0 s t start are sooner.1 f) (λ l up. up.finish)
        | inr later ↦
            let split = runs_split (StepsBy a coded) s t (row_events c from) later.0 (subst (λ es. Runs (StepsBy a coded) s es t) later.1 f) in
            let next : suc from ≡ from + 1 = omega arith in
            let whole = row_up from (row_events c from) [] s split.0 start are (sym (append-nil (row_events c from))) split.1 in
            rows_up (from + 1) count later.0 after split.0 t (subst (λ n. RowStart a coded laws n split.0) next (row_closed a coded laws from s split.0 start split.1)) (subst (λ n. AreUp n split.0) next whole) later.2 split.2
      ]

  -- however far decoding has come
  pub handed_finish : (before after : List Event) (s : State) → events_of a.configuration ≡ before ++ after → Runs (StepsBy a coded) (at_first a.configuration) before s → All (IsFinishOf a coded (slice_of s)) s.lines
  handed_finish before after s parts f =
      each_all (IsFinishOf a coded (slice_of s)) s.lines (rows_up 0 a.configuration.rows before after (at_first a.configuration) s (first_start a coded laws) tt parts f)

  -- a fault changes no line
  fault_lines : (s t : State) (e : Event) (f : FrameFault) → FaultsWith a coded s e f t → t.lines ≡ s.lines
  fault_lines s t (Open j k) f h = ap (λ (z : State). z.lines) h.3
  fault_lines s t (Read j k p y) f h = elim h [
    | inl stops ↦ elim (cases_Bool (is_rice a.configuration.coder)) [
      | inl is ↦ ap (λ (z : State). z.lines) (stops.rice is).5
      | inr is ↦ ap (λ (z : State). z.lines) (stops.range is).4
    ]
    | inr looked ↦ elim looked [
      | inl far ↦ ap (λ (z : State). z.lines) far.4
      | inr later ↦ elim later [
        | inl late ↦ ap (λ (z : State). z.lines) late.4
        | inr differs ↦ ap (λ (z : State). z.lines) differs.5
      ]
    ]
  ]
  fault_lines s t (Finish j planes y) f h = ap (λ (z : State). z.lines) h.5
  fault_lines s t (Hand j i p y) f h = absurd h
  fault_lines s t Close f h = absurd h

  pub handed_before_fault : (f : FrameFault) (t : State) → Refuses a coded f t → (s : State) × (t.lines ≡ s.lines) × All (IsFinishOf a coded (slice_of s)) s.lines
  handed_before_fault f t refuses =
      let at = stops_at (StepsBy a coded) (FaultsWith a coded) (at_first a.configuration) t f (events_of a.configuration) refuses in
      (at.state, fault_lines at.state t at.event f at.refused, handed_finish at.before (at.event ∷ at.after) at.state at.parts at.runs)

  pub handed_at_end : (t : State) → Decodes a coded t → All (IsFinishOf a coded (slice_of t)) t.lines
  handed_at_end t decodes = handed_finish (events_of a.configuration) [] t (sym (append-nil (events_of a.configuration))) decodes

  -- the line that is handed over next is one too
  pub handed_offer : (r i p y : ℕ) (t : State) → Offers a coded r i p y t → All (IsFinishOf a coded (slice_of t)) (t.lines ++ (offered a.configuration r i p y t ∷ []))
  handed_offer r i p y t offers =
      let u : State = record t { lines = t.lines ++ (offered a.configuration r i p y t ∷ []) } in
      let hand = Hand r i p y ∷ [] in
      handed_finish (offers.before ++ hand) offers.after u (offers.parts ∙ sym (append_assoc offers.before hand offers.after))
      (runs_append (StepsBy a coded) (at_first a.configuration) t u offers.before hand offers.runs (u, refl, refl))
