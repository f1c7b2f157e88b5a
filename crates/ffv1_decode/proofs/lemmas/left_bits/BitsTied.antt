-- A row of Golomb-Rice coded samples that was read by the states that are kept is a line of its
-- slice, and what is kept then is that of the slice behind it.
use Rattle.std.proofs.Common.{◌≡◌, ◌≢◌, refl, ℕ, suc, ◌+◌, ◌*◌, ◌<◌, ◌≤◌, inl, inr, Bool, true, if◌then◌else◌, Some, None, List, [], ◌++◌, length, ap, sym, subst, ◌∙◌, arith, append_assoc, append-nil}
use Rattle.std.proofs.lemmas.Bool.{cases_eq, cases_lt, eq-eqb, ne_eqb}
use Rattle.std.proofs.lemmas.List.{ext_get_or}
use Rattle.std.proofs.lemmas.Result.{MatchResult-weaker}
use Rattle.std.specs.Prelude.{Result, MatchResult}
use Rattle.ffv1_plane.specs.Quantisation.{Set, IsSet, contexts_of}
use Rattle.ffv1_line.specs.Cell.{Cell, Above, BeginsWith, Rolls, cell_of}
use Rattle.ffv1_rice.specs.Kept.{state_of, state_at}
use Rattle.ffv1_rice.specs.Row.{Coder, Place, AreContexts, KnowSame, begins, places_of, places_after, row_bits}
use Rattle.ffv1_rice.specs.Rows as rows
use Rattle.ffv1_rice.specs.Rows.{Reading, AreSamples, reading_of, read_by}
use Rattle.ffv1_rice.specs.declared.fault.Fault.{Fault}
use Rattle.ffv1_record.specs.Configuration.{Configuration}
use Rattle.ffv1_record.specs.Accepted.{Accepted, is_rice}
use Rattle.ffv1_record.specs.Held.{classes_of}
use Rattle.ffv1_record.specs.Sets.{most_contexts}
use Rattle.ffv1_frame.specs.declared.fault.CodecFault.{CodecFault}
use Rattle.ffv1_frame.specs.Picture.{plane}
use Rattle.ffv1_frame.specs.SliceList.{class_of, set_in, bits_of}
use Rattle.ffv1_frame.specs.RiceLines.{LineCoder, row_coder, index_at, shown, bits_in, coder_after, with_row}
use Rattle.ffv1_frame.specs.Ending.{IsBehind}
use Rattle.ffv1_frame.specs.Decoding.{Slice, after_line, reading_in, bits_of_line, coder_of_line}
use Rattle.ffv1_frame.specs.Windows.{window}
use Rattle.ffv1_frame.proofs.lemmas.laws.rice.BitBodies.{shown_long, shown_at}
use Rattle.ffv1_frame.proofs.lemmas.Sizes.{part_apart}
use Rattle.ffv1_frame.proofs.lemmas.WrittenParts.{put}
use Rattle.ffv1_decode.specs.declared.column.Column.{Column}
use Rattle.ffv1_decode.specs.declared.left_bits.Refusal.{Refusal}
use Rattle.ffv1_decode.specs.Internal.LeftBits.{AreLeft, AreStatesOf, KeepsBits, BitsRead, BitsRefused, BitsLine, BitsStop, contexts_in}
use Rattle.ffv1_decode.proofs.lemmas.states.LeftStates.{part_state, put_state, put_beside}

-- the laws of rows by the states of their contexts
pub record ContextLaws : Type 0 where
  pub contexts : (set : Set) → IsSet set → (depth : ℕ) (two one row : List ℕ) (n : ℕ) → AreContexts (contexts_of set) (places_of set depth two one row n)
  pub bits : (depth contexts : ℕ) (c d : Coder) (ps : List Place) → KnowSame contexts c d → AreContexts contexts ps → row_bits depth c ps ≡ row_bits depth d ps
  pub after : (depth contexts : ℕ) (c d : Coder) (ps : List Place) → KnowSame contexts c d → AreContexts contexts ps → KnowSame contexts (places_after depth c ps) (places_after depth d ps)
  pub codes : (r : Reading) (start : Coder) (row : List ℕ) (rest : List Bool) → IsSet r.set → KnowSame (contexts_of r.set) r.start start → rows.CodesRow r row rest → rows.CodesRow (read_by r start) row rest
  pub refused : (r : Reading) (start : Coder) (row : List ℕ) (x : ℕ) (fault : Fault) → IsSet r.set → KnowSame (contexts_of r.set) r.start start → rows.IsRefused r row x fault → rows.IsRefused (read_by r start) row x fault

pub same_number : (m n : ℕ) → Some m ≡ Some n → n ≡ m
same_number m n e = cc

pub none_is_not : {P : Type 0} (n : ℕ) → Some n ≡ None → P
none_is_not n e = absurd (cc)

-- the rows above a row, as they are shown
module _ (width y : ℕ) (samples two one : List ℕ) (rolls : Rolls width samples two one y) where
  abbrev cell : Cell
  cell = cell_of width samples

  begins_cell : BeginsWith cell samples y
  begins_cell = record { each = λ x z inside upto. refl }

  is_above : Above cell y two one
  is_above = rolls.above cell refl begins_cell

  pub two_shown : two ≡ shown cell y
  two_shown = ext_get_or 0 two (shown cell y) (rolls.two_long ∙ sym (shown_long cell y)) (λ x h.
      let inside : x < width = omega (arith, h, rolls.two_long) in
      is_above.second.each x inside ∙ sym (shown_at cell y x inside))

  pub one_shown : one ≡ shown cell (suc y)
  one_shown = ext_get_or 0 one (shown cell (suc y)) (rolls.one_long ∙ sym (shown_long cell (suc y))) (λ x h.
      let inside : x < width = omega (arith, h, rolls.one_long) in
      is_above.first.each x inside ∙ sym (shown_at cell (suc y) x inside))

module _ (laws : ContextLaws) (a : Accepted) (coded : ℕ → List ℕ) (n p y at count depth : ℕ) (set : Set) (q : Slice) (old : Column) (states two one row : List ℕ) (text : List Bool)
    (is_set : IsSet set) (set_is : set ≡ set_in a.configuration q.head p) (depth_is : depth ≡ bits_of a.configuration) (at_is : at ≡ 32 * (class_of p * most_contexts a.configuration.sets)) (count_is : count ≡ contexts_of set * 32)
    (class_few : class_of p < classes_of a.configuration.chroma_planes a.configuration.extra_plane) (kept : KeepsBits a (coded n) old states q) (rolls : Rolls (length row) (plane q.cells p) two one y)
    (behind : IsBehind a (coded n) q.past (q.bits ++ text)) where
  abbrev c : Configuration
  c = a.configuration

  abbrev width : ℕ
  width = length row

  -- what the row was read by, and what the line is read by
  abbrev start : Coder
  start = begins (state_at (window at count states)) (index_at c y old.index)

  abbrev line_start : Coder
  line_start = row_coder c q.coder p y

  know : KnowSame (contexts_of set) start line_start
  know = record {
    states = λ k h.
        let fits : 32 * k + 32 ≤ count = omega (arith, h, count_is) in
        let place : at + 32 * k ≡ 32 * (class_of p * most_contexts c.sets + k) = omega (arith, at_is) in
        part_state at count states k fits ∙ ap (state_of states) place ∙ kept.known.each (class_of p) k class_few (subst (λ z. k < contexts_of z) set_is h);
    index = ap (index_at c y) kept.index;
    run = refl;
  }

  abbrev read_here : Coder → List Bool → Reading
  read_here k t = reading_of set depth two one k t

  -- what holds of the row read so holds of the line
  carried : (P : Reading → Type 0) (t : List Bool) → P (read_here line_start t) → P (reading_in c q p width y t)
  carried P t h =
      let cell = cell_of width (plane q.cells p) in
      let h = subst (λ z. P (reading_of z depth two one line_start t)) set_is h in
      let h = subst (λ z. P (reading_of (set_in c q.head p) z two one line_start t)) depth_is h in
      let h = subst (λ z. P (reading_of (set_in c q.head p) (bits_of c) z one line_start t)) (two_shown width y (plane q.cells p) two one rolls) h in
      subst (λ z. P (reading_of (set_in c q.head p) (bits_of c) (shown cell y) z line_start t)) (one_shown width y (plane q.cells p) two one rolls) h

  pub line_stops : (x : ℕ) (f : CodecFault) → BitsRefused (read_here start text) row x f → BitsStop a coded n p width y q row x f
  line_stops x f stop = record {
    reason = stop.reason;
    is = stop.is;
    refuses = record {
      above = rolls.long;
      inside = stop.inside;
      row_long = refl;
      text = text;
      behind = behind;
      samples = subst (λ z. AreSamples z x row) depth_is stop.samples;
      refuses = carried (λ r. rows.IsRefused r row x stop.reason) text (laws.refused (read_here start text) line_start row x stop.reason is_set know stop.refuses);
    };
  }

  module _ (is : is_rice c.coder ≡ true) (new : Column) (ys : List ℕ) (few : (k : ℕ) → k < classes_of c.chroma_planes c.extra_plane → contexts_in c q.head k ≤ most_contexts c.sets) (fits : at + count ≤ length states) (long : length ys ≡ count)
      (read : BitsRead (read_here start text) row (state_at ys) new.index new.bits) where
    abbrev places : List Place
    places = places_of set depth two one row width

    are : AreContexts (contexts_of set) places
    are = laws.contexts set is_set depth two one row width

    codes_line : rows.CodesRow (reading_in c q p width y text) row read.rest
    codes_line =
        let here : rows.CodesRow (read_here start text) row read.rest = record { samples = read.samples; bits = read.read.bits } in
        carried (λ r. rows.CodesRow r row read.rest) text (laws.codes (read_here start text) line_start row read.rest is_set know here)

    abbrev line : Reading
    line = reading_in c q p width y []

    -- its bits
    text_is : text ≡ bits_in line row ++ read.rest
    text_is =
        let bits : row_bits depth line_start places ≡ bits_in line row = carried (λ r. row_bits depth line_start places ≡ bits_in r row) [] refl in
        read.read.bits ∙ ap (λ z. z ++ read.rest) (laws.bits depth (contexts_of set) start line_start places know are ∙ bits)

    -- what is known behind it
    coder_is : places_after depth line_start places ≡ coder_after line row
    coder_is = carried (λ r. places_after depth line_start places ≡ coder_after r row) [] refl

    known_after : KnowSame (contexts_of set) (places_after depth start places) (coder_after line row)
    known_after = subst (λ z. KnowSame (contexts_of set) (places_after depth start places) z) coder_is (laws.after depth (contexts_of set) start line_start places know are)

    abbrev after : Slice
    after = after_line a coded q p width y [] row

    bits_after : after.bits ≡ q.bits ++ bits_in line row
    bits_after = ap (λ b. q.bits ++ bits_of_line b c q p width y row) is

    coder_after_is : after.coder ≡ with_row q.coder (class_of p) (coder_after line row)
    coder_after_is = ap (λ b. coder_of_line b c q p width y row) is

    behind_rest : IsBehind a (coded n) after.past (after.bits ++ read.rest)
    behind_rest =
        let all : q.bits ++ text ≡ after.bits ++ read.rest =
        ap (λ z. q.bits ++ z) text_is ∙ sym (append_assoc q.bits (bits_in line row) read.rest) ∙ ap (λ z. z ++ read.rest) (sym bits_after) in
        subst (λ z. IsBehind a (coded n) z (after.bits ++ read.rest)) (sym (append-nil q.past)) (subst (IsBehind a (coded n) q.past) all behind)

    left_after : AreLeft a (coded n) after.past after.bits new.bits
    left_after = record {
      none = λ e. none_is_not (length read.rest) (sym read.is ∙ e);
      some = λ m e. (read.rest, behind_rest, same_number (length read.rest) m (sym read.is ∙ e));
    }

    -- the states of the class are those that were read, and the others stand beside them
    mine : (k : ℕ) → k < contexts_of set → state_at (put at count states ys) (class_of p * most_contexts c.sets + k) ≡ (coder_after line row).states k
    mine k h =
        let room : 32 * k + 32 ≤ count = omega (arith, h, count_is) in
        let place : 32 * (class_of p * most_contexts c.sets + k) ≡ at + 32 * k = omega (arith, at_is) in
        ap (state_of (put at count states ys)) place ∙ put_state states ys at count fits long k room
        ∙ sym (ap (λ f. f k) read.read.states) ∙ known_after.states k h

    beside : (class k : ℕ) → class < classes_of c.chroma_planes c.extra_plane → class ≢ class_of p → k < contexts_in c q.head class →
        state_at (put at count states ys) (class * most_contexts c.sets + k) ≡ q.coder.states class k
    beside class k class_less other h =
        let most = most_contexts c.sets in
        let thick : contexts_of set ≤ most = subst (λ z. contexts_of z ≤ most) (sym set_is) (few (class_of p) class_few) in
        let here = few class class_less in
        put_beside states ys at count fits long (class * most + k) (elim (cases_lt class (class_of p)) [
          | inl less ↦ let apart = part_apart class (class_of p) most less in inl (omega (arith, apart, h, here, at_is))
          | inr more ↦
              let less : class_of p < class = omega (arith, more, other) in
              let apart = part_apart (class_of p) class most less in
              inr (omega (arith, apart, thick, at_is, count_is))
        ]) ∙ kept.known.each class k class_less h

    abbrev next : LineCoder
    next = with_row q.coder (class_of p) (coder_after line row)

    states_after : AreStatesOf c q.head (put at count states ys) next
    states_after = record {
      each = λ class k less h. elim (cases_eq class (class_of p)) [
        | inl here ↦
            let h : k < contexts_of set = subst (λ z. k < contexts_of z) (sym set_is) (subst (λ z. k < contexts_in c q.head z) here h) in
            ap (λ z. state_at (put at count states ys) (z * most_contexts c.sets + k)) here ∙ mine k h
            ∙ sym (ap (λ b. (if b then (coder_after line row).states else q.coder.states class) k) (eq-eqb class (class_of p) here))
        | inr other ↦
            beside class k less other h
            ∙ sym (ap (λ b. (if b then (coder_after line row).states else q.coder.states class) k) (ne_eqb class (class_of p) other))
      ];
    }

    pub line_read : BitsLine a coded n p width y q row new (put at count states ys)
    line_read = record {
      codes = record { text = text; rest = read.rest; behind = behind; codes = codes_line };
      kept = record {
        left = left_after;
        known = subst (AreStatesOf c q.head (put at count states ys)) (sym coder_after_is) states_after;
        index = sym read.read.index ∙ known_after.index ∙ ap (λ (z : LineCoder). z.index) (sym coder_after_is);
      };
    }

-- what a read of bits leaves is that of a line, or is refused
module _ (laws : ContextLaws) (a : Accepted) (coded : ℕ → List ℕ) (n p y at count depth : ℕ) (set : Set) (q : Slice) (old new : Column) (states ys two one row : List ℕ)
    (is_set : IsSet set) (set_is : set ≡ set_in a.configuration q.head p) (depth_is : depth ≡ bits_of a.configuration) (at_is : at ≡ 32 * (class_of p * most_contexts a.configuration.sets)) (count_is : count ≡ contexts_of set * 32)
    (class_few : class_of p < classes_of a.configuration.chroma_planes a.configuration.extra_plane) (few : (k : ℕ) → k < classes_of a.configuration.chroma_planes a.configuration.extra_plane → contexts_in a.configuration q.head k ≤ most_contexts a.configuration.sets)
    (fits : at + count ≤ length states) (long : length ys ≡ count) (is : is_rice a.configuration.coder ≡ true) (kept : KeepsBits a (coded n) old states q) (rolls : Rolls (length row) (plane q.cells p) two one y)
    (bytes : List ℕ) (bytes_are : bytes ≡ coded n) (index thick : ℕ) (index_is : index ≡ index_at a.configuration y old.index) (thick_is : thick ≡ count) (result : Result (Unit {0}) Refusal) where
  -- how it was read
  abbrev read_from : List Bool → Reading
  read_from text = reading_of set depth two one (begins (state_at (window at thick states)) index) text

  pub line_outcome : (text : List Bool) × IsBehind a bytes q.past (q.bits ++ text) × MatchResult result (λ _. BitsRead (read_from text) row (state_at ys) new.index new.bits) (λ e. BitsRefused (read_from text) row e.x e.fault) →
      MatchResult result (λ _. BitsLine a coded n p (length row) y q row new (put at thick states ys)) (λ e. BitsStop a coded n p (length row) y q row e.x e.fault)
  line_outcome exact =
      let text = exact.0 in
      let behind : IsBehind a (coded n) q.past (q.bits ++ text) = subst (λ b. IsBehind a b q.past (q.bits ++ text)) bytes_are exact.1 in
      let start : begins (state_at (window at thick states)) index ≡ begins (state_at (window at count states)) (index_at a.configuration y old.index) =
      ap (λ z. begins (state_at (window at z states)) index) thick_is ∙ ap (λ z. begins (state_at (window at count states)) z) index_is in
      MatchResult-weaker result exact.2
      (λ u read. subst (λ z. BitsLine a coded n p (length row) y q row new (put at z states ys)) (sym thick_is)
      (line_read laws a coded n p y at count depth set q old states two one row text is_set set_is depth_is at_is count_is class_few kept rolls behind is new ys few fits long
      (subst (λ k. BitsRead (reading_of set depth two one k text) row (state_at ys) new.index new.bits) start read)))
      (λ e stop. line_stops laws a coded n p y at count depth set q old states two one row text is_set set_is depth_is at_is count_is class_few kept rolls behind e.x e.fault
      (subst (λ k. BitsRefused (reading_of set depth two one k text) row e.x e.fault) start stop))
