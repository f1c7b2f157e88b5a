-- A line of one slice that was read, after what was decided before.
use Rattle.std.proofs.Common.{◌≡◌, refl, ℕ, ℤ, suc, ◌+◌, ◌-◌, ◌*◌, ◌^◌, ◌<◌, ◌≤◌, min, Option, Some, List, [], ◌++◌, length, take, drop, get_or, slice_index, ap, sym, subst, ◌∙◌, arith}
use Rattle.std.proofs.lemmas.List.{get_or_append_left, get_or-append-add, get_or-take}
use Rattle.ffv1_range.specs.declared.tally.Tally.{Tally}
use Rattle.ffv1_range.specs.Table.{Table}
use Rattle.ffv1_range.specs.Codes.{Codes}
use Rattle.ffv1_range.specs.Interval.{Decision, interval_of}
use Rattle.ffv1_range.specs.Reading.{Reading, Pause, At, paused, resumed}
use Rattle.ffv1_range.specs.Symbols.{Step, shifted, decided, moved_by, too_long}
use Rattle.ffv1_range.specs.History.{AreBelow, decisions_after, HasStates}
use Rattle.ffv1_range.specs.Counts.{Counts, Counted, uncounted, saturated, ones_in, zeros_in, total}
use Rattle.ffv1_range.specs.Follows.{Follows}
use Rattle.ffv1_plane.specs.declared.prediction.Around.{Around}
use Rattle.ffv1_plane.specs.Quantisation.{Set, contexts_of}
use Rattle.ffv1_plane.specs.Context.{size_of}
use Rattle.ffv1_line.specs.Cell.{Cell, Above, Shows, BeginsWith, Rolls, cell_of, seen, around}
use Rattle.ffv1_line.specs.Row.{row_steps, refused_steps}
use Rattle.ffv1_line.specs.Coded.{refused_row_steps}
use Rattle.ffv1_line.specs.Decoded.{Lined, LinedToRefusal}
use Rattle.ffv1_frame.proofs.lemmas.Sizes.{part_apart}
use Rattle.ffv1_frame.proofs.lemmas.WrittenParts.{put}
use Rattle.ffv1_decode.specs.Internal.Stands.{IsParked, Stands, SegmentRead, SegmentRefused, told_by, tally_after}
use Rattle.ffv1_frame.specs.Windows.{window}
use Rattle.ffv1_line.specs.Coding.{coding_by}
use Rattle.ffv1_line.specs.Coder.{decoder_by}
use Rattle.ffv1_line.specs.Above.{rows_above}

-- the laws of lists of decisions, and of their slots
pub record Laws : Type 0 where
  pub decides : (t : Table) (states : List ℕ) (base : ℕ) (past steps : List Step) →
      AreBelow steps (length states) → HasStates t states base past →
      decided t states steps ≡ decisions_after t past (shifted base steps)
  pub moves : (t : Table) (states : List ℕ) (base : ℕ) (past steps : List Step) →
      AreBelow steps (length states) → HasStates t states base past →
      HasStates t (moved_by t states steps) base (past ++ shifted base steps)
  pub history : (t : Table) (past xs ys : List Step) →
      decisions_after t past (xs ++ ys) ≡
      decisions_after t past xs ++ decisions_after t (past ++ xs) ys
  pub reads : (t : Table) (old : Reading) (states : List ℕ) (new : Reading) (after : List ℕ)
      (steps : List Step) (past : List Decision) →
      At old (interval_of past) → Follows t old states new after steps →
      At new (interval_of (past ++ decided t states steps)) ×
      Codes new.bytes (past ++ decided t states steps)
  pub append : (a b c : Counts) (xs ys : List Step) → Counted a xs b → Counted b ys c →
      Counted a (xs ++ ys) c
  pub shifts : (a b : Counts) (base : ℕ) (steps : List Step) → Counted a steps b →
      Counted a (shifted base steps) b
  pub from_nothing : (steps : List Step) (c : Counts) → Counted uncounted steps c →
      (c.ones ≡ saturated (ones_in steps)) × (c.zeros ≡ saturated (zeros_in steps)) ×
      (total c ≡ saturated (length steps))
  pub below_both : (xs ys : List Step) (count : ℕ) → AreBelow xs count → AreBelow ys count →
      AreBelow (xs ++ ys) count
  pub below_long : AreBelow too_long 32
  pub below_shifted : (base count : ℕ) (steps : List Step) → AreBelow steps count →
      AreBelow (shifted base steps) (base + count)
  pub below_more : (steps : List Step) (count most : ℕ) → count ≤ most → AreBelow steps count →
      AreBelow steps most
  pub below_row : (set : Set) (c : Cell) (y x : ℕ) (qs : List ℤ) →
      ((a : Around) → size_of set a < contexts_of set) →
      AreBelow (row_steps set c y x qs) (contexts_of set * 32)

same_some : (p q : Pause) → Some p ≡ Some q → p ≡ q
same_some p q e = cc

-- what a decoder tells that stands after past
count_least : (n m c : ℕ) → n + 2 ≡ min c (2 ^ 64 + 1) → n ≡ min (c - 2) (2 ^ 64 - 1)
count_least n m c e = omega (arith, e)

abbrev pub Telling : Type 0
Telling = (steps : List Step) (c : Counts) → Counted uncounted steps c →
    (c.ones ≡ saturated (ones_in steps)) × (c.zeros ≡ saturated (zeros_in steps)) × (total c ≡ saturated (length steps))

pub tells : Telling → (bytes : List ℕ) (t : Table) (pause : Pause) (past : List Step) →
    At (resumed pause bytes) (interval_of (decisions_after t [] past)) → Counted uncounted past pause.counts → told_by (Some pause) ≡ tally_after t past
tells telling bytes t pause past at counted =
    let f : ℕ → ℕ → ℕ → Tally = λ a b c. record { ones = a; zeros = b; renormalisations = c } in
    let n = telling past pause.counts counted in
    let m : pause.renormalisations ≡ saturated ((interval_of (decisions_after t [] past)).count - 2) = count_least pause.renormalisations 0 (interval_of (decisions_after t [] past)).count at.renormalisations in
    ap (λ z. f z pause.counts.zeros pause.renormalisations) n.0 ∙ ap (λ z. f (saturated (ones_in past)) z pause.renormalisations) n.1
    ∙ ap (λ z. f (saturated (ones_in past)) (saturated (zeros_in past)) z) m

-- so does it where it is parked
pub parked_tells : Telling → (bytes : List ℕ) (t : Table) (parked : Option Pause) (past : List Step) → IsParked bytes t parked past → told_by parked ≡ tally_after t past
parked_tells telling bytes t parked past stands = ap told_by stands.is ∙ tells telling bytes t stands.pause past stands.at stands.counted

-- a cell whose first rows are samples, and row y begins with a row
module _ (samples cur row two one : List ℕ) (width y n : ℕ) (rolls : Rolls width samples two one y) (few : n ≤ width) (same : (x : ℕ) → x < n → slice_index row x ≡ slice_index cur x) where
  abbrev cell : Cell
  cell = cell_of width (samples ++ row)

  begins : BeginsWith cell samples y
  begins = record {
    each = λ x z inside upto.
        let apart = part_apart z y width upto in
        let place : z * width + x < length samples = omega (arith, apart, inside, rolls.long) in
        sym (get_or_append_left samples row 0 (z * width + x) place);
  }

  pub is_above : Above cell y two one
  is_above = rolls.above cell refl begins

  pub is_shown : Shows cell (suc (suc y)) cur n
  unfolding seen
  is_shown = record {
    each = λ x h.
        let least : min x (width - 1) ≡ x = omega (arith, h, few) in
        let place : y * width + x ≡ length samples + x = omega (arith, rolls.long) in
        sym (same x h) ∙ sym (get_or-append-add samples row x 0) ∙ ap (λ i. get_or (samples ++ row) i 0) (sym place)
        ∙ ap (λ i. get_or (samples ++ row) (y * width + i) 0) (sym least);
  }

module _ (laws : Laws) (bytes : List ℕ) (t : Table) (base : ℕ) (set : Set) (bits : ℕ) (past : List Step) (states after : List ℕ) (pause : Pause) (new : Reading)
    (at_old : At (resumed pause bytes) (interval_of (decisions_after t [] past))) (has_old : HasStates t states base past) (counted_old : Counted uncounted past pause.counts) where
  -- steps that were read
  pub record ReadSteps (steps : List Step) : Type 0 where
    pub at : At (resumed (paused new) bytes) (interval_of (decisions_after t [] (past ++ shifted base steps)))
    pub codes : Codes bytes (decisions_after t [] (past ++ shifted base steps))
    pub has : HasStates t after base (past ++ shifted base steps)
    pub counted : Counted uncounted (past ++ shifted base steps) new.counts

  pub behind : (steps : List Step) → Follows t (resumed pause bytes) states new after steps → AreBelow steps (length states) → ReadSteps steps
  behind steps follows below =
      let r = laws.reads t (resumed pause bytes) states new after steps (decisions_after t [] past) at_old follows in
      let all : decisions_after t [] past ++ decided t states steps ≡ decisions_after t [] (past ++ shifted base steps) =
      ap (λ z. decisions_after t [] past ++ z) (laws.decides t states base past steps below has_old) ∙ sym (laws.history t [] past (shifted base steps)) in
      let now : At new (interval_of (decisions_after t [] (past ++ shifted base steps))) = subst (λ z. At new (interval_of z)) all r.0 in
      record {
        at = subst (λ b. At (resumed (paused new) b) (interval_of (decisions_after t [] (past ++ shifted base steps)))) follows.bytes now;
        codes = subst (λ b. Codes b (decisions_after t [] (past ++ shifted base steps))) follows.bytes (subst (λ z. Codes new.bytes z) all r.1);
        has = subst (λ z. HasStates t z base (past ++ shifted base steps)) (sym follows.moves) (laws.moves t states base past steps below has_old);
        counted = laws.append uncounted pause.counts new.counts past (shifted base steps) counted_old (laws.shifts pause.counts new.counts base steps follows.counts);
      }

module _ (laws : Laws) (bytes : List ℕ) (t : Table) (base : ℕ) (set : Set) (bits : ℕ) (past : List Step) (states after : List ℕ) (pause : Pause) (parked : Option Pause) (new : Reading)
    (two one cur samples : List ℕ) (y : ℕ) (bound : (a : Around) → size_of set a < contexts_of set) (long : length states ≡ contexts_of set * 32)
    (is : parked ≡ Some pause) (stands : Stands bytes t base parked states past) (rolls : Rolls (length cur) samples two one y) where
  same_pause : stands.decoder.pause ≡ pause
  same_pause = same_some stands.decoder.pause pause (sym stands.decoder.is ∙ is)

  at_first : At (resumed pause bytes) (interval_of (decisions_after t [] past))
  at_first = subst (λ p. At (resumed p bytes) (interval_of (decisions_after t [] past))) same_pause stands.decoder.at

  counted_first : Counted uncounted past pause.counts
  counted_first = subst (λ (p : Pause). Counted uncounted past p.counts) same_pause stands.decoder.counted

  pub segment_read : Lined (coding_by t set bits) (decoder_by (resumed pause bytes) states) (decoder_by new after) (rows_above two one) cur (length cur) →
      SegmentRead bytes (coding_by t set bits) base base past samples (length cur) y (Some (paused new)) after cur
  segment_read lined =
      let cell = cell_of (length cur) (samples ++ cur) in
      let coded = lined.coded cell y (is_above samples cur cur two one (length cur) y (length cur) rolls (omega arith) (λ x h. refl))
      (is_shown samples cur cur two one (length cur) y (length cur) rolls (omega arith) (λ x h. refl)) in
      let steps = row_steps set cell y 0 lined.residuals in
      let below = laws.below_row set cell y 0 lined.residuals bound in
      let b = behind laws bytes t base set bits past states after pause new at_first stands.has counted_first steps coded.follows (subst (AreBelow steps) (sym long) below) in
      record {
        residuals = lined.residuals;
        long = lined.count;
        codes = record { suits = coded.suits; codes = b.codes };
        below = below;
        stands = record { decoder = record { pause = paused new; is = refl; at = b.at; counted = b.counted }; has = b.has };
      }

  pub segment_refused : (x : ℕ) → x < length cur → LinedToRefusal (coding_by t set bits) (decoder_by (resumed pause bytes) states) (decoder_by new after) (rows_above two one) cur x →
      SegmentRefused bytes (coding_by t set bits) base base past samples (length cur) y (Some (paused new)) (take x cur) x
  segment_refused x inside refused =
      let cell = cell_of (length cur) (samples ++ take x cur) in
      let few : x ≤ length cur = omega (arith, inside) in
      let above = is_above samples cur (take x cur) two one (length cur) y x rolls few (λ i h. get_or-take x cur i 0 h) in
      let shows = is_shown samples cur (take x cur) two one (length cur) y x rolls few (λ i h. get_or-take x cur i 0 h) in
      let qs = refused.residuals in
      let steps = refused_row_steps set cell y qs in
      let at_count : row_steps set cell y 0 qs ++ refused_steps set (around cell x y) ≡ steps = ap (λ n. row_steps set cell y 0 qs ++ refused_steps set (around cell n y)) (sym refused.count) in
      let follows = subst (λ z. Follows t (resumed pause bytes) states new after z) at_count (refused.follows cell y above shows) in
      let size : size_of set (around cell (length qs) y) < contexts_of set = bound (around cell (length qs) y) in
      let last : AreBelow (refused_steps set (around cell (length qs) y)) (contexts_of set * 32) =
      laws.below_more (refused_steps set (around cell (length qs) y)) (size_of set (around cell (length qs) y) * 32 + 32) (contexts_of set * 32) (omega (arith, size)) (laws.below_shifted (size_of set (around cell (length qs) y) * 32) 32 too_long laws.below_long) in
      let below : AreBelow steps (contexts_of set * 32) = laws.below_both (row_steps set cell y 0 qs) (refused_steps set (around cell (length qs) y)) (contexts_of set * 32) (laws.below_row set cell y 0 qs bound) last in
      let b = behind laws bytes t base set bits past states after pause new at_first stands.has counted_first steps follows (subst (AreBelow steps) (sym long) below) in
      record {
        residuals = qs;
        count = refused.count;
        refuses = record { suits = refused.suits cell y above shows; codes = b.codes };
        told = tells laws.from_nothing bytes t (paused new) (past ++ shifted base steps) b.at b.counted;
      }

-- the same of the states of a class, and of all states
module _ (bytes : List ℕ) (t : Table) (base : ℕ) (set : Set) (bits : ℕ) (past : List Step) (samples : List ℕ) (width y : ℕ) (states : List ℕ) (at count : ℕ) (parked : Option Pause)
    (base_is : base ≡ 33 + at) (count_is : count ≡ contexts_of set * 32) (room : at + count ≤ length states) (stands_old : Stands bytes t 33 parked states past) where
  pub class_stands : ((t : Table) (states : List ℕ) (base at count : ℕ) (past : List Step) → at + count ≤ length states → HasStates t states base past →
      HasStates t (take count (drop at states)) (base + at) past) → Stands bytes t base parked (window at count states) past
  class_stands part = record {
    decoder = stands_old.decoder;
    has = subst (λ z. HasStates t (window at count states) z past) (sym base_is) (part t states 33 at count past room stands_old.has);
  }

  pub all_read : ((t : Table) (states ys : List ℕ) (base at count : ℕ) (past ss : List Step) → at + count ≤ length states → length ys ≡ count → AreBelow ss count →
      HasStates t states base past → HasStates t ys (base + at) (past ++ shifted (base + at) ss) →
      HasStates t (take at states ++ (ys ++ drop count (drop at states))) base (past ++ shifted (base + at) ss)) →
      (new : Option Pause) (ys row : List ℕ) → length ys ≡ count → SegmentRead bytes (coding_by t set bits) base base past samples width y new ys row →
      SegmentRead bytes (coding_by t set bits) base 33 past samples width y new (put at count states ys) row
  all_read put_law new ys row long read =
      let ss = row_steps set (cell_of width (samples ++ row)) y 0 read.residuals in
      let below : AreBelow ss count = subst (AreBelow ss) (sym count_is) read.below in
      let has : HasStates t ys (33 + at) (past ++ shifted (33 + at) ss) = subst (λ z. HasStates t ys z (past ++ shifted z ss)) base_is read.stands.has in
      let all = put_law t states ys 33 at count past ss room long below stands_old.has has in
      record {
        residuals = read.residuals;
        long = read.long;
        codes = read.codes;
        below = read.below;
        stands = record {
          decoder = read.stands.decoder;
          has = subst (λ z. HasStates t (put at count states ys) 33 (past ++ shifted z ss)) (sym base_is) all;
        };
      }

pub all_refused : (bytes : List ℕ) (t : Table) (base first other : ℕ) (set : Set) (bits : ℕ) (past : List Step) (samples : List ℕ) (width y : ℕ) (new : Option Pause) (row : List ℕ) (x : ℕ) →
    SegmentRefused bytes (coding_by t set bits) base first past samples width y new row x → SegmentRefused bytes (coding_by t set bits) base other past samples width y new row x
all_refused bytes t base first other set bits past samples width y new row x r = record { residuals = r.residuals; count = r.count; refuses = r.refuses; told = r.told }
