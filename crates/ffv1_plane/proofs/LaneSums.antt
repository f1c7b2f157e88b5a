-- The sums of the look-ups of a sample, as lanes have them.
use Rattle.std.proofs.Common.{◌≡◌, ap, ◌∙◌, sym, List, ℕ, ℤ, ◌+◌, ◌-◌, ◌*◌, ◌%◌, ◌<◌, ◌≤◌, length}
use Rattle.std.proofs.Common.{unsigned_abs, arith, pos, ◌+ℤ◌, ◌-ℤ◌}
use Rattle.std.proofs.lemmas.Int.{ints}
use Rattle.std.specs.Prelude.{replicate}
use Rattle.ffv1_plane.specs.declared.prediction.Around.{Around}
use Rattle.ffv1_plane.specs.declared.quantisation.SetLanes.{SetLanes}
use Rattle.ffv1_plane.specs.declared.table.TableLanes.{TableLanes}
use Rattle.ffv1_plane.specs.Quantisation.{Set, IsSet, HasThreeTables, HasFewLevels, entry_of}
use Rattle.ffv1_plane.specs.Quantisation.{contexts_of}
use Rattle.ffv1_plane.specs.Raised.{RaisedTable, table_of, AreTableLanes, AreSetLanes, AreRaised}
use Rattle.ffv1_plane.specs.Raised.{half_of, raised_entry, raised_sum}
use Rattle.ffv1_plane.specs.Context.{low, context_of, size_of}
use Rattle.ffv1_plane.proofs.Bounds.{size_below}
use Rattle.ffv1_plane.proofs.Sums.{set_of, context_is, three_is}

-- the lanes of a table, whose scale is said in another way
pub lanes_at : (t : RaisedTable) (scale : ℕ) (l : TableLanes) → t.scale ≡ scale → AreTableLanes
    (table_of t.runs scale) l → AreTableLanes t l
lanes_at t scale l same is = record {
  steps = is.steps;
  scale = is.scale ∙ ap (replicate 16)
      (sym same);
}

-- what an early sum is raised by, by the sum of the greatest entries
pub raise_at : (set : Set) (half : ℕ) (lanes : List ℕ) → contexts_of set ≡ half + 1 → lanes ≡
    replicate 16 (32769 - contexts_of set) → lanes ≡ replicate 16 (32768 - half)
raise_at set half lanes count is = is ∙ ap (replicate 16) (omega (arith, count))

-- a table of few levels, and its lanes
pub record IsLaned (t : RaisedTable) (l : TableLanes) : Type 0 where
  pub few : length t.runs ≤ 6
  pub table : AreTableLanes t l

-- the tables of a set, and what an early sum is raised by beside them
pub record AreLaned (one two three four five : RaisedTable) (half : ℕ) (l : SetLanes) : Type 0 where
  pub first : IsLaned one l.first
  pub second : IsLaned two l.second
  pub third : IsLaned three l.third
  pub fourth : IsLaned four l.fourth
  pub fifth : IsLaned five l.fifth
  pub raise : l.raise ≡ replicate 16 (32768 - half)

pub are_laned : (first second third fourth fifth : RaisedTable) (half : ℕ) (set : Set)
    (l : SetLanes) → set_of first second third fourth fifth ≡ set → AreRaised first second third
    fourth fifth half →
    HasFewLevels set → AreSetLanes set l → AreLaned first second third fourth fifth half l
are_laned first second third fourth fifth half set l same is few lanes =
    let few = rw (← same) at few in
    let lanes = rw (← same) at lanes in
    record {
      first = record { few = few.first; table = lanes_at _ _ _ is.first_scale lanes.first };
      second = record { few = few.second; table = lanes_at _ _ _ is.second_scale lanes.second };
      third = record { few = few.third; table = lanes_at _ _ _ is.third_scale lanes.third };
      fourth = record { few = few.fourth; table = lanes_at _ _ _ is.fourth_scale lanes.fourth };
      fifth = record { few = few.fifth; table = lanes_at _ _ _ is.fifth_scale lanes.fifth };
      raise = raise_at (set_of first second third fourth fifth) half _ is.contexts lanes.raise;
    }

-- the sum of the greatest entries
pub half_is : (set : Set) (half : ℕ) → contexts_of set ≡ half + 1 → contexts_of set - 1 ≡ half
half_is set half count = omega (arith, count)

-- the sum of the look-ups of a sample makes its context, and has a bound
raised_context : (v : ℤ) (n : ℕ) → unsigned_abs v < n → v ≡ pos (unsigned_abs (v +ℤ pos (n - 1))) -ℤ
    pos (n - 1)
raised_context v n below = omega (arith, ints)

raised_most : (v : ℤ) (n : ℕ) → unsigned_abs v < n → unsigned_abs (v +ℤ pos (n - 1)) ≤ 2 * (n - 1)
raised_most v n below = omega (arith, ints)

pub sum_context : (set : Set) (a : Around) → IsSet set → context_of set a ≡ pos (raised_sum set a)
    -ℤ pos (contexts_of set - 1)
unfolding raised_sum size_of
sum_context set a is = raised_context (context_of set a) (contexts_of set) (size_below set a is)

pub sum_most : (set : Set) (a : Around) → IsSet set → raised_sum set a ≤ 2 * (contexts_of set - 1)
unfolding raised_sum size_of
sum_most set a is = raised_most (context_of set a) (contexts_of set) (size_below set a is)

-- what each entry of a table is, raised
abbrev pub HasEntries : RaisedTable → Type 0
HasEntries t = (k : ℕ) → k < 256 → pos (raised_entry t k) ≡ entry_of t.runs t.scale k +ℤ pos
    (half_of t)

abbrev pub HasMost : RaisedTable → Type 0
HasMost t = (k : ℕ) → k < 256 → raised_entry t k ≤ 2 * half_of t

pub low_below : (a b : ℕ) → low a b < 256
low_below a b = omega arith

-- the sum of the look-ups of three tables, and of all five
abbrev pub three_sum : RaisedTable → RaisedTable → RaisedTable → Around → ℕ
three_sum first second third a = raised_entry first (low a.l a.tl) +
    (raised_entry second (low a.tl a.t) + raised_entry third (low a.t a.tr))

abbrev pub five_sum : RaisedTable → RaisedTable → Around → ℕ
five_sum fourth fifth a = raised_entry fourth (low a.ll a.l) + raised_entry fifth (low a.tt a.t)

sum_of : (set : Set) (a : Around) (s half : ℕ) → context_of set a ≡ pos s -ℤ pos half → contexts_of
    set ≡ half + 1 → raised_sum set a ≡ s
unfolding raised_sum
sum_of set a s half is count =
    rw (is, half_is set half count) (omega (arith, ints))

three_bounded : (r1 r2 r3 h1 h2 h3 h4 h5 half : ℕ) → r1 ≤ 2 * h1 → r2 ≤ 2 * h2 → r3 ≤ 2 * h3 → h1 +
    h2 + h3 + h4 + h5 ≡ half → r1 + (r2 + r3) ≤ 2 * half
three_bounded r1 r2 r3 h1 h2 h3 h4 h5 half a b c s = omega arith

bounded : (r1 r2 r3 r4 r5 h1 h2 h3 h4 h5 half : ℕ) → r1 ≤ 2 * h1 → r2 ≤ 2 * h2 → r3 ≤ 2 * h3 → r4 ≤
    2 * h4 → r5 ≤ 2 * h5 → h1 + h2 + h3 + h4 + h5 ≡ half → r1 + (r2 + r3) + (r4 + r5) ≤ 2 * half
bounded r1 r2 r3 r4 r5 h1 h2 h3 h4 h5 half a b c d e s = omega arith

ordered : (r1 r2 r3 r4 r5 : ℕ) → r1 + (r4 + (r2 + r3 + r5)) ≡ r1 + (r2 + r3) + (r4 + r5)
ordered r1 r2 r3 r4 r5 = omega arith

-- the sum of the look-ups of a sample
pub record IsSum (set : Set) (half : ℕ) (a : Around) (sum : ℕ) : Type 0 where
  pub is : raised_sum set a ≡ sum
  pub context : context_of set a ≡ pos sum -ℤ pos half
  pub most : sum ≤ 2 * half

pub sum_of_three : (first second third fourth fifth : RaisedTable) (half : ℕ) (a : Around) →
    AreRaised first second third fourth fifth half → HasThreeTables
    (set_of first second third fourth fifth) →
    HasEntries first → HasEntries second → HasEntries third → HasMost first → HasMost second →
    HasMost third →
    IsSum (set_of first second third fourth fifth) half a (three_sum first second third a)
sum_of_three first second third fourth fifth half a is three p q r u v w =
    let context = three_is first second third fourth fifth half _ _ _ a is three
    (p (low a.l a.tl) (low_below a.l a.tl)) (q (low a.tl a.t) (low_below a.tl a.t))
    (r (low a.t a.tr) (low_below a.t a.tr)) in
    let halves = is.halves in
    let most1 = u (low a.l a.tl) (low_below a.l a.tl) in
    let most2 = v (low a.tl a.t) (low_below a.tl a.t) in
    let most3 = w (low a.t a.tr) (low_below a.t a.tr) in
    record {
      is = sum_of _ a _ half context is.contexts;
      context = context;
      most = three_bounded _ _
          _ (half_of first) (half_of second) (half_of third) (half_of fourth) (half_of fifth) half
          most1 most2 most3 halves;
    }

pub sum_of_five : (first second third fourth fifth : RaisedTable) (half : ℕ) (a : Around) →
    AreRaised first second third fourth fifth half →
    HasEntries first → HasEntries second → HasEntries third → HasEntries fourth → HasEntries fifth →
    HasMost first → HasMost second → HasMost third → HasMost fourth → HasMost fifth →
    IsSum (set_of first second third fourth fifth) half a
    (three_sum first second third a + five_sum fourth fifth a)
sum_of_five first second third fourth fifth half a is p q r s t u v w x y =
    let r1 = raised_entry first (low a.l a.tl) in
    let r2 = raised_entry second (low a.tl a.t) in
    let r3 = raised_entry third (low a.t a.tr) in
    let r4 = raised_entry fourth (low a.ll a.l) in
    let r5 = raised_entry fifth (low a.tt a.t) in
    let order : r1 + (r4 + (r2 + r3 + r5)) ≡ r1 + (r2 + r3) + (r4 + r5) = ordered r1 r2 r3 r4 r5 in
    let context = context_is first second third fourth fifth half r1 r2 r3 r4 r5 a is
    (p (low a.l a.tl) (low_below a.l a.tl)) (q (low a.tl a.t) (low_below a.tl a.t))
    (r (low a.t a.tr) (low_below a.t a.tr)) (s (low a.ll a.l) (low_below a.ll a.l))
    (t (low a.tt a.t) (low_below a.tt a.t)) in
    let context' = rw order at context in
    record {
      is = sum_of _ a _ half context' is.contexts;
      context = context';
      most = bounded r1 r2 r3 r4 r5 _ _ _ _ _ half (u (low a.l a.tl) (low_below a.l a.tl))
          (v (low a.tl a.t) (low_below a.tl a.t)) (w (low a.t a.tr) (low_below a.t a.tr))
          (x (low a.ll a.l) (low_below a.ll a.l)) (y (low a.tt a.t) (low_below a.tt a.t)) is.halves;
    }

-- lanes' sums, which are not cut
abbrev pub plus : ℕ → ℕ → ℕ
plus x y = (x + y) % 65536

pub three_added : (r1 r2 r3 half : ℕ) → r1 + (r2 + r3) ≤ 2 * half → half < 32768 → plus r1
    (plus r2 r3) ≡ r1 + (r2 + r3)
three_added r1 r2 r3 half most few = omega arith

pub five_added : (r1 r2 r3 r4 r5 half : ℕ) → r1 + (r2 + r3) + (r4 + r5) ≤ 2 * half → half < 32768 →
    plus (plus r1 (plus r2 r3)) (plus r4 r5) ≡ r1 + (r2 + r3) + (r4 + r5)
five_added r1 r2 r3 r4 r5 half most few = omega arith

-- the same of early parts of sums
pub early_three_added : (r2 r3 h1 h2 h3 h4 h5 half : ℕ) → r2 ≤ 2 * h2 → r3 ≤ 2 * h3 → h1 + h2 + h3 +
    h4 + h5 ≡ half → half < 32768 → plus (plus r2 r3) (32768 - half) ≡ r2 + r3 + (32768 - half)
early_three_added r2 r3 h1 h2 h3 h4 h5 half a b s few = omega arith

pub early_added : (r2 r3 r5 h1 h2 h3 h4 h5 half : ℕ) → r2 ≤ 2 * h2 → r3 ≤ 2 * h3 → r5 ≤ 2 * h5 → h1
    + h2 + h3 + h4 + h5 ≡ half → half < 32768 →
    plus (plus (plus r2 r3) (32768 - half)) r5 ≡ r2 + r3 + (32768 - half) + r5
early_added r2 r3 r5 h1 h2 h3 h4 h5 half a b c s few = omega arith
