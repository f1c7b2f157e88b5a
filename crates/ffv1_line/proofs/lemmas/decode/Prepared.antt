-- Places of a row by what the rows above decide of them.
use Rattle.std.proofs.Common.{◌≡◌, ℕ, zero, suc, ◌+◌, ◌-◌, ◌*◌, ◌^◌, ◌<◌, min, Bool, true, false}
use Rattle.std.proofs.Common.{List, length, get_or, slice_set, arith, sym, subst, ◌∙◌, ℤ, pos}
use Rattle.std.proofs.Common.{unsigned_abs}
use Rattle.std.proofs.lemmas.Int.{ints}
use Rattle.ffv1_range.specs.Table.{Table}
use Rattle.ffv1_range.specs.Reading.{Reading}
use Rattle.ffv1_range.specs.Follows.{Follows}
use Rattle.ffv1_range.specs.Signed.{signed_by}
use Rattle.ffv1_range.specs.Symbols.{shifted, signed_steps, too_long}
use Rattle.ffv1_plane.specs.declared.prediction.Around.{Around}
use Rattle.ffv1_plane.specs.Prediction.{predicted_in}
use Rattle.ffv1_plane.specs.Context.{size_of, flip_of}
use Rattle.ffv1_plane.specs.Residual.{sample_of, turned}
use Rattle.ffv1_line.specs.Row.{refused_steps}
use Rattle.ffv1_line.specs.Decoded.{Sampled}
use Rattle.ffv1_plane.specs.declared.early.Early.{Early}
use Rattle.ffv1_plane.specs.Quantisation.{Set}
use Rattle.ffv1_plane.specs.Early.{left_above, right_above}
use Rattle.ffv1_line.specs.Cell.{Cell, seen, Above}
use Rattle.ffv1_line.specs.Internal.Along.{AreNeighbours, IsBehind, IsFilled, IsPrepared}
use Rattle.ffv1_line.specs.Beside.{before, two_before}
use Rattle.ffv1_line.proofs.lemmas.cell.Beside.{before_seen, two_before_seen}
use Rattle.ffv1_line.proofs.lemmas.cell.Rows.{stands_next, seen_border}
use Rattle.ffv1_line.specs.Coding.{RowCoding}
use Rattle.ffv1_line.specs.Coder.{Decoder}
use Rattle.ffv1_line.specs.Above.{RowsAbove}
use Rattle.ffv1_line.specs.declared.decode.places.Places.{Places}
use Rattle.ffv1_line.specs.declared.decode.places.Behind.{Behind}
use Rattle.ffv1_line.specs.Internal.Places.{StandsAt, above_of}

-- the sample above to the left is the one that is seen there
left_is : (c : Cell) (y : ℕ) (two one : List ℕ) (x : ℕ) → x < length one → Above c y two one →
    left_above two one x ≡ seen c (suc x) (suc y)
left_is c y two one zero inside above = above.second.each 0 (omega (arith, above.wide)) ∙
    sym (seen_border c y)
left_is c y two one (suc x) inside above = above.first.each x (omega (arith, above.wide))

pub stands_behind : (over : RowsAbove) (cur : List ℕ) (x ll l tl t : ℕ) → x < length over.one → tl ≡
    left_above over.two over.one x → t ≡ get_or over.one x 0 → IsBehind over cur x ll l →
    AreNeighbours over cur x ll l tl t
stands_behind over cur x ll l tl t inside left top behind = record {
  each = λ c y above shows. record {
    ll_is = behind.ll_is c y above shows;
    l_is = behind.l_is c y above shows;
    tl_is = left ∙ left_is c y over.two over.one x inside above;
    t_is = top ∙ above.first.each x (omega (arith, above.wide));
  };
}

behind_stands : (over : RowsAbove) (cur : List ℕ) (x ll l tl t : ℕ) → AreNeighbours over cur x ll l
    tl t → IsBehind over cur x ll l
behind_stands over cur x ll l tl t stands = record {
  ll_is = λ c y above shows. (stands.each c y above shows).ll_is;
  l_is = λ c y above shows. (stands.each c y above shows).l_is;
}

-- by the samples that stand before one
pub behind_here : (over : RowsAbove) (cur : List ℕ) (x : ℕ) → 0 < length over.one → IsBehind over
    cur x (two_before over.one cur x) (before over.one cur x)
behind_here over cur x some = record {
  ll_is = λ c y above shows. two_before_seen c (suc y) over.one cur x x (omega arith)
      (omega (arith, above.wide)) shows above.first;
  l_is = λ c y above shows. before_seen c (suc y) over.one cur x x (omega arith)
      (omega (arith, above.wide)) shows above.first;
}

pub behind_next : (over : RowsAbove) (cur : List ℕ) (x ll l tl t s : ℕ) → x < length cur → length
    over.one ≡ length cur → AreNeighbours over cur x ll l tl t → IsBehind over (slice_set cur x s)
    (x + 1) l s
behind_next over cur x ll l tl t s inside same stands =
    behind_stands over (slice_set cur x s) (x + 1) l s t _
    (stands_next over cur x (min (x + 1) (length over.one - 1)) ll l tl t s (omega arith) inside
    same stands)

pub prepared_at : (set : Set) (two one : List ℕ) (from : ℕ) (e : Early) (n i : ℕ) → IsFilled set two
    one from e n → i < n → IsPrepared set e i (right_above one (from + i)) (get_or two (from + i) 0)
prepared_at set two one from e n i filled inside = record {
  least_is = filled.bounds.least_is i inside;
  most_is = filled.bounds.most_is i inside;
  early = rw (filled.above.tl_is i inside, filled.above.t_is i inside) (filled.early.each i inside);
}

-- a sample comes at place i of a block
pub record Comes {B : Type 0} (p : Places B) (cur : List ℕ) (b : Behind) (i : ℕ) : Type 0 where
  pub within : p.from + i < length cur
  pub wide : length p.one.now ≡ length cur
  pub stands : AreNeighbours (above_of p) cur (p.from + i) b.ll b.l (get_or p.early.now.tl i 0)
      (get_or p.early.now.t i 0)
  pub prepared : IsPrepared p.set.now p.early.now i (right_above p.one.now (p.from + i))
      (get_or p.two.now (p.from + i) 0)

pub comes : {B : Type 0} (p : Places B) (states cur : List ℕ) (b : Behind) (i : ℕ) → StandsAt p
    states cur b i → Comes p cur b i
comes p states cur b i at =
    let ready = at.ready in
    let filled = ready.places.filled in
    let above : p.from + i < length p.one.now = omega (arith, at.inside, ready.places.within) in
    record {
      within = omega (arith, above, ready.long);
      wide = sym ready.long;
      stands = stands_behind (above_of p) cur (p.from + i) b.ll b.l _ _ above
          (filled.above.tl_is i at.inside) (filled.above.t_is i at.inside) at.begins;
      prepared = prepared_at p.set.now p.two.now p.one.now p.from p.early.now p.count i filled
          at.inside;
    }

-- a sample by the number of its context, its flip and its prediction
sampled_by : (coding : RowCoding) (old new : Decoder) (a : Around) (s size : ℕ) (flip : Bool)
    (prediction q : ℤ) →
    size ≡ size_of coding.set a → flip ≡ flip_of coding.set a → prediction ≡ predicted_in
    coding.bits a → unsigned_abs q < 2 ^ 31 → pos s ≡ sample_of coding.bits prediction flip q →
    Follows coding.table old.reading old.states new.reading new.states
    (shifted (size * 32) (signed_steps q)) → Sampled coding old new a s
sampled_by coding old new a s size flip prediction q size_is flip_is prediction_is small makes
    follows = record {
      residual = q;
      suits = record { size = small; makes = rw (← flip_is, ← prediction_is) makes };
      follows = subst (λ n. Follows coding.table old.reading old.states new.reading new.states
          (shifted (n * 32) (signed_steps q))) size_is follows;
    }

pub refused_by : (t : Table) (set : Set) (old : Reading) (states : List ℕ) (new : Reading)
    (after : List ℕ) (a : Around) (size : ℕ) → size ≡ size_of set a →
    Follows t old states new after (shifted (size * 32) too_long) → Follows t old states new after
    (refused_steps set a)
refused_by t set old states new after a size size_is follows =
    subst (λ n. Follows t old states new after (shifted (n * 32) too_long)) size_is follows

-- a residual 0 makes the same sample, flipped or not
zero_makes : (bits s : ℕ) (prediction : ℤ) (flip : Bool) → pos s ≡ sample_of bits prediction false
    (pos 0) → pos s ≡ sample_of bits prediction flip (pos 0)
zero_makes bits s prediction false makes = makes
zero_makes bits s prediction true makes = makes

pub sampled_by_zero : (coding : RowCoding) (old new : Decoder) (a : Around) (s size : ℕ)
    (flip : Bool) (prediction : ℤ) → size ≡ size_of coding.set a →
    flip ≡ flip_of coding.set a → prediction ≡ predicted_in coding.bits a → pos s ≡ sample_of
    coding.bits prediction false (pos 0) → Follows coding.table old.reading old.states
    new.reading new.states (shifted (size * 32) (signed_steps (pos 0))) → Sampled coding old new
    a s
sampled_by_zero coding old new a s size flip prediction size_is flip_is prediction_is makes
    follows =
    sampled_by coding old new a s size flip prediction (pos 0) size_is flip_is prediction_is
    (omega arith) (zero_makes coding.bits s prediction flip makes) follows

-- a number by its size and its sign
signed_small : (n : ℕ) (negative : Bool) → n < 2 ^ 31 → unsigned_abs (signed_by n negative) < 2 ^ 31
signed_small n false small = small
signed_small n true small = omega (arith, ints)

signed_makes : (bits s n : ℕ) (prediction : ℤ) (flip negative : Bool) → pos s ≡ sample_of bits
    prediction flip (turned negative (pos n)) → pos s ≡ sample_of bits prediction flip
    (signed_by n negative)
signed_makes bits s n prediction flip false makes = makes
signed_makes bits s n prediction flip true makes = makes

pub sampled_by_sign : (coding : RowCoding) (old new : Decoder) (a : Around) (s size : ℕ)
    (flip : Bool) (prediction : ℤ) (n : ℕ) (negative : Bool) →
    size ≡ size_of coding.set a → flip ≡ flip_of coding.set a → prediction ≡ predicted_in
    coding.bits a → n < 2 ^ 31 → pos s ≡ sample_of coding.bits prediction flip
    (turned negative (pos n)) →
    Follows coding.table old.reading old.states new.reading new.states
    (shifted (size * 32) (signed_steps (signed_by n negative))) → Sampled coding old new a s
sampled_by_sign coding old new a s size flip prediction n negative size_is flip_is prediction_is
    small makes follows =
    sampled_by coding old new a s size flip prediction (signed_by n negative) size_is flip_is
    prediction_is (signed_small n negative small)
    (signed_makes coding.bits s n prediction flip negative makes)
    follows
