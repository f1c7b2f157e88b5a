-- What is carried from place to place along a row.
use Rattle.std.specs.Prelude.{ℕ, ◌≡◌, ◌≤◌, min, max, false, List, slice_index, pos}
use Rattle.std.proofs.Common.{suc}
use Rattle.ffv1_plane.specs.declared.early.Early.{Early}
use Rattle.ffv1_plane.specs.declared.prediction.Around.{Around}
use Rattle.ffv1_plane.specs.Quantisation.{Set}
use Rattle.ffv1_plane.specs.Context.{size_of}
use Rattle.ffv1_plane.specs.Prediction.{predicted}
use Rattle.ffv1_plane.specs.Residual.{sample_of}
use Rattle.ffv1_plane.specs.Early.{IsEarly, AreEarly, AreAbove, AreBounds}
use Rattle.ffv1_line.specs.Above.{RowsAbove}
use Rattle.ffv1_line.specs.Cell.{Cell, seen, Above, Shows}

-- at place x of row y these are two to the left, to the left, above to the left and above
pub record Left (c : Cell) (y x ll l tl t : ℕ) : Type 0 where
  pub ll_is : ll ≡ seen c x (suc (suc y))
  pub l_is : l ≡ seen c (suc x) (suc (suc y))
  pub tl_is : tl ≡ seen c (suc x) (suc y)
  pub t_is : t ≡ seen c (suc (suc x)) (suc y)

-- the same of the row below two and one that begins as cur does, whatever the cell
pub record AreNeighbours (above : RowsAbove) (cur : List ℕ) (x ll l tl t : ℕ) : Type 0 where
  pub each : (c : Cell) (y : ℕ) → Above c y above.two above.one →
      Shows c (suc (suc y)) cur x → Left c y x ll l tl t

-- the same without the samples above
pub record IsBehind (above : RowsAbove) (cur : List ℕ) (x ll l : ℕ) : Type 0 where
  pub ll_is : (c : Cell) (y : ℕ) → Above c y above.two above.one →
      Shows c (suc (suc y)) cur x → ll ≡ seen c x (suc (suc y))
  pub l_is : (c : Cell) (y : ℕ) → Above c y above.two above.one →
      Shows c (suc (suc y)) cur x → l ≡ seen c (suc x) (suc (suc y))

-- what the rows above decide of the first n places from a position on
pub record IsFilled (set : Set) (two one : List ℕ) (from : ℕ) (e : Early) (n : ℕ) : Type 0 where
  pub above : AreAbove two one from e.tl e.t n
  pub bounds : AreBounds e.tl e.t e.least e.most n
  pub early : AreEarly set two one from e.sum n

-- what they decide of one place, with these samples above to the right and two above
pub record IsPrepared (set : Set) (e : Early) (i tr tt : ℕ) : Type 0 where
  pub least_is : slice_index e.least i ≡ min (slice_index e.tl i) (slice_index e.t i)
  pub most_is : slice_index e.most i ≡ max (slice_index e.tl i) (slice_index e.t i)
  pub early : IsEarly set (slice_index e.tl i) (slice_index e.t i) tr tt (slice_index e.sum i)

-- the same for some such samples
pub record IsPreparedSomehow (set : Set) (e : Early) (i : ℕ) : Type 0 where
  pub tr : ℕ
  pub tt : ℕ
  pub prepared : IsPrepared set e i tr tt

-- if the samples above, above to the left and to the left are l, a sample of this early sum has
-- this context, whatever stands above to the right and two above
pub record IsEqualContext (set : Set) (sum l ll size : ℕ) : Type 0 where
  pub each : (tr tt : ℕ) → IsEarly set l l tr tt sum → size ≡ size_of set (record {
    l = l;
    t = l;
    tl = l;
    tr = tr;
    ll = ll;
    tt = tt;
  })

-- if those samples and the one above to the right are one, a sample has the first context
pub record HasRunContext (set : Set) : Type 0 where
  pub each : (a : Around) → a.t ≡ a.l → a.tl ≡ a.l → a.tr ≡ a.l → size_of set a ≡ 0

-- and the residual 0 makes the same sample there
pub record ComesAgain (bits l : ℕ) : Type 0 where
  pub makes : (a : Around) → a.l ≡ l → a.t ≡ l → a.tl ≡ l →
      pos l ≡ sample_of bits (predicted a) false (pos 0)

-- samples of so many bits, which are predicted by numbers without a sign (RFC 9043, 3.3)
pub record AreUnsigned (bits : ℕ) : Type 0 where
  pub least : 8 ≤ bits
  pub most : bits ≤ 15
