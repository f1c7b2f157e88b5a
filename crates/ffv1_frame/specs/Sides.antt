-- How the planes of a checked configuration are divided: their sides, part by part; and the depth
-- of their samples.
use Rattle.std.specs.Prelude.{◌≡◌, ℕ, ◌+◌, ◌<◌, ◌≤◌, true}
use Rattle.std.proofs.Common.{suc}
use Rattle.ffv1_record.specs.Configuration.{Configuration, is_rct}
use Rattle.ffv1_slice.specs.Grid.{Side, Lies, begin_of, length_of, first_of, coded_of}
use Rattle.ffv1_slice.specs.Grid.{shared_of, whole_of, across, down, division_of}

-- the parts of a side stand one after the other, from 0 to its end; no cell is empty or passes the
-- end; neighbours have one sample in common at most, and none in a plane of the picture's size
pub record Tiles (s : Side) : Type 0 where
  pub first : begin_of s 0 ≡ 0
  pub next : (k : ℕ) → k < s.count → begin_of s k + length_of s k ≡ begin_of s (suc k)
  pub last : begin_of s s.count ≡ whole_of s
  pub some : (k : ℕ) → k < s.count → 0 < coded_of s k
  pub begins : (k : ℕ) → k < s.count → first_of s k ≤ begin_of s k
  pub ends : (k : ℕ) → k < s.count → first_of s k + coded_of s k ≤ whole_of s
  pub few : (k : ℕ) → k < s.count → shared_of s k ≤ 1
  pub flat : s.log2 ≡ 0 → (k : ℕ) → k < s.count → shared_of s k ≡ 0

-- a position lies in some part
pub record HasPart (s : Side) (x : ℕ) : Type 0 where
  pub part : ℕ
  pub lies : Lies s x part

-- in RCT all planes are divided alike
pub record Alike (c : Configuration) : Type 0 where
  pub chroma : c.chroma_planes ≡ true
  pub h : c.log2_h ≡ 0
  pub v : c.log2_v ≡ 0

-- the sides of all planes, and their depth
pub record Sides (c : Configuration) : Type 0 where
  pub columns_tile : (p : ℕ) → Tiles (across (division_of c) p)
  pub rows_tile : (p : ℕ) → Tiles (down (division_of c) p)
  pub part : (p x : ℕ) → x < whole_of (across (division_of c) p) →
      HasPart (across (division_of c) p) x
  pub rct : is_rct c.colour ≡ true → Alike c
  pub shallow : 8 ≤ c.depth
  pub deep : c.depth ≤ 16
  pub columns : 0 < c.columns
  pub rows : 0 < c.rows
