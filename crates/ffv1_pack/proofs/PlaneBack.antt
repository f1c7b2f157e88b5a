-- The code of a plane comes back.
use Rattle.std.proofs.Common.{◌≡◌, ℕ, ◌+◌, ◌*◌, ◌<◌, List, length, arith, sym, ◌∙◌}
use Rattle.std.proofs.lemmas.List.{ext_get_or}
use Rattle.ffv1_range.specs.Interval.{start, interval_of}
use Rattle.ffv1_range.specs.Codes.{AreBytes, value, Inside}
use Rattle.ffv1_range.specs.Table.{Table, IsTable}
use Rattle.ffv1_range.proofs.Nested.{narrowed-inside}
use Rattle.ffv1_plane.specs.declared.prediction.Around.{Around}
use Rattle.ffv1_plane.specs.Quantisation.{Set, contexts_of}
use Rattle.ffv1_plane.specs.Context.{size_of}
use Rattle.ffv1_line.specs.Cell.{Cell, Shows, cell_of}
use Rattle.ffv1_line.proofs.lemmas.decode.CellBack.{sentinel_of_history, sentinel_bytes}
use Rattle.ffv1_line.proofs.lemmas.laws.Suits.{chosen_rows_suit}
use Rattle.ffv1_line.proofs.lemmas.laws.Lengths.{cell_below}
use Rattle.ffv1_pack.specs.Plane.{plane_residuals, plane_steps, plane_decisions, plane_code, CodesPlane}

pub plane_coded : (t : Table) (set : Set) (w h : ℕ) (samples : List ℕ) → IsTable t.floor t.one → ((a : Around) → size_of set a < contexts_of set) → 0 < w → AreBytes samples →
    CodesPlane t set w h samples (plane_code t set w h samples)
plane_coded t set w h samples table bound some are = record {
  fit = sentinel_bytes (interval_of (plane_decisions t set w h samples));
  suits = chosen_rows_suit set 8 (cell_of w samples) h (omega arith) (omega arith) some (λ x y in_width in_height. are (y * w + x));
  coded = sentinel_of_history t table (contexts_of set * 32) (plane_steps set w h samples) (cell_below set (cell_of w samples) 0 (plane_residuals set w h samples) bound);
}

pub plane_starts : (t : Table) (set : Set) (w h : ℕ) (samples : List ℕ) → IsTable t.floor t.one → ((a : Around) → size_of set a < contexts_of set) → 0 < w → AreBytes samples →
    value (plane_code t set w h samples) 2 < 65280
plane_starts t set w h samples table bound some are =
    let coded = plane_coded t set w h samples table bound some are in
    let inside : Inside (plane_code t set w h samples) start = narrowed-inside (plane_code t set w h samples) coded.fit start _ coded.coded.named coded.coded.codes in
    inside.below

-- two lines that show one row are one
pub same_shown : (c : Cell) (y : ℕ) (xs ys : List ℕ) → length xs ≡ c.width → length ys ≡ c.width → Shows c y xs c.width → Shows c y ys c.width → xs ≡ ys
same_shown c y xs ys long wide a b =
    ext_get_or 0 xs ys (long ∙ sym wide) (λ x h. a.each x (omega (arith, long, h)) ∙ sym (b.each x (omega (arith, long, h))))
