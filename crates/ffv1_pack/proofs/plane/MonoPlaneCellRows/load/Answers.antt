-- `load` of `CellRows` for `MonoPlane`.
use Rattle.std.proofs.Common.{◌≡◌, ◌+◌, ◌-◌, ◌*◌, ◌∙◌, List, ℕ, take, drop, ap, subst, sym, arith}
use Rattle.ffv1_line.specs.Cell.{Shows, cell_of}
use Rattle.ffv1_pack.proofs.PlaneRows.{row_shown}
use Rattle.ffv1_pack.proofs.plane.MonoPlaneCellRows.load.Goals as goal

pub returns : goal.returns
returns c =
    let w = c.args.self.now.width in
    let y = c.args.y in
    let samples = c.args.self.now.samples.now in
    let wide : y * w + w - y * w ≡ w = omega arith in
    let filled : c.widen.new.row ≡ take w (drop (y * w) samples) =
    c.widen.ensures ∙ ap (λ n. take n (drop (y * w) samples)) wide in
    subst (λ (row : List ℕ). Shows (cell_of w samples) (y + 2) row w) (sym filled)
    (row_shown samples w y)
