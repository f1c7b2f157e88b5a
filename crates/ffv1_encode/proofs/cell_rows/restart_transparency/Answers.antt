-- `restart_transparency`: the same of transparency, if there is such a plane.
use Rattle.std.proofs.Common.{◌≡◌, ◌∙◌, ap, Bool, true, false}
use Rattle.ffv1_record.specs.Configuration.{Configuration}
use Rattle.ffv1_frame.specs.Picture.{cell_in}
use Rattle.ffv1_encode.proofs.lemmas.slice_body.Bodies.{rolled_top}
use Rattle.ffv1_encode.proofs.cell_rows.restart_transparency.Goals as goal

neither : (b : Bool) → b ≡ false → b ≡ true → ⊥
neither b off on = cc

pub returns-in_ok-restart-clause-rolled : goal.returns-in_ok-restart-clause-rolled
returns-in_ok-restart-clause-rolled g c = λ _.
    let slice = c.args.slice.now in
    rolled_top g.W.Word.samples (cell_in slice.checked.now.configuration slice.picture.now
    slice.number 3) c.cell.result.width c.restart.new.rows
    c.rows_above_roll_down_the_cell.ensures.top c.cell.ensures.width
    c.in_ok-restart.ensures.two c.in_ok-restart.ensures.one c.in_ok-restart.ensures.cur

pub returns-else-config-clause-rolled : goal.returns-else-config-clause-rolled
returns-else-config-clause-rolled g c = λ on. absurd (neither _
    (ap (λ (k : Configuration). k.extra_plane) c.config.ensures.value ∙ c.if-config.false) on)
