-- The parameters by the full ending.
use Rattle.std.proofs.Common.{◌≡◌, ◌∙◌, ap, sym}
use Rattle.ffv1_record.specs.Configuration.{configuration_of, at_depth}
use Rattle.ffv1_record.proofs.EncoderSteps.{wrote_all, bytes_are, bytes_few}
use Rattle.ffv1_record.proofs.write.write_parameters.Goals as goal

pub returns-clause-ok : goal.returns-clause-ok
returns-clause-ok g c =
    let x = at_depth (configuration_of c.config-config.result.now) c.depth.result in
    let same : c.args.checked.now.configuration ≡ x = c.config-config.ensures.value ∙
    ap (at_depth (configuration_of c.config-config.result.now)) (sym c.depth.ensures.value) in
    let whole = wrote_all _ _ _ _ _ _ x c.new-writer.ensures c.in_ok-write_opening.ensures.ok
    c.in_ok-write_planes.ensures.ok c.in_ok-write_grid.ensures.ok
    c.in_ok-write_tables.ensures.ok c.in_ok-write_closing.ensures.ok in
    rw same (bytes_are c.new-writer.result c.write_closing.new.writer x c.in_ok-bytes.bytes.items
    whole.0 whole.1 whole.2 c.in_ok-bytes.ensures.ok)

pub returns-clause-long : goal.returns-clause-long
returns-clause-long g c =
    let x = at_depth (configuration_of c.config-config.result.now) c.depth.result in
    let same : c.args.checked.now.configuration ≡ x = c.config-config.ensures.value ∙
    ap (at_depth (configuration_of c.config-config.result.now)) (sym c.depth.ensures.value) in
    let whole = wrote_all _ _ _ _ _ _ x c.new-writer.ensures c.in_ok-write_opening.ensures.ok
    c.in_ok-write_planes.ensures.ok c.in_ok-write_grid.ensures.ok
    c.in_ok-write_tables.ensures.ok c.in_ok-write_closing.ensures.ok in
    rw same (bytes_few c.new-writer.result c.write_closing.new.writer x c.in_ok-bytes.bytes.items
    whole.0 whole.1 whole.2 c.in_ok-bytes.ensures.long)
