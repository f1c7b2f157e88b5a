-- Puts the head of a slice, whose number in raster order gives its place, by 32 fresh states.
use Rattle.std.proofs.Common.{◌++◌, ◌/◌, ◌<◌, ◌^◌, ap, subst, arith}
use Rattle.std.proofs.lemmas.Grind.{common_steps}
use Rattle.ffv1_record.specs.Configuration.{Configuration, configuration_of}
use Rattle.ffv1_slice.specs.Head.{head_values, place_of, indexes_of, info_of, values_steps}
use Rattle.ffv1_range.proofs.Growth.{on_err}
use Rattle.ffv1_slice.proofs.Tilings.{few_rows}
use Rattle.ffv1_slice.proofs.CallsGive.{refused_first_of, refused_behind}
use Rattle.ffv1_slice.proofs.Symbols.{puts_at}
use Rattle.ffv1_slice.proofs.CallsGive.{and_puts, values_below}
use Rattle.ffv1_slice.proofs.head.put_head.Goals as goal

pub put_place-requires-clause-held : goal.put_place-requires-clause-held
put_place-requires-clause-held g c = rw c.table-table.ensures.value
    (c.each_decision_has_a_state.ensures.fresh c.args.checked.now.table
    c.table-table.ensures.accepted.closed)

pub returns-clause-ok : goal.returns-clause-ok
returns-clause-ok g c =
    let config = configuration_of c.config-config.result.now in
    let h = c.args.head.now in
    rw (← c.table-table.ensures.value, c.config-config.ensures.value)
    (puts_at c.table-table.result.now 1 32 c.args.encoder.now c.put_three.new.encoder
    c.put_three.new.states (values_steps (head_values config c.args.slice h))
    (values_below (head_values config c.args.slice h))
    (and_puts (place_of config c.args.slice) (indexes_of config.extra_plane h.indexes ++ info_of h)
    c.in_ok-put_place.ensures.ok
    (and_puts (indexes_of config.extra_plane h.indexes) (info_of h) c.in_ok-put_indexes.ensures.ok
    (rw (← c.from.ensures, ← c.from-2.ensures, ← c.from-3.ensures) c.in_ok-put_three.ensures.ok))))

pub returns-in_err-put_place-clause-refused : goal.returns-in_err-put_place-clause-refused
returns-in_err-put_place-clause-refused g c =
    let config = configuration_of c.config-config.result.now in
    let h = c.args.head.now in
    on_err c.from_residual.result
    (rw (← c.table-table.ensures.value, c.config-config.ensures.value)
    (refused_first_of _ c.args.encoder.now _ (place_of config c.args.slice)
    (indexes_of config.extra_plane h.indexes ++ info_of h) c.in_err-put_place.ensures.refused))

pub returns-in_err-put_indexes-clause-refused : goal.returns-in_err-put_indexes-clause-refused
returns-in_err-put_indexes-clause-refused g c =
    let config = configuration_of c.config-config.result.now in
    let h = c.args.head.now in
    on_err c.from_residual-in_err-put_indexes.result
    (rw (← c.table-table.ensures.value, c.config-config.ensures.value)
    (refused_behind _ c.args.encoder.now c.put_place.new.encoder _ _ (place_of config c.args.slice)
    (indexes_of config.extra_plane h.indexes ++ info_of h) c.in_ok-put_place.ensures.ok
    (refused_first_of _ c.put_place.new.encoder _ (indexes_of config.extra_plane h.indexes)
    (info_of h) c.in_err-put_indexes.ensures.refused)))

pub returns-in_err-put_three-clause-refused : goal.returns-in_err-put_three-clause-refused
returns-in_err-put_three-clause-refused g c =
    let config = configuration_of c.config-config.result.now in
    let h = c.args.head.now in
    on_err c.from_residual-in_err-put_three.result
    (rw (← c.table-table.ensures.value, c.config-config.ensures.value)
    (refused_behind _ c.args.encoder.now c.put_place.new.encoder _ _ (place_of config c.args.slice)
    (indexes_of config.extra_plane h.indexes ++ info_of h) c.in_ok-put_place.ensures.ok
    (refused_behind _ c.put_place.new.encoder c.put_indexes.new.encoder _ _
    (indexes_of config.extra_plane h.indexes) (info_of h) c.in_ok-put_indexes.ensures.ok
    (rw (← c.from.ensures, ← c.from-2.ensures, ← c.from-3.ensures)
    c.in_err-put_three.ensures.refused))))

pub put_place-requires-clause-column : goal.put_place-requires-clause-column
put_place-requires-clause-column g c = grind (arith, common_steps)

pub put_place-requires-clause-row : goal.put_place-requires-clause-row
put_place-requires-clause-row g c =
    let config = c.args.checked.now.configuration in
    let table = c.args.checked.now.table in
    let accepted = c.config-config.ensures.accepted in
    let columns = c.accepted_configuration_is_in_range.ensures.columns config table accepted in
    let rows = c.accepted_configuration_is_in_range.ensures.rows config table accepted in
    let same = ap (λ (x : Configuration). x.columns) c.config-config.ensures.value in
    subst (λ k. c.args.slice / k < 2 ^ 31) same (few_rows c.args.slice config.columns config.rows
    columns.0 rows.1 c.requires.slice)
