-- The head of a slice, by 32 fresh states.
use Rattle.std.proofs.Common.{◌++◌, length, replicate, Ok}
use Rattle.ffv1_record.specs.Configuration.{configuration_of, at_depth}
use Rattle.ffv1_slice.specs.Head.{head_rules, head_values, index_rules, info_rules}
use Rattle.ffv1_slice.specs.declared.head.SliceHead.{SliceHead}
use Rattle.ffv1_slice.specs.Internal.Values.{Gives}
use Rattle.ffv1_slice.proofs.CallsGive.{and_gives, and_stops, stops}
use Rattle.ffv1_slice.proofs.HeadValues.{refused_head, found_head, is_head}
use Rattle.ffv1_slice.proofs.head.read_head.Goals as goal

pub get_place-requires : goal.get_place-requires
get_place-requires g c = record {
  held = rw c.table-table.ensures.value
      (c.each_decision_has_a_state.ensures.fresh c.args.checked.now.table
      c.table-table.ensures.accepted.closed);
}

pub returns-in_err-get_place-clause-refused : goal.returns-in_err-get_place-clause-refused
returns-in_err-get_place-clause-refused g c =
    let config = configuration_of c.config-config.result.now in
    rw (← c.table-table.ensures.value, c.config-config.ensures.value)
    (refused_head c.args.checked.now.profile config c.args.slice c.table-table.result.now
    c.args.decoder.now c.get_place.new.decoder c.get_place.new.states c.from_residual.result
    c.from_residual.ensures.1
    (stops (index_rules config.extra_plane (length config.sets) ++ info_rules
    c.args.checked.now.profile) c.in_err-get_place.ensures.gives))

pub returns-in_err-indexes-clause-refused : goal.returns-in_err-indexes-clause-refused
returns-in_err-indexes-clause-refused g c =
    let config = configuration_of c.config-config.result.now in
    rw (← c.table-table.ensures.value, c.config-config.ensures.value)
    (refused_head c.args.checked.now.profile config c.args.slice c.table-table.result.now
    c.args.decoder.now c.get_indexes.new.decoder c.get_indexes.new.states
    c.from_residual-in_err-indexes.result c.from_residual-in_err-indexes.ensures.1
    (rw (← c.len.ensures.count) (and_stops c.in_ok-get_place.ensures.gives
    (stops (info_rules c.args.checked.now.profile) c.in_err-indexes.ensures.gives))))

pub returns-in_err-structure-clause-refused : goal.returns-in_err-structure-clause-refused
returns-in_err-structure-clause-refused g c =
    let config = configuration_of c.config-config.result.now in
    rw (← c.table-table.ensures.value, c.config-config.ensures.value)
    (refused_head c.args.checked.now.profile config c.args.slice c.table-table.result.now
    c.args.decoder.now c.get_info.new.decoder c.get_info.new.states
    c.from_residual-in_err-structure.result c.from_residual-in_err-structure.ensures.1
    (rw (← c.len.ensures.count, ← c.profile.ensures.value)
    (and_stops c.in_ok-get_place.ensures.gives
    (and_stops c.in_ok-indexes.ensures.gives c.in_err-structure.ensures.gives))))

pub returns-clause-head : goal.returns-clause-head
returns-clause-head g c =
    let config = at_depth (configuration_of c.config-config.result.now)
    c.args.checked.now.configuration.depth in
    let h : SliceHead = record {
      indexes = c.in_ok-indexes.indexes;
      structure =
          c.in_ok-structure.structure;
      sar_num = c.in_ok-structure.sar_num;
      sar_den =
          c.in_ok-structure.sar_den;
    } in
    let all : Gives c.table-table.result.now (head_rules c.args.checked.now.profile config
    c.args.slice) c.args.decoder.now (replicate 32 128) c.get_info.new.decoder
    c.get_info.new.states (Ok (head_values config c.args.slice h)) =
    rw (← c.len.ensures.count, ← c.profile.ensures.value)
    (and_gives c.in_ok-get_place.ensures.gives
    (and_gives c.in_ok-indexes.ensures.gives c.in_ok-structure.ensures.gives)) in
    rw c.config-config.ensures.value (is_head c.args.checked.now.profile config c.args.slice 0 h
    (all.gives 0).0 c.in_ok-indexes.ensures.long c.in_ok-indexes.ensures.third)

pub returns-clause-ok : goal.returns-clause-ok
returns-clause-ok g c =
    let config = configuration_of c.config-config.result.now in
    let h : SliceHead = record {
      indexes = c.in_ok-indexes.indexes;
      structure =
          c.in_ok-structure.structure;
      sar_num = c.in_ok-structure.sar_num;
      sar_den =
          c.in_ok-structure.sar_den;
    } in
    rw (← c.table-table.ensures.value, c.config-config.ensures.value)
    (found_head c.args.checked.now.profile config c.args.slice h c.table-table.result.now
    c.args.decoder.now c.get_info.new.decoder c.get_info.new.states
    (rw (← c.len.ensures.count, ← c.profile.ensures.value)
    (and_gives c.in_ok-get_place.ensures.gives
    (and_gives c.in_ok-indexes.ensures.gives c.in_ok-structure.ensures.gives))))
