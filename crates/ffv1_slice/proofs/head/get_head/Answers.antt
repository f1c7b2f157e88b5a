-- Reads the head of a slice, whose number in raster order gives its place, by 32 fresh states.
use Rattle.std.proofs.Common.{Ok, ap}
use Rattle.ffv1_slice.proofs.HeadValues.{small_slice}
use Rattle.ffv1_slice.proofs.FoundHeads.{read_is, refused_is, read_only, not_refused}
use Rattle.ffv1_slice.proofs.head.get_head.Goals as goal

pub returns-in-Ok-clause-found : goal.returns-in-Ok-clause-found
returns-in-Ok-clause-found g c = λ stands.
    let checked = c.args.checked.now in
    read_is checked.table checked.profile checked.configuration c.args.slice c.args.decoder.now
    c.read_head.new.decoder c.in-Ok.head c.in-Ok.ensures.head c.in-Ok.ensures.ok stands

pub returns-in-Ok-clause-only : goal.returns-in-Ok-clause-only
returns-in-Ok-clause-only g c = λ h at.
    let checked = c.args.checked.now in
    let conf = checked.configuration in
    let accepted = c.config-config.ensures.accepted in
    let small = small_slice conf.columns conf.rows c.args.slice
    (c.accepted_configuration_is_in_range.ensures.columns conf checked.table accepted).1
    (c.accepted_configuration_is_in_range.ensures.rows conf checked.table accepted).1
    c.requires in
    let few = (c.accepted_configuration_is_in_range.ensures.sets conf checked.table accepted).1 in
    ap Ok (read_only checked.table checked.profile conf c.args.slice c.args.decoder.now
    c.read_head.new.decoder accepted small few at.bytes at.behind h at.codes c.in-Ok.head
    c.in-Ok.ensures.head c.in-Ok.ensures.ok)

pub returns-in-Err-clause-only : goal.returns-in-Err-clause-only
returns-in-Err-clause-only g c = λ h at.
    let checked = c.args.checked.now in
    let conf = checked.configuration in
    let accepted = c.config-config.ensures.accepted in
    let small = small_slice conf.columns conf.rows c.args.slice
    (c.accepted_configuration_is_in_range.ensures.columns conf checked.table accepted).1
    (c.accepted_configuration_is_in_range.ensures.rows conf checked.table accepted).1
    c.requires in
    let few = (c.accepted_configuration_is_in_range.ensures.sets conf checked.table accepted).1 in
    let refused = c.in-Err.ensures.refused in
    absurd (not_refused checked.table checked.profile conf c.args.slice c.args.decoder.now
    c.read_head.new.decoder accepted small few at.bytes at.behind h at.codes c.in-Err.fault
    refused.0 refused.1 refused.2)

pub returns-in-Err-clause-exact : goal.returns-in-Err-clause-exact
returns-in-Err-clause-exact g c = λ stands.
    let checked = c.args.checked.now in
    let refused = c.in-Err.ensures.refused in (
      refused.0,
      refused_is checked.table checked.profile checked.configuration c.args.slice
          c.args.decoder.now c.read_head.new.decoder c.in-Err.fault refused.0 refused.1 refused.2
          stands,
    )
