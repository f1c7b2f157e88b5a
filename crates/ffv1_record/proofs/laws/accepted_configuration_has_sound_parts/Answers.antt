-- What holds of the planes, sets and table of a configuration that was checked.
use Rattle.ffv1_record.specs.declared.config.Profile.TheVariants as profile
use Rattle.ffv1_record.proofs.Checks.{rice_shallow, never_strict, passed_coder}
use Rattle.ffv1_record.proofs.Parts.{rct_parts, shallow_or_full, luma_parts, set_at, most_few}
use Rattle.ffv1_record.proofs.laws.accepted_configuration_has_sound_parts.Goals as goal

pub returns-clause-rct : goal.returns-clause-rct
returns-clause-rct c = λ x t is colour.
    let parts = rct_parts x.log2_h x.log2_v x.chroma_planes x.colour is.passes.1.0 colour in
    (parts.0, parts.1, parts.2)

pub returns-clause-depth : goal.returns-clause-depth
returns-clause-depth c = λ x t is. shallow_or_full 16 x.depth is.depth

pub returns-clause-luma : goal.returns-clause-luma
returns-clause-luma c = λ x t is none. luma_parts x.log2_h x.log2_v x.chroma_planes x.extra_plane
    x.colour is.passes.1.0 is.passes.1.1.0 none

pub returns-clause-set : goal.returns-clause-set
returns-clause-set c = λ x t k is inside. set_at x.sets k is.sets inside

pub returns-clause-most : goal.returns-clause-most
returns-clause-most c = λ x t is. most_few x.sets is.sets

pub returns-clause-coder : goal.returns-clause-coder
returns-clause-coder c = λ x t is. (is.table, is.closed, is.writable)

pub returns-clause-rice : goal.returns-clause-rice
returns-clause-rice c = λ x t is. rice_shallow profile.Wide x (passed_coder profile.Wide x is.passes)

pub returns-clause-strict : goal.returns-clause-strict
returns-clause-strict c = λ x passes. never_strict x (passed_coder profile.Strict x passes)
