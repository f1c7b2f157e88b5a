-- How the lines of a plane are coded: by the set and the bits of the plane.
use Rattle.std.proofs.Common.{ap}
use Rattle.ffv1_record.specs.Configuration.{Configuration}
use Rattle.ffv1_encode.proofs.lemmas.slice_body.Classes.{Looked, looked_set, looked_slot, looked_fits}
use Rattle.ffv1_encode.proofs.slice_body.coding_of.Goals as goal

pub returns-clause-set : goal.returns-clause-set
returns-clause-set g c =
    let conf = c.args.slice.now.checked.now.configuration in
    let looked : Looked conf c.args.plane c.config-config.result.now.sets c.most_contexts.result
    c.class_of-class.result c.index_of.result c.get-set.result.now = record {
      sets_are = ap (λ (k : Configuration). k.sets) c.config-config.ensures.value;
      most_is = c.most_contexts.ensures.value;
      class_is = c.class_of-class.ensures.value;
      index_is = c.index_of.ensures.value;
      index_inside = c.index_of.ensures.inside;
      set_got = c.get-set.ensures;
    } in
    looked_set conf c.args.slice.now.info c.args.plane _ _ _ _ _ looked c.requires.plane

pub returns-clause-at : goal.returns-clause-at
returns-clause-at g c =
    let conf = c.args.slice.now.checked.now.configuration in
    let looked : Looked conf c.args.plane c.config-config.result.now.sets c.most_contexts.result
    c.class_of-class.result c.index_of.result c.get-set.result.now = record {
      sets_are = ap (λ (k : Configuration). k.sets) c.config-config.ensures.value;
      most_is = c.most_contexts.ensures.value;
      class_is = c.class_of-class.ensures.value;
      index_is = c.index_of.ensures.value;
      index_inside = c.index_of.ensures.inside;
      set_got = c.get-set.ensures;
    } in
    looked_slot conf c.args.plane _ _ _ _ _ looked

pub returns-clause-fits : goal.returns-clause-fits
returns-clause-fits g c =
    let conf = c.args.slice.now.checked.now.configuration in
    let looked : Looked conf c.args.plane c.config-config.result.now.sets c.most_contexts.result
    c.class_of-class.result c.index_of.result c.get-set.result.now = record {
      sets_are = ap (λ (k : Configuration). k.sets) c.config-config.ensures.value;
      most_is = c.most_contexts.ensures.value;
      class_is = c.class_of-class.ensures.value;
      index_is = c.index_of.ensures.value;
      index_inside = c.index_of.ensures.inside;
      set_got = c.get-set.ensures;
    } in
    looked_fits conf c.args.plane _ _ _ _ _ looked c.requires.plane
