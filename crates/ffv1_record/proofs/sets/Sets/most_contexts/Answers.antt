-- The largest number of contexts of the sets, at most 32768; 0 where there is none.
use Rattle.std.proofs.Common.{arith, ◌<◌, length, ap, ◌∙◌, []}
use Rattle.std.proofs.lemmas.List.{get_or_read}
use Rattle.ffv1_plane.specs.Quantisation.{contexts_of}
use Rattle.ffv1_record.proofs.SetLists.{most_more_of}
use Rattle.ffv1_record.proofs.sets.Sets.most_contexts.Goals as goal

pub loop-index-preserved : goal.loop-index-preserved
loop-index-preserved g c =
    let inside : c.loop-index.index < length c.self.inside.sets.items = omega arith in
    let here = get_or_read c.self.inside.sets.items c.loop-index.index c.index.result.now inside
    c.index.ensures [] in
    record {
      value = c.greater-most.ensures ∙ most_more_of c.self.inside.sets.items c.loop-index.index
          c.contexts.result c.loop-index.most inside
          (c.contexts.ensures.value ∙ ap contexts_of here) c.loop-index.invariant.value;
      few = omega (
        arith,
        c.contexts.ensures.few,
        c.loop-index.invariant.few,
        c.greater-most.ensures,
      );
    }
