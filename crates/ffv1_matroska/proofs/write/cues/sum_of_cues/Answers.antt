-- The CRC-32 of the cues of every stride-th frame.
use Rattle.std.proofs.Common.{◌≡◌, ◌+◌, ◌*◌, ◌∙◌, ◌<◌, ap, arith, length, take, refl, sym, get_or}
use Rattle.std.proofs.lemmas.List.Sums.{fold-append}
use Rattle.ffv1_sum.specs.Sum.{byte_step, turned}
use Rattle.ffv1_matroska.specs.Written.{cue_element, cues_from}
use Rattle.ffv1_matroska.proofs.CueSteps.{cues_more}
use Rattle.ffv1_matroska.proofs.write.cues.sum_of_cues.Goals as goal

pub loop-place-init : goal.loop-place-init
unfolding cues_from
loop-place-init c = (omega arith, refl)

pub loop-place-preserved : goal.loop-place-preserved
loop-place-preserved c =
    let i = c.loop-place.place-index in
    let ps = c.args.places.now in
    let s = c.args.stride in
    let inv = c.loop-place.invariant in
    let inside : i < length ps = omega arith in
    let cue : c.as_slice.result.now ≡ cue_element (i * s) (get_or ps i 0) = c.as_slice.ensures ∙
    c.cue_element.ensures ∙ ap (λ n. cue_element n (get_or ps i 0)) inv.0 in
    let next = cues_more s ps i (get_or ps i 0) inside refl in
    let number : c.loop-place.number + s ≡ (i + 1) * s = grind (arith, inv.0) in (
      number,
      rw (c.more-sum.ensures, inv.1, cue, next)
          (sym (fold-append byte_step turned (cues_from 0 s (take i ps))
          (cue_element (i * s) (get_or ps i 0)))),
    )
