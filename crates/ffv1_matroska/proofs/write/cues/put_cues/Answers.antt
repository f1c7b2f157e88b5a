-- Writes Cues of every stride-th frame.
use Rattle.std.proofs.Common.{◌≡◌, ◌≤◌, ◌<◌, ◌+◌, ◌*◌, ◌∙◌, ◌++◌, ap, arith, length, take, drop}
use Rattle.std.proofs.Common.{refl, sym, get_or}
use Rattle.std.proofs.lemmas.List.{take_all}
use Rattle.std.proofs.lemmas.Result.{err_from_is_err_and}
use Rattle.ffv1_reads.proofs.Writing.{appends_none, appends_then, stops_then, writes_stop}
use Rattle.ffv1_matroska.specs.Written.{cue_element, cues_from}
use Rattle.ffv1_matroska.proofs.CueSteps.{cues_cut, cues_more}
use Rattle.ffv1_matroska.proofs.write.cues.put_cues.Goals as goal

pub loop-place-init : goal.loop-place-init
unfolding cues_from
loop-place-init g c = (omega arith, refl, appends_none _)

pub returns-in_err-send-2 : goal.returns-in_err-send-2
returns-in_err-send-2 g c =
    let p = err_from_is_err_and c.from_residual-in_err-send-2.result
    c.from_residual-in_err-send-2.ensures.1 in
    let i = c.loop-place.place-index in
    let ps = c.args.places.now in
    let s = c.args.stride in
    let inv = c.loop-place.invariant in
    let inside : i < length ps = omega arith in
    let begin = cues_from 0 s (take i ps) in
    let one = cue_element (i * s) (get_or ps i 0) in
    let rest = cues_from (0 + length (take (i + 1) ps) * s) s (drop (i + 1) ps) in
    let cue : c.as_slice-in-loop-place.result.now ≡ one = c.as_slice-in-loop-place.ensures ∙
    c.cue_element.ensures ∙ ap (λ n. cue_element n (get_or ps i 0)) inv.0 in
    let all : (begin ++ one) ++ rest ≡ cues_from 0 s ps =
    sym (cues_cut s ps (i + 1) ∙ ap (λ z. z ++ rest)
    (cues_more s ps i (get_or ps i 0) inside refl)) in
    let here = stops_then _ _ _ _ _ _ begin one _ inv.1 inv.2 (rw cue at c.in_err-send-2.ensures) in
    let whole = rw all at (writes_stop _ _ _ _ (begin ++ one) rest _ here) in
    let sent = c.in_ok-send.ensures in
    rw (p.1, p.2, ← c.cues_front.ensures) (stops_then _ _ _ _ _ _ c.cues_front.result
    (cues_from 0 s ps) _ sent.0 (rw c.as_slice.ensures at sent.1) whole)

pub loop-place-preserved : goal.loop-place-preserved
loop-place-preserved g c =
    let i = c.loop-place.place-index in
    let ps = c.args.places.now in
    let s = c.args.stride in
    let inv = c.loop-place.invariant in
    let inside : i < length ps = omega arith in
    let sent = c.in_ok-send-2.ensures in
    let cue : c.as_slice-in-loop-place.result.now ≡ cue_element (i * s) (get_or ps i 0) =
    c.as_slice-in-loop-place.ensures ∙ c.cue_element.ensures ∙
    ap (λ n. cue_element n (get_or ps i 0)) inv.0 in
    let number : c.loop-place.number + s ≡ (i + 1) * s = grind (arith, inv.0) in (
      number,
      sent.0 ∙ inv.1,
      rw (cues_more s ps i (get_or ps i 0) inside refl)
          (appends_then _ _ _ (cues_from 0 s (take i ps)) (cue_element (i * s) (get_or ps i 0))
          inv.2
          (rw cue at sent.1)),
    )

pub returns : goal.returns
returns g c =
    let ps = c.args.places.now in
    let s = c.args.stride in
    let inv = c.loop-place.invariant in
    let far : length ps ≤ c.loop-place.place-index = omega arith in
    let all = rw (take_all c.loop-place.place-index ps far) at inv.2 in
    let sent = c.in_ok-send.ensures in
    rw (← c.cues_front.ensures) (
      inv.1 ∙ sent.0,
      appends_then _ _ _ c.cues_front.result
          (cues_from 0 s ps) (rw c.as_slice.ensures at sent.1) all,
    )
