-- Appends all tracks.
use Rattle.std.proofs.Common.{◌++◌, ◌∙◌, append-nil, ap, sym, refl, length, arith}
use Rattle.ffv1_outline.specs.Outline.{entry_in, step_in}
use Rattle.ffv1_outline.specs.Steps.{slices}
use Rattle.ffv1_outline.specs.Tracks.{entries, tracks_up_to}
use Rattle.ffv1_outline.proofs.TrackSteps.{joined, next_number, steps_end, steps_on}
use Rattle.ffv1_outline.proofs.tracks.push_entries.Goals as goal

pub loop-step-init : goal.loop-step-init
loop-step-init g c = (length c.args.content.now, omega arith, omega arith, refl)

pub loop-step-preserved : goal.loop-step-preserved
loop-step-preserved g c =
    let inv = c.loop-step.invariant in
    let xs = c.loop-step.rest.now in
    let s = c.in-Some.step in
    let value = rw c.in-Some.is at c.next_step.ensures.value in
    let less = rw c.in-Some.is at c.next_step.ensures.less in
    let next = steps_on (step_in c.args.layout) (entry_in c.args.layout c.args.form) inv.0
    c.loop-step.number xs (record { track = slices s.track; rest = s.rest.now }) inv.1 (sym value)
    less in
    let more = next_number c.loop-step.number (slices s.track) in
    let behind = c.in_ok-number.ensures.next in (
      next.0,
      next.1,
      omega (arith, behind, more, less, inv.2),
      ap (λ z. c.push_there.new.text.items ++ z)
          (ap (λ n. entries (entry_in c.args.layout c.args.form) n
          (tracks_up_to (step_in c.args.layout) next.0 s.rest.now)) behind)
          ∙ joined _ _ _ _ _ c.in_ok-number.ensures.text next.2
          ∙ inv.3,
    )

pub returns : goal.returns
returns g c =
    let inv = c.loop-step.invariant in
    let value = rw c.in_default.is at c.next_step.ensures.value in
    let none = steps_end (step_in c.args.layout) (entry_in c.args.layout c.args.form) inv.0
    c.loop-step.number c.loop-step.rest.now (sym value) in
    sym (append-nil c.loop-step.text.items) ∙ ap (λ z. c.loop-step.text.items ++ z) (sym none) ∙ inv.3
