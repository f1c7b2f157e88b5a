-- Appends what Info says.
use Rattle.std.proofs.Common.{◌∙◌, ◌++◌, ap}
use Rattle.std.specs.Prelude.{codes}
use Rattle.ffv1_outline.specs.Durations.{seconds}
use Rattle.ffv1_outline.specs.Facts.{closing, fact, opening}
use Rattle.ffv1_outline.specs.MatroskaOutline.{application_in, info_lasts}
use Rattle.ffv1_outline.specs.Outline.{info_facts}
use Rattle.ffv1_outline.proofs.FactChains.{fact_then}
use Rattle.ffv1_outline.proofs.outline.push_info.Goals as goal

pub returns : goal.returns
unfolding info_facts
returns g c =
    let form = c.args.form in
    let info = c.args.info.now in
    fact_then c.args.text.now.items (opening form (codes "application")) (application_in form info)
    (closing form) (fact form (codes "duration") (seconds form (info_lasts info))) _ _ _ _
    c.in_ok-push_opening.ensures c.in_ok-push_application.ensures
    (c.in_ok-extend_from_slice.ensures.items
    ∙ ap (λ z. c.push_application.new.text.items ++ z) c.closing.ensures)
    (c.in_ok-push_duration.ensures ∙ ap (λ m. c.extend_from_slice.new.self.items
    ++ fact form (codes "duration") (seconds form m)) c.info_lasts.ensures)
