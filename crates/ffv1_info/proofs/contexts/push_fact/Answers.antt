-- Appends a fact of how many contexts each set has.
use Rattle.ffv1_outline.specs.Facts.{closing, opening}
use Rattle.ffv1_info.specs.Contexts.{contexts_value}
use Rattle.ffv1_info.proofs.FactText.{three}
use Rattle.ffv1_info.proofs.contexts.push_fact.Goals as goal

pub returns : goal.returns
returns g c =
    rw (
      c.in_ok-extend_from_slice.ensures.items,
      c.in_ok-push_value.ensures,
      c.in_ok-push_opening.ensures,
      c.closing.ensures,
    )
    (three c.args.text.now.items (opening c.args.form c.args.name.now)
    (contexts_value c.args.form c.args.shown c.args.sets.now) (closing c.args.form))
