-- Appends how many contexts each set has, with their names.
use Rattle.std.proofs.Common.{append_assoc, codes}
use Rattle.ffv1_outline.specs.declared.facts.Form.TheVariants as form
use Rattle.ffv1_info.specs.Contexts.{contexts_fact}
use Rattle.ffv1_info.specs.declared.contexts.Shown.TheVariants as shown
use Rattle.ffv1_info.proofs.contexts.push_contexts.Goals as goal

pub returns-in_ok-push_fact-in-Json-2 : goal.returns-in_ok-push_fact-in-Json-2
returns-in_ok-push_fact-in-Json-2 g c =
    rw (c.in_ok-push_fact-in-Json-2.ensures, c.in_ok-push_fact-in-Json.ensures, c.in-Json.is)
    (append_assoc c.args.text.now.items
    (contexts_fact form.Json (codes "contexts") shown.Number c.args.sets.now)
    (contexts_fact form.Json (codes "context_names") shown.Name c.args.sets.now))
