-- The logarithm by a run's index.
use Rattle.std.proofs.Common.{◌≡◌, ◌∙◌, sym, subst, ◌≤◌}
use Rattle.ffv1_rice.specs.Run.{run_log}
use Rattle.ffv1_rice.proofs.Runs.{run_log_is, run_log_most}
use Rattle.ffv1_rice.proofs.run.run_log_of.Goals as goal

pub returns-clause-value : goal.returns-clause-value
returns-clause-value c = c.from.ensures ∙ run_log_is c.args.index

pub returns-clause-few : goal.returns-clause-few
returns-clause-few c =
    let value : c.from.result ≡ run_log c.args.index = c.from.ensures ∙ run_log_is c.args.index in
    subst (λ n. n ≤ 24) (sym value) (run_log_most c.args.index c.requires)
