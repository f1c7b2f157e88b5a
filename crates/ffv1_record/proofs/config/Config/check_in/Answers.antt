-- The configuration, checked in a profile, for samples of `depth` bits; it keeps both.
use Rattle.ffv1_record.proofs.Checks.{deepest_few}
use Rattle.ffv1_record.proofs.config.Config.check_in.Goals as goal

pub new-requires-clause-depth : goal.new-requires-clause-depth
new-requires-clause-depth g c =
    deepest_few c.args.profile c.args.most c.args.depth
    (rw c.deepest.ensures at c.in-Ok.ensures.depth)
