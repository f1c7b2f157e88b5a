-- Behind damage the search for the next Cluster finds the first one whose ID was not changed, if it
-- fits in the Segment: what is lost ends there.
use Rattle.ffv1_matroska.proofs.SoughtClusters.{cluster_sought}
use Rattle.ffv1_matroska.proofs.damage_laws.the_next_cluster_is_found.Goals as goal

pub returns : goal.returns
returns c = λ place junk said rest n none vint short is fits.
    cluster_sought place junk said rest n none vint short is fits
