-- If a Cluster comes before any Tracks, or the Segment ends, the file has no Tracks, and nothing
-- after the header of the Cluster, or after the Segment, is read.
use Rattle.ffv1_matroska.proofs.TrackLaws.{cluster_without, end_without}
use Rattle.ffv1_matroska.proofs.laws.file_without_tracks_is_refused.Goals as goal

pub returns : goal.returns
returns c = record { cluster = cluster_without; end = end_without }
