-- An element that passes what it stands in is truncated, and nothing after its header is read: in
-- the Segment, before the first Tracks and after them; in a Cluster of known size; and in a
-- BlockGroup of a Cluster.
use Rattle.ffv1_matroska.proofs.GivenLaws.{gives_refused}
use Rattle.ffv1_matroska.proofs.LongFields.{entry_field_passes, header_field_passes}
use Rattle.ffv1_matroska.proofs.LongFields.{tracks_field_passes}
use Rattle.ffv1_matroska.proofs.LongLaws.{cluster_passes, group_passes, loose_group_passes}
use Rattle.ffv1_matroska.proofs.LongLaws.{segment_passes}
use Rattle.ffv1_matroska.proofs.TrackLaws.{before_passes}
use Rattle.ffv1_matroska.proofs.laws.long_element_is_truncated.Goals as goal

pub returns : goal.returns
returns c =
    record {
      before = before_passes;
      segment = segment_passes;
      cluster = cluster_passes;
      group = group_passes;
      loose_group = loose_group_passes;
      refused = gives_refused;
      header = header_field_passes;
      tracks = tracks_field_passes;
      track_entry = entry_field_passes;
    }
