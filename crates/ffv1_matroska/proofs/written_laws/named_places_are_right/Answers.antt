-- In the whole file each place that is named is right.
use Rattle.ffv1_matroska.proofs.WrittenStands.{cluster_placed, cue_placed, cued_placed, cues_placed}
use Rattle.ffv1_matroska.proofs.WrittenStands.{info_placed, seeks_placed, segment_placed}
use Rattle.ffv1_matroska.proofs.WrittenStands.{segment_sized, tracks_placed}
use Rattle.ffv1_matroska.proofs.written_laws.named_places_are_right.Goals as goal

pub returns-clause-segment : goal.returns-clause-segment
returns-clause-segment c = segment_placed

pub returns-clause-size : goal.returns-clause-size
returns-clause-size c = segment_sized

pub returns-clause-seeks : goal.returns-clause-seeks
returns-clause-seeks c = seeks_placed

pub returns-clause-info : goal.returns-clause-info
returns-clause-info c = info_placed

pub returns-clause-tracks : goal.returns-clause-tracks
returns-clause-tracks c = tracks_placed

pub returns-clause-cues : goal.returns-clause-cues
returns-clause-cues c = cues_placed

pub returns-clause-cluster : goal.returns-clause-cluster
returns-clause-cluster c = cluster_placed

pub returns-clause-cue : goal.returns-clause-cue
returns-clause-cue c = cue_placed

pub returns-clause-cued : goal.returns-clause-cued
returns-clause-cued c = cued_placed
