-- Each CRC-32 that is written is right, if the record and the frames are bytes: in SeekHead, Info,
-- Tracks, each Cluster and Cues, as any content after its CRC-32 is judged.
use Rattle.ffv1_matroska.specs.Written.{cluster_content, cues_from, entry_element, info_content}
use Rattle.ffv1_matroska.specs.Written.{seeks}
use Rattle.ffv1_matroska.proofs.WrittenChecks.{checked_told}
use Rattle.ffv1_matroska.proofs.WrittenBytes.{cluster_are, cues_are, entry_are, info_are, seeks_are}
use Rattle.ffv1_matroska.proofs.written_laws.written_sums_are_right.Goals as goal

pub returns-clause-any : goal.returns-clause-any
returns-clause-any c = λ content all. checked_told content all

pub returns-clause-seek_head : goal.returns-clause-seek_head
returns-clause-seek_head c = λ finish. checked_told (seeks finish) (seeks_are finish)

pub returns-clause-info : goal.returns-clause-info
returns-clause-info c = λ head finish. checked_told (info_content head finish)
    (info_are head finish)

pub returns-clause-tracks : goal.returns-clause-tracks
returns-clause-tracks c = λ head details all. checked_told (entry_element head details)
    (entry_are head details all)

pub returns-clause-cluster : goal.returns-clause-cluster
returns-clause-cluster c = λ number frame all. checked_told (cluster_content number frame)
    (cluster_are number frame all)

pub returns-clause-cues : goal.returns-clause-cues
returns-clause-cues c = λ stride places. checked_told (cues_from 0 stride places)
    (cues_are 0 stride places)
