-- What plain reading finds of Tracks that stand behind Clusters is found if the file may be damaged.
use Rattle.ffv1_matroska.proofs.LateSalvageLaws.{late_same, track_found, track_refused, track_short}
use Rattle.ffv1_matroska.proofs.late_salvage_laws.what_plain_reading_finds_is_found.Goals as goal

pub returns-clause-track : goal.returns-clause-track
returns-clause-track c = track_found

pub returns-clause-opened : goal.returns-clause-opened
returns-clause-opened c = late_same

pub returns-clause-fault : goal.returns-clause-fault
returns-clause-fault c = track_refused

pub returns-clause-short : goal.returns-clause-short
returns-clause-short c = track_short
