-- A file is read once, unless its first Cluster, or the end of its Segment, comes before any
-- Tracks.
use Rattle.std.proofs.Common.{Ok, Err, ◌∙◌}
use Rattle.ffv1_reads.specs.Reads.{Met, Short}
use Rattle.ffv1_reads.specs.declared.fault.FileFault.TheVariants as fault
use Rattle.ffv1_matroska.proofs.AgainLaws.{once_again, other_fault}
use Rattle.ffv1_matroska.proofs.again_laws.other_files_are_read_once.Goals as goal

pub returns-clause-opened : goal.returns-clause-opened
returns-clause-opened c = λ text rest o is. once_again text (Ok (o, rest)) is

pub returns-clause-short : goal.returns-clause-short
returns-clause-short c = λ text w is. once_again text (Err (Short w)) is

pub returns-clause-fault : goal.returns-clause-fault
returns-clause-fault c = λ text rest f is other.
    once_again text (Err (Met f rest)) is ∙ other_fault text rest f other

pub returns-clause-late : goal.returns-clause-late
returns-clause-late c = λ text rest is. once_again text (Err (Met fault.NoTracks rest)) is
