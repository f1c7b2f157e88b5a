-- If nothing is found behind a file whose frames were read, it ends there.
use Rattle.std.proofs.Common.{◌∙◌}
use Rattle.ffv1_reads.proofs.FilesBehind.{none_are_read}
use Rattle.ffv1_matroska.proofs.ReadFiles.{file_sound}
use Rattle.ffv1_matroska.proofs.laws.nothing_stands_behind_a_file.Goals as goal

pub returns : goal.returns
returns c = λ file head frames rest after read none.
    let is = file_sound file head frames rest read in
    (is.0, is.1 ∙ none_are_read rest after none)
