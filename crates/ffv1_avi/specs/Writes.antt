-- What a call that writes a file answers.
use Rattle.std.specs.Prelude.{◌≡◌, ◌<◌, ◌≤◌, List, ℕ, Result, Err}
use Rattle.std.specs.Io.KnownBytes.{Keeps}
use Rattle.ffv1_wire.specs.Passage.{Passage}
use Rattle.ffv1_reads.specs.Head.{Head}
use Rattle.ffv1_reads.specs.Writes.{Writes}
use Rattle.ffv1_avi.specs.Written.{file_of, most, riff_size}
use Rattle.ffv1_reads.specs.declared.fault.FileFault.{FileFault}
use Rattle.ffv1_reads.specs.declared.fault.FileFault.TheVariants as fault

-- the file of a head and frames was written, or refused before any byte if it would be too large
abbrev pub WritesFile : Passage → Head → List (List ℕ) → Result (Unit {0}) FileFault → Type 0
WritesFile p head frames (Err fault.TooLarge) =
    (most < riff_size head frames) × (p.after ≡ p.before) × Keeps p.old p.new
WritesFile p head frames r = (riff_size head frames ≤ most) × Writes p (file_of head frames) r
