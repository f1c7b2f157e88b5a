-- In which way a file that may be damaged was opened.
use Rattle.std.specs.Prelude.{Bool, false, true}
use Rattle.ffv1_files.specs.declared.way.Way.{Way}
use Rattle.ffv1_files.specs.declared.way.Way.TheVariants as way

-- whether faults before its first frame are told
abbrev pub tells : Way → Bool
tells way.Plainly = false
tells way.Telling = true
tells way.TellingLate = true
