use Rattle.std.proofs.Common.{◌≡◌, ◌-◌, length, take}
use Rattle.ffv1_y4m.specs.Spaces.{word_read}
use Rattle.ffv1_y4m.proofs.SpacesRead.{Walked}
use Rattle.ffv1_y4m.proofs.ppm_spaces.read_word.Given as goal

abbrev pub invariant-loop-len : goal.invariant-loop-len
invariant-loop-len g l =
    Walked (word_read (length l.word - 1) (take 1 l.initial.word))
    (word_read (length l.word - l.len) (take l.len l.word))
    (g.R.ByteIn.remaining l.initial.input) (g.R.ByteIn.remaining l.input)
    × (g.R.ByteIn.failures l.input ≡ g.R.ByteIn.failures l.initial.input)
