use Rattle.std.proofs.Common.{◌≡◌, ◌*◌, length}
use Rattle.ffv1_plane.specs.Quantisation.{contexts_of}
use Rattle.ffv1_codec_tests.proofs.tests.line.all_come_back.Given as goal

abbrev pub invariant-widths : goal.invariant-widths
invariant-widths g l = length l.states ≡ contexts_of l.set * 32
