use Rattle.std.proofs.Common.{◌≡◌, ◌++◌, take}
use Rattle.ffv1_video.specs.Md5Text.{small_hexadecimal}
use Rattle.ffv1_video.proofs.md5_lines.push_small_hexadecimal.Given as goal

abbrev pub invariant-loop-at : goal.invariant-loop-at
invariant-loop-at g l = l.text.items ≡ l.initial.text.items ++ small_hexadecimal (take l.at l.bytes)
