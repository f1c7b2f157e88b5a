use Rattle.std.proofs.Common.{◌≡◌, ◌++◌, take}
use Rattle.ffv1_unpack.specs.ToldItems.{told_lines}
use Rattle.ffv1_unpack.proofs.told_first.push_lines.Given as goal

abbrev pub invariant-loop-told : goal.invariant-loop-told
invariant-loop-told g l = l.text.items ≡ l.initial.text.items ++ told_lines l.start (take l.told-index l.faults)
