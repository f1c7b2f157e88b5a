use Rattle.std.proofs.Common.{◌≡◌, take}
use Rattle.std.specs.List.{list_any}
use Rattle.ffv1_unpack.specs.StreamLines.{is_wide}
use Rattle.ffv1_unpack.proofs.stream_lines.has_wide_set.Given as goal

abbrev pub invariant-loop-set : goal.invariant-loop-set
invariant-loop-set g l = l.wide ≡ list_any is_wide (take l.set-index l.sets)
