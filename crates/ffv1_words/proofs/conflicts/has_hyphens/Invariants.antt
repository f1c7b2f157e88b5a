use Rattle.std.proofs.Common.{◌≡◌, ◌+◌}
use Rattle.ffv1_words.specs.Order.{bit_number}
use Rattle.ffv1_words.proofs.Hyphens.{hyphens_from}
use Rattle.ffv1_words.proofs.conflicts.has_hyphens.Given as goal

abbrev pub invariant-loop-path : goal.invariant-loop-path
invariant-loop-path l = bit_number l.seen + hyphens_from l.path-index l.paths ≡ hyphens_from 0
    l.paths
