use Rattle.std.proofs.Common.{◌≡◌, ◌++◌, codes, decimal, flat_map, take}
use Rattle.ffv1_plane.specs.Quantisation.{contexts_of}
use Rattle.ffv1_unpack.proofs.stream_lines.push_counts.Given as goal

abbrev pub invariant-loop-set : goal.invariant-loop-set
invariant-loop-set g l = l.text.items ≡ l.initial.text.items ++ flat_map
    (λ set. codes " " ++ decimal (contexts_of set)) (take l.set-index l.sets)
