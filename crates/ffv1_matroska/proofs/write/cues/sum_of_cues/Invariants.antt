use Rattle.std.proofs.Common.{◌≡◌, ◌*◌, take, fold}
use Rattle.ffv1_sum.specs.Sum.{byte_step, turned}
use Rattle.ffv1_matroska.specs.Written.{cues_from}
use Rattle.ffv1_matroska.proofs.write.cues.sum_of_cues.Given as goal

abbrev pub invariant-loop-place : goal.invariant-loop-place
invariant-loop-place l =
    (l.number ≡ l.place-index * l.stride)
    × (l.sum ≡ fold byte_step turned (cues_from 0 l.stride (take l.place-index l.places)))
