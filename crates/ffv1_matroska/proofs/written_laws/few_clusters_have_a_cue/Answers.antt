-- At most 8192 Clusters have a cue, of fewer than 2^56.
use Rattle.std.proofs.Common.{◌∙◌, ◌^◌, ◌<◌, length, arith}
use Rattle.ffv1_matroska.specs.Written.{first_place}
use Rattle.ffv1_matroska.specs.WrittenPlaces.{places_from}
use Rattle.ffv1_matroska.proofs.Growing.{places_count}
use Rattle.ffv1_matroska.proofs.WrittenFile.{cues_few}
use Rattle.ffv1_matroska.proofs.WrittenStands.{stride_least, stride_power}
use Rattle.ffv1_matroska.proofs.written_laws.few_clusters_have_a_cue.Goals as goal

pub returns-clause-few : goal.returns-clause-few
returns-clause-few c = λ head details frames few.
    let ps = places_from (first_place head details) frames in
    let long = places_count (first_place head details) frames in
    let small : length ps < 2 ^ 56 = omega (arith, long, few) in
    rw (← long) (cues_few ps small)

pub returns-clause-power : goal.returns-clause-power
returns-clause-power c = λ count. let p = stride_power 64 1 count in (p.0, p.1 ∙ (omega arith))

pub returns-clause-least : goal.returns-clause-least
returns-clause-least c = λ count. stride_least 64 1 count
