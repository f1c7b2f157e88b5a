-- Keeps every second place, from the first on.
use Rattle.std.proofs.Common.{◌≡◌, ◌≤◌, ◌<◌, ◌+◌, ◌/◌, ◌%◌, ◌∙◌, length, take, get_or, arith, sym}
use Rattle.std.proofs.Common.{ap}
use Rattle.std.proofs.lemmas.Grind.{common_steps}
use Rattle.std.proofs.lemmas.List.{ext_get_or}
use Rattle.ffv1_matroska.specs.WrittenPlaces.{every}
use Rattle.ffv1_matroska.proofs.PlaceSteps.{seconds, seconds_count}
use Rattle.ffv1_matroska.proofs.write.places.halve.Goals as goal

pub returns-clause-items : goal.returns-clause-items
returns-clause-items g c =
    let old = c.args.places.now.items in
    let now = c.loop-k.places.items in
    let half = length old / 2 + length old % 2 in
    let inv = c.loop-k.invariant in
    let half_is : c.len.result / 2 + c.len-2.result % 2 ≡ half =
    omega (arith, c.len.ensures, c.len-2.ensures) in
    let end : c.loop-k.k ≡ half = omega arith in
    let fits : half ≤ length now = omega (arith, inv.0) in
    let long : length (take half now) ≡ half = grind (arith, common_steps, fits) in
    let all : take half now ≡ every 2 old = ext_get_or 0 (take half now) (every 2 old)
    (long ∙ sym (seconds_count old))
    (λ i below. let inside : i < half = omega (arith, long, below) in
    let taken : get_or (take half now) i 0 ≡ get_or now i 0 = grind (arith, common_steps, inside) in
    taken ∙ inv.2 i (omega (arith, end, inside)) ∙ sym (seconds old i).first) in
    c.truncate.ensures.items ∙ ap (λ n. take n now) half_is ∙ all
