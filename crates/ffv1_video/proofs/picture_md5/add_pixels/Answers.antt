-- A sample of each of three or four planes after them, place after place.
use Rattle.std.proofs.Common.{arith}
use Rattle.std.proofs.lemmas.Grind.{common_steps, elements}
use Rattle.ffv1_video.proofs.picture_md5.add_pixels.Goals as goal

pub bounds-planes-0-else-planes-eq3 : goal.bounds-planes-0-else-planes-eq3
bounds-planes-0-else-planes-eq3 g c = grind (arith, common_steps)

pub bounds-planes-1-else-planes-eq3 : goal.bounds-planes-1-else-planes-eq3
bounds-planes-1-else-planes-eq3 g c = grind (arith, common_steps)

pub bounds-planes-2-else-planes-eq3 : goal.bounds-planes-2-else-planes-eq3
bounds-planes-2-else-planes-eq3 g c = grind (arith, common_steps)

pub bounds-planes-3 : goal.bounds-planes-3
bounds-planes-3 g c = grind (arith, common_steps)

pub returns-then-planes-eq3 : goal.returns-then-planes-eq3
returns-then-planes-eq3 g c = grind (arith, common_steps)

pub returns-else-planes-eq3 : goal.returns-else-planes-eq3
returns-else-planes-eq3 g c = grind (arith, common_steps)

pub add_three-requires-clause-green : goal.add_three-requires-clause-green
add_three-requires-clause-green g c = grind (arith, elements)

pub add_three-requires-clause-blue : goal.add_three-requires-clause-blue
add_three-requires-clause-blue g c = grind (arith, elements)

pub add_four-requires-clause-green : goal.add_four-requires-clause-green
add_four-requires-clause-green g c = grind (arith, elements)

pub add_four-requires-clause-blue : goal.add_four-requires-clause-blue
add_four-requires-clause-blue g c = grind (arith, elements)

pub add_four-requires-clause-extra : goal.add_four-requires-clause-extra
add_four-requires-clause-extra g c = grind (arith, elements)
