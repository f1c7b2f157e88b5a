-- The sample that comes next, beside these neighbours.
use Rattle.std.proofs.Common.{rules}
use Rattle.std.proofs.lemmas.Int.{to_z-of_z}
use Rattle.std.specs.Int.{w32}
use mir.Val.{SFits}
use Rattle.ffv1_line.proofs.decode.plain.decode_word.Goals as goal

pub returns-in-Ok-clause-ok : goal.returns-in-Ok-clause-ok
returns-in-Ok-clause-ok g c =
    let set = c.args.set.now in
    let residual : SFits w32 c.in-Ok.residual = search rules in
    let made = simp to_z-of_z at c.wide_sample.ensures.value in
    record {
      residual = c.in-Ok.residual;
      suits = record {
        size = c.in-Ok.ensures.size;
        makes =
            rw (← c.low_around.ensures.flip set, ← c.context_by-context.ensures.flip) made;
      };
      follows = rw (c.context_by-context.ensures.size, c.low_around.ensures.size set) at
          c.in-Ok.ensures.follows;
    }
