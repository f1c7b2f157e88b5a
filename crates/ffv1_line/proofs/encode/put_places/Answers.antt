-- The symbols of the places of a part of a row, one by one, by the block that was prepared of it.
use Rattle.std.proofs.Common.{◌∙◌, arith, subst, sym}
use Rattle.ffv1_range.proofs.Steps.{puts_none, puts_append}
use Rattle.ffv1_range.proofs.Growth.{on_err}
use Rattle.ffv1_range.specs.Counts.{Counts, Counted}
use Rattle.ffv1_line.specs.Internal.Parts.{part_steps}
use Rattle.ffv1_line.proofs.lemmas.cell.Beside.{places-none, places-more, place_is, refused_place}
use Rattle.ffv1_line.proofs.lemmas.encode.BlockLanes.{nine_by, nine_limit}
use Rattle.ffv1_line.proofs.encode.put_places.Goals as goal

pub loop-k-init : goal.loop-k-init
loop-k-init g c = record {
  held = c.requires.held;
  rows = c.requires.rows;
  sound = c.requires.sound;
  puts = rw (places-none c.args.part.now.set.now c.args.part.now.bits c.args.part.now.two.now
      c.args.part.now.one.now c.args.part.now.cur.now c.args.part.now.from)
      (puts_none c.args.table.now c.args.encoder.now c.args.states.now);
}

pub returns-in_err-put_mostly_zero-clause-refused :
    goal.returns-in_err-put_mostly_zero-clause-refused
returns-in_err-put_mostly_zero-clause-refused g c =
    let k = c.loop-k.k in
    let place = place_is c.args.part.now c.args.part.now.count k _ _ _ c.requires.block
    c.loop-k-test.true (sym (nine_by c.args.part.now.bits _ c.requires.bits)) in
    on_err c.from_residual.result
    (refused_place c.args.table.now _ _ _ _ c.args.part.now.set.now c.args.part.now.bits
    c.args.part.now.two.now c.args.part.now.one.now c.args.part.now.cur.now c.args.part.now.from
    k c.args.part.now.count c.loop-k-test.true c.loop-k.invariant.puts
    (rw place at c.in_err-put_mostly_zero.ensures.refused))

pub loop-k-preserved : goal.loop-k-preserved
loop-k-preserved g c =
    let k = c.loop-k.k in
    let place = place_is c.args.part.now c.args.part.now.count k _ _ _ c.requires.block
    c.loop-k-test.true (sym (nine_by c.args.part.now.bits _ c.requires.bits)) in
    let puts = rw place at c.in_ok-put_mostly_zero.ensures.ok in
    record {
      held = c.in_ok-put_mostly_zero.ensures.held;
      rows = omega arith;
      sound = puts.failed ∙ c.loop-k.invariant.sound;
      puts = rw (places-more c.args.part.now.set.now c.args.part.now.bits c.args.part.now.two.now
          c.args.part.now.one.now c.args.part.now.cur.now c.args.part.now.from k)
          (puts_append c.args.table.now _ _ _ _ _ _ _ _ c.loop-k.invariant.puts puts);
    }

pub returns-in_err-put_mostly_zero-clause-kept : goal.returns-in_err-put_mostly_zero-clause-kept
returns-in_err-put_mostly_zero-clause-kept g c =
    let k = c.loop-k.k in
    on_err c.from_residual.result
    (record {
      first = k;
      few = λ some. c.loop-k-test.true;
      counted = subst (λ (n : Counts). Counted c.args.encoder.now.counts
          (part_steps c.args.part.now k) n) (sym c.in_err-put_mostly_zero.ensures.kept)
          c.loop-k.invariant.puts.counts;
    })

pub put_mostly_zero-requires-clause-small : goal.put_mostly_zero-requires-clause-small
put_mostly_zero-requires-clause-small g c =
    rw (nine_limit c.args.part.now.bits c.requires.bits) at
    c.requires.block.small c.loop-k.k c.loop-k-test.true
