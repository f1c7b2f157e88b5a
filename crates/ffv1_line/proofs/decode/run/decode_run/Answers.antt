-- The places of a block from `start` on that are a run and whose symbols are zeros, in a set whose
-- fourth and fifth tables have one level: the samples above, above to the left and right and to the
-- left are one, and so is each that comes.
use Rattle.std.proofs.Common.{refl, ◌<◌, length, arith, rules, ◌∙◌}
use Rattle.std.proofs.lemmas.Int.{to_z-of_z}
use Rattle.std.specs.Int.{w32}
use mir.Val.{SFits}
use Rattle.ffv1_line.specs.Internal.Along.{HasRunContext}
use Rattle.ffv1_line.proofs.lemmas.decode.EqualNeighbours.{comes_again}
use Rattle.ffv1_line.proofs.lemmas.decode.Zeros.{held_with}
use Rattle.ffv1_line.proofs.decode.run.decode_run.Given.{Over}
use Rattle.ffv1_line.proofs.decode.run.decode_run.Goals.{After-is_a_bounded_set}
use Rattle.ffv1_line.proofs.decode.run.decode_run.Goals as goal

-- a set has a context, and so a state
some : (g : Over) (c : After-is_a_bounded_set g) → 0 < length c.args.states.now
some g c =
    let below = c.is_a_bounded_set.ensures.below
    (record { l = 0; t = 0; tl = 0; tr = 0; ll = 0; tt = 0 }) in
    omega (arith, below, c.requires.stands.ready.rows)

pub bounds-states-0 : goal.bounds-states-0
bounds-states-0 g c =
    some g (goal.at.bounds-states-0 g c).After-is_a_bounded_set

pub take_zeros-left-requires : goal.take_zeros-left-requires
take_zeros-left-requires g c =
    let some = some g (goal.at.take_zeros-left-requires g c).After-is_a_bounded_set in
    let stands = c.requires.stands in
    let fits : SFits w32 c.predict_late.result = search rules in
    record {
      may = record {
        places = stands.ready.places;
        long = stands.ready.long;
        held = stands.ready.held.held 0 some;
        inside = stands.inside;
        begins = stands.begins;
        left = search rules;
        top = search rules;
        again = comes_again c.args.places.now.bits c.args.behind.now.l c.sample_of_bits.result
            c.predict_late.result c.if-sample_of_bits-l.false
            (simp to_z-of_z at c.sample_of_bits.ensures.value) c.predict_late.ensures;
      };
    }

pub bounds-states-0-2 : goal.bounds-states-0-2
bounds-states-0-2 g c =
    some g (goal.at.bounds-states-0-2 g c).After-is_a_bounded_set

pub returns-clause-stands : goal.returns-clause-stands
returns-clause-stands g c =
    let ready = c.requires.stands.ready in
    let some = some g (goal.at.returns-clause-stands g c).After-is_a_bounded_set in
    record {
      ready = record {
        places = ready.places;
        long = c.take_zeros-left.auto.cur ∙ ready.long;
        rows = search rules;
        held = held_with c.args.places.now.table.now c.args.states.now 0 c.take_zeros-left.new.state
            some ready.held c.take_zeros-left.ensures.held;
      };
      inside = c.take_zeros-left.ensures.inside;
      begins = c.take_zeros-left.ensures.begins;
    }

pub returns-clause-read : goal.returns-clause-read
returns-clause-read g c =
    let some = some g (goal.at.returns-clause-read g c).After-is_a_bounded_set in
    let run : HasRunContext c.args.places.now.set.now =
    record {
      each = c.flat_place_has_first_context.ensures c.args.places.now.set.now
          c.is_a_bounded_set.ensures.set c.requires.three_tables;
    } in
    (c.take_zeros-left.ensures.read 0 (refl, run)).by c.args.states.now some refl
