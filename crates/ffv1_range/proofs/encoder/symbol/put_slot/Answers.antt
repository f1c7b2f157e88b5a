-- A decision at a slot.
use Rattle.std.proofs.Common.{◌≡◌, ◌∙◌, ◌*◌, refl, ap, rules, ℕ, Bool, true, false, slice_set, slice_index}
use Rattle.ffv1_range.specs.Table.{moved}
use Rattle.ffv1_range.specs.Listed.{step_of}
use Rattle.ffv1_range.specs.Weight.{one_if}
use Rattle.ffv1_range.proofs.Mantissa.{bit_is}
use Rattle.ffv1_range.proofs.encoder.symbol.put_slot.Goals as goal

-- a decision by the number that a list would have of it
bit_back : (bit : Bool) (n : ℕ) → n ≡ one_if bit → (step_of (n * 256)).bit ≡ bit
bit_back true n is = rw is refl
bit_back false n is = rw is refl

pub returns-clause-writes : goal.returns-clause-writes
returns-clause-writes g c =
    let bit = bit_back c.args.bit c.from.result (c.from.ensures ∙ bit_is c.args.bit) in
    let moves = c.after_listed.ensures.moves ∙
    ap (moved c.args.table.now (slice_index c.args.states.now c.args.slot)) bit in
    record {
      interval = c.in_ok-narrow.ensures.ok;
      counts = refl;
      failed = refl;
      moves = ap (slice_set c.args.states.now c.args.slot) moves;
      named = search rules;
    }
