-- The transform of lines of red, green and blue of 16 bits, in place.
use Rattle.std.proofs.Common.{ℕ, ◌^◌, ◌<◌, length, slice_index, subst, sym}
use Rattle.ffv1_rct.specs.Lines.{AreCodedIn}
use Rattle.ffv1_encode.proofs.cell_rows.transform_wide.Goals as goal

pub forward_wide-requires-clause-red : goal.forward_wide-requires-clause-red
forward_wide-requires-clause-red c = subst (λ d. (x : ℕ) → slice_index c.args.first.now x < 2 ^ d)
    c.requires.depth c.requires.red

pub forward_wide-requires-clause-green : goal.forward_wide-requires-clause-green
forward_wide-requires-clause-green c = subst (λ d. (x : ℕ) → slice_index c.args.second.now x < 2 ^
    d) c.requires.depth c.requires.green

pub forward_wide-requires-clause-blue : goal.forward_wide-requires-clause-blue
forward_wide-requires-clause-blue c = subst (λ d. (x : ℕ) → slice_index c.args.third.now x < 2 ^ d)
    c.requires.depth c.requires.blue

pub returns : goal.returns
returns c =
    subst (λ d. AreCodedIn d (length c.args.first.now) c.args.first.now c.args.second.now
    c.args.third.now c.forward_wide.new.first c.forward_wide.new.second
    c.forward_wide.new.third) (sym c.requires.depth) c.forward_wide.ensures
