use Rattle.std.proofs.Common.{◌≡◌, ◌≤◌, ◌-◌, ◌*◌, length}
use Rattle.ffv1_plane.specs.Quantisation.{contexts_of}
use Rattle.ffv1_rice.specs.Kept.{AreStates, state_at}
use Rattle.ffv1_rice.specs.Row.{begins}
use Rattle.ffv1_rice.specs.Rows.{AreSamples, Stretched, reading_of}
use Rattle.ffv1_rice.proofs.row.decode_row.Given as goal

abbrev pub invariant-loop-x : goal.invariant-loop-x
invariant-loop-x g l = record {
  inside : l.x ≤ length l.cur;
  index : l.index ≤ 32;
  long : length l.states ≡ contexts_of l.below.set.now * 32;
  samples : AreSamples l.below.depth l.x l.cur;
  held : AreStates l.below.depth (contexts_of l.below.set.now) l.states;
  read : Stretched (reading_of l.below.set.now l.below.depth l.below.two.now l.below.one.now
      (begins (state_at l.fn.states) l.fn.index) l.fn.bits)
      l.cur l.x l.is_on (state_at l.states) l.index l.bits;
}

abbrev pub decreases-loop-x : goal.decreases-loop-x
decreases-loop-x g l = length l.cur - l.x
