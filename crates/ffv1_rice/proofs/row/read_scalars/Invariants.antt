use Rattle.std.proofs.Common.{◌≡◌, ◌≤◌, ◌<◌, ◌-◌, ◌*◌, length, ℕ, List, Bool, None}
use Rattle.ffv1_plane.specs.Quantisation.{contexts_of}
use Rattle.ffv1_line.specs.Beside.{beside}
use Rattle.ffv1_rice.specs.Kept.{AreStates, state_at}
use Rattle.ffv1_rice.specs.Row.{Coder}
use Rattle.ffv1_rice.specs.Rows.{AreSamples, SoFar, coder_of, reading_of}
use Rattle.ffv1_rice.proofs.row.read_scalars.Given as goal

abbrev pub invariant-loop-at : goal.invariant-loop-at
invariant-loop-at g l = record {
  inside : l.at < length l.cur;
  from : l.fn.x ≤ l.at;
  first : l.at ≡ l.fn.x → l.cur ≡ l.fn.cur;
  around : l.around ≡ beside l.two l.one l.cur l.at;
  long : length l.states ≡ contexts_of l.set * 32;
  held : AreStates l.below.depth (contexts_of l.set) l.states;
  samples : AreSamples l.below.depth l.fn.x l.fn.cur → AreSamples l.below.depth l.at l.cur;
  read : (start : Coder) (text : List Bool) (index : ℕ) → SoFar (reading_of l.set l.below.depth
      l.two
      l.one start text) l.fn.cur l.fn.x (coder_of (state_at l.fn.states) index None) l.fn.bits →
      SoFar (reading_of l.set l.below.depth l.two l.one start text) l.cur l.at (coder_of
      (state_at l.states) index None) l.own;
}

abbrev pub decreases-loop-at : goal.decreases-loop-at
decreases-loop-at g l = length l.cur - l.at
