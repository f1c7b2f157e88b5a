-- The configuration of a head's record, for pictures of the head's size, in the profile.
use Rattle.std.proofs.Common.{◌∙◌}
use Rattle.ffv1_video.proofs.Depths.{depth_within}
use Rattle.ffv1_video.specs.Profiles.{greatest_depth}
use Rattle.ffv1_unpack.proofs.player.read_head.Goals as goal

pub returns-in-Ok-clause-ok : goal.returns-in-Ok-clause-ok
returns-in-Ok-clause-ok g c = record {
  coded = rw c.deref.ensures.value at c.in-Ok.ensures.found;
  width = c.in-Ok.ensures.width;
  height = c.in-Ok.ensures.height;
  accepted = c.in-Ok.ensures.accepted;
  passes = rw c.of_record.ensures at c.in-Ok.ensures.passes;
  profiled = c.in-Ok.ensures.profile ∙ c.of_record.ensures;
  deep = depth_within (greatest_depth c.args.profile) c.in-Ok.checked.configuration
      (rw c.of_record.ensures at c.in-Ok.ensures.depth);
}

pub returns-in-Err-clause-err : goal.returns-in-Err-clause-err
returns-in-Err-clause-err g c = rw (c.deref.ensures.value, c.of_record.ensures) at
    c.in-Err.ensures.exact

pub returns-in-Err-clause-memory : goal.returns-in-Err-clause-memory
returns-in-Err-clause-memory g c = rw (c.deref.ensures.value, c.of_record.ensures) at
    c.in-Err.ensures.memory

pub returns-in-Err-clause-sound : goal.returns-in-Err-clause-sound
returns-in-Err-clause-sound g c = rw (c.deref.ensures.value, c.of_record.ensures) at
    c.in-Err.ensures.sound
