-- Where plain reading gives a frame, the same is given.
use Rattle.std.proofs.Common.{refl}
use Rattle.ffv1_avi.proofs.Agreeing.{end_agrees, fault_agrees, fault_here, frame_agrees, short_agrees}
use Rattle.ffv1_avi.proofs.damage_laws.sound_bytes_give_their_frames.Goals as goal

pub returns-clause-frames : goal.returns-clause-frames
returns-clause-frames c = λ place after begun at text bytes rest few is. frame_agrees place begun at text few bytes rest after is

pub returns-clause-end : goal.returns-clause-end
returns-clause-end c = λ place begun at text rest few is. end_agrees place begun at text few rest is

pub returns-clause-fault : goal.returns-clause-fault
returns-clause-fault c = λ place begun at text rest f few is. fault_agrees place begun at text few f rest is

pub returns-clause-short : goal.returns-clause-short
returns-clause-short c = λ place begun at text w few is. short_agrees place begun at text few w is

pub returns-clause-here : goal.returns-clause-here
returns-clause-here c = λ place begun at text rest f few is. fault_here place begun at text few f rest is

pub returns-clause-begins : goal.returns-clause-begins
returns-clause-begins c = λ r. refl
