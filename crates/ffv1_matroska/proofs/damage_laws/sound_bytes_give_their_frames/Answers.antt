-- Where plain reading gives frames, the same frames are given, and no fault is told.
use Rattle.ffv1_matroska.proofs.FollowedFrames.{item_end, item_fault, item_short, items_follow}
use Rattle.ffv1_matroska.proofs.FollowedFaults.{fault_told}
use Rattle.ffv1_matroska.proofs.damage_laws.sound_bytes_give_their_frames.Goals as goal

pub returns-clause-frames : goal.returns-clause-frames
returns-clause-frames c = λ track d text rest frames after plain given. items_follow track frames d
    text after rest plain given

pub returns-clause-end : goal.returns-clause-end
returns-clause-end c = λ track d text rest plain is. item_end track d text rest plain is

pub returns-clause-fault : goal.returns-clause-fault
returns-clause-fault c = λ track d text rest f plain is. item_fault track d text rest f plain is

pub returns-clause-short : goal.returns-clause-short
returns-clause-short c = λ track d text w plain is. item_short track d text w plain is

pub returns-clause-place : goal.returns-clause-place
returns-clause-place c = λ track d text f count plain at. fault_told track f d text count plain at
