-- A beginning of a file of which an RIFF, or the first movi, has no size.
use Rattle.ffv1_avi.proofs.NearOpen.{open_near, open_near_owed}
use Rattle.ffv1_avi.proofs.OpenBeginnings.{open_within}
use Rattle.ffv1_avi.proofs.OpenEdges.{open_edge, open_edge_read, open_owed}
use Rattle.ffv1_avi.proofs.laws.shorter_file_without_sizes_wants_more_bytes.Goals as goal

pub returns-clause-within : goal.returns-clause-within
returns-clause-within c = λ file head frames is beginning more parted left inside outside.
    open_within file head frames is beginning more parted left inside outside

pub returns-clause-edge : goal.returns-clause-edge
returns-clause-edge c = λ file head frames is before after beginning parted cut_at some enough.
    open_edge file head frames is before after parted beginning cut_at some enough

pub returns-clause-read : goal.returns-clause-read
returns-clause-read c = λ file head frames is before after beginning parted cut_at some enough.
    open_edge_read file head frames is before after parted beginning cut_at some enough

pub returns-clause-owed : goal.returns-clause-owed
returns-clause-owed c = λ file head frames is before after beginning parted cut_at some fewer.
    open_owed file head frames is before after parted beginning cut_at some fewer

pub returns-clause-near : goal.returns-clause-near
returns-clause-near c = λ file head frames is before after beginning some more parted cut_at edge few further enough.
    open_near file head frames is before after beginning some more parted cut_at edge few further enough

pub returns-clause-owed_near : goal.returns-clause-owed_near
returns-clause-owed_near c = λ file head frames is before after beginning some more parted cut_at edge few further fewer.
    open_near_owed file head frames is before after beginning some more parted cut_at edge few further fewer
