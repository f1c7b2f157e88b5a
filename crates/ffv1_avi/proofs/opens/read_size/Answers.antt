-- The size of a chunk, after its name.
use Rattle.std.proofs.Common.{◌≡◌, List, ℕ, refl}
use Rattle.byteorder.specs.Endian.{little_number}
use Rattle.ffv1_avi.specs.Opens.{size_read}
use Rattle.ffv1_reads.specs.Reads.{given, taken, ◌>>=◌}
use Rattle.ffv1_reads.proofs.Answered.{answers_err, answers_first, answers_given, answers_next}
use Rattle.ffv1_reads.proofs.Answered.{answers_ok, answers_same}
use Rattle.ffv1_avi.proofs.opens.read_size.Goals as goal

size_is : (text : List ℕ) → size_read text ≡ (taken 4 >>= λ size. given (little_number 4 size)) text
unfolding size_read
size_is text = refl

pub returns-in_err-take : goal.returns-in_err-take
returns-in_err-take g c = answers_err _ _ _ _ c.from_residual.ensures.1
    (answers_same size_is (answers_first _ _ c.in_err-take.ensures))

pub returns : goal.returns
returns g c = rw c.read_u32.ensures
    (answers_ok (answers_same size_is (answers_next _ c.in_ok-take.ensures answers_given)))
