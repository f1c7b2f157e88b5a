-- Passes the list of a further stream, of a given size, after its own name, with its padding.
use Rattle.std.proofs.Common.{◌≡◌, ◌≤◌, ◌-◌, ℕ, List, Bool, arith, refl}
use Rattle.std.proofs.lemmas.Bool.{le-ltb}
use Rattle.ffv1_avi.specs.Files.{other_read}
use Rattle.ffv1_avi.specs.Padding.{padded}
use Rattle.ffv1_avi.specs.Streams.{begins_video}
use Rattle.ffv1_reads.specs.Reads.{Reading, given, passed, taken, ◌>>=◌}
use Rattle.ffv1_reads.proofs.Answered.{answers_err, answers_first, answers_given, answers_next}
use Rattle.ffv1_reads.proofs.Answered.{answers_ok, answers_same}
use Rattle.ffv1_avi.proofs.stream.read_other.Goals as goal

abbrev looked : ℕ → List ℕ → Reading Bool
looked size bytes = passed (padded size - 104) >>= λ _. given (begins_video bytes)

many : (size : ℕ) → 104 ≤ size → (text : List ℕ) → other_read size text ≡ (taken 100 >>= looked
    size) text
unfolding other_read
many size enough text = rw (le-ltb _ _ enough) refl

pub returns-in_err-pass-2 : goal.returns-in_err-pass-2
returns-in_err-pass-2 g c = answers_err _ _ _ _ c.from_residual-in_err-pass-2.ensures.1
    (answers_same (many c.args.size (omega (arith, c.if-size-lt104.false)))
    (answers_next _ c.in_ok-take.ensures (answers_first _ _ (rw c.padded-2.ensures at
    c.in_err-pass-2.ensures))))

pub returns : goal.returns
returns g c = rw c.begins_video.ensures (answers_ok (answers_same (many c.args.size (omega
    (arith, c.if-size-lt104.false))) (answers_next _ c.in_ok-take.ensures (answers_next _
    (rw c.padded-2.ensures at c.in_ok-pass-2.ensures) answers_given))))
