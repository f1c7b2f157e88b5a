-- Fills `buf`, which has room for a byte at least: a byte that was read before comes first, if
-- there is one.
use Rattle.std.proofs.Common.{◌∷◌, length, subst, Some, ℕ, List, arith}
use Rattle.std.proofs.lemmas.Grind.{common_steps}
use Rattle.std.proofs.lemmas.Result.{err_from_is_err_and}
use Rattle.ffv1_reads.specs.First.{bytes_with}
use Rattle.ffv1_reads.specs.Reads.{Read, taken}
use Rattle.ffv1_reads.proofs.FirstBytes.{first_placed, taken_first, taken_not}
use Rattle.ffv1_reads.proofs.bytes.take_after.Goals as goal

pub returns-in_err-take : goal.returns-in_err-take
returns-in_err-take g c =
    let p = err_from_is_err_and c.from_residual.result c.from_residual.ensures.1 in
    rw (c.in-Some.is, p.1, p.2) (taken_not c.in-Some.first (length c.args.buf.now) _ _ _ _ _
    c.in_err-take.field-0.0 c.in_err-take.ensures (grind (arith, common_steps)))

pub returns : goal.returns
returns g c =
    let b = c.in-Some.first in
    let rest = c.in_ok-take.ensures in
    let P : List ℕ → Type 0 = λ z. Read (taken (length c.args.buf.now))
    (bytes_with (Some b) (g.R.ByteIn.remaining c.args.input.now))
    (g.R.ByteIn.remaining c.take-2.new.input) z in
    rw c.in-Some.is (
      rest.0,
      subst P {x = b ∷ c.take-2.new.buf}
          (first_placed b c.args.buf.now c.take-2.new.buf (grind (arith, common_steps)))
          (taken_first b (length c.args.buf.now) _ _ _ _ rest.1 (grind (arith, common_steps))),
    )
