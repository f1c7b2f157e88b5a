-- The inverse of the transform of a line (RFC 9043, 3.7.2), for any values of Y, Cb and Cr: at each
-- place the only red, green and blue whose transform the place is.
use Rattle.std.proofs.lemmas.Bool.{false≢true}
use Rattle.ffv1_rct.proofs.inverse.inverse_line.Goals as goal

pub returns-clause-exact : goal.returns-clause-exact
returns-clause-exact c = (
  λ e. absurd (false≢true e),
  λ p.
      let is = (c.in_ok-inverse_rest.ensures.ok p.0 p.1).colour in
      absurd (p.2 (_, _, _, is)),
)
