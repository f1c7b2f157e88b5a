-- The inverse of the transform of a line of samples of 16 bits (RFC 9043, 3.7.2), as
-- `inverse_words` has it for fewer, for any values of Y, Cb and Cr.
use Rattle.std.proofs.Common.{arith, refl, rules}
use Rattle.std.proofs.lemmas.Bool.{false≢true}
use Rattle.ffv1_rct.proofs.WordLines.{colours_put, kept_put}
use Rattle.ffv1_rct.proofs.wide.inverse_wide.Goals as goal

pub loop-x-preserved : goal.loop-x-preserved
loop-x-preserved c =
    let old = c.loop-x.invariant in
    let long = c.loop-x.auto in
    let q = c.requires in
    let coded = c.args.coded.now in
    let is = c.in-Some.ensures.some 16 refl in
    record {
      filled = colours_put 16 coded.y.now coded.cb.now coded.cr.now c.loop-x.r c.loop-x.g c.loop-x.b
          _ _ _ c.loop-x.x _ _ _
          c.put_word.ensures c.put_word-in-loop-x.ensures c.put_word-in-loop-x-2.ensures
          (omega arith)
          (omega (arith, long.r, q.r, c.loop-x-test.true))
          (omega (arith, long.g, q.g, c.loop-x-test.true))
          (omega (arith, long.b, q.b, c.loop-x-test.true)) old.filled is;
      red = kept_put c.args.r.now c.loop-x.r _ c.loop-x.x _ c.put_word.ensures old.red;
      green = kept_put c.args.g.now c.loop-x.g _ c.loop-x.x _ c.put_word-in-loop-x.ensures
          old.green;
      blue = kept_put c.args.b.now c.loop-x.b _ c.loop-x.x _ c.put_word-in-loop-x-2.ensures
          old.blue;
    }

pub returns-clause-exact : goal.returns-clause-exact
returns-clause-exact c = (
  λ e. absurd (false≢true e),
  λ p.
      let inside = p.1 in
      let is = (c.loop-x.invariant.filled p.0 (omega (
        arith,
        inside,
        c.loop-x-test.false,
      ))).colour in
      absurd (p.2 (_, _, _, is)),
)

pub returns-in_default-clause-none : goal.returns-in_default-clause-none
returns-in_default-clause-none c = c.in_default.ensures.none 16 refl (search rules)

pub returns-in_default-clause-exact : goal.returns-in_default-clause-exact
returns-in_default-clause-exact c = (
  λ e. (
    c.loop-x.x,
    omega (arith, c.loop-x-test.true),
    c.in_default.ensures.none 16 refl
        (search rules),
  ),
  λ p. refl,
)
