-- Reads and keeps the beginning of what a reader has.
use Rattle.std.proofs.Common.{◌≡◌, length, take, refl, sym, subst, ◌∙◌, arith}
use Rattle.std.proofs.lemmas.Grind.{common_steps}
use Rattle.ffv1_outline.specs.Beginnings.{IsBeginning}
use Rattle.ffv1_outline.proofs.KeptBytes.{is_beginning}
use Rattle.ffv1_outline.proofs.beginning.Beginning.new.Goals as goal

pub returns-clause-begins : goal.returns-clause-begins
returns-clause-begins g c =
    let buf = c.read_until-len.new.buf in
    let n = c.read_until-len.result.0 in
    let h = c.read_until-len.ensures in
    let long : length buf ≡ 1048576 =
    omega (arith, h.long, c.as_mut_slice.ensures.len, c.in_ok-resize.ensures.len) in
    let kept : c.truncate.new.self.items ≡ take n buf = grind (arith, common_steps) in
    subst (IsBeginning (g.R.ByteIn.remaining c.args.inner) c.read_until-len.result.1)
    (sym (c.as_slice.ensures.value ∙ kept))
    (is_beginning _ _ c.read_until-len.result.1 buf n 1048576 refl h.bound long h.bytes h.failed
    h.whole)
