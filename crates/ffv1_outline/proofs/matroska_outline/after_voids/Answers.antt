-- What comes after the Void elements that some bytes begin with.
use Rattle.std.proofs.Common.{◌∙◌, sym, refl, length, arith}
use Rattle.ffv1_outline.proofs.VoidSearch.{void_none, void_on}
use Rattle.ffv1_outline.proofs.matroska_outline.after_voids.Goals as goal

pub loop-after-init : goal.loop-after-init
loop-after-init c = (length c.args.bytes.now, omega arith, refl)

pub loop-after-preserved : goal.loop-after-preserved
loop-after-preserved c =
    let inv = c.loop-after.invariant in
    let value = rw c.in-Some.is at c.after_void.ensures.value in
    let less = rw c.in-Some.is at c.after_void.ensures.less in
    let on = void_on inv.0 c.loop-after.rest.now c.in-Some.after.now inv.1 (sym value) less in
    (on.0, on.1, sym on.2 ∙ inv.2)

pub returns : goal.returns
returns c =
    let inv = c.loop-after.invariant in
    let value = rw c.in_default.is at c.after_void.ensures.value in
    sym (void_none inv.0 c.loop-after.rest.now (sym value)) ∙ inv.2
