-- The content of the first element with this ID, or None if there is none.
use Rattle.std.proofs.Common.{◌∙◌, sym, arith}
use Rattle.std.proofs.lemmas.Result.{err_from_is_err_and}
use Rattle.ffv1_ebml.specs.Children.{part_of}
use Rattle.ffv1_ebml.proofs.FoundParts.{found_fault, found_here, found_none, found_on}
use Rattle.ffv1_ebml.proofs.content.find.Goals as goal

pub returns-in_err-child-clause-value : goal.returns-in_err-child-clause-value
returns-in_err-child-clause-value c =
    let p = err_from_is_err_and c.from_residual.result c.from_residual.ensures.1 in
    let xs = c.loop-child.rest.now in
    let inv = c.loop-child.invariant in
    rw (p.1, p.2) (sym (found_fault inv.0 c.args.ident xs c.in_err-child.field-0.0 inv.1
    (sym c.in_err-child.ensures.value)) ∙ inv.3)

pub returns-then-child-ident-clause-value : goal.returns-then-child-ident-clause-value
returns-then-child-ident-clause-value c =
    let xs = c.loop-child.rest.now in
    let inv = c.loop-child.invariant in
    let value = rw c.in-Some.is at c.in_ok-child.ensures.value in
    sym (found_here inv.0 c.args.ident xs (part_of c.in-Some.child) inv.1 (sym value)
    (omega (arith, c.if-child-ident.true))) ∙ inv.3

pub loop-child-preserved : goal.loop-child-preserved
loop-child-preserved c =
    let xs = c.loop-child.rest.now in
    let inv = c.loop-child.invariant in
    let value = rw c.in-Some.is at c.in_ok-child.ensures.value in
    let less = rw c.in-Some.is at c.in_ok-child.ensures.less in
    let on = found_on inv.0 c.args.ident xs (part_of c.in-Some.child) inv.1 (sym value)
    (λ e. omega (arith, e, c.if-child-ident.false)) (omega (arith, less)) in
    (on.0, on.1, omega (arith, less, inv.2), sym on.2 ∙ inv.3)

pub returns-clause-value : goal.returns-clause-value
returns-clause-value c =
    let xs = c.loop-child.rest.now in
    let inv = c.loop-child.invariant in
    let value = rw c.in_default.is at c.in_ok-child.ensures.value in
    sym (found_none inv.0 c.args.ident xs (sym value)) ∙ inv.3
