-- An element of so many bytes that says nothing.
use Rattle.std.proofs.Common.{◌≡◌, ◌-◌, take, ap, arith}
use Rattle.std.proofs.lemmas.List.{take-replicate}
use Rattle.std.specs.Prelude.{replicate}
use Rattle.ffv1_matroska.specs.Written.{short_element, void_element}
use Rattle.ffv1_matroska.specs.WrittenIdents.{void}
use Rattle.ffv1_matroska.proofs.write.opening.void_element.Goals as goal

pub returns-clause-value : goal.returns-clause-value
unfolding void_element
returns-clause-value c =
    let e : take (c.args.size - 2) (replicate 30 0) ≡ replicate (c.args.size - 2) 0 = take-replicate
    (c.args.size - 2) 30 0 (omega arith) in
    rw (c.short.ensures.value, c.new-element.ensures) (ap (short_element void) e)
