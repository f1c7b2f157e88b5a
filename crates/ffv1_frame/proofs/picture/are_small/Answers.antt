-- Whether no sample of a plane has more bits than its depth.
use Rattle.std.proofs.Common.{◌≡◌, ◌^◌, true, false, ◌∙◌, sym, arith}
use Rattle.ffv1_samples.specs.Samples.{AreBelow, samples_of}
use Rattle.ffv1_samples.proofs.Depths.{each_in_depth, in_depth_if_each}
use Rattle.ffv1_frame.proofs.picture.are_small.Goals as goal

different : false ≡ true → ⊥
different e = cc

pub returns-clause-yes : goal.returns-clause-yes
returns-clause-yes c = λ yes.
    each_in_depth c.args.depth c.args.samples.now
    (λ i. let small = c.type_inv.samples i in omega (arith, small))
    (sym c.are_in_depth.ensures ∙ yes)

pub returns-clause-deep : goal.returns-clause-deep
returns-clause-deep c = λ no is.
    let small : AreBelow (2 ^ c.args.depth) (samples_of c.args.depth c.args.samples.now) = rw is
    (λ i. let small = c.type_inv.samples i in omega (arith, small)) in
    different (sym no ∙ c.are_in_depth.ensures ∙ in_depth_if_each c.args.depth c.args.samples.now
    small)

pub returns-clause-no : goal.returns-clause-no
returns-clause-no c = λ no all. different (sym no ∙ c.are_in_depth.ensures ∙ in_depth_if_each
    c.args.depth c.args.samples.now all)
