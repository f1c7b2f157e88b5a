-- Takes one difference more.
use Rattle.std.proofs.Common.{◌≡◌, ◌∙◌, sym, ap, subst, ◌-◌, ◌^◌}
use Rattle.ffv1_rice.specs.States.{IsState, IsNearState, halved, biased, summed, counted, after}
use Rattle.ffv1_rice.proofs.States.{IsCounted, half_small, is_summed, is_counted, is_near, is_after}
use Rattle.ffv1_rice.proofs.States.{summed_is, counted_is}
use Rattle.ffv1_rice.proofs.state.State.take.Goals as goal

pub biased-requires : goal.biased-requires
biased-requires c =
    let s = c.args.self.now in
    let v = c.args.value in
    let half = 2 ^ (c.args.depth - 1) in
    let small = half_small c.args.depth c.requires.few in
    let halves : c.halved-halved.result ≡ halved (summed s v) =
    c.halved-halved.ensures ∙ ap halved (summed_is c.args.depth s v c.unsigned_abs.result
    c.requires.few c.requires.state c.requires.size c.unsigned_abs.ensures.value) in
    let is : IsCounted half (counted c.halved-halved.result) =
    subst (λ r. IsCounted half (counted r)) (sym halves)
    (is_counted half (summed s v) (is_summed c.args.depth s v c.requires.state
    c.requires.size)) in
    let same = counted_is half c.halved-halved.result small is in
    subst IsNearState (sym same) (is_near half (counted c.halved-halved.result) small is)

pub returns-clause-value : goal.returns-clause-value
returns-clause-value c =
    let s = c.args.self.now in
    let v = c.args.value in
    let half = 2 ^ (c.args.depth - 1) in
    let small = half_small c.args.depth c.requires.few in
    let halves : c.halved-halved.result ≡ halved (summed s v) =
    c.halved-halved.ensures ∙ ap halved (summed_is c.args.depth s v c.unsigned_abs.result
    c.requires.few c.requires.state c.requires.size c.unsigned_abs.ensures.value) in
    let is : IsCounted half (counted c.halved-halved.result) =
    subst (λ r. IsCounted half (counted r)) (sym halves)
    (is_counted half (summed s v) (is_summed c.args.depth s v c.requires.state
    c.requires.size)) in
    let same = counted_is half c.halved-halved.result small is in
    c.biased.ensures ∙ ap biased (same ∙ ap counted halves)

pub returns-clause-state : goal.returns-clause-state
returns-clause-state c =
    let s = c.args.self.now in
    let v = c.args.value in
    let half = 2 ^ (c.args.depth - 1) in
    let small = half_small c.args.depth c.requires.few in
    let halves : c.halved-halved.result ≡ halved (summed s v) =
    c.halved-halved.ensures ∙ ap halved (summed_is c.args.depth s v c.unsigned_abs.result
    c.requires.few c.requires.state c.requires.size c.unsigned_abs.ensures.value) in
    let is : IsCounted half (counted c.halved-halved.result) =
    subst (λ r. IsCounted half (counted r)) (sym halves)
    (is_counted half (summed s v) (is_summed c.args.depth s v c.requires.state
    c.requires.size)) in
    let same = counted_is half c.halved-halved.result small is in
    let value : c.biased.result ≡ after s v = c.biased.ensures ∙ ap biased
    (same ∙ ap counted halves) in
    subst (IsState c.args.depth) (sym value) (is_after c.args.depth s v c.requires.few
    c.requires.state c.requires.size)
