-- How many low bits of a number are written as they are.
use Rattle.std.proofs.Common.{◌≡◌, ◌∙◌, sym, ap, suc, ◌+◌, ◌*◌, ◌^◌, ◌<◌, ◌≤◌, arith}
use Rattle.std.proofs.Math.Nat.{pow-succ'}
use Rattle.ffv1_rice.proofs.States.{parameter_here, parameter_room, tries_next}
use Rattle.ffv1_rice.proofs.state.State.parameter.Goals as goal

pub loop-most-preserved : goal.loop-most-preserved
loop-most-preserved c =
    let s = c.args.self.now in
    let k = c.loop-most.k in
    let most = c.loop-most.invariant.most in
    let less : s.count * 2 ^ k < s.error_sum = omega (arith, most, c.loop-most-test.true) in
    let next : k + 1 ≡ suc k = omega arith in
    let twice : 2 ^ (k + 1) ≡ 2 * 2 ^ k = ap (λ n. 2 ^ n) next ∙ pow-succ' 2 k in
    let product : s.count * 2 ^ (k + 1) ≡ s.count * (2 * 2 ^ k) = ap (λ n. s.count * n) twice in
    record {
      most = omega (arith, most, product);
      few = parameter_room c.args.depth k s c.requires.state c.requires.some less;
      tries = tries_next _ k s c.requires.state.some less c.loop-most.invariant.tries;
    }

pub returns-clause-value : goal.returns-clause-value
returns-clause-value c =
    let s = c.args.self.now in
    let k = c.loop-most.k in
    let most = c.loop-most.invariant.most in
    let enough : s.error_sum ≤ s.count * 2 ^ k = omega (arith, most, c.loop-most-test.false) in
    let tries = c.loop-most.invariant.tries in
    sym (parameter_here tries.left k s enough) ∙ tries.same
