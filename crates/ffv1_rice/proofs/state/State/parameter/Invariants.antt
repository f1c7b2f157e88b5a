use Rattle.std.proofs.Common.{◌≡◌, ◌<◌, ◌-◌, ◌*◌, ◌^◌}
use Rattle.ffv1_rice.specs.States.{parameter}
use Rattle.ffv1_rice.proofs.States.{Tries}
use Rattle.ffv1_rice.proofs.state.State.parameter.Given as goal

abbrev pub invariant-loop-most : goal.invariant-loop-most
invariant-loop-most l = record {
  most : l.most ≡ l.self.count * 2 ^ l.k;
  few : l.k < l.depth;
  tries : Tries (parameter l.self) l.k l.self;
}

abbrev pub decreases-loop-most : goal.decreases-loop-most
decreases-loop-most l = l.depth - l.k
