use Rattle.ffv1_rct.specs.Lines.{AreCodedIn, IsKeptFrom}
use Rattle.ffv1_rct.proofs.wide.forward_wide.Given as goal

abbrev pub invariant-loop-x : goal.invariant-loop-x
invariant-loop-x l = record {
  coded : AreCodedIn 16 l.x l.initial.first l.initial.second l.initial.third l.first l.second
      l.third;
  first : IsKeptFrom l.x l.initial.first l.first;
  second : IsKeptFrom l.x l.initial.second l.second;
  third : IsKeptFrom l.x l.initial.third l.third;
}
