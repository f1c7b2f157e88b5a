-- The column of slices in which a sample of plane 0 lies.
use Rattle.std.proofs.Common.{◌≡◌, suc, ◌+◌, ◌-◌, ◌≤◌, ◌<◌, ◌∙◌, ap, sym, subst, arith}
use Rattle.ffv1_slice.specs.Grid.{across, division_of, begin_of, whole_of}
use Rattle.ffv1_decode.specs.Internal.Places.{AreParts}
use Rattle.ffv1_decode.proofs.finish.column_of.Given.{Over}
use Rattle.ffv1_decode.proofs.finish.column_of.Goals.{After-columns-last}
use Rattle.ffv1_decode.proofs.finish.column_of.Goals as goal

-- the columns lie beside one another, and are as many as the configuration has
module _ (g : Over) (c : After-columns-last g) where
  columns_are : AreParts (across (division_of c.args.frame.now.checked.now.configuration) 0)
  columns_are = c.slices_lie_beside_one_another.ensures.across
      c.args.frame.now.checked.now.configuration c.args.frame.now.checked.now.table 0
      c.requires.frame.accepted

  count : c.columns-last.result ≡ c.args.frame.now.checked.now.configuration.columns
  count = rw c.requires.frame.grid at c.columns-last.ensures

pub loop-k-init : goal.loop-k-init
loop-k-init g c =
    let here = (goal.at.loop-k-init g c).After-columns-last in
    let first = (columns_are g here).first in
    subst (λ n. n ≤ c.args.x) (sym first) (omega arith)

pub returns-then-x-left-clause-lies : goal.returns-then-x-left-clause-lies
returns-then-x-left-clause-lies g c =
    let conf = c.args.frame.now.checked.now.configuration in
    let k = c.loop-k.k in
    let here = (goal.at.returns-then-x-left-clause-lies g c).After-columns-last in
    let inside : k < conf.columns = omega (arith, count g here) in
    let left : c.left.result ≡ begin_of (across (division_of conf) 0) (k + 1) =
    rw c.requires.frame.grid at c.left.ensures in
    let next : k + 1 ≡ suc k = omega arith in
    let left : c.left.result ≡ begin_of (across (division_of conf) 0) (suc k) = left ∙
    ap (begin_of (across (division_of conf) 0)) next in
    record {
      inside = inside;
      least = c.loop-k.invariant;
      most = omega (arith, left, (columns_are g here).next k inside, c.if-x-left.true);
    }

pub returns-clause-lies : goal.returns-clause-lies
returns-clause-lies g c =
    let conf = c.args.frame.now.checked.now.configuration in
    let k = c.columns-last.result - 1 in
    let here = (goal.at.returns-clause-lies g c).After-columns-last in
    let some = c.accepted_configuration_is_in_range.ensures.columns conf
    c.args.frame.now.checked.now.table c.requires.frame.accepted in
    let inside : k < conf.columns = omega (arith, count g here, some) in
    let at : c.loop-k.k ≡ k = omega arith in
    let least : begin_of (across (division_of conf) 0) k ≤ c.args.x =
    subst (λ n. begin_of (across (division_of conf) 0) n ≤ c.args.x) at c.loop-k.invariant in
    let last : suc k ≡ conf.columns = omega (arith, count g here, some) in
    let end : begin_of (across (division_of conf) 0) (suc k) ≡ whole_of
    (across (division_of conf) 0) = ap (begin_of (across (division_of conf) 0)) last ∙
    (columns_are g here).last in
    record {
      inside = inside;
      least = least;
      most = omega (arith, (columns_are g here).next k inside, end, c.requires.x);
    }
