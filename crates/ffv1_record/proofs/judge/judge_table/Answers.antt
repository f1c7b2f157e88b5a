-- How many runs the table that comes next has.
use Rattle.std.proofs.Common.{◌≡◌, ◌-◌, ◌+◌, ℕ, zero, [], ◌∷◌, ◌++◌, List, arith, refl}
use Rattle.ffv1_range.specs.Standard.{standard}
use Rattle.ffv1_range.proofs.Named.{fresh_held}
use Rattle.ffv1_range.proofs.Standard.{standard as standard_table}
use Rattle.ffv1_record.proofs.Judging.{found, found_fault, judge_handed, one_longer}
use Rattle.ffv1_record.proofs.TableRuns.{table_begins, table_next_at, table_refuse_at, table_end}
use Rattle.ffv1_record.proofs.judge.judge_table.Goals as goal

pub loop-left-init : goal.loop-left-init
loop-left-init c = record {
  held = fresh_held standard standard_table;
  few = omega arith;
  leads = ([], refl, table_begins _);
}

pub returns-in_err-less-clause-judges : goal.returns-in_err-less-clause-judges
returns-in_err-less-clause-judges c =
    let lead = c.loop-left.invariant.leads in
    judge_handed c.from_residual.result c.from_residual.ensures.1
    (found_fault (table_refuse_at (λ (x : List ℕ). x) c.loop-left.left lead.0 _ _ _ _ _ _ _ (omega arith) lead.2
    c.in_err-less.ensures.gives) c.in_err-less.ensures.told)

pub loop-left-preserved : goal.loop-left-preserved
loop-left-preserved c =
    let less = c.in_ok-less.ensures.most in
    let lead = c.loop-left.invariant.leads in
    let rest : c.loop-left.left - (c.in_ok-less.less + 1) + (c.in_ok-less.less + 1) ≡
    c.loop-left.left = omega arith in
    record {
      held = c.in_ok-less.ensures.held;
      few = omega (arith, c.loop-left.invariant.few, rest);
      leads = (
        lead.0 ++ ((c.in_ok-less.less + 1) ∷ []),
        one_longer lead.0 (c.in_ok-less.less + 1) c.loop-left.runs lead.1,
        table_next_at c.loop-left.left c.in_ok-less.less _ _ _ _ _ _ _ _ (omega arith) rest refl
            lead.2 c.in_ok-less.ensures.gives,
      );
    }

pub returns-clause-judges : goal.returns-clause-judges
returns-clause-judges c =
    let end : c.loop-left.left ≡ zero = omega arith in
    let lead = c.loop-left.invariant.leads in
    found (table_end (λ (x : List ℕ). x) lead.0 _ _ _ (rw end at lead.2)) lead.1
