-- Whether more than one of these paths is a hyphen alone.
use Rattle.std.proofs.Common.{◌∙◌, sym, arith}
use Rattle.ffv1_words.proofs.Hyphens.{first, hyphens_from, over, passed, second}
use Rattle.ffv1_words.proofs.conflicts.has_hyphens.Goals as goal
use Rattle.ffv1_words.proofs.conflicts.has_hyphens.Goals.{then-is_hyphen+else-seen, else-is_hyphen}

pub loop-path-init : goal.loop-path-init
loop-path-init c = omega arith

pub loop-path-preserved : goal.loop-path-preserved
loop-path-preserved c = elim c.if-is_hyphen.branch [
  | then-is_hyphen+else-seen w ↦
      rw w.seen-is (first c.args.paths.now c.loop-path.path-index c.loop-path.seen
      c.loop-path.invariant c.loop-path-test.true
      (sym c.is_hyphen.ensures ∙ w.if-is_hyphen.true) w.if-seen.false)
  | else-is_hyphen w ↦
      rw w.seen-is (passed c.args.paths.now c.loop-path.path-index c.loop-path.seen
      c.loop-path.invariant c.loop-path-test.true
      (sym c.is_hyphen.ensures ∙ w.if-is_hyphen.false))
]

pub returns-then-seen : goal.returns-then-seen
unfolding hyphens_from
returns-then-seen c =
    second c.args.paths.now c.loop-path.path-index c.loop-path.seen c.loop-path.invariant
    c.loop-path-test.true (sym c.is_hyphen.ensures ∙ c.if-is_hyphen.true) c.if-seen.true

pub returns : goal.returns
unfolding hyphens_from
returns c = over c.args.paths.now c.loop-path.path-index c.loop-path.seen c.loop-path.invariant
    (let past = c.loop-path-test.false in omega arith)
