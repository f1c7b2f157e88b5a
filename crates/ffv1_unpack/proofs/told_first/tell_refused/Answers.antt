-- Writes what is told of a file that is refused before its first frame.
use Rattle.std.proofs.Common.{refl, inl}
use Rattle.ffv1_files.proofs.ToldLists.{none_told, some_told}
use Rattle.ffv1_unpack.proofs.ItemsJudged.{line_own}
use Rattle.ffv1_unpack.proofs.ToldAgain.{lines_fail_by}
use Rattle.ffv1_unpack.proofs.ToldChecks.{line_after}
use Rattle.ffv1_unpack.proofs.told_first.tell_refused.Goals as goal
use Rattle.ffv1_unpack.proofs.told_first.tell_refused.Goals.{else-not-is_empty}
use Rattle.ffv1_unpack.proofs.told_first.tell_refused.Goals.{then-not-is_empty+in_default}

pub returns-clause-some : goal.returns-clause-some
returns-clause-some g c = λ some. elim c.if-not-is_empty.branch [
  | then-not-is_empty+in_default w ↦ inl (
    refl,
    line_after (g.W.ByteOut.contents c.args.output.now) (g.W.ByteOut.contents w.write_lines.new.output)
        (g.W.ByteOut.contents c.tell_byte.new.output) (g.W.ByteOut.failures c.args.output.now)
        (g.W.ByteOut.failures w.write_lines.new.output)
        (g.W.ByteOut.failures c.tell_byte.new.output) _ _ w.in_default.ensures.0
        w.in_default.ensures.1 (rw w.output-is at c.tell_byte.ensures),
  )
  | else-not-is_empty w ↦ absurd (some (none_told c.args.told.now.faults _ c.is_empty.ensures
      w.if-not-is_empty.false))
]
