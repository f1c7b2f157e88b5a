-- Reads all pictures, and writes the line of each as soon as it is read.
use Rattle.std.proofs.Common.{◌≡◌, ◌<◌, ◌+◌, ◌^◌, refl, Ok, [], ◌∷◌, ◌++◌, subst, arith}
use Rattle.std.proofs.lemmas.Result.{err_from_is_err_and}
use Rattle.ffv1_wire.specs.Passage.{passage}
use Rattle.ffv1_pack.specs.Internal.TextMd5.{WritesLine}
use Rattle.ffv1_pack.specs.Internal.VideoReads.{reading_of}
use Rattle.ffv1_pack.proofs.PicturesRead.{read_more, read_none}
use Rattle.ffv1_pack.proofs.TextLines.{lined_more, lined_none, lines_all, lines_full, lines_stop}
use Rattle.ffv1_pack.proofs.text_md5.write_lines.Goals as goal

pub loop-text-init : goal.loop-text-init
loop-text-init g c = (
  [],
  read_none (g.R.ByteIn.remaining c.args.input.now) (g.R.ByteIn.failures c.args.input.now)
      (reading_of c.args.reader.now) c.requires.working c.requires.begun,
  lined_none (reading_of c.args.reader.now) (g.W.ByteOut.contents c.args.output.now)
      (g.W.ByteOut.failures c.args.output.now),
)

pub returns-in_err-write_next-clause-err : goal.returns-in_err-write_next-clause-err
returns-in_err-write_next-clause-err g c =
    let p = err_from_is_err_and c.from_residual.result c.from_residual.ensures.1 in
    let i = c.loop-text.invariant in
    let few : c.loop-text.count < 2 ^ 64 = omega arith in
    rw (p.1, p.2) (lines_stop _ _ _ _ _ _ i.1 i.2 few _ _ refl refl refl refl
    c.in_err-write_next.field-0.0 c.in_err-write_next.ensures.answer)

pub loop-text-preserved : goal.loop-text-preserved
loop-text-preserved g c =
    let i = c.loop-text.invariant in
    let few : c.loop-text.count < 2 ^ 64 = omega arith in
    let input = passage g.R.ByteIn.remaining g.R.ByteIn.failures c.loop-text.input
    c.write_next.new.input in
    let output = passage g.W.ByteOut.contents g.W.ByteOut.failures c.loop-text.output
    c.write_next.new.output in
    let s = reading_of c.loop-text.reader in
    let t = reading_of c.write_next.new.reader in
    let one = subst (λ b. WritesLine s c.loop-text.count input output t (Ok b)) c.if-branch.true
    c.in_ok-write_next.ensures.answer in (
      i.0 ++ (one.0 ∷ []),
      read_more _ input _ s i.0 i.1 refl refl t one.0 one.1,
      lined_more _ _ _ _ _ _ i.1 i.2 few input output refl refl refl refl one.0 one.2 one.3,
    )

pub returns-clause-ok : goal.returns-clause-ok
returns-clause-ok g c =
    let i = c.loop-text.invariant in
    let few : c.loop-text.count < 2 ^ 64 = omega arith in
    let input = passage g.R.ByteIn.remaining g.R.ByteIn.failures c.loop-text.input
    c.write_next.new.input in
    let output = passage g.W.ByteOut.contents g.W.ByteOut.failures c.loop-text.output
    c.write_next.new.output in
    let s = reading_of c.loop-text.reader in
    let t = reading_of c.write_next.new.reader in
    let none = subst (λ b. WritesLine s c.loop-text.count input output t (Ok b)) c.if-branch.false
    c.in_ok-write_next.ensures.answer in
    lines_all _ _ _ _ _ _ i.1 i.2 few input output refl refl refl refl t none.0 none.1

pub returns-then-count-clause-err : goal.returns-then-count-clause-err
returns-then-count-clause-err g c =
    let i = c.loop-text.invariant in
    let few : c.loop-text.count < 2 ^ 64 = omega arith in
    let full : c.loop-text.count + 1 ≡ 2 ^ 64 = omega (arith, c.if-count.true) in
    let input = passage g.R.ByteIn.remaining g.R.ByteIn.failures c.loop-text.input
    c.write_next.new.input in
    let output = passage g.W.ByteOut.contents g.W.ByteOut.failures c.loop-text.output
    c.write_next.new.output in
    let s = reading_of c.loop-text.reader in
    let t = reading_of c.write_next.new.reader in
    let one = subst (λ b. WritesLine s c.loop-text.count input output t (Ok b)) c.if-branch.true
    c.in_ok-write_next.ensures.answer in
    lines_full _ _ _ _ _ _ i.1 i.2 few input output refl refl refl refl t one.0 one.1 one.2 one.3
    full
