use Rattle.std.proofs.Common.{◌≡◌, ◌+◌, length}
use Rattle.ffv1_line.specs.Beside.{before, chosen_beside, two_before}
use Rattle.ffv1_line.specs.Internal.Parts.{HaveContexts, HaveResiduals}
use Rattle.ffv1_line.proofs.encode.plain.number_words.Given as goal

abbrev pub invariant-loop-k : goal.invariant-loop-k
invariant-loop-k g l = record {
  room : length l.block.contexts ≡ 64;
  two_left : l.ll ≡ two_before (g.W.Word.samples l.one) (g.W.Word.samples l.cur) (l.from + l.k);
  left : l.l ≡ before (g.W.Word.samples l.one) (g.W.Word.samples l.cur) (l.from + l.k);
  top_left : l.tl ≡ before (g.W.Word.samples l.two) (g.W.Word.samples l.one) (l.from + l.k);
  contexts : HaveContexts l.set.now (g.W.Word.samples l.two) (g.W.Word.samples l.one)
      (g.W.Word.samples l.cur) l.from l.block.contexts l.k;
  numbers : HaveResiduals (λ k. chosen_beside l.set.now l.bits (g.W.Word.samples l.two)
      (g.W.Word.samples l.one) (g.W.Word.samples l.cur) (l.from + k)) l.block.numbers l.k;
}
