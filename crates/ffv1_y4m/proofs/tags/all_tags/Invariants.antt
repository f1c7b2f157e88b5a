use Rattle.std.proofs.Common.{◌≡◌, length}
use Rattle.ffv1_y4m.specs.Header.{all_judged, no_tags, words_of}
use Rattle.ffv1_y4m.proofs.tags.all_tags.Given as goal

abbrev pub invariant-loop-word : goal.invariant-loop-word
invariant-loop-word l = all_judged l.most no_tags (words_of l.line) ≡ all_judged l.most l.tags
    (words_of l.rest)

abbrev pub decreases-loop-word : goal.decreases-loop-word
decreases-loop-word l = length l.rest
