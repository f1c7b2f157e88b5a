-- The tags of all words of a line, from the left.
use Rattle.std.proofs.Common.{◌∙◌, sym, rules}
use Rattle.ffv1_y4m.proofs.Words.{judged-split, judged-last}
use Rattle.ffv1_y4m.proofs.tags.all_tags.Goals as goal

pub returns-in_err-tags : goal.returns-in_err-tags
returns-in_err-tags c =
    let s = c.in-Some.ensures in
    let whole = c.loop-word.invariant ∙ judged-split c.args.most c.loop-word.tags
    c.loop-word.rest.now s.0 c.in-Some.word.now c.in-Some.words.now _ s.1 s.2 s.3
    c.in_err-tags.ensures in
    search (rules, whole)

pub loop-word-preserved : goal.loop-word-preserved
loop-word-preserved c =
    let s = c.in-Some.ensures in
    c.loop-word.invariant ∙ judged-split c.args.most c.loop-word.tags c.loop-word.rest.now s.0
    c.in-Some.word.now c.in-Some.words.now _ s.1 s.2 s.3 c.in_ok-tags.ensures

pub returns : goal.returns
returns c =
    c.judged-2.ensures ∙ sym (c.loop-word.invariant ∙ judged-last c.args.most c.loop-word.tags
    c.loop-word.rest.now c.in_default.ensures)
