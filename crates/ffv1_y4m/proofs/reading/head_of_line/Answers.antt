-- The head and the depth of a header line, which is given without its line feed.
use Rattle.std.proofs.Common.{◌-◌, length, take, drop, arith}
use Rattle.std.proofs.lemmas.Grind.{common_steps}
use Rattle.ffv1_y4m.specs.Header.{head_of_line}
use Rattle.ffv1_y4m.proofs.Sizes.{depth_known, head_known, name_known, neither_known, words_head}
use Rattle.ffv1_y4m.proofs.reading.head_of_line.Goals as goal

pub returns-clause-head : goal.returns-clause-head
returns-clause-head c =
    head_known c.args.most c.head_of_tags.result
    (words_head c.args.most (take (length c.args.line.now - 10) (drop 10 c.args.line.now))
    c.in_ok-tags.tags c.head_of_tags.result c.in_ok-tags.ensures c.head_of_tags.ensures)

pub returns-clause-named : goal.returns-clause-named
returns-clause-named c =
    name_known c.args.most c.head_of_tags.result
    (words_head c.args.most (take (length c.args.line.now - 10) (drop 10 c.args.line.now))
    c.in_ok-tags.tags c.head_of_tags.result c.in_ok-tags.ensures c.head_of_tags.ensures)

pub returns-clause-most : goal.returns-clause-most
returns-clause-most c =
    depth_known c.args.most c.head_of_tags.result
    (words_head c.args.most (take (length c.args.line.now - 10) (drop 10 c.args.line.now))
    c.in_ok-tags.tags c.head_of_tags.result c.in_ok-tags.ensures c.head_of_tags.ensures)

pub returns-clause-strict : goal.returns-clause-strict
returns-clause-strict c =
    neither_known c.args.most c.head_of_tags.result
    (words_head c.args.most (take (length c.args.line.now - 10) (drop 10 c.args.line.now))
    c.in_ok-tags.tags c.head_of_tags.result c.in_ok-tags.ensures c.head_of_tags.ensures)

pub returns-in_err-tags-clause-value : goal.returns-in_err-tags-clause-value
unfolding head_of_line
returns-in_err-tags-clause-value c = grind (arith, common_steps)
