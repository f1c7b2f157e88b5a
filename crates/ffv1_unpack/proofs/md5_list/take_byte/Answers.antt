-- Takes a byte of the list.
use Rattle.std.proofs.Common.{rules, ◌<◌, ◌∙◌, [], ◌∷◌, ◌++◌, length, Err, ap, sym}
use Rattle.ffv1_unpack.specs.Internal.Md5List.{listed}
use Rattle.ffv1_unpack.proofs.Md5Lists.{line_grows, long_refused, over_longest}
use Rattle.ffv1_unpack.proofs.md5_list.take_byte.Goals as goal

pub returns-then-len-gt-LONGEST_LINE-clause-err : goal.returns-then-len-gt-LONGEST_LINE-clause-err
returns-then-len-gt-LONGEST_LINE-clause-err g c = λ rest.
    let l = c.args.lines.now in
    let text = l.line.items ++ (c.args.byte ∷ []) in
    let long : 65536 < length text = search rules in
    line_grows (listed l) l.line.items rest c.args.byte c.if-byte-eq10.false
    ∙ long_refused (listed l) text rest (over_longest (length text) long)
    ∙ ap Err (sym c.saturating_add.ensures)
