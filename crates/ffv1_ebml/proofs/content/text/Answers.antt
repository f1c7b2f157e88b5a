-- The text that an element holds (RFC 8794, 7.4): it ends before its first byte 0.
use Rattle.std.proofs.Common.{◌==◌, ◌∙◌, length, take, ap, sym, rules, arith}
use Rattle.std.proofs.lemmas.List.Sums.{position_or_len_is}
use Rattle.std.proofs.lemmas.List.{take_all}
use Rattle.ffv1_ebml.proofs.content.text.Goals as goal

pub returns-in-Some : goal.returns-in-Some
returns-in-Some c =
    let xs = c.args.content.now in
    let at = position_or_len_is (λ b. b == 0) xs c.in-Some.len 0 (search rules) (search rules)
    (search rules) in
    ap (λ n. take n xs) (sym at)

pub returns-in-None : goal.returns-in-None
returns-in-None c =
    let xs = c.args.content.now in
    let at = position_or_len_is (λ b. b == 0) xs (length xs) 0 (search rules) (search rules)
    (search rules) in
    sym (ap (λ n. take n xs) at ∙ take_all (length xs) xs (omega arith))
