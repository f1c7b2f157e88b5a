-- The number below 2 ^ 32 whose one decimal spelling the text is: no sign, no leading zero.
use Rattle.std.proofs.Common.{◌≡◌, ◌<◌, ◌^◌, sym, ◌∙◌, decimal, ap, subst, arith}
use Rattle.std.specs.Str.{IsUtf8}
use Rattle.std.specs.Cmp.Lexicographic.{same_text, other_text}
use Rattle.std.proofs.lemmas.Str.{IsUtf8-from_ascii}
use Rattle.std.proofs.lemmas.Fmt.{parse-decimal, IsAscii-decimal}
use Rattle.ffv1_y4m.proofs.Numbers.{number_is, number_none}
use Rattle.ffv1_y4m.proofs.values.number.Goals as goal

pub returns-in_default : goal.returns-in_default
returns-in_default c =
    let cases = c.in_default.ensures.cases in
    sym (number_none c.args.text.now (λ n small spelled.
    let wide : n < 2 ^ 64 = omega arith in
    cases.0 (subst IsUtf8 (sym spelled) (IsUtf8-from_ascii _ (IsAscii-decimal n wide)))))

pub returns-in_default-parse : goal.returns-in_default-parse
returns-in_default-parse c =
    let whole = c.in-Ok.ensures.cases.0 in
    sym (number_none c.args.text.now (λ n small spelled.
    let wide : n < 2 ^ 64 = omega arith in
    let text : c.in-Ok.digits.now ≡ decimal n = whole ∙ spelled in
    c.in_default-parse.not-Ok n (parse-decimal 32 n _ _ small wide text c.parse.ensures.value.0)))

pub returns-then-eq : goal.returns-then-eq
returns-then-eq c =
    let whole = c.in-Ok.ensures.cases.0 in
    let text : c.format.result.now ≡ c.in-Ok.digits.now = same_text _ _ c.if-eq.ensures in
    sym (number_is c.in-Ok-parse.number c.args.text.now
    (omega (arith, c.in-Ok-parse.ensures.value.0))
    (sym whole ∙ (sym text ∙ c.format.ensures.text)))

pub returns : goal.returns
returns c =
    let whole = c.in-Ok.ensures.cases.0 in
    let other = other_text _ _ c.if-eq.ensures in
    sym (number_none c.args.text.now (λ n small spelled.
    let wide : n < 2 ^ 64 = omega arith in
    let text : c.in-Ok.digits.now ≡ decimal n = whole ∙ spelled in
    let read = parse-decimal 32 n _ _ small wide text c.parse.ensures.value.0 in
    let same : c.in-Ok-parse.number ≡ n = cc in
    other (c.format.ensures.text ∙ (ap decimal same ∙ sym text))))
