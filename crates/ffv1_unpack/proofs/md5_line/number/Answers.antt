-- The number of 128 bits that digits of a radix write, and nothing beside them.
use Rattle.std.proofs.Common.{◌≡◌, ◌==◌, ◌∙◌, None, Some, sym, subst, false}
use Rattle.std.specs.Prelude.{slice_index}
use Rattle.ffv1_unpack.specs.Md5Line.{number_of}
use Rattle.ffv1_unpack.proofs.Md5Numbers.{digits_are_text, number_none, parsed_is, parsed_none}
use Rattle.ffv1_unpack.proofs.md5_line.number.Goals as goal

pub returns-in_default : goal.returns-in_default
returns-in_default c =
    sym (number_none c.args.radix c.args.text.now (λ numeral small.
    c.in_default.ensures.cases.0 (digits_are_text c.args.radix c.args.text.now c.requires.most
    numeral)))

pub returns-in-Ok-from_str_radix : goal.returns-in-Ok-from_str_radix
returns-in-Ok-from_str_radix c =
    let whole = c.in-Ok.ensures.cases.0 in
    let plus : (slice_index c.args.text.now 0 == 43) ≡ false = sym c.begins_with.ensures ∙
    c.if-begins_with.false in
    subst (λ t. Some c.in-Ok-from_str_radix.number ≡ number_of c.args.radix t) whole
    (parsed_is c.args.radix c.in-Ok-from_str_radix.number c.in-Ok.digits.now
    (subst (λ t. (slice_index t 0 == 43) ≡ false) (sym whole) plus)
    c.in-Ok-from_str_radix.ensures.value)

pub returns-in-Err : goal.returns-in-Err
returns-in-Err c =
    let whole = c.in-Ok.ensures.cases.0 in
    let plus : (slice_index c.args.text.now 0 == 43) ≡ false = sym c.begins_with.ensures ∙
    c.if-begins_with.false in
    subst (λ t. None ≡ number_of c.args.radix t) whole
    (parsed_none c.args.radix c.in-Ok.digits.now
    (subst (λ t. (slice_index t 0 == 43) ≡ false) (sym whole) plus) c.in-Err.ensures.value)
