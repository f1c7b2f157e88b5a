-- The first element of some content, or None if that has no bytes.
use Rattle.std.proofs.Common.{◌≡◌, ◌∙◌, length, sym, rules, arith}
use Rattle.std.proofs.lemmas.List.{take_rest}
use Rattle.std.proofs.lemmas.Result.{err_from_is_err_and}
use Rattle.ffv1_ebml.proofs.MemoryReadings.{HasIdent, HasSize, part_bad_ident, part_bad_size}
use Rattle.ffv1_ebml.proofs.MemoryReadings.{part_long, part_none, part_there, part_unknown}
use Rattle.ffv1_ebml.proofs.Numbers.{four_fit}
use Rattle.ffv1_ebml.proofs.content.first_child.Goals as goal

pub returns-then-is_empty-clause-value : goal.returns-then-is_empty-clause-value
returns-then-is_empty-clause-value c = sym (part_none c.args.content.now (search rules))

pub returns-in_err-ident-clause-value : goal.returns-in_err-ident-clause-value
returns-in_err-ident-clause-value c =
    let p = err_from_is_err_and c.from_residual.result c.from_residual.ensures.1 in
    let h = c.in_err-ident.ensures.err in
    let xs = c.args.content.now in
    let some : length xs ≡ 0 → ⊥ = search rules in
    rw (p.1, p.2) (sym (part_bad_ident xs h.0 c.in_err-ident.field-0.0 some h.1))

pub returns-in_err-size-clause-value : goal.returns-in_err-size-clause-value
returns-in_err-size-clause-value c =
    let p = err_from_is_err_and c.from_residual-in_err-size.result
    c.from_residual-in_err-size.ensures.1 in
    let h = c.in_err-size.ensures.err in
    let xs = c.args.content.now in
    let ident = c.in_ok-ident.ident.now in
    let after = c.in_ok-ident.after.now in
    let some : length xs ≡ 0 → ⊥ = search rules in
    let has : HasIdent xs ident after = record {
      some = some;
      is = c.in_ok-ident.ensures.ok;
      parts =
          c.in_ok-ident.ensures.whole;
    } in
    rw (p.1, p.2) (sym (part_bad_size xs ident after h.0 c.in_err-size.field-0.0 has h.1))

pub returns-in_default-clause-value : goal.returns-in_default-clause-value
returns-in_default-clause-value c =
    let xs = c.args.content.now in
    let ident = c.in_ok-ident.ident.now in
    let after = c.in_ok-ident.after.now in
    let size = c.in_ok-size.size.now in
    let rest = c.in_ok-size.after.now in
    let some : length xs ≡ 0 → ⊥ = search rules in
    let has : HasIdent xs ident after = record {
      some = some;
      is = c.in_ok-ident.ensures.ok;
      parts =
          c.in_ok-ident.ensures.whole;
    } in
    let both : HasSize xs ident after size rest =
    record {
      ident_is = has;
      is = c.in_ok-size.ensures.ok;
      parts = c.in_ok-size.ensures.whole;
    } in
    sym (part_unknown xs ident after size rest both (sym c.size_of.ensures ∙ c.in_default.is))

pub returns-then-after-size-clause-value : goal.returns-then-after-size-clause-value
returns-then-after-size-clause-value c =
    let xs = c.args.content.now in
    let ident = c.in_ok-ident.ident.now in
    let after = c.in_ok-ident.after.now in
    let size = c.in_ok-size.size.now in
    let rest = c.in_ok-size.after.now in
    let some : length xs ≡ 0 → ⊥ = search rules in
    let has : HasIdent xs ident after = record {
      some = some;
      is = c.in_ok-ident.ensures.ok;
      parts =
          c.in_ok-ident.ensures.whole;
    } in
    let both : HasSize xs ident after size rest =
    record {
      ident_is = has;
      is = c.in_ok-size.ensures.ok;
      parts = c.in_ok-size.ensures.whole;
    } in
    sym (part_long xs ident after size rest c.in-Some.size both
    (sym c.size_of.ensures ∙ c.in-Some.is) (omega (arith, c.if-after-size.true)))

pub overflow_cast-result : goal.overflow_cast-result
overflow_cast-result c =
    let fits = four_fit c.number_of.result (length c.in_ok-ident.ident.now) c.number_of.ensures.fits
    (omega (arith, c.in_ok-ident.ensures.few)) in
    omega (arith, fits)

pub returns-clause-value : goal.returns-clause-value
returns-clause-value c =
    let xs = c.args.content.now in
    let ident = c.in_ok-ident.ident.now in
    let after = c.in_ok-ident.after.now in
    let size = c.in_ok-size.size.now in
    let rest = c.in_ok-size.after.now in
    let n = c.in-Some.size in
    let some : length xs ≡ 0 → ⊥ = search rules in
    let has : HasIdent xs ident after = record {
      some = some;
      is = c.in_ok-ident.ensures.ok;
      parts =
          c.in_ok-ident.ensures.whole;
    } in
    let both : HasSize xs ident after size rest =
    record {
      ident_is = has;
      is = c.in_ok-size.ensures.ok;
      parts = c.in_ok-size.ensures.whole;
    } in
    rw (take_rest rest n, c.number_of.ensures.value)
    (sym (part_there xs ident after size rest n both (sym c.size_of.ensures ∙ c.in-Some.is)
    (omega (arith, c.if-after-size.false))))
