-- Reads what comes next of a run.
use Rattle.std.proofs.Common.{◌≡◌, ◌∙◌, refl, sym, ap, ap₂, ◌+◌, ◌-◌, ◌*◌, ◌/◌, ◌%◌, ◌^◌, ◌<◌, true}
use Rattle.std.proofs.Common.{false, ◌∷◌, ◌++◌}
use Rattle.std.proofs.Common.{length, drop, inl, inr, arith, true≢false}
use Rattle.std.proofs.lemmas.Bool.{cases_lt, iff_false}
use Rattle.std.proofs.lemmas.Nat.{one_shl}
use Rattle.ffv1_rice.specs.Bits.{binary, number_of}
use Rattle.ffv1_rice.specs.Run.{run_log}
use Rattle.ffv1_rice.proofs.Numbers.{none_above, some_above}
use Rattle.ffv1_rice.proofs.Runs.{first_is_one, broken_window, ends_in_run, low_below}
use Rattle.ffv1_rice.proofs.run.read_run.Goals as goal

pub skip-requires-clause-left : goal.skip-requires-clause-left
skip-requires-clause-left c =
    let text = c.args.bits.now in
    let log = run_log c.args.index.now in
    let above = some_above 31 c.peek-window.result c.if-window-ne0.true in
    let first = first_is_one 31 text (omega (arith, above, c.peek-window.ensures)) in
    let long = ap length first in
    omega (arith, long)

pub returns-then-left-many-clause-ok : goal.returns-then-left-many-clause-ok
returns-then-left-many-clause-ok c =
    let text = c.args.bits.now in
    let log = run_log c.args.index.now in
    let above = some_above 31 c.peek-window.result c.if-window-ne0.true in
    let first = first_is_one 31 text (omega (arith, above, c.peek-window.ensures)) in
    let few = c.run_log_of-log.ensures.few in
    let many : 1 * 2 ^ c.run_log_of-log.result % 18446744073709551616 ≡ 2 ^ log =
    one_shl c.run_log_of-log.result 64 (omega (arith, few)) ∙ ap (λ k. 2 ^ k)
    c.run_log_of-log.ensures.value in
    record {
      whole = λ is. first ∙ ap (λ rest. true ∷ rest) (sym c.skip.ensures);
      grown = λ is least. absurd (omega (arith, least, many, c.if-left-many.true));
      last = λ is less. (refl, refl);
      broken = λ is. absurd (true≢false (sym is));
    }

pub returns-then-window-ne0-clause-ok : goal.returns-then-window-ne0-clause-ok
returns-then-window-ne0-clause-ok c =
    let text = c.args.bits.now in
    let log = run_log c.args.index.now in
    let above = some_above 31 c.peek-window.result c.if-window-ne0.true in
    let first = first_is_one 31 text (omega (arith, above, c.peek-window.ensures)) in
    let few = c.run_log_of-log.ensures.few in
    let many : 1 * 2 ^ c.run_log_of-log.result % 18446744073709551616 ≡ 2 ^ log =
    one_shl c.run_log_of-log.result 64 (omega (arith, few)) ∙ ap (λ k. 2 ^ k)
    c.run_log_of-log.ensures.value in
    record {
      whole = λ is. first ∙ ap (λ rest. true ∷ rest) (sym c.skip.ensures);
      grown = λ is least. (many, refl);
      last = λ is less. absurd (omega (arith, less, many, c.if-left-many.false));
      broken = λ is. absurd (true≢false (sym is));
    }

pub returns-then-not-has-clause-ends : goal.returns-then-not-has-clause-ends
returns-then-not-has-clause-ends c =
    let text = c.args.bits.now in
    let log = run_log c.args.index.now in
    let value = c.run_log_of-log.ensures.value in
    let few = c.run_log_of-log.ensures.few in
    let below = none_above 31 c.peek-window.result c.if-window-ne0.false in
    let small : number_of 32 text < 2 ^ 31 = omega (arith, below, c.peek-window.ensures) in
    let less : length text < 1 + log = elim (cases_lt (length text) (1 + log)) [
      | inl less ↦ less
      | inr more ↦ absurd (iff_false c.has.ensures c.if-not-has.true (omega (arith, more, value)))
    ] in
    λ ends. ends_in_run c.args.index.now text small less

pub returns-then-zeros-left-clause-bad : goal.returns-then-zeros-left-clause-bad
returns-then-zeros-left-clause-bad c =
    let text = c.args.bits.now in
    let log = run_log c.args.index.now in
    let value = c.run_log_of-log.ensures.value in
    let few = c.run_log_of-log.ensures.few in
    let below = none_above 31 c.peek-window.result c.if-window-ne0.false in
    let small : number_of 32 text < 2 ^ 31 = omega (arith, below, c.peek-window.ensures) in
    let within = c.has.ensures.0 c.if-not-has.false in
    let low : c.lowest-zeros.result ≡ number_of 32 text / 2 ^ (31 - log) % 2 ^ log =
    c.lowest-zeros.ensures ∙ ap₂ (λ w l. w / 2 ^ (31 - l) % 2 ^ l) c.peek-window.ensures value in
    let bits = broken_window log c.lowest-zeros.result text (omega (arith, few, value)) small
    (omega (arith, within, value)) low in
    λ bad. record {
      zeros = c.lowest-zeros.result;
      rest = drop (1 + log) text;
      few = low_below (number_of 32 text) log (31 - log) c.lowest-zeros.result low;
      is = bits;
      beyond = c.if-zeros-left.true;
    }

pub returns-clause-ok : goal.returns-clause-ok
returns-clause-ok c =
    let text = c.args.bits.now in
    let log = run_log c.args.index.now in
    let value = c.run_log_of-log.ensures.value in
    let few = c.run_log_of-log.ensures.few in
    let below = none_above 31 c.peek-window.result c.if-window-ne0.false in
    let small : number_of 32 text < 2 ^ 31 = omega (arith, below, c.peek-window.ensures) in
    let within = c.has.ensures.0 c.if-not-has.false in
    let low : c.lowest-zeros.result ≡ number_of 32 text / 2 ^ (31 - log) % 2 ^ log =
    c.lowest-zeros.ensures ∙ ap₂ (λ w l. w / 2 ^ (31 - l) % 2 ^ l) c.peek-window.ensures value in
    let bits = broken_window log c.lowest-zeros.result text (omega (arith, few, value)) small
    (omega (arith, within, value)) low in
    let rest : drop (1 + log) text ≡ c.skip-2.new.self = ap (λ k. drop (1 + k) text) (sym value) ∙
    sym c.skip-2.ensures in
    record {
      whole = λ is. absurd (true≢false is);
      grown = λ is least. absurd (true≢false is);
      last = λ is less. absurd (true≢false is);
      broken = λ is. (
        bits ∙ ap (λ rest. false ∷ (binary log c.lowest-zeros.result ++ rest)) rest,
        low_below (number_of 32 text) log (31 - log) c.lowest-zeros.result low,
        c.if-zeros-left.false,
        omega (arith, c.saturating_sub.ensures),
      );
    }
