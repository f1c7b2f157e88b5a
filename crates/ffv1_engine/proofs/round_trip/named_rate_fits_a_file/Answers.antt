-- The rate and the scale that a command line names are such as a file has: `words` makes no choice
-- for which `packed_is_unpacked` would not speak of PPM.
use Rattle.std.proofs.Common.{◌≡◌, ◌∙◌, sym, arith, false}
use Rattle.std.specs.Prelude.{◌==◌}
use Rattle.std.proofs.lemmas.Bool.{ne_eqb}
use Rattle.ffv1_engine.proofs.round_trip.named_rate_fits_a_file.Goals as goal

pub returns : goal.returns
returns c = λ rows choice named.
    let rate = named.rate in
    let scale = named.scale in
    let low : (choice.rate == 0) ≡ false = ne_eqb _ _ (λ e. let least = rate.4 in omega arith) in
    let slow : (choice.scale == 0) ≡ false = ne_eqb _ _ (λ e. let least = scale.4 in omega arith) in
    record { first = rate.5; second = scale.5; both = low ∙ sym slow }
