-- Transparency of a line of samples of more than 8 bits, or the first place that has more bits.
use Rattle.std.proofs.Common.{◌≡◌, true, false, ℕ, ◌^◌, ◌<◌, length, slice_index, inl, inr, sym}
use Rattle.std.proofs.Common.{subst}
use Rattle.std.proofs.lemmas.Bool.{cases_lt}
use Rattle.std.proofs.lemmas.Nat.{pow_pos}
use Rattle.std.proofs.lemmas.List.{get_or_past}
use Rattle.ffv1_decode.proofs.colours.transparency_words.Goals as goal

pub returns-in-Ok-clause-small : goal.returns-in-Ok-clause-small
returns-in-Ok-clause-small c = λ x.
    let samples = c.args.samples.now in
    let d = c.args.depth in
    elim (cases_lt x (length samples)) [
      | inl inside ↦ elim (cases_lt (slice_index samples x) (2 ^ d)) [
        | inl less ↦ less
        | inr over ↦ absurd (let no : false ≡ true = c.in-Ok.ensures.exact.1 (x, inside, over) in
            cc)
      ]
      | inr past ↦ subst (λ n. n < 2 ^ d) (sym (get_or_past {X = ℕ} samples x 0 past)) (pow_pos d)
    ]
