-- How many bytes a frame has: one and the footer's for each slice, and one for each
-- renormalisation. That is at most 2 n + 1 for each residual of n binary digits, and 109 for each
-- slice, with 6 for a third set index and 2 for each place that may be above 15.
use Rattle.std.proofs.Common.{ℕ, ◌+◌, ◌*◌, ◌∙◌, ap, arith}
use Rattle.std.specs.List.{range_with_len}
use Rattle.std.proofs.lemmas.List.FromFn.{length-range_with_len}
use Rattle.std.specs.Prelude.{sum, map}
use Rattle.ffv1_slice.specs.Footer.{foot_length}
use Rattle.ffv1_frame.specs.Frame.{slice_bytes}
use Rattle.ffv1_frame.specs.Length.{slice_residuals, slice_most, slice_renormalisations}
use Rattle.ffv1_frame.proofs.lemmas.Lengths.{joined_long, joined_most}
use Rattle.ffv1_frame.proofs.laws.frame_length_follows_from_residuals.Goals as goal

pub returns-clause-long : goal.returns-clause-long
returns-clause-long c = λ a planes info.
    let conf = a.configuration in
    let count : ℕ = conf.columns * conf.rows in
    joined_long conf.ec (slice_bytes a planes info) (slice_renormalisations a planes info)
    (range_with_len 0 count) (c.slice_length_follows_from_residuals.ensures.coded a planes info)
    (c.footer_has_its_length_and_parity.ensures.long conf.ec)
    ∙ ap (λ k. sum (map (slice_renormalisations a planes info) (range_with_len 0 count)) + k *
    (1 + foot_length conf.ec)) (length-range_with_len 0 count)

pub returns-clause-most : goal.returns-clause-most
returns-clause-most c = λ a planes info is said.
    let conf = a.configuration in
    joined_most conf.ec (slice_bytes a planes info) (slice_renormalisations a planes info)
    (slice_residuals conf planes info) (slice_most conf) 0 (conf.columns * conf.rows)
    (c.slice_length_follows_from_residuals.ensures.coded a planes info)
    (c.footer_has_its_length_and_parity.ensures.long conf.ec)
    (λ n inside. c.slice_length_follows_from_residuals.ensures.bytes a planes info n is said
    (omega (arith, inside)))
