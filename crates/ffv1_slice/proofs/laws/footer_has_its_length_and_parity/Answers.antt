-- A footer is as long as a configuration says, and with its parity a slice has the remainder 0.
use Rattle.std.proofs.Common.{[], ◌∷◌, ap, ◌∙◌, refl, length}
use Rattle.ffv1_range.specs.Codes.{digits}
use Rattle.ffv1_record.specs.Parity.{remainder_of, parity_of}
use Rattle.ffv1_slice.specs.Footer.{unsealed}
use Rattle.ffv1_slice.proofs.WholeSlices.{bytes_unsealed, regrouped, footer_long}
use Rattle.ffv1_slice.proofs.laws.footer_has_its_length_and_parity.Goals as goal

pub returns-clause-long : goal.returns-clause-long
returns-clause-long c = footer_long

pub returns-clause-whole : goal.returns-clause-whole
returns-clause-whole c = λ bytes are.
    let all = bytes_unsealed bytes are in
    let seal = parity_of (unsealed bytes) in
    ap remainder_of (regrouped bytes (digits 3 (length bytes)) (0 ∷ []) (digits 4 seal))
    ∙ (c.parity_makes_the_remainder_zero.ensures.stored (unsealed bytes) seal all
    (c.parity_makes_the_remainder_zero.ensures.small_parity (unsealed bytes) all)).1 refl
