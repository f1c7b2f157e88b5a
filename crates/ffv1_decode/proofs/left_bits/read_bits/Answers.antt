-- Reads a segment from the bits that are left of its slice.
use Rattle.std.proofs.Common.{◌≡◌, ◌∙◌, Some, ap, sym, arith, length, length-append}
use Rattle.ffv1_decode.proofs.lemmas.left_bits.BitsTied.{same_number, none_is_not}
use Rattle.ffv1_decode.proofs.left_bits.read_bits.Goals as goal

pub returns-in-Ok-clause-exact : goal.returns-in-Ok-clause-exact
returns-in-Ok-clause-exact g c = λ a past read parked left. (
  c.bits_left-bits.result,
  c.bits_left-bits.ensures.behind a past read parked left,
  record {
    rest = c.decode_bits.new.bits;
    read = c.in-Ok.ensures.ok c.requires.holds;
    samples = c.in-Ok.ensures.samples c.requires.holds;
    is = ap Some c.park.ensures;
  },
)

pub returns-in-Ok-clause-small : goal.returns-in-Ok-clause-small
returns-in-Ok-clause-small g c = λ x h. (c.in-Ok.ensures.samples c.requires.holds).each x h

pub returns-in-Ok-clause-left : goal.returns-in-Ok-clause-left
returns-in-Ok-clause-left g c = λ n is.
    let same : n ≡ c.park.result = same_number c.park.result n is in
    let text = ap length (c.in-Ok.ensures.ok c.requires.holds).bits ∙ length-append _ c.decode_bits.new.bits in
    omega (arith, same, c.park.ensures, text, c.bits_left-bits.ensures.few)

pub returns-in-Err-clause-exact : goal.returns-in-Err-clause-exact
returns-in-Err-clause-exact g c = λ a past read parked left. (
  c.bits_left-bits.result,
  c.bits_left-bits.ensures.behind a past read parked left,
  record {
    reason = c.in-Err.refused.fault;
    is = c.rice_fault.ensures.value;
    inside = c.in-Err.ensures.inside c.requires.holds;
    samples = c.in-Err.ensures.samples_before c.requires.holds;
    refuses = c.in-Err.ensures.refused c.requires.holds;
  },
)

pub returns-in-Err-clause-left : goal.returns-in-Err-clause-left
returns-in-Err-clause-left g c = λ n is. none_is_not n (sym is)
