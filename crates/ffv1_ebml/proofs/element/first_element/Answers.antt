-- Reads the header of the next element of a parent that has `left` bytes left, or answers None if
-- the input has ended before it.
use Rattle.std.specs.Io.KnownBytes.{Consumes}
use Rattle.std.proofs.Common.{◌≡◌, ◌∷◌, [], ℕ, List, Option, Some, None, refl, inr, arith}
use Rattle.std.proofs.lemmas.Result.{err_from_is_err_and}
use Rattle.ffv1_reads.specs.Reads.{refused, ◌>>=◌}
use Rattle.ffv1_reads.specs.declared.fault.FileFault.TheVariants as fault
use Rattle.ffv1_reads.proofs.Reading.{Goes, faults_here, goes_fault, goes_none, goes_read}
use Rattle.ffv1_reads.proofs.Reading.{goes_same}
use Rattle.ffv1_ebml.specs.declared.element.Element.{Element}
use Rattle.ffv1_ebml.specs.Elements.{element_after, first_read}
use Rattle.ffv1_ebml.proofs.ElementReadings.{first_ends, first_in_turn, first_none_left, some_given}
use Rattle.ffv1_reads.proofs.EndReadings.{none_given, none_refused, stops_here}
use Rattle.ffv1_ebml.proofs.element.first_element.Goals as goal

-- the first byte was read
begun : (left first : ℕ) {old mid : Option (List ℕ)} {before after : ℕ} → (left ≡ 0 → ⊥) → after ≡
    before → Consumes old mid (first ∷ []) → Goes (first_read left) old before
    (element_after left first >>= some_given) mid after
begun left first some same consumed = record {
  same = same;
  bytes = first ∷ [];
  consumed = consumed;
  leads = λ more. first_in_turn left first some more;
}

pub returns-then-left-eq0-clause-answer : goal.returns-then-left-eq0-clause-answer
returns-then-left-eq0-clause-answer g c =
    let none : c.args.left ≡ 0 = omega (arith, c.if-left-eq0.true) in
    goes_fault fault.Truncated (goes_same _ (refused fault.Truncated)
    (first_none_left c.args.left none) (goes_none (first_read c.args.left)
    (g.R.ByteIn.remaining c.args.input.now) (g.R.ByteIn.failures c.args.input.now)))
    (refl, inr (faults_here (Option Element) fault.Truncated _))

pub returns-in-Err-clause-answer : goal.returns-in-Err-clause-answer
returns-in-Err-clause-answer g c =
    let some : c.args.left ≡ 0 → ⊥ = λ e. omega (arith, e, c.if-left-eq0.false) in (
      c.in-Err.ensures.counted,
      inr (stops_here (first_read c.args.left) _ _ None
          (first_ends c.args.left some) c.in-Err.ensures.err),
    )

pub returns-in_default-clause-answer : goal.returns-in_default-clause-answer
returns-in_default-clause-answer g c =
    let some : c.args.left ≡ 0 → ⊥ = λ e. omega (arith, e, c.if-left-eq0.false) in
    let h = c.in-Ok.ensures in
    let ended = rw c.in_default.is at h.ok in (
      h.counted,
      inr (
        (
          stops_here (first_read c.args.left) _ _ None (first_ends c.args.left some)
              ended.0,
          ended.1,
        ),
        refl,
      ),
    )

pub returns-in_err-element-clause-answer : goal.returns-in_err-element-clause-answer
returns-in_err-element-clause-answer g c =
    let p = err_from_is_err_and c.from_residual.result c.from_residual.ensures.1 in
    let left = c.args.left in
    let some : left ≡ 0 → ⊥ = λ e. omega (arith, e, c.if-left-eq0.false) in
    let h = c.in-Ok.ensures in
    let first = c.in-Some.first in
    let start = begun left first some h.counted (rw c.in-Some.is at h.ok) in
    rw (p.1, p.2) (none_refused (element_after left first) some_given _ _ c.in_err-element.field-0.0
    start c.in_err-element.ensures.answer)

pub returns-clause-answer : goal.returns-clause-answer
returns-clause-answer g c =
    let left = c.args.left in
    let some : left ≡ 0 → ⊥ = λ e. omega (arith, e, c.if-left-eq0.false) in
    let h = c.in-Ok.ensures in
    let first = c.in-Some.first in
    let e = c.in_ok-element.element in
    let start = begun left first some h.counted (rw c.in-Some.is at h.ok) in
    none_given (Some e) (goes_read (element_after left first) some_given _ _ e start
    c.in_ok-element.ensures.answer)
