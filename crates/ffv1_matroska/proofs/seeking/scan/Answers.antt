-- Passes bytes up to the end of the next ID of a Cluster, and answers how many of so many are left
-- after it; None if they, or the input, end before.
use Rattle.std.proofs.Common.{◌≡◌, ◌==◌, ◌∙◌, ◌-◌, ◌+◌, suc, true, false, Some, None, inr, refl}
use Rattle.std.proofs.Common.{arith}
use Rattle.std.proofs.lemmas.Bool.{eq-eqb, ne_eqb}
use Rattle.ffv1_reads.specs.Reads.{given}
use Rattle.ffv1_reads.proofs.EndReadings.{halts_last, none_given, stops_here}
use Rattle.ffv1_reads.proofs.Reading.{goes_same}
use Rattle.ffv1_matroska.specs.Turns.{byte_matched, scanned}
use Rattle.ffv1_matroska.proofs.Scanning.{scan_ends, scan_over, scans_byte}
use Rattle.ffv1_matroska.proofs.seeking.scan.Goals as goal

pub returns-in-Err : goal.returns-in-Err
returns-in-Err g c =
    let inv = c.loop-passed.invariant in
    let left = c.args.left - c.loop-passed.passed in
    let more : left ≡ suc (left - 1) = omega arith in (
      rw (← inv.same) c.in-Err.ensures.counted,
      inr (halts_last _ _ inv
          (stops_here _ _ _ None (scan_ends left (left - 1) c.loop-passed.matched more)
          c.in-Err.ensures.err)),
    )

pub returns-in_default : goal.returns-in_default
returns-in_default g c =
    let inv = c.loop-passed.invariant in
    let left = c.args.left - c.loop-passed.passed in
    let more : left ≡ suc (left - 1) = omega arith in
    let ends = scan_ends left (left - 1) c.loop-passed.matched more in
    let h = c.in-Ok.ensures in
    let ended = rw c.in_default.is at h.ok in (
      h.counted ∙ inv.same,
      inr ((halts_last _ _ inv (stops_here _ _ _ None ends ended.0), ended.1), refl),
    )

pub returns-then-matched-eq4 : goal.returns-then-matched-eq4
returns-then-matched-eq4 g c =
    let inv = c.loop-passed.invariant in
    let left = c.args.left - c.loop-passed.passed in
    let more : left ≡ suc (left - 1) = omega arith in
    let h = c.in-Ok.ensures in
    let byte = c.in-Some.byte in
    let next = scans_byte left (left - 1) c.loop-passed.matched byte more inv h.counted
    (rw c.in-Some.is at h.ok) in
    let whole : (byte_matched c.loop-passed.matched byte == 4) ≡ true = eq-eqb _ _
    (rw c.byte_matched-matched.ensures at c.if-matched-eq4.true) in
    none_given (Some (left - 1))
    (goes_same _ (given (Some (left - 1))) (λ text. rw whole refl) next)

pub loop-passed-preserved : goal.loop-passed-preserved
loop-passed-preserved g c =
    let inv = c.loop-passed.invariant in
    let left = c.args.left - c.loop-passed.passed in
    let more : left ≡ suc (left - 1) = omega arith in
    let h = c.in-Ok.ensures in
    let byte = c.in-Some.byte in
    let next = scans_byte left (left - 1) c.loop-passed.matched byte more inv h.counted
    (rw c.in-Some.is at h.ok) in
    let some : (byte_matched c.loop-passed.matched byte == 4) ≡ false = ne_eqb _ _
    (λ z. omega (arith, z, c.byte_matched-matched.ensures, c.if-matched-eq4.false)) in
    let same : left - 1 ≡ c.args.left - (c.loop-passed.passed + 1) = omega arith in
    rw (← same, c.byte_matched-matched.ensures) (goes_same _
    (scanned (left - 1) (byte_matched c.loop-passed.matched byte)) (λ text. rw some refl) next)

pub returns : goal.returns
returns g c =
    let inv = c.loop-passed.invariant in
    let left = c.args.left - c.loop-passed.passed in
    let none : left ≡ 0 = omega arith in
    none_given None (goes_same _ (given None)
    (λ text. scan_over left c.loop-passed.matched text none) inv)
