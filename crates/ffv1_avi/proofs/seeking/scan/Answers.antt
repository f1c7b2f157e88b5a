-- Passes bytes up to the next header of frames, or of an index.
use Rattle.std.proofs.Common.{◌≡◌, ◌∙◌, ◌-◌, ◌+◌, ◌++◌, ◌||◌, suc, true, false, Some, None, inr, refl, sym, arith}
use Rattle.ffv1_reads.specs.Reads.{given}
use Rattle.ffv1_reads.proofs.EndReadings.{stops_here}
use Rattle.ffv1_reads.proofs.Reading.{goes_none, goes_same}
use Rattle.ffv1_avi.specs.Turns.{begins_index, begins_sized, found_in, sought}
use Rattle.ffv1_avi.specs.declared.place.Extent.TheVariants.{EveryRiff}
use Rattle.ffv1_avi.proofs.EndReadings.{halts_last, none_given}
use Rattle.ffv1_avi.proofs.SoughtBytes.{ends_at, found_at, over_at, scans_byte}
use Rattle.ffv1_avi.proofs.seeking.scan.Goals as goal

pub loop-count-init : goal.loop-count-init
loop-count-init g c = (
  goes_none (λ text. sought c.args.names (c.args.window ++ text)) _ _,
  c.is_whole-whole.ensures.long,
)

pub returns-then-is_sought : goal.returns-then-is_sought
returns-then-is_sought g c =
    let inv = c.loop-count.invariant in
    let head = c.loop-count.head in
    let left = 18446744073709551615 - c.loop-count.count in
    let more : left ≡ suc (left - 1) = omega (arith, c.loop-count-test.true) in
    let begins : (begins_sized c.args.names head || begins_index head) ≡ true =
    sym c.if-is_sought.ensures in
    rw c.found_in.ensures (none_given EveryRiff (Some (found_in c.args.names c.loop-count.count head))
    (goes_same _ (given (Some (found_in c.args.names c.loop-count.count head)))
    (found_at c.args.names head inv.1 left (left - 1) c.loop-count.count more begins) inv.0))

pub returns-in-Err : goal.returns-in-Err
returns-in-Err g c =
    let inv = c.loop-count.invariant in
    let head = c.loop-count.head in
    let left = 18446744073709551615 - c.loop-count.count in
    let more : left ≡ suc (left - 1) = omega (arith, c.loop-count-test.true) in
    let none : (begins_sized c.args.names head || begins_index head) ≡ false =
    sym c.if-is_sought.ensures in (
      rw (← inv.0.same) c.in-Err.ensures.counted,
      inr (halts_last EveryRiff _ _ inv.0 (stops_here _ _ _ None
          (ends_at c.args.names head inv.1 left (left - 1) c.loop-count.count more none)
          c.in-Err.ensures.err)),
    )

pub returns-in_default : goal.returns-in_default
returns-in_default g c =
    let inv = c.loop-count.invariant in
    let head = c.loop-count.head in
    let left = 18446744073709551615 - c.loop-count.count in
    let more : left ≡ suc (left - 1) = omega (arith, c.loop-count-test.true) in
    let none : (begins_sized c.args.names head || begins_index head) ≡ false =
    sym c.if-is_sought.ensures in
    let h = c.in-Ok.ensures in
    let ended = rw c.in_default.is at h.ok in (
      h.counted ∙ inv.0.same,
      inr (
        (
          halts_last EveryRiff _ _ inv.0 (stops_here _ _ _ None
              (ends_at c.args.names head inv.1 left (left - 1) c.loop-count.count more none) ended.0),
          ended.1,
        ),
        refl,
      ),
    )

pub loop-count-preserved : goal.loop-count-preserved
loop-count-preserved g c =
    let inv = c.loop-count.invariant in
    let head = c.loop-count.head in
    let left = 18446744073709551615 - c.loop-count.count in
    let more : left ≡ suc (left - 1) = omega (arith, c.loop-count-test.true) in
    let none : (begins_sized c.args.names head || begins_index head) ≡ false =
    sym c.if-is_sought.ensures in
    let h = c.in-Ok.ensures in
    let next = scans_byte c.args.names head inv.1 left (left - 1) c.loop-count.count c.in-Some.byte _ _
    more none h.counted (rw c.in-Some.is at h.ok) inv.0 in
    let same : left - 1 ≡ 18446744073709551615 - (c.loop-count.count + 1) = omega arith in
    (rw (← same, c.slid-next.ensures.value) next, c.slid-next.ensures.long)

pub returns : goal.returns
returns g c =
    let inv = c.loop-count.invariant in
    let left = 18446744073709551615 - c.loop-count.count in
    let none : left ≡ 0 = omega (arith, c.loop-count-test.false) in
    none_given EveryRiff None (goes_same _ (given None)
    (over_at c.args.names c.loop-count.head inv.1 left c.loop-count.count none) inv.0)
