-- What is written of a configuration is its record.
use Rattle.std.proofs.Common.{◌≡◌, refl, ℕ, ◌-◌, ◌<◌, ◌≤◌, inl, Bool, true, false, List, [], ◌∷◌, ◌++◌, length, take, sym, subst, ◌∙◌, arith, append-nil, length-append, ◌^◌}
use Rattle.std.proofs.Math.Seq.{take-append_seam}
use Rattle.std.proofs.lemmas.Bool.Decides.{nat_tests}
use Rattle.ffv1_range.specs.Interval.{Interval, Decision, start, narrow, narrowed, interval_of}
use Rattle.ffv1_range.specs.Codes.{AreBytes, digits, full_of}
use Rattle.ffv1_range.specs.Standard.{standard}
use Rattle.ffv1_range.proofs.Standard.{standard as standard_table}
use Rattle.ffv1_range.proofs.Named.{named}
use Rattle.ffv1_range.proofs.EndingCodes.{fit, full-inside, bytes-digits}
use Rattle.ffv1_range.proofs.Values.{length-digits}
use Rattle.ffv1_record.specs.Configuration.{Configuration}
use Rattle.ffv1_record.specs.Parity.{remainder_of, parity_of}
use Rattle.ffv1_record.specs.Record.{IsRecord, IsCoded, body_of, record_of, coded_of, record_steps, record_decisions}

-- an interval loses no byte
narrow_least : (i : Interval) (state : ℕ) (bit : Bool) → i.count ≤ (narrow i state bit).count
narrow_least i state true = grind (arith, nat_tests)
narrow_least i state false = grind (arith, nat_tests)

narrowed_least : (ds : List Decision) (i : Interval) → i.count ≤ (narrowed i ds).count
narrowed_least [] i = omega arith
narrowed_least (d ∷ ds) i =
    let first = narrow_least i d.state d.bit in
    let rest = narrowed_least ds (narrow i d.state d.bit) in
    omega arith

-- some bytes, the full ending of decisions, and four more after
module _ (ds : List Decision) (n : ℕ) where
  unfoldable pub whole : List ℕ
  whole = full_of (interval_of ds) ++ digits 4 n

  at_least : 5 ≤ length whole
  unfolding whole
  at_least =
      let long = length-digits (interval_of ds).count (interval_of ds).low in
      let tail = length-digits 4 n in
      let some = narrowed_least ds start in
      rw (length-append (full_of (interval_of ds)) (digits 4 n), long, tail) (omega arith)

  pub front : body_of whole ≡ full_of (interval_of ds)
  unfolding whole
  front =
      let tail = length-digits 4 n in
      taken (full_of (interval_of ds)) (digits 4 n) tail
    where
      taken : (xs ys : List ℕ) → length ys ≡ 4 → take (length (xs ++ ys) - 4) (xs ++ ys) ≡ xs
      taken xs ys four =
          let here : length (xs ++ ys) - 4 ≡ length xs = omega (arith, length-append xs ys) in
          rw here (take-append_seam xs ys)

pub stored_record : (c : Configuration) → (AreBytes (coded_of c) → parity_of (coded_of c) < 2 ^ 32) →
    (AreBytes (coded_of c) → parity_of (coded_of c) < 2 ^ 32 → remainder_of (coded_of c ++ digits 4 (parity_of (coded_of c))) ≡ 0) → IsRecord (record_of c) c
unfolding whole
stored_record c small guards =
    let ds = record_decisions c.depth c in
    let are : AreBytes (coded_of c) = bytes-digits (interval_of ds).count (interval_of ds).low in
    let states = named standard standard_table [] (record_steps c.depth c) in
    let codes = full-inside (interval_of ds) [] (fit ds states) in
    record {
      long = at_least ds (parity_of (coded_of c));
      whole = guards are (small are);
      bits = c.depth;
      known = inl refl;
      coded = subst (λ bytes. IsCoded bytes (record_steps c.depth c)) (append-nil (full_of (interval_of ds)) ∙ sym (front ds (parity_of (coded_of c)))) codes;
    }

-- and its parameters are bytes
pub record_bytes : (c : Configuration) → AreBytes (body_of (record_of c))
unfolding whole
record_bytes c =
    let ds = record_decisions c.depth c in
    subst AreBytes (sym (front ds (parity_of (coded_of c)))) (bytes-digits (interval_of ds).count (interval_of ds).low)
