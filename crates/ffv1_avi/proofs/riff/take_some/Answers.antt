-- Fills the bytes, and answers how many stand at their front.
use Rattle.std.proofs.Common.{◌≡◌, ◌<◌, length, take, inl, inr, refl, arith}
use Rattle.std.proofs.lemmas.Bool.{le-ltb, lt-ltb}
use Rattle.std.proofs.lemmas.List.{length-take, take_all}
use Rattle.ffv1_avi.proofs.TakenBytes.{enough_read, few_read, few_stop, few_wanted, stands}
use Rattle.ffv1_avi.proofs.riff.take_some.Goals as goal

pub returns-in_default-clause-answer : goal.returns-in_default-clause-answer
returns-in_default-clause-answer g c =
    let e = c.in_default.ensures.err in
    let buf = c.read_full.new.buf in (
      c.in_default.ensures.counted,
      few_read (length c.args.bytes.now) c.args.owed (take e.0 buf)
          (omega (arith, e.1, length-take e.0 buf, c.read_full.auto.buf)) e.2,
    )

pub returns-then-n-bytes-clause-answer : goal.returns-then-n-bytes-clause-answer
returns-then-n-bytes-clause-answer g c =
    let fills = c.in-Ok.ensures.ok in
    let buf = c.read_full.new.buf in
    let n = c.in-Ok.n in
    let same : n ≡ length buf = omega (arith, c.if-n-bytes.true) in
    let long : length buf ≡ length c.args.bytes.now = c.read_full.auto.buf in
    let all : take n buf ≡ buf = take_all n buf (omega (arith, same)) in
    rw (le-ltb n (length c.args.bytes.now) (omega (arith, same, long))) (
      c.in-Ok.ensures.counted,
      inl (enough_read (length c.args.bytes.now) c.args.owed buf long (rw all at fills.0)),
    )

pub returns-then-owed-gt0-clause-answer : goal.returns-then-owed-gt0-clause-answer
returns-then-owed-gt0-clause-answer g c =
    let fills = c.in-Ok.ensures.ok in
    let buf = c.read_full.new.buf in
    let n = c.in-Ok.n in
    let long : length buf ≡ length c.args.bytes.now = c.read_full.auto.buf in
    let less : n < length buf = omega (arith, c.in-Ok.ensures.bound, c.if-n-bytes.false) in (
      c.in-Ok.ensures.counted,
      inl (
        few_wanted (length c.args.bytes.now) c.args.owed (take n buf)
            (omega (arith, c.if-owed-gt0.true)) (omega (arith, less, long, length-take n buf))
            fills.0,
        fills.1 less,
      ),
    )

pub returns-clause-answer : goal.returns-clause-answer
returns-clause-answer g c =
    let fills = c.in-Ok.ensures.ok in
    let buf = c.read_full.new.buf in
    let n = c.in-Ok.n in
    let long : length buf ≡ length c.args.bytes.now = c.read_full.auto.buf in
    let less : n < length buf = omega (arith, c.in-Ok.ensures.bound, c.if-n-bytes.false) in
    let none : c.args.owed ≡ 0 = omega (arith, c.if-owed-gt0.false) in
    rw (lt-ltb n (length c.args.bytes.now) (omega (arith, less, long))) (
      c.in-Ok.ensures.counted,
      inr (
        (
          few_stop (length c.args.bytes.now) c.args.owed (take n buf) none
              (omega (arith, less, long, length-take n buf)) fills.0,
          fills.1 less,
        ),
        refl,
      ),
    )

pub returns-then-n-bytes-clause-stand : goal.returns-then-n-bytes-clause-stand
returns-then-n-bytes-clause-stand g c =
    let buf = c.read_full.new.buf in
    stands c.in-Ok.n buf _ _ (omega (arith, c.if-n-bytes.true))
    (omega (arith, c.read_full.auto.buf)) c.in-Ok.ensures.ok

pub returns-clause-stand : goal.returns-clause-stand
returns-clause-stand g c =
    let buf = c.read_full.new.buf in
    stands c.in-Ok.n buf _ _ (omega (arith, c.in-Ok.ensures.bound))
    (omega (arith, c.read_full.auto.buf)) c.in-Ok.ensures.ok
