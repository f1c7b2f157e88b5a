-- A number as binary64.
use Rattle.std.proofs.Common.{◌≡◌, ◌<◌, ◌+◌, ◌-◌, ◌*◌, ◌^◌, ◌%◌, arith, rules}
use Rattle.std.proofs.lemmas.Nat.{one_shl}
use Rattle.ffv1_matroska.specs.Written.{double, exponent_of}
use Rattle.ffv1_matroska.proofs.Doubles.{parts_of}
use Rattle.ffv1_matroska.proofs.write.opening.double.Goals as goal

pub overflow_sub-fraction : goal.overflow_sub-fraction
overflow_sub-fraction c =
    let p = parts_of c.args.n c.requires.some c.requires.most in
    let e : 1 * 2 ^ exponent_of c.args.n % 2 ^ 64 ≡ 2 ^ exponent_of c.args.n = one_shl
    (exponent_of c.args.n) 64 (omega (arith, p.few)) in
    rw e p.low

pub overflow_sub-result : goal.overflow_sub-result
overflow_sub-result c = (parts_of c.args.n c.requires.some c.requires.most).few

pub overflow_add-result-2 : goal.overflow_add-result-2
overflow_add-result-2 c =
    let p = parts_of c.args.n c.requires.some c.requires.most in
    let e : 1 * 2 ^ exponent_of c.args.n % 2 ^ 64 ≡ 2 ^ exponent_of c.args.n = one_shl
    (exponent_of c.args.n) 64 (omega (arith, p.few)) in
    rw e (let sum : (1023 + c.from.result) * 4503599627370496 % 18446744073709551616 +
    (c.args.n - 2 ^ exponent_of c.args.n) * 2 ^ (52 - exponent_of c.args.n) %
    18446744073709551616 < 2 ^ 64 = omega (arith, p.few, p.fraction, c.from.ensures) in search
    (rules, sum))

pub returns : goal.returns
unfolding double
returns c =
    let p = parts_of c.args.n c.requires.some c.requires.most in
    let e : 1 * 2 ^ exponent_of c.args.n % 2 ^ 64 ≡ 2 ^ exponent_of c.args.n = one_shl
    (exponent_of c.args.n) 64 (omega (arith, p.few)) in
    rw e (omega (arith, p.few, p.fraction, c.from.ensures))
