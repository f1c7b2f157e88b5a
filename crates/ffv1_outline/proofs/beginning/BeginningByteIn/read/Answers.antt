-- `read` of `ByteIn` for `Beginning`.
use Rattle.std.proofs.Common.{◌≡◌, ◌+◌, ◌-◌, ◌∙◌, length, take, drop, ap, sym, subst, arith}
use Rattle.std.proofs.Common.{length-drop}
use Rattle.std.proofs.lemmas.List.{take_rest}
use Rattle.std.specs.Io.KnownBytes.{Consumes, prepend_known}
use Rattle.ffv1_outline.proofs.KeptBytes.{gives_kept}
use Rattle.ffv1_outline.proofs.beginning.BeginningByteIn.read.Goals as goal

pub returns-then-self-clause-bytes : goal.returns-then-self-clause-bytes
returns-then-self-clause-bytes g c =
    let bs = c.args.self.now.bytes.now in
    let i = c.args.self.now.given in
    let n = c.give-len.result in
    let rest = g.R.ByteIn.remaining c.args.self.now.inner in
    let whole : take (length bs - i) (drop i bs) ≡ drop i bs = take_rest bs i in
    let same : take n c.give-len.new.buf ≡ take n (drop i bs) =
    c.give-len.ensures.front ∙ ap (take n) whole in
    let few : length (take (length bs - i) (drop i bs)) ≡ length bs - i =
    ap length whole ∙ length-drop i bs in (
      subst (Consumes (prepend_known (drop i bs) rest) (prepend_known (drop (i + n) bs) rest))
          (sym same) (gives_kept rest bs i n),
      λ none some. absurd (omega (
        arith,
        none,
        some,
        few,
        c.give-len.ensures.many,
        c.give-len.ensures.long,
        c.if-self.true,
      )),
    )
