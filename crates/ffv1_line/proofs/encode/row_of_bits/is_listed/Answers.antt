-- Whether the symbols of a part are written by a list.
use Rattle.std.proofs.Common.{arith, ◌<◌, ◌≤◌, subst, sym, length, take}
use Rattle.std.proofs.lemmas.List.{get_or-take, length-take-le}
use Rattle.ffv1_line.specs.Internal.Parts.{IsOfNineBits, residual_limit}
use Rattle.ffv1_line.proofs.encode.row_of_bits.is_listed.Goals as goal

pub returns : goal.returns
returns g c = λ listed.
    let bits = c.args.part.now.bits in
    let count = c.args.part.now.count in
    let residuals = c.args.block.now.residuals in
    let room : count ≤ length residuals = omega (arith, c.requires.part.few) in
    let long = length-take-le count residuals room in
    record {
      each = λ k inside.
          let within : k < length (take count residuals) = rw long inside in
          let same = get_or-take count residuals k 0 inside in
          subst (IsOfNineBits bits) same (c.may_be_listed.ensures listed k within
          (subst (λ n. n < residual_limit bits) (sym same) (c.requires.block.small k inside)));
    }
