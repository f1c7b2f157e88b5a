-- The row of a residual of nine bits, given modulo 512, in the table of symbols.
use Rattle.std.proofs.Common.{◌≡◌, ◌+◌, ◌-◌, ◌*◌, take, drop, ap, arith}
use Rattle.ffv1_range.specs.declared.encoder.symbol_table.TheConstants.{SYMBOLS}
use Rattle.ffv1_range.proofs.encoder.batch.symbol_of.Goals as goal

pub returns : goal.returns
returns c =
    let residual = c.args.residual in
    let wide : residual * 24 + 24 - residual * 24 ≡ 24 = omega arith in
    ap (λ k. take k (drop (residual * 24) SYMBOLS)) wide
