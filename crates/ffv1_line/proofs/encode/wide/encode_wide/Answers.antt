-- Codes one row of one cell of a plane of 17 bits, as `encode_line` does of up to 16: the folded
-- residual of each sample as a symbol (RFC 9043, 3.1 to 3.8).
use Rattle.std.proofs.Common.{refl}
use Rattle.ffv1_line.proofs.lemmas.cell.Beside.{counts_nothing}
use Rattle.ffv1_line.specs.Coder.{encoder_by}
use Rattle.ffv1_line.proofs.encode.wide.encode_wide.Goals as goal

pub returns-then-has_failed-clause-kept : goal.returns-then-has_failed-clause-kept
returns-then-has_failed-clause-kept g c =
    counts_nothing c.args.coding.now (encoder_by c.args.encoder.now c.args.states.now)
    c.args.encoder.now.counts c.args.above.now c.args.cur.now c.requires.some
    c.requires.one_long refl
