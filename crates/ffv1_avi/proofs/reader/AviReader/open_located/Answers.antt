-- Reads a file up to its first `movi`, to read it then as far as `open` and `open_all` do, and says
-- where in the file a fault is: `offset` is then the number of bytes before the chunk at fault,
-- counting the byte that was read before; no greater than 2^64 - 1.
use Rattle.std.proofs.lemmas.Result.{err_from_is_err_and}
use Rattle.ffv1_avi.proofs.ReadingFaults.{opening_own}
use Rattle.ffv1_avi.proofs.SpotReadings.{from_zero}
use Rattle.ffv1_avi.proofs.OpenLaws.{opened_least, opened_most}
use Rattle.std.proofs.Common.{◌++◌, []}
use Rattle.ffv1_avi.proofs.reader.AviReader.open_located.Goals as goal

pub returns-in_err-sizes-clause-own : goal.returns-in_err-sizes-clause-own
returns-in_err-sizes-clause-own g c =
    let p = err_from_is_err_and c.from_residual.result c.from_residual.ensures.1 in
    rw (p.1, p.2) (opening_own c.args.extent _ _ _ _ c.in_err-sizes.field-0.0
    c.in_err-sizes.ensures.answer)

pub returns-in_err-sizes-clause-offset : goal.returns-in_err-sizes-clause-offset
returns-in_err-sizes-clause-offset g c =
    let p = err_from_is_err_and c.from_residual.result c.from_residual.ensures.1 in
    let from = c.in_err-sizes.ensures.from in
    rw (p.1, p.2) (from.0, from.1, from.2, from_zero _ from.1 from.3)

pub returns-clause-offset : goal.returns-clause-offset
returns-clause-offset g c = let from = c.in_ok-sizes.ensures.from in
    (from.0, from.1, from_zero _ from.0 from.2)

pub returns-clause-most : goal.returns-clause-most
returns-clause-most g c =
    let read = c.in_ok-sizes.ensures.answer.1 in
    opened_most c.args.extent (read.bytes ++ []) (_, []) (read.is [])

pub returns-clause-least : goal.returns-clause-least
returns-clause-least g c =
    let read = c.in_ok-sizes.ensures.answer.1 in
    opened_least c.args.extent (read.bytes ++ []) (_, []) (read.is [])

pub returns-clause-others : goal.returns-clause-others
returns-clause-others g c = (_, c.in_ok-sizes.ensures.others, c.others_in.ensures)
