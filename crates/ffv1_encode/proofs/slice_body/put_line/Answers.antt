-- Codes a row of a plane, by the set and the states of the plane's class.
use Rattle.std.proofs.Common.{subst, arith}
use Rattle.ffv1_encode.specs.Internal.HasPut.{PutsAfter}
use Rattle.ffv1_encode.proofs.lemmas.slice_body.Classes.{line_is}
use Rattle.ffv1_encode.proofs.slice_body.put_line.Goals as goal

pub put_row-requires-clause-fits : goal.put_row-requires-clause-fits
put_row-requires-clause-fits g c = omega (arith, c.coding_of-coding.ensures.fits, c.requires.room)

pub returns-clause-ok : goal.returns-clause-ok
returns-clause-ok g c = λ cell y loaded.
    let same = line_is (cell c.args.plane) y _ _ _ _ _ _ c.coding_of-coding.ensures.set
    c.coding_of-coding.ensures.bits c.coding_of-coding.ensures.at in
    let puts = rw c.coding_of-coding.ensures.table at
    (c.in_ok-put_row.ensures.ok (cell c.args.plane) y loaded) in
    subst (PutsAfter c.args.slice.now.checked.now.table c.args.encoder.now c.args.states.now
    c.put_row.new.encoder c.put_row.new.states) same puts
