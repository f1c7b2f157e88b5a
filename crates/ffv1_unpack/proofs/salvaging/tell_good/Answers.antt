-- Counts a frame that is decoded, after its line if it says something else than the header.
use Rattle.std.proofs.Common.{◌≡◌, true, Err, sym, subst, ◌∙◌}
use Rattle.std.proofs.lemmas.Result.{err_from_is_err_and}
use Rattle.ffv1_wire.specs.Passage.{passage}
use Rattle.ffv1_unpack.specs.Internal.Told.{WritesFrame}
use Rattle.ffv1_unpack.specs.Salvaged.{changed_text, differs}
use Rattle.ffv1_unpack.proofs.salvaging.tell_good.Goals as goal

pub returns-in_err-write_changed-clause-told : goal.returns-in_err-write_changed-clause-told
returns-in_err-write_changed-clause-told g c =
    let p = err_from_is_err_and c.from_residual.result c.from_residual.ensures.1 in
    let changed : differs c.args.salvage.now.ppm c.args.salvage.now.header c.args.info ≡ true =
    sym c.differs.ensures ∙ c.if-differs.true in
    let written = passage g.L.ByteOut.contents g.L.ByteOut.failures c.args.lines.now
    c.write_changed.new.output in
    rw (p.1, p.2)
    (subst (λ b. WritesFrame (changed_text c.args.salvage.now.counts.frames b) written
    (Err c.in_err-write_changed.field-0.0)) (sym changed) c.in_err-write_changed.ensures)
