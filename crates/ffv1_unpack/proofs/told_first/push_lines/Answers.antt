-- Appends the lines of faults that are told.
use Rattle.std.proofs.Common.{◌≡◌, ◌<◌, ◌+◌, ◌++◌, ◌∙◌, suc, take, get_or, length, None, ap, sym, append_assoc, arith}
use Rattle.std.proofs.Math.Seq.{take-suc}
use Rattle.ffv1_reads.specs.declared.fault.FileFault.TheVariants as fault
use Rattle.ffv1_matroska.specs.declared.told.ToldFault.{ToldFault}
use Rattle.ffv1_unpack.specs.JudgedItems.{told_line}
use Rattle.ffv1_unpack.specs.ToldItems.{told_lines}
use Rattle.ffv1_unpack.proofs.ToldFirst.{lines_next}
use Rattle.ffv1_unpack.proofs.told_first.push_lines.Goals as goal

pub loop-told-preserved : goal.loop-told-preserved
loop-told-preserved g c =
    let ts = c.args.faults.now in
    let i = c.loop-told.told-index in
    let start = c.args.start in
    let none : ToldFault = record { fault = fault.OutOfMemory; position = None } in
    let t = get_or ts i none in
    let inside : i < length ts = omega (arith, c.loop-told-test.true) in
    let next : i + 1 ≡ suc i = omega arith in
    let line = told_line c.told_offset.result t.fault in
    rw next (c.in_ok-push_told.ensures ∙ ap (λ z. z ++ line) c.loop-told.invariant
    ∙ append_assoc c.args.text.now.items (told_lines start (take i ts)) line
    ∙ ap (λ z. c.args.text.now.items ++ (told_lines start (take i ts) ++ told_line z t.fault)) c.told_offset.ensures
    ∙ ap (λ z. c.args.text.now.items ++ z) (sym (lines_next start ts i t inside (take-suc ts i none inside))))
