-- Reads all pictures of a text that the profile reads, YUV4MPEG2 or, if its first byte is `P`,
-- binary PPM, and writes of them the lines that `framemd5` writes of a file that they are packed
-- into, so that the two compare by `diff`; of PPM where that is packed at 25 frames a second.
use Rattle.std.proofs.Common.{◌≡◌, ◌<◌, refl, arith, rules}
use Rattle.std.proofs.lemmas.Grind.{common_steps}
use Rattle.std.proofs.lemmas.Result.{err_from_is_err_and}
use Rattle.ffv1_pack.proofs.TextLines.{no_head, no_pictures, text_done, text_stops}
use Rattle.ffv1_pack.proofs.text_md5.framemd5_text.Goals as goal

pub returns-in_err-reader-clause-err : goal.returns-in_err-reader-clause-err
returns-in_err-reader-clause-err g c =
    let p = err_from_is_err_and c.from_residual.result c.from_residual.ensures.1 in
    rw (p.1, p.2) (no_head _ _ (g.W.ByteOut.contents c.args.output.now)
    (g.W.ByteOut.failures c.args.output.now) c.in_err-reader.field-0.0
    c.in_err-reader.ensures.err)

pub returns-in_err-count-clause-err : goal.returns-in_err-count-clause-err
returns-in_err-count-clause-err g c =
    let p = err_from_is_err_and c.from_residual-in_err-count.result
    c.from_residual-in_err-count.ensures.1 in
    rw (p.1, p.2) (text_stops _ _ _ c.in_ok-reader.ensures.ok _ _ refl refl c.in_err-count.field-0.0
    c.in_err-count.ensures.err)

pub returns-then-count-eq0-clause-err : goal.returns-then-count-eq0-clause-err
returns-then-count-eq0-clause-err g c =
    let none : c.in_ok-count.count ≡ 0 = search rules in
    no_pictures _ _ _ c.in_ok-reader.ensures.ok _ _ refl refl c.in_ok-count.count
    c.in_ok-count.ensures.ok none

pub returns-clause-ok : goal.returns-clause-ok
returns-clause-ok g c =
    let some : 0 < c.in_ok-count.count = grind (arith, common_steps, c.if-count-eq0.false) in
    text_done _ _ _ c.in_ok-reader.ensures.ok _ _ refl refl c.in_ok-count.count
    c.in_ok-count.ensures.ok c.text_is_read_as_its_pictures.ensures.only
    c.text_is_read_as_its_images.ensures.told c.in_ok-reader.ensures.head some
