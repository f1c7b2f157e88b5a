-- A frame's chunk.
use Rattle.std.proofs.Common.{List, ℕ, [], ◌∷◌, ◌++◌, length, codes, ◌∙◌}
use Rattle.std.proofs.lemmas.Result.{err_from_is_err_and}
use Rattle.ffv1_reads.specs.Bitmap.{number}
use Rattle.ffv1_avi.specs.Written.{padding, spelled}
use Rattle.ffv1_reads.proofs.Writing.{appends_then, stops_then, writes_stop, writes_then}
use Rattle.ffv1_avi.proofs.write.put_frame.Goals as goal

fields : List ℕ → List ℕ
fields frame = spelled (codes "00dc" ∷ number (length frame) ∷ [])

pub returns-in_err-put_fields : goal.returns-in_err-put_fields
unfolding fields
returns-in_err-put_fields g c =
    let p = err_from_is_err_and c.from_residual.result c.from_residual.ensures.1 in
    let frame = c.args.frame.now in
    rw (p.1, p.2) (writes_stop _ _ _ _ (fields frame ++ frame) (padding (length frame)) _
    (writes_stop _ _ _ _ (fields frame) frame _ c.in_err-put_fields.ensures))

pub returns-in_err-put : goal.returns-in_err-put
unfolding fields
returns-in_err-put g c =
    let p = err_from_is_err_and c.from_residual-in_err-put.result
    c.from_residual-in_err-put.ensures.1 in
    let frame = c.args.frame.now in
    let h = c.in_ok-put_fields.ensures in
    rw (p.1, p.2) (writes_stop _ _ _ _ (fields frame ++ frame) (padding (length frame)) _
    (stops_then _ _ _ _ _ _ (fields frame) frame _ h.0 h.1 c.in_err-put.ensures))

pub returns : goal.returns
unfolding fields
returns g c =
    let frame = c.args.frame.now in
    let h = c.in_ok-put_fields.ensures in
    let k = c.in_ok-put.ensures in
    writes_then _ _ _ _ _ _ (fields frame ++ frame) (padding (length frame)) c.put_padding.result
    (k.0 ∙ h.0) (appends_then _ _ _ (fields frame) frame h.1 k.1) c.put_padding.ensures
