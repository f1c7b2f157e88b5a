-- Writes Tracks.
use Rattle.std.proofs.Common.{◌++◌, ◌∷◌, [], ℕ, List, take}
use Rattle.std.proofs.lemmas.Result.{err_from_is_err_and}
use Rattle.ffv1_reads.proofs.Writing.{stops_then, writes_stop, writes_then}
use Rattle.ffv1_matroska.proofs.write.tracks.put_tracks.Goals as goal

pub returns-in_err-send : goal.returns-in_err-send
returns-in_err-send g c =
    let p = err_from_is_err_and c.from_residual.result c.from_residual.ensures.1 in
    let r = c.args.head.now.config_record.items in
    let z : List ℕ = take c.padding.result (0 ∷ []) in
    let one = rw c.as_slice.ensures at c.in_err-send.ensures in
    rw (p.1, p.2, ← c.tracks_front.ensures)
    (writes_stop _ _ _ _ c.tracks_front.result (r ++ z) _ one)

pub returns-in_err-send-2 : goal.returns-in_err-send-2
returns-in_err-send-2 g c =
    let p = err_from_is_err_and c.from_residual-in_err-send-2.result
    c.from_residual-in_err-send-2.ensures.1 in
    let r = c.args.head.now.config_record.items in
    let z : List ℕ = take c.padding.result (0 ∷ []) in
    let one = rw c.as_slice.ensures at c.in_ok-send.ensures in
    let two = rw c.as_slice-2.ensures.value at c.in_err-send-2.ensures in
    rw (p.1, p.2, ← c.tracks_front.ensures)
    (stops_then _ _ _ _ _ _ c.tracks_front.result (r ++ z) _ one.0 one.1
    (writes_stop _ _ _ _ r z _ two))

pub returns : goal.returns
returns g c =
    let r = c.args.head.now.config_record.items in
    let z : List ℕ = take c.padding.result (0 ∷ []) in
    let one = rw c.as_slice.ensures at c.in_ok-send.ensures in
    let two = rw c.as_slice-2.ensures.value at c.in_ok-send-2.ensures in
    rw (← c.tracks_front.ensures)
    (writes_then _ _ _ _ _ _ c.tracks_front.result (r ++ z) c.send-3.result one.0 one.1
    (writes_then _ _ _ _ _ _ r z c.send-3.result two.0 two.1 c.send-3.ensures))
