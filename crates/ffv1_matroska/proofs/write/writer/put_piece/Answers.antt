-- Writes what a frame adds to the file.
use Rattle.std.proofs.Common.{◌∙◌, ◌++◌, None}
use Rattle.std.proofs.lemmas.Result.{err_from_is_err_and}
use Rattle.ffv1_reads.specs.Head.{head_of}
use Rattle.ffv1_reads.proofs.Writing.{appends_then, stops_then, writes_stop, writes_then}
use Rattle.ffv1_matroska.specs.Written.{cluster_element, opening, tracks_element}
use Rattle.ffv1_matroska.proofs.Pieces.{piece_first, piece_next}
use Rattle.ffv1_matroska.proofs.write.writer.put_piece.Goals as goal

pub returns-in_err-send : goal.returns-in_err-send
returns-in_err-send g c =
    let p = err_from_is_err_and c.from_residual.result c.from_residual.ensures.1 in
    let h = head_of c.args.head.now in
    let sh = c.args.details in
    let f = c.args.frame.now in
    let one = rw (c.as_slice.ensures, c.opening.ensures) at c.in_err-send.ensures in
    rw (p.1, p.2, piece_first h sh c.args.count f c.if-count-eq0.true)
    (writes_stop _ _ _ _ (opening h None ++ tracks_element h sh) (cluster_element 0 f) _
    (writes_stop _ _ _ _ (opening h None) (tracks_element h sh) _ one))

pub returns-in_err-put_tracks : goal.returns-in_err-put_tracks
returns-in_err-put_tracks g c =
    let p = err_from_is_err_and c.from_residual-in_err-put_tracks.result
    c.from_residual-in_err-put_tracks.ensures.1 in
    let h = head_of c.args.head.now in
    let sh = c.args.details in
    let f = c.args.frame.now in
    let one = rw (c.as_slice.ensures, c.opening.ensures) at c.in_ok-send.ensures in
    rw (p.1, p.2, piece_first h sh c.args.count f c.if-count-eq0.true)
    (writes_stop _ _ _ _ (opening h None ++ tracks_element h sh) (cluster_element 0 f) _
    (stops_then _ _ _ _ _ _ (opening h None) (tracks_element h sh) _ one.0 one.1
    c.in_err-put_tracks.ensures))

pub returns-then-count-eq0 : goal.returns-then-count-eq0
returns-then-count-eq0 g c =
    let h = head_of c.args.head.now in
    let sh = c.args.details in
    let f = c.args.frame.now in
    let one = rw (c.as_slice.ensures, c.opening.ensures) at c.in_ok-send.ensures in
    let two = c.in_ok-put_tracks.ensures in
    rw (piece_first h sh c.args.count f c.if-count-eq0.true)
    (writes_then _ _ _ _ _ _ (opening h None ++ tracks_element h sh) (cluster_element 0 f)
    c.put_cluster.result (two.0 ∙ one.0) (appends_then _ _ _ (opening h None)
    (tracks_element h sh) one.1 two.1) c.put_cluster.ensures)

pub returns : goal.returns
returns g c = rw (piece_next (head_of c.args.head.now) c.args.details c.args.count c.args.frame.now
    c.if-count-eq0.false) c.put_cluster-2.ensures
