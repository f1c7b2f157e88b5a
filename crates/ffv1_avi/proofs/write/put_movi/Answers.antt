-- The list movi of a given size, and the frames.
use Rattle.std.proofs.Common.{◌≡◌, ℕ, List, ◌+◌, ◌≤◌, ◌∙◌, sym, length, get_or, flat_map, arith}
use Rattle.std.proofs.lemmas.Result.{err_from_is_err_and}
use Rattle.std.proofs.lemmas.List.{take_all}
use Rattle.std.proofs.lemmas.List.Folds.{flat_map-map}
use Rattle.std.specs.declared.vec.Vec.{Vec}
use Rattle.std.proofs.lemmas.Grind.{common_steps}
use Rattle.ffv1_avi.specs.Written.{frame_chunk, frames_of, movi, spelled}
use Rattle.ffv1_avi.proofs.Sizes.{movi_more, movi_part}
use Rattle.ffv1_reads.proofs.Writing.{appends_then, pieces_stop, stops_then, writes_stop}
use Rattle.ffv1_avi.proofs.write.put_movi.Goals as goal

abbrev chunk_of : {A : Type 0} → Vec ℕ A → List ℕ
chunk_of v = frame_chunk v.items

all_chunks : {A : Type 0} (frames : List (Vec ℕ A)) → flat_map chunk_of frames ≡ flat_map
    frame_chunk (frames_of frames)
all_chunks frames = sym (flat_map-map frame_chunk (λ v. v.items) frames)

pub returns-in_err-put_fields : goal.returns-in_err-put_fields
returns-in_err-put_fields g c =
    let p = err_from_is_err_and c.from_residual.result c.from_residual.ensures.1 in
    rw (p.1, p.2) (writes_stop _ _ _ _ (spelled (movi c.args.size))
    (flat_map frame_chunk (frames_of c.args.frames.now)) _ c.in_err-put_fields.ensures)

pub put_frame-requires : goal.put_frame-requires
put_frame-requires g c =
    let i = c.loop-frame.frame-index in
    let more = movi_more c.args.frames.now i c.frame-item.result c.loop-frame-test.true in
    let part = movi_part c.args.frames.now (i + 1) in
    let short : length (get_or c.args.frames.now i c.frame-item.result).items ≤ 2147483647 =
    omega (arith, more, part, c.requires) in
    let is : length c.frame-item.result.items ≤ 2147483647 = rw c.frame-item.is short in
    rw c.deref.ensures.value (omega (arith, is))

pub returns-in_err-put_frame : goal.returns-in_err-put_frame
returns-in_err-put_frame g c =
    let p = err_from_is_err_and c.from_residual-in_err-put_frame.result
    c.from_residual-in_err-put_frame.ensures.1 in
    let h = c.in_ok-put_fields.ensures in
    let inv = c.loop-frame.invariant in
    let k = rw (c.deref.ensures.value, c.frame-item.is) at c.in_err-put_frame.ensures in
    let all = pieces_stop chunk_of c.args.frames.now c.loop-frame.frame-index c.frame-item.result _
    _ _ _ _ _ c.in_err-put_frame.field-0.0 c.loop-frame-test.true inv.0 inv.1 k in
    rw (p.1, p.2) (stops_then _ _ _ _ _ _ (spelled (movi c.args.size))
    (flat_map frame_chunk (frames_of c.args.frames.now)) _ h.0 h.1
    (rw (all_chunks c.args.frames.now) at all))

pub returns : goal.returns
returns g c =
    let h = c.in_ok-put_fields.ensures in
    let inv = c.loop-frame.invariant in
    let far : length c.args.frames.now ≤ c.loop-frame.frame-index =
    omega (arith, c.loop-frame-test.false) in
    let all = rw (
      take_all c.loop-frame.frame-index c.args.frames.now far,
      all_chunks
          c.args.frames.now,
    ) at inv.1 in (
      inv.0 ∙ h.0,
      appends_then _ _ _ (spelled (movi c.args.size))
          (flat_map frame_chunk (frames_of c.args.frames.now)) h.1 all,
    )

pub loop-frame-init : goal.loop-frame-init
loop-frame-init g c = grind (arith, common_steps)

pub loop-frame-preserved : goal.loop-frame-preserved
loop-frame-preserved g c = grind (arith, common_steps)
