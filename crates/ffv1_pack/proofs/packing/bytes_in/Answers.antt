-- How many bytes frames have.
use Rattle.std.proofs.Common.{arith, ◌∙◌, ◌≡◌, ◌+◌, length, sym, ap, suc, take}
use Rattle.ffv1_avi.specs.Written.{frames_of}
use Rattle.ffv1_pack.specs.Packing.{bytes_in}
use Rattle.ffv1_pack.proofs.FrameBytes.{bytes_more, bytes_most}
use Rattle.ffv1_pack.proofs.packing.bytes_in.Goals as goal

pub overflow_add-bytes : goal.overflow_add-bytes
overflow_add-bytes g c =
    let more = bytes_more c.args.frames.now c.loop-frame.frame c.index-frames-frame.result
    c.loop-frame-test.true c.index-frames-frame.is in
    let most = bytes_most (frames_of c.args.frames.now) (suc c.loop-frame.frame) in
    let few = c.requires in
    let so_far = c.loop-frame.invariant in
    let samples = ap (λ z. length z) c.as_slice.ensures.value in
    omega (arith, more, most, few, so_far, samples)

pub loop-frame-preserved : goal.loop-frame-preserved
loop-frame-preserved g c =
    let more = bytes_more c.args.frames.now c.loop-frame.frame c.index-frames-frame.result
    c.loop-frame-test.true c.index-frames-frame.is in
    let so_far = c.loop-frame.invariant in
    let next : suc c.loop-frame.frame ≡ c.loop-frame.frame + 1 = omega (arith) in
    rw (so_far, c.as_slice.ensures.value) (sym more ∙
    ap (λ n. bytes_in (take n (frames_of c.args.frames.now))) next)
