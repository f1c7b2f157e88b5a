-- The samples of a coded line, any, unchanged: each as two bytes, the low byte first.
use Rattle.std.proofs.Common.{◌≡◌, refl, subst, ◌<◌, ◌^◌, length, slice_index, arith, below_more}
use Rattle.ffv1_rct.proofs.WordLines.{AreBytesOf, bytes_more, bytes_all, kept_put}
use Rattle.ffv1_rct.proofs.wide.narrow_wide.Goals as goal

pub loop-x-preserved : goal.loop-x-preserved
loop-x-preserved c =
    let old = c.loop-x.invariant in
    let a = c.args.a.now in
    let here : slice_index a c.loop-x.x < 2 ^ 16 = c.if-a-x-ge65536.false in
    record {
      bytes = bytes_more 16 c.loop-x.x (slice_index a c.loop-x.x) c.loop-x.out _ a
          c.put_word.ensures (omega arith) (omega (
            arith,
            c.loop-x.auto.out,
            c.requires,
            c.loop-x-test.true,
          )) refl old.bytes;
      before = below_more (λ k. slice_index a k < 2 ^ 16) c.loop-x.x old.before here;
      kept = kept_put c.args.out.now c.loop-x.out _ c.loop-x.x _ c.put_word.ensures old.kept;
    }

pub returns-clause-ok : goal.returns-clause-ok
returns-clause-ok c =
    let all : c.loop-x.x ≡ length c.args.a.now =
    omega (arith, c.loop-x.auto.x-end, c.loop-x-test.false) in
    bytes_all 16 c.loop-x.out c.args.a.now (omega arith)
    (omega (arith, c.loop-x.auto.out, c.requires))
    (subst (λ n. AreBytesOf 16 n c.loop-x.out c.args.a.now) all c.loop-x.invariant.bytes)
