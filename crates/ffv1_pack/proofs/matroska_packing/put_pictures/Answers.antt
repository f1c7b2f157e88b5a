-- Encodes all pictures, and writes the Cluster of each at once.
use Rattle.std.proofs.lemmas.Result.{err_from_is_err_and}
use Rattle.std.proofs.Common.{refl, ◌∙◌, ◌+◌, ◌<◌, ◌≤◌, ℕ, List, ap, arith, subst, sym, [], ◌∷◌}
use Rattle.std.proofs.Common.{◌++◌, length, Ok, Err}
use Rattle.ffv1_wire.specs.Passage.{passage}
use Rattle.ffv1_pack.specs.Packing.{most_frame}
use Rattle.ffv1_matroska.specs.Writers.{Puts, Writing}
use Rattle.ffv1_pack.specs.Internal.Clusters.{PutAll}
use Rattle.ffv1_pack.specs.declared.matroska_packing.Put.{Put}
use Rattle.ffv1_pack.specs.Internal.VideoReads.{reading_of}
use Rattle.ffv1_pack.proofs.ClustersPut.{encode_stops, encoded_more_is, put_long}
use Rattle.ffv1_pack.proofs.ClustersPut.{put_more, put_none, put_stops, puts_all}
use Rattle.ffv1_pack.proofs.PicturesSoFar.{encoded_none}
use Rattle.ffv1_pack.proofs.matroska_packing.put_pictures.Goals as goal

pub loop-planes-init : goal.loop-planes-init
loop-planes-init g c = (
  [],
  encoded_none (g.R.ByteIn.remaining c.args.input.now) (g.R.ByteIn.failures c.args.input.now)
      c.args.encoder.now.accepted (reading_of c.args.reader.now) c.requires.working
      c.requires.begun,
  refl,
  put_none c.args.encoder.now.accepted.profile c.args.writer.now (g.W.ByteOut.contents c.args.output.now)
      (g.W.ByteOut.failures c.args.output.now) c.requires.fresh,
  omega arith,
)

pub returns-in_err-frame-clause-err : goal.returns-in_err-frame-clause-err
returns-in_err-frame-clause-err g c =
    let p = err_from_is_err_and c.from_residual.result c.from_residual.ensures.1 in
    let i = c.loop-planes.invariant in
    rw (p.1, p.2) (encode_stops _ _ _ _ _ _ _ _ _ i.1 i.3 _ refl refl c.in_err-frame.field-0.0
    (rw i.2 at c.in_err-frame.ensures.err))

pub returns-then-size-most-clause-err : goal.returns-then-size-most-clause-err
returns-then-size-most-clause-err g c =
    let i = c.loop-planes.invariant in
    let one = rw i.2 at (rw c.in-Some.is at c.in_ok-frame.ensures.ok) in
    let same = c.most_frame-most.ensures ∙
    ap most_frame (c.profile.ensures.value ∙ ap (λ a. a.profile) c.config.ensures) in
    put_long _ _ _ _ _ _ _ _ _ i.1 i.3 _ refl refl _ c.in-Some.frame.items one
    (subst (λ n. n < length c.in-Some.frame.items) same
    (subst (λ (b : List ℕ). c.most_frame-most.result < length b) c.as_slice-size.ensures.value
    c.if-size-most.true))

pub returns-in_err-put-clause-err : goal.returns-in_err-put-clause-err
returns-in_err-put-clause-err g c =
    let p = err_from_is_err_and c.from_residual-in_err-put.result
    c.from_residual-in_err-put.ensures.1 in
    let i = c.loop-planes.invariant in
    let one = rw i.2 at (rw c.in-Some.is at c.in_ok-frame.ensures.ok) in
    let out = passage g.W.ByteOut.contents g.W.ByteOut.failures c.loop-planes.output
    c.put.new.out in
    let same = c.most_frame-most.ensures ∙
    ap most_frame (c.profile.ensures.value ∙ ap (λ a. a.profile) c.config.ensures) in
    let few = subst (λ n. length c.in-Some.frame.items ≤ n) same
    (subst (λ (b : List ℕ). length b ≤ c.most_frame-most.result) c.as_slice-size.ensures.value
    c.if-size-most.false) in
    let puts = subst (λ b. Puts out c.loop-planes.writer b c.put.new.self
    (Err c.in_err-put.field-0.0)) c.as_slice.ensures.value
    (c.in_err-put.ensures.answer (ap (λ (x : Writing). x.failed) i.3.is)) in
    rw (p.1, p.2) (put_stops _ _ _ _ _ _ _ _ _ i.1 i.3 _ refl refl _ c.in-Some.frame.items one
    c.writes_make_up_the_file.ensures.more c.put.new.self out refl refl few
    c.in_err-put.field-0.0 puts)

pub loop-planes-preserved : goal.loop-planes-preserved
loop-planes-preserved g c =
    let i = c.loop-planes.invariant in
    let one = rw i.2 at (rw c.in-Some.is at c.in_ok-frame.ensures.ok) in
    let out = passage g.W.ByteOut.contents g.W.ByteOut.failures c.loop-planes.output
    c.put.new.out in
    let same = c.most_frame-most.ensures ∙
    ap most_frame (c.profile.ensures.value ∙ ap (λ a. a.profile) c.config.ensures) in
    let few = subst (λ n. length c.in-Some.frame.items ≤ n) same
    (subst (λ (b : List ℕ). length b ≤ c.most_frame-most.result) c.as_slice-size.ensures.value
    c.if-size-most.false) in
    let puts = subst (λ b. Puts out c.loop-planes.writer b c.put.new.self (Ok tt))
    c.as_slice.ensures.value (c.in_ok-put.ensures.answer
    (ap (λ (x : Writing). x.failed) i.3.is)) in
    let ends = puts.2.ends in
    let counted = c.as_slice-size.ensures.value in
    let long = ap (λ b. length b) counted in
    let packed : ℕ → Put = λ n. record {
      frames = c.loop-planes.packed.frames + 1;
      bytes =
          c.loop-planes.packed.bytes + n;
    } in
    let all = passage g.W.ByteOut.contents g.W.ByteOut.failures c.args.output.now c.put.new.out in (
      i.0 ++ (c.in-Some.frame.items ∷ []),
      encoded_more_is _ _ _ _ _ _ _ _ _ i.1 i.3 _ refl refl _ c.in-Some.frame.items one,
      c.in_ok-frame.ensures.same ∙ i.2,
      subst (λ b. PutAll c.args.encoder.now.accepted.profile c.args.writer.now c.put.new.self (i.0 ++ (c.in-Some.frame.items ∷ [])) all
          (packed (length b))) (sym counted)
          (put_more c.writes_make_up_the_file.ensures.more _ _ _ _ _ c.in-Some.frame.items _ out _ i.3
          refl refl few puts),
      omega (arith, ends, long, i.4),
    )

pub returns-clause-ok : goal.returns-clause-ok
returns-clause-ok g c =
    let i = c.loop-planes.invariant in
    puts_all _ _ _ _ _ _ _ _ _ i.1 i.3 _ refl refl _
    (rw c.in_default.is at c.in_ok-frame.ensures.ok)
