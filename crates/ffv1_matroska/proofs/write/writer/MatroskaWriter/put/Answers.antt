-- Writes the next frame: its Cluster, and before the first one all that comes before the Clusters,
-- of a Segment of unknown size.
use Rattle.std.proofs.Common.{◌<◌, ◌+◌, ◌^◌, ◌∙◌, length, arith, rules, refl, sym}
use Rattle.std.proofs.lemmas.Bool.{ltb-false, ltb-true}
use Rattle.ffv1_reads.specs.Head.{head_of}
use Rattle.ffv1_matroska.proofs.Growing.{grows_by, keeping_more}
use Rattle.ffv1_matroska.proofs.WrittenLengths.{record_within, tracks_long}
use Rattle.ffv1_matroska.proofs.Pieces.{done_of, failed_of}
use Rattle.ffv1_matroska.proofs.write.writer.MatroskaWriter.put.Goals as goal

pub returns-then-is_too_far-clause-answer : goal.returns-then-is_too_far-clause-answer
returns-then-is_too_far-clause-answer g c = λ lives.
    let far = ltb-true _ _ (sym c.is_too_far.ensures ∙ c.if-is_too_far.true) in
    (rw (← c.self.view_is) far, refl, search rules, refl)

pub put_piece-requires-clause-record : goal.put_piece-requires-clause-record
put_piece-requires-clause-record g c = λ none.
    let near = ltb-false _ _ (sym c.is_too_far.ensures ∙ c.if-is_too_far.false) in
    let at = c.self.invariant.first none in
    let h = head_of c.self.inside.head in
    let long = tracks_long h c.self.inside.details in
    omega (arith, near, at, long, record_within c.self.inside.details.codec_id h)

pub put_piece-requires-clause-frame : goal.put_piece-requires-clause-frame
put_piece-requires-clause-frame g c =
    let near = ltb-false _ _ (sym c.is_too_far.ensures ∙ c.if-is_too_far.false) in
    omega (arith, near)

pub returns-then-is_err-clause-answer : goal.returns-then-is_err-clause-answer
returns-then-is_err-clause-answer g c = λ lives.
    let near = ltb-false _ _ (sym c.is_too_far.ensures ∙ c.if-is_too_far.false) in
    rw (← c.self.view_is) (
      near,
      failed_of _ _ _ _ _ _
          (sym c.is_err.ensures.value ∙ c.if-is_err.true) c.put_piece.ensures,
      refl,
    )

pub overflow_add-self-3 : goal.overflow_add-self-3
overflow_add-self-3 g c =
    let near = ltb-false _ _ (sym c.is_too_far.ensures ∙ c.if-is_too_far.false) in
    let fits : c.self.inside.at + (41 + length c.args.frame.now) < 2 ^ 64 = omega (arith, near) in
    search (rules, fits)

pub invariant_of-self-2 : goal.invariant_of-self-2
invariant_of-self-2 g c =
    let near = ltb-false _ _ (sym c.is_too_far.ensures ∙ c.if-is_too_far.false) in
    let inside = c.self.inside in
    let keeping = rw c.if-self.false at c.self.invariant in
    let kept = c.keep_place-self-inside.ensures in
    rw (c.if-self.false, kept.room) (keeping_more (head_of inside.head) inside.details inside.count
    inside.at inside.stride c.keep_place-self-inside.result _ _ (length c.args.frame.now)
    inside.places.items c.keep_place-self-inside.new.places.items keeping kept.kept
    (omega (arith, near)))

pub returns-clause-answer : goal.returns-clause-answer
returns-clause-answer g c = λ lives.
    let near = ltb-false _ _ (sym c.is_too_far.ensures ∙ c.if-is_too_far.false) in
    let inside = c.self.inside in
    let keeping = rw c.if-self.false at c.self.invariant in
    let kept = c.keep_place-self-inside.ensures in
    let grows = grows_by (head_of inside.head) inside.details c.args.frame.now inside.count
    inside.at
    inside.stride c.keep_place-self-inside.result _ _ inside.places.items
    c.keep_place-self-inside.new.places.items keeping kept.stride kept.items in
    rw (← c.self.view_is, c.if-self.false) (
      omega (arith, near),
      done_of _ _ _ _ _ _
          (sym c.is_err.ensures.value ∙ c.if-is_err.false) c.put_piece.ensures,
      grows,
    )
