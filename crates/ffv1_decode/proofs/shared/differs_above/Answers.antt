-- The first sample of a segment that is not what is kept of its line, if that is.
use Rattle.std.proofs.Common.{◌≡◌, ◌+◌, ◌-◌, ◌*◌, ◌<◌, inl, inr, ap, sym, ◌∙◌, length}
use Rattle.std.proofs.Common.{slice_index, arith}
use Rattle.std.proofs.lemmas.Bool.{cases_lt}
use Rattle.ffv1_record.specs.Configuration.{Configuration}
use Rattle.ffv1_frame.specs.Decoding.{left_of}
use Rattle.ffv1_decode.proofs.shared.differs_above.Given.{Over}
use Rattle.ffv1_decode.proofs.shared.differs_above.Goals.{After-read}
use Rattle.ffv1_decode.proofs.shared.differs_above.Goals as goal

-- where the segment begins in what is kept
first_is : (g : Over) (c : After-read g) → c.extent-left.result.0 -
    c.args.segment.now.index * c.config.result.now.width ≡ left_of
    c.args.frame.now.checked.now.configuration c.args.segment.now.plane
    c.args.segment.now.column
first_is g c =
    let wide : c.args.segment.now.index * c.config.result.now.width ≡
    c.args.segment.now.index * c.args.frame.now.checked.now.configuration.width =
    ap (λ (z : Configuration). c.args.segment.now.index * z.width) (sym c.config.ensures.value) in
    omega (arith, wide, c.extent-left.ensures.left)

pub read-requires-in-loop-x : goal.read-requires-in-loop-x
read-requires-in-loop-x g c =
    let first = first_is g (goal.at.read-requires-in-loop-x g c).After-read in
    let are = c.slices_lie_beside_one_another.ensures.across
    c.args.frame.now.checked.now.configuration c.args.frame.now.checked.now.table
    c.args.segment.now.plane c.requires.frame.accepted in
    let some : 0 < length c.args.kept.now = omega (arith, c.if-kept-eq0.false) in
    omega (
      arith,
      first,
      c.requires.kept_long some,
      are.ends c.args.segment.now.column c.requires.column,
      c.extent-left.ensures.right,
      c.loop-x-test.true,
    )

pub loop-x-preserved : goal.loop-x-preserved
loop-x-preserved g c = λ i less. elim (cases_lt i c.loop-x.x) [
  | inl before ↦ c.loop-x.invariant i before
  | inr from ↦
      let cur = g.W.Word.samples c.args.cur.now in
      let kept = g.W.Word.samples c.args.kept.now in
      let conf = c.args.frame.now.checked.now.configuration in
      let offset = c.args.segment.now.index * conf.width in
      let left = left_of conf c.args.segment.now.plane c.args.segment.now.column in
      let first = first_is g (goal.at.loop-x-preserved g c).After-read in
      let here : offset + left + i ≡ c.extent-left.result.0 + c.loop-x.x =
      omega (arith, less, from, c.extent-left.ensures.left) in
      let there : c.extent-left.result.0
      - c.args.segment.now.index * c.config.result.now.width + c.loop-x.x ≡ left + i =
      omega (arith, less, from, first) in
      ap (slice_index cur) here ∙ sym c.read.ensures ∙ c.if-read.false
      ∙ c.read-in-loop-x.ensures ∙ ap (slice_index kept) there
]

pub returns-then-read-clause-some : goal.returns-then-read-clause-some
returns-then-read-clause-some g c =
    let cur = g.W.Word.samples c.args.cur.now in
    let kept = g.W.Word.samples c.args.kept.now in
    let conf = c.args.frame.now.checked.now.configuration in
    let offset = c.args.segment.now.index * conf.width in
    let left = left_of conf c.args.segment.now.plane c.args.segment.now.column in
    let first = first_is g (goal.at.returns-then-read-clause-some g c).After-read in
    let here : offset + left + c.loop-x.x ≡ c.extent-left.result.0 + c.loop-x.x =
    omega (arith, c.extent-left.ensures.left) in
    let there : c.extent-left.result.0
    - c.args.segment.now.index * c.config.result.now.width + c.loop-x.x ≡ left + c.loop-x.x =
    omega (arith, first) in (
      omega (arith, c.if-kept-eq0.false),
      record {
        inside = omega (arith, c.extent-left.ensures.right, c.loop-x-test.true);
        other = λ same. c.if-read.true
            (c.read.ensures ∙ sym (ap (slice_index cur) here) ∙ same
            ∙ sym (ap (slice_index kept) there) ∙ sym c.read-in-loop-x.ensures);
        before = c.loop-x.invariant;
      },
    )
