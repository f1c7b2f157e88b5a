-- Codes all slices, one after the other.
use Rattle.std.proofs.Common.{◌≡◌, refl, ℕ, ◌*◌, ◌<◌, ◌≤◌, map, ◌∙◌, ap, arith}
use Rattle.std.proofs.lemmas.Result.{err_from_is_err_and}
use Rattle.std.specs.List.{range_with_len}
use Rattle.ffv1_line.specs.Length.{row_decisions}
use Rattle.ffv1_slice.specs.Grid.{slices_in}
use Rattle.ffv1_slice.specs.Cutting.{joined_of}
use Rattle.ffv1_frame.specs.declared.frame_counts.FrameCounts.{FrameCounts}
use Rattle.ffv1_frame.specs.declared.fault.CodecFault.TheVariants as fault
use Rattle.ffv1_frame.specs.Frame.{slice_bytes}
use Rattle.ffv1_frame.specs.Length.{slice_residuals, slice_renormalisations}
use Rattle.ffv1_encode.proofs.lemmas.frame.KeptScratch.{kept_at_first, kept_then}
use Rattle.ffv1_encode.proofs.lemmas.frame.Frames.{joined_next, sum_next, residuals_next, few_next, long_slice}
use Rattle.ffv1_encode.proofs.lemmas.frame.Frames.{no_long_slice, counts_are}
use Rattle.ffv1_encode.proofs.frame.put_slices.Given.{Over}
use Rattle.ffv1_encode.proofs.frame.put_slices.Goals.{After-slices-number-end}
use Rattle.ffv1_encode.proofs.frame.put_slices.Goals as goal

-- there are as many slices as columns and rows make
end : (g : Over) (c : After-slices-number-end g) → c.slices-number-end.result ≡
    c.args.checked.now.configuration.columns * c.args.checked.now.configuration.rows
end g c = c.slices-number-end.ensures.value ∙ ap slices_in c.of-grid.ensures.value

pub loop-number-init : goal.loop-number-init
loop-number-init g c = record {
  frame = c.requires.none;
  few = λ n inside. absurd (omega (arith, inside));
  decisions = refl;
  renormalisations = refl;
  decisions_few = omega arith;
  renormalisations_few = omega arith;
  room = omega arith;
  capacity = kept_at_first _;
  wide_alone = λ _. refl;
  narrow_alone = λ _. refl;
}

pub returns-in_err-counts-clause-err : goal.returns-in_err-counts-clause-err
returns-in_err-counts-clause-err g c =
    let p = err_from_is_err_and c.from_residual.result c.from_residual.ensures.1 in
    let inside : c.loop-number.number < c.args.checked.now.configuration.columns *
    c.args.checked.now.configuration.rows = omega (
      arith,
      end g
          (goal.at.returns-in_err-counts-clause-err g c).After-slices-number-end,
    ) in
    rw (p.1, p.2) (long_slice c.args.checked.now c.args.picture.now c.args.info c.loop-number.number
    c.in_err-counts.field-0.0 fault.OutOfMemory fault.SliceTooLong inside
    c.in_err-counts.ensures.err)

pub overflow_add-decisions : goal.overflow_add-decisions
overflow_add-decisions g c =
    let a = c.args.checked.now in
    let inside : c.loop-number.number < a.configuration.columns * a.configuration.rows =
    omega (arith, end g (goal.at.overflow_add-decisions g c).After-slices-number-end) in
    let few : c.loop-number.number ≤ 1024 = omega (arith, c.slices-number-end.ensures.few) in
    let small = c.slice_length_follows_from_residuals.ensures.few a c.args.picture.now c.args.info
    c.loop-number.number c.table-table.ensures.accepted inside in
    let decisions = ap (λ (k : FrameCounts). k.decisions) c.in_ok-counts.ensures.counts in
    omega (arith, few, small, decisions, c.loop-number.invariant.decisions_few)

pub overflow_add-renormalisations : goal.overflow_add-renormalisations
overflow_add-renormalisations g c =
    let inside : c.loop-number.number ≤ 1024 = omega (arith, c.slices-number-end.ensures.few) in
    omega (
      arith,
      inside,
      c.in_ok-counts.ensures.short,
      c.loop-number.invariant.renormalisations_few,
    )

pub loop-number-preserved : goal.loop-number-preserved
loop-number-preserved g c =
    let a = c.args.checked.now in
    let planes = c.args.picture.now in
    let n : ℕ = c.loop-number.number in
    let told = c.in_ok-counts.ensures in
    let decisions : c.in_ok-counts.counts.decisions ≡ row_decisions
    (slice_residuals a.configuration planes c.args.info n) =
    ap (λ (k : FrameCounts). k.decisions) told.counts in
    let inside : n < a.configuration.columns * a.configuration.rows =
    omega (arith, end g (goal.at.loop-number-preserved g c).After-slices-number-end) in
    let small = c.slice_length_follows_from_residuals.ensures.few a planes c.args.info n
    c.table-table.ensures.accepted inside in
    let renormalisations : c.in_ok-counts.counts.renormalisations ≡ slice_renormalisations a planes
    c.args.info n = ap (λ (k : FrameCounts). k.renormalisations) told.counts in
    record {
      frame = joined_next a.configuration.ec (slice_bytes a planes c.args.info) n
          c.loop-number.frame.items c.add_slice.new.frame.items c.loop-number.invariant.frame
          told.ok;
      few = few_next (slice_bytes a planes c.args.info) 16777215 n c.loop-number.invariant.few
          told.few;
      decisions = residuals_next (slice_residuals a.configuration planes c.args.info) n _ _
          c.loop-number.invariant.decisions decisions;
      renormalisations = sum_next (slice_renormalisations a planes c.args.info) n _ _
          c.loop-number.invariant.renormalisations renormalisations;
      decisions_few = omega (arith, c.loop-number.invariant.decisions_few, decisions, small);
      renormalisations_few = omega (
        arith,
        c.loop-number.invariant.renormalisations_few,
        told.short,
      );
      room = omega (arith, c.loop-number.invariant.room, c.add_slice.ensures.room);
      capacity = kept_then c.loop-number.invariant.capacity c.add_slice.ensures.capacity;
      wide_alone = λ bits. c.add_slice.ensures.wide_alone bits
          ∙ c.loop-number.invariant.wide_alone bits;
      narrow_alone = λ bits. c.add_slice.ensures.narrow_alone bits
          ∙ c.loop-number.invariant.narrow_alone bits;
    }

pub returns-clause-ok : goal.returns-clause-ok
returns-clause-ok g c =
    let a = c.args.checked.now in
    let all : c.loop-number.number ≡ a.configuration.columns * a.configuration.rows =
    omega (arith, end g (goal.at.returns-clause-ok g c).After-slices-number-end) in
    c.loop-number.invariant.frame ∙ ap (λ n. joined_of a.configuration.ec
    (map (slice_bytes a c.args.picture.now c.args.info) (range_with_len 0 n))) all

pub returns-clause-few : goal.returns-clause-few
returns-clause-few g c =
    let a = c.args.checked.now in
    let all : c.loop-number.number ≡ a.configuration.columns * a.configuration.rows =
    omega (arith, end g (goal.at.returns-clause-few g c).After-slices-number-end) in
    no_long_slice a c.args.picture.now c.args.info
    (λ n inside. c.loop-number.invariant.few n (omega (arith, inside, all)))

pub returns-clause-counts : goal.returns-clause-counts
returns-clause-counts g c =
    let a = c.args.checked.now in
    let all : c.loop-number.number ≡ a.configuration.columns * a.configuration.rows =
    omega (arith, end g (goal.at.returns-clause-counts g c).After-slices-number-end) in
    counts_are a c.args.picture.now c.args.info c.loop-number.number c.loop-number.decisions
    c.loop-number.renormalisations all c.loop-number.invariant.decisions
    c.loop-number.invariant.renormalisations
