-- Reads a segment into its place of a line, and looks at how far its slice was read, at what the
-- slice to the left says, and at its end.
use Rattle.std.proofs.Common.{◌≡◌, ◌≢◌, ◌+◌, ◌*◌, ◌<◌, ◌≤◌, [], ◌∷◌, refl, ap, subst, sym, ◌∙◌}
use Rattle.std.proofs.Common.{slice_index, slice_index_or, arith, ℕ, List, inl, inr, length}
use Rattle.std.proofs.lemmas.List.{get_or_default}
use Rattle.std.proofs.lemmas.Result.{err_from_is_err_and}
use Rattle.ffv1_slice.specs.Grid.{division_of, across, shared_of}
use Rattle.ffv1_frame.specs.declared.fault.FrameFault.{FrameFault}
use Rattle.ffv1_frame.specs.Order.Event.{Read}
use Rattle.ffv1_frame.specs.Decoding.{State, Agrees, fault_in, left_of, width_in, left_sample}
use Rattle.ffv1_frame.specs.Decoding.{above_sample}
use Rattle.ffv1_record.specs.Configuration.{Configuration}
use Rattle.ffv1_decode.specs.Internal.Places.{AreParts}
use Rattle.ffv1_decode.specs.Internal.Shared.{StandsKept}
use Rattle.ffv1_decode.specs.Internal.Tied.{SegmentMade, Stopped, TiedLine, column_at, no_column}
use Rattle.ffv1_decode.specs.Internal.Tied.{TiedKept, overlap_in, part_of, rolling_lines}
use Rattle.ffv1_decode.proofs.lemmas.segment.SegmentLooked.{step_looked, stop_looked, unended_looked}
use Rattle.ffv1_decode.proofs.lemmas.segment.SegmentLooked.{differs_looked}
use Rattle.ffv1_decode.proofs.lemmas.shared.SharedColumns.{agrees_upto, differs_above, differs_left}
use Rattle.ffv1_decode.proofs.segment.read_at.Given.{Over}
use Rattle.ffv1_decode.proofs.segment.read_at.Goals.{After-index-columns-segment}
use Rattle.ffv1_decode.proofs.segment.read_at.Goals as goal

-- the column that was read
module _ (g : Over) (c : After-index-columns-segment g) where
  long : length c.read_on.new.columns ≡ c.args.frame.now.checked.now.configuration.columns
  long = c.read_on.auto.columns ∙ c.requires.row.many

  few : c.args.segment.now.column < length c.read_on.new.columns
  few = omega (arith, c.requires.segment.column, long)

  column_is : slice_index_or c.read_on.new.columns c.args.segment.now.column
      c.index-columns-segment.result ≡ column_at c.read_on.new.columns c.args.segment.now.column
  column_is = get_or_default c.read_on.new.columns c.args.segment.now.column
      c.index-columns-segment.result no_column few

  -- the row agrees as far as in its line there stands what slices before say
  module _ (s : State) (row : List ℕ) (line : TiedLine c.args.frame.now.checked.now.configuration
      c.args.segment.now.plane
      (c.args.segment.now.index * c.args.frame.now.checked.now.configuration.width)
      c.args.segment.now.column c.args.segment.now.y
      (rolling_lines (g.W.Word.samples c.args.above.now.two.now)
      (g.W.Word.samples c.args.above.now.one.now) (g.W.Word.samples c.args.cur.now)) s)
      (row_is : part_of c.args.frame.now.checked.now.configuration c.args.segment.now.plane
      (c.args.segment.now.index * c.args.frame.now.checked.now.configuration.width)
      c.args.segment.now.column (g.W.Word.samples c.read_on.new.cur) ≡ row)
      (kept : TiedKept c.args.frame.now.checked.now.configuration c.args.segment.now.row
      c.args.segment.now.plane c.args.segment.now.y
      (g.W.Word.samples c.args.above.now.kept.now) s) where
    abbrev conf : Configuration
    conf = c.args.frame.now.checked.now.configuration

    sides : AreParts (across (division_of conf) c.args.segment.now.plane)
    sides = c.slices_lie_beside_one_another.ensures.across conf c.args.frame.now.checked.now.table
        c.args.segment.now.plane c.requires.row.frame.accepted

    agrees : (count : ℕ) → count ≤ width_in conf c.args.segment.now.plane
        c.args.segment.now.column → (0 < shared_of (across (division_of conf)
        c.args.segment.now.plane) c.args.segment.now.column →
        slice_index (g.W.Word.samples c.read_on.new.cur)
        (c.args.segment.now.index * conf.width
        + left_of conf c.args.segment.now.plane c.args.segment.now.column) ≡
        c.said_left-said.result) →
        (0 < length c.args.above.now.kept.now → (x : ℕ) → x < count → StandsKept conf
        c.args.segment.now.plane c.args.segment.now.column
        (c.args.segment.now.index * conf.width) (g.W.Word.samples c.args.above.now.kept.now)
        (g.W.Word.samples c.read_on.new.cur) x) →
        Agrees conf s c.args.segment.now.row c.args.segment.now.column c.args.segment.now.plane
        c.args.segment.now.y count row
    agrees count few same stands =
        let segment = c.args.segment.now in
        agrees_upto conf segment.row segment.column segment.plane (segment.index * conf.width)
        segment.y (g.W.Word.samples c.args.above.now.two.now)
        (g.W.Word.samples c.args.above.now.one.now) (g.W.Word.samples c.args.cur.now)
        (g.W.Word.samples c.read_on.new.cur) row s sides c.requires.segment.column line row_is
        (length c.args.above.now.kept.now) (g.W.Word.samples c.args.above.now.kept.now)
        c.requires.kept kept count few (λ some. same some ∙ c.said_left-said.ensures.value some)
        stands

pub returns-in_err-read_on-clause-exact : goal.returns-in_err-read_on-clause-exact
returns-in_err-read_on-clause-exact g c = λ coded next s less tied line kept.
    let p = err_from_is_err_and c.from_residual.result c.from_residual.ensures.1 in
    rw (p.1, p.2) (c.in_err-read_on.ensures.exact coded next s less tied line)

pub is_overread-requires-clause-rises : goal.is_overread-requires-clause-rises
is_overread-requires-clause-rises g c =
    let k = c.args.segment.now.column in
    let here = (goal.at.is_overread-requires-clause-rises g c).After-index-columns-segment in
    rw (column_is g here) ((c.in_ok-read_on.ensures.row.opened k (few g here)).rises)

pub is_overread-requires-clause-inside : goal.is_overread-requires-clause-inside
is_overread-requires-clause-inside g c =
    let k = c.args.segment.now.column in
    let here = (goal.at.is_overread-requires-clause-inside g c).After-index-columns-segment in
    rw (column_is g here) ((c.in_ok-read_on.ensures.row.opened k (few g here)).inside)

pub fault_at-requires-clause-x : goal.fault_at-requires-clause-x
fault_at-requires-clause-x g c =
    let sides = c.slices_lie_beside_one_another.ensures.across
    c.args.frame.now.checked.now.configuration c.args.frame.now.checked.now.table
    c.args.segment.now.plane c.requires.row.frame.accepted in
    let some = sides.some c.args.segment.now.column c.requires.segment.column in
    elim c.in-Some.ensures.some [
      | inl left ↦ omega (arith, left.0, some)
      | inr above ↦ above.1.inside
    ]

pub lacks_ending-requires-clause-rises : goal.lacks_ending-requires-clause-rises
lacks_ending-requires-clause-rises g c =
    let k = c.args.segment.now.column in
    let here = (goal.at.lacks_ending-requires-clause-rises g c).After-index-columns-segment in
    rw (column_is g here) ((c.in_ok-read_on.ensures.row.opened k (few g here)).rises)

pub lacks_ending-requires-clause-inside : goal.lacks_ending-requires-clause-inside
lacks_ending-requires-clause-inside g c =
    let k = c.args.segment.now.column in
    let here = (goal.at.lacks_ending-requires-clause-inside g c).After-index-columns-segment in
    rw (column_is g here) ((c.in_ok-read_on.ensures.row.opened k (few g here)).inside)

pub lacks_ending-requires-clause-left : goal.lacks_ending-requires-clause-left
lacks_ending-requires-clause-left g c =
    let k = c.args.segment.now.column in
    let here = (goal.at.lacks_ending-requires-clause-left g c).After-index-columns-segment in
    rw (column_is g here) ((c.in_ok-read_on.ensures.row.opened k (few g here)).left)

pub returns-then-is_overread-clause-exact : goal.returns-then-is_overread-clause-exact
returns-then-is_overread-clause-exact g c = λ coded next s less tied line kept.
    let a = c.args.frame.now.checked.now in
    let segment = c.args.segment.now in
    let k = segment.column in
    let columns = c.read_on.new.columns in
    let here = (goal.at.returns-then-is_overread-clause-exact g c).After-index-columns-segment in
    let over = rw (column_is g here) at
    (c.if-is_overread.ensures.yes refl) in
    subst (λ (f : FrameFault). Stopped a coded columns
    (Read segment.row k segment.plane segment.y ∷ []) f s) (sym c.fault_in.ensures)
    (stop_looked a coded segment.row next c.args.frame.now.payload.now segment.plane
    (segment.index * a.configuration.width) segment.y k columns c.read_on.new.states
    (g.W.Word.samples c.args.above.now.two.now) (g.W.Word.samples c.args.above.now.one.now)
    (g.W.Word.samples c.read_on.new.cur) s
    (c.in_ok-read_on.ensures.exact coded next s less tied line) c.requires.segment.column
    c.counters_from_zero_show_all_steps.ensures over (long g here))

pub returns-in-Some-clause-exact : goal.returns-in-Some-clause-exact
returns-in-Some-clause-exact g c = λ coded next s less tied line kept.
    let a = c.args.frame.now.checked.now in
    let segment = c.args.segment.now in
    let k = segment.column in
    let offset = segment.index * a.configuration.width in
    let columns = c.read_on.new.columns in
    let two = g.W.Word.samples c.args.above.now.two.now in
    let one = g.W.Word.samples c.args.above.now.one.now in
    let cur = g.W.Word.samples c.read_on.new.cur in
    let here = (goal.at.returns-in-Some-clause-exact g c).After-index-columns-segment in
    let made : SegmentMade a coded segment.row next c.args.frame.now.payload.now segment.plane
    offset segment.y k columns c.read_on.new.states two one cur s =
    c.in_ok-read_on.ensures.exact coded next s less tied line in
    let within = rw (column_is g here) at (c.if-is_overread.ensures.no refl) in
    let old = g.W.Word.samples c.args.cur.now in
    let lines = g.W.Word.samples c.args.above.now.kept.now in
    let sides = sides g here s made.row line made.row_is kept in
    let some = sides.some k c.requires.segment.column in
    subst (λ (f : FrameFault). Stopped a coded columns
    (Read segment.row k segment.plane segment.y ∷ []) f s) (sym c.fault_at.ensures)
    (elim c.in-Some.ensures.some [
      | inl left ↦
          let shared = left.1 in
          let other : slice_index cur (offset + left_of a.configuration segment.plane k)
          ≢ slice_index old (offset + left_of a.configuration segment.plane k) =
          λ same. left.2 (same ∙ sym (c.said_left-said.ensures.value shared)) in
          subst (λ n. Stopped a coded columns (Read segment.row k segment.plane segment.y ∷ [])
          (overlap_in a.configuration segment.row k segment.plane segment.y n) s) (sym left.0)
          (differs_looked a coded segment.row next c.args.frame.now.payload.now segment.plane
          offset segment.y k columns c.read_on.new.states two one cur s made
          c.requires.segment.column
          c.counters_from_zero_show_all_steps.ensures within 0
          (left_sample a.configuration s k segment.plane segment.y) some
          (λ x v less. absurd (omega (arith, less))) (inl (shared, refl))
          (differs_left a.configuration segment.row k segment.plane offset segment.y two one old
          cur made.row s sides c.requires.segment.column line made.row_is shared other) (long g
          here))
      | inr above ↦
          let x = c.in-Some.x in
          let first = above.1 in
          let differs = differs_above a.configuration segment.row k segment.plane offset segment.y
          two one old cur made.row s sides c.requires.segment.column line made.row_is
          (length c.args.above.now.kept.now) lines c.requires.kept kept above.0 x first.inside
          first.other in
          differs_looked a coded segment.row next c.args.frame.now.payload.now segment.plane
          offset segment.y k columns c.read_on.new.states two one cur s made
          c.requires.segment.column
          c.counters_from_zero_show_all_steps.ensures within x
          (above_sample a.configuration s segment.row k segment.plane x) first.inside
          (agrees g here s made.row line made.row_is kept x (omega (arith, first.inside)) above.2
          (λ any i less. first.before i less)) differs.0 differs.1 (long g here)
    ])

pub returns-then-lacks_ending-clause-exact : goal.returns-then-lacks_ending-clause-exact
returns-then-lacks_ending-clause-exact g c = λ coded next s less tied line kept.
    let a = c.args.frame.now.checked.now in
    let segment = c.args.segment.now in
    let k = segment.column in
    let offset = segment.index * a.configuration.width in
    let columns = c.read_on.new.columns in
    let two = g.W.Word.samples c.args.above.now.two.now in
    let one = g.W.Word.samples c.args.above.now.one.now in
    let cur = g.W.Word.samples c.read_on.new.cur in
    let here = (goal.at.returns-then-lacks_ending-clause-exact g c).After-index-columns-segment in
    let made : SegmentMade a coded segment.row next c.args.frame.now.payload.now segment.plane
    offset segment.y k columns c.read_on.new.states two one cur s =
    c.in_ok-read_on.ensures.exact coded next s less tied line in
    let within = rw (column_is g here) at (c.if-is_overread.ensures.no refl) in
    let alike = c.in-None.ensures.none refl in
    let lacks = rw (column_is g here) at (c.if-lacks_ending.ensures.yes refl) in
    subst (λ (f : FrameFault). Stopped a coded columns
    (Read segment.row k segment.plane segment.y ∷ []) f s) (sym
    (c.fault_in-then-lacks_ending.ensures
    ∙ ap (λ z. fault_in a.configuration z segment.row k segment.plane segment.y 0)
    c.ending_fault.ensures))
    (unended_looked a coded segment.row next c.args.frame.now.payload.now segment.plane offset
    segment.y k
    columns c.read_on.new.states two one cur s made c.requires.segment.column
    c.counters_from_zero_show_all_steps.ensures within lacks
    (agrees g here s made.row line made.row_is
    kept (width_in a.configuration segment.plane k) (omega arith) alike.0 alike.1) (long g here))

pub returns-clause-exact : goal.returns-clause-exact
returns-clause-exact g c = λ coded next s less tied line kept.
    let a = c.args.frame.now.checked.now in
    let segment = c.args.segment.now in
    let k = segment.column in
    let offset = segment.index * a.configuration.width in
    let columns = c.read_on.new.columns in
    let two = g.W.Word.samples c.args.above.now.two.now in
    let one = g.W.Word.samples c.args.above.now.one.now in
    let cur = g.W.Word.samples c.read_on.new.cur in
    let here = (goal.at.returns-clause-exact g c).After-index-columns-segment in
    let made : SegmentMade a coded segment.row next c.args.frame.now.payload.now segment.plane
    offset segment.y k columns c.read_on.new.states two one cur s =
    c.in_ok-read_on.ensures.exact coded next s less tied line in
    let within = rw (column_is g here) at (c.if-is_overread.ensures.no refl) in
    let alike = c.in-None.ensures.none refl in
    let ended = rw (column_is g here) at (c.if-lacks_ending.ensures.no refl) in
    step_looked a coded segment.row next c.args.frame.now.payload.now segment.plane offset
    segment.y k
    columns c.read_on.new.states two one cur s made c.requires.segment.column
    c.counters_from_zero_show_all_steps.ensures within ended
    (agrees g here s made.row line made.row_is
    kept (width_in a.configuration segment.plane k) (omega arith) alike.0 alike.1)
