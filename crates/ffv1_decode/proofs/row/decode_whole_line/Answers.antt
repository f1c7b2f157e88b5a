-- Decodes a line: reads it, makes of it what is handed over, and hands it over.
use Rattle.std.proofs.Common.{◌≡◌, ℕ, List, ◌+◌, ◌<◌, ◌++◌, inl, inr, ◌∙◌, ap, subst, length}
use Rattle.std.proofs.Common.{take, Result, Ok, Err}
use Rattle.std.specs.Prelude.{OnOk}
use Rattle.std.proofs.Common.{drop, arith}
use Rattle.std.proofs.lemmas.Result.{err_from_is_err_and, MatchResult-weaker}
use Rattle.std.specs.List.{range_with_len}
use Rattle.std.proofs.lemmas.Grind.{common_steps}
use Rattle.ffv1_frame.specs.Order.{lines_down, line_events}
use Rattle.ffv1_decode.specs.Internal.RowParts.{IsRow, slices_of}
use Rattle.ffv1_decode.specs.Internal.Tied.{AreTold, PlanesRead, RowSlices, TiedColumns, row_slices}
use Rattle.ffv1_decode.specs.Internal.Finished.{StandRead}
use Rattle.ffv1_frame.specs.Decoding.{State}
use Rattle.ffv1_decode.specs.Internal.Progress.{FailsIn, LineDecoded}
use Rattle.ffv1_decode.proofs.lemmas.row.RowGoesOn.{lent, given_back}
use Rattle.ffv1_decode.proofs.lemmas.segment.SegmentTied.{tied_told}
use Rattle.ffv1_decode.proofs.lemmas.row.LineEnds.{stand_read}
use Rattle.ffv1_decode.proofs.lemmas.row.LineDecodes.{read_fails, finish_fails, hand_fails, finished}
use Rattle.ffv1_decode.proofs.lemmas.row.LineDecodes.{finished_told, grows_finished, line_decoded, line_kept}
use Rattle.ffv1_frame.proofs.lemmas.laws.decoding.NewPlanes.{line_new, line_old}
use Rattle.ffv1_decode.proofs.row.decode_whole_line.Given.{Over}
use Rattle.ffv1_decode.proofs.row.decode_whole_line.Goals.{After-read_planes, After-finish}
use Rattle.ffv1_decode.proofs.row.decode_whole_line.Goals as goal

-- what holds of any answer
ok_with : {T E P : Type 0} (r : Result T E) → P → OnOk r P
ok_with (Ok x) p = p
ok_with (Err e) p = tt

-- what was read is lent back to the slices
module _ (g : Over) (c : After-read_planes g) where
  lent_to : (P : RowSlices → Type 0) → P (slices_of c.args.slices.now) →
      P (row_slices c.deref_mut.result.now c.deref_mut-2.result.now)
  lent_to P = lent c.args.slices.now c.deref_mut.result.now c.deref_mut-2.result.now P
      c.deref_mut.ensures.value c.deref_mut-2.ensures.value

  back : (P : RowSlices → Type 0) →
      P (row_slices c.read_planes.new.columns c.read_planes.new.states) →
      P (row_slices (take c.args.slices.now.columns.len (c.read_planes.new.columns
      ++ drop (length c.read_planes.new.columns) c.args.slices.now.columns.items))
      (take c.args.slices.now.states.len (c.read_planes.new.states
      ++ drop (length c.read_planes.new.states) c.args.slices.now.states.items)))
  back P = given_back c.args.slices.now c.read_planes.new.columns c.read_planes.new.states P
      (c.read_planes.auto.columns ∙ c.deref_mut.ensures.len)
      (c.read_planes.auto.states ∙ c.deref_mut-2.ensures.len)

-- what was read stands in the line
module _ (g : Over) (c : After-finish g) (coded : ℕ → List ℕ) (next : ℕ) (s : State)
    (read : PlanesRead c.args.frame.now.checked.now coded c.args.line.now.row next
    c.args.frame.now.payload.now c.args.line.now.first c.args.line.now.count c.args.line.now.y
    c.args.frame.now.checked.now.configuration.columns 0 c.read_planes.new.columns
    c.read_planes.new.states (g.W.Word.samples c.args.above.now.two.now)
    (g.W.Word.samples c.args.above.now.one.now) (g.W.Word.samples c.read_planes.new.cur) s) where
  told : AreTold c.args.frame.now.checked.now.table c.read_planes.new.columns read.state
  told =
      let long : length c.read_planes.new.columns ≡
      c.args.frame.now.checked.now.configuration.columns =
      c.read_planes.auto.columns ∙ ap length c.deref_mut.ensures.value ∙ c.requires.row.many in
      tied_told c.args.frame.now.checked.now coded c.args.line.now.row next
      c.args.frame.now.payload.now c.read_planes.new.columns c.read_planes.new.states read.state
      read.columns_are c.counters_from_zero_show_all_steps.ensures long

  stand : StandRead c.args.frame.now.checked.now.configuration c.args.line.now.first
      c.args.line.now.count c.args.line.now.y (g.W.Word.samples c.read_planes.new.cur) read.state
  stand =
      let a = c.args.frame.now.checked.now in
      let line = c.args.line.now in
      let columns = c.accepted_configuration_is_in_range.ensures.columns a.configuration a.table
      c.requires.row.frame.accepted in
      stand_read a coded line.row next c.args.frame.now.payload.now c.read_planes.new.columns
      c.read_planes.new.states (g.W.Word.samples c.args.above.now.two.now)
      (g.W.Word.samples c.args.above.now.one.now) (g.W.Word.samples c.read_planes.new.cur)
      line.first line.count line.y read.state read.columns_are (omega (arith, columns))
      read.planes_are (λ p. c.slices_lie_beside_one_another.ensures.across a.configuration a.table p
      c.requires.row.frame.accepted)

pub finish-requires-clause-y : goal.finish-requires-clause-y
finish-requires-clause-y g c =
    let line = c.args.line.now in
    let at : line.first + 0 ≡ line.first = omega arith in
    subst (λ p. line.y < lines_down c.args.frame.now.checked.now.configuration p line.row) at
    (c.requires.line.y 0 c.requires.line.planes.some)

pub returns-in_err-read_planes-clause-exact : goal.returns-in_err-read_planes-clause-exact
returns-in_err-read_planes-clause-exact g c = λ coded next s less tied planes kept initial grows.
    let a = c.args.frame.now.checked.now in
    let line = c.args.line.now in
    let payload = c.args.frame.now.payload.now in
    let takes = g.S.LineSink.takes in
    let refuses = g.S.LineSink.refuses in
    let here = goal.at.returns-in_err-read_planes-clause-exact g c in
    let p = err_from_is_err_and c.from_residual.result c.from_residual.ensures.1 in
    rw (p.1, p.2) (back g here.After-read_planes (λ z. FailsIn takes refuses a coded initial
    line.row z.columns (line_events a.configuration line.row (range_with_len line.first line.count)
    line.y) c.in_err-read_planes.field-0.0 c.args.sink.now s)
    (inl (read_fails takes refuses a coded initial line.row next payload
    line.first line.count line.y s c.read_planes.new.columns c.in_err-read_planes.field-0.0
    c.args.sink.now grows (c.in_err-read_planes.ensures.exact coded next
    s less (lent_to g here.After-read_planes (λ z. TiedColumns a coded
    line.row next payload z s) tied) planes kept))))

pub returns-in_err-finish-clause-exact : goal.returns-in_err-finish-clause-exact
returns-in_err-finish-clause-exact g c = λ coded next s less tied planes kept initial grows.
    let a = c.args.frame.now.checked.now in
    let line = c.args.line.now in
    let payload = c.args.frame.now.payload.now in
    let two = g.W.Word.samples c.args.above.now.two.now in
    let one = g.W.Word.samples c.args.above.now.one.now in
    let cur = g.W.Word.samples c.read_planes.new.cur in
    let takes = g.S.LineSink.takes in
    let refuses = g.S.LineSink.refuses in
    let here = goal.at.returns-in_err-finish-clause-exact g c in
    let read = c.in_ok-read_planes.ensures.exact coded next s less
    (lent_to g here.After-read_planes (λ z. TiedColumns a coded
    line.row next payload z s) tied) planes kept in
    let told = told g here.After-finish coded next s read in
    let stand = stand g here.After-finish coded next s read in
    let p = err_from_is_err_and c.from_residual-in_err-finish.result
    c.from_residual-in_err-finish.ensures.1 in
    rw (p.1, p.2) (back g here.After-read_planes (λ z. FailsIn takes refuses a coded initial
    line.row z.columns (line_events a.configuration line.row (range_with_len line.first line.count)
    line.y) c.in_err-finish.field-0.0 c.args.sink.now s) (inl (finish_fails takes refuses a coded
    initial line.row next payload line.first line.count
    line.y s c.read_planes.new.columns c.read_planes.new.states two one cur c.args.sink.now
    grows read told c.in_err-finish.field-0.0
    (c.in_err-finish.ensures.exact coded read.state stand))))

pub returns-then-line-clause-exact : goal.returns-then-line-clause-exact
returns-then-line-clause-exact g c = λ coded next s less tied planes kept initial grows.
    let a = c.args.frame.now.checked.now in
    let line = c.args.line.now in
    let payload = c.args.frame.now.payload.now in
    let two = g.W.Word.samples c.args.above.now.two.now in
    let one = g.W.Word.samples c.args.above.now.one.now in
    let cur = g.W.Word.samples c.read_planes.new.cur in
    let takes = g.S.LineSink.takes in
    let refuses = g.S.LineSink.refuses in
    let here = goal.at.returns-then-line-clause-exact g c in
    let read = c.in_ok-read_planes.ensures.exact coded next s less
    (lent_to g here.After-read_planes (λ z. TiedColumns a coded
    line.row next payload z s) tied) planes kept in
    let told = told g here.After-finish coded next s read in
    let stand = stand g here.After-finish coded next s read in
    let made = c.in_ok-finish.ensures.exact coded read.state stand in
    let none = line_old a.configuration line.row line.first line.count line.y
    c.requires.line.planes.some
    (omega (arith, c.requires.line.shared, c.if-line.true)) in
    back g here.After-read_planes (λ z. LineDecoded takes refuses a coded initial line.row next
    payload line.first line.count line.y z.columns z.states one cur c.args.sink.now s)
    (line_kept takes refuses a coded initial line.row next payload
    line.first line.count line.y s c.read_planes.new.columns c.read_planes.new.states two one
    cur c.args.sink.now grows read told c.finish.new.out made none
    (λ p. c.slices_lie_beside_one_another.ensures.across a.configuration a.table p
    c.requires.row.frame.accepted))

pub returns-clause-exact : goal.returns-clause-exact
returns-clause-exact g c = λ coded next s less tied planes kept initial grows.
    let a = c.args.frame.now.checked.now in
    let line = c.args.line.now in
    let payload = c.args.frame.now.payload.now in
    let two = g.W.Word.samples c.args.above.now.two.now in
    let one = g.W.Word.samples c.args.above.now.one.now in
    let cur = g.W.Word.samples c.read_planes.new.cur in
    let takes = g.S.LineSink.takes in
    let refuses = g.S.LineSink.refuses in
    let here = goal.at.returns-clause-exact g c in
    let read = c.in_ok-read_planes.ensures.exact coded next s less
    (lent_to g here.After-read_planes (λ z. TiedColumns a coded
    line.row next payload z s) tied) planes kept in
    let told = told g here.After-finish coded next s read in
    let stand = stand g here.After-finish coded next s read in
    let made = c.in_ok-finish.ensures.exact coded read.state stand in
    let new = line_new a.configuration line.row line.first line.count line.y
    c.requires.line.planes.some
    (omega (arith, c.requires.line.shared, c.if-line.false)) in
    let handed = c.hand_lines.ensures.exact coded initial c.read_planes.new.columns
    (finished takes refuses a coded initial line.row next payload line.first line.count line.y s
    c.read_planes.new.columns c.read_planes.new.states two one cur c.args.sink.now grows read
    told c.finish.new.out made) (grows_finished takes refuses a coded initial line.row next
    payload line.first line.count line.y s c.read_planes.new.columns c.read_planes.new.states
    two one cur c.args.sink.now grows read told c.finish.new.out made)
    (finished_told takes refuses a coded initial line.row next payload line.first line.count
    line.y s c.read_planes.new.columns c.read_planes.new.states two one cur c.args.sink.now
    grows read told c.finish.new.out made) made.stands in
    MatchResult-weaker c.hand_lines.result handed
    (λ u done. back g here.After-read_planes (λ z. LineDecoded takes refuses a coded initial
    line.row next payload line.first line.count line.y z.columns z.states one cur
    c.hand_lines.new.sink s) (line_decoded takes refuses a coded initial line.row next payload
    line.first line.count line.y s c.read_planes.new.columns c.read_planes.new.states two one
    cur c.args.sink.now grows read told c.finish.new.out made new
    (λ p. c.slices_lie_beside_one_another.ensures.across a.configuration a.table p
    c.requires.row.frame.accepted) c.hand_lines.new.sink done))
    (λ f stopped. back g here.After-read_planes (λ z. FailsIn takes refuses a coded initial
    line.row z.columns (line_events a.configuration line.row (range_with_len line.first line.count)
    line.y) f c.hand_lines.new.sink s) (inr (hand_fails takes refuses a coded initial line.row next
    payload line.first line.count
    line.y s c.read_planes.new.columns c.read_planes.new.states two one cur c.args.sink.now
    grows read told c.finish.new.out made new f c.hand_lines.new.sink stopped)))

pub read_planes-requires-clause-row : goal.read_planes-requires-clause-row
read_planes-requires-clause-row g c = lent c.args.slices.now c.deref_mut.result.now
    c.deref_mut-2.result.now (IsRow c.args.frame.now c.args.line.now.row)
    c.deref_mut.ensures.value c.deref_mut-2.ensures.value c.requires.row

pub read_planes-requires-clause-long : goal.read_planes-requires-clause-long
read_planes-requires-clause-long g c = record {
  two = omega (arith, c.requires.long.two);
  one = omega (arith, c.requires.long.one);
  cur = omega (arith, c.requires.long.cur);
}

pub returns-in_err-read_planes-clause-same : goal.returns-in_err-read_planes-clause-same
returns-in_err-read_planes-clause-same g c = grind (arith, common_steps)

pub returns-in_err-finish-clause-same : goal.returns-in_err-finish-clause-same
returns-in_err-finish-clause-same g c = grind (arith, common_steps)

pub returns-then-line-clause-row : goal.returns-then-line-clause-row
returns-then-line-clause-row g c = back g (goal.at.returns-then-line-clause-row g
    c).After-read_planes
    (IsRow c.args.frame.now c.args.line.now.row) c.in_ok-read_planes.ensures.row

pub returns-clause-row : goal.returns-clause-row
returns-clause-row g c =
    ok_with c.hand_lines.result (back g (goal.at.returns-clause-row g c).After-read_planes
    (IsRow c.args.frame.now c.args.line.now.row) c.in_ok-read_planes.ensures.row)

pub returns-clause-same : goal.returns-clause-same
returns-clause-same g c = grind (arith, common_steps)
