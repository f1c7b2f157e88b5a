-- Decodes a row of slices.
use Rattle.std.proofs.Common.{◌≡◌, refl, ℕ, ◌∙◌, ◌++◌, ap, sym, false, List, length, take}
use Rattle.std.proofs.Common.{drop, arith, replicate}
use Rattle.std.proofs.lemmas.List.{with_items_is}
use Rattle.std.proofs.lemmas.Result.{err_from_is_err_and, MatchResult-weaker}
use Rattle.std.proofs.lemmas.Nat.{pow_pos}
use Rattle.std.proofs.lemmas.Grind.{common_steps}
use Rattle.ffv1_record.specs.Accepted.{is_rice}
use Rattle.ffv1_decode.specs.Internal.Opened.{coded_by}
use Rattle.ffv1_decode.specs.Internal.RowParts.{IsRow}
use Rattle.ffv1_decode.specs.Internal.Tied.{RowSlices, TiedColumns, row_slices}
use Rattle.ffv1_decode.specs.Internal.Progress.{FailsIn}
use Rattle.ffv1_decode.specs.Internal.Rows.{open_events}
use Rattle.ffv1_frame.specs.SliceList.{bits_of}
use Rattle.ffv1_decode.proofs.lemmas.row.RowGoesOn.{given_back}
use Rattle.ffv1_decode.proofs.lemmas.row.RowDecodes.{opened_tied, open_fails, opened_grows, lines_fail}
use Rattle.ffv1_decode.specs.Internal.Buffers.{samples_of_lines}
use Rattle.ffv1_decode.specs.Internal.Shared.{kept_in}
use Rattle.ffv1_decode.proofs.lemmas.row.KeptBuffers.{kept_long, kept_planes}
use Rattle.ffv1_decode.proofs.lemmas.row.RowDecodes.{row_decoded, opened_above}
use Rattle.ffv1_decode.proofs.row.decode_row.Given.{Over}
use Rattle.ffv1_decode.proofs.row.decode_row.Goals.{After-open_row}
use Rattle.ffv1_decode.proofs.row.decode_row.Goals as goal

-- the columns that were opened, and the states, are given back to the buffers
back : (g : Over) (c : After-open_row g) (P : RowSlices → Type 0) →
    P (row_slices c.open_row.new.columns c.renew_states.new.states) →
    P (row_slices (take c.args.buffers.now.slices.columns.len (c.open_row.new.columns
    ++ drop (length c.open_row.new.columns) c.args.buffers.now.slices.columns.items))
    (take c.args.buffers.now.slices.states.len (c.renew_states.new.states
    ++ drop (length c.renew_states.new.states) c.args.buffers.now.slices.states.items)))
back g c P = given_back c.args.buffers.now.slices c.open_row.new.columns c.renew_states.new.states P
    (c.open_row.auto.columns ∙ c.deref_mut-2.ensures.len)
    (c.renew_states.auto.states ∙ c.deref_mut.ensures.len)

pub returns-in_err-open_row-clause-exact : goal.returns-in_err-open_row-clause-exact
returns-in_err-open_row-clause-exact g c = λ initial s between above grows.
    let a = c.args.frame.now.checked.now in
    let payload = c.args.frame.now.payload.now in
    let coded : ℕ → List ℕ = coded_by a payload c.args.spans.now in
    let takes = g.S.LineSink.takes in
    let refuses = g.S.LineSink.refuses in
    let p = err_from_is_err_and c.from_residual.result c.from_residual.ensures.1 in
    rw (p.1, p.2) (back g (goal.at.returns-in_err-open_row-clause-exact g c).After-open_row
    (λ z. FailsIn takes refuses a coded initial c.args.row z.columns
    (open_events a.configuration c.args.row) c.in_err-open_row.field-0.0 c.args.sink.now s)
    (open_fails takes refuses a coded initial c.args.row payload s
    c.open_row.new.columns c.in_err-open_row.field-0.0 c.args.sink.now grows
    (c.in_err-open_row.ensures.exact s between.known between.fresh between.says)))

pub returns-clause-exact : goal.returns-clause-exact
returns-clause-exact g c = λ initial s between above grows.
    let a = c.args.frame.now.checked.now in
    let payload = c.args.frame.now.payload.now in
    let coded : ℕ → List ℕ = coded_by a payload c.args.spans.now in
    let takes = g.S.LineSink.takes in
    let refuses = g.S.LineSink.refuses in
    let here = (goal.at.returns-clause-exact g c).After-open_row in
    let opened = c.in_ok-open_row.ensures.exact s between.known between.fresh between.says in
    let long = c.open_row.auto.columns ∙ ap length c.deref_mut-2.ensures.value ∙ c.requires.many in
    let same_long : length c.renew_states.new.states ≡ length c.deref_mut.result.now =
    c.renew_states.auto.states in
    let range : is_rice a.configuration.coder ≡ false →
    c.renew_states.new.states ≡ replicate (length c.renew_states.new.states) 128 =
    λ is. c.renew_states.ensures.range is ∙ ap (λ n. replicate n 128) (sym same_long) in
    let tied = opened_tied a coded payload c.args.row c.open_row.new.columns c.open_row.new.first s
    opened long c.renew_states.new.states range c.renew_states.ensures.rice
    (same_long ∙ ap length c.deref_mut.ensures.value ∙ c.requires.room)
    c.in_ok-open_row.ensures.open (pow_pos (bits_of a.configuration)) in
    let tied = back g here (λ z. TiedColumns a coded c.args.row 0 payload z opened.state) tied in
    let grown = opened_grows takes refuses a coded initial c.args.row payload s c.open_row.new.first
    c.open_row.new.columns opened c.args.sink.now grows in
    let lines = c.args.buffers.now.lines in
    let kept = kept_in a.configuration (samples_of_lines c.decode_lines.new.lines) in
    let long_kept = kept_long a.configuration lines c.decode_lines.new.lines
    c.decode_lines.ensures.long in
    let made = c.decode_lines.ensures.exact coded initial opened.state tied
    (opened_above takes refuses a coded initial c.args.row payload s c.open_row.new.first
    c.open_row.new.columns opened (kept_in a.configuration (samples_of_lines lines)) above)
    grown in
    let long_after = c.decode_lines.ensures.same.columns
    ∙ back g here (λ z. length z.columns ≡ a.configuration.columns) long in
    MatchResult-weaker c.decode_lines.result made
    (λ u done. row_decoded takes refuses a coded initial c.args.row payload s c.open_row.new.first
    c.open_row.new.columns opened c.counters_from_zero_show_all_steps.ensures
    c.decode_lines.new.slices.columns.items c.decode_lines.new.slices.states.items kept
    c.decode_lines.new.sink long_after
    (λ some. kept_planes a.configuration _ c.requires.lines.kept (omega (arith, some, long_kept)))
    done)
    (λ f stopped. lines_fail takes refuses a coded initial c.args.row payload s c.open_row.new.first
    c.open_row.new.columns opened c.decode_lines.new.slices.columns.items f
    c.decode_lines.new.sink stopped)

pub returns-in_err-open_row-clause-same : goal.returns-in_err-open_row-clause-same
returns-in_err-open_row-clause-same g c = grind (arith, common_steps)

pub renew_states-requires-clause-room : goal.renew_states-requires-clause-room
renew_states-requires-clause-room g c = ap length c.deref_mut.ensures.value ∙ c.requires.room

pub decode_lines-requires-clause-row : goal.decode_lines-requires-clause-row
decode_lines-requires-clause-row g c =
    back g (goal.at.decode_lines-requires-clause-row g c).After-open_row
    (IsRow c.args.frame.now c.args.row) (record {
      frame = c.requires.frame;
      row = c.requires.row;
      many = c.open_row.auto.columns ∙ ap length c.deref_mut-2.ensures.value ∙ c.requires.many;
      opened = c.in_ok-open_row.ensures.open;
      room = c.renew_states.auto.states ∙ ap length c.deref_mut.ensures.value ∙ c.requires.room;
      held = c.renew_states.ensures.kept;
    })

pub returns-clause-same : goal.returns-clause-same
returns-clause-same g c =
    let slices = c.args.buffers.now.slices in
    let here = (goal.at.returns-clause-same g c).After-open_row in
    let same = c.decode_lines.ensures.same in
    let out_back : take c.args.buffers.now.out.len (c.decode_lines.new.out
    ++ drop (length c.decode_lines.new.out) c.args.buffers.now.out.items)
    ≡ c.decode_lines.new.out =
    with_items_is c.args.buffers.now.out c.decode_lines.new.out
    (c.decode_lines.auto.out ∙ c.deref_mut-3.ensures.len) in
    record {
      slices = record {
        columns = same.columns ∙ back g here (λ z. length z.columns ≡ length slices.columns.items)
            (c.open_row.auto.columns ∙ ap length c.deref_mut-2.ensures.value);
        states = same.states ∙ back g here (λ z. length z.states ≡ length slices.states.items)
            (c.renew_states.auto.states ∙ ap length c.deref_mut.ensures.value);
        columns_capacity = same.columns_capacity;
        states_capacity = same.states_capacity;
      };
      lines = c.decode_lines.ensures.long;
      words = c.decode_lines.ensures.words;
      out = ap length out_back
          ∙ (c.decode_lines.auto.out ∙ ap length c.deref_mut-3.ensures.value);
      lines_capacity = c.decode_lines.ensures.capacity;
      out_capacity = refl;
    }
