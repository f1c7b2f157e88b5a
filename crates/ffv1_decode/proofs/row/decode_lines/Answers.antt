-- Decodes the lines of planes that are coded together, in lines of either words.
use Rattle.std.proofs.Common.{◌≡◌, ℕ, List, Result, ◌++◌, ◌∙◌, ap, sym, subst, take, drop, length}
use Rattle.std.proofs.Common.{arith}
use Rattle.std.proofs.lemmas.List.{with_items_is}
use Rattle.std.proofs.lemmas.Grind.{common_steps}
use Rattle.ffv1_wire.specs.Runs.{LineStep}
use Rattle.ffv1_record.specs.Accepted.{Accepted}
use Rattle.ffv1_frame.specs.declared.fault.FrameFault.{FrameFault}
use Rattle.ffv1_decode.specs.Internal.Buffers.{samples_of_lines}
use Rattle.ffv1_decode.specs.Internal.Steps.{DecodesPlanes}
use Rattle.ffv1_decode.specs.Internal.Shared.{kept_in}
use Rattle.ffv1_decode.specs.Internal.Tied.{RowSlices, row_slices}
use Rattle.ffv1_decode.proofs.row.decode_lines.Goals as goal

-- the same is kept before and after, by another name
carried : {S : Type 0} (takes refuses : LineStep S) (a : Accepted) (r : ℕ) (payload : List ℕ)
    (old new : RowSlices) (kept kept_now last last_now : List ℕ) (before after : S)
    (result : Result (Unit {0}) FrameFault) → kept_now ≡ kept → last_now ≡ last →
    DecodesPlanes a payload takes refuses r old new kept_now last_now before after result →
    DecodesPlanes a payload takes refuses r old new kept last before after result
carried takes refuses a r payload old new kept kept_now last last_now before after result first
    second made =
    subst (λ z. DecodesPlanes a payload takes refuses r old new z last before after result) first
    (subst (λ z. DecodesPlanes a payload takes refuses r old new kept_now z before after result)
    second made)

pub returns-in-Narrow-clause-exact : goal.returns-in-Narrow-clause-exact
returns-in-Narrow-clause-exact g c =
    let conf = c.args.frame.now.checked.now.configuration in
    let v = c.in-Narrow.lines in
    let back : take v.len (c.decode_planes.new.lines
    ++ drop (length c.decode_planes.new.lines) v.items) ≡ c.decode_planes.new.lines =
    with_items_is v c.decode_planes.new.lines
    (c.decode_planes.auto.lines ∙ c.deref_mut.ensures.len) in
    carried g.S.LineSink.takes g.S.LineSink.refuses c.args.frame.now.checked.now c.args.row
    c.args.frame.now.payload.now
    (row_slices c.args.slices.now.columns.items c.args.slices.now.states.items)
    (row_slices c.decode_planes.new.slices.columns.items c.decode_planes.new.slices.states.items)
    (kept_in conf (samples_of_lines c.args.lines.now)) (kept_in conf c.deref_mut.result.now)
    (kept_in conf (take v.len (c.decode_planes.new.lines
    ++ drop (length c.decode_planes.new.lines) v.items)))
    (kept_in conf c.decode_planes.new.lines)
    c.args.sink.now c.decode_planes.new.sink c.decode_planes.result
    (ap (kept_in conf) (c.deref_mut.ensures.value ∙ sym (ap samples_of_lines c.in-Narrow.is)))
    (ap (kept_in conf) (sym back))
    c.decode_planes.ensures.exact

pub returns-in-Wide-clause-exact : goal.returns-in-Wide-clause-exact
returns-in-Wide-clause-exact g c =
    let conf = c.args.frame.now.checked.now.configuration in
    let v = c.in-Wide.lines in
    let back : take v.len (c.decode_planes-in-Wide.new.lines
    ++ drop (length c.decode_planes-in-Wide.new.lines) v.items)
    ≡ c.decode_planes-in-Wide.new.lines =
    with_items_is v c.decode_planes-in-Wide.new.lines
    (c.decode_planes-in-Wide.auto.lines ∙ c.deref_mut-in-Wide.ensures.len) in
    carried g.S.LineSink.takes g.S.LineSink.refuses c.args.frame.now.checked.now c.args.row
    c.args.frame.now.payload.now
    (row_slices c.args.slices.now.columns.items c.args.slices.now.states.items)
    (row_slices c.decode_planes-in-Wide.new.slices.columns.items
    c.decode_planes-in-Wide.new.slices.states.items)
    (kept_in conf (samples_of_lines c.args.lines.now))
    (kept_in conf c.deref_mut-in-Wide.result.now)
    (kept_in conf (take v.len (c.decode_planes-in-Wide.new.lines
    ++ drop (length c.decode_planes-in-Wide.new.lines) v.items)))
    (kept_in conf c.decode_planes-in-Wide.new.lines)
    c.args.sink.now c.decode_planes-in-Wide.new.sink c.decode_planes-in-Wide.result
    (ap (kept_in conf)
    (c.deref_mut-in-Wide.ensures.value ∙ sym (ap samples_of_lines c.in-Wide.is)))
    (ap (kept_in conf) (sym back))
    c.decode_planes-in-Wide.ensures.exact

pub returns-in-Narrow-clause-long : goal.returns-in-Narrow-clause-long
returns-in-Narrow-clause-long g c = grind (arith, common_steps)

pub returns-in-Wide-clause-long : goal.returns-in-Wide-clause-long
returns-in-Wide-clause-long g c = grind (arith, common_steps)
