-- Reads the difference of a place by what is seen of it.
use Rattle.std.proofs.Common.{◌≡◌, ◌∙◌, sym, ap, ap₂, subst, pos, inl, inr, to_z, of_z, w32}
use Rattle.std.proofs.Common.{to_z-of_z}
use Rattle.std.proofs.lemmas.Bool.{cases_eq}
use Rattle.ffv1_plane.specs.Context.{flip_of, size_of}
use Rattle.ffv1_plane.specs.Prediction.{predicted}
use Rattle.ffv1_plane.specs.Residual.{sample_of}
use Rattle.ffv1_line.specs.Beside.{beside}
use Rattle.ffv1_rice.specs.Kept.{state_at}
use Rattle.ffv1_rice.specs.States.{IsState}
use Rattle.ffv1_rice.proofs.Scalars.{fits_folded}
use Rattle.ffv1_rice.proofs.RowPlaces.{chosen_is, place_read}
use Rattle.ffv1_rice.proofs.row.read_seen.Goals as goal

pub returns-clause-ok : goal.returns-clause-ok
returns-clause-ok g c =
    let below = c.args.below.now in
    let cur = c.args.cur.now in
    let x = c.args.seen.now.x in
    let a = beside below.two.now below.one.now cur x in
    let sample = c.sample_from.result in
    let context = c.args.seen.now.size in
    let d = c.in_ok-difference.difference in
    let around = c.requires.around in
    let folded = c.in_ok-difference.ensures.folded in
    let prediction : to_z w32 (of_z w32 c.predict.result) ≡ predicted a = to_z-of_z {w = w32}
    {z = c.predict.result} (record { sfits = c.predict.type_inv }) ∙ c.predict.ensures ∙
    ap predicted around in
    let flip : c.args.seen.now.flip ≡ flip_of below.set.now a = c.requires.flip ∙
    ap (flip_of below.set.now) around in
    let made : pos sample ≡ sample_of below.depth (predicted a) (flip_of below.set.now a) d =
    c.sample_from.ensures.value ∙ ap₂ (λ p flip. sample_of below.depth p flip
    (to_z w32 (of_z w32 d))) prediction flip
    ∙ ap (sample_of below.depth (predicted a) (flip_of below.set.now a))
    (fits_folded below.depth d c.requires.depth folded) in
    let chosen = chosen_is below.set.now below.depth below.two.now below.one.now cur x sample d
    c.requires.depth c.requires.inside folded made in
    place_read below.set.now below.depth below.two.now below.one.now cur x sample context d
    c.args.is_behind
    (state_at c.args.states.now) (state_at c.store.new.states) c.load-state.result
    c.read_difference.new.state c.args.bits.now c.read_difference.new.bits
    chosen (c.requires.size ∙ ap (size_of below.set.now) around) c.load-state.ensures
    c.in_ok-difference.ensures.ok c.in_ok-difference.ensures.after
    c.store.ensures.own c.store.ensures.others c.in_ok-difference.ensures.some

pub returns-clause-states : goal.returns-clause-states
returns-clause-states g c =
    let depth = c.args.below.now.depth in
    let context = c.args.seen.now.size in
    record {
      each = λ k less. elim (cases_eq k context) [
        | inl here ↦ subst (IsState depth) (sym (ap (state_at c.store.new.states) here ∙
            c.store.ensures.own)) c.in_ok-difference.ensures.state
        | inr other ↦ subst (IsState depth) (sym (c.store.ensures.others k other))
            (c.requires.states.each k less)
      ];
    }
