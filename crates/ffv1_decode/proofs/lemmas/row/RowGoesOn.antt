-- What is known of a row of slices goes on while its columns stay open and its states are held, and
-- while its vectors are lent to a call.
use Rattle.std.proofs.Common.{◌≡◌, ◌∙◌, ◌++◌, ℕ, List, length, take, drop, sym, subst}
use Rattle.std.proofs.lemmas.List.{with_items_is}
use Rattle.ffv1_decode.specs.declared.buffers.Slices.{Slices}
use Rattle.ffv1_decode.specs.declared.column.Column.{Column}
use Rattle.ffv1_decode.specs.declared.parts.Frame.{Frame}
use Rattle.ffv1_decode.specs.Internal.LeftBits.{AreKept}
use Rattle.ffv1_decode.specs.Internal.RowParts.{IsRow, slices_of}
use Rattle.ffv1_decode.specs.Internal.Tied.{AreOpen, RowSlices, row_slices}

pub row_goes_on : {A : Type 0} (f : Frame A) (r : ℕ) (old new : RowSlices) → IsRow f r old →
    length new.columns ≡ length old.columns → length new.states ≡ length old.states →
    AreOpen f.payload.now f.checked.now.configuration.sets new.columns →
    AreKept f.checked.now new.states → IsRow f r new
row_goes_on f r old new was columns states opened held = record {
  frame = was.frame;
  row = was.row;
  many = columns ∙ was.many;
  opened = opened;
  room = states ∙ was.room;
  held = held;
}

-- its vectors are lent, and given back
module _ {A : Type 0} (v : Slices A) (columns : List Column) (states : List ℕ)
    (P : RowSlices → Type 0) where
  pub lent : columns ≡ v.columns.items → states ≡ v.states.items → P (slices_of v) →
      P (row_slices columns states)
  lent first second p = subst (λ z. P (row_slices z states)) (sym first)
      (subst (λ z. P (row_slices v.columns.items z)) (sym second) p)

  abbrev columns_after : List Column
  columns_after = take v.columns.len (columns ++ drop (length columns) v.columns.items)

  abbrev states_after : List ℕ
  states_after = take v.states.len (states ++ drop (length states) v.states.items)

  pub given_back : length columns ≡ v.columns.len → length states ≡ v.states.len →
      P (row_slices columns states) → P (row_slices columns_after states_after)
  given_back first second p =
      let columns_are : columns_after ≡ columns = with_items_is v.columns columns first in
      let states_are : states_after ≡ states = with_items_is v.states states second in
      subst (λ z. P (row_slices z states_after)) (sym columns_are)
      (subst (λ z. P (row_slices columns z)) (sym states_are) p)
