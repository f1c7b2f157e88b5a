-- Columns stay open.
use Rattle.std.proofs.Common.{◌≡◌, ℕ, ◌<◌, inl, inr, List, length, slice_set, sym, subst, arith, get_or-set_same, get_or-set_other, length-set}
use Rattle.std.proofs.lemmas.Bool.{cases_eq}
use Rattle.ffv1_plane.specs.Quantisation.{Set}
use Rattle.ffv1_decode.specs.declared.column.Column.{Column}
use Rattle.ffv1_decode.specs.Internal.Tied.{IsOpen, AreOpen, column_at, no_column}

-- one column becomes another that is open, and the others stay
pub open_next : (payload : List ℕ) (sets : List Set) (columns : List Column) (k : ℕ) (q : Column) → k < length columns → AreOpen payload sets columns → IsOpen payload sets q →
    AreOpen payload sets (slice_set columns k q)
open_next payload sets columns k q inside are is = λ j h. elim (cases_eq j k) [
  | inl here ↦
      let now : column_at (slice_set columns k q) k ≡ q = get_or-set_same columns k q no_column inside in
      subst (λ n. IsOpen payload sets (column_at (slice_set columns k q) n)) (sym here) (subst (IsOpen payload sets) (sym now) is)
  | inr other ↦
      let few : j < length columns = omega (arith, h, length-set columns k q) in
      subst (IsOpen payload sets) (sym (get_or-set_other columns k j q no_column other)) (are j few)
]
