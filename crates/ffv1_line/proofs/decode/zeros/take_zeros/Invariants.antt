use mathlib.Core.Bool.{not}
use lib.Dec.{eqb}
use Rattle.std.proofs.Common.{ℕ, ◌≡◌, IsTrue, slice_index}
use Rattle.ffv1_range.specs.Table.{Holds}
use Rattle.ffv1_line.specs.Internal.Places.{Carries, ReadZerosBy, SharesContext, kept_apart}
use Rattle.ffv1_line.proofs.decode.zeros.take_zeros.Given as goal

abbrev pub invariant-loop-at : goal.invariant-loop-at
invariant-loop-at g l = record {
  held : Holds l.places.table.now l.state;
  same : l.behind.l ≡ l.fn.behind.l;
  left : slice_index l.places.early.now.tl l.at ≡ l.behind.l;
  top : IsTrue (not (eqb g.row.RUN 0)) → slice_index l.places.early.now.t l.at ≡ l.behind.l;
  begins : Carries l.places l.at l.cur l.behind;
  shares : (size : ℕ) → SharesContext (not (eqb g.row.RUN 0)) l.places l.start l.fn.behind size →
      SharesContext (not (eqb g.row.RUN 0)) l.places l.start l.behind size;
  read : (size : ℕ) → SharesContext (not (eqb g.row.RUN 0)) l.places l.start l.fn.behind size →
      ReadZerosBy l.places size l.start (kept_apart l.fn.decoder l.fn.state l.fn.cur) l.at
      (kept_apart l.decoder l.state l.cur);
}
