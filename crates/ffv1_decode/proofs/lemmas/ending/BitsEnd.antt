-- Where a slice may end, and does or does not.
use Rattle.std.proofs.Common.{◌≡◌, ℕ, ◌-◌, ◌*◌, ◌≤◌, ◌↔◌, Bool, true, false, not, IsTrue, IsFalse, Some, List, [], ◌++◌, length, sym, refl, arith}
use Rattle.std.proofs.lemmas.Bool.{true≢false}
use Rattle.ffv1_range.specs.Interval.{interval_of}
use Rattle.ffv1_range.specs.Reading.{Pause, At, resumed}
use Rattle.ffv1_range.specs.History.{decisions_after}
use Rattle.ffv1_rice.specs.Bits.{IsPadding}
use Rattle.ffv1_record.specs.Accepted.{Accepted, is_rice}
use Rattle.ffv1_frame.specs.Ending.{IsBehind, HasEnding, LacksEnding, SliceEnds, SliceGoesOn}
use Rattle.ffv1_frame.specs.Decoding.{Slice}
use Rattle.ffv1_frame.proofs.lemmas.Coders.{by_range, by_rice}
use Rattle.ffv1_frame.proofs.lemmas.WrittenParts.{window_long}
use Rattle.ffv1_decode.specs.declared.column.Column.{Column}
use Rattle.ffv1_decode.specs.Internal.LeftBits.{AreLeft, MayEnd}
use Rattle.ffv1_decode.specs.Internal.Stands.{IsParked}
use Rattle.ffv1_decode.specs.Internal.Tied.{bytes_in}

-- no more bits are left than the bytes of a column have
pub left_bytes : (payload : List ℕ) (column : Column) → column.first ≤ column.last → column.last ≤ length payload → ((n : ℕ) → column.bits ≡ Some n → n ≤ 8 * (column.last - column.first)) →
    (n : ℕ) → column.bits ≡ Some n → n ≤ 8 * length (bytes_in payload column)
left_bytes payload column rises inside left n is =
    let long = window_long column.first (column.last - column.first) payload (omega (arith, rises, inside)) in
    let few = left n is in
    omega (arith, long, few)

was_true : {P : Type 0} (b : Bool) → IsTrue b ↔ P → IsFalse (not b) → P
was_true true both e = both.0 refl
was_true false both e = absurd (true≢false e)

was_false : {P : Type 0} (b : Bool) → IsTrue b ↔ P → IsTrue (not b) → P → ⊥
was_false true both e p = true≢false (sym e)
was_false false both e p = true≢false (sym (both.1 p))

module _ (a : Accepted) (bytes : List ℕ) (column : Column) (q : Slice) where
  module _ (is : is_rice a.configuration.coder ≡ true) (may : MayEnd a bytes column q) (rest : List Bool)
      (law : IsParked bytes a.table column.parked q.past → AreLeft a bytes q.past q.bits column.bits → IsBehind a bytes q.past (q.bits ++ rest)) (padded : Bool) (both : IsTrue padded ↔ IsPadding rest) where
    pub has_padding : IsFalse (not padded) → SliceEnds a bytes q.past q.bits
    has_padding ends = by_rice is (record { within = may.within; rest = rest; behind = law may.parked (may.left is); padding = was_true padded both ends })

    pub lacks_padding : IsTrue (not padded) → SliceGoesOn a bytes q.past q.bits
    lacks_padding goes = by_rice is (record { rest = rest; behind = law may.parked (may.left is); other = was_false padded both goes })

  module _ (is : is_rice a.configuration.coder ≡ false) (may : MayEnd a bytes column q) where
    pub has_ending : ((pause : Pause) → column.parked ≡ Some pause → At (resumed pause bytes) (interval_of (decisions_after a.table [] q.past)) → HasEnding a bytes q.past) → SliceEnds a bytes q.past q.bits
    has_ending law = by_range is (law may.parked.pause may.parked.is may.parked.at)

    pub lacks_ending : ((pause : Pause) → column.parked ≡ Some pause → At (resumed pause bytes) (interval_of (decisions_after a.table [] q.past)) → LacksEnding a bytes q.past) → SliceGoesOn a bytes q.past q.bits
    lacks_ending law = by_range is (law may.parked.pause may.parked.is may.parked.at)
