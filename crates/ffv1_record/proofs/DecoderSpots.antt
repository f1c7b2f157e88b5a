-- A decoder that stands at a spot of the bytes, and reads on, stands after what it read.
use Rattle.std.proofs.Common.{◌≡◌, ℕ, ◌+◌, List, [], ◌++◌, length, replicate, ap, sym, subst, ◌∙◌, arith}
use Rattle.ffv1_range.specs.Interval.{start, narrowed, interval_of}
use Rattle.ffv1_range.specs.Codes.{Inside}
use Rattle.ffv1_range.specs.Reading.{Reading, At}
use Rattle.ffv1_range.specs.Symbols.{Step, shifted, decided}
use Rattle.ffv1_range.specs.History.{decisions_after, AreBelow, AreOutside, HasStates}
use Rattle.ffv1_range.specs.Standard.{standard}
use Rattle.ffv1_range.specs.Follows.{Follows}
use Rattle.ffv1_range.proofs.Nested.{narrowed-append}
use Rattle.ffv1_range.proofs.OneAfter.{after_append}
use Rattle.ffv1_range.proofs.HistoryLemmas.{decided_is, moved_has, others_have, fresh_has}
use Rattle.ffv1_range.proofs.Windows.{AreBelow-append}
use Rattle.ffv1_record.specs.Record.{IsCoded}
use Rattle.ffv1_record.specs.Reader.{Spot, behind}
use Rattle.ffv1_record.specs.Internal.Given.{Source, Stands, StandsIn}
use Rattle.ffv1_record.proofs.Slots.{shifted_within, shifted_beside, below_beside, below_more}

-- the interval of a history and of steps after it
pub interval_behind : (states : List ℕ) (base : ℕ) (past steps : List Step) → AreBelow steps (length states) → HasStates standard states base past →
    narrowed (interval_of (decisions_after standard [] past)) (decided standard states steps) ≡ interval_of (decisions_after standard [] (past ++ shifted base steps))
interval_behind states base past steps below has =
    ap (narrowed (interval_of (decisions_after standard [] past))) (decided_is standard states base past steps below has)
    ∙ sym (narrowed-append start (decisions_after standard [] past) (decisions_after standard past (shifted base steps)))
    ∙ ap interval_of (sym (after_append standard [] past (shifted base steps)))

module _ (old new : Reading) (states after b : List ℕ) (base : ℕ) (past steps : List Step) (bytes : old.bytes ≡ b) (at : At old (interval_of (decisions_after standard [] past)))
    (below : AreBelow steps (length states)) (has : HasStates standard states base past) (follows : Follows standard old states new after steps) where
  pub at_behind : At new (interval_of (decisions_after standard [] (past ++ shifted base steps)))
  at_behind = subst (At new) (interval_behind states base past steps below has) (follows.at (interval_of (decisions_after standard [] past)) at)

  pub coded_behind : IsCoded b (past ++ shifted base steps)
  coded_behind = subst (λ bs. Inside bs (interval_of (decisions_after standard [] (past ++ shifted base steps)))) (follows.bytes ∙ bytes) at_behind.inside

  pub has_behind : HasStates standard after base (past ++ shifted base steps)
  has_behind = subst (λ xs. HasStates standard xs base (past ++ shifted base steps)) (sym follows.moves) (moved_has standard states base past steps below has)

-- by the states of the parameters
pub stands_on : (old new : Reading) (states after b : List ℕ) (s : Spot) (steps : List Step) → length states ≡ 32 → AreBelow steps 32 →
    Stands (record { reading = old; states = states }) b s → Follows standard old states new after steps →
    IsCoded b (s.past ++ shifted 0 steps) × Stands (record { reading = new; states = after }) b (behind s (shifted 0 steps))
stands_on old new states after b s steps long below st follows =
    let here : AreBelow steps (length states) = rw long below in (
      coded_behind old new states after b 0 s.past steps st.bytes st.at here st.states follows,
      record {
        bytes = follows.bytes ∙ st.bytes;
        at = at_behind old new states after b 0 s.past steps st.bytes st.at here st.states follows;
        states = has_behind old new states after b 0 s.past steps st.bytes st.at here st.states follows;
        below = AreBelow-append s.past (shifted 0 steps) s.fresh st.below (shifted_within 0 32 s.fresh steps below (omega (arith, st.room)));
        room = st.room;
      },
    )

-- by those of a table
pub stands_in : (old new : Reading) (row states after b : List ℕ) (base : ℕ) (s : Spot) (steps : List Step) → length row ≡ 32 → length states ≡ 32 → AreBelow steps 32 →
    StandsIn (record { reading = old; states = row }) states b base s → Follows standard old states new after steps →
    IsCoded b (s.past ++ shifted base steps) × StandsIn (record { reading = new; states = row }) after b base (behind s (shifted base steps))
stands_in old new row states after b base s steps row_long long below st follows =
    let here : AreBelow steps (length states) = rw long below in
    let stands = st.stands in
    let above = st.above in
    let beside : AreOutside (shifted base steps) 0 (length row) = shifted_beside base (length row) steps (omega (arith, row_long, above)) in (
      coded_behind old new states after b base s.past steps stands.bytes stands.at here st.table follows,
      record {
        stands = record {
          bytes = follows.bytes ∙ stands.bytes;
          at = at_behind old new states after b base s.past steps stands.bytes stands.at here st.table follows;
          states = others_have standard row 0 s.past (shifted base steps) beside stands.states;
          below = AreBelow-append s.past (shifted base steps) s.fresh stands.below (shifted_within base 32 s.fresh steps below st.kept);
          room = stands.room;
        };
        above = st.above;
        kept = st.kept;
        table = has_behind old new states after b base s.past steps stands.bytes stands.at here st.table follows;
      },
    )

-- fresh states are those of the next table
pub stands_fresh : (a : Source) (b : List ℕ) (s : Spot) → Stands a b s →
    StandsIn a (replicate 32 128) b s.fresh (record { past = s.past; fresh = s.fresh + 32 })
stands_fresh a b s st =
    let room = st.room in
    record {
      stands = record {
        bytes = st.bytes;
        at = st.at;
        states = st.states;
        below = still s.past st.below;
        room = omega arith;
      };
      above = st.room;
      kept = omega arith;
      table = others_have standard (replicate 32 128) s.fresh [] s.past (below_beside s.fresh (length {A = ℕ} (replicate 32 128)) s.past st.below) (fresh_has standard 32 s.fresh);
    }
  where
    still : (steps : List Step) → AreBelow steps s.fresh → AreBelow steps (s.fresh + 32)
    still steps h = below_more s.fresh (s.fresh + 32) steps (omega arith) h
