-- Bytes code one row at most, with the states that the history names.
use Rattle.std.proofs.Common.{◌≡◌, refl, ℕ, zero, suc, ◌+◌, ◌<◌, ◌≤◌, List, [], ◌∷◌, ◌++◌, length, get_or, arith, ap, sym, subst, ◌∙◌, ℤ}
use Rattle.ffv1_range.specs.Table.{Table, IsTable}
use Rattle.ffv1_range.specs.Codes.{Codes, AreBytes, AreStates}
use Rattle.ffv1_range.specs.Symbols.{Step, decided, shifted}
use Rattle.ffv1_range.specs.History.{state_of, decisions_after, AreBelow, HasStates}
use Rattle.ffv1_range.proofs.HistoryLemmas.{decided_is}
use Rattle.ffv1_range.proofs.OneAfter.{after_append}
use Rattle.ffv1_range.proofs.Named.{named}
use Rattle.ffv1_line.specs.Cell.{Cell, Above}
use Rattle.ffv1_line.specs.Row.{row_steps}
use Rattle.ffv1_line.specs.Coded.{AreSame, CodesSteps, CodesRow, RefusesRow, refused_row_steps}
use Rattle.ffv1_line.proofs.lemmas.laws.SameRow.{one_row, whole_or_refused, one_refusal}
use Rattle.ffv1_line.specs.Coding.{RowCoding}

-- the states of the slots from base on
unfoldable states_from : Table → ℕ → List Step → ℕ → List ℕ
states_from t base past zero = []
states_from t base past (suc n) = state_of t base past ∷ states_from t (suc base) past n

length-states : (t : Table) (base : ℕ) (past : List Step) (n : ℕ) → length (states_from t base past n) ≡ n
unfolding states_from
length-states t base past zero = refl
length-states t base past (suc n) = ap suc (length-states t (suc base) past n)

state_at : (t : Table) (base : ℕ) (past : List Step) (n slot : ℕ) → slot < n → get_or (states_from t base past n) slot 0 ≡ state_of t (base + slot) past
unfolding states_from
state_at t base past zero slot h = absurd (omega (arith, h))
state_at t base past (suc n) zero h = ap (λ k. state_of t k past) (omega arith)
state_at t base past (suc n) (suc slot) h = state_at t (suc base) past n slot (omega (arith, h)) ∙ ap (λ k. state_of t k past) (omega arith)

has_states : (t : Table) (base : ℕ) (past : List Step) (n : ℕ) → HasStates t (states_from t base past n) base past
has_states t base past n = record { each = λ slot h. state_at t base past n slot (omega (arith, h, length-states t base past n)) }

-- a number above each slot
unfoldable slots_of : List Step → ℕ
slots_of [] = 0
slots_of (s ∷ ss) = suc s.slot + slots_of ss

below_more : (ss : List Step) (n m : ℕ) → n ≤ m → AreBelow ss n → AreBelow ss m
below_more [] n m h f = tt
below_more (s ∷ ss) n m h f = let first = f.0 in (omega (arith, h, first), below_more ss n m h f.1)

below_slots : (ss : List Step) → AreBelow ss (slots_of ss)
unfolding slots_of
below_slots [] = tt
below_slots (s ∷ ss) = (omega arith, below_more ss (slots_of ss) (suc s.slot + slots_of ss) (omega arith) (below_slots ss))

-- after a history is after its decisions, by the states that it left
coded_by : (bytes : List ℕ) (t : Table) (base : ℕ) (past steps : List Step) (n : ℕ) → IsTable t.floor t.one → AreBelow steps n → Codes bytes (decisions_after t [] (past ++ shifted base steps)) →
    CodesSteps bytes (decisions_after t [] past) t (states_from t base past n) steps
coded_by bytes t base past steps n table below codes =
    let is : decided t (states_from t base past n) steps ≡ decisions_after t past (shifted base steps) =
    decided_is t (states_from t base past n) base past steps (subst (AreBelow steps) (sym (length-states t base past n)) below) (has_states t base past n) in
    record {
      named = subst AreStates (sym is) (named t table past (shifted base steps));
      codes = subst (Codes bytes) (after_append t [] past (shifted base steps) ∙ ap (λ ds. decisions_after t [] past ++ ds) (sym is)) codes;
    }

module _ (bytes : List ℕ) (are : AreBytes bytes) (coding : RowCoding) (table : IsTable coding.table.floor coding.table.one) (base : ℕ) (past : List Step) (c : Cell) (y : ℕ) (d : Cell) (z : ℕ) (two one : List ℕ) (some : 0 < length one) (in_c : Above c y two one) (in_d : Above d z two one) (ps qs : List ℤ) where
  -- both by states enough for both lists
  first_by : (xs ys : List Step) → Codes bytes (decisions_after coding.table [] (past ++ shifted base xs)) → CodesSteps bytes (decisions_after coding.table [] past) coding.table (states_from coding.table base past (slots_of xs + slots_of ys)) xs
  first_by xs ys f = coded_by bytes coding.table base past xs (slots_of xs + slots_of ys) table (below_more xs (slots_of xs) (slots_of xs + slots_of ys) (omega arith) (below_slots xs)) f

  second_by : (xs ys : List Step) → Codes bytes (decisions_after coding.table [] (past ++ shifted base ys)) → CodesSteps bytes (decisions_after coding.table [] past) coding.table (states_from coding.table base past (slots_of xs + slots_of ys)) ys
  second_by xs ys f = coded_by bytes coding.table base past ys (slots_of xs + slots_of ys) table (below_more ys (slots_of ys) (slots_of xs + slots_of ys) (omega arith) (below_slots ys)) f

  pub one_row_after : length ps ≡ length qs → CodesRow bytes coding base past c y ps → CodesRow bytes coding base past d z qs → (ps ≡ qs) × AreSame c y d z (length ps)
  one_row_after long f g =
      let xs = row_steps coding.set c y 0 ps in
      let ys = row_steps coding.set d z 0 qs in
      one_row bytes are (decisions_after coding.table [] past) coding (states_from coding.table base past (slots_of xs + slots_of ys)) c y d z two one some in_c in_d ps qs long
      (record { suits = f.suits; coded = first_by xs ys f.codes }) (record { suits = g.suits; coded = second_by xs ys g.codes })

  pub whole_or_refused_after : length qs < length ps → CodesRow bytes coding base past c y ps → RefusesRow bytes coding base past d z qs → ⊥
  whole_or_refused_after short f g =
      let xs = row_steps coding.set c y 0 ps in
      let ys = refused_row_steps coding.set d z qs in
      whole_or_refused bytes are (decisions_after coding.table [] past) coding (states_from coding.table base past (slots_of xs + slots_of ys)) c y d z two one some in_c in_d ps qs short
      (record { suits = f.suits; coded = first_by xs ys f.codes }) (record { suits = g.suits; coded = second_by xs ys g.codes })

  pub one_refusal_after : RefusesRow bytes coding base past c y ps → RefusesRow bytes coding base past d z qs → (ps ≡ qs) × AreSame c y d z (length ps)
  one_refusal_after f g =
      let xs = refused_row_steps coding.set c y ps in
      let ys = refused_row_steps coding.set d z qs in
      one_refusal bytes are (decisions_after coding.table [] past) coding (states_from coding.table base past (slots_of xs + slots_of ys)) c y d z two one some in_c in_d ps qs
      (record { suits = f.suits; coded = first_by xs ys f.codes }) (record { suits = g.suits; coded = second_by xs ys g.codes })
