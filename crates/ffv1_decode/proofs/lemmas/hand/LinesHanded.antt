-- Lines of several planes are handed over.
use Rattle.std.proofs.Common.{◌≡◌, refl, ℕ, zero, suc, ◌+◌, ◌-◌, ◌<◌, List, [], ◌∷◌, ◌++◌, map, get_or, ap, sym, subst, ◌∙◌, arith, append_assoc}
use Rattle.std.specs.List.{range_with_len}
use Rattle.ffv1_wire.specs.Runs.{LineStep, Line, Grows}
use Rattle.ffv1_record.specs.Accepted.{Accepted}
use Rattle.ffv1_decode.specs.declared.column.Column.{Column}
use Rattle.ffv1_frame.specs.declared.fault.FrameFault.{FrameFault}
use Rattle.ffv1_frame.specs.Runs.{Runs}
use Rattle.ffv1_frame.specs.Order.{Event, numbered, hand_events}
use Rattle.ffv1_frame.specs.Order.Event.{Hand}
use Rattle.ffv1_frame.specs.Decoding.{State, StepsBy, top_of}
use Rattle.ffv1_decode.specs.Internal.Tied.{AreTold}
use Rattle.ffv1_decode.specs.Internal.Progress.{Handed, RefusedIn, sink_fault}
use Rattle.ffv1_decode.proofs.lemmas.RunsInRow.{runs_append, runs_one}

abbrev pub hand_at : ℕ → ℕ → ℕ × ℕ → Event
hand_at r y ip = Hand r ip.0 ip.1 y

abbrev hands_from : ℕ → ℕ → ℕ → ℕ → ℕ → List Event
hands_from r y i first n = map (hand_at r y) (numbered i (range_with_len first n))

hands_more : (r y i first n : ℕ) → hands_from r y i first (suc n) ≡ hands_from r y i first n ++ (Hand r (i + n) (first + n) y ∷ [])
hands_more r y i first zero =
    let one : i ≡ i + 0 = omega arith in
    let two : first ≡ first + 0 = omega arith in
    let f : ℕ → ℕ → List Event = λ a b. Hand r a b y ∷ [] in
    ap (λ a. f a first) one ∙ ap (f (i + 0)) two
hands_more r y i first (suc n) =
    let rest = hands_more r y (suc i) (first + 1) n in
    let one : suc i + n ≡ i + suc n = omega arith in
    let two : first + 1 + n ≡ first + suc n = omega arith in
    let f : ℕ → ℕ → List Event = λ a b. Hand r i first y ∷ (hands_from r y (suc i) (first + 1) n ++ (Hand r a b y ∷ [])) in
    let g : List Event → List Event = λ z. Hand r i first y ∷ z in
    ap g rest ∙ ap (λ a. f a (first + 1 + n)) one ∙ ap (f (i + suc n)) two

pub hand_more : (r first y n : ℕ) → hand_events r (range_with_len first (suc n)) y ≡ hand_events r (range_with_len first n) y ++ (Hand r n (first + n) y ∷ [])
hand_more r first y n =
    let zero_is : 0 + n ≡ n = omega arith in
    hands_more r y 0 first n ∙ ap (λ a. hand_events r (range_with_len first n) y ++ (Hand r a (first + n) y ∷ [])) zero_is

pub record HandRest (r first y n many : ℕ) : Type 0 where
  pub rest : List Event
  pub is : hand_events r (range_with_len first many) y ≡ hand_events r (range_with_len first n) y ++ (Hand r n (first + n) y ∷ rest)

hand_rest_by : (r first y n d : ℕ) → HandRest r first y n (n + suc d)
hand_rest_by r first y n zero =
    let at : n + 1 ≡ suc n = omega arith in
    record { rest = []; is = ap (λ k. hand_events r (range_with_len first k) y) at ∙ hand_more r first y n }
hand_rest_by r first y n (suc d) =
    let before = hand_rest_by r first y n d in
    let at : n + suc (suc d) ≡ suc (n + suc d) = omega arith in
    let last = Hand r (n + suc d) (first + (n + suc d)) y ∷ [] in
    record {
      rest = before.rest ++ last;
      is = ap (λ k. hand_events r (range_with_len first k) y) at ∙ hand_more r first y (n + suc d) ∙ ap (λ z. z ++ last) before.is
          ∙ append_assoc (hand_events r (range_with_len first n) y) (Hand r n (first + n) y ∷ before.rest) last;
    }

pub hand_rest : (r first y n many : ℕ) → n < many → HandRest r first y n many
hand_rest r first y n many less = let same : n + suc (many - suc n) ≡ many = omega (arith, less) in subst (λ k. HandRest r first y n k) same (hand_rest_by r first y n (many - suc n))

-- one line more
pub grows_more : {S : Type 0} (takes : LineStep S) (s m t : S) (lines : List Line) (l : Line) → Grows takes s lines m → takes m l.plane l.row l.samples t → Grows takes s (lines ++ (l ∷ [])) t
grows_more takes s m t [] l f h = (t, subst (λ z. takes z l.plane l.row l.samples t) f h, refl)
grows_more takes s m t (x ∷ xs) l f h = (f.0, f.1, grows_more takes f.0 m t xs l f.2 h)

module _ {S : Type 0} (takes refuses : LineStep S) (a : Accepted) (coded : ℕ → List ℕ) (initial : S) (r first y : ℕ) (s : State) where
  module _ (n : ℕ) (now new : S) (samples : List ℕ) (done : Handed takes refuses a coded initial r first n y now s) (samples_are : get_or s.out n [] ≡ samples) where
    here : get_or done.state.out n [] ≡ samples
    here = ap (λ (z : State). get_or z.out n []) done.same ∙ samples_are

    pub one_handed : takes now (first + n) (top_of a.configuration (first + n) r + y) samples new → Handed takes refuses a coded initial r first (suc n) y new s
    one_handed taken =
        let p = first + n in
        let l : Line = record { plane = p; row = top_of a.configuration p r + y; samples = get_or done.state.out n [] } in
        let t : State = record done.state { lines = done.state.lines ++ (l ∷ []) } in
        let taken = subst (λ z. takes now p (top_of a.configuration p r + y) z new) (sym here) taken in
        record {
          state = t;
          runs = subst (λ es. Runs (StepsBy a coded) s es t) (sym (hand_more r first y n))
              (runs_append (StepsBy a coded) s done.state t (hand_events r (range_with_len first n) y) (Hand r n p y ∷ []) done.runs (runs_one (StepsBy a coded) done.state t (Hand r n p y) refl));
          same = ap (λ (z : State). record z { lines = t.lines }) done.same;
          grows = grows_more takes initial now new done.state.lines l done.grows taken;
        }

    pub one_refused : (columns : List Column) (many : ℕ) (f : FrameFault) → n < many → AreTold a.table columns s → f ≡ sink_fault a.configuration r (first + n) y →
        refuses now (first + n) (top_of a.configuration (first + n) r + y) samples new → RefusedIn takes refuses a coded initial r columns (hand_events r (range_with_len first many) y) f new s
    one_refused columns many f few told is refused =
        let left = hand_rest r first y n many few in
        let same = ap (λ (z : State). z.columns) done.same in
        record {
          state = done.state;
          number = n;
          plane = first + n;
          line = y;
          before = hand_events r (range_with_len first n) y;
          after = left.rest;
          parts = left.is;
          runs = done.runs;
          told = subst (λ z. AreTold a.table columns z) (sym done.same) (record { long = told.long; each = told.each });
          done = ap (λ (z : State). z.done) done.same;
          is = is;
          between = now;
          grows = done.grows;
          last = subst (λ z. refuses now (first + n) (top_of a.configuration (first + n) r + y) z new) (sym here) refused;
        }
