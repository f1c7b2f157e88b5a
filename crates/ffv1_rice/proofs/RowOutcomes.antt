-- Bits begin with the places of one row, up to its end or to where it is refused.
use Rattle.std.proofs.Common.{◌≡◌, refl, sym, ◌∙◌, ap, ap₂, subst, ℕ, zero, suc, ◌+◌, ◌-◌, ◌^◌, ◌<◌}
use Rattle.std.proofs.Common.{◌⊎◌, Bool, true, false, List, [], ◌∷◌, ◌++◌, length, drop}
use Rattle.std.proofs.Common.{get_or}
use Rattle.std.proofs.Common.{Some, None, inl, inr, arith, ℤ, pos, negsuc}
use Rattle.std.proofs.Common.{length-append, ◌<ℤ◌}
use Rattle.std.proofs.Common.{true≢false}
use Rattle.std.proofs.lemmas.Bool.{cases_Bool}
use Rattle.std.proofs.lemmas.Nat.{pow_pos}
use Rattle.std.proofs.lemmas.List.{append_cancel_left}
use Rattle.std.proofs.lemmas.Int.{ints}
use Rattle.ffv1_plane.specs.Residual.{IsFolded}
use Rattle.ffv1_rice.specs.Bits.{binary}
use Rattle.ffv1_rice.specs.Number.{Ends}
use Rattle.ffv1_rice.specs.Run.{run_log, EndsInRun, LeavesRow}
use Rattle.ffv1_rice.specs.States.{parameter}
use Rattle.ffv1_rice.specs.Scalar.{scalar_bits}
use Rattle.ffv1_rice.specs.declared.state.State.{State}
use Rattle.ffv1_rice.specs.Row.{Place, Coder, begun, shortened, is_zero, bits_in, place_bits}
use Rattle.ffv1_rice.specs.Row.{place_after}
use Rattle.ffv1_rice.specs.Row.{places_bits, places_after, end_bits, AreFolded, IsRunning}
use Rattle.ffv1_rice.specs.Rows.{StopsAt, IsNone}
use Rattle.ffv1_rice.proofs.Binary.{length-binary}
use Rattle.ffv1_rice.proofs.Differences.{differences_one, difference_ends_not, difference_bad_not}
use Rattle.ffv1_rice.proofs.RowCodes.{begun_cases, running_after, shortened_folded}
use Rattle.ffv1_rice.proofs.RowCodes.{shortened_same, zero_is, place_of, length_of, is_on}
use Rattle.ffv1_rice.proofs.RunsOn.{IsTail, GoesOn, goes_past, break_next, head}
use Rattle.ffv1_rice.proofs.RunsOn.{zero_goes_on, place_goes_on, binary_same}

-- ---- two rows with the same bits have the same first place

scalar_next : (depth : ℕ) (c : Coder) (p : Place) (ps : List Place) (t : List Bool) →
    begun c.run p.context ≡ None → places_bits depth c (p ∷ ps) ++ t ≡ scalar_bits depth
    (c.states p.context) p.difference ++ (places_bits depth (place_after depth c p) ps ++ t)
scalar_next depth c p ps t none =
    head depth c p ps t (scalar_bits depth (c.states p.context) p.difference)
    (place_after depth c p) (ap (bits_in depth c p) none) refl

parted : (depth : ℕ) (c : Coder) (p q : Place) (ps qs : List Place) (n left : ℕ)
    (t u : List Bool) → begun c.run p.context ≡ Some n → begun c.run q.context ≡ Some n → n < 2 ^
    run_log c.index → is_zero p.difference ≡ true → is_zero q.difference ≡ false →
    IsTail (places_after depth c (p ∷ ps)) left t →
    places_bits depth c (p ∷ ps) ++ t ≡ places_bits depth c (q ∷ qs) ++ u → ⊥
parted depth c p q ps qs n left t u one two few flat some tail is =
    goes_past (run_log c.index) n (length ps + left) (places_bits depth c (p ∷ ps) ++ t)
    (scalar_bits depth (c.states q.context) (shortened q.difference) ++
    (places_bits depth (place_after depth c q) qs ++ u))
    (zero_goes_on depth c p ps n left t one few flat tail) few
    (is ∙ break_next depth c q qs n u two some)

first_same : (depth : ℕ) (c : Coder) (p q : Place) (ps qs : List Place) (left left' : ℕ)
    (t u : List Bool) → 0 < depth → IsRunning c.index c.run → p.context ≡ q.context → IsFolded depth
    p.difference → IsFolded depth q.difference →
    IsTail (places_after depth c (p ∷ ps)) left t → IsTail (places_after depth c (q ∷ qs)) left' u →
    places_bits depth c (p ∷ ps) ++ t ≡ places_bits depth c (q ∷ qs) ++ u → p.difference ≡
    q.difference
first_same depth c p q ps qs left left' t u some small context folded folded' tail tail' is =
    let rest = places_bits depth (place_after depth c p) ps ++ t in
    let rest' = places_bits depth (place_after depth c q) qs ++ u in
    let s = c.states p.context in
    let other : c.states q.context ≡ s = ap c.states (sym context) in
    elim (begun_cases c.index p.context c.run small) [
      | inl none ↦
          let none' : begun c.run q.context ≡ None = ap (begun c.run) (sym context) ∙ none in
          (differences_one depth s p.difference q.difference rest rest' some folded folded'
          (sym (scalar_next depth c p ps t none) ∙ is ∙ scalar_next depth c q qs u none'
          ∙ ap (λ s. scalar_bits depth s q.difference ++ rest') other)).0
      | inr begins ↦
          let n = begins.0 in
          let begins' : begun c.run q.context ≡ Some n = ap (begun c.run) (sym context) ∙ begins.1
          in
          elim (cases_Bool (is_zero p.difference)) [
            | inl flat ↦ elim (cases_Bool (is_zero q.difference)) [
              | inl flat' ↦ zero_is p.difference flat ∙ sym (zero_is q.difference flat')
              | inr broken' ↦ absurd (parted depth c p q ps qs n left t u begins.1 begins' begins.2
                  flat broken' tail is)
            ]
            | inr broken ↦ elim (cases_Bool (is_zero q.difference)) [
              | inl flat' ↦ absurd (parted depth c q p qs ps n left' u t begins' begins.1 begins.2
                  flat' broken tail' (sym is))
              | inr broken' ↦
                  let log = run_log c.index in
                  let one = break_next depth c p ps n t begins.1 broken in
                  let two = break_next depth c q qs n u begins' broken'
                  ∙ ap (λ s. false ∷ (binary log n ++ (scalar_bits depth s
                  (shortened q.difference) ++ rest'))) other in
                  let low = append_cancel_left (binary log n)
                  (scalar_bits depth s (shortened p.difference) ++ rest)
                  (scalar_bits depth s (shortened q.difference) ++ rest')
                  (ap (drop 1) (sym one ∙ is ∙ two)) in
                  shortened_same p.difference q.difference broken broken'
                  (differences_one depth s (shortened p.difference) (shortened q.difference) rest
                  rest' some (shortened_folded depth p.difference folded)
                  (shortened_folded depth q.difference folded') low).0
            ]
          ]
    ]

-- ---- how a reading stops: at the end of the row, or where it is refused

-- for either reason
abbrev pub IsStop : ℕ → Coder → ℕ → ℕ → List Bool → Type 0
IsStop depth c context left text = StopsAt c context text
    (λ u. EndsInRun c.index u ⊎ LeavesRow c.index left u)
    (λ is_behind u. Ends depth (parameter (c.states context)) u ⊎
    IsNone depth (c.states context) is_behind u)

abbrev pub Stops : ℕ → Coder → ℕ → ℕ → List Bool → Type 0
Stops depth c context left text =
    ((left ≡ 0) × ((rest : List Bool) × (text ≡ end_bits c.run ++ rest))) ⊎
    ((0 < left) × IsStop depth c context left text)

pub same_run : (m n : ℕ) → Some m ≡ Some n → m ≡ n
unfolding length_of
same_run m n is = ap length_of is

pub not_none : (n : ℕ) → Some n ≡ None → ⊥
unfolding is_on
not_none n is = true≢false (ap is_on is)

stops_tail : (depth : ℕ) (c : Coder) (context left : ℕ) (text : List Bool) → IsRunning c.index
    c.run → Stops depth c context left text → IsTail c left text
stops_tail depth c context left text small (inl end) = record {
  some = λ m run. inl (end.1.0, end.1.1 ∙ ap (λ run. end_bits run ++ end.1.0) run);
}
stops_tail depth c context left text small (inr (some, inl scalar)) = record {
  some = λ m run. absurd (not_none (suc m) (sym (ap (λ run. begun run context) run) ∙ scalar.0));
}
stops_tail depth c context left text small (inr (some, inr (inl first))) = record {
  some = λ m run. let same = same_run (suc m) 0 (sym (ap (λ run. begun run context) run) ∙
      first.0) in absurd (omega (arith, same));
}
stops_tail depth c context left text small (inr (some, inr (inr behind))) = record {
  some = λ m run.
      let same : suc m ≡ behind.0 = same_run (suc m) behind.0
      (sym (ap (λ run. begun run context) run) ∙ behind.2) in
      inr (record {
        zeros = suc m;
        rest = behind.1;
        is = rw same behind.3;
        least = omega arith;
        few = small (suc m) run;
        within = omega (arith, some);
      });
}

-- the greatest difference does not stand after a run
not_greatest : (half : ℕ) (d : ℤ) → 0 < half → d <ℤ pos half → is_zero d ≡ false → shortened d ≡ pos
    (half - 1) → ⊥
not_greatest half (pos zero) some most other is = absurd (true≢false other)
not_greatest half (pos (suc n)) some most other is = absurd (omega (arith, ints, is, most, some))
not_greatest half (negsuc n) some most other is = absurd (omega (arith, ints, is))

pub greatest_folded : (depth : ℕ) → IsFolded depth (pos (2 ^ (depth - 1) - 1))
greatest_folded depth = let some = pow_pos (depth - 1) in record {
  least = omega (arith, ints);
  most = omega (arith, ints, some);
}

-- no difference stands where none can be read
none_stands : (depth : ℕ) (s : State) (d : ℤ) (is_behind : Bool) (text rest : List Bool) → 0 <
    depth → IsFolded depth d → text ≡ scalar_bits depth s d ++ rest →
    (is_behind ≡ true → d ≡ pos (2 ^ (depth - 1) - 1) → ⊥) →
    Ends depth (parameter s) text ⊎ IsNone depth s is_behind text → ⊥
none_stands depth s d is_behind text rest some folded is other (inl ends) =
    difference_ends_not depth s d text rest some is ends
none_stands depth s d is_behind text rest some folded is other (inr (inl bad)) =
    difference_bad_not depth s d text rest some is bad
none_stands depth s d is_behind text rest some folded is other (inr (inr great)) =
    other great.0 (differences_one depth s d (pos (2 ^ (depth - 1) - 1)) rest great.1.0 some folded
    (greatest_folded depth) (sym is ∙ great.1.1)).0

-- a run that goes on has its bits, and is broken within the row
run_stands : (index left : ℕ) (text : List Bool) → GoesOn (run_log index) 0 left text →
    EndsInRun index text ⊎ LeavesRow index left text → ⊥
run_stands index left text (inl whole) (inl (inl none)) =
    let long = ap length (sym whole.1 ∙ none) in absurd (omega (arith, long))
run_stands index left text (inl whole) (inl (inr short)) =
    true≢false (ap (λ bits. get_or bits 0 false) (sym whole.1 ∙ short.1))
run_stands index left text (inl whole) (inr leaves) =
    true≢false (ap (λ bits. get_or bits 0 false) (sym whole.1 ∙ leaves.is))
run_stands index left text (inr broken) (inl (inl none)) =
    let long = ap length (sym broken.is ∙ none) in absurd (omega (arith, long))
run_stands index left text (inr broken) (inl (inr short)) =
    let log = run_log index in
    let long = ap length (ap (drop 1) (sym short.1 ∙ broken.is)) ∙
    length-append (binary log broken.zeros) broken.rest in
    let field = length-binary log broken.zeros in
    let less = short.2 in
    absurd (omega (arith, long, field, less))
run_stands index left text (inr broken) (inr leaves) =
    let log = run_log index in
    let same = (binary_same log broken.zeros leaves.zeros broken.rest leaves.rest broken.few
    leaves.few (ap (drop 1) (sym broken.is ∙ leaves.is))).0 in
    let within = broken.within in
    let beyond = leaves.beyond in
    absurd (omega (arith, same, within, beyond))

-- where a place stands nothing is refused
place_stands : (depth : ℕ) (c : Coder) (q : Place) (qs : List Place) (left left' : ℕ)
    (t u : List Bool) → 0 < depth → IsRunning c.index c.run → IsFolded depth q.difference →
    left ≡ suc (length qs) + left' → IsTail (places_after depth c (q ∷ qs)) left' u → t ≡
    places_bits depth c (q ∷ qs) ++ u → IsStop depth c q.context left t → ⊥
place_stands depth c q qs left left' t u some small folded room tail is (inl scalar) =
    none_stands depth (c.states q.context) q.difference false t
    (places_bits depth (place_after depth c q) qs ++ u) some folded
    (is ∙ scalar_next depth c q qs u scalar.0) (λ turns. absurd (true≢false (sym turns))) scalar.1
place_stands depth c q qs left left' t u some small folded room tail is (inr (inl first)) =
    run_stands c.index left t (subst (GoesOn (run_log c.index) 0 left) (sym is)
    (subst (λ n. GoesOn (run_log c.index) 0 n (places_bits depth c (q ∷ qs) ++ u)) (sym room)
    (place_goes_on depth c q qs 0 left' u first.0 (pow_pos (run_log c.index)) tail))) first.1
place_stands depth c q qs left left' t u some small folded room tail is (inr (inr behind)) =
    let n = behind.0 in
    let log = run_log c.index in
    let few : n < 2 ^ log = elim (begun_cases c.index q.context c.run small) [
      | inl none ↦ absurd (not_none n (sym behind.2 ∙ none))
      | inr on ↦ let same = same_run n on.0 (sym behind.2 ∙ on.1) in rw same on.2
    ] in
    elim (cases_Bool (is_zero q.difference)) [
      | inl flat ↦ goes_past log n (length qs + left') t behind.1
          (subst (GoesOn log (suc n) (length qs + left')) (sym is)
          (zero_goes_on depth c q qs n left' u behind.2 few flat tail)) few behind.3
      | inr broken ↦
          let s = c.states q.context in
          let rest = places_bits depth (place_after depth c q) qs ++ u in
          let code = scalar_bits depth s (shortened q.difference) in
          let low : behind.1 ≡ code ++ rest = append_cancel_left (binary log n) behind.1
          (code ++ rest) (ap (drop 1) (sym behind.3 ∙ is ∙ break_next depth c q qs n u behind.2
          broken)) in
          none_stands depth s (shortened q.difference) true behind.1 rest some
          (shortened_folded depth q.difference folded) low
          (λ turns great. not_greatest (2 ^ (depth - 1)) q.difference (pow_pos (depth - 1))
          folded.most broken great) behind.4
    ]

-- ---- two readings of the same bits

-- their next places have the same contexts as long as their differences agree
abbrev pub AreBeside : List Place → ℕ → List Place → ℕ → Type 0
AreBeside [] c [] d = c ≡ d
AreBeside [] c (q ∷ qs) d = c ≡ q.context
AreBeside (p ∷ ps) c [] d = p.context ≡ d
AreBeside (p ∷ ps) c (q ∷ qs) d =
    (p.context ≡ q.context) × (p.difference ≡ q.difference → AreBeside ps c qs d)

running_places : (depth : ℕ) (c : Coder) (ps : List Place) → IsRunning c.index c.run →
    IsRunning (places_after depth c ps).index (places_after depth c ps).run
unfolding places_after
running_places depth c [] small = small
running_places depth c (p ∷ ps) small =
    running_places depth (place_after depth c p) ps (running_after depth c p small)

none_before : (depth : ℕ) (c : Coder) (t : List Bool) → places_bits depth c [] ++ t ≡ t
unfolding places_bits
none_before depth c t = refl

none_after : (depth : ℕ) (c : Coder) → places_after depth c [] ≡ c
unfolding places_after
none_after depth c = refl

after_first : (depth : ℕ) (c : Coder) (p : Place) (ps : List Place) → places_after depth c
    (p ∷ ps) ≡ places_after depth (place_after depth c p) ps
unfolding places_after
after_first depth c p ps = refl

-- a reading that stops where the other goes on
stops_before : (depth : ℕ) (c : Coder) (q : Place) (qs : List Place) (context left left' : ℕ)
    (t u : List Bool) → 0 < depth → IsRunning c.index c.run → IsFolded depth q.difference →
    left ≡ suc (length qs) + left' → context ≡ q.context → IsTail (places_after depth c (q ∷ qs))
    left' u → t ≡ places_bits depth c (q ∷ qs) ++ u → Stops depth c context left t → ⊥
stops_before depth c q qs context left left' t u some small folded room at tail is (inl end) =
    let none = end.0 in absurd (omega (arith, none, room))
stops_before depth c q qs context left left' t u some small folded room at tail is (inr (
  more,
  stop,
)) =
    place_stands depth c q qs left left' t u some small folded room tail is
    (subst (λ k. IsStop depth c k left t) at stop)

pub same_places : (depth : ℕ) (c : Coder) (ps qs : List Place) (context context' left left' : ℕ)
    (t u : List Bool) → 0 < depth → IsRunning c.index c.run → AreBeside ps context qs context' →
    AreFolded depth ps → AreFolded depth qs → length ps + left ≡ length qs + left' →
    Stops depth (places_after depth c ps) context left t → Stops depth (places_after depth c qs)
    context' left' u → places_bits depth c ps ++ t ≡ places_bits depth c qs ++ u → ps ≡ qs
same_places depth c [] [] context context' left left' t u some small alike folded folded' room stop
    stop' is = refl
same_places depth c [] (q ∷ qs) context context' left left' t u some small alike folded folded' room
    stop stop' is =
    absurd (stops_before depth c q qs context left left' t u some small folded'.0
    (omega (arith, room)) alike (stops_tail depth (places_after depth c (q ∷ qs)) context' left' u
    (running_places depth c (q ∷ qs) small) stop') (sym (none_before depth c t) ∙ is)
    (subst (λ d. Stops depth d context left t) (none_after depth c) stop))
same_places depth c (p ∷ ps) [] context context' left left' t u some small alike folded folded' room
    stop stop' is =
    absurd (stops_before depth c p ps context' left' left u t some small folded.0
    (omega (arith, room)) (sym alike) (stops_tail depth (places_after depth c (p ∷ ps)) context left
    t (running_places depth c (p ∷ ps) small) stop) (sym (none_before depth c u) ∙ sym is)
    (subst (λ d. Stops depth d context' left' u) (none_after depth c) stop'))
same_places depth c (p ∷ ps) (q ∷ qs) context context' left left' t u some small alike folded
    folded' room stop stop' is =
    let same = first_same depth c p q ps qs left left' t u some small alike.0 folded.0 folded'.0
    (stops_tail depth (places_after depth c (p ∷ ps)) context left t
    (running_places depth c (p ∷ ps) small) stop)
    (stops_tail depth (places_after depth c (q ∷ qs)) context' left' u
    (running_places depth c (q ∷ qs) small) stop') is in
    let place = place_of p q alike.0 same in
    let next = place_after depth c p in
    let equal : place_after depth c q ≡ next = ap (place_after depth c) (sym place) in
    let bits : place_bits depth c q ≡ place_bits depth c p = ap (place_bits depth c) (sym place) in
    let rest = append_cancel_left (place_bits depth c p) (places_bits depth next ps ++ t)
    (places_bits depth next qs ++ u)
    (sym (head depth c p ps t (place_bits depth c p) next refl refl) ∙ is
    ∙ head depth c q qs u (place_bits depth c p) next bits equal) in
    ap₂ (λ x l. x ∷ l) place (same_places depth next ps qs context context' left left' t u some
    (running_after depth c p small) (alike.1 same) folded.1 folded'.1 (omega (arith, room))
    (subst (λ d. Stops depth d context left t) (after_first depth c p ps) stop)
    (subst (λ d. Stops depth d context' left' u) (after_first depth c q qs ∙ ap (λ d. places_after
    depth d qs) equal) stop') rest)
