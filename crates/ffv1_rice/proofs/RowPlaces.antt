-- Samples of places, and parts of runs.
use Rattle.std.proofs.Common.{◌≡◌, ◌≢◌, refl, sym, ◌∙◌, ap, ap₂, subst, ℕ, ◌+◌, ◌-◌, ◌^◌}
use Rattle.std.proofs.Common.{◌==◌}
use Rattle.std.proofs.Common.{◌<◌, ◌≤◌, ◌⊎◌, Bool, true, false, List, ◌∷◌, ◌++◌, length}
use Rattle.std.proofs.Common.{Option, Some, None, inl, inr, arith, ℤ, pos}
use Rattle.std.proofs.Common.{negsuc}
use Rattle.std.proofs.Common.{slice_set, get_or-set_same, slice_index, eq-eqb}
use Rattle.std.proofs.Common.{ne_eqb}
use Rattle.std.proofs.Common.{if◌then◌else◌, ◌-ℤ◌, ◌<ℤ◌, ◌≤ℤ◌, unsigned_abs}
use Rattle.std.proofs.lemmas.Nat.{pow_pos}
use Rattle.ffv1_plane.specs.Quantisation.{Set}
use Rattle.ffv1_line.specs.Beside.{beside, chosen_beside}
use Rattle.ffv1_plane.specs.Context.{size_of, flip_of}
use Rattle.ffv1_plane.specs.Prediction.{predicted_in}
use Rattle.ffv1_plane.specs.Residual.{chosen_of, folded, IsFolded}
use Rattle.ffv1_rice.specs.declared.state.State.{State}
use Rattle.ffv1_rice.specs.Run.{run_log}
use Rattle.ffv1_rice.specs.Row.{begun, places_bits}
use Rattle.ffv1_rice.specs.Row.{places_after}
use Rattle.ffv1_rice.specs.Row.{place_at, places_of, end_bits, is_zero}
use Rattle.ffv1_rice.specs.Row.{with_state}
use Rattle.ffv1_rice.specs.Scalar.{scalar_bits, scalar_after}
use Rattle.ffv1_rice.specs.Row.{coded}
use Rattle.ffv1_rice.specs.Rows.{Reading, SoFar, AgreeBelow, coder_of, Stretched, PlaceRead}
use Rattle.ffv1_rice.specs.Run.{IsRun}
use Rattle.std.proofs.lemmas.Int.{ints}
use Rattle.std.proofs.lemmas.Bool.{cases_lt, cases_eq, cases_Bool}
use mathlib.Core.Path.{fun_ext}
use Rattle.ffv1_plane.specs.declared.prediction.Around.{Around}
use Rattle.ffv1_plane.specs.Prediction.{predicted}
use Rattle.ffv1_plane.specs.Residual.{sample_of, turned, IsSuiting}
use Rattle.std.specs.Int.{int_rem_euclid}
use Rattle.std.proofs.Common.{◌+ℤ◌}
use Rattle.ffv1_plane.proofs.Folding.{only_chosen}
use Rattle.ffv1_rice.proofs.States.{half_small}
use Rattle.ffv1_rice.proofs.Scalars.{some_bits}
use Rattle.ffv1_rice.proofs.Runs.{run_log_last}
use Rattle.ffv1_rice.specs.declared.run.Run.{Run}
use Rattle.ffv1_rice.specs.declared.fault.Fault.{Fault}
use Rattle.ffv1_rice.specs.declared.fault.Fault.TheVariants.{BitsEnd, BadCode}
use Rattle.ffv1_rice.specs.Number.{Ends}
use Rattle.ffv1_rice.specs.States.{parameter}
use Rattle.ffv1_rice.specs.Rows.{IsNone, IsRefused}
use Rattle.ffv1_rice.proofs.Rows.{beside_same, agree_set, place_same, so_far_same, scalar_read}
use Rattle.ffv1_rice.proofs.Rows.{break_read}
use Rattle.ffv1_rice.proofs.Rows.{stretch_last, stretch_grown, before_break}

predicted_plain : (depth : ℕ) (a : Around) → (depth ≡ 8) ⊎ (depth ≡ 9) → predicted_in depth a ≡
    predicted a
predicted_plain depth a (inl is) = rw is refl
predicted_plain depth a (inr is) = rw is refl

folded_small : (half : ℕ) (d : ℤ) → half ≤ 256 → (pos 0 -ℤ pos half) ≤ℤ d → d <ℤ pos half →
    unsigned_abs d < 2 ^ 31
folded_small half (pos n) small least most = omega (arith, ints, small, most)
folded_small half (negsuc n) small least most = omega (arith, ints, small, least)

-- the sample that a difference makes has this difference
pub chosen_is : (set : Set) (depth : ℕ) (two one row : List ℕ) (x sample : ℕ) (d : ℤ) → (depth ≡ 8)
    ⊎ (depth ≡ 9) →
    x < length row → IsFolded depth d →
    pos sample ≡ sample_of depth (predicted (beside two one row x))
    (flip_of set (beside two one row x)) d →
    chosen_beside set depth two one (slice_set row x sample) x ≡ d
chosen_is set depth two one row x sample d depths inside folded made =
    let a = beside two one row x in
    let some = some_bits depth depths in
    let small = half_small depth (elim depths [
      | inl eight ↦ omega (arith, eight)
      | inr nine ↦
          omega (arith, nine)
    ]) in
    let same = beside_same x two one (slice_set row x sample) row x
    (agree_set x x sample row (omega arith)) (omega arith) in
    let at : slice_index (slice_set row x sample) x ≡ sample = get_or-set_same row x sample 0
    inside in
    let suits : IsSuiting depth (predicted a) (flip_of set a) sample d =
    record {
      size = folded_small (2 ^ (depth - 1)) d small folded.least folded.most;
      makes =
          made;
    } in
    let chosen = only_chosen depth (predicted a) (flip_of set a) sample d some suits folded in
    ap₂ (λ b s. chosen_of depth (predicted_in depth b) (flip_of set b) s) same at
    ∙ ap (λ p. chosen_of depth p (flip_of set a) sample) (predicted_plain depth a depths) ∙
    sym chosen

pub zero_folded : (depth : ℕ) → IsFolded depth (pos 0)
zero_folded depth = let some = pow_pos (depth - 1) in
    record { least = omega (arith, ints); most = omega (arith, ints, some) }

-- no flip changes a difference of 0
zero_turned : (flip : Bool) → turned flip (pos 0) ≡ pos 0
zero_turned false = refl
zero_turned true = omega (arith, ints)

pub zero_made : (depth : ℕ) (p : ℤ) (flip : Bool) → sample_of depth p flip (pos 0) ≡ sample_of depth
    p false (pos 0)
zero_made depth p flip = ap (λ v. int_rem_euclid (p +ℤ v) (pos (2 ^ depth))) (zero_turned flip)

-- one more difference of 0
pub zeros_next : (set : Set) (depth : ℕ) (two one row : List ℕ) (from x sample : ℕ) →
    ((k : ℕ) → from ≤ k → k < x → chosen_beside set depth two one row k ≡ pos 0) →
    chosen_beside set depth two one (slice_set row x sample) x ≡ pos 0 →
    (k : ℕ) → from ≤ k → k < x + 1 → chosen_beside set depth two one (slice_set row x sample) k ≡
    pos 0
zeros_next set depth two one row from x sample zeros last k least most = elim (cases_lt k x) [
  | inl less ↦ ap (λ p. p.difference) (place_same set depth x two one (slice_set row x sample) row k
      (agree_set x x sample row (omega arith)) less) ∙ zeros k least less
  | inr more ↦ let same : x ≡ k = omega (arith, most, more) in
      subst (λ n. chosen_beside set depth two one (slice_set row x sample) n ≡ pos 0) same last
]

-- a place that is read, and its state kept
pub place_read : (set : Set) (depth : ℕ) (two one row : List ℕ) (x sample context : ℕ) (d : ℤ)
    (is_behind : Bool)
    (old new : ℕ → State) (loaded kept : State) (text rest : List Bool) →
    chosen_beside set depth two one (slice_set row x sample) x ≡ d →
    context ≡ size_of set (beside two one row x) → loaded ≡ old context →
    text ≡ scalar_bits depth loaded (coded is_behind d) ++ rest → kept ≡ scalar_after depth loaded
    (coded is_behind d) →
    new context ≡ kept → ((k : ℕ) → k ≢ context → new k ≡ old k) →
    (is_behind ≡ true → is_zero d ≡ false) →
    PlaceRead depth (place_at set depth two one (slice_set row x sample) x) is_behind old new text
    rest
place_read set depth two one row x sample context d is_behind old new loaded kept text rest chosen
    at load bits after own others some =
    let same = beside_same x two one (slice_set row x sample) row x
    (agree_set x x sample row (omega arith)) (omega arith) in
    let place : place_at set depth two one (slice_set row x sample) x ≡
    record { context = context; difference = d } =
    ap₂ (λ c d. record { context = c; difference = d }) (ap (size_of set) same ∙ sym at) chosen in
    let next : new ≡ with_state old context (scalar_after depth (old context) (coded is_behind d)) =
    fun_ext (λ k. elim (cases_eq k context) [
      | inl here ↦ rw (eq-eqb k context here) (ap new here ∙ own ∙ after ∙
          ap (λ s. scalar_after depth s (coded is_behind d)) load)
      | inr other ↦ rw (ne_eqb k context other) (others k other)
    ]) in
    subst (λ p. PlaceRead depth p is_behind old new text rest) (sym place) (record {
      bits = bits ∙ ap (λ s. scalar_bits depth s (coded is_behind d) ++ rest) load;
      states = next;
      some = some;
    })

-- the index of a run stays small
pub index_small : (index left : ℕ) → index ≤ 32 → 2 ^ run_log index ≤ left → left < 2 ^ 16 → index +
    1 ≤ 32
index_small index left few within small = elim (cases_lt index 32) [
  | inl less ↦ omega (arith, less)
  | inr more ↦
      let same : index ≡ 32 = omega (arith, few, more) in
      let whole : 2 ^ run_log index ≡ 2 ^ 16 = ap (λ k. 2 ^ k) (ap run_log same ∙ run_log_last) in
      absurd (omega (arith, whole, within, small))
]

pub index_next : (index left next : ℕ) (run : Run) (text rest : List Bool) → index ≤ 32 → left < 2 ^
    16 →
    IsRun index left run text rest next → next ≤ 32
index_next index left next run text rest few small is = elim (cases_Bool run.is_broken) [
  | inl broken ↦ let less = (is.broken broken).3 in omega (arith, few, less)
  | inr whole ↦ elim (cases_lt left (2 ^ run_log index)) [
    | inl less ↦ let same = (is.last whole less).1 in omega (arith, few, same)
    | inr more ↦ let same = (is.grown whole more).1 in let room = index_small index left few more
        small in omega (arith, same, room)
  ]
]

-- a part of a run
pub stretch_whole : (r : Reading) (x left index next : ℕ) (run : Option ℕ) (part : Run)
    (states : ℕ → State) (text rest : List Bool) (row other : List ℕ) →
    IsRun index left part text rest next → part.is_broken ≡ false → 0 < left → left ≡ length other -
    x → AgreeBelow x other row →
    SoFar r row x (coder_of states index run) text → begun run
    (size_of r.set (beside r.two r.one row x)) ≡ Some 0 →
    ((k : ℕ) → x ≤ k → k < x + part.zeros → chosen_beside r.set r.depth r.two r.one other k ≡ pos
    0) →
    Stretched r other (x + part.zeros) true states next rest
stretch_whole r x left index next run part states text rest row other is whole some room agree so
    begins zeros =
    let c = coder_of states index run in
    let begun_there : begun run (size_of r.set (beside r.two r.one other x)) ≡ Some 0 =
    ap (λ a. begun run (size_of r.set a)) (beside_same x r.two r.one other row x agree
    (omega arith)) ∙ begins in
    let there : SoFar r other x c (true ∷ rest) = subst (SoFar r other x c) (is.whole whole)
    (so_far_same r x c text row other agree so) in
    elim (cases_lt left (2 ^ run_log index)) [
      | inl less ↦
          let last = is.last whole less in
          subst (λ n. Stretched r other (x + part.zeros) true states n rest) (sym last.1)
          (stretch_last r x part.zeros index run states rest other there begun_there zeros
          (rw last.0 less) (rw last.0 some) (let long = last.0 in omega (arith, room, long)))
      | inr more ↦
          let grown = is.grown whole more in
          subst (λ n. Stretched r other (x + part.zeros) true states n rest) (sym grown.1)
          (stretch_grown r x part.zeros index run states rest other there begun_there zeros grown.0)
    ]

pub stretch_broken : (r : Reading) (x left index next : ℕ) (run : Option ℕ) (part : Run)
    (old new : ℕ → State) (text after rest : List Bool) (row between other : List ℕ) →
    IsRun index left part text after next → part.is_broken ≡ true → AgreeBelow x between row →
    AgreeBelow (x + part.zeros) other between →
    SoFar r row x (coder_of old index run) text → begun run
    (size_of r.set (beside r.two r.one row x)) ≡ Some 0 →
    ((k : ℕ) → x ≤ k → k < x + part.zeros → chosen_beside r.set r.depth r.two r.one between k ≡ pos
    0) →
    PlaceRead r.depth (place_at r.set r.depth r.two r.one other (x + part.zeros)) true old new after
    rest →
    Stretched r other (x + part.zeros + 1) false new next rest
stretch_broken r x left index next run part old new text after rest row between other is broken
    agree agree' so begins zeros read =
    let c = coder_of old index run in
    let facts = is.broken broken in
    let begun_there : begun run (size_of r.set (beside r.two r.one between x)) ≡ Some 0 =
    ap (λ a. begun run (size_of r.set a)) (beside_same x r.two r.one between row x agree
    (omega arith)) ∙ begins in
    let before = before_break r x part.zeros index run old text between
    (so_far_same r x c text row between agree so) begun_there zeros facts.1 in
    let so_far = break_read r (x + part.zeros) part.zeros index before.run old new text after rest
    between other agree' before.so_far before.begins facts.0 read in
    record {
      run = None;
      so_far = subst (λ n. SoFar r other (x + part.zeros + 1) (coder_of new n None) rest)
          (sym facts.3) so_far;
      within = λ inside. refl;
    }

-- ---- the loop over a row

pub so_far_none : (r : Reading) (row : List ℕ) → SoFar r row 0 r.start r.text
unfolding places_of places_after places_bits
so_far_none r row = record { coder = refl; text = refl }

-- a place in a run that goes on, or that begins one
pub record Entered (r : Reading) (row : List ℕ) (x index : ℕ) (states : ℕ → State)
    (rest : List Bool) : Type 0 where
  pub run : Option ℕ
  pub so_far : SoFar r row x (coder_of states index run) rest
  pub begins : begun run (size_of r.set (beside r.two r.one row x)) ≡ Some 0

pub entered_on : (r : Reading) (row : List ℕ) (x index : ℕ) (is_on : Bool) (states : ℕ → State)
    (rest : List Bool) →
    Stretched r row x is_on states index rest → x < length row → is_on ≡ true → Entered r row x
    index states rest
entered_on r row x index is_on states rest read inside on =
    let run : read.run ≡ Some 0 = read.within inside ∙ ap (λ b. if b then Some 0 else None) on in
    record {
      run = Some 0;
      so_far = subst (λ run. SoFar r row x (coder_of states index run) (end_bits run ++ rest)) run
          read.so_far;
      begins = refl;
    }

pub off : (r : Reading) (row : List ℕ) (x index : ℕ) (is_on : Bool) (states : ℕ → State)
    (rest : List Bool) →
    Stretched r row x is_on states index rest → x < length row → is_on ≡ false → SoFar r row x
    (coder_of states index None) rest
off r row x index is_on states rest read inside none =
    let run : read.run ≡ None = read.within inside ∙ ap (λ b. if b then Some 0 else None) none in
    subst (λ run. SoFar r row x (coder_of states index run) (end_bits run ++ rest)) run read.so_far

pub entered_first : (r : Reading) (row : List ℕ) (x index : ℕ) (is_on : Bool) (states : ℕ → State)
    (rest : List Bool) →
    Stretched r row x is_on states index rest → x < length row → is_on ≡ false →
    (size_of r.set (beside r.two r.one row x) == 0) ≡ true →
    Entered r row x index states rest
entered_first r row x index is_on states rest read inside none first = record {
  run = None;
  so_far = off r row x index is_on states rest read inside none;
  begins = rw first refl;
}

-- places that are in no run
pub plain_next : (r : Reading) (row other : List ℕ) (x index : ℕ) (old new : ℕ → State)
    (text rest : List Bool) → SoFar r row x (coder_of old index None) text →
    (size_of r.set (beside r.two r.one row x) == 0) ≡ false → AgreeBelow x other row →
    PlaceRead r.depth (place_at r.set r.depth r.two r.one other x) false old new text rest →
    SoFar r other (x + 1) (coder_of new index None) rest
plain_next r row other x index old new text rest so other_context agree place =
    let begins : begun None (size_of r.set (beside r.two r.one row x)) ≡ None = rw other_context
    refl in
    scalar_read r x index None old new text rest row other agree so begins place

pub plain_done : (r : Reading) (row : List ℕ) (x index : ℕ) (is_on : Bool) (states : ℕ → State)
    (rest : List Bool) → SoFar r row x (coder_of states index None) rest → is_on ≡ false →
    Stretched r row x is_on states index rest
plain_done r row x index is_on states rest so none = record {
  run = None;
  so_far = so;
  within = λ inside. ap (λ b. if b then Some 0 else None) (sym none);
}

-- ---- where a row is refused

pub stretch_refused : (r : Reading) (x left index next : ℕ) (run : Option ℕ) (part : Run)
    (states : ℕ → State) (text after : List Bool) (row between other : List ℕ) (fault : Fault) →
    IsRun index left part text after next → part.is_broken ≡ true → AgreeBelow x between row →
    AgreeBelow (x + part.zeros) other between → SoFar r row x (coder_of states index run) text →
    begun run (size_of r.set (beside r.two r.one row x)) ≡ Some 0 →
    ((k : ℕ) → x ≤ k → k < x + part.zeros → chosen_beside r.set r.depth r.two r.one between k ≡
    pos 0) →
    (fault ≡ BitsEnd → Ends r.depth (parameter (states (size_of r.set (beside r.two r.one between
    (x + part.zeros))))) after) →
    (fault ≡ BadCode → IsNone r.depth (states (size_of r.set (beside r.two r.one between
    (x + part.zeros)))) true after) →
    IsRefused r other (x + part.zeros) fault
stretch_refused r x left index next run part states text after row between other fault is broken
    agree agree' so begins zeros ends bad =
    let c = coder_of states index run in
    let at = x + part.zeros in
    let facts = is.broken broken in
    let begun_there : begun run (size_of r.set (beside r.two r.one between x)) ≡ Some 0 =
    ap (λ a. begun run (size_of r.set a)) (beside_same x r.two r.one between row x agree (omega
    arith)) ∙ begins in
    let before = before_break r x part.zeros index run states text between (so_far_same r x c text
    row between agree so) begun_there zeros facts.1 in
    let same = beside_same at r.two r.one other between at agree' (omega arith) in
    let there : begun before.run (size_of r.set (beside r.two r.one other at)) ≡ Some part.zeros =
    ap (λ a. begun before.run (size_of r.set a)) same ∙ before.begins in
    record {
      ends = λ is_end. record {
        coder = coder_of states index before.run;
        rest = text;
        so_far = so_far_same r at (coder_of states index before.run) text between other agree'
            before.so_far;
        ends = inr (inr (
          part.zeros,
          after,
          there,
          facts.0,
          subst (λ a. Ends r.depth (parameter
              (states (size_of r.set a))) after) (sym same) (ends is_end),
        ));
      };
      bad = λ is_bad. record {
        coder = coder_of states index before.run;
        rest = text;
        so_far = so_far_same r at (coder_of states index before.run) text between other agree'
            before.so_far;
        bad = inr (inr (
          part.zeros,
          after,
          there,
          facts.0,
          subst (λ a. IsNone r.depth (states
              (size_of r.set a)) true after) (sym same) (bad is_bad),
        ));
      };
    }

pub place_refused : (r : Reading) (row other : List ℕ) (x index : ℕ) (is_on : Bool)
    (states : ℕ → State) (text : List Bool) (fault : Fault) →
    Stretched r row x is_on states index text → x < length row → is_on ≡ false →
    (size_of r.set (beside r.two r.one row x) == 0) ≡ false → AgreeBelow x other row →
    (fault ≡ BitsEnd → Ends r.depth (parameter (states (size_of r.set (beside r.two r.one row x))))
    text) →
    (fault ≡ BadCode → IsNone r.depth (states (size_of r.set (beside r.two r.one row x))) false
    text) → IsRefused r other x fault
place_refused r row other x index is_on states text fault read inside none other_context agree ends
    bad =
    let c = coder_of states index None in
    let so = so_far_same r x c text row other agree (off r row x index is_on states text read
    inside none) in
    let same = beside_same x r.two r.one other row x agree (omega arith) in
    let begins : begun None (size_of r.set (beside r.two r.one row x)) ≡ None = rw other_context
    refl in
    let there : begun None (size_of r.set (beside r.two r.one other x)) ≡ None = ap (λ a. begun
    None (size_of r.set a)) same ∙ begins in
    record {
      ends = λ is_end. record {
        coder = c;
        rest = text;
        so_far = so;
        ends = inl (
          there,
          subst (λ a. Ends r.depth (parameter (states (size_of r.set a))) text)
              (sym same) (ends is_end),
        );
      };
      bad = λ is_bad. record {
        coder = c;
        rest = text;
        so_far = so;
        bad = inl (
          there,
          subst (λ a. IsNone r.depth (states (size_of r.set a)) false text) (sym
              same) (bad is_bad),
        );
      };
    }

pub plain_refused : (r : Reading) (row other : List ℕ) (x index : ℕ) (states : ℕ → State)
    (text : List Bool) (fault : Fault) → SoFar r row x (coder_of states index None) text → x <
    length row → (size_of r.set (beside r.two r.one row x) == 0) ≡ false → AgreeBelow x other row →
    (fault ≡ BitsEnd → Ends r.depth (parameter (states (size_of r.set (beside r.two r.one row x))))
    text) →
    (fault ≡ BadCode → IsNone r.depth (states (size_of r.set (beside r.two r.one row x))) false
    text) → IsRefused r other x fault
plain_refused r row other x index states text fault so inside other_context agree ends bad =
    place_refused r row other x index false states text fault
    (plain_done r row x index false states text so refl) inside refl other_context agree ends bad
