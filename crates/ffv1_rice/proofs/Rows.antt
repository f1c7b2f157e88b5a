-- Places of a row one after the other.
use Rattle.std.proofs.Common.{◌≡◌, ◌≢◌, refl, sym, ◌∙◌, ap, ap₂, subst, ℕ, zero, suc, ◌+◌, ◌-◌, ◌^◌}
use Rattle.std.proofs.Common.{◌<◌, ◌≤◌, Bool, true, false, List, [], ◌∷◌, ◌++◌, length}
use Rattle.std.proofs.Common.{Option, Some, None, arith, append_assoc, append-nil, pos}
use Rattle.std.proofs.Common.{slice_set, get_or-set_other, slice_index, eq-eqb}
use Rattle.std.proofs.Common.{ne_eqb}
use Rattle.std.proofs.Common.{min}
use Rattle.std.proofs.lemmas.Nat.{pow_pos}
use Rattle.ffv1_plane.specs.Quantisation.{Set}
use Rattle.ffv1_plane.specs.declared.prediction.Around.{Around}
use Rattle.ffv1_line.specs.Beside.{before, two_before, beside, chosen_beside}
use Rattle.ffv1_plane.specs.Context.{size_of, flip_of}
use Rattle.ffv1_plane.specs.Prediction.{predicted_in}
use Rattle.ffv1_plane.specs.Residual.{chosen_of}
use Rattle.ffv1_rice.specs.declared.state.State.{State}
use Rattle.ffv1_rice.specs.Run.{run_log}
use Rattle.ffv1_rice.specs.Row.{Place, Coder, begun, place_bits, place_after, places_bits}
use Rattle.ffv1_rice.specs.Row.{places_after}
use Rattle.ffv1_rice.specs.Row.{place_at, places_of, end_bits, bits_in, after_in, is_zero}
use Rattle.ffv1_rice.specs.Row.{shortened}
use Rattle.ffv1_rice.specs.Row.{with_state}
use Rattle.ffv1_rice.specs.Bits.{binary}
use Rattle.ffv1_rice.specs.Scalar.{scalar_bits, scalar_after}
use Rattle.ffv1_rice.specs.Rows.{Reading, SoFar, AgreeBelow, coder_of, Stretched, PlaceRead}
use Rattle.ffv1_rice.specs.Rows.{RowRead}

pub after_append : (depth : ℕ) (c : Coder) (ps qs : List Place) →
    places_after depth c (ps ++ qs) ≡ places_after depth (places_after depth c ps) qs
unfolding places_after
after_append depth c [] qs = refl
after_append depth c (p ∷ ps) qs = after_append depth (place_after depth c p) ps qs

pub bits_append : (depth : ℕ) (c : Coder) (ps qs : List Place) →
    places_bits depth c (ps ++ qs) ≡ places_bits depth c ps ++ places_bits depth
    (places_after depth c ps) qs
unfolding places_bits places_after
bits_append depth c [] qs = refl
bits_append depth c (p ∷ ps) qs =
    ap (λ bits. place_bits depth c p ++ bits) (bits_append depth (place_after depth c p) ps qs)
    ∙ sym (append_assoc (place_bits depth c p) (places_bits depth (place_after depth c p) ps)
    (places_bits depth (places_after depth (place_after depth c p) ps) qs))

-- one place more
pub after_next : (depth : ℕ) (c : Coder) (set : Set) (two one row : List ℕ) (x : ℕ) →
    places_after depth c (places_of set depth two one row (suc x)) ≡ place_after depth
    (places_after depth c (places_of set depth two one row x))
    (place_at set depth two one row x)
unfolding places_of places_after
after_next depth c set two one row x =
    after_append depth c (places_of set depth two one row x) (place_at set depth two one row x ∷ [])

pub bits_next : (depth : ℕ) (c : Coder) (set : Set) (two one row : List ℕ) (x : ℕ) →
    places_bits depth c (places_of set depth two one row (suc x)) ≡ places_bits depth c
    (places_of set depth two one row x) ++ place_bits depth
    (places_after depth c (places_of set depth two one row x))
    (place_at set depth two one row x)
unfolding places_of places_bits
bits_next depth c set two one row x =
    bits_append depth c (places_of set depth two one row x) (place_at set depth two one row x ∷ [])
    ∙ ap (λ bits. places_bits depth c (places_of set depth two one row x) ++ bits)
    (append-nil (place_bits depth (places_after depth c (places_of set depth two one row x))
    (place_at set depth two one row x)))

-- ---- what is written at a place does not change those before it

before_same : (n : ℕ) (one row other : List ℕ) (x : ℕ) → AgreeBelow n row other → x ≤ n → before one
    row x ≡ before one other x
before_same n one row other zero agree within = refl
before_same n one row other (suc x) agree within = agree.each x (omega (arith, within))

two_before_same : (n : ℕ) (one row other : List ℕ) (x : ℕ) → AgreeBelow n row other → x ≤ n →
    two_before one row x ≡ two_before one other x
two_before_same n one row other zero agree within = refl
two_before_same n one row other (suc x) agree within = before_same n one row other x agree
    (omega (arith, within))

pub beside_same : (n : ℕ) (two one row other : List ℕ) (x : ℕ) → AgreeBelow n row other → x ≤ n →
    beside two one row x ≡ beside two one other x
beside_same n two one row other x agree within =
    ap₂ (λ l ll. record {
      l = l;
      t = slice_index one x;
      tl = before two one x;
      tr = slice_index one
          (min (x + 1) (length one - 1));
      ll = ll;
      tt = slice_index two x;
    })
    (before_same n one row other x agree within) (two_before_same n one row other x agree within)

made : (two one row : List ℕ) (place sample above tt : ℕ) (a : Around) →
    a ≡ beside two one row place → slice_index row place ≡ sample →
    slice_index one (min (place + 1) (length one - 1)) ≡ slice_index one (suc place) →
    above ≡ slice_index one (min (suc place + 1) (length one - 1)) → tt ≡ slice_index two (suc
    place)
    → record { l = sample; t = a.tr; tl = a.t; tr = above; ll = a.l; tt = tt } ≡ beside two one row
    (suc place)
made two one row place sample above tt a is here right over up =
    rw (is, over, up, sym here, right) refl

-- what is beside the place after another one
pub beside_next : (two one row : List ℕ) (place x sample above tt : ℕ) (a : Around) → x ≡ place + 1
    →
    x < length one → a ≡ beside two one row place → slice_index row place ≡ sample →
    above ≡ slice_index one (min (x + 1) (length one - 1)) → tt ≡ slice_index two x →
    record { l = sample; t = a.tr; tl = a.t; tr = above; ll = a.l; tt = tt } ≡ beside two one row x
beside_next two one row place x sample above tt a next inside is here right up =
    let at : x ≡ suc place = omega (arith, next) in
    let last : min (place + 1) (length one - 1) ≡ x = omega (arith, next, inside) in
    rw (at) (made two one row place sample above tt a is here
    (ap (slice_index one) last ∙ ap (slice_index one) at)
    (right ∙ ap (λ n. slice_index one (min (n + 1) (length one - 1))) at)
    (up ∙ ap (slice_index two) at))

pub place_same : (set : Set) (depth n : ℕ) (two one row other : List ℕ) (x : ℕ) → AgreeBelow n row
    other → x < n → place_at set depth two one row x ≡ place_at set depth two one other x
place_same set depth n two one row other x agree within =
    ap₂ (λ a s. record {
      context = size_of set a;
      difference = chosen_of depth
          (predicted_in depth a) (flip_of set a) s;
    })
    (beside_same n two one row other x agree (omega (arith, within))) (agree.each x within)

pub places_same : (set : Set) (depth n : ℕ) (two one row other : List ℕ) (x : ℕ) → AgreeBelow n row
    other → x ≤ n → places_of set depth two one row x ≡ places_of set depth two one other x
unfolding places_of
places_same set depth n two one row other zero agree within = refl
places_same set depth n two one row other (suc x) agree within =
    ap₂ (λ ps p. ps ++ (p ∷ []))
    (places_same set depth n two one row other x agree (omega (arith, within)))
    (place_same set depth n two one row other x agree (omega (arith, within)))

pub agree_itself : (n : ℕ) (row : List ℕ) → AgreeBelow n row row
agree_itself n row = record { each = λ k less. refl }

pub agree_set : (n x sample : ℕ) (row : List ℕ) → n ≤ x → AgreeBelow n (slice_set row x sample) row
agree_set n x sample row few = record {
  each = λ k less. let other : k ≢ x = omega (arith, few, less) in get_or-set_other row x k sample 0
      other;
}

pub agree_less : (m n : ℕ) (row other : List ℕ) → m ≤ n → AgreeBelow n row other → AgreeBelow m row
    other
agree_less m n row other few agree = record {
  each = λ k less. agree.each k
      (omega (arith, few, less));
}

pub agree_trans : (n : ℕ) (a b c : List ℕ) → AgreeBelow n a b → AgreeBelow n b c → AgreeBelow n a c
agree_trans n a b c one two = record { each = λ k less. one.each k less ∙ two.each k less }

-- ---- one place more, in each way

pub scalar_bits_is : (depth : ℕ) (c : Coder) (p : Place) → begun c.run p.context ≡ None →
    place_bits depth c p ≡ scalar_bits depth (c.states p.context) p.difference
scalar_bits_is depth c p is = ap (bits_in depth c p) is

pub scalar_after_is : (depth : ℕ) (c : Coder) (p : Place) → begun c.run p.context ≡ None →
    place_after depth c p ≡ after_in depth c p None
scalar_after_is depth c p is = ap (after_in depth c p) is

pub zero_bits_is : (depth : ℕ) (c : Coder) (p : Place) (n : ℕ) → begun c.run p.context ≡ Some n →
    p.difference ≡ pos 0 →
    suc n < 2 ^ run_log c.index → place_bits depth c p ≡ []
zero_bits_is depth c p n is flat less =
    let apart : suc n ≡ 2 ^ run_log c.index → ⊥ = λ same. absurd (omega (arith, less, same)) in
    ap (bits_in depth c p) is ∙ rw (flat, ne_eqb (suc n) (2 ^ run_log c.index) apart) refl

pub zero_after_is : (depth : ℕ) (c : Coder) (p : Place) (n : ℕ) → begun c.run p.context ≡ Some n →
    p.difference ≡ pos 0 →
    suc n < 2 ^ run_log c.index → place_after depth c p ≡
    record { states = c.states; index = c.index; run = Some (suc n) }
zero_after_is depth c p n is flat less =
    let apart : suc n ≡ 2 ^ run_log c.index → ⊥ = λ same. absurd (omega (arith, less, same)) in
    ap (after_in depth c p) is ∙ rw (flat, ne_eqb (suc n) (2 ^ run_log c.index) apart) refl

pub full_bits_is : (depth : ℕ) (c : Coder) (p : Place) (n : ℕ) → begun c.run p.context ≡ Some n →
    p.difference ≡ pos 0 →
    suc n ≡ 2 ^ run_log c.index → place_bits depth c p ≡ true ∷ []
full_bits_is depth c p n is flat same =
    ap (bits_in depth c p) is ∙ rw (flat, eq-eqb (suc n) (2 ^ run_log c.index) same) refl

pub full_after_is : (depth : ℕ) (c : Coder) (p : Place) (n : ℕ) → begun c.run p.context ≡ Some n →
    p.difference ≡ pos 0 →
    suc n ≡ 2 ^ run_log c.index → place_after depth c p ≡
    record { states = c.states; index = c.index + 1; run = Some 0 }
full_after_is depth c p n is flat same =
    ap (after_in depth c p) is ∙ rw (flat, eq-eqb (suc n) (2 ^ run_log c.index) same) refl

pub broken_bits_is : (depth : ℕ) (c : Coder) (p : Place) (n : ℕ) → begun c.run p.context ≡ Some n →
    is_zero p.difference ≡ false →
    place_bits depth c p ≡ false ∷ (binary (run_log c.index) n ++ scalar_bits depth
    (c.states p.context) (shortened p.difference))
broken_bits_is depth c p n is other = ap (bits_in depth c p) is ∙ rw other refl

pub broken_after_is : (depth : ℕ) (c : Coder) (p : Place) (n : ℕ) → begun c.run p.context ≡ Some n →
    is_zero p.difference ≡ false →
    place_after depth c p ≡ record {
      states = with_state c.states p.context (scalar_after depth (c.states p.context)
          (shortened p.difference));
      index = c.index - 1;
      run = None;
    }
broken_after_is depth c p n is other = ap (after_in depth c p) is ∙ rw other refl

-- ---- how far a row is read

pub so_far_next : (r : Reading) (x : ℕ) (c next : Coder) (text rest : List Bool) (row : List ℕ)
    (bits : List Bool) →
    SoFar r row x c text → place_bits r.depth c (place_at r.set r.depth r.two r.one row x) ≡ bits →
    text ≡ bits ++ rest →
    place_after r.depth c (place_at r.set r.depth r.two r.one row x) ≡ next → SoFar r row (x + 1)
    next rest
so_far_next r x c next text rest row bits so is begins after =
    let more : suc x ≡ x + 1 = omega arith in
    let places = places_of r.set r.depth r.two r.one row x in
    let place = place_at r.set r.depth r.two r.one row x in
    subst (λ n. SoFar r row n next rest) more (record {
      coder = after_next r.depth r.start r.set r.two r.one row x ∙
          ap (λ c. place_after r.depth c place) so.coder ∙ after;
      text = so.text ∙ ap (λ bits. places_bits r.depth r.start places ++ bits) begins
          ∙ sym (append_assoc (places_bits r.depth r.start places) bits rest)
          ∙ ap (λ bits. bits ++ rest) (sym (bits_next r.depth r.start r.set r.two r.one row x
          ∙ ap (λ bits. places_bits r.depth r.start places ++ bits)
          (ap (λ c. place_bits r.depth c place) so.coder ∙ is)));
    })

-- the same of a row that begins alike
pub so_far_same : (r : Reading) (x : ℕ) (c : Coder) (text : List Bool) (row other : List ℕ) →
    AgreeBelow x other row →
    SoFar r row x c text → SoFar r other x c text
so_far_same r x c text row other agree so =
    let same = places_same r.set r.depth x r.two r.one other row x agree (omega arith) in
    record {
      coder = ap (places_after r.depth r.start) same ∙ so.coder;
      text = so.text ∙ ap (λ places. places_bits r.depth r.start places ++ text) (sym same);
    }

-- some differences of 0 in a run that they do not fill
pub zeros_some : (r : Reading) (x : ℕ) (c : Coder) (text : List Bool) (row : List ℕ) (n : ℕ) →
    SoFar r row x c text → begun c.run (size_of r.set (beside r.two r.one row x)) ≡ Some 0 →
    ((k : ℕ) → x ≤ k → k < x + suc n → chosen_beside r.set r.depth r.two r.one row k ≡ pos 0) →
    suc n < 2 ^ run_log c.index →
    SoFar r row (x + suc n) (record { states = c.states; index = c.index; run = Some (suc n) }) text
zeros_some r x c text row zero so is zeros less =
    let next : x + 1 ≡ x + suc zero = omega arith in
    let place = place_at r.set r.depth r.two r.one row x in
    let none = zeros x (omega arith) (omega arith) in
    so_far_next r x c _ text text row [] so (zero_bits_is r.depth c place 0 is none less) refl
    (zero_after_is r.depth c place 0 is none less)
zeros_some r x c text row (suc n) so is zeros less =
    let before = zeros_some r x c text row n so is
    (λ k least most. zeros k least (omega (arith, most))) (omega (arith, less)) in
    let at = x + suc n in
    let middle : Coder = record { states = c.states; index = c.index; run = Some (suc n) } in
    let place = place_at r.set r.depth r.two r.one row at in
    let none = zeros at (omega arith) (omega arith) in
    let next : at + 1 ≡ x + suc (suc n) = omega arith in
    subst (λ k. SoFar r row k (record {
      states = c.states;
      index = c.index;
      run = Some (suc (suc n));
    }) text) next
    (so_far_next r at middle _ text text row [] before
    (zero_bits_is r.depth middle place (suc n) refl none less) refl
    (zero_after_is r.depth middle place (suc n) refl none less))

-- and those that fill it
pub zeros_all : (r : Reading) (x : ℕ) (c : Coder) (rest : List Bool) (row : List ℕ) (n : ℕ) →
    SoFar r row x c (true ∷ rest) → begun c.run (size_of r.set (beside r.two r.one row x)) ≡ Some
    0 →
    ((k : ℕ) → x ≤ k → k < x + suc n → chosen_beside r.set r.depth r.two r.one row k ≡ pos 0) →
    suc n ≡ 2 ^ run_log c.index →
    SoFar r row (x + suc n) (record { states = c.states; index = c.index + 1; run = Some 0 }) rest
zeros_all r x c rest row zero so is zeros same =
    let place = place_at r.set r.depth r.two r.one row x in
    let none = zeros x (omega arith) (omega arith) in
    so_far_next r x c _ (true ∷ rest) rest row (true ∷ []) so
    (full_bits_is r.depth c place 0 is none same) refl
    (full_after_is r.depth c place 0 is none same)
zeros_all r x c rest row (suc n) so is zeros same =
    let before = zeros_some r x c (true ∷ rest) row n so is
    (λ k least most. zeros k least (omega (arith, most))) (omega (arith, same)) in
    let at = x + suc n in
    let middle : Coder = record { states = c.states; index = c.index; run = Some (suc n) } in
    let place = place_at r.set r.depth r.two r.one row at in
    let none = zeros at (omega arith) (omega arith) in
    let next : at + 1 ≡ x + suc (suc n) = omega arith in
    subst (λ k. SoFar r row k (record { states = c.states; index = c.index + 1; run = Some 0 })
    rest) next
    (so_far_next r at middle _ (true ∷ rest) rest row (true ∷ []) before
    (full_bits_is r.depth middle place (suc n) refl none same) refl
    (full_after_is r.depth middle place (suc n) refl none same))

-- a place that is no part of a run
pub scalar_read : (r : Reading) (x : ℕ) (index : ℕ) (run : Option ℕ) (old new : ℕ → State)
    (text rest : List Bool)
    (row other : List ℕ) → AgreeBelow x other row → SoFar r row x (coder_of old index run) text →
    begun run (size_of r.set (beside r.two r.one row x)) ≡ None →
    PlaceRead r.depth (place_at r.set r.depth r.two r.one other x) false old new text rest →
    SoFar r other (x + 1) (coder_of new index None) rest
scalar_read r x index run old new text rest row other agree so none read =
    let c = coder_of old index run in
    let place = place_at r.set r.depth r.two r.one other x in
    let same = beside_same x r.two r.one other row x agree (omega arith) in
    let is : begun run place.context ≡ None = ap (λ a. begun run (size_of r.set a)) same ∙ none in
    so_far_next r x c (coder_of new index None) text rest other _
    (so_far_same r x c text row other agree so)
    (scalar_bits_is r.depth c place is) read.bits
    (scalar_after_is r.depth c place is ∙ ap (λ states. coder_of states index None)
    (sym read.states))

-- the place that breaks a run
pub break_read : (r : Reading) (x n : ℕ) (index : ℕ) (run : Option ℕ) (old new : ℕ → State)
    (text after rest : List Bool)
    (row other : List ℕ) → AgreeBelow x other row → SoFar r row x (coder_of old index run) text →
    begun run (size_of r.set (beside r.two r.one row x)) ≡ Some n →
    text ≡ false ∷ (binary (run_log index) n ++ after) →
    PlaceRead r.depth (place_at r.set r.depth r.two r.one other x) true old new after rest →
    SoFar r other (x + 1) (coder_of new (index - 1) None) rest
break_read r x n index run old new text after rest row other agree so begins is_text read =
    let c = coder_of old index run in
    let place = place_at r.set r.depth r.two r.one other x in
    let same = beside_same x r.two r.one other row x agree (omega arith) in
    let is : begun run place.context ≡ Some n = ap (λ a. begun run (size_of r.set a)) same ∙
    begins in
    let some = read.some refl in
    let code = scalar_bits r.depth (old place.context) (shortened place.difference) in
    so_far_next r x c (coder_of new (index - 1) None) text rest other
    (false ∷ (binary (run_log index) n ++ code))
    (so_far_same r x c text row other agree so)
    (broken_bits_is r.depth c place n is some)
    (is_text ∙ ap (λ bits. false ∷ (binary (run_log index) n ++ bits)) read.bits
    ∙ ap (λ bits. false ∷ bits) (sym (append_assoc (binary (run_log index) n) code rest)))
    (broken_after_is r.depth c place n is some ∙ ap (λ states. coder_of states (index - 1) None)
    (sym read.states))

-- a part of a run that is not broken
pub stretch_grown : (r : Reading) (x z : ℕ) (index : ℕ) (run : Option ℕ) (states : ℕ → State)
    (rest : List Bool) (row : List ℕ) →
    SoFar r row x (coder_of states index run) (true ∷ rest) →
    begun run (size_of r.set (beside r.two r.one row x)) ≡ Some 0 →
    ((k : ℕ) → x ≤ k → k < x + z → chosen_beside r.set r.depth r.two r.one row k ≡ pos 0) →
    z ≡ 2 ^ run_log index → Stretched r row (x + z) true states (index + 1) rest
stretch_grown r x zero index run states rest row so begins zeros same = let some = pow_pos
    (run_log index) in absurd (omega (arith, same, some))
stretch_grown r x (suc n) index run states rest row so begins zeros same = record {
  run = Some 0;
  so_far = zeros_all r x (coder_of states index run) rest row n so begins zeros same;
  within = λ inside. refl;
}

pub stretch_last : (r : Reading) (x z : ℕ) (index : ℕ) (run : Option ℕ) (states : ℕ → State)
    (rest : List Bool) (row : List ℕ) →
    SoFar r row x (coder_of states index run) (true ∷ rest) →
    begun run (size_of r.set (beside r.two r.one row x)) ≡ Some 0 →
    ((k : ℕ) → x ≤ k → k < x + z → chosen_beside r.set r.depth r.two r.one row k ≡ pos 0) →
    z < 2 ^ run_log index → 0 < z → length row ≤ x + z → Stretched r row (x + z) true states index
    rest
stretch_last r x zero index run states rest row so begins zeros less some end =
    absurd (omega (arith, some))
stretch_last r x (suc n) index run states rest row so begins zeros less some end = record {
  run = Some (suc n);
  so_far = zeros_some r x (coder_of states index run) (true ∷ rest) row n so begins zeros less;
  within = λ inside. absurd (omega (arith, inside, end));
}

-- the zeros before a break
pub record BeforeBreak (r : Reading) (row : List ℕ) (x n index : ℕ) (states : ℕ → State)
    (text : List Bool) : Type 0 where
  pub run : Option ℕ
  pub so_far : SoFar r row x (coder_of states index run) text
  pub begins : begun run (size_of r.set (beside r.two r.one row x)) ≡ Some n

pub before_break : (r : Reading) (x z : ℕ) (index : ℕ) (run : Option ℕ) (states : ℕ → State)
    (text : List Bool) (row : List ℕ) →
    SoFar r row x (coder_of states index run) text →
    begun run (size_of r.set (beside r.two r.one row x)) ≡ Some 0 →
    ((k : ℕ) → x ≤ k → k < x + z → chosen_beside r.set r.depth r.two r.one row k ≡ pos 0) →
    z < 2 ^ run_log index → BeforeBreak r row (x + z) z index states text
before_break r x zero index run states text row so begins zeros less =
    let same : x ≡ x + 0 = omega arith in
    subst (λ k. BeforeBreak r row k 0 index states text) same
    (record { run = run; so_far = so; begins = begins })
before_break r x (suc n) index run states text row so begins zeros less = record {
  run = Some (suc n);
  so_far = zeros_some r x (coder_of states index run) text row n so begins zeros less;
  begins = refl;
}

pub row_done : (r : Reading) (row : List ℕ) (x index : ℕ) (run : Option ℕ) (states : ℕ → State)
    (rest : List Bool) → x ≡ length row →
    SoFar r row x (coder_of states index run) (end_bits run ++ rest) → RowRead r row states index
    rest
row_done r row x index run states rest end so =
    let places = places_of r.set r.depth r.two r.one row (length row) in
    let whole = subst (λ n. SoFar r row n (coder_of states index run) (end_bits run ++ rest)) end
    so in
    record {
      bits = whole.text
          ∙ sym (append_assoc (places_bits r.depth r.start places) (end_bits run) rest)
          ∙ ap (λ last. (places_bits r.depth r.start places ++ end_bits last) ++ rest)
          (sym (ap (λ c. c.run) whole.coder));
      states = ap (λ c. c.states) whole.coder;
      index = ap (λ c. c.index) whole.coder;
    }
