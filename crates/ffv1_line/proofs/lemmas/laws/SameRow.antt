-- Bytes code one row at most.
use Rattle.std.proofs.Common.{◌≡◌, refl, ℕ, zero, suc, ◌+◌, ◌-◌, ◌*◌, ◌^◌, ◌<◌, min, List, [], ◌∷◌, ◌++◌, length, get_or, arith, ap, sym, subst, ◌∙◌, append_assoc, append-nil, ℤ, pos, unsigned_abs, inl, inr}
use Rattle.std.proofs.lemmas.Bool.{cases_lt}
use Rattle.ffv1_range.specs.Table.{Table}
use Rattle.ffv1_range.specs.Interval.{Interval, Decision, start, narrowed}
use Rattle.ffv1_range.specs.Codes.{Inside, AreBytes, AreStates}
use Rattle.ffv1_range.specs.Symbols.{Step, signed_steps, too_long, decided, moved_by, shifted}
use Rattle.ffv1_range.proofs.Nested.{narrowed-inside, narrowed-append}
use Rattle.ffv1_range.proofs.Steps.{decided-append}
use Rattle.ffv1_range.proofs.Prefix.{symbols_apart, refused_apart, same_head, same_tail}
use Rattle.ffv1_range.proofs.OneValue.{SameSlots, Begins, same_step, one_begins, signed_slots, refused_slots}
use Rattle.ffv1_plane.specs.declared.prediction.Around.{Around}
use Rattle.ffv1_plane.specs.Prediction.{predicted_in}
use Rattle.ffv1_plane.specs.Quantisation.{Set}
use Rattle.ffv1_plane.specs.Context.{size_of, flip_of}
use Rattle.ffv1_plane.specs.Residual.{sample_of}
use Rattle.ffv1_line.specs.Cell.{Cell, seen, around, Shows, Above}
use Rattle.ffv1_line.specs.Row.{SuitsAt, AreSuiting, sample_steps, refused_steps, row_steps}
use Rattle.ffv1_line.specs.Coded.{AreSame, CodesSteps, CodesRowBy, RefusesRowBy}
use Rattle.ffv1_line.proofs.lemmas.cell.Rows.{seen_clamped}
use Rattle.ffv1_line.specs.Coding.{RowCoding}

-- steps at later slots
slots_shifted : (b : ℕ) (xs ys : List Step) → SameSlots xs ys → SameSlots (shifted b xs) (shifted b ys)
unfolding SameSlots
slots_shifted b [] ys h = tt
slots_shifted b (x ∷ xs) [] h = tt
slots_shifted b (x ∷ xs) (y ∷ ys) h = (ap (λ n. b + n) h.0, λ e. slots_shifted b xs ys (h.1 e))

not_empty : (x : Step) (xs : List Step) → x ∷ xs ≡ [] → ⊥
not_empty x xs e = cc

begins_unshifted : (b : ℕ) (xs ys : List Step) → Begins (shifted b xs) (shifted b ys) → Begins xs ys
unfolding Begins
begins_unshifted b [] ys h = (ys, refl)
begins_unshifted b (x ∷ xs) [] h = absurd (not_empty _ _ h.1)
begins_unshifted b (x ∷ xs) (y ∷ ys) h =
    let head = same_head _ _ _ _ h.1 in
    let slot : b + x.slot ≡ b + y.slot = ap (λ (s : Step). s.slot) head in
    let bit : x.bit ≡ y.bit = ap (λ (s : Step). s.bit) head in
    let same = same_step x y (omega (arith, slot)) bit in
    let rest = begins_unshifted b xs ys (h.0, same_tail _ _ _ _ h.1) in
    (rest.0, ap (λ l. x ∷ l) rest.1 ∙ ap (λ z. z ∷ ys) same)

-- bytes that lie in the interval that some steps leave
pub record Code (bytes : List ℕ) (t : Table) (states : List ℕ) (i : Interval) (steps : List Step) : Type 0 where
  pub named : AreStates (decided t states steps)
  pub inside : Inside bytes (narrowed i (decided t states steps))

-- the next symbol at a row of states is one number, and none that is refused
one_in_row : (bytes : List ℕ) → AreBytes bytes → (t : Table) (states : List ℕ) (i : Interval) (b : ℕ) (v w : ℤ) → unsigned_abs v < 2 ^ 31 → unsigned_abs w < 2 ^ 31 →
    Code bytes t states i (shifted b (signed_steps v)) → Code bytes t states i (shifted b (signed_steps w)) → v ≡ w
unfolding Begins
one_in_row bytes are t states i b v w small_v small_w f g =
    elim (one_begins bytes are t states i _ _ (slots_shifted b (signed_steps v) (signed_steps w) (signed_slots v w)) f.named g.named f.inside g.inside) [
      | inl h ↦ let r = begins_unshifted b (signed_steps v) (signed_steps w) h in (symbols_apart v w r.0 [] small_v small_w (r.1 ∙ sym (append-nil (signed_steps w)))).0
      | inr h ↦ let r = begins_unshifted b (signed_steps w) (signed_steps v) h in (symbols_apart v w [] r.0 small_v small_w (append-nil (signed_steps v) ∙ sym r.1)).0
    ]

none_in_row : (bytes : List ℕ) → AreBytes bytes → (t : Table) (states : List ℕ) (i : Interval) (b : ℕ) (v : ℤ) → unsigned_abs v < 2 ^ 31 →
    Code bytes t states i (shifted b (signed_steps v)) → Code bytes t states i (shifted b too_long) → ⊥
unfolding Begins
none_in_row bytes are t states i b v small f g =
    elim (one_begins bytes are t states i _ _ (slots_shifted b (signed_steps v) too_long (refused_slots v)) f.named g.named f.inside g.inside) [
      | inl h ↦ let r = begins_unshifted b (signed_steps v) too_long h in refused_apart v r.0 [] small (r.1 ∙ sym (append-nil too_long))
      | inr h ↦ let r = begins_unshifted b too_long (signed_steps v) h in refused_apart v [] r.0 small (append-nil (signed_steps v) ∙ sym r.1)
    ]

-- lists of decisions in two parts
named_first : (xs ys : List Decision) → AreStates (xs ++ ys) → AreStates xs
named_first [] ys h = tt
named_first (x ∷ xs) ys h = (h.0, named_first xs ys h.1)

named_rest : (xs ys : List Decision) → AreStates (xs ++ ys) → AreStates ys
named_rest [] ys h = h
named_rest (x ∷ xs) ys h = named_rest xs ys h.1

pub code_rest : (bytes : List ℕ) (t : Table) (states : List ℕ) (i : Interval) (xs ys : List Step) → Code bytes t states i (xs ++ ys) →
    Code bytes t (moved_by t states xs) (narrowed i (decided t states xs)) ys
code_rest bytes t states i xs ys f =
    let parts = decided-append t states xs ys in
    record {
      named = named_rest (decided t states xs) (decided t (moved_by t states xs) ys) (subst AreStates parts f.named);
      inside = subst (Inside bytes) (ap (narrowed i) parts ∙ narrowed-append i (decided t states xs) (decided t (moved_by t states xs) ys)) f.inside;
    }

pub code_first : (bytes : List ℕ) → AreBytes bytes → (t : Table) (states : List ℕ) (i : Interval) (xs ys : List Step) → Code bytes t states i (xs ++ ys) → Code bytes t states i xs
code_first bytes are t states i xs ys f =
    let rest = code_rest bytes t states i xs ys f in
    record {
      named = named_first (decided t states xs) (decided t (moved_by t states xs) ys) (subst AreStates (decided-append t states xs ys) f.named);
      inside = narrowed-inside bytes are (narrowed i (decided t states xs)) (decided t (moved_by t states xs) ys) rest.named rest.inside;
    }

-- what is seen in a row above, by the row
seen_in : (c : Cell) (y : ℕ) (row : List ℕ) (x : ℕ) → 0 < c.width → Shows c y row c.width → seen c (suc (suc x)) y ≡ get_or row (min x (c.width - 1)) 0
seen_in c y row x some shows = sym (seen_clamped c x y) ∙ sym (shows.each (min x (c.width - 1)) (omega (arith, some)))

-- two cells with the same rows above a row
pub record Twins (c : Cell) (y : ℕ) (d : Cell) (z : ℕ) : Type 0 where
  pub second : (x : ℕ) → seen c (suc (suc x)) y ≡ seen d (suc (suc x)) z
  pub first : (x : ℕ) → seen c (suc (suc x)) (suc y) ≡ seen d (suc (suc x)) (suc z)

pub twins : (c : Cell) (y : ℕ) (d : Cell) (z : ℕ) (two one : List ℕ) → 0 < length one → Above c y two one → Above d z two one → Twins c y d z
twins c y d z two one some in_c in_d =
    let same : c.width ≡ d.width = sym in_c.wide ∙ in_d.wide in
    let some_c : 0 < c.width = omega (arith, in_c.wide, some) in
    let some_d : 0 < d.width = omega (arith, in_d.wide, some) in
    record {
      second = λ x. seen_in c y two x some_c in_c.second ∙ ap (λ w. get_or two (min x (w - 1)) 0) same ∙ sym (seen_in d z two x some_d in_d.second);
      first = λ x. seen_in c (suc y) one x some_c in_c.first ∙ ap (λ w. get_or one (min x (w - 1)) 0) same ∙ sym (seen_in d (suc z) one x some_d in_d.first);
    }

-- the row's own samples up to a sample, and those to the left of the cell
own : (c : Cell) (y : ℕ) (d : Cell) (z n x : ℕ) → Twins c y d z → AreSame c y d z n → x < suc (suc n) → seen c x (suc (suc y)) ≡ seen d x (suc (suc z))
unfolding seen
own c y d z n zero twin same h = refl
own c y d z n (suc zero) twin same h = twin.first 0
own c y d z n (suc (suc x)) twin same h = same.each x (omega (arith, h))

beside : (c : Cell) (y : ℕ) (d : Cell) (z x : ℕ) → Twins c y d z → seen c (suc x) (suc y) ≡ seen d (suc x) (suc z)
unfolding seen
beside c y d z zero twin = twin.second 0
beside c y d z (suc x) twin = twin.first x

same_around : (c : Cell) (y : ℕ) (d : Cell) (z x : ℕ) → Twins c y d z → AreSame c y d z x → around c x y ≡ around d x z
same_around c y d z x twin same =
    let l = own c y d z x (suc x) twin same (omega arith) in
    let ll = own c y d z x x twin same (omega arith) in
    let t = twin.first x in
    let tl = beside c y d z x twin in
    let tr = twin.first (suc x) in
    let tt = twin.second x in
    rw (l, ll, t, tl, tr, tt) refl

-- numbers that are equal as integers
pub number : (a b : ℕ) → pos a ≡ pos b → a ≡ b
number a b e = ap unsigned_abs e

-- one place more is the same
same_more : (c : Cell) (y : ℕ) (d : Cell) (z x : ℕ) (set : Set) (bits : ℕ) (q : ℤ) → Twins c y d z → AreSame c y d z x →
    SuitsAt set bits (around c x y) (seen c (suc (suc x)) (suc (suc y))) q → SuitsAt set bits (around d x z) (seen d (suc (suc x)) (suc (suc z))) q → AreSame c y d z (suc x)
same_more c y d z x set bits q twin same in_c in_d =
    let neighbours = same_around c y d z x twin same in
    let made = in_c.makes ∙ ap (λ (a : Around). sample_of bits (predicted_in bits a) (flip_of set a) q) neighbours ∙ sym in_d.makes in
    let here = number _ _ made in
    record {
      each = λ k h. elim (cases_lt k x) [
        | inl below ↦ same.each k below
        | inr above ↦ let is : k ≡ x = omega (arith, h, above) in rw is here
      ];
    }

-- residuals of two rows that are coded alike are the same
pub record SameResiduals (c : Cell) (y : ℕ) (d : Cell) (z n : ℕ) (ps qs : List ℤ) : Type 0 where
  pub residuals : ps ≡ qs
  pub samples : AreSame c y d z n

module _ (bytes : List ℕ) (are : AreBytes bytes) (t : Table) (set : Set) (bits : ℕ) (c : Cell) (y : ℕ) (d : Cell) (z : ℕ) (twin : Twins c y d z) where
  -- the first residuals are the same
  record Step1 (states : List ℕ) (i : Interval) (x : ℕ) (p q : ℤ) (xs ys : List Step) : Type 0 where
    pub residual : p ≡ q
    pub same : AreSame c y d z (suc x)
    pub rest_c : Code bytes t (moved_by t states (sample_steps set (around c x y) p)) (narrowed i (decided t states (sample_steps set (around c x y) p))) xs
    pub rest_d : Code bytes t (moved_by t states (sample_steps set (around c x y) p)) (narrowed i (decided t states (sample_steps set (around c x y) p))) ys

  one_step : (states : List ℕ) (i : Interval) (x : ℕ) (p q : ℤ) (xs ys : List Step) → AreSame c y d z x →
      SuitsAt set bits (around c x y) (seen c (suc (suc x)) (suc (suc y))) p → SuitsAt set bits (around d x z) (seen d (suc (suc x)) (suc (suc z))) q →
      Code bytes t states i (sample_steps set (around c x y) p ++ xs) → Code bytes t states i (sample_steps set (around d x z) q ++ ys) → Step1 states i x p q xs ys
  one_step states i x p q xs ys same in_c in_d f g =
      let neighbours = same_around c y d z x twin same in
      let g_here : Code bytes t states i (sample_steps set (around c x y) q ++ ys) = subst (λ a. Code bytes t states i (sample_steps set a q ++ ys)) (sym neighbours) g in
      let b = size_of set (around c x y) * 32 in
      let is : p ≡ q = one_in_row bytes are t states i b p q in_c.size in_d.size
      (code_first bytes are t states i (sample_steps set (around c x y) p) xs f) (code_first bytes are t states i (sample_steps set (around c x y) q) ys g_here) in
      let g_p : Code bytes t states i (sample_steps set (around c x y) p ++ ys) = subst (λ r. Code bytes t states i (sample_steps set (around c x y) r ++ ys)) (sym is) g_here in
      let in_d_p = subst (λ r. SuitsAt set bits (around d x z) (seen d (suc (suc x)) (suc (suc z))) r) (sym is) in_d in
      record {
        residual = is;
        same = same_more c y d z x set bits p twin same in_c in_d_p;
        rest_c = code_rest bytes t states i (sample_steps set (around c x y) p) xs f;
        rest_d = code_rest bytes t states i (sample_steps set (around c x y) p) ys g_p;
      }

  grouped_c : (states : List ℕ) (i : Interval) (x : ℕ) (e : Cell) (v : ℕ) (q : ℤ) (qs : List ℤ) (ys : List Step) → Code bytes t states i (row_steps set e v x (q ∷ qs) ++ ys) →
      Code bytes t states i (sample_steps set (around e x v) q ++ (row_steps set e v (suc x) qs ++ ys))
  grouped_c states i x e v q qs ys f = subst (Code bytes t states i) (append_assoc (sample_steps set (around e x v) q) (row_steps set e v (suc x) qs) ys) f

  pub same_residuals : (states : List ℕ) (i : Interval) (x : ℕ) (ps qs : List ℤ) (xs ys : List Step) → length ps ≡ length qs → AreSame c y d z x →
      AreSuiting set bits c y x ps → AreSuiting set bits d z x qs →
      Code bytes t states i (row_steps set c y x ps ++ xs) → Code bytes t states i (row_steps set d z x qs ++ ys) → SameResiduals c y d z (x + length ps) ps qs
  same_residuals states i x [] [] xs ys long same in_c in_d f g = record { residuals = refl; samples = subst (AreSame c y d z) (omega arith) same }
  same_residuals states i x [] (q ∷ qs) xs ys long same in_c in_d f g = absurd (omega (arith, long))
  same_residuals states i x (p ∷ ps) [] xs ys long same in_c in_d f g = absurd (omega (arith, long))
  same_residuals states i x (p ∷ ps) (q ∷ qs) xs ys long same in_c in_d f g =
      let one = one_step states i x p q _ _ same in_c.0 in_d.0 (grouped_c states i x c y p ps xs f) (grouped_c states i x d z q qs ys g) in
      let rest = same_residuals (moved_by t states (sample_steps set (around c x y) p)) (narrowed i (decided t states (sample_steps set (around c x y) p))) (suc x) ps qs xs ys (omega (arith, long)) one.same in_c.1 in_d.1 one.rest_c one.rest_d in
      let more : suc x + length ps ≡ x + length (p ∷ ps) = omega arith in
      record {
        residuals = ap (λ l. p ∷ l) rest.residuals ∙ ap (λ r. r ∷ qs) one.residual;
        samples = subst (AreSame c y d z) more rest.samples;
      }

  -- a row that is refused earlier is not coded
  pub not_refused : (states : List ℕ) (i : Interval) (x n : ℕ) (ps qs : List ℤ) (xs : List Step) → length qs < length ps → n ≡ x + length qs → AreSame c y d z x →
      AreSuiting set bits c y x ps → AreSuiting set bits d z x qs →
      Code bytes t states i (row_steps set c y x ps ++ xs) → Code bytes t states i (row_steps set d z x qs ++ refused_steps set (around d n z)) → ⊥
  not_refused states i x n [] qs xs short is same in_c in_d f g = omega (arith, short)
  not_refused states i x n (p ∷ ps) [] xs short is same in_c in_d f g =
      let here : n ≡ x = omega (arith, is) in
      let neighbours : around d n z ≡ around c x y = ap (λ k. around d k z) here ∙ sym (same_around c y d z x twin same) in
      let first = code_first bytes are t states i (sample_steps set (around c x y) p) _ (grouped_c states i x c y p ps xs f) in
      let other = subst (λ a. Code bytes t states i (refused_steps set a)) neighbours g in
      none_in_row bytes are t states i (size_of set (around c x y) * 32) p in_c.0.size first other
  not_refused states i x n (p ∷ ps) (q ∷ qs) xs short is same in_c in_d f g =
      let one = one_step states i x p q _ _ same in_c.0 in_d.0 (grouped_c states i x c y p ps xs f) (grouped_c states i x d z q qs _ g) in
      not_refused (moved_by t states (sample_steps set (around c x y) p)) (narrowed i (decided t states (sample_steps set (around c x y) p))) (suc x) n ps qs xs (omega (arith, short)) (omega (arith, is)) one.same in_c.1 in_d.1 one.rest_c one.rest_d

-- from what bytes code after some decisions
pub code_of : (bytes : List ℕ) (before : List Decision) (t : Table) (states : List ℕ) (steps : List Step) → CodesSteps bytes before t states steps → Code bytes t states (narrowed start before) steps
code_of bytes before t states steps f = record { named = f.named; inside = subst (Inside bytes) (narrowed-append start before (decided t states steps)) f.codes }

pub codes_from : (bytes : List ℕ) (before : List Decision) (t : Table) (states : List ℕ) (steps : List Step) → Code bytes t states (narrowed start before) steps → CodesSteps bytes before t states steps
codes_from bytes before t states steps f = record { named = f.named; codes = subst (Inside bytes) (sym (narrowed-append start before (decided t states steps))) f.inside }

same_none : (c : Cell) (y : ℕ) (d : Cell) (z : ℕ) → AreSame c y d z 0
same_none c y d z = record { each = λ x h. absurd (omega (arith, h)) }

no_tail : (bytes : List ℕ) (t : Table) (states : List ℕ) (i : Interval) (steps : List Step) → Code bytes t states i steps → Code bytes t states i (steps ++ [])
no_tail bytes t states i steps f = subst (Code bytes t states i) (sym (append-nil steps)) f

module _ (bytes : List ℕ) (are : AreBytes bytes) (before : List Decision) (coding : RowCoding) (states : List ℕ) (c : Cell) (y : ℕ) (d : Cell) (z : ℕ) (two one : List ℕ) (some : 0 < length one) (in_c : Above c y two one) (in_d : Above d z two one) (ps qs : List ℤ) where
  pub one_row : length ps ≡ length qs → CodesRowBy bytes before coding states c y ps → CodesRowBy bytes before coding states d z qs → (ps ≡ qs) × AreSame c y d z (length ps)
  one_row long f g =
      let r = same_residuals bytes are coding.table coding.set coding.bits c y d z (twins c y d z two one some in_c in_d) states (narrowed start before) 0 ps qs [] [] long (same_none c y d z) f.suits g.suits
      (no_tail _ _ _ _ _ (code_of _ _ _ _ _ f.coded)) (no_tail _ _ _ _ _ (code_of _ _ _ _ _ g.coded)) in
      (r.residuals, subst (AreSame c y d z) (omega arith) r.samples)

  pub whole_or_refused : length qs < length ps → CodesRowBy bytes before coding states c y ps → RefusesRowBy bytes before coding states d z qs → ⊥
  whole_or_refused short f g =
      not_refused bytes are coding.table coding.set coding.bits c y d z (twins c y d z two one some in_c in_d) states (narrowed start before) 0 (length qs) ps qs [] short (omega arith) (same_none c y d z) f.suits g.suits
      (no_tail _ _ _ _ _ (code_of _ _ _ _ _ f.coded)) (code_of _ _ _ _ _ g.coded)

  refused_first : length qs < length ps → RefusesRowBy bytes before coding states c y ps → RefusesRowBy bytes before coding states d z qs → ⊥
  refused_first short f g =
      not_refused bytes are coding.table coding.set coding.bits c y d z (twins c y d z two one some in_c in_d) states (narrowed start before) 0 (length qs) ps qs _ short (omega arith) (same_none c y d z) f.suits g.suits
      (code_of _ _ _ _ _ f.coded) (code_of _ _ _ _ _ g.coded)

  same_refused : length ps ≡ length qs → RefusesRowBy bytes before coding states c y ps → RefusesRowBy bytes before coding states d z qs → (ps ≡ qs) × AreSame c y d z (length ps)
  same_refused long f g =
      let r = same_residuals bytes are coding.table coding.set coding.bits c y d z (twins c y d z two one some in_c in_d) states (narrowed start before) 0 ps qs _ _ long (same_none c y d z) f.suits g.suits
      (code_of _ _ _ _ _ f.coded) (code_of _ _ _ _ _ g.coded) in
      (r.residuals, subst (AreSame c y d z) (omega arith) r.samples)

pub one_refusal : (bytes : List ℕ) → AreBytes bytes → (before : List Decision) (coding : RowCoding) (states : List ℕ) (c : Cell) (y : ℕ) (d : Cell) (z : ℕ) (two one : List ℕ) → 0 < length one →
    Above c y two one → Above d z two one → (ps qs : List ℤ) → RefusesRowBy bytes before coding states c y ps → RefusesRowBy bytes before coding states d z qs → (ps ≡ qs) × AreSame c y d z (length ps)
one_refusal bytes are before coding states c y d z two one some in_c in_d ps qs f g =
    elim (cases_lt (length qs) (length ps)) [
      | inl less ↦ absurd (refused_first bytes are before coding states c y d z two one some in_c in_d ps qs less f g)
      | inr more ↦ elim (cases_lt (length ps) (length qs)) [
        | inl less ↦ absurd (refused_first bytes are before coding states d z c y two one some in_d in_c qs ps less g f)
        | inr other ↦ same_refused bytes are before coding states c y d z two one some in_c in_d ps qs (omega (arith, more, other)) f g
      ]
    ]
