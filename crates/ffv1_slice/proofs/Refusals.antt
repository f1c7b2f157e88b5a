-- Why a payload is refused, and in which slice.
use Rattle.std.proofs.Common.{◌≡◌, ◌≢◌, ◌⊎◌, refl, ℕ, zero, suc, ◌+◌, ◌-◌, ◌*◌, ◌<◌, ◌≤◌, ◌==◌, Bool, true, false}
use Rattle.std.proofs.Common.{if◌then◌else◌, nat_lt, Option, Some, None, Result, Ok, Err, List, [], ◌∷◌, length, slice_index}
use Rattle.std.proofs.Common.{ap, sym, subst, ◌∙◌, arith, inl, inr, lt-ltb, le-ltb, ltb-true, ltb-false}
use Rattle.std.proofs.lemmas.Bool.{cases_eq, cond-true, cond-false, eq-eqb, eqb-true, ne_eqb}
use Rattle.ffv1_record.specs.Configuration.{Configuration}
use Rattle.ffv1_record.specs.Parity.{remainder_of}
use Rattle.ffv1_slice.specs.declared.cutting.CutFault.{CutFault}
use Rattle.ffv1_slice.specs.declared.fault.SliceFault.{SliceFault}
use Rattle.ffv1_slice.specs.declared.fault.SliceFault.TheVariants as fault
use Rattle.ffv1_slice.specs.Footer.{foot_length}
use Rattle.ffv1_slice.specs.Cutting.{AreBehind, IsSized, HasNoSlice, HasLeftover, IsDamage, IsDamaged, IsRefused}
use Rattle.ffv1_slice.specs.Cutting.{IsWhole, size_before, slice_of}
use Rattle.ffv1_slice.specs.Internal.Walk.{cut_of, offsets_onto, first_damaged, judged_by, judged}
use Rattle.ffv1_slice.proofs.Cuttings.{found, some_found, one_cutting, sound_same}

-- offsets that are known from number n on, and one more before them
abbrev pub one_more : ℕ → ℕ → (ℕ → ℕ) → ℕ → ℕ
one_more n x spans k = if nat_lt n k then spans k else x

one_more-above : (n x : ℕ) (spans : ℕ → ℕ) (k : ℕ) → n < k → one_more n x spans k ≡ spans k
one_more-above n x spans k h = cond-true (nat_lt n k) (spans k) x (lt-ltb n k h)

one_more-at : (n x : ℕ) (spans : ℕ → ℕ) → one_more n x spans n ≡ x
one_more-at n x spans = cond-false (nat_lt n n) (spans n) x (le-ltb n n (omega arith))

longer : (payload : List ℕ) (foot count n end : ℕ) (spans : ℕ → ℕ) → n < count → spans (suc n) ≡ end →
    foot + size_before payload foot end ≤ end → AreBehind payload foot count (suc n) spans →
    AreBehind payload foot count n (one_more n (end - (foot + size_before payload foot end)) spans)
longer payload foot count n end spans inside is fits behind =
    let x = end - (foot + size_before payload foot end) in
    let all = one_more n x spans in
    record {
      last = one_more-above n x spans count inside ∙ behind.last;
      each = λ k least most. elim (cases_eq k n) [
        | inl same ↦
            let here : all n ≡ x = one_more-at n x spans in
            let next : all (suc n) ≡ end = one_more-above n x spans (suc n) (omega arith) ∙ is in
            rw same (rw (here, next) (omega (arith, fits)))
        | inr other ↦
            let here : all k ≡ spans k = one_more-above n x spans k (omega (arith, least, other)) in
            let next : all (suc k) ≡ spans (suc k) = one_more-above n x spans (suc k) (omega (arith, least)) in
            rw (here, next) (behind.each k (omega (arith, least, other)) most)
      ];
    }

-- what is wrong from the end
abbrev pub IsUncut : List ℕ → ℕ → ℕ → CutFault → Type 0
IsUncut payload foot count f =
    ((f.fault ≡ fault.Footer) × HasNoSlice payload foot count f.slice)
    ⊎ ((f ≡ record { fault = fault.Leftover; slice = 0 }) × HasLeftover payload foot count)

left_at_zero : (b : Bool) (after : List ℕ) (f g : CutFault) → (if b then Ok (0 ∷ after) else Err f) ≡ Err g → (b ≡ false) × (g ≡ f)
left_at_zero true after f g h = cc
left_at_zero false after f g h = (refl, cc)

short_or_later : (b : Bool) (f g : CutFault) (r : Result (List ℕ) CutFault) → (if b then Err f else r) ≡ Err g →
    ((b ≡ true) × (g ≡ f)) ⊎ ((b ≡ false) × (r ≡ Err g))
short_or_later true f g r h = inl (refl, cc)
short_or_later false f g r h = inr (refl, h)

eqb-false : (n : ℕ) → (n == 0) ≡ false → 0 < n
eqb-false zero h = cc
eqb-false (suc n) h = omega arith

pub uncut : (payload : List ℕ) (foot count n end : ℕ) (after : List ℕ) (f : CutFault) (spans : ℕ → ℕ) → n ≤ count → spans n ≡ end →
    AreBehind payload foot count n spans → offsets_onto payload foot n end after ≡ Err f → IsUncut payload foot count f
unfolding offsets_onto
uncut payload foot count zero end after f spans few is behind h =
    let p = left_at_zero (end == 0) after (record { fault = fault.Leftover; slice = 0 }) f h in
    let some = eqb-false end p.0 in
    inr (p.1, record { spans = spans; behind = behind; some = omega (arith, some, is) })
uncut payload foot count (suc n) end after f spans few is behind h =
    let size = size_before payload foot end in
    elim (short_or_later (nat_lt end (foot + size)) (record { fault = fault.Footer; slice = n }) f (offsets_onto payload foot n (end - (foot + size)) (end ∷ after)) h) [
      | inl p ↦
          let short : end < foot + size = ltb-true end (foot + size) p.0 in
          let none : HasNoSlice payload foot count n = record { inside = omega (arith, few); spans = spans; behind = behind; short = rw is short } in
          inl (ap (λ (g : CutFault). g.fault) p.1, subst (HasNoSlice payload foot count) (sym (ap (λ (g : CutFault). g.slice) p.1)) none)
      | inr p ↦
          let fits : foot + size ≤ end = ltb-false end (foot + size) p.0 in
          let x = end - (foot + size) in
          uncut payload foot count n x (end ∷ after) f (one_more n x spans) (omega (arith, few)) (one_more-at n x spans)
          (longer payload foot count n end spans (omega (arith, few)) is fits behind) p.1
    ]

-- and the other way round
pub no_slice : (payload : List ℕ) (foot s : ℕ) (spans : ℕ → ℕ) (n end : ℕ) (after : List ℕ) → s < n → spans n ≡ end →
    ((k : ℕ) → suc s ≤ k → k < n → IsSized payload foot spans k) → spans (suc s) < foot + size_before payload foot (spans (suc s)) →
    offsets_onto payload foot n end after ≡ Err (record { fault = fault.Footer; slice = s })
unfolding offsets_onto
no_slice payload foot s spans zero end after some is each short = absurd (omega (arith, some))
no_slice payload foot s spans (suc n) end after some is each short =
    let size = size_before payload foot end in
    let next = offsets_onto payload foot n (end - (foot + size)) (end ∷ after) in
    elim (cases_eq s n) [
      | inl same ↦
          let here : spans (suc s) ≡ end = ap (λ k. spans (suc k)) same ∙ is in
          let below : end < foot + size = subst (λ e. e < foot + size_before payload foot e) here short in
          cond-true (nat_lt end (foot + size)) (Err (record { fault = fault.Footer; slice = n })) next (lt-ltb end (foot + size) below)
          ∙ ap (λ k. Err (record { fault = fault.Footer; slice = k })) (sym same)
      | inr other ↦
          let here : spans n + size + foot ≡ end = subst (λ e. spans n + size_before payload foot e + foot ≡ e) is (each n (omega (arith, some, other)) (omega arith)) in
          let rest : spans n ≡ end - (foot + size) = omega (arith, here) in
          cond-false (nat_lt end (foot + size)) (Err (record { fault = fault.Footer; slice = n })) next (le-ltb end (foot + size) (omega (arith, here)))
          ∙ no_slice payload foot s spans n (end - (foot + size)) (end ∷ after) (omega (arith, some, other)) rest (λ k least most. each k least (omega (arith, most))) short
    ]

pub leftover : (payload : List ℕ) (foot : ℕ) (spans : ℕ → ℕ) (n end : ℕ) (after : List ℕ) → 0 < spans 0 → spans n ≡ end →
    ((k : ℕ) → k < n → IsSized payload foot spans k) → offsets_onto payload foot n end after ≡ Err (record { fault = fault.Leftover; slice = 0 })
unfolding offsets_onto
leftover payload foot spans zero end after some is each =
    cond-false (end == 0) (Ok (0 ∷ after)) (Err (record { fault = fault.Leftover; slice = 0 })) (ne_eqb end 0 (λ none. omega (arith, some, is, none)))
leftover payload foot spans (suc n) end after some is each =
    let size = size_before payload foot end in
    let next = offsets_onto payload foot n (end - (foot + size)) (end ∷ after) in
    let here : spans n + size + foot ≡ end = subst (λ e. spans n + size_before payload foot e + foot ≡ e) is (each n (omega arith)) in
    let rest : spans n ≡ end - (foot + size) = omega (arith, here) in
    cond-false (nat_lt end (foot + size)) (Err (record { fault = fault.Footer; slice = n })) next (le-ltb end (foot + size) (omega (arith, here)))
    ∙ leftover payload foot spans n (end - (foot + size)) (end ∷ after) some rest (λ k most. each k (omega (arith, most)))

-- the first slice of some that is damaged
pub record IsFirst (payload : List ℕ) (spans : ℕ → ℕ) (s more : ℕ) (f : CutFault) : Type 0 where
  pub least : s ≤ f.slice
  pub most : f.slice < s + more
  pub before : (k : ℕ) → s ≤ k → k < f.slice → IsWhole payload spans k
  pub damage : IsDamage payload spans f.slice f.fault

eqb-other : (n : ℕ) → (n == 0) ≡ false → n ≢ 0
eqb-other zero h = cc
eqb-other (suc n) h = λ e. omega (arith, e)

three_ways : (b d : Bool) (f g h : CutFault) (r : Option CutFault) → (if b then (if d then r else Some f) else Some g) ≡ Some h →
    ((b ≡ false) × (h ≡ g)) ⊎ ((b ≡ true) × (d ≡ false) × (h ≡ f)) ⊎ ((b ≡ true) × (d ≡ true) × (r ≡ Some h))
three_ways true true f g h r e = inr (inr (refl, refl, e))
three_ways true false f g h r e = inr (inl (refl, refl, cc))
three_ways false d f g h r e = inl (refl, cc)

pub first_is : (payload : List ℕ) (spans : ℕ → ℕ) (s more : ℕ) (f : CutFault) → first_damaged payload spans s more ≡ Some f → IsFirst payload spans s more f
unfolding first_damaged
first_is payload spans s zero f h = cc
first_is payload spans s (suc more) f h =
    let sum = remainder_of (slice_of payload spans s) in
    let status = slice_index payload (spans (suc s) - 5) in
    let is : SliceFault → CutFault = λ g. record { fault = g; slice = s } in
    elim (three_ways (sum == 0) (status == 0) (is fault.SliceStatus) (is fault.SliceParity) f (first_damaged payload spans (suc s) more) h) [
      | inl p ↦
          let first : IsFirst payload spans s (suc more) (is fault.SliceParity) = record {
            least = omega arith;
            most = omega arith;
            before = λ k least most. absurd (omega (arith, least, most));
            damage = inl (refl, eqb-other sum p.0);
          } in
          subst (IsFirst payload spans s (suc more)) (sym p.1) first
      | inr d ↦ elim d [
        | inl p ↦
            let first : IsFirst payload spans s (suc more) (is fault.SliceStatus) = record {
              least = omega arith;
              most = omega arith;
              before = λ k least most. absurd (omega (arith, least, most));
              damage = inr (refl, eqb-true sum 0 p.0, eqb-other status p.1);
            } in
            subst (IsFirst payload spans s (suc more)) (sym p.2) first
        | inr p ↦
            let later = first_is payload spans (suc s) more f p.2 in
            record {
              least = (let l = later.least in omega (arith, l));
              most = (let m = later.most in omega (arith, m));
              before = λ k least most. elim (cases_eq s k) [
                | inl same ↦ subst (IsWhole payload spans) same (record { parity = eqb-true sum 0 p.0; status = eqb-true status 0 p.1 })
                | inr other ↦ later.before k (omega (arith, least, other)) most
              ];
              damage = later.damage;
            }
      ]
    ]

pub is_first : (payload : List ℕ) (spans : ℕ → ℕ) (n : ℕ) (g : SliceFault) (s more : ℕ) → s ≤ n → n < s + more →
    ((k : ℕ) → s ≤ k → k < n → IsWhole payload spans k) → IsDamage payload spans n g →
    first_damaged payload spans s more ≡ Some (record { fault = g; slice = n })
unfolding first_damaged
is_first payload spans n g s zero least most before damage = absurd (omega (arith, least, most))
is_first payload spans n g s (suc more) least most before damage =
    let sum = remainder_of (slice_of payload spans s) in
    let status = slice_index payload (spans (suc s) - 5) in
    let next = first_damaged payload spans (suc s) more in
    elim (cases_eq s n) [
      | inl same ↦ elim (subst (λ k. IsDamage payload spans k g) (sym same) damage) [
        | inl p ↦ rw (ne_eqb sum 0 p.1, p.0) (ap (λ k. Some (record { fault = fault.SliceParity; slice = k })) same)
        | inr p ↦ rw (eq-eqb sum 0 p.1, ne_eqb status 0 p.2, p.0) (ap (λ k. Some (record { fault = fault.SliceStatus; slice = k })) same)
      ]
      | inr other ↦
          let here = before s (omega arith) (omega (arith, least, other)) in
          rw (eq-eqb sum 0 here.parity, eq-eqb status 0 here.status)
          (is_first payload spans n g (suc s) more (omega (arith, least, other)) (omega (arith, most)) (λ k l m. before k (omega (arith, l)) m) damage)
    ]

judged_damaged : (o : Option CutFault) (os : List ℕ) (f : CutFault) → judged_by o os ≡ Err f → o ≡ Some f
judged_damaged None os f h = cc
judged_damaged (Some g) os f h = cc

judged_is : (o : Option CutFault) (os : List ℕ) (f : CutFault) → o ≡ Some f → judged_by o os ≡ Err f
judged_is None os f h = cc
judged_is (Some g) os f h = cc

guarded_foot : (ec : Bool) → ec ≡ true → foot_length ec ≡ 8
guarded_foot true h = refl
guarded_foot false h = cc

judged_err : (payload : List ℕ) (count : ℕ) (ec : Bool) (g : CutFault) → Err g ≡ judged payload count ec (Err g)
judged_err payload count true g = refl
judged_err payload count false g = refl

why_judged : (c : Configuration) (payload : List ℕ) (f : CutFault) (ec : Bool) (r : Result (List ℕ) CutFault) → c.ec ≡ ec →
    offsets_onto payload (foot_length c.ec) (c.columns * c.rows) (length payload) [] ≡ r →
    judged payload (c.columns * c.rows) ec r ≡ Err f → IsRefused c payload f
why_judged c payload f false (Ok os) is found h = cc
why_judged c payload f true (Ok os) is read h =
    let count = c.columns * c.rows in
    let foot = guarded_foot c.ec is in
    let first = first_is payload (slice_index os) 0 count f (judged_damaged (first_damaged payload (slice_index os) 0 count) os f h) in
    inr (inr (record {
      guarded = is;
      inside = (let m = first.most in omega (arith, m));
      spans = slice_index os;
      cutting = found payload 8 count os (subst (λ k. offsets_onto payload k count (length payload) [] ≡ Ok os) foot read);
      before = λ k most. first.before k (omega arith) most;
      damage = first.damage;
    }))
why_judged c payload f ec (Err g) is read h =
    let count = c.columns * c.rows in
    let same : Err g ≡ Err f = judged_err payload count ec g ∙ h in
    let start : AreBehind payload (foot_length c.ec) count count (λ k. length payload) = record {
      last = refl;
      each = λ k least most. absurd (omega (arith, least, most));
    } in
    elim (uncut payload (foot_length c.ec) count count (length payload) [] f (λ k. length payload) (omega arith) refl start (read ∙ same)) [
      | inl p ↦ inl p
      | inr p ↦ inr (inl p)
    ]

pub why : (c : Configuration) (payload : List ℕ) (f : CutFault) → cut_of c payload ≡ Err f → IsRefused c payload f
why c payload f h =
    why_judged c payload f c.ec (offsets_onto payload (foot_length c.ec) (c.columns * c.rows) (length payload) []) refl refl h

judged_of : (payload : List ℕ) (count : ℕ) (ec : Bool) (f : CutFault) (r : Result (List ℕ) CutFault) → r ≡ Err f → judged payload count ec r ≡ Err f
judged_of payload count true f (Ok os) h = cc
judged_of payload count false f (Ok os) h = cc
judged_of payload count true f (Err g) h = h
judged_of payload count false f (Err g) h = h

damaged_of : (payload : List ℕ) (count : ℕ) (ec : Bool) (f : CutFault) (os : List ℕ) → ec ≡ true →
    first_damaged payload (slice_index os) 0 count ≡ Some f → judged payload count ec (Ok os) ≡ Err f
damaged_of payload count true f os is h = judged_is (first_damaged payload (slice_index os) 0 count) os f h
damaged_of payload count false f os is h = cc

damage_same : (payload : List ℕ) (xs ys : ℕ → ℕ) (s : ℕ) (g : SliceFault) → xs s ≡ ys s → xs (suc s) ≡ ys (suc s) → IsDamage payload xs s g → IsDamage payload ys s g
damage_same payload xs ys s g here next is =
    let bytes : slice_of payload xs s ≡ slice_of payload ys s = rw (here, next) refl in
    let status : slice_index payload (xs (suc s) - 5) ≡ slice_index payload (ys (suc s) - 5) = ap (λ e. slice_index payload (e - 5)) next in
    elim is [
      | inl p ↦ inl (p.0, λ none. p.1 (ap remainder_of bytes ∙ none))
      | inr p ↦ inr (p.0, sym (ap remainder_of bytes) ∙ p.1, λ none. p.2 (status ∙ none))
    ]

because_damaged : (c : Configuration) (payload : List ℕ) (s : ℕ) (g : SliceFault) → IsDamaged c payload s g → cut_of c payload ≡ Err (record { fault = g; slice = s })
because_damaged c payload s g d =
    let count = c.columns * c.rows in
    let foot = guarded_foot c.ec d.guarded in
    let some = some_found payload 8 d.spans count (length payload) [] d.cutting.first d.cutting.last d.cutting.each in
    let os = some.0 in
    let cutting = found payload 8 count os some.1 in
    let inside = d.inside in
    let same : (k : ℕ) → k ≤ count → slice_index os k ≡ d.spans k =
    λ k h. one_cutting payload 8 count (slice_index os) d.spans cutting d.cutting (count - k) k (omega (arith, h)) in
    let before : (k : ℕ) → 0 ≤ k → k < s → IsWhole payload (slice_index os) k =
    λ k least most. sound_same true payload d.spans (slice_index os) k (sym (same k (omega (arith, most, inside)))) (sym (same (suc k) (omega (arith, most, inside)))) (d.before k most) in
    let damage : IsDamage payload (slice_index os) s g =
    damage_same payload d.spans (slice_index os) s g (sym (same s (omega (arith, inside)))) (sym (same (suc s) (omega (arith, inside)))) d.damage in
    let first = is_first payload (slice_index os) s g 0 count (omega arith) (omega (arith, inside)) before damage in
    let read : offsets_onto payload (foot_length c.ec) count (length payload) [] ≡ Ok os =
    ap (λ k. offsets_onto payload k count (length payload) []) foot ∙ some.1 in
    ap (judged payload count c.ec) read ∙ damaged_of payload count c.ec (record { fault = g; slice = s }) os d.guarded first

pub because : (c : Configuration) (payload : List ℕ) (f : CutFault) → IsRefused c payload f → cut_of c payload ≡ Err f
because c payload f h =
    let count = c.columns * c.rows in
    let foot = foot_length c.ec in
    let read = offsets_onto payload foot count (length payload) [] in
    elim h [
      | inl p ↦
          let n = p.1 in
          let is : record { fault = fault.Footer; slice = f.slice } ≡ f = ap (λ g. record { fault = g; slice = f.slice }) (sym p.0) in
          judged_of payload count c.ec f read
          (no_slice payload foot f.slice n.spans count (length payload) [] n.inside n.behind.last (λ k least most. n.behind.each k least most) n.short ∙ ap Err is)
      | inr d ↦ elim d [
        | inl p ↦
            let n = p.1 in
            judged_of payload count c.ec f read
            (leftover payload foot n.spans count (length payload) [] n.some n.behind.last (λ k most. n.behind.each k (omega arith) most) ∙ ap Err (sym p.0))
        | inr p ↦ because_damaged c payload f.slice f.fault p
      ]
    ]
