-- The values of a head and its rules.
use Rattle.std.proofs.Common.{◌≡◌, refl, ℕ, zero, suc, ◌*◌, ◌/◌, ◌%◌, ◌^◌, ◌<◌, ◌≤◌, Bool, true, false, nat_lt, ◌&&◌, List, [], ◌∷◌, ◌++◌, length, drop, replicate, get_or, Result, Ok, Err, IfErr, ap, sym, subst, ◌∙◌, arith, lt-ltb, eq-eqb, inl}
use Rattle.std.specs.Result.{IsErrAnd}
use Rattle.std.proofs.lemmas.Result.{err_from_is_err_and}
use Rattle.std.proofs.lemmas.Bool.{ltb-true, and_parts}
use Rattle.ffv1_range.specs.Table.{Table}
use Rattle.ffv1_range.specs.Interval.{interval_of}
use Rattle.ffv1_range.specs.Codes.{Codes, Inside}
use Rattle.ffv1_range.specs.Reading.{Reading}
use Rattle.ffv1_range.specs.History.{decisions_after, AreOutside}
use Rattle.std.proofs.lemmas.Nat.{mul-le}
use Rattle.ffv1_range.specs.Symbols.{Step, shifted}
use Rattle.ffv1_record.specs.declared.config.Profile.{Profile}
use Rattle.ffv1_record.specs.declared.config.Profile.TheVariants as profile
use Rattle.std.specs.Prelude.{is_some, Some, None, if◌then◌else◌}
use mathlib.Core.Bool.{true≢false}
use Rattle.ffv1_record.specs.Configuration.{Configuration}
use Rattle.ffv1_slice.specs.declared.head.SliceHead.{SliceHead}
use Rattle.ffv1_slice.specs.declared.fault.SliceFault.{SliceFault}
use Rattle.ffv1_slice.specs.Head.{Meets, Stops, head_rules, head_values, head_steps, values_steps, index_rules, info_rules, indexes_of, is_aspect, half_aspect, has_aspect, IsHead, IsThird, key_steps}
use Rattle.ffv1_slice.specs.Coding.{ReadsAt, StandsAfter}
use Rattle.ffv1_slice.specs.Internal.Values.{Gives}
use Rattle.ffv1_slice.proofs.Symbols.{reads_at}
use Rattle.ffv1_slice.proofs.CallsGive.{values_below, stops_below}

pub refused_head : (pr : Profile) (c : Configuration) (n : ℕ) (t : Table) (old new : Reading) (after : List ℕ) {f : SliceFault} (result : Result SliceHead SliceFault) → IsErrAnd result (λ g. g ≡ f) →
    Gives t (head_rules pr c n) old (replicate 32 128) new after (Err f) → IfErr result (λ f. (steps : List Step) × Stops (head_rules pr c n) 0 f steps × ReadsAt t 1 32 old new (shifted 1 steps))
refused_head pr c n t old new after {f = f} result err one =
    let p = err_from_is_err_and result err in
    let given = one.gives 0 in
    rw (p.1, p.2) (given.0, given.1, reads_at t 1 32 old new after given.0 (stops_below (head_rules pr c n) 0 f given.0 given.1) given.2)

pub found_head : (pr : Profile) (c : Configuration) (n : ℕ) (h : SliceHead) (t : Table) (old new : Reading) (after : List ℕ) → Gives t (head_rules pr c n) old (replicate 32 128) new after (Ok (head_values c n h)) →
    ReadsAt t 1 32 old new (head_steps c n h)
found_head pr c n h t old new after one = reads_at t 1 32 old new after (values_steps (head_values c n h)) (values_below (head_values c n h)) (one.gives 0).1

-- what the rules say of the values after the place
pub record Judged (pr : Profile) (extra : Bool) (count : ℕ) (xs : List ℕ) (s num den : ℕ) : Type 0 where
  pub first : get_or xs 0 0 < count
  pub second : get_or xs 1 0 < count
  pub third : (extra ≡ false → get_or xs 2 0 ≡ 0) → IsThird extra (get_or xs 2 0) count
  pub structure : s < 4
  pub aspect : has_aspect pr num den ≡ true

judged : (pr : Profile) (extra : Bool) (count before : ℕ) (xs : List ℕ) (structure num den : ℕ) → Meets (index_rules extra count ++ info_rules pr) before (indexes_of extra xs ++ (structure ∷ num ∷ den ∷ [])) →
    Judged pr extra count xs structure num den
unfolding Meets
judged pr false count before xs structure num den m = record {
  first = ltb-true (get_or xs 0 0) count m.1;
  second = ltb-true (get_or xs 1 0) count m.2.1;
  third = λ none. none refl;
  structure = ltb-true structure 4 m.2.2.1;
  aspect = m.2.2.2.2.1;
}
judged pr true count before xs structure num den m = record {
  first = ltb-true (get_or xs 0 0) count m.1;
  second = ltb-true (get_or xs 1 0) count m.2.1;
  third = λ none. ltb-true (get_or xs 2 0) count m.2.2.1;
  structure = ltb-true structure 4 m.2.2.2.1;
  aspect = m.2.2.2.2.2.1;
}

-- values that meet the rules are those of a head of the profile
pub is_head : (pr : Profile) (c : Configuration) (n before : ℕ) (h : SliceHead) → Meets (head_rules pr c n) before (head_values c n h) → length h.indexes ≡ 3 → (c.extra_plane ≡ false → get_or h.indexes 2 0 ≡ 0) → IsHead pr c h
unfolding Meets
is_head pr c n before h m long none =
    let j = judged pr c.extra_plane (length c.sets) 0 h.indexes h.structure h.sar_num h.sar_den m.2.2.2.2 in
    record { long = long; first = j.first; second = j.second; third = j.third none; structure = j.structure; aspect = j.aspect }

below_sets : {count : ℕ} (k : ℕ) → count ≤ 8 → k < count → k < 2 ^ 31
below_sets k few h = omega (arith, few, h)

-- the numbers of an aspect are small
both_short : (num den : ℕ) → nat_lt num 65536 && nat_lt den 65536 ≡ true → (num < 65536) × (den < 65536)
both_short num den is =
    let each = and_parts (nat_lt num 65536) (nat_lt den 65536) is in
    (ltb-true num 65536 each.0, ltb-true den 65536 each.1)

half_short : (pr : Profile) (num den : ℕ) → is_some (half_aspect pr num den) ≡ true → (num < 65536) × (den < 65536)
half_short profile.Strict num den is = absurd (true≢false (sym is))
half_short profile.Wide num den is = by_test (nat_lt num 65536 && nat_lt den 65536) refl is
  where
    by_test : (test : Bool) → nat_lt num 65536 && nat_lt den 65536 ≡ test → is_some {T = ℕ × ℕ} (if test then Some (0, 0) else None) ≡ true → (num < 65536) × (den < 65536)
    by_test true e given = both_short num den e
    by_test false e given = absurd (true≢false (sym given))

pub aspect_short : (pr : Profile) (num den : ℕ) → has_aspect pr num den ≡ true → (num < 65536) × (den < 65536)
aspect_short pr num den is = by_test (is_aspect num den) refl is
  where
    by_test : (test : Bool) → is_aspect num den ≡ test → is_some {T = ℕ × ℕ} (if test then Some (num, den) else half_aspect pr num den) ≡ true → (num < 65536) × (den < 65536)
    by_test true e given = both_short num den (and_parts (nat_lt num 65536 && nat_lt den 65536) _ e).0
    by_test false e given = half_short pr num den given

small_aspect : (pr : Profile) (num den : ℕ) → has_aspect pr num den ≡ true → (num < 2 ^ 31) × (den < 2 ^ 31)
small_aspect pr num den is =
    let both = aspect_short pr num den is in
    (omega (arith, both.0), omega (arith, both.1))

meets_rest : (pr : Profile) (extra : Bool) (count before : ℕ) (xs : List ℕ) (structure num den : ℕ) → count ≤ 8 → get_or xs 0 0 < count → get_or xs 1 0 < count → IsThird extra (get_or xs 2 0) count → structure < 4 →
    has_aspect pr num den ≡ true → Meets (index_rules extra count ++ info_rules pr) before (indexes_of extra xs ++ (structure ∷ num ∷ den ∷ []))
unfolding Meets
meets_rest pr false count before xs structure num den few first second third low is =
    let small = small_aspect pr num den is in (
      below_sets (get_or xs 0 0) few first,
      lt-ltb (get_or xs 0 0) count first,
      (
        below_sets (get_or xs 1 0) few second,
        lt-ltb (get_or xs 1 0) count second,
        (omega (arith, low), lt-ltb structure 4 low, (small.0, refl, (small.1, is, tt))),
      ),
    )
meets_rest pr true count before xs structure num den few first second third low is =
    let small = small_aspect pr num den is in (
      below_sets (get_or xs 0 0) few first,
      lt-ltb (get_or xs 0 0) count first,
      (
        below_sets (get_or xs 1 0) few second,
        lt-ltb (get_or xs 1 0) count second,
        (below_sets (get_or xs 2 0) few third, lt-ltb (get_or xs 2 0) count third, (omega (arith, low), lt-ltb structure 4 low, (small.0, refl, (small.1, is, tt)))),
      ),
    )

quotient_le : (n m : ℕ) → n / m ≤ n
quotient_le n m = grind arith

remainder_le : (n m : ℕ) → n % m ≤ n
remainder_le n m = grind arith

-- the values of a head of the profile meet the rules
pub meets_head : (pr : Profile) (c : Configuration) (n : ℕ) (h : SliceHead) → n < 2 ^ 31 → length c.sets ≤ 8 → IsHead pr c h → Meets (head_rules pr c n) 0 (head_values c n h)
unfolding Meets
meets_head pr c n h small few is =
    let row = quotient_le n c.columns in
    let column = remainder_le n c.columns in (
      omega (arith, small, column),
      eq-eqb (n % c.columns) (n % c.columns) refl,
      (
        omega (arith, small, row),
        eq-eqb (n / c.columns) (n / c.columns) refl,
        (omega arith, refl, (omega arith, refl, meets_rest pr c.extra_plane (length c.sets) 0 h.indexes h.structure h.sar_num h.sar_den few is.first is.second is.third is.structure is.aspect)),
      ),
    )

-- heads of the same values are the same
three : (xs : List ℕ) → length xs ≡ 3 → xs ≡ get_or xs 0 0 ∷ get_or xs 1 0 ∷ get_or xs 2 0 ∷ []
three [] long = absurd (omega (arith, long))
three (x ∷ []) long = absurd (omega (arith, long))
three (x ∷ y ∷ []) long = absurd (omega (arith, long))
three (x ∷ y ∷ z ∷ []) long = refl
three (x ∷ y ∷ z ∷ w ∷ xs) long = absurd (omega (arith, long))

pub record SameValues (xs ys : List ℕ) (s num den u wide high : ℕ) : Type 0 where
  pub first : get_or xs 0 0 ≡ get_or ys 0 0
  pub second : get_or xs 1 0 ≡ get_or ys 1 0
  pub third : get_or xs 2 0 ≡ get_or ys 2 0
  pub structure : s ≡ u
  pub sar_num : num ≡ wide
  pub sar_den : den ≡ high

same_values : (extra : Bool) (count : ℕ) (xs ys : List ℕ) (s num den u wide high : ℕ) → IsThird extra (get_or xs 2 0) count → IsThird extra (get_or ys 2 0) count →
    indexes_of extra xs ++ (s ∷ num ∷ den ∷ []) ≡ indexes_of extra ys ++ (u ∷ wide ∷ high ∷ []) → SameValues xs ys s num den u wide high
same_values false count xs ys s num den u wide high p q e = record {
  first = ap (λ l. get_or l 0 0) e;
  second = ap (λ l. get_or l 1 0) e;
  third = p ∙ sym q;
  structure = ap (λ l. get_or l 2 0) e;
  sar_num = ap (λ l. get_or l 3 0) e;
  sar_den = ap (λ l. get_or l 4 0) e;
}
same_values true count xs ys s num den u wide high p q e = record {
  first = ap (λ l. get_or l 0 0) e;
  second = ap (λ l. get_or l 1 0) e;
  third = ap (λ l. get_or l 2 0) e;
  structure = ap (λ l. get_or l 3 0) e;
  sar_num = ap (λ l. get_or l 4 0) e;
  sar_den = ap (λ l. get_or l 5 0) e;
}

pub same_head : (pr : Profile) (c : Configuration) (n : ℕ) (g h : SliceHead) → IsHead pr c g → IsHead pr c h → head_values c n g ≡ head_values c n h → g ≡ h
same_head pr c n g h p q e =
    let make : List ℕ → ℕ → ℕ → ℕ → SliceHead = λ xs s num den. record { indexes = xs; structure = s; sar_num = num; sar_den = den } in
    let row : ℕ → ℕ → ℕ → List ℕ = λ x y z. x ∷ y ∷ z ∷ [] in
    let rest = ap (drop 4) e in
    let same = same_values c.extra_plane (length c.sets) g.indexes h.indexes g.structure g.sar_num g.sar_den h.structure h.sar_num h.sar_den p.third q.third rest in
    let indexes : g.indexes ≡ h.indexes =
    three g.indexes p.long
    ∙ ap (λ x. row x (get_or g.indexes 1 0) (get_or g.indexes 2 0)) same.first
    ∙ ap (λ y. row (get_or h.indexes 0 0) y (get_or g.indexes 2 0)) same.second
    ∙ ap (λ z. row (get_or h.indexes 0 0) (get_or h.indexes 1 0) z) same.third
    ∙ sym (three h.indexes q.long) in
    ap (λ xs. make xs g.structure g.sar_num g.sar_den) indexes
    ∙ ap (λ s. make h.indexes s g.sar_num g.sar_den) same.structure
    ∙ ap (λ k. make h.indexes h.structure k g.sar_den) same.sar_num
    ∙ ap (λ k. make h.indexes h.structure h.sar_num k) same.sar_den

key_outside : (n : ℕ) → AreOutside (key_steps n) 1 32
key_outside zero = (inl (omega arith), tt)
key_outside (suc n) = tt

-- what was read after the key is coded by the bytes
pub coded_behind_key : (t : Table) (n : ℕ) (old new : Reading) (steps : List Step) → ReadsAt t 1 32 old new steps → StandsAfter old t (key_steps n) →
    Codes old.bytes (decisions_after t [] (key_steps n ++ steps))
coded_behind_key t n old new steps reads stands =
    let at = reads.at (key_steps n) (key_outside n) stands in
    subst (λ bs. Inside bs (interval_of (decisions_after t [] (key_steps n ++ steps)))) reads.bytes at.inside

pub small_slice : (columns rows n : ℕ) → columns ≤ 32 → rows ≤ 32 → n < columns * rows → n < 2 ^ 31
small_slice columns rows n wide high h =
    let most = mul-le columns rows 32 32 wide high in
    omega (arith, most, h)
