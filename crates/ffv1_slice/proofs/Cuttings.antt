-- A payload has one cutting at most; what is found from its end is one, and one that there is, is found.
use Rattle.std.proofs.Common.{◌≡◌, refl, ℕ, zero, suc, ◌+◌, ◌-◌, ◌*◌, ◌<◌, ◌≤◌, ◌==◌, Bool, true, false, if◌then◌else◌, nat_lt, Option, Some, None, Result, Ok, Err, List, [], ◌∷◌, length, drop, get_or, slice_index, ap, sym, subst, ◌∙◌, arith, inl, inr, le-ltb, ltb-false}
use Rattle.std.proofs.lemmas.Bool.{cases_eq, cond-true, cond-false, eq-eqb, eqb-true}
use Rattle.ffv1_record.specs.Configuration.{Configuration}
use Rattle.ffv1_record.specs.Parity.{remainder_of}
use Rattle.ffv1_slice.specs.declared.cutting.CutFault.{CutFault}
use Rattle.ffv1_slice.specs.declared.fault.SliceFault.TheVariants as fault
use Rattle.ffv1_slice.specs.Footer.{foot_length}
use Rattle.ffv1_slice.specs.Cutting.{IsCutting, IsWhole, IsSound, Cuts, size_before, slice_of}
use Rattle.ffv1_slice.specs.Internal.Walk.{cut_of, offsets_onto, first_damaged, judged_by, judged}

pub one_cutting : (payload : List ℕ) (foot count : ℕ) (xs ys : ℕ → ℕ) → IsCutting payload foot count xs → IsCutting payload foot count ys →
    (d s : ℕ) → s + d ≡ count → xs s ≡ ys s
one_cutting payload foot count xs ys f g zero s e =
    let same : s ≡ count = omega (arith, e) in
    ap xs same ∙ f.last ∙ sym g.last ∙ sym (ap ys same)
one_cutting payload foot count xs ys f g (suc d) s e =
    let next = one_cutting payload foot count xs ys f g d (suc s) (omega (arith, e)) in
    let size = ap (size_before payload foot) next in
    let fs = f.each s (omega (arith, e)) in
    let gs = g.each s (omega (arith, e)) in
    omega (arith, next, size, fs, gs)

-- what stands at a position of a list, and after it
drop_first : (k x : ℕ) (xs os : List ℕ) → drop k os ≡ x ∷ xs → get_or os k 0 ≡ x
drop_first zero x xs [] h = cc
drop_first zero x xs (o ∷ os) h = cc
drop_first (suc k) x xs [] h = cc
drop_first (suc k) x xs (o ∷ os) h = drop_first k x xs os h

drop_rest : (k x : ℕ) (xs os : List ℕ) → drop k os ≡ x ∷ xs → drop (suc k) os ≡ xs
drop_rest zero x xs [] h = cc
drop_rest zero x xs (o ∷ os) h = cc
drop_rest (suc k) x xs [] h = cc
drop_rest (suc k) x xs (o ∷ os) h = drop_rest k x xs os h

-- offsets of so many slices up to end, before others
pub record FoundTo (payload : List ℕ) (foot n end : ℕ) (after os : List ℕ) : Type 0 where
  pub long : length os ≡ suc n + length after
  pub first : get_or os 0 0 ≡ 0
  pub last : get_or os n 0 ≡ end
  pub each : (s : ℕ) → s < n → get_or os s 0 + size_before payload foot (get_or os (suc s) 0) + foot ≡ get_or os (suc s) 0
  pub behind : drop (suc n) os ≡ after

at_zero : (b : Bool) (after os : List ℕ) (f : CutFault) → (if b then Ok (0 ∷ after) else Err f) ≡ Ok os → (b ≡ true) × (os ≡ 0 ∷ after)
at_zero true after os f h = (refl, cc)
at_zero false after os f h = cc

at_later : (b : Bool) (f : CutFault) (r : Result (List ℕ) CutFault) (os : List ℕ) → (if b then Err f else r) ≡ Ok os → (b ≡ false) × (r ≡ Ok os)
at_later true f r os h = cc
at_later false f r os h = (refl, h)

pub found_to : (payload : List ℕ) (foot n end : ℕ) (after os : List ℕ) → offsets_onto payload foot n end after ≡ Ok os → FoundTo payload foot n end after os
unfolding offsets_onto
found_to payload foot zero end after os h =
    let p = at_zero (end == 0) after os (record { fault = fault.Leftover; slice = 0 }) h in
    let ends : end ≡ 0 = eqb-true end 0 p.0 in
    subst (FoundTo payload foot 0 end after) (sym p.1) (record { long = omega arith; first = refl; last = sym ends; each = λ s e. absurd (omega (arith, e)); behind = refl })
found_to payload foot (suc n) end after os h =
    let size = size_before payload foot end in
    let p = at_later (nat_lt end (foot + size)) (record { fault = fault.Footer; slice = n }) (offsets_onto payload foot n (end - (foot + size)) (end ∷ after)) os h in
    let fits : foot + size ≤ end = ltb-false end (foot + size) p.0 in
    let more = found_to payload foot n (end - (foot + size)) (end ∷ after) os p.1 in
    let top : get_or os (suc n) 0 ≡ end = drop_first (suc n) end after os more.behind in
    let long = more.long in
    record {
      long = omega (arith, long);
      first = more.first;
      last = top;
      each = λ s e. elim (cases_eq s n) [
        | inl same ↦ rw same (rw (top, more.last) (omega (arith, fits)))
        | inr other ↦ more.each s (omega (arith, e, other))
      ];
      behind = drop_rest (suc n) end after os more.behind;
    }

pub found : (payload : List ℕ) (foot count : ℕ) (os : List ℕ) → offsets_onto payload foot count (length payload) [] ≡ Ok os → IsCutting payload foot count (slice_index os)
found payload foot count os h =
    let f = found_to payload foot count (length payload) [] os h in
    record { first = f.first; last = f.last; each = f.each }

-- a cutting is found
pub some_found : (payload : List ℕ) (foot : ℕ) (spans : ℕ → ℕ) (n end : ℕ) (after : List ℕ) → spans 0 ≡ 0 → spans n ≡ end →
    ((s : ℕ) → s < n → spans s + size_before payload foot (spans (suc s)) + foot ≡ spans (suc s)) → (os : List ℕ) × (offsets_onto payload foot n end after ≡ Ok os)
unfolding offsets_onto
some_found payload foot spans zero end after first last each =
    let ends : end ≡ 0 = sym last ∙ first in
    (0 ∷ after, cond-true (end == 0) (Ok (0 ∷ after)) (Err (record { fault = fault.Leftover; slice = 0 })) (eq-eqb end 0 ends))
some_found payload foot spans (suc n) end after first last each =
    let size = size_before payload foot end in
    let here : spans n + size_before payload foot end + foot ≡ end = subst (λ e. spans n + size_before payload foot e + foot ≡ e) last (each n (omega arith)) in
    let rest : spans n ≡ end - (foot + size) = omega (arith, here) in
    let more = some_found payload foot spans n (end - (foot + size)) (end ∷ after) first rest (λ s h. each s (omega (arith, h))) in
    (more.0, cond-false (nat_lt end (foot + size)) (Err (record { fault = fault.Footer; slice = n })) (offsets_onto payload foot n (end - (foot + size)) (end ∷ after)) (le-ltb end (foot + size) (omega (arith, here))) ∙ more.1)

-- the first that is damaged
not_damaged : (b d : Bool) (f g : CutFault) (r : Option CutFault) → (if b then (if d then r else Some f) else Some g) ≡ None → (b ≡ true) × (d ≡ true) × (r ≡ None)
not_damaged true true f g r h = (refl, refl, h)
not_damaged true false f g r h = cc
not_damaged false d f g r h = cc

pub all_whole : (payload : List ℕ) (spans : ℕ → ℕ) (s more : ℕ) → first_damaged payload spans s more ≡ None → (k : ℕ) → s ≤ k → k < s + more → IsWhole payload spans k
unfolding first_damaged
all_whole payload spans s zero h k least most = absurd (omega (arith, least, most))
all_whole payload spans s (suc more) h k least most =
    let p = not_damaged (remainder_of (slice_of payload spans s) == 0) (slice_index payload (spans (suc s) - 5) == 0) (record { fault = fault.SliceStatus; slice = s }) (record { fault = fault.SliceParity; slice = s }) (first_damaged payload spans (suc s) more) h in
    elim (cases_eq s k) [
      | inl same ↦ subst (IsWhole payload spans) same (record { parity = eqb-true (remainder_of (slice_of payload spans s)) 0 p.0; status = eqb-true (slice_index payload (spans (suc s) - 5)) 0 p.1 })
      | inr other ↦ all_whole payload spans (suc s) more p.2 k (omega (arith, least, other)) (omega (arith, most))
    ]

pub none_damaged : (payload : List ℕ) (spans : ℕ → ℕ) (s more : ℕ) → ((k : ℕ) → s ≤ k → k < s + more → IsWhole payload spans k) → first_damaged payload spans s more ≡ None
unfolding first_damaged
none_damaged payload spans s zero h = refl
none_damaged payload spans s (suc more) h =
    let here = h s (omega arith) (omega arith) in
    let parity : (remainder_of (slice_of payload spans s) == 0) ≡ true = eq-eqb (remainder_of (slice_of payload spans s)) 0 here.parity in
    let status : (slice_index payload (spans (suc s) - 5) == 0) ≡ true = eq-eqb (slice_index payload (spans (suc s) - 5)) 0 here.status in
    let rest = none_damaged payload spans (suc s) more (λ k least most. h k (omega (arith, least)) (omega (arith, most))) in
    rw (parity, status) rest

judged_none : (o : Option CutFault) (os xs : List ℕ) → judged_by o os ≡ Ok xs → (o ≡ None) × (os ≡ xs)
judged_none None os xs h = (refl, cc)
judged_none (Some f) os xs h = cc

pub judged_found : (payload : List ℕ) (count : ℕ) (ec : Bool) (r : Result (List ℕ) CutFault) (os : List ℕ) → judged payload count ec r ≡ Ok os →
    (r ≡ Ok os) × ((s : ℕ) → s < count → IsSound ec payload (slice_index os) s)
judged_found payload count false (Ok xs) os h = (h, λ s e. tt)
judged_found payload count true (Ok xs) os h =
    let p = judged_none (first_damaged payload (slice_index xs) 0 count) xs os h in
    (ap Ok p.1, λ s e. all_whole payload (slice_index os) 0 count (subst (λ ys. first_damaged payload (slice_index ys) 0 count ≡ None) p.1 p.0) s (omega arith) (omega (arith, e)))
judged_found payload count false (Err f) os h = cc
judged_found payload count true (Err f) os h = cc

pub cut_found : (c : Configuration) (payload os : List ℕ) → cut_of c payload ≡ Ok os → (length os ≡ suc (c.columns * c.rows)) × Cuts c payload (slice_index os)
cut_found c payload os h =
    let p = judged_found payload (c.columns * c.rows) c.ec (offsets_onto payload (foot_length c.ec) (c.columns * c.rows) (length payload) []) os h in
    let f = found_to payload (foot_length c.ec) (c.columns * c.rows) (length payload) [] os p.0 in
    let long = f.long in
    (omega (arith, long), record { cutting = found payload (foot_length c.ec) (c.columns * c.rows) os p.0; sound = p.1 })

-- soundness speaks of two offsets
pub sound_same : (ec : Bool) (payload : List ℕ) (xs ys : ℕ → ℕ) (s : ℕ) → xs s ≡ ys s → xs (suc s) ≡ ys (suc s) → IsSound ec payload xs s → IsSound ec payload ys s
sound_same false payload xs ys s here next is = tt
sound_same true payload xs ys s here next is =
    let bytes : slice_of payload xs s ≡ slice_of payload ys s = rw (here, next) refl in
    let status : slice_index payload (xs (suc s) - 5) ≡ slice_index payload (ys (suc s) - 5) = ap (λ e. slice_index payload (e - 5)) next in
    record { parity = sym (ap remainder_of bytes) ∙ is.parity; status = sym status ∙ is.status }

judged_only : (payload : List ℕ) (count : ℕ) (ec : Bool) (os : List ℕ) → ((s : ℕ) → s < count → IsSound ec payload (slice_index os) s) → judged payload count ec (Ok os) ≡ Ok os
judged_only payload count false os sound = refl
judged_only payload count true os sound =
    ap (λ o. judged_by o os) (none_damaged payload (slice_index os) 0 count (λ k least most. sound k (omega (arith, most))))

pub cut_only : (c : Configuration) (payload : List ℕ) (spans : ℕ → ℕ) → Cuts c payload spans →
    (os : List ℕ) × (cut_of c payload ≡ Ok os) × (length os ≡ suc (c.columns * c.rows)) × ((s : ℕ) → s ≤ c.columns * c.rows → slice_index os s ≡ spans s)
cut_only c payload spans cuts =
    let count = c.columns * c.rows in
    let foot = foot_length c.ec in
    let some = some_found payload foot spans count (length payload) [] cuts.cutting.first cuts.cutting.last cuts.cutting.each in
    let cutting = found payload foot count some.0 some.1 in
    let long = (found_to payload foot count (length payload) [] some.0 some.1).long in
    let same : (s : ℕ) → s ≤ count → slice_index some.0 s ≡ spans s =
    λ s h. one_cutting payload foot count (slice_index some.0) spans cutting cuts.cutting (count - s) s (omega (arith, h)) in
    let sound : (s : ℕ) → s < count → IsSound c.ec payload (slice_index some.0) s =
    λ s h. sound_same c.ec payload spans (slice_index some.0) s (sym (same s (omega (arith, h)))) (sym (same (suc s) (omega (arith, h)))) (cuts.sound s h) in
    (some.0, ap (judged payload count c.ec) some.1 ∙ judged_only payload count c.ec some.0 sound, omega (arith, long), same)

pub cut_refused : (c : Configuration) (payload : List ℕ) (spans : ℕ → ℕ) (f : CutFault) → cut_of c payload ≡ Err f → Cuts c payload spans → ⊥
cut_refused c payload spans f h cuts =
    let only = cut_only c payload spans cuts in
    let both : Ok only.0 ≡ Err f = sym only.1 ∙ h in
    cc
