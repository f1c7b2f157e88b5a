-- What is coded is read: bytes that code the symbols of a value give that value, and nothing else.
use Rattle.std.proofs.Common.{◌≡◌, refl, ℕ, ◌+◌, ◌^◌, ◌<◌, ◌≤◌, inl, inr, Bool, true, false, IsTrue, nat_le, ◌&&◌, List, [], ◌++◌, append-nil, ap, sym, subst, ◌∙◌, ℤ, Result, Ok, Err, rules}
use Rattle.std.proofs.Math.IntN.{nat_abs}
use Rattle.std.proofs.lemmas.Bool.{le-leb}
use Rattle.ffv1_range.specs.Interval.{start, narrowed}
use Rattle.ffv1_range.specs.Codes.{AreBytes, Inside}
use Rattle.ffv1_range.specs.Symbols.{Step, shifted, too_long}
use Rattle.ffv1_range.specs.History.{decisions_after}
use Rattle.ffv1_range.specs.Standard.{standard}
use Rattle.ffv1_range.specs.Table.{Table}
use Rattle.ffv1_range.specs.Deltas.{IsTableOf}
use Rattle.ffv1_range.proofs.Standard.{standard as standard_table}
use Rattle.ffv1_range.proofs.Nested.{narrowed-append, narrowed-inside, same_bit}
use Rattle.ffv1_range.proofs.Named.{named}
use Rattle.ffv1_range.proofs.OneAfter.{after_append, one_after, none_after}
use Rattle.ffv1_range.proofs.Unsigned.{one_unsigned_after, none_unsigned_after}
use Rattle.ffv1_record.specs.declared.fault.RecordFault.{RecordFault}
use Rattle.ffv1_record.specs.Record.{IsCoded, number_steps, signed_number_steps, truth_steps}
use Rattle.ffv1_record.specs.Reader.{Reader, Spot, behind, ◌>>=◌, done, require, next_table, number, signed_number, truth, number_within, makes_table}
use Rattle.ffv1_record.proofs.ReadIsCoded.{ok_same, not_both}

-- bytes that code steps code each beginning of them
pub coded_front : (b : List ℕ) → AreBytes b → (xs ys : List Step) → IsCoded b (xs ++ ys) → IsCoded b xs
coded_front b are xs ys h =
    narrowed-inside b are (narrowed start (decisions_after standard [] xs)) (decisions_after standard xs ys) (named standard standard_table xs ys)
    (rw (after_append standard [] xs ys, narrowed-append start (decisions_after standard [] xs) (decisions_after standard xs ys)) at h)

-- after some steps
coded_behind : (b : List ℕ) (xs ys : List Step) → IsCoded b (xs ++ ys) → Inside b (narrowed (narrowed start (decisions_after standard [] xs)) (decisions_after standard xs ys))
coded_behind b xs ys h = rw (after_append standard [] xs ys, narrowed-append start (decisions_after standard [] xs) (decisions_after standard xs ys)) at h

module _ (b : List ℕ) (are : AreBytes b) (past : List Step) (base : ℕ) where
  same_number : (n m : ℕ) → n < 2 ^ 31 → m < 2 ^ 31 → IsCoded b (past ++ number_steps base n) → IsCoded b (past ++ number_steps base m) → n ≡ m
  same_number n m small_n small_m f g =
      one_unsigned_after b are standard (narrowed start (decisions_after standard [] past)) base past n m small_n small_m
      (named standard standard_table past (number_steps base n)) (named standard standard_table past (number_steps base m)) (coded_behind b past (number_steps base n) f) (coded_behind b past (number_steps base m) g)

  not_long : (n : ℕ) → n < 2 ^ 31 → IsCoded b (past ++ number_steps base n) → IsCoded b (past ++ shifted base too_long) → ⊥
  not_long n small f g =
      none_unsigned_after b are standard (narrowed start (decisions_after standard [] past)) base past n small
      (named standard standard_table past (number_steps base n)) (named standard standard_table past (shifted base too_long)) (coded_behind b past (number_steps base n) f) (coded_behind b past (shifted base too_long) g)

module _ (b : List ℕ) (are : AreBytes b) (past : List Step) where
  same_signed : (v w : ℤ) → nat_abs v < 2 ^ 31 → nat_abs w < 2 ^ 31 → IsCoded b (past ++ signed_number_steps v) → IsCoded b (past ++ signed_number_steps w) → v ≡ w
  same_signed v w small_v small_w f g =
      one_after b are standard 0 past (narrowed start (decisions_after standard [] past)) v w small_v small_w
      (named standard standard_table past (signed_number_steps v)) (named standard standard_table past (signed_number_steps w)) (coded_behind b past (signed_number_steps v) f) (coded_behind b past (signed_number_steps w) g)

  not_long_signed : (v : ℤ) → nat_abs v < 2 ^ 31 → IsCoded b (past ++ signed_number_steps v) → IsCoded b (past ++ shifted 0 too_long) → ⊥
  not_long_signed v small f g =
      none_after b are standard 0 past (narrowed start (decisions_after standard [] past)) v small
      (named standard standard_table past (signed_number_steps v)) (named standard standard_table past (shifted 0 too_long)) (coded_behind b past (signed_number_steps v) f) (coded_behind b past (shifted 0 too_long) g)

  same_truth : (x y : Bool) → IsCoded b (past ++ truth_steps x) → IsCoded b (past ++ truth_steps y) → x ≡ y
  same_truth x y f g =
      let states = named standard standard_table past (truth_steps x) in
      same_bit b are (narrowed start (decisions_after standard [] past)) _ x y [] [] states.0.most tt tt (coded_behind b past (truth_steps x) f) (coded_behind b past (truth_steps y) g)

-- of bytes that code the steps of t a reader at s gives x, and nothing else, and stands at t
pub record Forces {X : Type 0} (r : Reader X) (b : List ℕ) (s : Spot) (x : X) (t : Spot) : Type 0 where
  pub forces : IsCoded b t.past → (out : Result (X × Spot) RecordFault) → r b s out → out ≡ Ok (x, t)
  pub reads : IsCoded b t.past → r b s (Ok (x, t))

pub forced_then : {X Y : Type 0} (b : List ℕ) → AreBytes b → (first : Reader X) (next : X → Reader Y) (s t u : Spot) (x : X) (y : Y) (more : List Step) → u.past ≡ t.past ++ more →
    Forces first b s x t → Forces (next x) b t y u → Forces (first >>= next) b s y u
forced_then {X = X} {Y = Y} b are first next s t u x y more past one two = record {
  forces = λ coded out h.
      let front = coded_front b are t.past more (subst (IsCoded b) past coded) in
      elim h.either [
        | inl e ↦
            let same = ok_same (e.0, e.1) (x, t) (one.forces front (Ok (e.0, e.1)) e.2) in
            two.forces coded out (subst (λ (p : X × Spot). next p.0 b p.1 out) same e.3)
        | inr e ↦ absurd (not_both (x, t) e.0 (sym (one.forces front (Err e.0) e.1)))
      ];
  reads = λ coded.
      let front = coded_front b are t.past more (subst (IsCoded b) past coded) in
      record { either = inl (x, t, one.reads front, two.reads coded) };
}

pub forced_as : {X : Type 0} (r : Reader X) (b : List ℕ) (s t u : Spot) (x y : X) → Forces r b s x t → x ≡ y → t ≡ u → Forces r b s y u
forced_as {X = X} r b s t u x y one same there = subst (λ (p : X × Spot). Forces r b s p.0 p.1) (pair same there) one
  where
    pair : {X : Type 0} {x y : X} {t u : Spot} → x ≡ y → t ≡ u → ◌≡◌ {A = X × Spot} (x, t) (y, u)
    pair {y = y} {t = t} same there = ap (λ z. (z, t)) same ∙ ap (λ z. (y, z)) there

pub forced_done : {X : Type 0} (b : List ℕ) (s : Spot) (x : X) → Forces (done x) b s x s
unfolding done
forced_done b s x = record { forces = λ coded out h. h; reads = λ coded. refl }

pub forced_require : (b : List ℕ) (s : Spot) (test : Bool) (f : RecordFault) → IsTrue test → Forces (require test f) b s true s
unfolding require
forced_require b s true f holds = record { forces = λ coded out h. h; reads = λ coded. refl }
forced_require b s false f holds = absurd (search rules)

pub forced_number : (b : List ℕ) → AreBytes b → (base : ℕ) (s : Spot) (n : ℕ) → n < 2 ^ 31 → Forces (number base) b s n (behind s (number_steps base n))
unfolding number
forced_number b are base s n small = record {
  forces = λ coded out h. elim h [
    | inl e ↦ e.3 ∙ ap (λ k. Ok (k, behind s (number_steps base k))) (sym (same_number b are s.past base n e.0 small e.1 coded e.2))
    | inr e ↦ absurd (not_long b are s.past base n small coded e.0)
  ];
  reads = λ coded. inl (n, small, coded, refl);
}

pub forced_signed : (b : List ℕ) → AreBytes b → (s : Spot) (v : ℤ) → nat_abs v < 2 ^ 31 → Forces signed_number b s v (behind s (signed_number_steps v))
unfolding signed_number
forced_signed b are s v small = record {
  forces = λ coded out h. elim h [
    | inl e ↦ e.3 ∙ ap (λ (k : ℤ). Ok (k, behind s (signed_number_steps k))) (sym (same_signed b are s.past v e.0 small e.1 coded e.2))
    | inr e ↦ absurd (not_long_signed b are s.past v small coded e.0)
  ];
  reads = λ coded. inl (v, small, coded, refl);
}

pub forced_truth : (b : List ℕ) → AreBytes b → (s : Spot) (x : Bool) → Forces truth b s x (behind s (truth_steps x))
unfolding truth
forced_truth b are s x = record {
  forces = λ coded out h. h.2 ∙ ap (λ (k : Bool). Ok (k, behind s (truth_steps k))) (sym (same_truth b are s.past x h.0 coded h.1));
  reads = λ coded. (x, coded, refl);
}

pub forced_next : (b : List ℕ) (s : Spot) → Forces next_table b s s.fresh (record { past = s.past; fresh = s.fresh + 32 })
unfolding next_table
forced_next b s = record { forces = λ coded out h. h; reads = λ coded. refl }

pub forced_makes : (b : List ℕ) (s : Spot) (ds : List ℤ) (t : Table) → IsTableOf ds t → Forces (makes_table ds) b s true s
unfolding makes_table
forced_makes b s ds t makes = record { forces = λ coded out h. elim h [ inl e ↦ e.1 | inr e ↦ absurd (e.0 t makes) ]; reads = λ coded. inl ((t, makes), refl) }

-- a spot with no step more
pub same_spot : (s : Spot) → behind s [] ≡ s
same_spot s = ap (λ p. at p s.fresh) (append-nil s.past)
  where
    at : List Step → ℕ → Spot
    at p n = record { past = p; fresh = n }

abbrev pub spot_of : List Step → ℕ → Spot
spot_of p n = record { past = p; fresh = n }

pub forced_within : (b : List ℕ) → AreBytes b → (base least most : ℕ) (f : RecordFault) (s : Spot) (n : ℕ) → n < 2 ^ 31 → least ≤ n → n ≤ most → Forces (number_within base least most f) b s n (behind s (number_steps base n))
forced_within b are base least most f s n small low high =
    let t = behind s (number_steps base n) in
    forced_then b are (number base) (λ n. require (nat_le least n && nat_le n most) f >>= λ _. done n) s t t n n [] (sym (append-nil (s.past ++ number_steps base n))) (forced_number b are base s n small)
    (forced_then b are (require (nat_le least n && nat_le n most) f) (λ _. done n) t t t true n [] (sym (append-nil (s.past ++ number_steps base n)))
    (forced_require b t (nat_le least n && nat_le n most) f (rw (le-leb least n low, le-leb n most high) refl)) (forced_done b t n))
