-- Outcomes of readings, and beginnings of bytes.
use Rattle.std.proofs.Common.{◌≡◌, ℕ, Some, Result, Ok, Err, List, ◌++◌, length, take, drop, refl}
use Rattle.std.proofs.Math.Seq.{drop-append_seam, take-append_seam}
use Rattle.std.specs.Prelude.{OnOk}
use Rattle.ffv1_reads.specs.Reads.{Reading, Stop, read_on, ◌>>=◌}

-- readings in a row
pub read_on_twice : {X Y Z : Type 0} (z : Result (X × List ℕ) Stop) (f : X → Reading Y) (k : Y → Reading Z) → read_on (read_on z f) k ≡ read_on z (λ x. f x >>= k)
read_on_twice (Ok p) f k = refl
read_on_twice (Err e) f k = refl

pub some_is : {X : Type 0} (x y : X) → Some x ≡ Some y → x ≡ y
some_is x y e = cc

pub ok_is : {X : Type 0} (p q : X × List ℕ) → ◌≡◌ {A = Result (X × List ℕ) Stop} (Ok p) (Ok q) → p ≡ q
ok_is p q e = cc

-- what readings in a row answer
pub read_on_ok : {X Y : Type 0} (z : Result (X × List ℕ) Stop) (k : X → Reading Y) (w : Y × List ℕ) → read_on z k ≡ Ok w → (p : X × List ℕ) × (z ≡ Ok p) × (k p.0 p.1 ≡ Ok w)
read_on_ok (Ok p) k w h = (p, refl, h)
read_on_ok (Err f) k w h = absurd (cc)

-- the front of bytes, and what comes after it
pub cut_front : (n : ℕ) (xs ys : List ℕ) → length xs ≡ n → take n (xs ++ ys) ≡ xs
cut_front n xs ys long = rw (← long) (take-append_seam xs ys)

pub cut_back : (n : ℕ) (xs ys : List ℕ) → length xs ≡ n → drop n (xs ++ ys) ≡ ys
cut_back n xs ys long = rw (← long) (drop-append_seam xs ys)

-- a fact that holds whatever is answered
pub on_ok : {A E P : Type 0} (r : Result A E) → P → OnOk r P
on_ok (Ok x) p = p
on_ok (Err f) p = tt
