-- Bytes that were read and kept, before those that are left.
use Rattle.std.proofs.Common.{◌≡◌, ◌<◌, ◌≤◌, ◌+◌, ◌∙◌, ℕ, List, [], ◌++◌, Option, Some, None, Bool, true, false, inl, inr}
use Rattle.std.proofs.Common.{length, take, drop, refl, sym, subst, ap, append_assoc, append-nil, take-append-drop, arith}
use Rattle.std.proofs.KnownBytes.{prepend_known-nil}
use Rattle.std.proofs.lemmas.Bool.{cases_lt}
use Rattle.std.proofs.lemmas.List.{take_all, take_at, drop_all, drop-drop, length-take-le}
use Rattle.std.specs.Io.KnownBytes.{Consumes, IsAtEnd, Keeps, prepend_known}
use Rattle.ffv1_outline.specs.Beginnings.{IsBeginning, most}

-- what a reader had is what was kept, and then what it has left
pub kept_first : (old new : Option (List ℕ)) (bytes : List ℕ) → Consumes old new bytes → Keeps old (prepend_known bytes new)
kept_first None new bytes is = tt
kept_first (Some xs) None bytes is = absurd is
kept_first (Some xs) (Some ys) bytes is = sym is

-- they are the first ones
pub front_of : (xs ys buf : List ℕ) (n : ℕ) → n ≤ length buf → xs ≡ take n buf ++ ys → take n buf ≡ take n xs
front_of xs ys buf n bound is =
    let long : length (take n buf) ≡ n = length-take-le n buf bound in
    rw is (sym (take_at (take n buf) ys n long))

-- all of them, if the others are none
pub all_of : (xs ys buf : List ℕ) (n limit : ℕ) → n ≤ length buf → length buf ≡ limit → xs ≡ take n buf ++ ys → (n < limit → ys ≡ []) → take n buf ≡ take limit xs
all_of xs ys buf n limit bound long is ended = elim (cases_lt n limit) [
  | inl less ↦
      let none : xs ≡ take n buf = is ∙ ap (λ z. take n buf ++ z) (ended less) ∙ append-nil (take n buf) in
      let few : length xs ≤ limit = rw (none, length-take-le n buf bound) (omega (arith, less)) in
      sym none ∙ sym (take_all limit xs few)
  | inr not_less ↦
      let same : n ≡ limit = omega (arith, bound, long, not_less) in
      front_of xs ys buf n bound is ∙ ap (λ z. take z xs) same
]

pub is_beginning : (old new : Option (List ℕ)) (failed : Bool) (buf : List ℕ) (n limit : ℕ) → limit ≡ most → n ≤ length buf → length buf ≡ limit → Consumes old new (take n buf) → (failed ≡ true → n < length buf) → (failed ≡ false → n < length buf → IsAtEnd new) → IsBeginning old failed (take n buf)
is_beginning None new failed buf n limit whole bound long is less ended = tt
is_beginning (Some xs) None failed buf n limit whole bound long is less ended = absurd is
is_beginning (Some xs) (Some ys) true buf n limit whole bound long is less ended =
    let under : n < limit = rw (sym long) (less refl) in
    (n, subst (λ k. n < k) whole under, front_of xs ys buf n bound is)
is_beginning (Some xs) (Some ys) false buf n limit whole bound long is less ended =
    subst (λ k. take n buf ≡ take k xs) whole (all_of xs ys buf n limit bound long is (λ under. ended refl (rw long under)))

-- some of the kept bytes are given
pub gives_kept : (rest : Option (List ℕ)) (bs : List ℕ) (g n : ℕ) → Consumes (prepend_known (drop g bs) rest) (prepend_known (drop (g + n) bs) rest) (take n (drop g bs))
gives_kept None bs g n = tt
gives_kept (Some ys) bs g n =
    ap (λ z. z ++ ys) (sym (take-append-drop n (drop g bs)))
    ∙ append_assoc (take n (drop g bs)) (drop n (drop g bs)) ys
    ∙ ap (λ z. take n (drop g bs) ++ (z ++ ys)) (drop-drop n g bs)

-- after all of them, the reader stands where the one inside does
pub past_kept : (known : Option (List ℕ)) (bs : List ℕ) (g : ℕ) → length bs ≤ g → prepend_known (drop g bs) known ≡ known
past_kept known bs g past = rw (drop_all g bs past) (prepend_known-nil known)
