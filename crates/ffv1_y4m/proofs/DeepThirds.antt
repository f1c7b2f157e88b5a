-- Samples of red, green and blue of a depth: the planes of a text, and the text of planes.
use Rattle.std.proofs.Common.{◌≡◌, ℕ, ◌+◌, ◌*◌, ◌/◌, ◌%◌, ◌≤◌, ◌<◌, ◌==◌, nat_lt, ◌⊎◌, Bool, true, false, cond, List, [], ◌∷◌, ◌++◌, length, take, drop, Ok, Err, inl, inr, refl, ap, ◌∙◌, sym, arith}
use Rattle.std.proofs.Math.Seq.{take-append_seam, drop-append_seam}
use Rattle.std.proofs.lemmas.Bool.{lt-ltb, le-ltb}
use Rattle.std.proofs.lemmas.Grind.{common_steps}
use Rattle.ffv1_y4m.specs.declared.fault.Fault.TheVariants as fault
use Rattle.ffv1_y4m.specs.Ppm.{all_in_depth, bytes_for, bytes_of_pairs, colours_read, each_third, half_of, in_turn, interleaved, pairs_of, parted, third_of, turned}
use Rattle.ffv1_y4m.proofs.ColourThirds.{each_third-append, in_turn_parts, in_turn_thirds, length-in_turn, third_long, thirds_in_turn}
use Rattle.ffv1_y4m.proofs.TurnedPairs.{bytes_append, bytes_back, length-bytes, length-pairs, length-turned, pairs_append, pairs_back, pairs_drop, pairs_take, turned_append, turned_back}

-- at a depth of 8, or at another one
abbrev third_by : Bool → ℕ → List ℕ → List ℕ
third_by b k xs = cond b (each_third k xs) (bytes_of_pairs (each_third k (turned (pairs_of xs))))

abbrev half_by : Bool → ℕ → ℕ
half_by b n = cond b 0 (n % 2)

abbrev text_by : Bool → List ℕ → List ℕ → List ℕ → List ℕ
text_by b red green blue = cond b (in_turn red green blue) (bytes_of_pairs (turned (in_turn (pairs_of red) (pairs_of green) (pairs_of blue))))

-- pairs of a text
halved : (n : ℕ) → n % 2 ≡ 0 → n ≡ 2 * (n / 2)
halved n whole = omega (arith, whole)

text_pairs : (n : ℕ) (xs : List ℕ) → length xs ≡ 3 * n → n % 2 ≡ 0 → length (turned (pairs_of xs)) ≡ 3 * (n / 2)
text_pairs n xs long whole = length-turned (pairs_of xs) ∙ length-pairs (3 * (n / 2)) xs (omega (arith, long, whole))

append_by : (b : Bool) (n k : ℕ) (xs ys : List ℕ) → length xs ≡ 3 * n → half_by b n ≡ 0 → k ≤ 2 → third_by b k (xs ++ ys) ≡ third_by b k xs ++ third_by b k ys
append_by true n k xs ys long whole few = each_third-append n k xs ys long few
append_by false n k xs ys long whole few =
    let pairs : pairs_of (xs ++ ys) ≡ pairs_of xs ++ pairs_of ys = pairs_append (3 * (n / 2)) xs ys (omega (arith, long, whole)) in
    rw (pairs, turned_append (pairs_of xs) (pairs_of ys), each_third-append (n / 2) k (turned (pairs_of xs)) (turned (pairs_of ys)) (text_pairs n xs long whole) few) (bytes_append (each_third k (turned (pairs_of xs))) (each_third k (turned (pairs_of ys))))

pub third-append : (depth n k : ℕ) (xs ys : List ℕ) → length xs ≡ 3 * n → half_of depth n ≡ 0 → k ≤ 2 → third_of depth k (xs ++ ys) ≡ third_of depth k xs ++ third_of depth k ys
third-append depth n k xs ys long whole few = append_by (depth == 8) n k xs ys long whole few

long_by : (b : Bool) (n k : ℕ) (xs : List ℕ) → length xs ≡ 3 * n → half_by b n ≡ 0 → k ≤ 2 → length (third_by b k xs) ≡ n
long_by true n k xs long whole few = third_long n k xs few long
long_by false n k xs long whole few =
    let count : length (each_third k (turned (pairs_of xs))) ≡ n / 2 = third_long (n / 2) k (turned (pairs_of xs)) few (text_pairs n xs long whole) in
    omega (arith, length-bytes (each_third k (turned (pairs_of xs))), count, halved n whole)

pub length-third : (depth n k : ℕ) (xs : List ℕ) → length xs ≡ 3 * n → half_of depth n ≡ 0 → k ≤ 2 → length (third_of depth k xs) ≡ n
length-third depth n k xs long whole few = long_by (depth == 8) n k xs long whole few

-- the text of the planes of a text
back_by : (b : Bool) (n : ℕ) (xs : List ℕ) → length xs ≡ 3 * n → half_by b n ≡ 0 → text_by b (third_by b 0 xs) (third_by b 1 xs) (third_by b 2 xs) ≡ xs
back_by true n xs long whole = in_turn_thirds n xs long
back_by false n xs long whole =
    let ps : List (ℕ × ℕ) = turned (pairs_of xs) in
    let pairs : in_turn (each_third 0 (turned (pairs_of xs))) (each_third 1 (turned (pairs_of xs))) (each_third 2 (turned (pairs_of xs))) ≡ turned (pairs_of xs) = in_turn_thirds (n / 2) ps (text_pairs n xs long whole) in
    rw (pairs_back (each_third 0 ps), pairs_back (each_third 1 ps), pairs_back (each_third 2 ps), pairs, turned_back (pairs_of xs)) (bytes_back (3 * (n / 2)) xs (omega (arith, long, whole)))

pub interleaved-parted : (depth n : ℕ) (xs : List ℕ) → length xs ≡ 3 * n → half_of depth n ≡ 0 → interleaved depth (third_of depth 0 xs) (third_of depth 1 xs) (third_of depth 2 xs) ≡ xs
interleaved-parted depth n xs long whole = back_by (depth == 8) n xs long whole

-- the planes of the text of planes
pub record Planes (b : Bool) (xs red green blue : List ℕ) : Type 0 where
  red_is : third_by b 0 xs ≡ red
  green_is : third_by b 1 xs ≡ green
  blue_is : third_by b 2 xs ≡ blue
  long : length xs ≡ 3 * length red

planes_by : (b : Bool) (n : ℕ) (red green blue : List ℕ) → length red ≡ n → length green ≡ n → length blue ≡ n → half_by b n ≡ 0 → Planes b (text_by b red green blue) red green blue
planes_by true n red green blue p q r whole =
    let t = thirds_in_turn red green blue (q ∙ sym p) (r ∙ sym p) in
    record { red_is = t.red; green_is = t.green; blue_is = t.blue; long = length-in_turn red green blue (q ∙ sym p) (r ∙ sym p) }
planes_by false n red green blue p q r whole =
    let m = n / 2 in
    let even : n ≡ 2 * (n / 2) = halved n whole in
    let one : length (pairs_of red) ≡ n / 2 = length-pairs m red (p ∙ even) in
    let two : length (pairs_of green) ≡ n / 2 = length-pairs m green (q ∙ even) in
    let three : length (pairs_of blue) ≡ n / 2 = length-pairs m blue (r ∙ even) in
    let all : List (ℕ × ℕ) = in_turn (pairs_of red) (pairs_of green) (pairs_of blue) in
    let t = thirds_in_turn (pairs_of red) (pairs_of green) (pairs_of blue) (two ∙ sym one) (three ∙ sym one) in
    let sized : length (in_turn (pairs_of red) (pairs_of green) (pairs_of blue)) ≡ 3 * length (pairs_of red) = length-in_turn (pairs_of red) (pairs_of green) (pairs_of blue) (two ∙ sym one) (three ∙ sym one) in
    let texts : turned (pairs_of (bytes_of_pairs (turned all))) ≡ all = ap turned (pairs_back (turned all)) ∙ turned_back all in
    record {
      red_is = ap (λ z. bytes_of_pairs (each_third 0 z)) texts ∙ (ap bytes_of_pairs t.red ∙ bytes_back m red (p ∙ even));
      green_is = ap (λ z. bytes_of_pairs (each_third 1 z)) texts ∙ (ap bytes_of_pairs t.green ∙ bytes_back m green (q ∙ even));
      blue_is = ap (λ z. bytes_of_pairs (each_third 2 z)) texts ∙ (ap bytes_of_pairs t.blue ∙ bytes_back m blue (r ∙ even));
      long = length-bytes (turned all) ∙ (omega (arith, length-turned all, sized, one, even, p));
    }

pub parted-interleaved : (depth n : ℕ) (red green blue : List ℕ) → length red ≡ n → length green ≡ n → length blue ≡ n → half_of depth n ≡ 0 → parted depth (interleaved depth red green blue) ≡ red ∷ green ∷ blue ∷ []
parted-interleaved depth n red green blue p q r whole =
    let t = planes_by (depth == 8) n red green blue p q r whole in
    rw (t.red_is, t.green_is, t.blue_is) refl

pub length-interleaved : (depth n : ℕ) (red green blue : List ℕ) → length red ≡ n → length green ≡ n → length blue ≡ n → half_of depth n ≡ 0 → length (interleaved depth red green blue) ≡ 3 * n
length-interleaved depth n red green blue p q r whole = (planes_by (depth == 8) n red green blue p q r whole).long ∙ ap (λ k. 3 * k) p

-- planes row by row
parts_by : (b : Bool) (n : ℕ) (red green blue : List ℕ) →
    text_by b (take (cond b n (2 * n)) red) (take (cond b n (2 * n)) green) (take (cond b n (2 * n)) blue) ++ text_by b (drop (cond b n (2 * n)) red) (drop (cond b n (2 * n)) green) (drop (cond b n (2 * n)) blue) ≡ text_by b red green blue
parts_by true n red green blue = in_turn_parts n red green blue
parts_by false n red green blue =
    let front : List (ℕ × ℕ) = in_turn (take n (pairs_of red)) (take n (pairs_of green)) (take n (pairs_of blue)) in
    let back : List (ℕ × ℕ) = in_turn (drop n (pairs_of red)) (drop n (pairs_of green)) (drop n (pairs_of blue)) in
    rw (pairs_take n red, pairs_take n green, pairs_take n blue, pairs_drop n red, pairs_drop n green, pairs_drop n blue)
    (sym (bytes_append (turned front) (turned back)) ∙ (ap bytes_of_pairs (sym (turned_append front back)) ∙ ap (λ z. bytes_of_pairs (turned z)) (in_turn_parts n (pairs_of red) (pairs_of green) (pairs_of blue))))

pub interleaved_parts : (depth n : ℕ) (red green blue : List ℕ) →
    interleaved depth (take (bytes_for depth n) red) (take (bytes_for depth n) green) (take (bytes_for depth n) blue) ++ interleaved depth (drop (bytes_for depth n) red) (drop (bytes_for depth n) green) (drop (bytes_for depth n) blue) ≡ interleaved depth red green blue
interleaved_parts depth n red green blue = parts_by (depth == 8) n red green blue

none_by : (b : Bool) (green blue : List ℕ) → text_by b [] green blue ≡ []
none_by true green blue = refl
none_by false green blue = refl

pub interleaved_none : (depth : ℕ) (green blue : List ℕ) → interleaved depth [] green blue ≡ []
interleaved_none depth green blue = none_by (depth == 8) green blue

-- samples are whole
whole_by : (b : Bool) (n : ℕ) → half_by b (cond b n (2 * n)) ≡ 0
whole_by true n = refl
whole_by false n = omega arith

pub whole_samples : (depth n : ℕ) → half_of depth (bytes_for depth n) ≡ 0
whole_samples depth n = whole_by (depth == 8) n

-- a block of whole samples of a line of whole samples
end_by : (b : Bool) (all done end : ℕ) → half_by b all ≡ 0 → half_by b done ≡ 0 → (end ≡ all) ⊎ (end ≡ done + 1024) → half_by b end ≡ 0
end_by true all done end p q is = refl
end_by false all done end p q (inl is) = omega (arith, p, is)
end_by false all done end p q (inr is) = omega (arith, q, is)

pub whole_end : (depth all done end : ℕ) → half_of depth all ≡ 0 → half_of depth done ≡ 0 → (end ≡ all) ⊎ (end ≡ done + 1024) → half_of depth end ≡ 0
whole_end depth all done end p q is = end_by (depth == 8) all done end p q is

rest_by : (b : Bool) (done end size : ℕ) → half_by b end ≡ 0 → half_by b done ≡ 0 → done + size ≡ end → half_by b size ≡ 0
rest_by true done end size p q is = refl
rest_by false done end size p q is = omega (arith, p, q, is)

pub whole_rest : (depth done end size : ℕ) → half_of depth end ≡ 0 → half_of depth done ≡ 0 → done + size ≡ end → half_of depth size ≡ 0
whole_rest depth done end size p q is = rest_by (depth == 8) done end size p q is

-- the samples of a text of enough
pub colours_of : (depth n : ℕ) (bs rest : List ℕ) → length bs ≡ 3 * n → all_in_depth depth (parted depth bs) ≡ true → colours_read depth n (bs ++ rest) ≡ Ok (parted depth bs, rest)
colours_of depth n bs rest long small =
    let enough : nat_lt (length (bs ++ rest)) (3 * n) ≡ false = le-ltb _ _ (grind (arith, common_steps, long)) in
    rw enough (rw (← long) (rw (take-append_seam bs rest, drop-append_seam bs rest, small) refl))

pub colours_large : (depth n : ℕ) (bs rest : List ℕ) → length bs ≡ 3 * n → all_in_depth depth (parted depth bs) ≡ false → colours_read depth n (bs ++ rest) ≡ Err (fault.SampleTooLarge, rest)
colours_large depth n bs rest long large =
    let enough : nat_lt (length (bs ++ rest)) (3 * n) ≡ false = le-ltb _ _ (grind (arith, common_steps, long)) in
    rw enough (rw (← long) (rw (take-append_seam bs rest, drop-append_seam bs rest, large) refl))

pub colours_short : (depth n : ℕ) (bs : List ℕ) → length bs < 3 * n → colours_read depth n bs ≡ Err (fault.FrameTruncated, [])
colours_short depth n bs few =
    let short : nat_lt (length bs) (3 * n) ≡ true = lt-ltb _ _ few in
    rw short refl
