-- The next chunk of frames that is whole is found.
use Rattle.std.proofs.Common.{◌≡◌, ◌∙◌, ◌+◌, ◌-◌, ◌<◌, ◌++◌, ◌∷◌, ◌||◌, ℕ, suc, zero, nat_lt, true, false, List, [], length, take, drop, Some, Ok, refl, sym, ap, arith, length-append, append_assoc}
use Rattle.std.proofs.lemmas.Bool.{le-ltb}
use Rattle.byteorder.specs.Endian.{little_number}
use Rattle.ffv1_reads.proofs.Results.{cut_back, cut_front}
use Rattle.std.proofs.lemmas.List.{take-append-le}
use Rattle.ffv1_avi.specs.Damaged.{HasNoHeader}
use Rattle.ffv1_avi.specs.Places.{most_input}
use Rattle.ffv1_avi.specs.Turns.{begins_index, begins_sized, seek_turn, sought_from}
use Rattle.ffv1_avi.specs.declared.course.Turn.TheVariants.{Frame}
use Rattle.ffv1_avi.specs.declared.place.Names.{Names}
use Rattle.ffv1_avi.specs.declared.place.Place.{Place}

module _ (names : Names) (head rest : List ℕ) (eight : length head ≡ 8) (begins : begins_sized names head ≡ true) where
  found_here : (most count : ℕ) → sought_from (suc most) names count (head ++ rest) ≡ Ok (Some (count, true, little_number 4 (drop 4 head)), rest)
  unfolding sought_from
  found_here most count =
      let long : nat_lt (length (head ++ rest)) 8 ≡ false = le-ltb _ _ (omega (arith, eight, length-append head rest)) in
      rw (long, cut_front 8 head rest eight, cut_back 8 head rest eight, begins) refl

  passed_text : (most count : ℕ) (text : List ℕ) → nat_lt (length text) 8 ≡ false → (begins_sized names (take 8 text) || begins_index (take 8 text)) ≡ false →
      sought_from (suc most) names count text ≡ sought_from most names (count + 1) (drop 1 text)
  unfolding sought_from
  passed_text most count text long none = rw (long, none) refl

  passed_on : (most count b : ℕ) (bs : List ℕ) → (begins_sized names (take 8 ((b ∷ bs) ++ head)) || begins_index (take 8 ((b ∷ bs) ++ head))) ≡ false →
      sought_from (suc most) names count ((b ∷ bs) ++ (head ++ rest)) ≡ sought_from most names (count + 1) (bs ++ (head ++ rest))
  passed_on most count b bs none =
      let longer : length ((b ∷ bs) ++ (head ++ rest)) ≡ suc (length bs) + (length head + length rest) = length-append (b ∷ bs) (head ++ rest) ∙ ap (λ n. suc (length bs) + n) (length-append head rest) in
      let long : nat_lt (length ((b ∷ bs) ++ (head ++ rest))) 8 ≡ false = le-ltb _ _ (omega (arith, eight, longer)) in
      let whole : take 8 ((b ∷ bs) ++ (head ++ rest)) ≡ take 8 ((b ∷ bs) ++ head) =
      ap (take 8) (sym (append_assoc (b ∷ bs) head rest))
      ∙ take-append-le 8 ((b ∷ bs) ++ head) rest (omega (arith, eight, length-append (b ∷ bs) head)) in
      passed_text most count ((b ∷ bs) ++ (head ++ rest)) long (ap (λ z. begins_sized names z || begins_index z) whole ∙ none)

  pub sought_on : (junk : List ℕ) (most count : ℕ) → length junk < most → HasNoHeader names junk head →
      sought_from most names count (junk ++ (head ++ rest)) ≡ Ok (Some (count + length junk, true, little_number 4 (drop 4 head)), rest)
  sought_on junk zero count few none = absurd (omega (arith, few))
  sought_on [] (suc most) count few none =
      let same : count + 0 ≡ count = omega arith in
      rw same (found_here most count)
  sought_on (b ∷ bs) (suc most) count few none =
      let same : (count + 1) + length bs ≡ count + suc (length bs) = omega arith in
      let after : HasNoHeader names bs head = λ x y is some. none (b ∷ x) y (ap (λ z. b ∷ z) is) some in
      passed_on most count b bs (none [] (b ∷ bs) refl (λ z. omega (arith, z)))
      ∙ (rw (← same) (sought_on bs most (count + 1) (omega (arith, few)) after))

-- and so is the frame
pub frame_sought : (place : Place) (window junk head rest : List ℕ) → length head ≡ 8 → begins_sized place.names head ≡ true → length (window ++ junk) < most_input → HasNoHeader place.names (window ++ junk) head →
    seek_turn window place (junk ++ (head ++ rest)) ≡ Ok (Some (Frame (length (window ++ junk)) (little_number 4 (drop 4 head)) place), rest)
unfolding seek_turn
frame_sought place window junk head rest eight begins few none =
    let found = sought_on place.names head rest eight begins (window ++ junk) most_input 0 few none in
    let whole : window ++ (junk ++ (head ++ rest)) ≡ (window ++ junk) ++ (head ++ rest) = sym (append_assoc window junk (head ++ rest)) in
    let same : 0 + length (window ++ junk) ≡ length (window ++ junk) = omega arith in
    rw (whole, found, same) refl
