-- The next Cluster that is whole is found.
use Rattle.std.proofs.Common.{◌≡◌, ◌==◌, ◌∙◌, ◌<◌, ◌≤◌, ◌+◌, ◌-◌, ℕ, suc, zero, Bool, true, false, List, [], ◌∷◌, ◌++◌, length, take, Some, Ok, refl, sym, ap, append_assoc, append-nil, arith}
use Rattle.std.proofs.lemmas.Bool.Decides.{nat_tests}
use Rattle.std.proofs.lemmas.Bool.{eqb-true, le-ltb, ne_eqb}
use Rattle.ffv1_reads.specs.Reads.{read_on}
use Rattle.ffv1_ebml.specs.Vints.{IsVint, size_of}
use Rattle.ffv1_ebml.proofs.VintLaws.{vint_complete}
use Rattle.ffv1_matroska.specs.Damaged.{HasNoCluster, cluster_bytes}
use Rattle.ffv1_matroska.specs.Places.{cluster_entered, segment_at}
use Rattle.ffv1_matroska.specs.Turns.{byte_matched, found_turn, scanned, seek_found, seek_turn}
use Rattle.ffv1_matroska.specs.declared.course.Pending.TheVariants as pending
use Rattle.ffv1_matroska.specs.declared.course.Turn.TheVariants.{On}
use Rattle.ffv1_matroska.specs.declared.place.Place.{Place}

-- after one byte more, what is matched is what the bytes end in
Ends : ℕ → ℕ → Type 0
Ends m b = (x : List ℕ) × (take m cluster_bytes ++ b ∷ [] ≡ x ++ take (byte_matched m b) cluster_bytes)

first_byte : (m b : ℕ) → b ≡ 31 → Ends m b
unfolding Ends
first_byte m b is = (take m cluster_bytes, rw is refl)

-- the ID ends in no byte that is not the next one of it
ends_none : (m b : ℕ) → byte_matched m b ≡ 0 → Ends m b
unfolding Ends
ends_none m b none = (take m cluster_bytes ++ b ∷ [], rw none (sym (append-nil (take m cluster_bytes ++ b ∷ []))))

ends_at : (m b : ℕ) → m < 4 → Ends m b
unfolding Ends
ends_at m b few = on_first (b == 31) refl
  where
    at_one : (c : Bool) → (b == 31) ≡ false → (b == 67) ≡ c → Ends 1 b
    at_one true first next = let is : b ≡ 67 = eqb-true _ _ next in ([], rw is refl)
    at_one false first next = ends_none 1 b (rw (first, next) refl)

    at_two : (c : Bool) → (b == 31) ≡ false → (b == 182) ≡ c → Ends 2 b
    at_two true first next = let is : b ≡ 182 = eqb-true _ _ next in ([], rw is refl)
    at_two false first next = ends_none 2 b (rw (first, next) refl)

    at_three : (c : Bool) → (b == 31) ≡ false → (b == 117) ≡ c → Ends 3 b
    at_three true first next = let is : b ≡ 117 = eqb-true _ _ next in ([], rw is refl)
    at_three false first next = ends_none 3 b (rw (first, next) refl)

    on_matched : (m : ℕ) → m < 4 → (b == 31) ≡ false → Ends m b
    on_matched zero few first = ends_none 0 b (rw first refl)
    on_matched (suc zero) few first = at_one (b == 67) first refl
    on_matched (suc (suc zero)) few first = at_two (b == 182) first refl
    on_matched (suc (suc (suc zero))) few first = at_three (b == 117) first refl
    on_matched (suc (suc (suc (suc n)))) few first = absurd (omega (arith, few))

    on_first : (c : Bool) → (b == 31) ≡ c → Ends m b
    on_first true first = first_byte m b (eqb-true _ _ first)
    on_first false first = on_matched m few first

-- so the ID stands nowhere from there on
none_after : (m b : ℕ) (rest : List ℕ) → Ends m b → HasNoCluster (take m cluster_bytes ++ (b ∷ rest)) → HasNoCluster (take (byte_matched m b) cluster_bytes ++ rest)
unfolding Ends
none_after m b rest (x, ends) none c d is = none (x ++ c) d whole
  where
    whole : take m cluster_bytes ++ (b ∷ rest) ≡ (x ++ c) ++ (cluster_bytes ++ d)
    whole =
        sym (append_assoc (take m cluster_bytes) (b ∷ []) rest) ∙ ap (λ z. z ++ rest) ends
        ∙ append_assoc x (take (byte_matched m b) cluster_bytes) rest ∙ ap (λ z. x ++ z) is
        ∙ sym (append_assoc x c (cluster_bytes ++ d))

matched_few : (m b : ℕ) (rest : List ℕ) → m < 4 → HasNoCluster (take m cluster_bytes ++ (b ∷ rest)) → (byte_matched m b == 4) ≡ false
matched_few m b rest few none = ne_eqb _ _ (λ all. none_after m b rest (ends_at m b few) none [] rest (rw all refl))

matched_least : (m b : ℕ) → (byte_matched m b == 4) ≡ false → byte_matched m b < 4
matched_least m b less = grind (arith, nat_tests, less)

found_from : (m k : ℕ) (rest : List ℕ) → scanned (suc (suc (suc (suc k)))) m (cluster_bytes ++ rest) ≡ Ok (Some k, rest)
unfolding scanned
found_from m k rest = refl

pub scan_found : (junk : List ℕ) (m k : ℕ) (rest : List ℕ) → m < 4 → HasNoCluster (take m cluster_bytes ++ (junk ++ (31 ∷ 67 ∷ 182 ∷ []))) → scanned (length junk + (4 + k)) m (junk ++ (cluster_bytes ++ rest)) ≡ Ok (Some k, rest)
unfolding scanned
scan_found [] m k rest few none = let long : 0 + (4 + k) ≡ suc (suc (suc (suc k))) = omega arith in rw long (found_from m k rest)
scan_found (b ∷ bs) m k rest few none =
    let long : suc (length bs) + (4 + k) ≡ suc (length bs + (4 + k)) = omega arith in
    let tail = bs ++ (31 ∷ 67 ∷ 182 ∷ []) in
    let less = matched_few m b tail few none in
    rw long (scan_on m b (length bs + (4 + k)) (bs ++ (cluster_bytes ++ rest)) less ∙ scan_found bs (byte_matched m b) k rest (matched_least m b less) (none_after m b tail (ends_at m b few) none))
  where
    scan_on : (m b n : ℕ) (text : List ℕ) → (byte_matched m b == 4) ≡ false → scanned (suc n) m (b ∷ text) ≡ scanned n (byte_matched m b) text
    scan_on m b n text less = rw less refl

-- and its size is read
pub cluster_sought : (place : Place) (junk said rest : List ℕ) (n : ℕ) → HasNoCluster (junk ++ (31 ∷ 67 ∷ 182 ∷ [])) → IsVint said → length said ≤ 8 → size_of said ≡ Some n → length junk + (4 + (length said + n)) ≤ place.segment →
    seek_turn place (junk ++ (cluster_bytes ++ (said ++ rest))) ≡ Ok (Some (On pending.Nothing (cluster_entered (segment_at place false (place.segment - (length junk + (4 + (length said + n))))) n)), rest)
unfolding seek_turn found_turn
cluster_sought place junk said rest n none vint short is fits =
    let left = place.segment - (length junk + 4) in
    let whole : place.segment ≡ length junk + (4 + left) = omega (arith, fits) in
    let found : scanned place.segment 0 (junk ++ (cluster_bytes ++ (said ++ rest))) ≡ Ok (Some left, said ++ rest) = ap (λ k. scanned k 0 (junk ++ (cluster_bytes ++ (said ++ rest)))) whole ∙ scan_found junk 0 left (said ++ rest) (omega arith) none in
    let size = vint_complete 8 left said rest vint short (omega (arith, fits)) in
    let within = le-ltb (left - length said) n (omega (arith, fits)) in
    let same : left - length said - n ≡ place.segment - (length junk + (4 + (length said + n))) = omega arith in
    ap (λ z. read_on z (seek_found place)) found ∙ (rw (size, is, within, same) refl)
