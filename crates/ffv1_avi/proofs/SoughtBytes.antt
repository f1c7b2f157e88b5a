-- A search, byte by byte.
use Rattle.std.proofs.Common.{◌≡◌, ◌∙◌, ◌+◌, ◌-◌, ◌++◌, ◌∷◌, ◌||◌, ℕ, suc, zero, nat_lt, true, false, List, [], length, take, drop, Option, Some, None, Ok, refl, sym, ap, arith, length-append, append_assoc}
use Rattle.std.proofs.lemmas.Bool.{le-ltb, lt-ltb}
use Rattle.std.proofs.lemmas.List.{drop_all, length-drop}
use Rattle.ffv1_wire.proofs.Bytes.{consumes_then}
use Rattle.ffv1_wire.specs.Reads.{GivesByte}
use Rattle.ffv1_reads.proofs.Reading.{Goes}
use Rattle.ffv1_reads.proofs.Results.{cut_back, cut_front}
use Rattle.ffv1_reads.specs.Reads.{Reading}
use Rattle.ffv1_avi.specs.Turns.{Found, begins_index, begins_sized, found_in, sought_from}
use Rattle.ffv1_avi.specs.declared.place.Names.{Names}

-- the first byte is passed
slide : (head : List ℕ) (b : ℕ) (text : List ℕ) → length head ≡ 8 → drop 1 (head ++ (b ∷ text)) ≡ (drop 1 head ++ b ∷ []) ++ text
slide [] b text eight = absurd (omega (arith, eight))
slide (h ∷ hs) b text eight = sym (append_assoc hs (b ∷ []) text)

module _ (names : Names) (head : List ℕ) (eight : length head ≡ 8) where
  long : (text : List ℕ) → nat_lt (length (head ++ text)) 8 ≡ false
  long text = le-ltb _ _ (omega (arith, eight, length-append head text))

  front : (text : List ℕ) → take 8 (head ++ text) ≡ head
  front text = cut_front 8 head text eight

  back : (text : List ℕ) → drop 8 (head ++ text) ≡ text
  back text = cut_back 8 head text eight

  pub found_at : (left most count : ℕ) → left ≡ suc most → (begins_sized names head || begins_index head) ≡ true → (text : List ℕ) → sought_from left names count (head ++ text) ≡ Ok (Some (found_in names count head), text)
  unfolding sought_from
  found_at left most count more begins text = rw (more, long text, front text, back text, begins) refl

  step : (most count : ℕ) → (begins_sized names head || begins_index head) ≡ false → (text : List ℕ) → sought_from (suc most) names count (head ++ text) ≡ sought_from most names (count + 1) (drop 1 (head ++ text))
  unfolding sought_from
  step most count none text = rw (long text, front text, none) refl

  pub passed_at : (left most count : ℕ) → left ≡ suc most → (begins_sized names head || begins_index head) ≡ false → (b : ℕ) (text : List ℕ) → sought_from left names count (head ++ (b ∷ text)) ≡ sought_from most names (count + 1) ((drop 1 head ++ b ∷ []) ++ text)
  passed_at left most count more none b text = rw more (step most count none (b ∷ text) ∙ ap (sought_from most names (count + 1)) (slide head b text eight))

  seven : length (drop 1 (head ++ [])) ≡ 7
  seven = length-drop 1 (head ++ []) ∙ (omega (arith, eight, length-append head []))

  none_of_seven : (most count : ℕ) → sought_from most names count (drop 1 (head ++ [])) ≡ Ok (None, [])
  unfolding sought_from
  none_of_seven zero count = ap (λ z. Ok (None, z)) (drop_all 8 (drop 1 (head ++ [])) (omega (arith, seven)))
  none_of_seven (suc most) count = rw (lt-ltb (length (drop 1 (head ++ []))) 8 (omega (arith, seven))) refl

  pub ends_at : (left most count : ℕ) → left ≡ suc most → (begins_sized names head || begins_index head) ≡ false → sought_from left names count (head ++ []) ≡ Ok (None, [])
  ends_at left most count more none = rw more (step most count none [] ∙ none_of_seven most (count + 1))

  pub over_at : (left count : ℕ) → left ≡ 0 → (text : List ℕ) → sought_from left names count (head ++ text) ≡ Ok (None, text)
  unfolding sought_from
  over_at left count none text = rw none (ap (λ z. Ok (None, z)) (back text))

  -- one byte more was read
  pub scans_byte : {whole : Reading (Option Found)} {old now : Option (List ℕ)} {before after : ℕ} (left most count b : ℕ) (new : Option (List ℕ)) (last : ℕ) → left ≡ suc most → (begins_sized names head || begins_index head) ≡ false → last ≡ after → GivesByte now new (Some b) →
      Goes whole old before (λ text. sought_from left names count (head ++ text)) now after → Goes whole old before (λ text. sought_from most names (count + 1) ((drop 1 head ++ b ∷ []) ++ text)) new last
  scans_byte {whole = whole} {old = old} {now = now} left most count b new last more none same given h = record {
    same = same ∙ h.same;
    bytes = h.bytes ++ b ∷ [];
    consumed = consumes_then old now new h.bytes (b ∷ []) h.consumed given;
    leads = λ text. ap whole (append_assoc h.bytes (b ∷ []) text) ∙ h.leads (b ∷ text) ∙ passed_at left most count more none b text;
  }
