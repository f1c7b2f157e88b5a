-- The bytes of a chunk and its padding, read and passed.
use Rattle.std.proofs.Common.{◌≡◌, ℕ, ◌%◌, Ok, List, ◌++◌, length, take, drop, ap, ◌∙◌, sym, subst, arith, append_assoc, length-append, length-take, length-drop}
use Rattle.std.proofs.lemmas.List.{take-append-drop}
use Rattle.ffv1_reads.specs.Reads.{Want, given, passed, read_on, wanted, ◌>>=◌}
use Rattle.ffv1_avi.specs.Padding.{content, padded}
use Rattle.ffv1_reads.proofs.WantedBytes.{passed_complete, passed_sound, wanted_complete, wanted_sound}
use Rattle.ffv1_reads.proofs.Results.{read_on_ok}
use Rattle.ffv1_reads.proofs.Results.{ok_is}

-- bytes, and after them their padding
pub record IsContent (size : ℕ) (text bytes rest : List ℕ) : Type 0 where
  pub padding : List ℕ
  pub text_is : text ≡ (bytes ++ padding) ++ rest
  pub long : length bytes ≡ size
  pub odd : length padding ≡ size % 2

pub content_sound : (w : Want) (size : ℕ) (text : List ℕ) (p : List ℕ × List ℕ) → content w size text ≡ Ok p → IsContent size text p.0 p.1
content_sound w size text p h =
    let first = read_on_ok (wanted w size text) (λ bytes. (passed (size % 2) >>= λ _. given bytes)) p h in
    let front = wanted_sound w size text first.0 first.1 in
    let second = read_on_ok (passed (size % 2) first.0.1) (λ _. given first.0.0) p first.2 in
    let behind = passed_sound (size % 2) first.0.1 second.0 second.1 in
    let P : List ℕ × List ℕ → Type 0 = λ z. IsContent size text z.0 z.1 in
    let whole : text ≡ (first.0.0 ++ behind.0) ++ second.0.1 = front.0 ∙ ap (λ z. first.0.0 ++ z) behind.1 ∙ sym (append_assoc first.0.0 behind.0 second.0.1) in
    subst P (ok_is (first.0.0, second.0.1) p second.2) (record { padding = behind.0; text_is = whole; long = front.1; odd = behind.2 })

-- a chunk was passed as a whole
pub skip_sound : (size : ℕ) (text : List ℕ) (p : Unit {0} × List ℕ) → passed (padded size) text ≡ Ok p → (bytes : List ℕ) × IsContent size text bytes p.1
skip_sound size text p h =
    let gone = passed_sound (padded size) text p h in
    let all = gone.0 in
    let whole : text ≡ (take size all ++ drop size all) ++ p.1 = gone.1 ∙ ap (λ z. z ++ p.1) (sym (take-append-drop size all)) in
    let long : length (take size all) ≡ size = length-take size all ∙ (omega (arith, gone.2)) in
    let odd : length (drop size all) ≡ size % 2 = length-drop size all ∙ (omega (arith, gone.2)) in
    (take size all, record { padding = drop size all; text_is = whole; long = long; odd = odd })

-- and they are read in their place
pub content_complete : (w : Want) (size : ℕ) (bytes padding rest : List ℕ) → length bytes ≡ size → length padding ≡ size % 2 → content w size ((bytes ++ padding) ++ rest) ≡ Ok (bytes, rest)
content_complete w size bytes padding rest long odd =
    let whole : (bytes ++ padding) ++ rest ≡ bytes ++ (padding ++ rest) = append_assoc bytes padding rest in
    ap (content w size) whole
    ∙ ap (λ z. read_on z (λ bytes. (passed (size % 2) >>= λ _. given bytes))) (wanted_complete w size bytes (padding ++ rest) long)
    ∙ ap (λ z. read_on z (λ _. given bytes)) (passed_complete (size % 2) padding rest odd)

pub skip_complete : (size : ℕ) (bytes padding rest : List ℕ) → length bytes ≡ size → length padding ≡ size % 2 → passed (padded size) ((bytes ++ padding) ++ rest) ≡ Ok (tt, rest)
skip_complete size bytes padding rest long odd = passed_complete (padded size) (bytes ++ padding) rest (omega (arith, long, odd, length-append bytes padding))
