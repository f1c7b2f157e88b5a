-- Bytes that are wanted: what was read if they came, and that they come if they are there.
use Rattle.std.proofs.Common.{◌≡◌, ℕ, ◌≤◌, nat_lt, Bool, true, false, Ok, List, ◌++◌, length, take, drop, sym, subst, arith, refl, length-append, length-take, ◌∙◌}
use Rattle.std.proofs.lemmas.Bool.{le-ltb, ltb-false}
use Rattle.std.proofs.lemmas.List.{take-append-drop}
use Rattle.ffv1_reads.specs.Reads.{Looked, Want, passed, taken, wanted}
use Rattle.ffv1_reads.proofs.Results.{cut_back, cut_front}
use Rattle.ffv1_reads.proofs.Results.{ok_is}

-- so many bytes were taken
pub wanted_sound : (w : Want) (n : ℕ) (text : List ℕ) (p : List ℕ × List ℕ) → wanted w n text ≡ Ok p → (text ≡ p.0 ++ p.1) × (length p.0 ≡ n)
wanted_sound w n text p h = on_test (nat_lt (length text) n) refl h
  where
    on_test : (b : Bool) → nat_lt (length text) n ≡ b → wanted w n text ≡ Ok p → (text ≡ p.0 ++ p.1) × (length p.0 ≡ n)
    on_test true t h = absurd (cc (rw t at h))
    on_test false t h =
        let P : List ℕ × List ℕ → Type 0 = λ z. (text ≡ z.0 ++ z.1) × (length z.0 ≡ n) in
        let enough : n ≤ length text = ltb-false _ _ t in
        subst P (ok_is (take n text, drop n text) p (rw t at h)) (sym (take-append-drop n text), length-take n text ∙ (omega (arith, enough)))

pub taken_sound : (n : ℕ) (text : List ℕ) (p : List ℕ × List ℕ) → taken n text ≡ Ok p → (text ≡ p.0 ++ p.1) × (length p.0 ≡ n)
taken_sound n text p h = wanted_sound Looked n text p h

-- so many bytes were passed
pub passed_sound : (n : ℕ) (text : List ℕ) (p : Unit {0} × List ℕ) → passed n text ≡ Ok p → (gone : List ℕ) × (text ≡ gone ++ p.1) × (length gone ≡ n)
passed_sound n text p h = on_test (nat_lt (length text) n) refl h
  where
    on_test : (b : Bool) → nat_lt (length text) n ≡ b → passed n text ≡ Ok p → (gone : List ℕ) × (text ≡ gone ++ p.1) × (length gone ≡ n)
    on_test true t h = absurd (cc (rw t at h))
    on_test false t h =
        let P : Unit {0} × List ℕ → Type 0 = λ z. (gone : List ℕ) × (text ≡ gone ++ z.1) × (length gone ≡ n) in
        let enough : n ≤ length text = ltb-false _ _ t in
        subst P (ok_is (tt, drop n text) p (rw t at h)) (take n text, sym (take-append-drop n text), length-take n text ∙ (omega (arith, enough)))

-- bytes that are there are taken and passed
pub wanted_complete : (w : Want) (n : ℕ) (bytes rest : List ℕ) → length bytes ≡ n → wanted w n (bytes ++ rest) ≡ Ok (bytes, rest)
wanted_complete w n bytes rest long =
    let there : nat_lt (length (bytes ++ rest)) n ≡ false = le-ltb _ _ (omega (arith, long, length-append bytes rest)) in
    rw (there, cut_front n bytes rest long, cut_back n bytes rest long) refl

pub taken_complete : (n : ℕ) (bytes rest : List ℕ) → length bytes ≡ n → taken n (bytes ++ rest) ≡ Ok (bytes, rest)
taken_complete n bytes rest long = wanted_complete Looked n bytes rest long

pub passed_complete : (n : ℕ) (bytes rest : List ℕ) → length bytes ≡ n → passed n (bytes ++ rest) ≡ Ok (tt, rest)
passed_complete n bytes rest long =
    let there : nat_lt (length (bytes ++ rest)) n ≡ false = le-ltb _ _ (omega (arith, long, length-append bytes rest)) in
    rw (there, cut_back n bytes rest long) refl
