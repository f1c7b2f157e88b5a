-- TimestampScale of Info, by the calls by which that is passed.
use Rattle.std.proofs.Common.{◌≡◌, ◌≤◌, ◌<◌, ◌+◌, ◌-◌, ◌∙◌, ◌++◌, ℕ, Bool, true, false, List, Option, Some, None, Ok, length, take, drop, nat_lt, inl, inr, refl, sym, ap, subst, arith, length-drop}
use Rattle.std.proofs.lemmas.Bool.{cases_lt, le-ltb, lt-ltb}
use Rattle.std.proofs.lemmas.List.{drop-drop}
use Rattle.std.proofs.Math.Seq.{take-add}
use Rattle.ffv1_reads.specs.Known.{Known}
use Rattle.ffv1_reads.specs.Reads.{Read, Reading, given, passed, taken, ◌>>=◌}
use Rattle.ffv1_reads.proofs.Results.{cut_back, cut_front, ok_is, read_on_ok}
use Rattle.ffv1_reads.proofs.WantedBytes.{passed_sound, taken_sound}
use Rattle.ffv1_ebml.specs.Sums.{passed_summed, summed, taken_summed}
use Rattle.ffv1_ebml.specs.declared.sum.Sum.{Sum}
use Rattle.ffv1_ebml.specs.declared.sum.Sum.TheVariants.{Absent}
use Rattle.ffv1_ebml.proofs.ElementLaws.{summed_twice}

-- what a call that read bytes has read of known ones
pub read_known : {X : Type 0} (r : Reading X) (old new : Option (List ℕ)) (x : X) → Read r old new x → Known old new (λ text rest. r text ≡ Ok (x, rest))
read_known r None new x h = tt
read_known r (Some text) None x h = absurd h.consumed
read_known r (Some text) (Some rest) x h = ap r h.consumed ∙ h.is rest

pub known_so : (old new : Option (List ℕ)) (P Q : List ℕ → List ℕ → Type 0) → ((text rest : List ℕ) → P text rest → Q text rest) → Known old new P → Known old new Q
known_so None new P Q f h = tt
known_so (Some text) None P Q f h = absurd h
known_so (Some text) (Some rest) P Q f h = f text rest h

pub known_both : (old mid new : Option (List ℕ)) (P Q R : List ℕ → List ℕ → Type 0) → ((text left rest : List ℕ) → P text left → Q left rest → R text rest) → Known old mid P → Known mid new Q → Known old new R
known_both None mid new P Q R f h k = tt
known_both (Some text) None new P Q R f h k = absurd h
known_both (Some text) (Some left) None P Q R f h k = absurd k
known_both (Some text) (Some left) (Some rest) P Q R f h k = f text left rest h k

-- the first of some bytes, and then the others
module _ (n left : ℕ) (fits : n ≤ left) (text : List ℕ) where
  pub summed_pieces : (sum : Sum) → passed_summed left sum text ≡ (taken_summed n sum >>= λ p. passed_summed (left - n) p.1) text
  summed_pieces sum = elim (cases_lt (length text) n) [ inl few ↦ short few | inr some ↦ long some ]
    where
      short : length text < n → passed_summed left sum text ≡ (taken_summed n sum >>= λ p. passed_summed (left - n) p.1) text
      short few = rw (lt-ltb (length text) left (omega (arith, few, fits)), lt-ltb _ _ few) refl

      long : n ≤ length text → passed_summed left sum text ≡ (taken_summed n sum >>= λ p. passed_summed (left - n) p.1) text
      long some = elim (cases_lt (length text) left) [ inl few ↦ cut some few | inr all ↦ whole some all ]
        where
          cut : n ≤ length text → length text < left → passed_summed left sum text ≡ (taken_summed n sum >>= λ p. passed_summed (left - n) p.1) text
          cut some few =
              let after : length (drop n text) < left - n = omega (arith, few, some, fits, length-drop n text) in
              rw (lt-ltb _ _ few, le-ltb _ _ some, lt-ltb _ _ after) refl

          whole : n ≤ length text → left ≤ length text → passed_summed left sum text ≡ (taken_summed n sum >>= λ p. passed_summed (left - n) p.1) text
          whole some all =
              let after : left - n ≤ length (drop n text) = omega (arith, all, some, fits, length-drop n text) in
              let parts : n + (left - n) ≡ left = omega (arith, fits) in
              let front : take left text ≡ take n text ++ take (left - n) (drop n text) = ap (λ k. take k text) (sym parts) ∙ take-add n (left - n) text in
              let back : drop left text ≡ drop (left - n) (drop n text) = ap (λ k. drop k text) (sym parts) ∙ sym (drop-drop (left - n) n text) in
              rw (le-ltb _ _ all, le-ltb _ _ some, le-ltb _ _ after, front, back, summed_twice sum (take n text) (take (left - n) (drop n text))) refl

module _ (a b : ℕ) (text : List ℕ) where
  pub passed_pieces : passed (a + b) text ≡ (passed a >>= λ _. passed b) text
  passed_pieces = elim (cases_lt (length text) a) [ inl few ↦ short few | inr some ↦ long some ]
    where
      short : length text < a → passed (a + b) text ≡ (passed a >>= λ _. passed b) text
      short few = rw (lt-ltb (length text) (a + b) (omega (arith, few)), lt-ltb _ _ few) refl

      long : a ≤ length text → passed (a + b) text ≡ (passed a >>= λ _. passed b) text
      long some = elim (cases_lt (length text) (a + b)) [ inl few ↦ cut some few | inr all ↦ whole some all ]
        where
          cut : a ≤ length text → length text < a + b → passed (a + b) text ≡ (passed a >>= λ _. passed b) text
          cut some few =
              let after : length (drop a text) < b = omega (arith, few, some, length-drop a text) in
              rw (lt-ltb _ _ few, le-ltb _ _ some, lt-ltb _ _ after) refl

          whole : a ≤ length text → a + b ≤ length text → passed (a + b) text ≡ (passed a >>= λ _. passed b) text
          whole some all =
              let after : b ≤ length (drop a text) = omega (arith, all, some, length-drop a text) in
              let back : drop (a + b) text ≡ drop b (drop a text) = sym (drop-drop b a text) in
              rw (le-ltb _ _ all, le-ltb _ _ some, le-ltb _ _ after, back) refl

-- bytes that were passed, with no sum
pub passed_absent : (n : ℕ) (text : List ℕ) → passed n text ≡ (passed_summed n Absent >>= λ _. given tt) text
passed_absent n text = on_test (nat_lt (length text) n) refl
  where
    on_test : (b : Bool) → nat_lt (length text) n ≡ b → passed n text ≡ (passed_summed n Absent >>= λ _. given tt) text
    on_test true short = rw short refl
    on_test false enough = rw enough refl

-- bytes that were taken
pub taken_known : (n : ℕ) (old new : Option (List ℕ)) (bytes : List ℕ) → Read (taken n) old new bytes → Known old new (λ text rest. (bytes ≡ take n text) × (rest ≡ drop n text))
taken_known n old new bytes h = known_so old new (λ text rest. taken n text ≡ Ok (bytes, rest)) (λ text rest. (bytes ≡ take n text) × (rest ≡ drop n text)) cut (read_known (taken n) old new bytes h)
  where
    cut : (text rest : List ℕ) → taken n text ≡ Ok (bytes, rest) → (bytes ≡ take n text) × (rest ≡ drop n text)
    cut text rest is =
        let parts = taken_sound n text (bytes, rest) is in
        (sym (cut_front n bytes rest parts.1) ∙ ap (λ z. take n z) (sym parts.0), sym (cut_back n bytes rest parts.1) ∙ ap (λ z. drop n z) (sym parts.0))

-- and summed
pub summed_taken : (n : ℕ) (sum : Sum) (old new : Option (List ℕ)) (p : List ℕ × Sum) → Read (taken_summed n sum) old new p → Read (taken n) old new p.0
summed_taken n sum old new p h = record { bytes = h.bytes; consumed = h.consumed; is = λ rest. front rest (read_on_ok {Y = List ℕ × Sum} (taken n (h.bytes ++ rest)) (λ bytes. given (bytes, summed sum bytes)) (p, rest) (h.is rest)) }
  where
    front : (rest : List ℕ) → (q : List ℕ × List ℕ) × (taken n (h.bytes ++ rest) ≡ Ok q) × (given (q.0, summed sum q.0) q.1 ≡ Ok (p, rest)) → taken n (h.bytes ++ rest) ≡ Ok (p.0, rest)
    front rest (q, one, two) =
        let same = ok_is ((q.0, summed sum q.0), q.1) (p, rest) two in
        one ∙ ap (λ (z : (List ℕ × Sum) × List ℕ). Ok (z.0.0, z.1)) same

-- bytes that were passed
pub passed_known : (n : ℕ) (old new : Option (List ℕ)) → Read (passed n) old new tt → Known old new (λ text rest. rest ≡ drop n text)
passed_known n old new h = known_so old new (λ text rest. passed n text ≡ Ok (tt, rest)) (λ text rest. rest ≡ drop n text) cut (read_known (passed n) old new tt h)
  where
    cut : (text rest : List ℕ) → passed n text ≡ Ok (tt, rest) → rest ≡ drop n text
    cut text rest is =
        let parts = passed_sound n text (tt, rest) is in
        sym (cut_back n parts.0 rest parts.2) ∙ ap (λ z. drop n z) (sym parts.1)

-- some are taken or passed, and then the others are passed
pub taken_passed : (a b : ℕ) (text : List ℕ) → passed (a + b) text ≡ (taken a >>= λ _. passed b) text
taken_passed a b text = passed_pieces a b text ∙ on_test (nat_lt (length text) a) refl
  where
    on_test : (c : Bool) → nat_lt (length text) a ≡ c → (passed a >>= λ _. passed b) text ≡ (taken a >>= λ _. passed b) text
    on_test true short = rw short refl
    on_test false enough = rw enough refl

pub passed_then : (a b : ℕ) (text : List ℕ) → passed (a + b) text ≡ (passed a >>= λ _. (passed_summed b Absent >>= λ _. given tt)) text
passed_then a b text = passed_pieces a b text ∙ on_test (nat_lt (length text) a) refl
  where
    on_test : (c : Bool) → nat_lt (length text) a ≡ c → (passed a >>= λ _. passed b) text ≡ (passed a >>= λ _. (passed_summed b Absent >>= λ _. given tt)) text
    on_test true short = rw short refl
    on_test false enough = rw enough (passed_absent b (drop a text))

-- what is said of what comes after them
pub known_taken : (n : ℕ) (old mid new : Option (List ℕ)) (bytes : List ℕ) (said : List ℕ → Type 0) → Read (taken n) old mid bytes → Known mid new (λ text rest. said text) → Known old new (λ text rest. said (drop n text))
known_taken n old mid new bytes said h k = known_both old mid new (λ text rest. (bytes ≡ take n text) × (rest ≡ drop n text)) (λ text rest. said text) (λ text rest. said (drop n text)) (λ text left rest cut is. subst said cut.1 is) (taken_known n old mid bytes h) k

pub known_passed : (n : ℕ) (old mid new : Option (List ℕ)) (said : List ℕ → Type 0) → Read (passed n) old mid tt → Known mid new (λ text rest. said text) → Known old new (λ text rest. said (drop n text))
known_passed n old mid new said h k = known_both old mid new (λ text rest. rest ≡ drop n text) (λ text rest. said text) (λ text rest. said (drop n text)) (λ text left rest cut is. subst said cut is) (passed_known n old mid h) k

-- what is said of them
pub known_front : {X : Type 0} (n : ℕ) (r : Reading X) (x : X) (old mid new : Option (List ℕ)) (bytes : List ℕ) (f : List ℕ → ℕ) → Read (taken n) old mid bytes → Read r mid new x → Known old new (λ text rest. f bytes ≡ f (take n text))
known_front n r x old mid new bytes f h k = known_both old mid new (λ text rest. (bytes ≡ take n text) × (rest ≡ drop n text)) (λ text rest. r text ≡ Ok (x, rest)) (λ text rest. f bytes ≡ f (take n text)) (λ text left rest cut is. ap f cut.0) (taken_known n old mid bytes h) (read_known r mid new x k)
