-- Words, with white space and comments before them: what is read is there, and what is there is read.
use Rattle.std.proofs.Common.{◌≡◌, ℕ, ◌<◌, ◌≤◌, ◌==◌, not, zero, suc, Bool, true, false, cond, List, [], ◌∷◌, ◌++◌, length, Ok, refl, ap, ◌∙◌, sym, append_assoc, append-nil, arith}
use Rattle.std.proofs.lemmas.Bool.{true≢false, false≢true, ne_eqb}
use Rattle.ffv1_y4m.specs.Sequence.{Outcome}
use Rattle.ffv1_y4m.specs.Spaces.{blank_read, blank_room, is_blank, is_break, is_white, spaced_word, word_read}
use Rattle.ffv1_y4m.proofs.AnswerParts.{is_fault, parted_by, rest_in, value_in}
use Rattle.ffv1_y4m.proofs.CanonicalLine.{AreDigits}
use Rattle.ffv1_y4m.proofs.SpacesRead.{blank_end, comment_step, hash_step, white_step, word_end, word_step}

-- ---- what is read is there

-- the end of a word that began so
pub record WordTold (word text x rest : List ℕ) : Type 0 where
  pub more : List ℕ
  pub last : ℕ
  pub is : x ≡ word ++ more
  pub white : is_white last ≡ true
  pub whole : text ≡ more ++ last ∷ rest

word_one : (word cs x rest : List ℕ) (c : ℕ) → is_white c ≡ true → ◌≡◌ {A = Outcome (List ℕ)} (Ok (word, cs)) (Ok (x, rest)) → WordTold word (c ∷ cs) x rest
word_one word cs x rest c white h = record {
  more = [];
  last = c;
  is = sym (ap (value_in []) h) ∙ sym (append-nil word);
  white = white;
  whole = ap (λ z. c ∷ z) (ap rest_in h);
}

word_longer : (word cs x rest : List ℕ) (c : ℕ) → WordTold (word ++ c ∷ []) cs x rest → WordTold word (c ∷ cs) x rest
word_longer word cs x rest c t = record {
  more = c ∷ t.more;
  last = t.last;
  is = t.is ∙ append_assoc word (c ∷ []) t.more;
  white = t.white;
  whole = ap (λ z. c ∷ z) t.whole;
}

word_by : (b : Bool) (word cs x rest : List ℕ) (c : ℕ) (more : Outcome (List ℕ)) → is_white c ≡ b → (more ≡ Ok (x, rest) → WordTold (word ++ c ∷ []) cs x rest) → cond b (Ok (word, cs)) more ≡ Ok (x, rest) → WordTold word (c ∷ cs) x rest
word_by true word cs x rest c more white told e = word_one word cs x rest c white e
word_by false word cs x rest c more black told e = word_longer word cs x rest c (told e)

pub word_told : (n : ℕ) (word text x rest : List ℕ) → word_read n word text ≡ Ok (x, rest) → WordTold word text x rest
unfolding word_read
word_told zero word text x rest h = absurd (true≢false (ap is_fault h))
word_told (suc n) word [] x rest h = absurd (true≢false (ap is_fault h))
word_told (suc n) word (c ∷ cs) x rest h = word_by (is_white c) word cs x rest c (word_read n (word ++ c ∷ []) cs) refl (word_told n (word ++ c ∷ []) cs x rest) h

-- white space and comments
pub record BlankTold (n : ℕ) (inside : Bool) (text : List ℕ) (x : ℕ) (rest : List ℕ) : Type 0 where
  pub gap : List ℕ
  pub blank : is_blank inside gap ≡ true
  pub short : length gap < n
  pub whole : text ≡ gap ++ x ∷ rest

blank_none : (n c : ℕ) (cs : List ℕ) (x : ℕ) (rest : List ℕ) → ◌≡◌ {A = Outcome ℕ} (Ok (c, cs)) (Ok (x, rest)) → BlankTold (suc n) false (c ∷ cs) x rest
unfolding is_blank
blank_none n c cs x rest h = record { gap = []; blank = refl; short = omega arith; whole = ap (λ z. z ∷ cs) (ap (value_in 0) h) ∙ ap (λ z. x ∷ z) (ap rest_in h) }

blank_longer : (n : ℕ) (inside next : Bool) (c : ℕ) (cs : List ℕ) (x : ℕ) (rest : List ℕ) → ((gap : List ℕ) → is_blank inside (c ∷ gap) ≡ is_blank next gap) → BlankTold n next cs x rest → BlankTold (suc n) inside (c ∷ cs) x rest
blank_longer n inside next c cs x rest same t = record { gap = c ∷ t.gap; blank = same t.gap ∙ t.blank; short = omega (arith, t.short); whole = ap (λ z. c ∷ z) t.whole }

in_comment : (c : ℕ) (gap : List ℕ) → is_blank true (c ∷ gap) ≡ is_blank (not (is_break c)) gap
unfolding is_blank
in_comment c gap = refl

in_white : (c : ℕ) (gap : List ℕ) → is_white c ≡ true → is_blank false (c ∷ gap) ≡ is_blank false gap
unfolding is_blank
in_white c gap white = rw white refl

in_hash : (c : ℕ) (gap : List ℕ) → is_white c ≡ false → (c == 35) ≡ true → is_blank false (c ∷ gap) ≡ is_blank true gap
unfolding is_blank
in_hash c gap black hash = rw (black, hash) refl

in_other : (c : ℕ) (gap : List ℕ) → is_white c ≡ false → (c == 35) ≡ false → is_blank false (c ∷ gap) ≡ false
unfolding is_blank
in_other c gap black other = rw (black, other) refl

blank_by : (b d : Bool) (n c : ℕ) (cs : List ℕ) (x : ℕ) (rest : List ℕ) (one two : Outcome ℕ) → is_white c ≡ b → (c == 35) ≡ d → (one ≡ Ok (x, rest) → BlankTold n false cs x rest) → (two ≡ Ok (x, rest) → BlankTold n true cs x rest) →
    cond b one (cond d two (Ok (c, cs))) ≡ Ok (x, rest) → BlankTold (suc n) false (c ∷ cs) x rest
blank_by true d n c cs x rest one two white hash f g e = blank_longer n false false c cs x rest (λ gap. in_white c gap white) (f e)
blank_by false true n c cs x rest one two black hash f g e = blank_longer n false true c cs x rest (λ gap. in_hash c gap black hash) (g e)
blank_by false false n c cs x rest one two black other f g e = blank_none n c cs x rest e

pub blank_told : (n : ℕ) (inside : Bool) (text : List ℕ) (x : ℕ) (rest : List ℕ) → blank_read n inside text ≡ Ok (x, rest) → BlankTold n inside text x rest
unfolding blank_read
blank_told zero inside text x rest h = absurd (true≢false (ap is_fault h))
blank_told (suc n) true [] x rest h = absurd (true≢false (ap is_fault h))
blank_told (suc n) false [] x rest h = absurd (true≢false (ap is_fault h))
blank_told (suc n) true (c ∷ cs) x rest h = blank_longer n true (not (is_break c)) c cs x rest (in_comment c) (blank_told n (not (is_break c)) cs x rest h)
blank_told (suc n) false (c ∷ cs) x rest h =
    blank_by (is_white c) (c == 35) n c cs x rest (blank_read n false cs) (blank_read n true cs) refl refl (blank_told n false cs x rest) (blank_told n true cs x rest) h

-- a word with what comes before it
pub record SpacedTold (text word rest : List ℕ) : Type 0 where
  pub gap : List ℕ
  pub last : ℕ
  pub blank : is_blank false gap ≡ true
  pub short : length gap < blank_room
  pub white : is_white last ≡ true
  pub whole : text ≡ gap ++ (word ++ last ∷ rest)

pub spaced_told : (most : ℕ) (text word rest : List ℕ) → spaced_word most text ≡ Ok (word, rest) → SpacedTold text word rest
spaced_told most text word rest h =
    let t = parted_by (blank_read blank_room false text) (λ c. word_read most (c ∷ [])) word rest h in
    let a = blank_told blank_room false text t.value t.mid t.begins in
    let b = word_told most (t.value ∷ []) t.mid word rest t.goes_on in
    record {
      gap = a.gap;
      last = b.last;
      blank = a.blank;
      short = a.short;
      white = b.white;
      whole = a.whole ∙ ap (λ z. a.gap ++ z) (ap (λ z. t.value ∷ z) b.whole ∙ ap (λ z. z ++ b.last ∷ rest) (sym b.is));
    }

-- ---- what is there is read

-- none of these bytes is white space
abbrev pub AreBlack : List ℕ → Type 0
AreBlack [] = Unit {0}
AreBlack (c ∷ cs) = (is_white c ≡ false) × AreBlack cs

pub word_found : (n : ℕ) (word xs : List ℕ) (c : ℕ) (rest : List ℕ) → AreBlack xs → is_white c ≡ true → length xs < n → word_read n word (xs ++ c ∷ rest) ≡ Ok (word ++ xs, rest)
word_found zero word xs c rest black white short = absurd (omega (arith, short))
word_found (suc n) word [] c rest black white short = word_end n word c rest white ∙ ap (λ z. Ok (z, rest)) (sym (append-nil word))
word_found (suc n) word (x ∷ xs) c rest black white short =
    word_step n word x (xs ++ c ∷ rest) black.0 ∙ (word_found n (word ++ x ∷ []) xs c rest black.1 white (omega (arith, short)) ∙ ap (λ z. Ok (z, rest)) (append_assoc word (x ∷ []) xs))

not_blank : (b : Bool) → b ≡ false → b ≡ true → ⊥
not_blank b h k = false≢true (sym h ∙ k)

found_by : (b d : Bool) (n g : ℕ) (gap : List ℕ) (c : ℕ) (rest : List ℕ) → is_white g ≡ b → (g == 35) ≡ d → is_blank false (g ∷ gap) ≡ true → (is_blank false gap ≡ true → blank_read n false (gap ++ c ∷ rest) ≡ Ok (c, rest)) →
    (is_blank true gap ≡ true → blank_read n true (gap ++ c ∷ rest) ≡ Ok (c, rest)) → blank_read (suc n) false ((g ∷ gap) ++ c ∷ rest) ≡ Ok (c, rest)
found_by true d n g gap c rest white hash blank f k = white_step n g (gap ++ c ∷ rest) white ∙ f (sym (in_white g gap white) ∙ blank)
found_by false true n g gap c rest dark hash blank f k = hash_step n g (gap ++ c ∷ rest) dark hash ∙ k (sym (in_hash g gap dark hash) ∙ blank)
found_by false false n g gap c rest dark apart blank f k = absurd (not_blank (is_blank false (g ∷ gap)) (in_other g gap dark apart) blank)

pub blank_found : (n : ℕ) (inside : Bool) (gap : List ℕ) (c : ℕ) (rest : List ℕ) → is_blank inside gap ≡ true → is_white c ≡ false → (c == 35) ≡ false → length gap < n → blank_read n inside (gap ++ c ∷ rest) ≡ Ok (c, rest)
unfolding is_blank
blank_found zero inside gap c rest blank black other short = absurd (omega (arith, short))
blank_found (suc n) true [] c rest blank black other short = absurd (false≢true blank)
blank_found (suc n) false [] c rest blank black other short = blank_end n c rest black other
blank_found (suc n) true (g ∷ gap) c rest blank black other short =
    comment_step n g (gap ++ c ∷ rest) ∙ blank_found n (not (is_break g)) gap c rest blank black other (omega (arith, short))
blank_found (suc n) false (g ∷ gap) c rest blank black other short =
    let few : length gap < n = omega (arith, short) in
    found_by (is_white g) (g == 35) n g gap c rest refl refl blank (λ h. blank_found n false gap c rest h black other few) (λ h. blank_found n true gap c rest h black other few)

-- digits
digit_black : (c : ℕ) → 48 ≤ c → c ≤ 57 → is_white c ≡ false
digit_black c low high =
    let a : (c == 32) ≡ false = ne_eqb c 32 (λ e. absurd (omega (arith, e, low))) in
    let b : (c == 9) ≡ false = ne_eqb c 9 (λ e. absurd (omega (arith, e, low))) in
    let d : (c == 10) ≡ false = ne_eqb c 10 (λ e. absurd (omega (arith, e, low))) in
    let f : (c == 13) ≡ false = ne_eqb c 13 (λ e. absurd (omega (arith, e, low))) in
    rw (a, b, d, f) refl

pub digits_black : (ds : List ℕ) → AreDigits ds → AreBlack ds
digits_black [] h = tt
digits_black (c ∷ cs) h = (digit_black c h.0.0 h.0.1, digits_black cs h.1)

spaced_by : (most : ℕ) (gap : List ℕ) (c : ℕ) (more : List ℕ) (last : ℕ) (rest : List ℕ) → blank_read blank_room false (gap ++ c ∷ (more ++ last ∷ rest)) ≡ Ok (c, more ++ last ∷ rest) → word_read most (c ∷ []) (more ++ last ∷ rest) ≡ Ok (c ∷ more, rest) →
    spaced_word most (gap ++ c ∷ (more ++ last ∷ rest)) ≡ Ok (c ∷ more, rest)
spaced_by most gap c more last rest one two = rw one two

-- digits after white space and comments
pub spaced_found : (most : ℕ) (gap word : List ℕ) (last : ℕ) (rest : List ℕ) → is_blank false gap ≡ true → length gap < blank_room → AreDigits word → 0 < length word → length word ≤ most → is_white last ≡ true → spaced_word most (gap ++ (word ++ last ∷ rest)) ≡ Ok (word, rest)
spaced_found most gap [] last rest blank short digits some few white = absurd (omega (arith, some))
spaced_found most gap (c ∷ more) last rest blank short digits some few white =
    let black = digits_black (c ∷ more) digits in
    let other : (c == 35) ≡ false = ne_eqb c 35 (λ e. absurd (omega (arith, e, digits.0.0))) in
    spaced_by most gap c more last rest (blank_found blank_room false gap c (more ++ last ∷ rest) blank black.0 other short)
    (word_found most (c ∷ []) more last rest black.1 white (omega (arith, few)))
