-- The first fault of a header of YUV4MPEG2 is the one that reading it meets.
use Rattle.std.proofs.Common.{◌≡◌, ◌⊎◌, ℕ, ◌+◌, Bool, true, false, cond, Option, Some, None, List, [], ◌∷◌, ◌++◌, take, drop, codes, Result, Ok, Err, inl, inr, refl, ap, ◌∙◌, sym, subst, append_assoc, take-append-drop, arith}
use Rattle.std.proofs.lemmas.Bool.{true≢false, false≢true}
use Rattle.std.specs.Cmp.Lexicographic.{same_text}
use Rattle.ffv1_y4m.specs.declared.fault.Fault.{Fault}
use Rattle.ffv1_y4m.specs.declared.fault.Fault.TheVariants as fault
use Rattle.ffv1_y4m.specs.declared.head.DeepHead.{DeepHead}
use Rattle.ffv1_y4m.specs.Sequence.{Outcome, ◌>>=◌, judge}
use Rattle.ffv1_y4m.specs.Header.{head_of_line, head_of_tags, header_of, is_text, line_end, line_read, line_to, no_tags, words_of}
use Rattle.ffv1_y4m.specs.FirstFaults.{HasLine, HasTags, HeaderFault, TagsFault}
use Rattle.ffv1_y4m.proofs.AnswerParts.{is_fault, rest_in, value_in}
use Rattle.ffv1_y4m.proofs.HeaderLines.{spaced_words, words_told}
use Rattle.ffv1_y4m.proofs.Lines.{line_local, line_was}
use Rattle.ffv1_y4m.proofs.TagFaults.{judged_all, none_held, tags_found, tags_known, tags_only}

-- ---- the line

pub line_is : (text line rest : List ℕ) → HasLine text line rest → line_read 1025 text ≡ Ok (line, rest)
line_is text line rest h = rw (h.whole, ← append_assoc line (10 ∷ []) rest) (line_local 1025 line h.single (omega (arith, h.short)) rest)

same_ok : {X : Type 0} (x y : X) (u v : List ℕ) → ◌≡◌ {A = Outcome X} (Ok (x, u)) (Ok (y, v)) → (x ≡ y) × (u ≡ v)
same_ok x y u v e = (ap (value_in x) e, ap rest_in e)

pub one_line : (text l m u v : List ℕ) → HasLine text l u → HasLine text m v → (l ≡ m) × (u ≡ v)
one_line text l m u v a b = same_ok l m u v (sym (line_is text l u a) ∙ line_is text m v b)

line_there : (text line rest : List ℕ) → line_read 1025 text ≡ Ok (line, rest) → HasLine text line rest
line_there text line rest h =
    let t = line_was 1025 text line rest h in
    record { single = t.single; short = omega (arith, t.short); whole = t.whole }

-- ---- its tags

abbrev tags_in : List ℕ → List (List ℕ)
tags_in line = cond (is_text line (codes "YUV4MPEG2")) [] (words_of (drop 10 line))

tags_there : (line : List ℕ) (tags : List (List ℕ)) → HasTags line tags → tags_in line ≡ tags
tags_there line [] h = rw h.spelled refl
tags_there line (w ∷ ws) h = rw h.spelled (spaced_words w ws h.spaceless)

pub one_tags : (line : List ℕ) (xs ys : List (List ℕ)) → HasTags line xs → HasTags line ys → xs ≡ ys
one_tags line xs ys a b = sym (tags_there line xs a) ∙ tags_there line ys b

pub tags_judged : (most : ℕ) (line : List ℕ) (tags : List (List ℕ)) → HasTags line tags → head_of_line most line ≡ judged_all most no_tags tags
unfolding head_of_line head_of_tags
tags_judged most line [] h = rw h.spelled refl
tags_judged most line (w ∷ ws) h = rw h.spelled (rw (spaced_words w ws h.spaceless) refl)

-- a line has tags, or is none of a header
abbrev Line : ℕ → List ℕ → Type 0
Line most line =
    ((tags : List (List ℕ)) × HasTags line tags)
    ⊎ ((head_of_line most line ≡ Err fault.Header) × ((tags : List (List ℕ)) → HasTags line tags → ⊥))

not_begun : (line : List ℕ) → is_text line (codes "YUV4MPEG2") ≡ false → is_text (take 10 line) (codes "YUV4MPEG2 ") ≡ false → (tags : List (List ℕ)) → HasTags line tags → ⊥
not_begun line a b [] h = true≢false (sym (rw h.spelled refl) ∙ a)
not_begun line a b (w ∷ ws) h = true≢false (sym (rw h.spelled refl) ∙ b)

line_by : (most : ℕ) (line : List ℕ) (a b : Bool) → is_text line (codes "YUV4MPEG2") ≡ a → is_text (take 10 line) (codes "YUV4MPEG2 ") ≡ b → Line most line
unfolding head_of_line
line_by most line true b p q = inl ([], record { spaceless = tt; spelled = same_text line (codes "YUV4MPEG2") (sym p) })
line_by most line false true p q =
    let t = words_told (drop 10 line) in
    let front : take 10 line ≡ codes "YUV4MPEG2 " = same_text (take 10 line) (codes "YUV4MPEG2 ") (sym q) in
    inl (words_of (drop 10 line), record { spaceless = t.plain; spelled = sym (take-append-drop 10 line) ∙ (ap (λ z. z ++ drop 10 line) front ∙ ap (λ z. codes "YUV4MPEG2" ++ z) (sym t.spells)) })
line_by most line false false p q = inr (rw (p, q) refl, not_begun line p q)

line_of : (most : ℕ) (line : List ℕ) → Line most line
line_of most line = line_by most line (is_text line (codes "YUV4MPEG2")) (is_text (take 10 line) (codes "YUV4MPEG2 ")) refl refl

-- ---- a header

pub same_fault : {X : Type 0} (f g : Fault) (u v : List ℕ) → ◌≡◌ {A = Outcome X} (Err (f, u)) (Err (g, v)) → (f ≡ g) × (u ≡ v)
same_fault f g u v e = (let one : ◌≡◌ {A = Fault × List ℕ} (f, u) (g, v) = cc in (ap (λ (z : Fault × List ℕ). z.0) one, ap (λ (z : Fault × List ℕ). z.1) one))

judged_fault : (r : Result DeepHead Fault) (text : List ℕ) (f : Fault) (rest : List ℕ) → judge r text ≡ Err (f, rest) → r ≡ Err f
judged_fault (Ok h) text f rest e = absurd (false≢true (ap is_fault e))
judged_fault (Err g) text f rest e = ap (λ z. Err z) (same_fault g f text rest e).0

long_by : (most : ℕ) (text : List ℕ) (end : Option ℕ) (f : Fault) (rest : List ℕ) → line_to most text end ≡ Err (f, rest) → f ≡ fault.Header
long_by most text None f rest e = sym (same_fault fault.Header f _ rest e).0
long_by most text (Some end) f rest e = absurd (false≢true (ap is_fault e))

pub long_is : (most : ℕ) (text : List ℕ) (f : Fault) (rest : List ℕ) → line_read most text ≡ Err (f, rest) → f ≡ fault.Header
long_is most text f rest e = long_by most text (line_end most text) f rest e

tags_fault : (most : ℕ) (text line rest : List ℕ) (f : Fault) → HasLine text line rest → head_of_line most line ≡ Err f → Line most line → (n : ℕ) × HeaderFault most text f n
tags_fault most text line rest f has e (inl (tags, t)) =
    let k = tags_known most tags [] no_tags f (none_held most) (sym (tags_judged most line tags t) ∙ e) in
    (9 + k.0, inr (line, rest, tags, has, t, k.0, k.1, refl))
tags_fault most text line rest f has e (inr (is, none)) =
    let same : ◌≡◌ {A = Result DeepHead Fault} (Err fault.Header) (Err f) = sym is ∙ e in
    let header : f ≡ fault.Header = cc in
    (0, inl (λ l u tags h t. none tags (subst (λ z. HasTags z tags) (one_line text l line u rest h has).0 t), header, refl))

known_by : (most : ℕ) (text : List ℕ) (f : Fault) (rest : List ℕ) (o : Outcome (List ℕ)) → line_read 1025 text ≡ o → (o >>= λ p. judge (head_of_line most p.0) p.1) ≡ Err (f, rest) → (n : ℕ) × HeaderFault most text f n
known_by most text f rest (Ok (line, left)) is e = tags_fault most text line left f (line_there text line left is) (judged_fault (head_of_line most line) left f rest e) (line_of most line)
known_by most text f rest (Err (g, left)) is e =
    let header : f ≡ fault.Header = sym (same_fault g f left rest e).0 ∙ long_is 1025 text g left is in
    (0, inl (λ l u tags h t. false≢true (ap is_fault (sym (line_is text l u h) ∙ is)), header, refl))

pub header_known : (most : ℕ) (text : List ℕ) (f : Fault) (rest : List ℕ) → header_of most text ≡ Err (f, rest) → (n : ℕ) × HeaderFault most text f n
header_known most text f rest e = known_by most text f rest (line_read 1025 text) refl e

-- a line that is no header is refused
none_by : (most : ℕ) (text : List ℕ) (line rest : List ℕ) → ((l u : List ℕ) (tags : List (List ℕ)) → HasLine text l u → HasTags l tags → ⊥) → HasLine text line rest → Line most line → judge (head_of_line most line) rest ≡ Err (fault.Header, rest)
none_by most text line rest none has (inl (tags, t)) = absurd (none line rest tags has t)
none_by most text line rest none has (inr (is, not)) = rw is refl

none_found : (most : ℕ) (text : List ℕ) (o : Outcome (List ℕ)) → line_read 1025 text ≡ o → ((l u : List ℕ) (tags : List (List ℕ)) → HasLine text l u → HasTags l tags → ⊥) → (rest : List ℕ) × ((o >>= λ p. judge (head_of_line most p.0) p.1) ≡ Err (fault.Header, rest))
none_found most text (Ok (line, left)) is none = (left, none_by most text line left none (line_there text line left is) (line_of most line))
none_found most text (Err (g, left)) is none = (left, ap (λ z. Err (z, left)) (long_is 1025 text g left is))

tags_refused : (most : ℕ) (text line rest : List ℕ) (tags : List (List ℕ)) (f : Fault) (m : ℕ) → HasLine text line rest → HasTags line tags → TagsFault most [] tags f m → header_of most text ≡ Err (f, rest)
tags_refused most text line rest tags f m has t fails = rw (line_is text line rest has) (rw (tags_judged most line tags t, tags_found most tags [] no_tags f m (none_held most) fails) refl)

pub header_refused : (most : ℕ) (text : List ℕ) (f : Fault) (n : ℕ) → HeaderFault most text f n → (rest : List ℕ) × (header_of most text ≡ Err (f, rest))
header_refused most text f n (inl (none, is, at)) = rw is (none_found most text (line_read 1025 text) refl none)
header_refused most text f n (inr (line, rest, tags, has, t, m, fails, at)) = (rest, tags_refused most text line rest tags f m has t fails)

-- there is one
pub header_only : (most : ℕ) (text : List ℕ) (f g : Fault) (m n : ℕ) → HeaderFault most text f m → HeaderFault most text g n → (f ≡ g) × (m ≡ n)
header_only most text f g m n (inl (none, is, at)) (inl (other, too, there)) = (is ∙ sym too, at ∙ sym there)
header_only most text f g m n (inl k) (inr t) = absurd (k.0 t.0 t.1 t.2 t.3 t.4)
header_only most text f g m n (inr t) (inl k) = absurd (k.0 t.0 t.1 t.2 t.3 t.4)
header_only most text f g m n (inr (line, rest, tags, has, t, i, fails, at)) (inr (other, left, words, too, u, j, refused, there)) =
    let same : line ≡ other = (one_line text line other rest left has too).0 in
    let tags_same : tags ≡ words = one_tags other tags words (subst (λ z. HasTags z tags) same t) u in
    let both = tags_only most words [] f g i j (subst (λ z. TagsFault most [] z f i) tags_same fails) refused in
    (both.0, at ∙ (ap (λ z. 9 + z) both.1 ∙ sym there))
