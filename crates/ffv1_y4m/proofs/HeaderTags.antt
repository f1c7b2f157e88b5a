-- Tags that are judged one by one, and what they say together.
use Rattle.std.proofs.Common.{◌≡◌, ℕ, ◌==◌, ◌||◌, Bool, true, false, Option, Some, None, List, [], ◌∷◌, Ok, refl, ap, ◌∙◌, sym, subst, nat_lt}
use Rattle.std.proofs.lemmas.Bool.{eqb-true, false≢true}
use Rattle.ffv1_y4m.specs.declared.tags.Tags.{Tags}
use Rattle.ffv1_y4m.specs.declared.tags.Chroma.{Chroma}
use Rattle.ffv1_y4m.specs.declared.head.Range.{Range}
use Rattle.ffv1_y4m.specs.Header.{tagged, judged, all_judged, chroma_of, next_range, range_of}
use Rattle.ffv1_y4m.specs.HeaderLine.{is_letter, AreTags, values_of, SaysSize, SaysRatio, SaysStructure, SaysRange, onto_ranging, ranging}
use Rattle.ffv1_y4m.proofs.AnswerParts.{is_some}
use Rattle.ffv1_y4m.proofs.CanonicalLine.{judged_width, judged_height, judged_rate, judged_structure, judged_aspect, judged_chroma}

-- a name of chroma of at most this depth
abbrev pub SaysUpTo : ℕ → List ℕ → Chroma → Type 0
SaysUpTo most value c = chroma_of most value ≡ Some c

-- what tags of one letter make of a value: at most one says it, if none did before
abbrev pub Moves : {X : Type 0} → (List ℕ → X → Type 0) → Option X → List (List ℕ) → Option X → Type 0
Moves says old [] new = new ≡ old
Moves {X = X} says None (value ∷ []) new = (x : X) × says value x × (new ≡ Some x)
Moves says None (value ∷ second ∷ more) new = ⊥
Moves says (Some y) (value ∷ more) new = ⊥

pub record Moved (most : ℕ) (t : Tags) (tags : List (List ℕ)) (u : Tags) : Type 0 where
  pub width : Moves SaysSize t.width (values_of 87 tags) u.width
  pub height : Moves SaysSize t.height (values_of 72 tags) u.height
  pub rate : Moves (SaysRatio 4294967295) t.rate (values_of 70 tags) u.rate
  pub structure : Moves SaysStructure t.structure (values_of 73 tags) u.structure
  pub aspect : Moves (SaysRatio 65535) t.aspect (values_of 65 tags) u.aspect
  pub chroma : Moves (SaysUpTo most) t.chroma (values_of 67 tags) u.chroma
  pub range : Moves (SaysRange most) t.range (ranging (nat_lt 8 most) (values_of 88 tags)) u.range

record One {X : Type 0} (says : List ℕ → X → Type 0) (old : Option X) (value : List ℕ) (more : List (List ℕ)) (new : Option X) : Type 0 where
  x : X
  none : old ≡ None
  said : says value x
  next : Moves says (Some x) more new

moves_one : {X : Type 0} (says : List ℕ → X → Type 0) (old : Option X) (value : List ℕ) (more : List (List ℕ)) (new : Option X) → Moves says old (value ∷ more) new → One says old value more new
moves_one says None value [] new h = record { x = h.0; none = refl; said = h.1; next = h.2 }
moves_one says None value (second ∷ more) new h = absurd h
moves_one says (Some y) value more new h = absurd h

pub one_moves : {X : Type 0} (says : List ℕ → X → Type 0) (old : Option X) (x : X) (value : List ℕ) (more : List (List ℕ)) (new : Option X) → old ≡ None → says value x → Moves says (Some x) more new → Moves says old (value ∷ more) new
one_moves says None x value [] new none said next = (x, said, next)
one_moves says None x value (second ∷ more) new none said next = next
one_moves says (Some y) x value more new none said next = absurd (false≢true (sym (ap is_some none)))

-- the letters
letter_by : (a b c d e f g : Bool) → a || (b || (c || (d || (e || (f || g))))) ≡ true → (P : Type 0) → (a ≡ true → P) → (b ≡ true → P) → (c ≡ true → P) → (d ≡ true → P) → (e ≡ true → P) → (f ≡ true → P) → (g ≡ true → P) → P
letter_by true b c d e f g h P wa wb wc wd we wf wg = wa refl
letter_by false true c d e f g h P wa wb wc wd we wf wg = wb refl
letter_by false false true d e f g h P wa wb wc wd we wf wg = wc refl
letter_by false false false true e f g h P wa wb wc wd we wf wg = wd refl
letter_by false false false false true f g h P wa wb wc wd we wf wg = we refl
letter_by false false false false false true g h P wa wb wc wd we wf wg = wf refl
letter_by false false false false false false true h P wa wb wc wd we wf wg = wg refl
letter_by false false false false false false false h P wa wb wc wd we wf wg = absurd (false≢true h)

-- a property of a tag, by its letter
pub by_letter : (Q : ℕ → Type 0) (c : ℕ) → is_letter c ≡ true → Q 87 → Q 72 → Q 70 → Q 73 → Q 65 → Q 67 → Q 88 → Q c
by_letter Q c known w h f i a k x =
    letter_by (c == 87) (c == 72) (c == 70) (c == 73) (c == 65) (c == 67) (c == 88) known (Q c)
    (λ e. subst Q (sym (eqb-true c 87 e)) w) (λ e. subst Q (sym (eqb-true c 72 e)) h) (λ e. subst Q (sym (eqb-true c 70 e)) f) (λ e. subst Q (sym (eqb-true c 73 e)) i)
    (λ e. subst Q (sym (eqb-true c 65 e)) a) (λ e. subst Q (sym (eqb-true c 67 e)) k) (λ e. subst Q (sym (eqb-true c 88 e)) x)

-- one tag
record Step (most : ℕ) (t : Tags) (letter : ℕ) (value : List ℕ) (tags : List (List ℕ)) (u : Tags) : Type 0 where
  next : Tags
  judging : judged most t (letter ∷ value) ≡ Ok next
  moved : Moved most next tags u

step_width : (most : ℕ) (t : Tags) (value : List ℕ) (tags : List (List ℕ)) (u : Tags) → Moved most t ((87 ∷ value) ∷ tags) u → Step most t 87 value tags u
step_width most t value tags u m =
    let o = moves_one SaysSize t.width value (values_of 87 tags) u.width m.width in
    record { next = record t { width = Some o.x }; judging = judged_width most t o.x value o.none o.said; moved = record { width = o.next; height = m.height; rate = m.rate; structure = m.structure; aspect = m.aspect; chroma = m.chroma; range = m.range } }

step_height : (most : ℕ) (t : Tags) (value : List ℕ) (tags : List (List ℕ)) (u : Tags) → Moved most t ((72 ∷ value) ∷ tags) u → Step most t 72 value tags u
step_height most t value tags u m =
    let o = moves_one SaysSize t.height value (values_of 72 tags) u.height m.height in
    record { next = record t { height = Some o.x }; judging = judged_height most t o.x value o.none o.said; moved = record { width = m.width; height = o.next; rate = m.rate; structure = m.structure; aspect = m.aspect; chroma = m.chroma; range = m.range } }

step_rate : (most : ℕ) (t : Tags) (value : List ℕ) (tags : List (List ℕ)) (u : Tags) → Moved most t ((70 ∷ value) ∷ tags) u → Step most t 70 value tags u
step_rate most t value tags u m =
    let o = moves_one (SaysRatio 4294967295) t.rate value (values_of 70 tags) u.rate m.rate in
    record { next = record t { rate = Some o.x }; judging = judged_rate most t o.x value o.none o.said; moved = record { width = m.width; height = m.height; rate = o.next; structure = m.structure; aspect = m.aspect; chroma = m.chroma; range = m.range } }

step_structure : (most : ℕ) (t : Tags) (value : List ℕ) (tags : List (List ℕ)) (u : Tags) → Moved most t ((73 ∷ value) ∷ tags) u → Step most t 73 value tags u
step_structure most t value tags u m =
    let o = moves_one SaysStructure t.structure value (values_of 73 tags) u.structure m.structure in
    record { next = record t { structure = Some o.x }; judging = judged_structure most t o.x value o.none o.said; moved = record { width = m.width; height = m.height; rate = m.rate; structure = o.next; aspect = m.aspect; chroma = m.chroma; range = m.range } }

step_aspect : (most : ℕ) (t : Tags) (value : List ℕ) (tags : List (List ℕ)) (u : Tags) → Moved most t ((65 ∷ value) ∷ tags) u → Step most t 65 value tags u
step_aspect most t value tags u m =
    let o = moves_one (SaysRatio 65535) t.aspect value (values_of 65 tags) u.aspect m.aspect in
    record { next = record t { aspect = Some o.x }; judging = judged_aspect most t o.x value o.none o.said; moved = record { width = m.width; height = m.height; rate = m.rate; structure = m.structure; aspect = o.next; chroma = m.chroma; range = m.range } }

step_chroma : (most : ℕ) (t : Tags) (value : List ℕ) (tags : List (List ℕ)) (u : Tags) → Moved most t ((67 ∷ value) ∷ tags) u → Step most t 67 value tags u
step_chroma most t value tags u m =
    let o = moves_one (SaysUpTo most) t.chroma value (values_of 67 tags) u.chroma m.chroma in
    record { next = record t { chroma = Some o.x }; judging = judged_chroma most t o.x value o.none o.said; moved = record { width = m.width; height = m.height; rate = m.rate; structure = m.structure; aspect = m.aspect; chroma = o.next; range = m.range } }

-- a tag X, which says a range or none
record RangeStep (most : ℕ) (old new : Option Range) (values : List (List ℕ)) (last : Option Range) : Type 0 where
  r : Option Range
  is : next_range old new ≡ Ok r
  next : Moves (SaysRange most) r values last

next_first : (old : Option Range) (x y : Range) → old ≡ None → ◌≡◌ {A = Option Range} (Some x) (Some y) → next_range old (Some x) ≡ Ok (Some y)
next_first None x y none same = ap (λ z. Ok z) same
next_first (Some z) x y none same = absurd (false≢true (sym (ap is_some none)))

range_step : (most : ℕ) (old : Option Range) (value : List ℕ) (values : List (List ℕ)) (last new : Option Range) → range_of (nat_lt 8 most) value ≡ new → Moves (SaysRange most) old (onto_ranging value new values) last → RangeStep most old new values last
range_step most old value values last None is h = record { r = old; is = refl; next = h }
range_step most old value values last (Some x) is h =
    let o = moves_one (SaysRange most) old value values last h in
    record { r = Some o.x; is = next_first old x o.x o.none (sym is ∙ o.said); next = o.next }

step_comment : (most : ℕ) (t : Tags) (value : List ℕ) (tags : List (List ℕ)) (u : Tags) → Moved most t ((88 ∷ value) ∷ tags) u → Step most t 88 value tags u
unfolding tagged
step_comment most t value tags u m =
    let o = range_step most t.range value (ranging (nat_lt 8 most) (values_of 88 tags)) u.range (range_of (nat_lt 8 most) value) refl m.range in
    record { next = record t { range = o.r }; judging = rw o.is refl; moved = record { width = m.width; height = m.height; rate = m.rate; structure = m.structure; aspect = m.aspect; chroma = m.chroma; range = o.next } }

step : (most : ℕ) (t : Tags) (letter : ℕ) (value : List ℕ) (tags : List (List ℕ)) (u : Tags) → is_letter letter ≡ true → Moved most t ((letter ∷ value) ∷ tags) u → Step most t letter value tags u
step most t letter value tags u known =
    by_letter (λ c. Moved most t ((c ∷ value) ∷ tags) u → Step most t c value tags u) letter known
    (step_width most t value tags u) (step_height most t value tags u) (step_rate most t value tags u) (step_structure most t value tags u) (step_aspect most t value tags u) (step_chroma most t value tags u) (step_comment most t value tags u)

same_tags : (t u : Tags) → u.width ≡ t.width → u.height ≡ t.height → u.rate ≡ t.rate → u.structure ≡ t.structure → u.aspect ≡ t.aspect → u.chroma ≡ t.chroma → u.range ≡ t.range → t ≡ u
same_tags t u a b c d e f g =
    let one : t ≡ record t { width = u.width } = ap (λ z. record t { width = z }) (sym a) in
    let two : record t { width = u.width } ≡ record t { width = u.width; height = u.height } = ap (λ z. record t { width = u.width; height = z }) (sym b) in
    let three : record t { width = u.width; height = u.height } ≡ record t { width = u.width; height = u.height; rate = u.rate } = ap (λ z. record t { width = u.width; height = u.height; rate = z }) (sym c) in
    let four : record t { width = u.width; height = u.height; rate = u.rate } ≡ record t { width = u.width; height = u.height; rate = u.rate; structure = u.structure } = ap (λ z. record t { width = u.width; height = u.height; rate = u.rate; structure = z }) (sym d) in
    let five : record t { width = u.width; height = u.height; rate = u.rate; structure = u.structure } ≡ record t { width = u.width; height = u.height; rate = u.rate; structure = u.structure; aspect = u.aspect } = ap (λ z. record t { width = u.width; height = u.height; rate = u.rate; structure = u.structure; aspect = z }) (sym e) in
    let six : record t { width = u.width; height = u.height; rate = u.rate; structure = u.structure; aspect = u.aspect } ≡ record t { width = u.width; height = u.height; rate = u.rate; structure = u.structure; aspect = u.aspect; chroma = u.chroma } = ap (λ z. record t { width = u.width; height = u.height; rate = u.rate; structure = u.structure; aspect = u.aspect; chroma = z }) (sym f) in
    let seven : record t { width = u.width; height = u.height; rate = u.rate; structure = u.structure; aspect = u.aspect; chroma = u.chroma } ≡ u = ap (λ z. record t { width = u.width; height = u.height; rate = u.rate; structure = u.structure; aspect = u.aspect; chroma = u.chroma; range = z }) (sym g) in
    one ∙ (two ∙ (three ∙ (four ∙ (five ∙ (six ∙ seven)))))

pub all_found : (tags : List (List ℕ)) (most : ℕ) (t u : Tags) → AreTags tags → Moved most t tags u → all_judged most t tags ≡ Ok u
all_found [] most t u are m = ap Ok (same_tags t u m.width m.height m.rate m.structure m.aspect m.chroma m.range)
all_found ([] ∷ tags) most t u are m = absurd are
all_found ((letter ∷ value) ∷ tags) most t u are m =
    let s = step most t letter value tags u are.0 m in
    rw s.judging (all_found tags most s.next u are.2 s.moved)
