-- A header line and the tags that it says.
use Rattle.std.proofs.Common.{◌≤◌, nat_le, nat_lt, ◌≡◌, ℕ, ◌==◌, ◌||◌, Bool, true, false, cond, Option, Some, None, List, [], ◌∷◌, ◌++◌, take, drop, codes, Result, Ok, Err, refl, ap, ◌∙◌, sym, subst, append-nil, take-append-drop}
use Rattle.std.specs.Option.{option_and_then}
use Rattle.std.proofs.lemmas.Bool.{le-leb, leb-true, eqb-true, true≢false, false≢true}
use Rattle.std.specs.Cmp.Lexicographic.{same_text}
use Rattle.ffv1_y4m.specs.declared.fault.Fault.{Fault}
use Rattle.ffv1_y4m.specs.declared.fault.Fault.TheVariants as fault
use Rattle.ffv1_y4m.specs.declared.head.DeepHead.{DeepHead}
use Rattle.ffv1_y4m.specs.declared.head.VideoHead.{VideoHead}
use Rattle.ffv1_y4m.specs.declared.tags.Chroma.{Chroma}
use Rattle.ffv1_y4m.specs.declared.tags.Tags.{Tags}
use Rattle.ffv1_y4m.specs.declared.head.Range.{Range}
use Rattle.ffv1_y4m.specs.Sequence.{◌>>=◌}
use Rattle.ffv1_y4m.specs.Header.{first_value, first_answer, structure_of, tagged, words_of, onto_first, all_judged, no_tags, present, head_of_tags, head_of_line, head_from, or_else, size_of, ratio_of, chroma_named, chroma_of, chroma_planes, next_range, range_of, up_to, is_text}
use Rattle.ffv1_y4m.specs.HeaderLine.{is_letter, AreTags, spaced, values_of, Once, AtMostOnce, Perhaps, SaysSize, SaysRatio, SaysStructure, SaysChroma, SaysRange, chroma_in, onto_ranging, ranging, IsHeaderLine}
use Rattle.ffv1_y4m.specs.FirstFaults.{AreSpaceless}
use Rattle.ffv1_y4m.proofs.AnswerParts.{is_some, some_in, is_fault}
use Rattle.ffv1_y4m.proofs.CanonicalLine.{words_front, words_whole}
use Rattle.ffv1_y4m.proofs.HeaderTags.{SaysUpTo, Moves, Moved, one_moves, by_letter, all_found}

-- one answer and then the next, taken apart
record Bound {X Y : Type 0} (first : Result X Fault) (next : X → Result Y Fault) (y : Y) : Type 0 where
  x : X
  begins : first ≡ Ok x
  goes_on : next x ≡ Ok y

bound : {X Y : Type 0} (first : Result X Fault) (next : X → Result Y Fault) (y : Y) → (first >>= next) ≡ Ok y → Bound first next y
bound (Ok x) next y h = record { x = x; begins = refl; goes_on = h }
bound (Err f) next y h = absurd (true≢false (ap is_fault h))

abbrev ok_in : {X : Type 0} → X → Result X Fault → X
ok_in d (Ok x) = x
ok_in d (Err f) = d

record First {X : Type 0} (old new : Option X) (set : X → Tags) (t : Tags) : Type 0 where
  x : X
  none : old ≡ None
  said : new ≡ Some x
  is : set x ≡ t

first_told : {X : Type 0} (old new : Option X) (f : Fault) (set : X → Tags) (t : Tags) → (first_value old new f >>= λ x. Ok (set x)) ≡ Ok t → First old new set t
first_told (Some y) new f set t h = absurd (true≢false (ap is_fault h))
first_told None None f set t h = absurd (true≢false (ap is_fault h))
first_told None (Some x) f set t h = record { x = x; none = refl; said = refl; is = ap (ok_in t) h }

record Answered {X : Type 0} (old : Option X) (new : Result X Fault) (set : X → Tags) (t : Tags) : Type 0 where
  x : X
  none : old ≡ None
  said : new ≡ Ok x
  is : set x ≡ t

answer_told : {X : Type 0} (old : Option X) (new : Result X Fault) (set : X → Tags) (t : Tags) → (first_answer old new >>= λ x. Ok (set x)) ≡ Ok t → Answered old new set t
answer_told (Some y) new set t h = absurd (true≢false (ap is_fault h))
answer_told None (Err f) set t h = absurd (true≢false (ap is_fault h))
answer_told None (Ok x) set t h = record { x = x; none = refl; said = refl; is = ap (ok_in t) h }

-- one tag, backwards
abbrev Back : ℕ → Tags → List ℕ → List (List ℕ) → Tags → Tags → ℕ → Type 0
Back most t value tags next u letter = tagged most t letter value ≡ Ok next → Moved most next tags u → Moved most t ((letter ∷ value) ∷ tags) u

back_width : (most : ℕ) (t : Tags) (value : List ℕ) (tags : List (List ℕ)) (next u : Tags) → Back most t value tags next u 87
unfolding tagged
back_width most t value tags next u h m =
    let f = first_told t.width (size_of value) fault.Tag (λ n. record t { width = Some n }) next h in
    let P : Tags → Type 0 = λ z. Moved most z tags u in
    let k = subst P (sym f.is) m in
    record { width = one_moves SaysSize t.width f.x value (values_of 87 tags) u.width f.none f.said k.width; height = k.height; rate = k.rate; structure = k.structure; aspect = k.aspect; chroma = k.chroma; range = k.range }

back_height : (most : ℕ) (t : Tags) (value : List ℕ) (tags : List (List ℕ)) (next u : Tags) → Back most t value tags next u 72
unfolding tagged
back_height most t value tags next u h m =
    let f = first_told t.height (size_of value) fault.Tag (λ n. record t { height = Some n }) next h in
    let P : Tags → Type 0 = λ z. Moved most z tags u in
    let k = subst P (sym f.is) m in
    record { width = k.width; height = one_moves SaysSize t.height f.x value (values_of 72 tags) u.height f.none f.said k.height; rate = k.rate; structure = k.structure; aspect = k.aspect; chroma = k.chroma; range = k.range }

back_rate : (most : ℕ) (t : Tags) (value : List ℕ) (tags : List (List ℕ)) (next u : Tags) → Back most t value tags next u 70
unfolding tagged
back_rate most t value tags next u h m =
    let f = first_told t.rate (ratio_of 4294967295 value) fault.Tag (λ n. record t { rate = Some n }) next h in
    let P : Tags → Type 0 = λ z. Moved most z tags u in
    let k = subst P (sym f.is) m in
    record { width = k.width; height = k.height; rate = one_moves (SaysRatio 4294967295) t.rate f.x value (values_of 70 tags) u.rate f.none f.said k.rate; structure = k.structure; aspect = k.aspect; chroma = k.chroma; range = k.range }

back_structure : (most : ℕ) (t : Tags) (value : List ℕ) (tags : List (List ℕ)) (next u : Tags) → Back most t value tags next u 73
unfolding tagged
back_structure most t value tags next u h m =
    let f = answer_told t.structure (structure_of value) (λ n. record t { structure = Some n }) next h in
    let P : Tags → Type 0 = λ z. Moved most z tags u in
    let k = subst P (sym f.is) m in
    record { width = k.width; height = k.height; rate = k.rate; structure = one_moves SaysStructure t.structure f.x value (values_of 73 tags) u.structure f.none f.said k.structure; aspect = k.aspect; chroma = k.chroma; range = k.range }

back_aspect : (most : ℕ) (t : Tags) (value : List ℕ) (tags : List (List ℕ)) (next u : Tags) → Back most t value tags next u 65
unfolding tagged
back_aspect most t value tags next u h m =
    let f = first_told t.aspect (ratio_of 65535 value) fault.Tag (λ n. record t { aspect = Some n }) next h in
    let P : Tags → Type 0 = λ z. Moved most z tags u in
    let k = subst P (sym f.is) m in
    record { width = k.width; height = k.height; rate = k.rate; structure = k.structure; aspect = one_moves (SaysRatio 65535) t.aspect f.x value (values_of 65 tags) u.aspect f.none f.said k.aspect; chroma = k.chroma; range = k.range }

back_chroma : (most : ℕ) (t : Tags) (value : List ℕ) (tags : List (List ℕ)) (next u : Tags) → Back most t value tags next u 67
unfolding tagged
back_chroma most t value tags next u h m =
    let f = first_told t.chroma (chroma_of most value) fault.Unsupported (λ n. record t { chroma = Some n }) next h in
    let P : Tags → Type 0 = λ z. Moved most z tags u in
    let k = subst P (sym f.is) m in
    record { width = k.width; height = k.height; rate = k.rate; structure = k.structure; aspect = k.aspect; chroma = one_moves (SaysUpTo most) t.chroma f.x value (values_of 67 tags) u.chroma f.none f.said k.chroma; range = k.range }

-- a range that a tag X says, or none
range_back : (most : ℕ) (old : Option Range) (value : List ℕ) (values : List (List ℕ)) (new r last : Option Range) → range_of (nat_lt 8 most) value ≡ new → next_range old new ≡ Ok r → Moves (SaysRange most) r values last → Moves (SaysRange most) old (onto_ranging value new values) last
range_back most old value values None r last is e m = subst (λ z. Moves (SaysRange most) z values last) (sym (ap (ok_in r) e)) m
range_back most None value values (Some x) r last is e m =
    one_moves (SaysRange most) None x value values last refl is (subst (λ z. Moves (SaysRange most) z values last) (sym (ap (ok_in r) e)) m)
range_back most (Some y) value values (Some x) r last is e m = absurd (true≢false (ap is_fault e))

back_comment : (most : ℕ) (t : Tags) (value : List ℕ) (tags : List (List ℕ)) (next u : Tags) → Back most t value tags next u 88
unfolding tagged
back_comment most t value tags next u h m =
    let b = bound (next_range t.range (range_of (nat_lt 8 most) value)) (λ r. Ok (record t { range = r })) next h in
    let P : Tags → Type 0 = λ z. Moved most z tags u in
    let k = subst P (sym (ap (ok_in t) b.goes_on)) m in
    let range = range_back most t.range value (ranging (nat_lt 8 most) (values_of 88 tags)) (range_of (nat_lt 8 most) value) b.x u.range refl b.begins k.range in
    record { width = k.width; height = k.height; rate = k.rate; structure = k.structure; aspect = k.aspect; chroma = k.chroma; range = range }

back : (most : ℕ) (t : Tags) (value : List ℕ) (tags : List (List ℕ)) (next u : Tags) (letter : ℕ) → is_letter letter ≡ true → Back most t value tags next u letter
back most t value tags next u letter known =
    by_letter (λ c. Back most t value tags next u c) letter known
    (back_width most t value tags next u) (back_height most t value tags next u) (back_rate most t value tags next u) (back_structure most t value tags next u) (back_aspect most t value tags next u) (back_chroma most t value tags next u) (back_comment most t value tags next u)

known_by : (a b c d e f g : Bool) (p q r s t u v : Result Tags Fault) (k : Fault) (next : Tags) → cond a p (cond b q (cond c r (cond d s (cond e t (cond f u (cond g v (Err k))))))) ≡ Ok next →
    a || (b || (c || (d || (e || (f || g))))) ≡ true
known_by true b c d e f g p q r s t u v k next h = refl
known_by false true c d e f g p q r s t u v k next h = refl
known_by false false true d e f g p q r s t u v k next h = refl
known_by false false false true e f g p q r s t u v k next h = refl
known_by false false false false true f g p q r s t u v k next h = refl
known_by false false false false false true g p q r s t u v k next h = refl
known_by false false false false false false true p q r s t u v k next h = refl
known_by false false false false false false false p q r s t u v k next h = absurd (true≢false (ap is_fault h))

known : (most : ℕ) (t : Tags) (letter : ℕ) (value : List ℕ) (next : Tags) → tagged most t letter value ≡ Ok next → is_letter letter ≡ true
unfolding tagged
known most t letter value next h =
    known_by (letter == 87) (letter == 72) (letter == 70) (letter == 73) (letter == 65) (letter == 67) (letter == 88) _ _ _ _ _ _ _ fault.Tag next h

record AllTold (most : ℕ) (t : Tags) (tags : List (List ℕ)) (u : Tags) : Type 0 where
  are : AreTags tags
  moved : Moved most t tags u

none_moved : (most : ℕ) (t u : Tags) → t ≡ u → Moved most t [] u
none_moved most t u e =
    record { width = ap (λ z. z.width) (sym e); height = ap (λ z. z.height) (sym e); rate = ap (λ z. z.rate) (sym e); structure = ap (λ z. z.structure) (sym e); aspect = ap (λ z. z.aspect) (sym e); chroma = ap (λ z. z.chroma) (sym e); range = ap (λ z. z.range) (sym e) }

all_only : (most : ℕ) (tags : List (List ℕ)) (t u : Tags) → AreSpaceless tags → all_judged most t tags ≡ Ok u → AllTold most t tags u
all_only most [] t u plain h = record { are = tt; moved = none_moved most t u (ap (ok_in t) h) }
all_only most ([] ∷ tags) t u plain h = absurd (true≢false (ap is_fault h))
all_only most ((letter ∷ value) ∷ tags) t u plain h =
    let b = bound (tagged most t letter value) (λ z. all_judged most z tags) u h in
    let more = all_only most tags b.x u plain.1 b.goes_on in
    let letters = known most t letter value b.x b.begins in
    record { are = (letters, plain.0, more.are); moved = back most t value tags b.x u letter letters b.begins more.moved }

-- chroma of a name, if its depth is read, and the other way round
up_by : (most : ℕ) (c d : Chroma) (b : Bool) → nat_le c.depth most ≡ b → cond b (Some c) None ≡ Some d → (c ≡ d) × (c.depth ≤ most)
up_by most c d true test h = (ap (some_in d) h, leb-true c.depth most test)
up_by most c d false test h = absurd (false≢true (ap is_some h))

named_by : (most : ℕ) (named : Option Chroma) (d : Chroma) → option_and_then (up_to most) named ≡ Some d → (named ≡ Some d) × (d.depth ≤ most)
named_by most None d h = absurd (false≢true (ap is_some h))
named_by most (Some c) d h =
    let both = up_by most c d (nat_le c.depth most) refl h in
    (ap (λ z. Some z) both.0, subst (λ (z : Chroma). z.depth ≤ most) both.0 both.1)

capped : (most : ℕ) (value : List ℕ) (c : Chroma) → SaysChroma most value c → c.depth ≤ most → SaysUpTo most value c
capped most value c said small = rw (said, le-leb c.depth most small) refl

all_capped : (most : ℕ) (d c : Chroma) (values : List (List ℕ)) → AtMostOnce (SaysChroma most) d values c → c.depth ≤ most → AtMostOnce (SaysUpTo most) d values c
all_capped most d c [] h small = h
all_capped most d c (value ∷ []) h small = capped most value c h small
all_capped most d c (value ∷ second ∷ more) h small = absurd h

all_named : (most : ℕ) (d c : Chroma) (values : List (List ℕ)) → AtMostOnce (SaysUpTo most) d values c → AtMostOnce (SaysChroma most) d values c × (d.depth ≤ most → c.depth ≤ most)
all_named most d c [] h = (h, λ small. subst (λ (z : Chroma). z.depth ≤ most) (sym h) small)
all_named most d c (value ∷ []) h = let both = named_by most (chroma_named (nat_lt 8 most) value) c h in (both.0, λ small. both.1)
all_named most d c (value ∷ second ∷ more) h = absurd h

-- what is said once
once_of : {X : Type 0} (says : List ℕ → X → Type 0) (values : List (List ℕ)) (new : Option X) (x : X) → Moves says None values new → new ≡ Some x → Once says values x
once_of says [] new x h e = absurd (false≢true (ap is_some (sym h ∙ e)))
once_of says (value ∷ []) new x h e = subst (says value) (ap (some_in x) (sym h.2 ∙ e)) h.1
once_of says (value ∷ second ∷ more) new x h e = h

most_of : {X : Type 0} (says : List ℕ → X → Type 0) (d : X) (values : List (List ℕ)) (new : Option X) → Moves says None values new → AtMostOnce says d values (or_else new d)
most_of says d [] new h = ap (λ o. or_else o d) h
most_of says d (value ∷ []) new h = subst (says value) (ap (λ o. or_else o d) (sym h.2)) h.1
most_of says d (value ∷ second ∷ more) new h = h

abbrev option_of : {X : Type 0} → List (List ℕ) → X → Option X
option_of [] x = None
option_of (value ∷ more) x = Some x

once_moves : {X : Type 0} (says : List ℕ → X → Type 0) (values : List (List ℕ)) (x : X) → Once says values x → Moves says None values (Some x)
once_moves says [] x h = absurd h
once_moves says (value ∷ []) x h = (x, h, refl)
once_moves says (value ∷ second ∷ more) x h = h

most_moves : {X : Type 0} (says : List ℕ → X → Type 0) (d : X) (values : List (List ℕ)) (x : X) → AtMostOnce says d values x → Moves says None values (option_of values x)
most_moves says d [] x h = refl
most_moves says d (value ∷ []) x h = (x, h, refl)
most_moves says d (value ∷ second ∷ more) x h = h

most_else : {X : Type 0} (says : List ℕ → X → Type 0) (d : X) (values : List (List ℕ)) (x : X) → AtMostOnce says d values x → or_else (option_of values x) d ≡ x
most_else says d [] x h = sym h
most_else says d (value ∷ []) x h = refl
most_else says d (value ∷ second ∷ more) x h = absurd h

-- what is said once or not at all
moves_perhaps : {X : Type 0} (says : List ℕ → X → Type 0) (values : List (List ℕ)) (new : Option X) → Moves says None values new → Perhaps says values new
moves_perhaps says [] new h = h
moves_perhaps says (value ∷ []) new h = h
moves_perhaps says (value ∷ second ∷ more) new h = h

perhaps_moves : {X : Type 0} (says : List ℕ → X → Type 0) (values : List (List ℕ)) (new : Option X) → Perhaps says values new → Moves says None values new
perhaps_moves says [] new h = h
perhaps_moves says (value ∷ []) new h = h
perhaps_moves says (value ∷ second ∷ more) new h = h

-- words
pub spaced_words : (w : List ℕ) (ws : List (List ℕ)) → AreSpaceless (w ∷ ws) → words_of (w ++ spaced ws) ≡ w ∷ ws
spaced_words w [] plain = rw (append-nil w) (words_whole w plain.0)
spaced_words w (v ∷ ws) plain = words_front w (v ++ spaced ws) plain.0 ∙ ap (λ z. w ∷ z) (spaced_words v ws plain.1)

pub record WordsTold (xs : List ℕ) (words : List (List ℕ)) : Type 0 where
  pub plain : AreSpaceless words
  pub spells : spaced words ≡ 32 ∷ xs

abbrev is_cons : List ℕ → Bool
is_cons [] = false
is_cons (x ∷ xs) = true

onto_told : (c : ℕ) (xs : List ℕ) (words : List (List ℕ)) → (c == 32) ≡ false → WordsTold xs words → WordsTold (c ∷ xs) (onto_first c words)
onto_told c xs [] other t = absurd (false≢true (ap is_cons t.spells))
onto_told c xs (w ∷ ws) other t =
    record { plain = ((other, t.plain.0), t.plain.1); spells = ap (λ z. 32 ∷ c ∷ z) (ap (drop 1) t.spells) }

words_by : (b : Bool) (c : ℕ) (xs : List ℕ) → (c == 32) ≡ b → WordsTold xs (words_of xs) → WordsTold (c ∷ xs) (cond b ([] ∷ words_of xs) (onto_first c (words_of xs)))
words_by true c xs test t = record { plain = (tt, t.plain); spells = ap (λ z. 32 ∷ z) (t.spells ∙ ap (λ z. z ∷ xs) (sym (eqb-true c 32 test))) }
words_by false c xs test t = onto_told c xs (words_of xs) test t

pub words_told : (xs : List ℕ) → WordsTold xs (words_of xs)
words_told [] = record { plain = (tt, tt); spells = refl }
words_told (c ∷ xs) = words_by (c == 32) c xs refl (words_told xs)

are_plain : (tags : List (List ℕ)) → AreTags tags → AreSpaceless tags
are_plain [] are = tt
are_plain ([] ∷ tags) are = absurd are
are_plain ((letter ∷ value) ∷ tags) are = (are.1, are_plain tags are.2)

-- the line
line_by : (most : ℕ) (h : DeepHead) (tags : List (List ℕ)) (u : Tags) (line : List ℕ) → line ≡ codes "YUV4MPEG2" ++ spaced tags → AreTags tags → all_judged most no_tags tags ≡ Ok u → head_of_tags u ≡ Ok h → head_of_line most line ≡ Ok h
unfolding head_of_line head_of_tags
line_by most h [] u line e are judging is =
    let none : no_tags ≡ u = ap (ok_in u) judging in
    let P : Tags → Type 0 = λ z. head_of_tags z ≡ Ok h in
    absurd (true≢false (ap is_fault (subst P (sym none) is)))
line_by most h (w ∷ ws) u line e are judging is =
    rw e (rw (spaced_words w ws (are_plain (w ∷ ws) are)) (rw judging is))

tags_by : (depth : ℕ) (h : VideoHead) (rate : ℕ × ℕ) (structure : ℕ) (aspect : ℕ × ℕ) (chroma : Chroma) (range : Option Range) → rate ≡ (h.rate, h.scale) → structure ≡ h.structure → aspect ≡ (h.sar_num, h.sar_den) → chroma ≡ chroma_in depth h → range ≡ h.range →
    head_from (h.width, h.height) rate structure aspect chroma range ≡ record { head = h; depth = depth }
tags_by depth h rate structure aspect chroma range a b c d e = rw (a, b, c, d, e) refl

head_by : (depth : ℕ) (h : VideoHead) (u : Tags) → u.width ≡ Some h.width → u.height ≡ Some h.height → or_else u.rate (0, 0) ≡ (h.rate, h.scale) → or_else u.structure 0 ≡ h.structure → or_else u.aspect (0, 0) ≡ (h.sar_num, h.sar_den) →
    or_else u.chroma (chroma_planes 1 1) ≡ chroma_in depth h → u.range ≡ h.range → head_of_tags u ≡ Ok (record { head = h; depth = depth })
unfolding head_of_tags
head_by depth h u wide high rate structure aspect chroma range =
    rw (wide, high) (ap Ok (tags_by depth h (or_else u.rate (0, 0)) (or_else u.structure 0) (or_else u.aspect (0, 0)) (or_else u.chroma (chroma_planes 1 1)) u.range rate structure aspect chroma range))

pub line_found : (line : List ℕ) (most depth : ℕ) (h : VideoHead) → IsHeaderLine most line depth h → depth ≤ most → head_of_line most line ≡ Ok (record { head = h; depth = depth })
line_found line most depth h l small =
    let named : AtMostOnce (SaysUpTo most) (chroma_planes 1 1) (values_of 67 l.tags) (chroma_in depth h) = all_capped most (chroma_planes 1 1) (chroma_in depth h) (values_of 67 l.tags) l.chroma small in
    let u : Tags = record {
      width = Some h.width;
      height = Some h.height;
      rate = option_of (values_of 70 l.tags) (h.rate, h.scale);
      structure = option_of (values_of 73 l.tags) h.structure;
      aspect = option_of (values_of 65 l.tags) (h.sar_num, h.sar_den);
      chroma = option_of (values_of 67 l.tags) (chroma_in depth h);
      range = h.range;
    } in
    let moved : Moved most no_tags l.tags u = record {
      width = once_moves SaysSize (values_of 87 l.tags) h.width l.width;
      height = once_moves SaysSize (values_of 72 l.tags) h.height l.height;
      rate = most_moves (SaysRatio 4294967295) (0, 0) (values_of 70 l.tags) (h.rate, h.scale) l.rate;
      structure = most_moves SaysStructure 0 (values_of 73 l.tags) h.structure l.structure;
      aspect = most_moves (SaysRatio 65535) (0, 0) (values_of 65 l.tags) (h.sar_num, h.sar_den) l.aspect;
      chroma = most_moves (SaysUpTo most) (chroma_planes 1 1) (values_of 67 l.tags) (chroma_in depth h) named;
      range = perhaps_moves (SaysRange most) (ranging (nat_lt 8 most) (values_of 88 l.tags)) h.range l.range;
    } in
    let head = head_by depth h u refl refl (most_else (SaysRatio 4294967295) (0, 0) (values_of 70 l.tags) (h.rate, h.scale) l.rate) (most_else SaysStructure 0 (values_of 73 l.tags) h.structure l.structure)
    (most_else (SaysRatio 65535) (0, 0) (values_of 65 l.tags) (h.sar_num, h.sar_den) l.aspect) (most_else (SaysUpTo most) (chroma_planes 1 1) (values_of 67 l.tags) (chroma_in depth h) named) refl in
    line_by most (record { head = h; depth = depth }) l.tags u line l.spelled l.are (all_found l.tags most no_tags u l.are moved) head

-- the other way round
record HeadTold (u : Tags) (h : DeepHead) : Type 0 where
  w : ℕ
  k : ℕ
  wide : u.width ≡ Some w
  high : u.height ≡ Some k
  is : head_from (w, k) (or_else u.rate (0, 0)) (or_else u.structure 0) (or_else u.aspect (0, 0)) (or_else u.chroma (chroma_planes 1 1)) u.range ≡ h

sizes_told : (u : Tags) (wide high : Option ℕ) (h : DeepHead) → u.width ≡ wide → u.height ≡ high →
    (present wide >>= λ w. present high >>= λ k. Ok (head_from (w, k) (or_else u.rate (0, 0)) (or_else u.structure 0) (or_else u.aspect (0, 0)) (or_else u.chroma (chroma_planes 1 1)) u.range)) ≡ Ok h → HeadTold u h
sizes_told u None high h p q e = absurd (true≢false (ap is_fault e))
sizes_told u (Some w) None h p q e = absurd (true≢false (ap is_fault e))
sizes_told u (Some w) (Some k) h p q e = record { w = w; k = k; wide = p; high = q; is = ap (ok_in h) e }

head_told : (u : Tags) (h : DeepHead) → head_of_tags u ≡ Ok h → HeadTold u h
unfolding head_of_tags
head_told u h e = sizes_told u u.width u.height h refl refl e

-- a line says this depth, which is read, and this head
abbrev pub Said : ℕ → List ℕ → DeepHead → Type 0
Said most line h = IsHeaderLine most line h.depth h.head × (8 ≤ most → h.depth ≤ most)

words_line : (most : ℕ) (line : List ℕ) (h : DeepHead) (words : List (List ℕ)) (u : Tags) → line ≡ codes "YUV4MPEG2" ++ spaced words → AllTold most no_tags words u → HeadTold u h → Said most line h
words_line most line h words u spelled t k =
    let m = t.moved in
    let named = all_named most (chroma_planes 1 1) (or_else u.chroma (chroma_planes 1 1)) (values_of 67 words) (most_of (SaysUpTo most) (chroma_planes 1 1) (values_of 67 words) u.chroma m.chroma) in
    let P : DeepHead → Type 0 = λ z. Said most line z in
    subst P k.is (
      (record {
        tags = words;
        are = t.are;
        spelled = spelled;
        width = once_of SaysSize (values_of 87 words) u.width k.w m.width k.wide;
        height = once_of SaysSize (values_of 72 words) u.height k.k m.height k.high;
        rate = most_of (SaysRatio 4294967295) (0, 0) (values_of 70 words) u.rate m.rate;
        structure = most_of SaysStructure 0 (values_of 73 words) u.structure m.structure;
        aspect = most_of (SaysRatio 65535) (0, 0) (values_of 65 words) u.aspect m.aspect;
        chroma = named.0;
        range = moves_perhaps (SaysRange most) (ranging (nat_lt 8 most) (values_of 88 words)) u.range m.range;
      }),
      named.1,
    )

only_by : (most : ℕ) (a b : Bool) (line : List ℕ) (h : DeepHead) → is_text (take 10 line) (codes "YUV4MPEG2 ") ≡ b →
    cond a (Err fault.Tag) (cond b (all_judged most no_tags (words_of (drop 10 line)) >>= head_of_tags) (Err fault.Header)) ≡ Ok h → Said most line h
only_by most true b line h test e = absurd (true≢false (ap is_fault e))
only_by most false false line h test e = absurd (true≢false (ap is_fault e))
only_by most false true line h test e =
    let words = words_of (drop 10 line) in
    let t = words_told (drop 10 line) in
    let b = bound (all_judged most no_tags (words_of (drop 10 line))) head_of_tags h e in
    let front : take 10 line ≡ codes "YUV4MPEG2 " = same_text _ _ (sym test) in
    let spelled : line ≡ codes "YUV4MPEG2" ++ spaced (words_of (drop 10 line)) = sym (take-append-drop 10 line) ∙ (ap (λ z. z ++ drop 10 line) front ∙ ap (λ z. codes "YUV4MPEG2" ++ z) (sym t.spells)) in
    words_line most line h words b.x spelled (all_only most words no_tags b.x t.plain b.begins) (head_told b.x h b.goes_on)

pub line_only : (line : List ℕ) (most : ℕ) (h : DeepHead) → head_of_line most line ≡ Ok h → Said most line h
unfolding head_of_line
line_only line most h e = only_by most (is_text line (codes "YUV4MPEG2")) (is_text (take 10 line) (codes "YUV4MPEG2 ")) line h refl e
