-- The first fault of tags is the one that judging them one by one meets.
use Rattle.std.proofs.Common.{◌≡◌, ℕ, ◌+◌, ◌==◌, ◌||◌, ◌&&◌, not, suc, Bool, true, false, cond, Option, Some, None, List, [], ◌∷◌, ◌++◌, append-nil, nat_lt, length, Result, Ok, Err, inl, inr, refl, ap, ◌∙◌, sym, arith}
use Rattle.std.proofs.lemmas.Bool.{true≢false, false≢true}
use Rattle.ffv1_y4m.specs.declared.fault.Fault.{Fault}
use Rattle.ffv1_y4m.specs.declared.fault.Fault.TheVariants as fault
use Rattle.ffv1_y4m.specs.declared.head.DeepHead.{DeepHead}
use Rattle.ffv1_y4m.specs.declared.tags.Tags.{Tags}
use Rattle.ffv1_y4m.specs.declared.head.Range.{Range}
use Rattle.ffv1_y4m.specs.Sequence.{◌>>=◌}
use Rattle.ffv1_y4m.specs.Header.{all_judged, chroma_of, chroma_planes, first_answer, first_value, head_from, head_of_tags, judged, next_range, no_tags, or_else, range_of, present, ratio_of, size_of, structure_of, tagged}
use Rattle.ffv1_y4m.specs.HeaderLine.{is_letter, onto_ranging, ranging, values_of}
use Rattle.ffv1_y4m.specs.FirstFaults.{TagsFault, is_second_range, is_there, refusal_of, tag_fault, unless, value_fault}
use Rattle.ffv1_y4m.proofs.AnswerParts.{is_fault, is_some, some_in}
use Rattle.ffv1_y4m.proofs.HeaderTags.{by_letter}

-- what was said of tags is what their letters say
pub record Holds (most : ℕ) (t : Tags) (before : List (List ℕ)) : Type 0 where
  pub width : is_there (values_of 87 before) ≡ is_some t.width
  pub height : is_there (values_of 72 before) ≡ is_some t.height
  pub rate : is_there (values_of 70 before) ≡ is_some t.rate
  pub structure : is_there (values_of 73 before) ≡ is_some t.structure
  pub aspect : is_there (values_of 65 before) ≡ is_some t.aspect
  pub chroma : is_there (values_of 67 before) ≡ is_some t.chroma
  pub range : is_there (ranging (nat_lt 8 most) (values_of 88 before)) ≡ is_some t.range

pub none_held : (most : ℕ) → Holds most no_tags []
none_held most = record { width = refl; height = refl; rate = refl; structure = refl; aspect = refl; chroma = refl; range = refl }

there_if : (b : Bool) (v : List ℕ) (vs : List (List ℕ)) → is_there vs ≡ true → is_there (cond b (v ∷ vs) vs) ≡ true
there_if true v vs h = refl
there_if false v vs h = h

there_own : (letter : ℕ) (value : List ℕ) (before : List (List ℕ)) → is_there (values_of letter (before ++ (letter ∷ value) ∷ [])) ≡ true
there_own letter value [] =
    let same : (letter == letter) ≡ true = grind arith in
    rw same refl
there_own letter value ([] ∷ before) = there_own letter value before
there_own letter value ((c ∷ v) ∷ before) = there_if (c == letter) v (values_of letter (before ++ (letter ∷ value) ∷ [])) (there_own letter value before)

there_other : (letter c : ℕ) (value : List ℕ) (before : List (List ℕ)) → (c == letter) ≡ false → values_of letter (before ++ (c ∷ value) ∷ []) ≡ values_of letter before
there_other letter c value [] other = rw other refl
there_other letter c value ([] ∷ before) other = there_other letter c value before other
there_other letter c value ((d ∷ v) ∷ before) other = ap (λ z. cond (d == letter) (v ∷ z) z) (there_other letter c value before other)

-- a tag of another letter leaves what is said
kept : (letter c : ℕ) (value : List ℕ) (before : List (List ℕ)) (said : Bool) → (c == letter) ≡ false → is_there (values_of letter before) ≡ said → is_there (values_of letter (before ++ (c ∷ value) ∷ [])) ≡ said
kept letter c value before said other h = ap (λ (z : List (List ℕ)). is_there z) (there_other letter c value before other) ∙ h

kept_range : (most c : ℕ) (value : List ℕ) (before : List (List ℕ)) (said : Bool) → (c == 88) ≡ false → is_there (ranging (nat_lt 8 most) (values_of 88 before)) ≡ said → is_there (ranging (nat_lt 8 most) (values_of 88 (before ++ (c ∷ value) ∷ []))) ≡ said
kept_range most c value before said other h = ap (λ (z : List (List ℕ)). is_there (ranging (nat_lt 8 most) z)) (there_other 88 c value before other) ∙ h

-- the ranges of one tag X more
last_if : (b : Bool) (v value : List ℕ) (xs ys : List (List ℕ)) → xs ≡ ys ++ value ∷ [] → cond b (v ∷ xs) xs ≡ cond b (v ∷ ys) ys ++ value ∷ []
last_if true v value xs ys e = ap (λ z. v ∷ z) e
last_if false v value xs ys e = e

values_last : (value : List ℕ) (before : List (List ℕ)) → values_of 88 (before ++ (88 ∷ value) ∷ []) ≡ values_of 88 before ++ value ∷ []
values_last value [] = refl
values_last value ([] ∷ before) = values_last value before
values_last value ((c ∷ v) ∷ before) = last_if (c == 88) v value (values_of 88 (before ++ (88 ∷ value) ∷ [])) (values_of 88 before) (values_last value before)

onto_append : (v : List ℕ) (o : Option Range) (xs ys zs : List (List ℕ)) → xs ≡ ys ++ zs → onto_ranging v o xs ≡ onto_ranging v o ys ++ zs
onto_append v None xs ys zs e = e
onto_append v (Some r) xs ys zs e = ap (λ z. v ∷ z) e

ranging_last : (deep : Bool) (value : List ℕ) (new : Option Range) (values : List (List ℕ)) → range_of deep value ≡ new → ranging deep (values ++ value ∷ []) ≡ ranging deep values ++ onto_ranging value new []
ranging_last deep value new [] is = rw is refl
ranging_last deep value new (v ∷ values) is = onto_append v (range_of deep v) (ranging deep (values ++ value ∷ [])) (ranging deep values) (onto_ranging value new []) (ranging_last deep value new values is)

there_end : (xs : List (List ℕ)) (v : List ℕ) → is_there (xs ++ v ∷ []) ≡ true
there_end [] v = refl
there_end (x ∷ xs) v = refl

same_ok : {X : Type 0} (x y : X) → ◌≡◌ {A = Result X Fault} (Ok x) (Ok y) → x ≡ y
same_ok x y e = cc

range_there : (deep : Bool) (value : List ℕ) (values : List (List ℕ)) (old new r : Option Range) → range_of deep value ≡ new → is_there (ranging deep values) ≡ is_some old → next_range old new ≡ Ok r → is_there (ranging deep (values ++ value ∷ [])) ≡ is_some r
range_there deep value values old None r is h e =
    let more : ranging deep (values ++ value ∷ []) ≡ ranging deep values = ranging_last deep value None values is ∙ append-nil (ranging deep values) in
    ap (λ z. is_there z) more ∙ (h ∙ ap (λ z. is_some z) (same_ok old r e))
range_there deep value values None (Some x) r is h e =
    ap (λ z. is_there z) (ranging_last deep value (Some x) values is) ∙ (there_end (ranging deep values) value ∙ ap (λ z. is_some z) (same_ok (Some x) r e))
range_there deep value values (Some y) (Some x) r is h e = absurd (true≢false (ap is_fault e))

-- an answer and a fault are the same
abbrev pub Agrees : Result Tags Fault → Option Fault → (Tags → Type 0) → Type 0
Agrees (Ok u) o P = (o ≡ None) × P u
Agrees (Err f) o P = o ≡ Some f

first_agrees : {X : Type 0} (old new : Option X) (f : Fault) (set : X → Tags) (P : Tags → Type 0) (there : Bool) → there ≡ is_some old → ((x : X) → P (set x)) → Agrees (first_value old new f >>= λ x. Ok (set x)) (cond there (Some fault.Tag) (unless new f)) P
first_agrees (Some y) new f set P there e p = rw e refl
first_agrees None None f set P there e p = rw e refl
first_agrees None (Some x) f set P there e p = (rw e refl, p x)

answer_agrees : {X : Type 0} (old : Option X) (new : Result X Fault) (set : X → Tags) (P : Tags → Type 0) (there : Bool) → there ≡ is_some old → ((x : X) → P (set x)) → Agrees (first_answer old new >>= λ x. Ok (set x)) (cond there (Some fault.Tag) (refusal_of new)) P
answer_agrees (Some y) new set P there e p = rw e refl
answer_agrees None (Err f) set P there e p = rw e refl
answer_agrees None (Ok x) set P there e p = (rw e refl, p x)

range_agrees : (old new : Option Range) (value : List ℕ) (set : Option Range → Tags) (P : Tags → Type 0) (there : Bool) → there ≡ is_some old → ((r : Option Range) → next_range old new ≡ Ok r → P (set r)) →
    Agrees (next_range old new >>= λ r. Ok (set r)) (cond ((is_there (onto_ranging value new []) && there) || false) (Some fault.Tag) None) P
range_agrees old None value set P there e p = (refl, p old refl)
range_agrees None (Some x) value set P there e p = (rw e refl, p (Some x) refl)
range_agrees (Some y) (Some x) value set P there e p = rw e refl

abbrev Steps : ℕ → Tags → List (List ℕ) → List ℕ → ℕ → Type 0
Steps most t before value letter = Agrees (judged most t (letter ∷ value)) (tag_fault most before (letter ∷ value)) (λ u. Holds most u (before ++ (letter ∷ value) ∷ []))

step_width : (most : ℕ) (t : Tags) (before : List (List ℕ)) (value : List ℕ) → Holds most t before → Steps most t before value 87
unfolding tagged
step_width most t before value h = first_agrees t.width (size_of value) fault.Tag (λ n. record t { width = Some n }) (λ u. Holds most u (before ++ (87 ∷ value) ∷ [])) (is_there (values_of 87 before)) h.width
    (λ n. record { width = there_own 87 value before; height = kept 72 87 value before _ refl h.height; rate = kept 70 87 value before _ refl h.rate; structure = kept 73 87 value before _ refl h.structure; aspect = kept 65 87 value before _ refl h.aspect; chroma = kept 67 87 value before _ refl h.chroma; range = kept_range most 87 value before _ refl h.range })

step_height : (most : ℕ) (t : Tags) (before : List (List ℕ)) (value : List ℕ) → Holds most t before → Steps most t before value 72
unfolding tagged
step_height most t before value h = first_agrees t.height (size_of value) fault.Tag (λ n. record t { height = Some n }) (λ u. Holds most u (before ++ (72 ∷ value) ∷ [])) (is_there (values_of 72 before)) h.height
    (λ n. record { width = kept 87 72 value before _ refl h.width; height = there_own 72 value before; rate = kept 70 72 value before _ refl h.rate; structure = kept 73 72 value before _ refl h.structure; aspect = kept 65 72 value before _ refl h.aspect; chroma = kept 67 72 value before _ refl h.chroma; range = kept_range most 72 value before _ refl h.range })

step_rate : (most : ℕ) (t : Tags) (before : List (List ℕ)) (value : List ℕ) → Holds most t before → Steps most t before value 70
unfolding tagged
step_rate most t before value h = first_agrees t.rate (ratio_of 4294967295 value) fault.Tag (λ r. record t { rate = Some r }) (λ u. Holds most u (before ++ (70 ∷ value) ∷ [])) (is_there (values_of 70 before)) h.rate
    (λ r. record { width = kept 87 70 value before _ refl h.width; height = kept 72 70 value before _ refl h.height; rate = there_own 70 value before; structure = kept 73 70 value before _ refl h.structure; aspect = kept 65 70 value before _ refl h.aspect; chroma = kept 67 70 value before _ refl h.chroma; range = kept_range most 70 value before _ refl h.range })

step_structure : (most : ℕ) (t : Tags) (before : List (List ℕ)) (value : List ℕ) → Holds most t before → Steps most t before value 73
unfolding tagged
step_structure most t before value h = answer_agrees t.structure (structure_of value) (λ s. record t { structure = Some s }) (λ u. Holds most u (before ++ (73 ∷ value) ∷ [])) (is_there (values_of 73 before)) h.structure
    (λ s. record { width = kept 87 73 value before _ refl h.width; height = kept 72 73 value before _ refl h.height; rate = kept 70 73 value before _ refl h.rate; structure = there_own 73 value before; aspect = kept 65 73 value before _ refl h.aspect; chroma = kept 67 73 value before _ refl h.chroma; range = kept_range most 73 value before _ refl h.range })

step_aspect : (most : ℕ) (t : Tags) (before : List (List ℕ)) (value : List ℕ) → Holds most t before → Steps most t before value 65
unfolding tagged
step_aspect most t before value h = first_agrees t.aspect (ratio_of 65535 value) fault.Tag (λ r. record t { aspect = Some r }) (λ u. Holds most u (before ++ (65 ∷ value) ∷ [])) (is_there (values_of 65 before)) h.aspect
    (λ r. record { width = kept 87 65 value before _ refl h.width; height = kept 72 65 value before _ refl h.height; rate = kept 70 65 value before _ refl h.rate; structure = kept 73 65 value before _ refl h.structure; aspect = there_own 65 value before; chroma = kept 67 65 value before _ refl h.chroma; range = kept_range most 65 value before _ refl h.range })

step_chroma : (most : ℕ) (t : Tags) (before : List (List ℕ)) (value : List ℕ) → Holds most t before → Steps most t before value 67
unfolding tagged
step_chroma most t before value h = first_agrees t.chroma (chroma_of most value) fault.Unsupported (λ c. record t { chroma = Some c }) (λ u. Holds most u (before ++ (67 ∷ value) ∷ [])) (is_there (values_of 67 before)) h.chroma
    (λ c. record { width = kept 87 67 value before _ refl h.width; height = kept 72 67 value before _ refl h.height; rate = kept 70 67 value before _ refl h.rate; structure = kept 73 67 value before _ refl h.structure; aspect = kept 65 67 value before _ refl h.aspect; chroma = there_own 67 value before; range = kept_range most 67 value before _ refl h.range })

step_comment : (most : ℕ) (t : Tags) (before : List (List ℕ)) (value : List ℕ) → Holds most t before → Steps most t before value 88
unfolding tagged
step_comment most t before value h =
    range_agrees t.range (range_of (nat_lt 8 most) value) value (λ r. record t { range = r }) (λ u. Holds most u (before ++ (88 ∷ value) ∷ [])) (is_there (ranging (nat_lt 8 most) (values_of 88 before))) h.range
    (λ r is. record {
      width = kept 87 88 value before _ refl h.width;
      height = kept 72 88 value before _ refl h.height;
      rate = kept 70 88 value before _ refl h.rate;
      structure = kept 73 88 value before _ refl h.structure;
      aspect = kept 65 88 value before _ refl h.aspect;
      chroma = kept 67 88 value before _ refl h.chroma;
      range = ap (λ (z : List (List ℕ)). is_there (ranging (nat_lt 8 most) z)) (values_last value before) ∙ range_there (nat_lt 8 most) value (values_of 88 before) t.range (range_of (nat_lt 8 most) value) r refl h.range is;
    })

-- none of the letters
last_of : {X : Type 0} (a b c d e f g : Bool) (p q r s t u v w : X) → a || (b || (c || (d || (e || (f || g))))) ≡ false → cond a p (cond b q (cond c r (cond d s (cond e t (cond f u (cond g v w)))))) ≡ w
last_of true b c d e f g p q r s t u v w h = absurd (true≢false h)
last_of false true c d e f g p q r s t u v w h = absurd (true≢false h)
last_of false false true d e f g p q r s t u v w h = absurd (true≢false h)
last_of false false false true e f g p q r s t u v w h = absurd (true≢false h)
last_of false false false false true f g p q r s t u v w h = absurd (true≢false h)
last_of false false false false false true g p q r s t u v w h = absurd (true≢false h)
last_of false false false false false false true p q r s t u v w h = absurd (true≢false h)
last_of false false false false false false false p q r s t u v w h = refl

either : (b : Bool) (o : Option Fault) (f : Fault) → o ≡ Some f → cond b (Some f) o ≡ Some f
either true o f h = refl
either false o f h = h

refused_as : (r : Result Tags Fault) (o : Option Fault) (P : Tags → Type 0) (f : Fault) → r ≡ Err f → o ≡ Some f → Agrees r o P
refused_as r o P f e h = rw e h

step_unknown : (most : ℕ) (t : Tags) (before : List (List ℕ)) (value : List ℕ) (letter : ℕ) → is_letter letter ≡ false → Steps most t before value letter
unfolding tagged
step_unknown most t before value letter unknown =
    refused_as (judged most t (letter ∷ value)) (tag_fault most before (letter ∷ value)) (λ u. Holds most u (before ++ (letter ∷ value) ∷ [])) fault.Tag
    (last_of (letter == 87) (letter == 72) (letter == 70) (letter == 73) (letter == 65) (letter == 67) (letter == 88) _ _ _ _ _ _ _ (Err fault.Tag) unknown)
    (either (is_second_range most before letter value || (not (letter == 88) && is_there (values_of letter before))) (value_fault most letter value) fault.Tag
    (last_of (letter == 87) (letter == 72) (letter == 70) (letter == 73) (letter == 65) (letter == 67) (letter == 88) _ _ _ _ _ _ _ (Some fault.Tag) unknown))

step_by : (most : ℕ) (t : Tags) (before : List (List ℕ)) (value : List ℕ) (letter : ℕ) (b : Bool) → is_letter letter ≡ b → Holds most t before → Steps most t before value letter
step_by most t before value letter false unknown h = step_unknown most t before value letter unknown
step_by most t before value letter true known h =
    by_letter (Steps most t before value) letter known (step_width most t before value h) (step_height most t before value h) (step_rate most t before value h) (step_structure most t before value h) (step_aspect most t before value h) (step_chroma most t before value h) (step_comment most t before value h)

tag_agrees : (most : ℕ) (t : Tags) (before : List (List ℕ)) (tag : List ℕ) → Holds most t before → Agrees (judged most t tag) (tag_fault most before tag) (λ u. Holds most u (before ++ tag ∷ []))
tag_agrees most t before [] h = refl
tag_agrees most t before (letter ∷ value) h = step_by most t before value letter (is_letter letter) refl h

-- ---- the end of the line

abbrev head_with : Tags → ℕ → ℕ → DeepHead
head_with t w k = head_from (w, k) (or_else t.rate (0, 0)) (or_else t.structure 0) (or_else t.aspect (0, 0)) (or_else t.chroma (chroma_planes 1 1)) t.range

lacks_by : (t : Tags) (wide high : Option ℕ) (f : Fault) → (present wide >>= λ w. present high >>= λ k. Ok (head_with t w k)) ≡ Err f → ((is_some wide && is_some high) ≡ false) × (f ≡ fault.Tag)
lacks_by t None high f e = (refl, let both : ◌≡◌ {A = Result DeepHead Fault} (Err fault.Tag) (Err f) = e in cc)
lacks_by t (Some w) None f e = (refl, let both : ◌≡◌ {A = Result DeepHead Fault} (Err fault.Tag) (Err f) = e in cc)
lacks_by t (Some w) (Some k) f e = absurd (false≢true (ap is_fault e))

lacks_told : (t : Tags) (f : Fault) → head_of_tags t ≡ Err f → ((is_some t.width && is_some t.height) ≡ false) × (f ≡ fault.Tag)
unfolding head_of_tags
lacks_told t f e = lacks_by t t.width t.height f e

lacks_then : (t : Tags) (wide high : Option ℕ) → (is_some wide && is_some high) ≡ false → (present wide >>= λ w. present high >>= λ k. Ok (head_with t w k)) ≡ Err fault.Tag
lacks_then t None high e = refl
lacks_then t (Some w) None e = refl
lacks_then t (Some w) (Some k) e = absurd (true≢false e)

lacks_found : (t : Tags) → (is_some t.width && is_some t.height) ≡ false → head_of_tags t ≡ Err fault.Tag
unfolding head_of_tags
lacks_found t e = lacks_then t t.width t.height e

-- ---- all tags

same_err : {X : Type 0} (f g : Fault) → ◌≡◌ {A = Result X Fault} (Err f) (Err g) → f ≡ g
same_err f g e = cc

none_some : {X : Type 0} (x : X) (P : Type 0) → ◌≡◌ {A = Option X} None (Some x) → P
none_some x P e = absurd (false≢true (ap is_some e))

same_some : {X : Type 0} (x y : X) → ◌≡◌ {A = Option X} (Some x) (Some y) → x ≡ y
same_some x y e = ap (some_in x) e

abbrev pub judged_all : ℕ → Tags → List (List ℕ) → Result DeepHead Fault
judged_all most t tags = all_judged most t tags >>= head_of_tags

known_next : (most : ℕ) (before : List (List ℕ)) (tag : List ℕ) (tags : List (List ℕ)) (f : Fault) (r : Result Tags Fault) → Agrees r (tag_fault most before tag) (λ u. Holds most u (before ++ tag ∷ [])) →
    ((u : Tags) → Holds most u (before ++ tag ∷ []) → judged_all most u tags ≡ Err f → (n : ℕ) × TagsFault most (before ++ tag ∷ []) tags f n) → ((r >>= λ u. all_judged most u tags) >>= head_of_tags) ≡ Err f → (n : ℕ) × TagsFault most before (tag ∷ tags) f n
known_next most before tag tags f (Ok u) agrees more e =
    let m = more u agrees.1 e in
    (suc (length tag) + m.0, inr (agrees.0, m.0, m.1, refl))
known_next most before tag tags f (Err g) agrees more e = (1, inl (agrees ∙ ap (λ z. Some z) (same_err g f e), refl))

pub tags_known : (most : ℕ) (tags before : List (List ℕ)) (t : Tags) (f : Fault) → Holds most t before → judged_all most t tags ≡ Err f → (n : ℕ) × TagsFault most before tags f n
tags_known most [] before t f h e =
    let k = lacks_told t f e in
    (0, (rw (h.width, h.height) k.0, k.1, refl))
tags_known most (tag ∷ tags) before t f h e = known_next most before tag tags f (judged most t tag) (tag_agrees most t before tag h) (λ u held more. tags_known most tags (before ++ tag ∷ []) u f held more) e

found_next : (most : ℕ) (before : List (List ℕ)) (tag : List ℕ) (tags : List (List ℕ)) (f : Fault) (n : ℕ) (r : Result Tags Fault) → Agrees r (tag_fault most before tag) (λ u. Holds most u (before ++ tag ∷ [])) →
    ((u : Tags) (m : ℕ) → Holds most u (before ++ tag ∷ []) → TagsFault most (before ++ tag ∷ []) tags f m → judged_all most u tags ≡ Err f) → TagsFault most before (tag ∷ tags) f n → ((r >>= λ u. all_judged most u tags) >>= head_of_tags) ≡ Err f
found_next most before tag tags f n (Ok u) agrees more (inl (is, at)) = none_some f _ (sym agrees.0 ∙ is)
found_next most before tag tags f n (Ok u) agrees more (inr (none, m, fails, at)) = more u m agrees.1 fails
found_next most before tag tags f n (Err g) agrees more (inl (is, at)) = ap (λ z. Err z) (same_some g f (sym agrees ∙ is))
found_next most before tag tags f n (Err g) agrees more (inr (none, m, fails, at)) = none_some g _ (sym none ∙ agrees)

pub tags_found : (most : ℕ) (tags before : List (List ℕ)) (t : Tags) (f : Fault) (n : ℕ) → Holds most t before → TagsFault most before tags f n → judged_all most t tags ≡ Err f
tags_found most [] before t f n h (lacks, is, at) = lacks_found t (sym (rw (h.width, h.height) refl) ∙ lacks) ∙ ap (λ z. Err z) (sym is)
tags_found most (tag ∷ tags) before t f n h fails = found_next most before tag tags f n (judged most t tag) (tag_agrees most t before tag h) (λ u m held more. tags_found most tags (before ++ tag ∷ []) u f m held more) fails

-- there is one
pub tags_only : (most : ℕ) (tags before : List (List ℕ)) (f g : Fault) (m n : ℕ) → TagsFault most before tags f m → TagsFault most before tags g n → (f ≡ g) × (m ≡ n)
tags_only most [] before f g m n (a, b, c) (d, e, k) = (b ∙ sym e, c ∙ sym k)
tags_only most (tag ∷ tags) before f g m n (inl (is, at)) (inl (other, there)) = (same_some f g (sym is ∙ other), at ∙ sym there)
tags_only most (tag ∷ tags) before f g m n (inl (is, at)) (inr k) = none_some f _ (sym k.0 ∙ is)
tags_only most (tag ∷ tags) before f g m n (inr k) (inl (is, at)) = none_some g _ (sym k.0 ∙ is)
tags_only most (tag ∷ tags) before f g m n (inr (none, i, fails, at)) (inr (other, j, too, there)) =
    let on = tags_only most tags (before ++ tag ∷ []) f g i j fails too in
    (on.0, at ∙ (ap (λ z. suc (length tag) + z) on.1 ∙ sym there))
