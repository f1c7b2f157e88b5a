-- What a header reads as is a fault of its text: no failed read, no want of memory.
use Rattle.std.proofs.Common.{ℕ, Bool, true, false, cond, Option, Some, None, List, [], ◌∷◌, ◌≤◌, nat_lt, drop, length, Result, Ok, Err, inl, refl, arith}
use Rattle.ffv1_y4m.specs.declared.fault.Fault.{Fault}
use Rattle.ffv1_y4m.specs.declared.fault.Fault.TheVariants as fault
use Rattle.ffv1_y4m.specs.declared.head.DeepHead.{DeepHead}
use Rattle.ffv1_y4m.specs.declared.tags.Tags.{Tags}
use Rattle.ffv1_y4m.specs.declared.head.Range.{Range}
use Rattle.ffv1_y4m.specs.Sequence.{◌>>=◌}
use Rattle.ffv1_y4m.specs.Header.{first_value, first_answer, structure_of, tagged, judged, words_of, all_judged, no_tags, present, head_of_tags, head_of_line, next_range, range_of, size_of, ratio_of, chroma_of}
use Rattle.ffv1_y4m.specs.State.{IsHeaderFault, OnFault}
use Rattle.ffv1_y4m.specs.Sequence.{judge, left}
use Rattle.ffv1_y4m.specs.Reads.{Nowhere, Says, Stands}
use Rattle.ffv1_y4m.proofs.Sequences.{Shortens, consumes_none, moved}

-- a fault of the text
abbrev pub IsTextual : Fault → Type 0
IsTextual fault.Header = Unit {0}
IsTextual fault.Tag = Unit {0}
IsTextual fault.Unsupported = Unit {0}
IsTextual f = ⊥

abbrev pub HasTextual : {X : Type 0} → Result X Fault → Type 0
HasTextual (Ok x) = Unit {0}
HasTextual (Err f) = IsTextual f

pub record Textual {X : Type 0} (r : Result X Fault) : Type 0 where
  pub fault : HasTextual r

textual_ok : {X : Type 0} (x : X) → Textual {X = X} (Ok x)
textual_ok x = record { fault = tt }

textual_next : {X Y : Type 0} (r : Result X Fault) (next : X → Result Y Fault) → Textual r → ((x : X) → Textual (next x)) → Textual (r >>= next)
textual_next (Ok x) next h k = k x
textual_next (Err f) next h k = record { fault = h.fault }

textual_cond : {X : Type 0} (b : Bool) (r s : Result X Fault) → Textual r → Textual s → Textual (cond b r s)
textual_cond true r s h k = h
textual_cond false r s h k = k

textual_first : {X Y : Type 0} (old : Option X) (new : Option Y) (f : Fault) → IsTextual f → Textual (first_value old new f)
textual_first (Some x) new f h = record { fault = tt }
textual_first None None f h = record { fault = h }
textual_first None (Some y) f h = record { fault = tt }

textual_answer : {X Y : Type 0} (old : Option X) (new : Result Y Fault) → Textual new → Textual (first_answer old new)
textual_answer (Some x) new h = record { fault = tt }
textual_answer None new h = h

textual_range : (old new : Option Range) → Textual (next_range old new)
textual_range old None = record { fault = tt }
textual_range None (Some r) = record { fault = tt }
textual_range (Some s) (Some r) = record { fault = tt }

textual_structure : (value : List ℕ) → Textual (structure_of value)
unfolding structure_of
textual_structure value =
    let tag : Textual {X = ℕ} (Err fault.Tag) = record { fault = tt } in
    let unsupported : Textual {X = ℕ} (Err fault.Unsupported) = record { fault = tt } in
    textual_cond _ _ _ (textual_ok 3) (textual_cond _ _ _ (textual_ok 1) (textual_cond _ _ _ (textual_ok 2) (textual_cond _ _ _ (textual_ok 0) (textual_cond _ _ _ unsupported tag))))

textual_tagged : (most : ℕ) (t : Tags) (letter : ℕ) (value : List ℕ) → Textual (tagged most t letter value)
unfolding tagged
textual_tagged most t letter value =
    let tag : Textual {X = Tags} (Err fault.Tag) = record { fault = tt } in
    textual_cond _ _ _ (textual_next _ _ (textual_first t.width (size_of value) fault.Tag tt) (λ n. textual_ok _))
    (textual_cond _ _ _ (textual_next _ _ (textual_first t.height (size_of value) fault.Tag tt) (λ n. textual_ok _))
    (textual_cond _ _ _ (textual_next _ _ (textual_first t.rate (ratio_of 4294967295 value) fault.Tag tt) (λ n. textual_ok _))
    (textual_cond _ _ _ (textual_next _ _ (textual_answer t.structure (structure_of value) (textual_structure value)) (λ n. textual_ok _))
    (textual_cond _ _ _ (textual_next _ _ (textual_first t.aspect (ratio_of 65535 value) fault.Tag tt) (λ n. textual_ok _))
    (textual_cond _ _ _ (textual_next _ _ (textual_first t.chroma (chroma_of most value) fault.Unsupported tt) (λ n. textual_ok _))
    (textual_cond _ _ _ (textual_next _ _ (textual_range t.range (range_of (nat_lt 8 most) value)) (λ r. textual_ok _)) tag))))))

textual_judged : (most : ℕ) (t : Tags) (word : List ℕ) → Textual (judged most t word)
textual_judged most t [] = record { fault = tt }
textual_judged most t (letter ∷ value) = textual_tagged most t letter value

textual_all : (most : ℕ) (t : Tags) (words : List (List ℕ)) → Textual (all_judged most t words)
textual_all most t [] = record { fault = tt }
textual_all most t (word ∷ words) = textual_next (judged most t word) (λ u. all_judged most u words) (textual_judged most t word) (λ u. textual_all most u words)

textual_present : (n : Option ℕ) → Textual (present n)
textual_present None = record { fault = tt }
textual_present (Some n) = record { fault = tt }

textual_head : (t : Tags) → Textual (head_of_tags t)
unfolding head_of_tags
textual_head t = textual_next _ _ (textual_present t.width) (λ w. textual_next _ _ (textual_present t.height) (λ h. textual_ok _))

pub textual_line : (most : ℕ) (line : List ℕ) → Textual (head_of_line most line)
unfolding head_of_line
textual_line most line =
    let tag : Textual {X = DeepHead} (Err fault.Tag) = record { fault = tt } in
    let header : Textual {X = DeepHead} (Err fault.Header) = record { fault = tt } in
    textual_cond _ _ _ tag (textual_cond _ _ _ (textual_next (all_judged most no_tags (words_of (drop 10 line))) head_of_tags (textual_all most no_tags (words_of (drop 10 line))) textual_head) header)

-- the answer of a header's line, of no byte
said_line : (r : Result DeepHead Fault) (old : Option (List ℕ)) (n : ℕ) → HasTextual r → Says (judge r) Nowhere [] (moved old old n n) r
said_line (Ok h) old n t = (refl, inl (λ behind. refl))
said_line (Err fault.Header) old n t = (refl, inl (λ behind. refl))
said_line (Err fault.Tag) old n t = (refl, inl (λ behind. refl))
said_line (Err fault.Unsupported) old n t = (refl, inl (λ behind. refl))
said_line (Err f) old n t = absurd t

pub stands_line : (r : Result DeepHead Fault) (old : Option (List ℕ)) (n : ℕ) → Textual r → Stands (judge r) Nowhere (moved old old n n) r
stands_line r old n t = record { bytes = []; taken = consumes_none old; said = said_line r old n t.fault }

own_line : (r : Result DeepHead Fault) → HasTextual r → OnFault IsHeaderFault r
own_line (Ok h) t = tt
own_line (Err fault.Header) t = tt
own_line (Err fault.Tag) t = tt
own_line (Err fault.Unsupported) t = tt
own_line (Err f) t = absurd t

-- a fault of the text is one of a header
pub header_fault : (r : Result DeepHead Fault) → Textual r → OnFault IsHeaderFault r
header_fault r t = own_line r t.fault

left_judged : {X : Type 0} (r : Result X Fault) (text : List ℕ) → length (left (judge r text)) ≤ length text
left_judged (Ok x) text = omega arith
left_judged (Err f) text = omega arith

pub shortens_line : (most : ℕ) → Shortens (λ line. judge (head_of_line most line))
shortens_line most = λ line text. left_judged (head_of_line most line) text
