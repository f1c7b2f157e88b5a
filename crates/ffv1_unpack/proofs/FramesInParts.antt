-- Frames in parts.
use Rattle.std.proofs.Common.{◌≡◌, refl, ℕ, suc, ◌+◌, Bool, true, false, Option, Some, None, Result, Ok, List, [], ◌∷◌, ◌++◌, length, map, ap, sym, subst, ◌∙◌, arith, append_assoc}
use Rattle.std.specs.Prelude.{flat_map}
use Rattle.ffv1_files.specs.Files.{frame_read}
use Rattle.ffv1_files.specs.Places.{Place}
use Rattle.ffv1_files.specs.declared.notes.Notes.{Notes}
use Rattle.ffv1_reads.specs.Head.{Head}
use Rattle.ffv1_reads.specs.Reads.{Stop}
use Rattle.ffv1_reads.proofs.Results.{ok_is}
use Rattle.ffv1_video.specs.declared.profile.Profile.{Profile}
use Rattle.ffv1_unpack.specs.Plays.{FileThen, FramesEnd, NextBehind, NextBehindBy, NextOver, has_more}
use Rattle.ffv1_unpack.specs.Ranges.{RangeThen}
use Rattle.ffv1_unpack.specs.Stream.{ReadsFrames}
use Rattle.ffv1_unpack.proofs.FileRead.{no_items}

-- a text of one after the other, by their numbers
pub text_in_parts : {X : Type 0} (from : ℕ → List X → List ℕ) (line : ℕ → X → List ℕ) → ((i : ℕ) → from i [] ≡ []) → ((i : ℕ) (x : X) (xs : List X) → from i (x ∷ xs) ≡ line i x ++ from (suc i) xs) →
    (i : ℕ) (xs ys : List X) → from i (xs ++ ys) ≡ from i xs ++ from (i + length xs) ys
text_in_parts from line none some i [] ys =
    let same : i ≡ i + 0 = omega arith in
    ap (λ n. from n ys) same ∙ ap (λ z. z ++ from (i + 0) ys) (sym (none i))
text_in_parts from line none some i (x ∷ xs) ys =
    let here = line i x in
    let same : suc i + length xs ≡ i + suc (length xs) = omega arith in
    some i x (xs ++ ys)
    ∙ ap (λ z. here ++ z) (text_in_parts from line none some (suc i) xs ys)
    ∙ sym (append_assoc here (from (suc i) xs) (from (suc i + length xs) ys))
    ∙ ap (λ z. z ++ from (suc i + length xs) ys) (sym (some i x xs))
    ∙ ap (λ n. from i (x ∷ xs) ++ from n ys) same

pub flat_in_parts : {X Y : Type 0} (f : Y → List ℕ) (g : X → Y) (xs ys : List X) → flat_map f (map g (xs ++ ys)) ≡ flat_map f (map g xs) ++ flat_map f (map g ys)
flat_in_parts f g [] ys = refl
flat_in_parts f g (x ∷ xs) ys = ap (λ z. f (g x) ++ z) (flat_in_parts f g xs ys) ∙ sym (append_assoc (f (g x)) (flat_map f (map g xs)) (flat_map f (map g ys)))

-- ---- payloads

-- the payload of a frame that may come next, the place behind it, and whether one comes
abbrev next_payload : Option (List ℕ × Place) → List ℕ
next_payload None = []
next_payload (Some p) = p.0

abbrev next_place : Place → Option (List ℕ × Place) → Place
next_place from None = from
next_place from (Some p) = p.1

abbrev is_frame : Option (List ℕ × Place) → Bool
is_frame None = false
is_frame (Some p) = true

no_other : (x : List ℕ) (to : Place) (at end : List ℕ) → ◌≡◌ {A = Result (Option (List ℕ × Place) × List ℕ) Stop} (Ok (Some (x, to), at)) (Ok (None, end)) → ⊥
no_other x to at end same =
    let no : true ≡ false = ap (λ (z : Option (List ℕ × Place) × List ℕ). is_frame z.0) (ok_is (Some (x, to), at) (None, end) same) in
    absurd (cc)

-- frames that are read begin those that are all
frames_begin : (from : Place) (text : List ℕ) (xs : List (List ℕ)) (to : Place) (at : List ℕ) (ys : List (List ℕ)) (last : Place) (rest end : List ℕ) → ReadsFrames from text xs to at → ReadsFrames from text ys last rest →
    frame_read last rest ≡ Ok (None, end) → (more : List (List ℕ)) × (ys ≡ xs ++ more) × ReadsFrames to at more last rest
frames_begin from text [] to at ys last rest end h k over = (ys, refl, subst (λ l. ReadsFrames l at ys last rest) (sym h.0) (subst (λ t. ReadsFrames from t ys last rest) (sym h.1) k))
frames_begin from text (x ∷ xs) to at [] last rest end h k over =
    let none : frame_read from text ≡ Ok (None, end) = subst (λ l. frame_read l text ≡ Ok (None, end)) k.0 (subst (λ t. frame_read last t ≡ Ok (None, end)) k.1 over) in
    absurd (no_other x h.0 h.1 end (sym h.2 ∙ none))
frames_begin from text (x ∷ xs) to at (y ∷ ys) last rest end h k over =
    let same = ok_is (Some (y, k.0), k.1) (Some (x, h.0), h.1) (sym k.2 ∙ h.2) in
    let first : y ≡ x = ap (λ (z : Option (List ℕ × Place) × List ℕ). next_payload z.0) same in
    let place : k.0 ≡ h.0 = ap (λ (z : Option (List ℕ × Place) × List ℕ). next_place from z.0) same in
    let left : k.1 ≡ h.1 = ap (λ (z : Option (List ℕ × Place) × List ℕ). z.1) same in
    let more = frames_begin h.0 h.1 xs to at ys last rest end h.3 (subst (λ l. ReadsFrames l h.1 ys last rest) place (subst (λ t. ReadsFrames k.0 t ys last rest) left k.3)) over in
    (more.0, ap (λ z. z ∷ ys) first ∙ ap (λ z. x ∷ z) more.1, more.2)

none_behind : (to : Place) (at left : List ℕ) (more : List (List ℕ)) (last : Place) (rest : List ℕ) → frame_read to at ≡ Ok (None, left) → ReadsFrames to at more last rest → more ≡ []
none_behind to at left [] last rest over h = refl
none_behind to at left (m ∷ ms) last rest over h =
    absurd (no_other m h.0 h.1 left (sym h.2 ∙ over))

over_behind : (to : Place) (at left : List ℕ) (more : List (List ℕ)) (last : Place) (rest : List ℕ) (notes : Notes) → NextOver notes to at left → ReadsFrames to at more last rest → more ≡ []
over_behind to at left more last rest notes over h = none_behind to at over.0 more last rest over.1.0 h

regrouped : (held before some more : List (List ℕ)) → held ≡ (before ++ some) ++ more → held ≡ before ++ (some ++ more)
regrouped held before some more is = is ∙ append_assoc before some more

-- payloads that come after others are those that the file has there
pub payloads_behind : (profile : Profile) (head other : Head) (most : Option ℕ) (n : ℕ) (before held some : List (List ℕ)) (file rest left : List ℕ) → RangeThen profile 0 head held FramesEnd file rest →
    (notes : Notes) → FileThen profile other (before ++ some) (NextBehind notes most n) file left → (more : List (List ℕ)) × (held ≡ before ++ (some ++ more)) × (other ≡ head) × (has_more most n ≡ true → more ≡ [])
payloads_behind profile head other most n before held some file rest left whole notes p =
    let w = subst (λ b. FileThen profile head (b ++ held) FramesEnd file rest) (no_items whole.0 whole.1) whole.2 in
    let same = ok_is ((other, p.0), p.1) ((head, w.0), w.1) (sym p.2 ∙ w.2) in
    let heads : other ≡ head = ap (λ (z : (Head × Place) × List ℕ). z.0.0) same in
    let place : p.0 ≡ w.0 = ap (λ (z : (Head × Place) × List ℕ). z.0.1) same in
    let behind : p.1 ≡ w.1 = ap (λ (z : (Head × Place) × List ℕ). z.1) same in
    let reads = subst (λ l. ReadsFrames l w.1 (before ++ some) p.3.0 p.3.1) place (subst (λ t. ReadsFrames p.0 t (before ++ some) p.3.0 p.3.1) behind p.3.2) in
    let r = frames_begin w.0 w.1 (before ++ some) p.3.0 p.3.1 held w.3.0 w.3.1 rest reads w.3.2 w.3.3 in (
      r.0,
      regrouped held before some r.0 r.1,
      heads,
      λ room. over_behind p.3.0 p.3.1 left r.0 w.3.0 w.3.1 notes (subst (λ b. NextBehindBy notes b p.3.0 p.3.1 left) room p.3.3) r.2,
    )

pub range_payloads : (profile : Profile) (head other : Head) (first : ℕ) (most : Option ℕ) (held some : List (List ℕ)) (file rest left : List ℕ) → RangeThen profile 0 head held FramesEnd file rest →
    (notes : Notes) → RangeThen profile first other some (NextBehind notes most (length some)) file left →
    (before : List (List ℕ)) × (more : List (List ℕ)) × (length before ≡ first) × (held ≡ before ++ (some ++ more)) × (other ≡ head) × (has_more most (length some) ≡ true → more ≡ [])
range_payloads profile head other first most held some file rest left whole notes part =
    let b = payloads_behind profile head other most (length some) part.0 held some file rest left whole notes part.2 in
    (part.0, b.0, part.1, b.1, b.2, b.3)
