-- The head of a video, whose first byte was read before.
use Rattle.std.specs.Prelude.{◌≡◌, ℕ, ◌+◌, ◌<◌, ◌≤◌, ◌==◌, ◌++◌, Bool, true, false, List, [], ◌∷◌, length, drop, Option, Some, None, Result, Ok, Err, nat_eq}
use Rattle.std.proofs.Common.{◌∙◌, arith, sym, ap, subst, refl, cond}
use Rattle.std.proofs.lemmas.List.{length-drop}
use Rattle.std.specs.Io.KnownBytes.{Consumes, Keeps}
use Rattle.std.specs.Option.{option_eq}
use Rattle.ffv1_wire.specs.Reads.{GivesByte}
use Rattle.ffv1_y4m.specs.Passage.{known_text}
use Rattle.ffv1_y4m.specs.Reads.{ReadsAs, Refused, Nowhere, Wants}
use Rattle.ffv1_y4m.specs.Header.{head_of_line, header_of, line_end, line_read, line_to}
use Rattle.ffv1_y4m.specs.Ppm.{image_header}
use Rattle.ffv1_y4m.specs.Sequence.{◌>>=◌, Outcome, Reading, judge, left}
use Rattle.ffv1_y4m.specs.declared.fault.Fault.{Fault as Y4mFault}
use Rattle.ffv1_y4m.specs.declared.fault.Fault.TheVariants as fault
use Rattle.ffv1_y4m.specs.declared.head.VideoHead.{VideoHead}
use Rattle.ffv1_video.specs.Faults.{of_y4m}
use Rattle.ffv1_video.specs.Video.{SaidHead, is_ppm, seen_as, video_head}
use Rattle.ffv1_pack.specs.VideoReads.{LacksKnown}
use Rattle.ffv1_pack.specs.Internal.VideoReads.{HeadKnown, HeadRefused}

-- ---- a head takes its first byte, whichever it is

fewer : (n c : ℕ) (cs : List ℕ) → 0 < n → length (drop n (c ∷ cs)) ≤ length cs
fewer n c cs some = let e = length-drop n (c ∷ cs) in omega (arith, e, some)

line_to_takes : (most c : ℕ) (cs : List ℕ) (end : Option ℕ) → 0 < most → length (left (line_to most (c ∷ cs) end)) ≤ length cs
line_to_takes most c cs None some = fewer most c cs some
line_to_takes most c cs (Some end) some = fewer (end + 1) c cs (omega arith)

line_takes : (most c : ℕ) (cs : List ℕ) → 0 < most → length (left (line_read most (c ∷ cs))) ≤ length cs
line_takes most c cs some = line_to_takes most c cs (line_end most (c ∷ cs)) some

-- what comes after it gives no byte back
then_keeps : {X Y : Type 0} (o : Outcome X) (next : X → Reading Y) (n : ℕ) → ((x : X) (text : List ℕ) → length (left (next x text)) ≤ length text) → length (left o) ≤ n → length (left (o >>= λ p. next p.0 p.1)) ≤ n
then_keeps (Ok p) next n keeps few = let more = keeps p.0 p.1 in omega (arith, more, few)
then_keeps (Err f) next n keeps few = few

judge_keeps : {X : Type 0} (r : Result X Y4mFault) (text : List ℕ) → length (left (judge r text)) ≤ length text
judge_keeps (Ok x) text = omega arith
judge_keeps (Err f) text = omega arith

header_takes : (most c : ℕ) (cs : List ℕ) → length (left (header_of most (c ∷ cs))) ≤ length cs
header_takes most c cs =
    then_keeps (line_read 1025 (c ∷ cs)) (λ line. judge (head_of_line most line)) (length cs) (λ line text. judge_keeps (head_of_line most line) text) (line_takes 1025 c cs (omega arith))

left_seen : {X : Type 0} (o : Outcome X) (view : X → SaidHead) → left (seen_as o view) ≡ left o
left_seen (Ok p) view = refl
left_seen (Err f) view = refl

-- what a text of each kind reads as
text_read : (most : ℕ) (text : List ℕ) → is_ppm text ≡ false → video_head most text ≡ seen_as (header_of most text) (λ h. record { head = h.head; depth = h.depth })
text_read most text kind =
    ap (λ b. cond b (seen_as (image_header most text) (λ h. record { head = h.head; depth = h.depth })) (seen_as (header_of most text) (λ h. record { head = h.head; depth = h.depth }))) kind

images_read : (most : ℕ) (text : List ℕ) → is_ppm text ≡ true → video_head most text ≡ seen_as (image_header most text) (λ h. record { head = h.head; depth = h.depth })
images_read most text kind =
    ap (λ b. cond b (seen_as (image_header most text) (λ h. record { head = h.head; depth = h.depth })) (seen_as (header_of most text) (λ h. record { head = h.head; depth = h.depth }))) kind

kind_takes : (image_takes : (most : ℕ) → Wants (image_header most) []) (most : ℕ) (ppm : Bool) (c : ℕ) (cs : List ℕ) → (c == 80) ≡ ppm → length (left (video_head most (c ∷ cs))) ≤ length cs
kind_takes image_takes most true c cs kind =
    let same = ap (λ o. left o) (images_read most (c ∷ cs) kind) ∙ left_seen (image_header most (c ∷ cs)) (λ h. record { head = h.head; depth = h.depth }) in
    subst (λ t. length t ≤ length cs) (sym same) (image_takes most c cs)
kind_takes image_takes most false c cs kind =
    let same = ap (λ o. left o) (text_read most (c ∷ cs) kind) ∙ left_seen (header_of most (c ∷ cs)) (λ h. record { head = h.head; depth = h.depth }) in
    subst (λ t. length t ≤ length cs) (sym same) (header_takes most c cs)

pub wants_head : (image_takes : (most : ℕ) → Wants (image_header most) []) (most : ℕ) → Wants (video_head most) []
wants_head image_takes most next behind = kind_takes image_takes most (next == 80) next behind refl

-- ---- the first byte of a text

-- whether it says that the text is PPM
abbrev pub FirstSays : Bool → Option ℕ → Type 0
FirstSays ppm None = false ≡ ppm
FirstSays ppm (Some b) = (b == 80) ≡ ppm

-- one that was compared with that of PPM
pub first_says : (first : Option ℕ) (same : Bool) → same ≡ option_eq nat_eq first (Some 80) → FirstSays same first
first_says None same e = sym e
first_says (Some b) same e = sym e

-- a text of which the first byte was read is the text before
pub whole_text : (old mid : Option (List ℕ)) (text : List ℕ) (first : Option ℕ) → old ≡ Some text → GivesByte old mid first → known_text first mid ≡ Some text
whole_text None mid text first e h = absurd (cc)
whole_text (Some xs) None text None e h = absurd h.0
whole_text (Some xs) (Some ys) text None e h = ap Some h.0 ∙ e
whole_text (Some xs) None text (Some b) e h = absurd h
whole_text (Some xs) (Some ys) text (Some b) e h = ap Some (sym h) ∙ e

-- and of that kind
kind_of : (ppm : Bool) (old mid : Option (List ℕ)) (text : List ℕ) (first : Option ℕ) → old ≡ Some text → GivesByte old mid first → FirstSays ppm first → is_ppm text ≡ ppm
kind_of ppm None mid text first e h says = absurd (cc)
kind_of ppm (Some xs) None text None e h says = absurd h.0
kind_of ppm (Some xs) (Some ys) text None e h says =
    let empty : text ≡ [] = let back : xs ≡ text = cc in sym back ∙ sym h.0 ∙ h.1 in
    ap is_ppm empty ∙ says
kind_of ppm (Some xs) None text (Some b) e h says = absurd h
kind_of ppm (Some xs) (Some ys) text (Some b) e h says =
    let back : text ≡ b ∷ ys = let same : xs ≡ text = cc in sym same ∙ h in
    ap is_ppm back ∙ says

-- bytes that are left as they were
pub none_taken : (old new : Option (List ℕ)) → Keeps old new → Consumes old new []
none_taken None new keeps = tt
none_taken (Some xs) None keeps = absurd keeps
none_taken (Some xs) (Some ys) keeps = sym keeps

-- ---- a head that was read, or why not

-- by a reading of a text of this kind, of which this is seen
module _ {X : Type 0} (most : ℕ) (ppm : Bool) (reading : Reading X) (view : X → SaidHead) (same : (text : List ℕ) → is_ppm text ≡ ppm → video_head most text ≡ seen_as (reading text) view) where
  known_by : (text : List ℕ) (new : Option (List ℕ)) (x : X) → is_ppm text ≡ ppm → ReadsAs reading (Some text) new (Ok x) → HeadKnown most (Some text) new ppm (view x)
  known_by text None x kind r = r
  known_by text (Some rest) x kind r = (sym kind, same text kind ∙ ap (λ o. seen_as o view) r)

  known : (old mid new : Option (List ℕ)) (first : Option ℕ) (x : X) → GivesByte old mid first → FirstSays ppm first → ReadsAs reading (known_text first mid) new (Ok x) → HeadKnown most old new ppm (view x)
  known None mid new first x h says r = tt
  known (Some text) mid new first x h says r =
      known_by text new x (kind_of ppm (Some text) mid text first refl h says) (subst (λ z. ReadsAs reading z new (Ok x)) (whole_text (Some text) mid text first refl h) r)

  kind_wants : (c : ℕ) (cs : List ℕ) → (c == 80) ≡ ppm → Wants reading (c ∷ cs) → Wants (video_head most) (c ∷ cs)
  kind_wants c cs is wants next behind =
      let text = c ∷ (cs ++ (next ∷ behind)) in
      subst (λ t. length t ≤ length behind) (sym (ap (λ o. left o) (same text is) ∙ left_seen (reading text) view)) (wants next behind)

  wants_empty : (takes : (m : ℕ) → Wants (image_header m) []) → (bytes ys : List ℕ) → [] ≡ bytes ++ ys → Wants (video_head most) bytes
  wants_empty takes [] ys e = wants_head takes most
  wants_empty takes (c ∷ cs) ys e = absurd (cc)

  wants_after : (takes : (m : ℕ) → Wants (image_header m) []) → (b : ℕ) (rest bytes ys : List ℕ) → (b == 80) ≡ ppm → b ∷ rest ≡ bytes ++ ys → Wants reading bytes → Wants (video_head most) bytes
  wants_after takes b rest [] ys says e wants = wants_head takes most
  wants_after takes b rest (c ∷ cs) ys says e wants =
      let first : b ≡ c = cc in
      kind_wants c cs (subst (λ x. (x == 80) ≡ ppm) first says) wants

  wants_whole : (takes : (m : ℕ) → Wants (image_header m) []) → (old mid new : Option (List ℕ)) (first : Option ℕ) → GivesByte old mid first → FirstSays ppm first →
      ((bytes : List ℕ) × Consumes (known_text first mid) new bytes × Wants reading bytes) → (bytes : List ℕ) × Consumes old new bytes × Wants (video_head most) bytes
  wants_whole takes None mid new first h says t = ([], tt, wants_head takes most)
  wants_whole takes (Some text) None new None h says t = absurd h.0
  wants_whole takes (Some text) (Some rest) None None h says (bytes, taken, wants) = absurd taken
  wants_whole takes (Some text) (Some rest) (Some ys) None h says (bytes, taken, wants) = (bytes, sym h.0 ∙ taken, wants_empty takes bytes ys (sym h.1 ∙ taken))
  wants_whole takes (Some text) None new (Some b) h says t = absurd h
  wants_whole takes (Some text) (Some rest) None (Some b) h says (bytes, taken, wants) = absurd taken
  wants_whole takes (Some text) (Some rest) (Some ys) (Some b) h says (bytes, taken, wants) = (bytes, h ∙ taken, wants_after takes b rest bytes ys says taken wants)

  lacks_by : (text : List ℕ) (new : Option (List ℕ)) (f : Y4mFault) → is_ppm text ≡ ppm → ReadsAs reading (Some text) new (Err f) → LacksKnown most (Some text) new (of_y4m f)
  lacks_by text None f is r = r
  lacks_by text (Some rest) f is r = (f, same text is ∙ ap (λ o. seen_as o view) r, refl)

  lacks : (old mid new : Option (List ℕ)) (first : Option ℕ) (f : Y4mFault) → GivesByte old mid first → FirstSays ppm first → ReadsAs reading (known_text first mid) new (Err f) → LacksKnown most old new (of_y4m f)
  lacks None mid new first f h says r = tt
  lacks (Some text) mid new first f h says r = lacks_by text new f (kind_of ppm (Some text) mid text first refl h says) (subst (λ z. ReadsAs reading z new (Err f)) (whole_text (Some text) mid text first refl h) r)

  refused : (takes : (m : ℕ) → Wants (image_header m) []) → (old mid new : Option (List ℕ)) (before after : ℕ) (first : Option ℕ) (f : Y4mFault) → GivesByte old mid first → FirstSays ppm first
      → Refused reading Nowhere (record { old = known_text first mid; new = new; before = before; after = after }) f
      → HeadRefused most (record { old = old; new = new; before = before; after = after }) (of_y4m f)
  refused takes old mid new before after first fault.OutOfMemory h says r = absurd r.1.2
  refused takes old mid new before after first fault.Read h says r = (r.0, wants_whole takes old mid new first h says r.1)
  refused takes old mid new before after first fault.Write h says r = absurd r
  refused takes old mid new before after first f h says r = (r.0, lacks old mid new first _ h says r.1)

-- of YUV4MPEG2
pub header_known : (most : ℕ) (old mid new : Option (List ℕ)) (first : Option ℕ) (h : VideoHead) (depth : ℕ) → GivesByte old mid first → FirstSays false first →
    ReadsAs (header_of most) (known_text first mid) new (Ok (record { head = h; depth = depth })) → HeadKnown most old new false (record { head = h; depth = depth })
header_known most old mid new first h depth gives says r = known most false (header_of most) (λ k. record { head = k.head; depth = k.depth }) (text_read most) old mid new first _ gives says r

pub header_refused : (takes : (m : ℕ) → Wants (image_header m) []) (most : ℕ) (old mid new : Option (List ℕ)) (before after : ℕ) (first : Option ℕ) (f : Y4mFault) → GivesByte old mid first → FirstSays false first
    → Refused (header_of most) Nowhere (record { old = known_text first mid; new = new; before = before; after = after }) f
    → HeadRefused most (record { old = old; new = new; before = before; after = after }) (of_y4m f)
header_refused takes most = refused most false (header_of most) (λ k. record { head = k.head; depth = k.depth }) (text_read most) takes

-- of PPM
pub image_known : (most : ℕ) (old mid new : Option (List ℕ)) (first : Option ℕ) (h : VideoHead) (depth : ℕ) → GivesByte old mid first → FirstSays true first →
    ReadsAs (image_header most) (known_text first mid) new (Ok (record { head = h; depth = depth })) → HeadKnown most old new true (record { head = h; depth = depth })
image_known most old mid new first h depth gives says r = known most true (image_header most) (λ k. record { head = k.head; depth = k.depth }) (images_read most) old mid new first _ gives says r

pub image_refused : (takes : (m : ℕ) → Wants (image_header m) []) (most : ℕ) (old mid new : Option (List ℕ)) (before after : ℕ) (first : Option ℕ) (f : Y4mFault) → GivesByte old mid first → FirstSays true first
    → Refused (image_header most) Nowhere (record { old = known_text first mid; new = new; before = before; after = after }) f
    → HeadRefused most (record { old = old; new = new; before = before; after = after }) (of_y4m f)
image_refused takes most = refused most true (image_header most) (λ k. record { head = k.head; depth = k.depth }) (images_read most) takes
