-- The first fault of a whole text of YUV4MPEG2, and that calls on a reader meet it.
use Rattle.std.proofs.Common.{◌≡◌, ℕ, ◌+◌, ◌≤◌, suc, Option, Some, None, List, [], ◌∷◌, ◌++◌, length, flat_map, Ok, Err, inl, inr, refl, ap, ◌∙◌, sym, subst, append_assoc, append-nil, length-append, arith, ◌<◌, ◌⊎◌, zero}
use Rattle.ffv1_y4m.specs.declared.fault.Fault.{Fault}
use Rattle.ffv1_y4m.specs.declared.fault.Fault.TheVariants as fault
use Rattle.ffv1_y4m.specs.declared.head.DeepHead.{DeepHead}
use Rattle.ffv1_y4m.specs.declared.head.VideoHead.{VideoHead}
use Rattle.ffv1_y4m.specs.Header.{header_of}
use Rattle.ffv1_y4m.specs.Passage.{Passage}
use Rattle.ffv1_y4m.specs.Pictures.{GrowsInPicture, picture_read, picture_text, frame_line}
use Rattle.ffv1_y4m.specs.Reads.{Nowhere, ReadsAs, Refused, Took}
use Rattle.ffv1_y4m.specs.Sequence.{Outcome, Reading}
use Rattle.ffv1_y4m.specs.Text.{AllFit, IsText, ReadsAll}
use Rattle.ffv1_y4m.specs.VideoHead.{AreInDepth, Fits, plane_bytes}
use Rattle.ffv1_y4m.specs.FirstFaults.{HeaderFault, PictureFault, ReachesPicture, TextFault, HasLine}
use Rattle.ffv1_y4m.proofs.AnswerParts.{rest_in, some_in, value_in}
use Rattle.ffv1_y4m.proofs.HeaderFaults.{header_known, header_only, header_refused, one_line}
use Rattle.ffv1_y4m.proofs.HeaderLines.{line_found, line_only}
use Rattle.ffv1_y4m.proofs.PictureFaults.{not_both, picture_known, picture_only, picture_refused}
use Rattle.ffv1_y4m.proofs.Texts.{header_found, header_told, picture_found, picture_only as picture_told, end_found, end_only, text_found, text_only}

-- ---- what a reader's calls read before

pub begins : (most : ℕ) (text : List ℕ) (said : DeepHead) (rest : List ℕ) → 8 ≤ most → header_of most text ≡ Ok (said, rest) → (count : ℕ) × ReachesPicture most text said.depth said.head rest count
begins most text said rest deep is =
    let t = header_told most text said rest is in
    let h = line_only t.line most said t.head in
    (suc (length t.line) + 0, record { line = t.line; pictures = []; begins = record { single = t.single; short = t.short; whole = t.whole }; said = h.0; small = h.1 deep; fit = tt; counted = refl })

fit_more : (depth : ℕ) (h : VideoHead) (ps : List (List (List ℕ))) (p : List (List ℕ)) → AllFit depth h ps → Fits depth h p → AreInDepth depth p → AllFit depth h (ps ++ p ∷ [])
fit_more depth h [] p fit fits small = ((fits, small), tt)
fit_more depth h (q ∷ ps) p fit fits small = (fit.0, fit_more depth h ps p fit.1 fits small)

one_picture_more : (ps : List (List (List ℕ))) (p : List (List ℕ)) (rest : List ℕ) → flat_map picture_text (ps ++ p ∷ []) ++ rest ≡ flat_map picture_text ps ++ (picture_text p ++ rest)
one_picture_more [] p rest = ap (λ z. z ++ rest) (append-nil (picture_text p))
one_picture_more (q ∷ ps) p rest =
    append_assoc (picture_text q) (flat_map picture_text (ps ++ p ∷ [])) rest ∙ (ap (λ z. picture_text q ++ z) (one_picture_more ps p rest) ∙ sym (append_assoc (picture_text q) (flat_map picture_text ps) (picture_text p ++ rest)))

pub goes_on : (most : ℕ) (text : List ℕ) (depth : ℕ) (h : VideoHead) (rest : List ℕ) (count : ℕ) (p : List (List ℕ)) (left : List ℕ) → ReachesPicture most text depth h rest count → picture_read depth h rest ≡ Ok (Some p, left) → (more : ℕ) × ReachesPicture most text depth h left more
goes_on most text depth h rest count p left r is =
    let t = picture_told depth (plane_bytes depth h) rest p left is in
    let behind : flat_map picture_text r.pictures ++ rest ≡ flat_map picture_text (r.pictures ++ p ∷ []) ++ left = ap (λ z. flat_map picture_text r.pictures ++ z) t.whole ∙ sym (one_picture_more r.pictures p left) in (
      suc (length r.line) + length (flat_map picture_text (r.pictures ++ p ∷ [])),
      record {
        line = r.line;
        pictures = r.pictures ++ p ∷ [];
        begins = record { single = r.begins.single; short = r.begins.short; whole = r.begins.whole ∙ ap (λ z. r.line ++ 10 ∷ z) behind };
        said = r.said;
        small = r.small;
        fit = fit_more depth h r.pictures p r.fit t.fits t.small;
        counted = refl;
      },
    )

pub stops : (most : ℕ) (text : List ℕ) (depth : ℕ) (h : VideoHead) (rest : List ℕ) (count : ℕ) (f : Fault) (left : List ℕ) → ReachesPicture most text depth h rest count → picture_read depth h rest ≡ Err (f, left) → (n : ℕ) × TextFault most text f n
stops most text depth h rest count f left r is =
    let k = picture_known depth h rest f left is in
    (count + k.0, inr (depth, h, rest, count, r, k.0, k.1, refl))

-- ---- there is one

header_there : (most : ℕ) (text : List ℕ) (depth : ℕ) (h : VideoHead) (rest : List ℕ) (count : ℕ) → (r : ReachesPicture most text depth h rest count) → header_of most text ≡ Ok (record { head = h; depth = depth }, flat_map picture_text r.pictures ++ rest)
header_there most text depth h rest count r =
    rw r.begins.whole (header_found most r.line (flat_map picture_text r.pictures ++ rest) (record { head = h; depth = depth }) r.begins.single r.begins.short (line_found r.line most depth h r.said r.small))

header_apart : (most : ℕ) (text : List ℕ) (depth : ℕ) (h : VideoHead) (rest : List ℕ) (count : ℕ) (f : Fault) (n : ℕ) → ReachesPicture most text depth h rest count → HeaderFault most text f n → ⊥
header_apart most text depth h rest count f n r fails =
    let k = header_refused most text f n fails in
    not_both (record { head = h; depth = depth }) (flat_map picture_text r.pictures ++ rest) k.0 f (header_of most text) (header_there most text depth h rest count r) k.1

picture_apart : (depth : ℕ) (h : VideoHead) (p : List (List ℕ)) (text left : List ℕ) (f : Fault) (n : ℕ) → Fits depth h p → AreInDepth depth p → text ≡ picture_text p ++ left → PictureFault depth h text f n → ⊥
picture_apart depth h p text left f n fits small is fails =
    let k = picture_refused depth h text f n fails in
    not_both (Some p) left k.0 f (picture_read depth h text) (rw is (picture_found depth h p left fits small)) k.1

pictures_only : (depth : ℕ) (h : VideoHead) (ps qs : List (List (List ℕ))) (rest left : List ℕ) (f g : Fault) (m n : ℕ) → AllFit depth h ps → AllFit depth h qs → flat_map picture_text ps ++ rest ≡ flat_map picture_text qs ++ left → PictureFault depth h rest f m → PictureFault depth h left g n →
    (f ≡ g) × (length (flat_map picture_text ps) + m ≡ length (flat_map picture_text qs) + n)
pictures_only depth h [] [] rest left f g m n a b is fails too =
    let both = picture_only depth h left f g m n (subst (λ z. PictureFault depth h z f m) is fails) too in
    (both.0, ap (λ z. 0 + z) both.1)
pictures_only depth h [] (q ∷ qs) rest left f g m n a b is fails too = absurd (picture_apart depth h q rest (flat_map picture_text qs ++ left) f m b.0.0 b.0.1 (is ∙ append_assoc (picture_text q) (flat_map picture_text qs) left) fails)
pictures_only depth h (p ∷ ps) [] rest left f g m n a b is fails too = absurd (picture_apart depth h p left (flat_map picture_text ps ++ rest) g n a.0.0 a.0.1 (sym is ∙ append_assoc (picture_text p) (flat_map picture_text ps) rest) too)
pictures_only depth h (p ∷ ps) (q ∷ qs) rest left f g m n a b is fails too =
    let one = picture_found depth h p (flat_map picture_text ps ++ rest) a.0.0 a.0.1 in
    let other = picture_found depth h q (flat_map picture_text qs ++ left) b.0.0 b.0.1 in
    let same : picture_text p ++ (flat_map picture_text ps ++ rest) ≡ picture_text q ++ (flat_map picture_text qs ++ left) = sym (append_assoc (picture_text p) (flat_map picture_text ps) rest) ∙ (is ∙ append_assoc (picture_text q) (flat_map picture_text qs) left) in
    let both : ◌≡◌ {A = Outcome (Option (List (List ℕ)))} (Ok (Some p, flat_map picture_text ps ++ rest)) (Ok (Some q, flat_map picture_text qs ++ left)) = sym one ∙ (ap (picture_read depth h) same ∙ other) in
    let pq : p ≡ q = ap (λ r. some_in p (value_in None r)) both in
    let on = pictures_only depth h ps qs rest left f g m n a.1 b.1 (ap rest_in both) fails too in
    let long : length (picture_text p) ≡ length (picture_text q) = ap (λ z. length (picture_text z)) pq in
    (on.0, omega (arith, on.1, long, length-append (picture_text p) (flat_map picture_text ps), length-append (picture_text q) (flat_map picture_text qs)))

pub text_only_fault : (most : ℕ) (text : List ℕ) (f g : Fault) (m n : ℕ) → TextFault most text f m → TextFault most text g n → (f ≡ g) × (m ≡ n)
text_only_fault most text f g m n (inl a) (inl b) = header_only most text f g m n a b
text_only_fault most text f g m n (inl a) (inr k) = absurd (header_apart most text k.0 k.1 k.2 k.3 f m k.4 a)
text_only_fault most text f g m n (inr k) (inl b) = absurd (header_apart most text k.0 k.1 k.2 k.3 g n k.4 b)
text_only_fault most text f g m n (inr (depth, h, rest, count, r, i, fails, at)) (inr (deep, k, left, amount, s, j, too, there)) = both_only most text f g m n depth deep h k rest left count amount i j r s fails too at there
  where
    both_only : (most : ℕ) (text : List ℕ) (f g : Fault) (m n depth deep : ℕ) (h k : VideoHead) (rest left : List ℕ) (count amount i j : ℕ) → ReachesPicture most text depth h rest count → ReachesPicture most text deep k left amount → PictureFault depth h rest f i → PictureFault deep k left g j → m ≡ count + i → n ≡ amount + j → (f ≡ g) × (m ≡ n)
    both_only most text f g m n depth deep h k rest left count amount i j r s fails too at there =
        let lines = one_line text r.line s.line (flat_map picture_text r.pictures ++ rest) (flat_map picture_text s.pictures ++ left) r.begins s.begins in
        let heads : ◌≡◌ {A = Outcome DeepHead} (Ok (record { head = h; depth = depth }, flat_map picture_text r.pictures ++ rest)) (Ok (record { head = k; depth = deep }, flat_map picture_text s.pictures ++ left)) = sym (header_there most text depth h rest count r) ∙ header_there most text deep k left amount s in
        let said : ◌≡◌ {A = DeepHead} (record { head = h; depth = depth }) (record { head = k; depth = deep }) = ap (value_in (record { head = h; depth = depth })) heads in
        let head : h ≡ k = ap (λ (z : DeepHead). z.head) said in
        let bits : depth ≡ deep = ap (λ (z : DeepHead). z.depth) said in
        let fit : AllFit depth h s.pictures = subst (λ z. AllFit z h s.pictures) (sym bits) (subst (λ z. AllFit deep z s.pictures) (sym head) s.fit) in
        let refused : PictureFault depth h left g j = subst (λ z. PictureFault z h left g j) (sym bits) (subst (λ z. PictureFault deep z left g j) (sym head) too) in
        let on = pictures_only depth h r.pictures s.pictures rest left f g i j r.fit fit lines.1 fails refused in
        let long : length r.line ≡ length s.line = ap (λ z. length z) lines.0 in
        (on.0, omega (arith, at, there, r.counted, s.counted, on.1, long))

-- ---- the fault that a call answers

rest_of : {X : Type 0} (reading : Reading X) (text : List ℕ) (new : Option (List ℕ)) (f : Fault) → ReadsAs reading (Some text) new (Err f) → (rest : List ℕ) × (reading text ≡ Err (f, rest))
rest_of reading text None f h = absurd h
rest_of reading text (Some rest) f h = (rest, h)

-- if the bytes are known, a refusal that comes from no read and from no memory is the reading's
pub refused_as : {X : Type 0} (reading : Reading X) (grows : List ℕ → Type 0) (text : List ℕ) (new : Option (List ℕ)) (before after : ℕ) (f : Fault) → Refused reading grows (record { old = Some text; new = new; before = before; after = after }) f →
    (f ≡ fault.Read → ⊥) → (f ≡ fault.OutOfMemory → ⊥) → (rest : List ℕ) × (reading text ≡ Err (f, rest))
refused_as reading grows text new before after fault.Read why a b = absurd (a refl)
refused_as reading grows text new before after fault.OutOfMemory why a b = absurd (b refl)
refused_as reading grows text new before after fault.Write why a b = absurd why
refused_as reading grows text new before after f why a b = rest_of reading text new f why.1

none_grows : (p : Passage) → Took Nowhere p → ⊥
none_grows p h = h.2

pub not_memory : {X : Type 0} (reading : Reading X) (p : Passage) (f : Fault) → Refused reading Nowhere p f → f ≡ fault.OutOfMemory → ⊥
not_memory reading p fault.OutOfMemory why is = none_grows p why.1
not_memory reading p fault.Write why is = absurd why
not_memory reading p f why is = absurd (let other : f ≡ fault.OutOfMemory = is in cc)

pub header_answered : (most : ℕ) (text : List ℕ) (new : Option (List ℕ)) (before after : ℕ) (f : Fault) → Refused (header_of most) Nowhere (record { old = Some text; new = new; before = before; after = after }) f → (f ≡ fault.Read → ⊥) → (n : ℕ) × HeaderFault most text f n
header_answered most text new before after f why a =
    let k = refused_as (header_of most) Nowhere text new before after f why a (not_memory (header_of most) (record { old = Some text; new = new; before = before; after = after }) f why) in
    header_known most text f k.0 k.1

pub picture_answered : (depth : ℕ) (h : VideoHead) (text : List ℕ) (new : Option (List ℕ)) (before after : ℕ) (f : Fault) → Refused (picture_read depth h) (GrowsInPicture depth h) (record { old = Some text; new = new; before = before; after = after }) f →
    (f ≡ fault.Read → ⊥) → (f ≡ fault.OutOfMemory → ⊥) → (n : ℕ) × PictureFault depth h text f n
picture_answered depth h text new before after f why a b =
    let k = refused_as (picture_read depth h) (GrowsInPicture depth h) text new before after f why a b in
    picture_known depth h text f k.0 k.1

-- ---- each text is whole, or has a first fault

abbrev Ends : ℕ → List ℕ → ℕ → VideoHead → List ℕ → Type 0
Ends most text depth h rest = ((ps : List (List (List ℕ))) × ReadsAll depth h rest ps) ⊎ ((f : Fault) × (n : ℕ) × TextFault most text f n)

shorter : (depth : ℕ) (h : VideoHead) (rest : List ℕ) (p : List (List ℕ)) (left : List ℕ) → picture_read depth h rest ≡ Ok (Some p, left) → length left < length rest
shorter depth h rest p left is =
    let t = picture_told depth (plane_bytes depth h) rest p left is in
    let long : length rest ≡ length (picture_text p ++ left) = ap (λ z. length z) t.whole in
    omega (arith, long, length-append (picture_text p) left, length-append frame_line (flat_map (λ q. q) p))

ended : (depth : ℕ) (h : VideoHead) (rest left : List ℕ) → picture_read depth h rest ≡ Ok (None, left) → picture_read depth h rest ≡ Ok (None, [])
ended depth h rest left is =
    let none : rest ≡ [] = end_only depth (plane_bytes depth h) rest left is in
    ap (picture_read depth h) none ∙ end_found depth h

ends_by : (most : ℕ) (text : List ℕ) (depth : ℕ) (h : VideoHead) (rest : List ℕ) (count : ℕ) (o : Outcome (Option (List (List ℕ)))) → picture_read depth h rest ≡ o → ReachesPicture most text depth h rest count →
    ((p : List (List ℕ)) (left : List ℕ) (more : ℕ) → length left < length rest → ReachesPicture most text depth h left more → Ends most text depth h left) → Ends most text depth h rest
ends_by most text depth h rest count (Err (f, left)) is r more =
    let k = stops most text depth h rest count f left r is in
    inr (f, k.0, k.1)
ends_by most text depth h rest count (Ok (None, left)) is r more = inl ([], ended depth h rest left is)
ends_by most text depth h rest count (Ok (Some p, left)) is r more =
    let k = goes_on most text depth h rest count p left r is in
    elim (more p left k.0 (shorter depth h rest p left is) k.1) [
      | inl e ↦ inl (p ∷ e.0, (left, is, e.1))
      | inr e ↦ inr e
    ]

-- by so many steps as the text has bytes
ends_in : (steps most : ℕ) (text : List ℕ) (depth : ℕ) (h : VideoHead) (rest : List ℕ) (count : ℕ) → length rest < steps → ReachesPicture most text depth h rest count → Ends most text depth h rest
ends_in zero most text depth h rest count few r = absurd (omega (arith, few))
ends_in (suc steps) most text depth h rest count few r =
    ends_by most text depth h rest count (picture_read depth h rest) refl r (λ p left more less reaches. ends_in steps most text depth h left more (omega (arith, few, less)) reaches)

abbrev Whole : ℕ → List ℕ → Type 0
Whole most text = (depth : ℕ) × (h : VideoHead) × (ps : List (List (List ℕ))) × IsText most text depth h ps × (depth ≤ most)

whole_by : (most : ℕ) (text : List ℕ) (o : Outcome DeepHead) → 8 ≤ most → header_of most text ≡ o → Whole most text ⊎ ((f : Fault) × (n : ℕ) × TextFault most text f n)
whole_by most text (Err (f, left)) deep is =
    let k = header_known most text f left is in
    inr (f, k.0, inl k.1)
whole_by most text (Ok (said, rest)) deep is =
    let k = begins most text said rest deep is in
    elim (ends_in (suc (length rest)) most text said.depth said.head rest k.0 (omega arith) k.1) [
      | inl e ↦ inl (said.depth, said.head, e.0, text_only text most said.depth said.head rest e.0 is e.1, k.1.small)
      | inr e ↦ inr e
    ]

pub whole_or_fault : (most : ℕ) (text : List ℕ) → 8 ≤ most → Whole most text ⊎ ((f : Fault) × (n : ℕ) × TextFault most text f n)
whole_or_fault most text deep = whole_by most text (header_of most text) deep refl

-- and not both
no_picture : (depth : ℕ) (h : VideoHead) (f : Fault) (n : ℕ) → PictureFault depth h [] f n → ⊥
no_picture depth h f n fails =
    let k = picture_refused depth h [] f n fails in
    not_both None [] k.0 f (picture_read depth h []) (end_found depth h) k.1

never : (depth : ℕ) (h : VideoHead) (ps qs : List (List (List ℕ))) (rest : List ℕ) (f : Fault) (n : ℕ) → AllFit depth h ps → AllFit depth h qs → flat_map picture_text ps ++ rest ≡ flat_map picture_text qs → PictureFault depth h rest f n → ⊥
never depth h [] [] rest f n a b is fails = no_picture depth h f n (subst (λ z. PictureFault depth h z f n) is fails)
never depth h [] (q ∷ qs) rest f n a b is fails = picture_apart depth h q rest (flat_map picture_text qs) f n b.0.0 b.0.1 is fails
never depth h (p ∷ ps) [] rest f n a b is fails =
    let long : length ((picture_text p ++ flat_map picture_text ps) ++ rest) ≡ 0 = ap (λ z. length z) is in
    absurd (omega (arith, long, length-append (picture_text p ++ flat_map picture_text ps) rest, length-append (picture_text p) (flat_map picture_text ps), length-append frame_line (flat_map (λ q. q) p)))
never depth h (p ∷ ps) (q ∷ qs) rest f n a b is fails =
    let same : picture_text p ++ (flat_map picture_text ps ++ rest) ≡ picture_text q ++ flat_map picture_text qs = sym (append_assoc (picture_text p) (flat_map picture_text ps) rest) ∙ is in
    let both : ◌≡◌ {A = Outcome (Option (List (List ℕ)))} (Ok (Some p, flat_map picture_text ps ++ rest)) (Ok (Some q, flat_map picture_text qs)) =
    sym (picture_found depth h p (flat_map picture_text ps ++ rest) a.0.0 a.0.1) ∙ (ap (picture_read depth h) same ∙ picture_found depth h q (flat_map picture_text qs) b.0.0 b.0.1) in
    never depth h ps qs rest f n a.1 b.1 (ap rest_in both) fails

pub never_both : (most : ℕ) (text : List ℕ) (depth : ℕ) (h : VideoHead) (ps : List (List (List ℕ))) (f : Fault) (n : ℕ) → IsText most text depth h ps → depth ≤ most → TextFault most text f n → ⊥
never_both most text depth h ps f n t small (inl fails) =
    let k = header_refused most text f n fails in
    let found = text_found text most depth h ps t small in
    not_both (record { head = h; depth = depth }) found.0 k.0 f (header_of most text) found.1 k.1
never_both most text depth h ps f n t small (inr (deep, k, rest, count, r, m, fails, at)) = apart most text depth deep h k ps rest count f m t small r fails
  where
    apart : (most : ℕ) (text : List ℕ) (depth deep : ℕ) (h k : VideoHead) (ps : List (List (List ℕ))) (rest : List ℕ) (count : ℕ) (f : Fault) (m : ℕ) → IsText most text depth h ps → depth ≤ most → ReachesPicture most text deep k rest count → PictureFault deep k rest f m → ⊥
    apart most text depth deep h k ps rest count f m t small r fails =
        let mine : HasLine text t.line (flat_map picture_text ps) = record { single = t.single; short = t.short; whole = t.whole } in
        let lines = one_line text r.line t.line (flat_map picture_text r.pictures ++ rest) (flat_map picture_text ps) r.begins mine in
        let other = header_there most text deep k rest count r in
        let here = text_found text most depth h ps t small in
        let heads : ◌≡◌ {A = Outcome DeepHead} (Ok (record { head = h; depth = depth }, here.0)) (Ok (record { head = k; depth = deep }, flat_map picture_text r.pictures ++ rest)) = sym here.1 ∙ other in
        let said : ◌≡◌ {A = DeepHead} (record { head = h; depth = depth }) (record { head = k; depth = deep }) = ap (value_in (record { head = h; depth = depth })) heads in
        let head : h ≡ k = ap (λ (z : DeepHead). z.head) said in
        let bits : depth ≡ deep = ap (λ (z : DeepHead). z.depth) said in
        let fit : AllFit deep k ps = subst (λ z. AllFit z k ps) bits (subst (λ z. AllFit depth z ps) head t.fit) in
        never deep k r.pictures ps rest f m r.fit fit lines.1 fails
