-- Payloads that show others, as they grow by one.
use Rattle.std.proofs.Common.{◌≡◌, refl, ℕ, Option, Some, None, Ok, List, [], ◌∷◌, ◌++◌, length, ap, sym, subst, ◌∙◌}
use Rattle.ffv1_wire.specs.Passage.{between}
use Rattle.ffv1_files.specs.Files.{frame_read}
use Rattle.ffv1_files.specs.Places.{Place}
use Rattle.ffv1_reads.specs.Head.{Head}
use Rattle.ffv1_reads.specs.Known.{Known}
use Rattle.ffv1_video.specs.declared.profile.Profile.{Profile}
use Rattle.ffv1_unpack.specs.Plays.{FileThen, NextIsPayload, NextStays}
use Rattle.ffv1_unpack.specs.Ranges.{NextShows, PartThen}
use Rattle.ffv1_unpack.specs.Stream.{Frame, ReadsFrames, bytes_or, carried_after, frame_payload, last_bytes, payloads, shown_by}
use Rattle.ffv1_unpack.specs.Internal.Carried.{ReadsCarried, ShowsThen}
use Rattle.ffv1_unpack.specs.Internal.Opens.{ReachesPart}
use Rattle.ffv1_unpack.proofs.FileRead.{no_items}
use Rattle.ffv1_unpack.proofs.FramesPassed.{reads_behind}
use Rattle.ffv1_video.proofs.KnownTexts.{known_map, known_then}

pub or_none : (p : List ℕ) → bytes_or p [] ≡ p
or_none [] = refl
or_none (b ∷ bs) = refl

or_either : (p q r : List ℕ) → bytes_or (bytes_or p q) r ≡ bytes_or p (bytes_or q r)
or_either [] q r = refl
or_either (b ∷ bs) q r = refl

-- the last one of more
last_more : (ps : List (List ℕ)) (p : List ℕ) → last_bytes (ps ++ (p ∷ [])) ≡ bytes_or p (last_bytes ps)
last_more [] p = sym (or_none p)
last_more (q ∷ qs) p = ap (λ z. bytes_or z q) (last_more qs p) ∙ or_either p (last_bytes qs) q

pub kept_more : (ps : List (List ℕ)) (p old new : List ℕ) → new ≡ bytes_or p old → old ≡ last_bytes ps → new ≡ last_bytes (ps ++ (p ∷ []))
kept_more ps p old new is so = is ∙ ap (bytes_or p) so ∙ sym (last_more ps p)

-- what is shown of one more
shown_next : (carried : List ℕ) (own : List (List ℕ)) (q : List ℕ) → shown_by carried (own ++ (q ∷ [])) ≡ shown_by carried own ++ (bytes_or q (carried_after carried own) ∷ [])
shown_next carried [] q = refl
shown_next carried (p ∷ ps) q = ap (λ z. bytes_or p carried ∷ (ps ++ (z ∷ []))) (sym (or_none q))

after_same : (carried : List ℕ) (own : List (List ℕ)) → carried_after carried (shown_by carried own) ≡ carried_after carried own
after_same carried [] = refl
after_same carried (p ∷ ps) = refl

-- if nothing is carried over, payloads show themselves
pub shown_alone : (own : List (List ℕ)) → shown_by [] own ≡ own
shown_alone [] = refl
shown_alone (p ∷ ps) = ap (λ z. z ∷ ps) (or_none p)

pub next_alone : (ps : List (List ℕ)) (own : List ℕ) → bytes_or own (carried_after [] ps) ≡ own
next_alone [] own = or_none own
next_alone (p ∷ ps) own = or_none own

pub payloads_more : (frames : List Frame) (f : Frame) → payloads (frames ++ (f ∷ [])) ≡ payloads frames ++ (frame_payload f ∷ [])
payloads_more [] f = refl
payloads_more (g ∷ gs) f = ap (λ z. frame_payload g ∷ z) (payloads_more gs f)

-- after one more nothing is carried over
pub after_more : (carried : List ℕ) (frames : List Frame) (f : Frame) → carried_after carried (payloads (frames ++ (f ∷ []))) ≡ []
after_more carried [] f = refl
after_more carried (g ∷ gs) f = refl

-- ---- what is read of a file

-- payloads that show these
abbrev pub ReadsShown : List ℕ → Place → List ℕ → List (List ℕ) → Place → List ℕ → Type 0
ReadsShown carried from text ps to rest = (own : List (List ℕ)) × (ps ≡ shown_by carried own) × ReadsFrames from text own to rest

pub shown_none : (carried : List ℕ) (from : Place) (o : Option (List ℕ)) → Known o o (λ bytes rest. ReadsShown carried from bytes [] from rest)
shown_none carried from None = tt
shown_none carried from (Some text) = ([], refl, (refl, refl))

-- one more
one_more : (carried : List ℕ) (from : Place) (bytes : List ℕ) (ps : List (List ℕ)) (to : Place) (left p own : List ℕ) (last : Place) (rest : List ℕ) → ReadsShown carried from bytes ps to left → frame_read to left ≡ Ok (Some (own, last), rest) →
    p ≡ bytes_or own (carried_after carried ps) → ReadsShown carried from bytes (ps ++ (p ∷ [])) last rest
one_more carried from bytes ps to left p own last rest read next is = (
  read.0 ++ (own ∷ []),
  ap (λ z. z ++ (p ∷ [])) read.1
      ∙ ap (λ z. shown_by carried read.0 ++ (z ∷ [])) (is ∙ ap (bytes_or own) (ap (carried_after carried) read.1 ∙ after_same carried read.0))
      ∙ sym (shown_next carried read.0 own),
  reads_behind from bytes read.0 to left (own ∷ []) last rest read.2 (last, rest, next, (refl, refl)),
)

pub read_more : (carried : List ℕ) (from to last : Place) (o m n : Option (List ℕ)) (im ia : ℕ) (ps : List (List ℕ)) (p : List ℕ) → Known o m (λ bytes rest. ReadsShown carried from bytes ps to rest) →
    ReadsCarried (carried_after carried ps) to last p (between m n im ia) → Known o n (λ bytes rest. ReadsShown carried from bytes (ps ++ (p ∷ [])) last rest)
read_more carried from to last o m n im ia ps p read here =
    known_map o n (λ bytes rest. (left : List ℕ) × ReadsShown carried from bytes ps to left × (frame_read to left ≡ Ok (Some (here.own, last), rest))) (λ bytes rest. ReadsShown carried from bytes (ps ++ (p ∷ [])) last rest)
    (λ bytes rest k. one_more carried from bytes ps to k.0 p here.own last rest k.1 k.2 here.is)
    (known_then o m n (λ bytes rest. ReadsShown carried from bytes ps to rest) (λ text rest. frame_read to text ≡ Ok (Some (here.own, last), rest)) read here.reads.next)

-- and then this
pub shows_then : (carried : List ℕ) (from to : Place) (o m n : Option (List ℕ)) (ps : List (List ℕ)) (Next : Place → List ℕ → List ℕ → Type 0) → Known o m (λ bytes rest. ReadsShown carried from bytes ps to rest) → Known m n (Next to) →
    Known o n (ShowsThen carried from ps Next)
shows_then carried from to o m n ps Next read next =
    known_map o n (λ bytes rest. (left : List ℕ) × ReadsShown carried from bytes ps to left × Next to left rest) (ShowsThen carried from ps Next) (λ bytes rest p. let r = p.1 in (r.0, r.1, (to, p.0, r.2, p.2)))
    (known_then o m n (λ bytes rest. ReadsShown carried from bytes ps to rest) (Next to) read next)

pub shows_stays : (carried : List ℕ) (from to : Place) (o n : Option (List ℕ)) (ps : List (List ℕ)) → Known o n (λ bytes rest. ReadsShown carried from bytes ps to rest) → Known o n (ShowsThen carried from ps NextStays)
shows_stays carried from to o n ps read = known_map o n (λ bytes rest. ReadsShown carried from bytes ps to rest) (ShowsThen carried from ps NextStays) (λ bytes rest r. (r.0, r.1, (to, rest, r.2, refl))) read

-- what comes after the frames before a part is what the part has
pub part_has : (profile : Profile) (first : ℕ) (carried : List ℕ) (head : Head) (place : Place) (i0 i1 i2 : Option (List ℕ)) → Known i0 i1 (ReachesPart profile first carried head place) →
    (ps : List (List ℕ)) (Next : Place → List ℕ → List ℕ → Type 0) → Known i1 i2 (ShowsThen carried place ps Next) → Known i0 i2 (PartThen profile first carried head ps Next)
part_has profile first carried head place i0 i1 i2 known ps Next has =
    known_map i0 i2 (λ file rest. (left : List ℕ) × ReachesPart profile first carried head place file left × ShowsThen carried place ps Next left rest) (PartThen profile first carried head ps Next)
    (λ file rest p.
    let r = p.1 in
    let h = p.2 in
    let t = h.2 in
    (r.0, r.1, r.2, h.0, h.1, (r.3, r.4, r.5, (t.0, t.1, reads_behind r.3 r.4 r.0 place p.0 h.0 t.0 t.1 r.6 t.2, t.3))))
    (known_then i0 i1 i2 (ReachesPart profile first carried head place) (ShowsThen carried place ps Next) known has)

-- a part before which nothing stands is what it is
part_alone : (carried : List ℕ) (before own ps : List (List ℕ)) → length before ≡ 0 → carried ≡ last_bytes before → ps ≡ shown_by carried own → (carried ≡ []) × (before ++ own ≡ ps)
part_alone carried before own ps counted is shows =
    let none = no_items before counted in
    let empty : carried ≡ [] = is ∙ ap last_bytes none in
    (empty, ap (λ b. b ++ own) none ∙ sym (shows ∙ ap (λ c. shown_by c own) empty ∙ shown_alone own))

pub part_file : (profile : Profile) (head : Head) (carried : List ℕ) (i0 i2 : Option (List ℕ)) (ps : List (List ℕ)) (Next : Place → List ℕ → List ℕ → Type 0) → Known i0 i2 (PartThen profile 0 carried head ps Next) →
    Known i0 i2 (FileThen profile head ps Next)
part_file profile head carried i0 i2 ps Next has =
    known_map i0 i2 (PartThen profile 0 carried head ps Next) (FileThen profile head ps Next)
    (λ file rest p. subst (λ qs. FileThen profile head qs Next file rest) (part_alone carried p.0 p.3 ps p.1 p.2 p.4).1 p.5) has

pub part_comes : (profile : Profile) (head : Head) (carried : List ℕ) (i0 i2 : Option (List ℕ)) (ps : List (List ℕ)) (payload : List ℕ) → Known i0 i2 (PartThen profile 0 carried head ps (NextShows carried ps payload)) →
    Known i0 i2 (FileThen profile head ps (NextIsPayload payload))
part_comes profile head carried i0 i2 ps payload has =
    known_map i0 i2 (PartThen profile 0 carried head ps (NextShows carried ps payload)) (FileThen profile head ps (NextIsPayload payload))
    (λ file rest p.
    let alone = part_alone carried p.0 p.3 ps p.1 p.2 p.4 in
    let f = p.5 in
    let t = f.3 in
    let n = t.3 in
    let same : n.0 ≡ payload = sym (n.1 ∙ ap (λ c. bytes_or n.0 (carried_after c ps)) alone.0 ∙ next_alone ps n.0) in
    subst (λ qs. FileThen profile head qs (NextIsPayload payload) file rest) alone.1 (f.0, f.1, f.2, (t.0, t.1, t.2, subst (λ (z : List ℕ). NextIsPayload z t.0 t.1 rest) same n.2)))
    has
