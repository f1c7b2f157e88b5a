-- The frames of a movi.
use Rattle.std.proofs.Common.{codes, ◌≡◌, ℕ, suc, zero, ◌+◌, ◌-◌, ◌%◌, ◌≤◌, ◌<◌, nat_lt, Bool, true, false, Option, Some, None, Result, Ok, Err, List, [], ◌∷◌, ◌++◌, length, map, ap, ◌∙◌, sym, subst, arith, refl, append_assoc, length-append}
use Rattle.std.proofs.lemmas.Bool.{ltb-false}
use Rattle.std.proofs.lemmas.Grind.{flat_map-append}
use Rattle.byteorder.specs.Endian.{little_number}
use Rattle.ffv1_avi.specs.declared.chunk.Entry.{Entry}
use Rattle.ffv1_avi.specs.Chunks.{AreFrames, AreTaken, Chunk, Fit, IsChunk, chunk_text, chunks_text, those}
use Rattle.ffv1_avi.specs.declared.place.Extent.{Extent}
use Rattle.ffv1_avi.specs.declared.place.Extent.TheVariants.{FirstMovi, EveryRiff}
use Rattle.ffv1_avi.specs.declared.place.Place.{Place}
use Rattle.ffv1_avi.specs.Files.{beyond, stepped, found_or_on, found_read, frame_found, frame_read, frames_read, more_frames, moved, moved_by, movi_found, movi_or_riff, movi_sought, riff_begun, sought_on}
use Rattle.ffv1_avi.specs.Opens.{Step, list_opened, open_found, open_named, visit_movi}
use Rattle.ffv1_avi.specs.declared.place.Open.{Open}
use Rattle.ffv1_avi.specs.declared.place.Open.TheVariants.{Sized, OpenRiff, OpenMovi}
use Rattle.ffv1_avi.specs.Places.{extent_of, frame_at}
use Rattle.ffv1_reads.specs.Reads.{Kept, Looked, Reading, Stop, given, passed, read_on, ◌>>=◌}
use Rattle.ffv1_avi.specs.Padding.{content, padded}
use Rattle.ffv1_avi.specs.Walk.{is_name, walk_in}
use Rattle.ffv1_avi.proofs.ListWalks.{Complete, Ended, IsPassed, Run, Sound, Stands, Taking, halting, headed_entry, walk_sound_in}
use Rattle.ffv1_avi.proofs.Fields.{skipped_passed}
use Rattle.ffv1_avi.proofs.PassedBytes.{content_complete, content_sound, skip_complete}
use Rattle.ffv1_reads.proofs.Results.{read_on_ok}
use Rattle.ffv1_avi.proofs.FrameTurns.{frames_step}
use Rattle.ffv1_avi.proofs.Moves.{frame_step}
use Rattle.ffv1_reads.proofs.Results.{ok_is, some_is}
use Rattle.ffv1_avi.specs.declared.place.Names.{Names}
use Rattle.ffv1_avi.specs.Names.{bars, is_barred, least_bytes, most_bytes, opens, rule_of}
use Rattle.ffv1_avi.proofs.OpenedLists.{IsRec, chunk_beside, frame_no_list, name_stands, opened_sound, rec_stands, size_whole}
use Rattle.ffv1_avi.proofs.TakenChunks.{chunk_fits, fit_both, taken_both, taken_more}
use Rattle.ffv1_avi.specs.Names.{is_frame}
use Rattle.ffv1_avi.specs.Chunks.{barred_in}
use Rattle.ffv1_avi.specs.Chunks.{frame_in}
use Rattle.ffv1_avi.specs.declared.place.Names.TheVariants.{Any, Closed}

-- a chunk that is no frame; of a list its own name, that of a list `rec `
abbrev pub TakesMovi : Names → Taking (Unit {0})
TakesMovi names s name bytes t = (is_barred names name ≡ false) × (is_frame names name ≡ false) × IsRec name bytes

abbrev M : Type 0
M = (Unit {0} × Option (ℕ × ℕ)) × List ℕ

no_some : {X : Type 0} (x : X) → ◌≡◌ {A = Option X} (Some x) None → ⊥
no_some x e = absurd (cc)

pub movi_sound : (names : Names) → Sound (visit_movi names) (TakesMovi names)
unfolding visit_movi
movi_sound names s e text t rest listed h = on_names (is_barred names e.name) (is_frame names e.name) (nat_lt (most_bytes names) e.size) (nat_lt e.size (least_bytes names)) refl refl refl refl h
  where
    on_names : (a b c d : Bool) → is_barred names e.name ≡ a → is_frame names e.name ≡ b → nat_lt (most_bytes names) e.size ≡ c → nat_lt e.size (least_bytes names) ≡ d → visit_movi names s e text ≡ Ok ((t, None), rest) → IsPassed (TakesMovi names) s e t text rest
    on_names true b c d p q r z h = absurd (cc (rw p at h))
    on_names false true true d p q r z h = absurd (cc (rw (p, q, r) at h))
    on_names false true false true p q r z h = absurd (cc (rw (p, q, r, z) at h))
    on_names false true false false p q r z h =
        let y : ℕ × ℕ = (e.size, e.left) in
        absurd (no_some y (ap (λ (m : M). m.0.1) (ok_is ((tt, Some y), text) ((t, None), rest) (rw (p, q, r, z) at h))))
    on_names false false c d p q r z h = on_list (is_name e.name (codes "LIST")) refl p q h
      where
        on_list : (l : Bool) → is_name e.name (codes "LIST") ≡ l → is_barred names e.name ≡ false → is_frame names e.name ≡ false → visit_movi names s e text ≡ Ok ((t, None), rest) → IsPassed (TakesMovi names) s e t text rest
        on_list true l p q h =
            let first = read_on_ok (content Looked e.size text) list_opened ((t, None), rest) (rw (p, q, l) at h) in
            let opened = opened_sound first.0.0 first.0.1 t None rest first.2 in
            let c = content_sound Looked e.size text first.0 first.1 in
            let P : List ℕ → Type 0 = λ z. IsPassed (TakesMovi names) s e t text z in
            subst P opened.2 (record { bytes = first.0.0; padding = c.padding; text_is = c.text_is; long = c.long; padded_by = c.odd; takes = (p, q, λ k. opened.0) })
        on_list false l p q h = skipped_passed {Y = ℕ × ℕ} (TakesMovi names) s e text t rest (λ bytes. (p, q, λ k. absurd (let no : true ≡ false = sym k ∙ l in cc))) (rw (p, q, l) at h)

pub movi_complete : (names : Names) → Complete (visit_movi names) (TakesMovi names)
unfolding visit_movi
movi_complete names s e bytes padding t rest listed long odd takes = on_list (is_name e.name (codes "LIST")) refl takes
  where
    on_list : (l : Bool) → is_name e.name (codes "LIST") ≡ l → TakesMovi names s e.name bytes t → visit_movi names s e ((bytes ++ padding) ++ rest) ≡ Ok ((t, None), rest)
    on_list true l takes = rw (takes.0, takes.1, l) (ap (λ z. read_on z list_opened) (content_complete Looked e.size bytes padding rest long odd) ∙ rw (takes.2 l) refl)
    on_list false l takes = rw (takes.0, takes.1, l) (ap (λ z. read_on z (λ _. given (tt, None))) (skip_complete e.size bytes padding rest long odd))

-- what may stand in movi is not barred
pub stands_in : (names : Names) (name : List ℕ) → is_barred names name ≡ false → bars names name ≡ false
stands_in Any name h = refl
stands_in (Closed stream streams) name h = h

pub movi_stands : (names : Names) → Stands (rule_of names) (TakesMovi names)
movi_stands names s name bytes t takes = stands_in names name takes.0

-- if the walk of movi stops there is a frame
pub record IsFrame (names : Names) (e : Entry) (text : List ℕ) (y : ℕ × ℕ) (rest : List ℕ) : Type 0 where
  pub none_barred : is_barred names e.name ≡ false
  pub named : is_frame names e.name ≡ true
  pub short : e.size ≤ most_bytes names
  pub some : least_bytes names ≤ e.size
  pub size : y.0 ≡ e.size
  pub left : y.1 ≡ e.left
  pub behind : text ≡ rest

pub movi_stop : (names : Names) (s : Unit {0}) (e : Entry) (text : List ℕ) (t : Unit {0}) (y : ℕ × ℕ) (rest : List ℕ) → visit_movi names s e text ≡ Ok ((t, Some y), rest) → IsFrame names e text y rest
unfolding visit_movi
movi_stop names s e text t y rest h = on_names (is_barred names e.name) (is_frame names e.name) (nat_lt (most_bytes names) e.size) (nat_lt e.size (least_bytes names)) refl refl refl refl h
  where
    on_names : (a b c d : Bool) → is_barred names e.name ≡ a → is_frame names e.name ≡ b → nat_lt (most_bytes names) e.size ≡ c → nat_lt e.size (least_bytes names) ≡ d → visit_movi names s e text ≡ Ok ((t, Some y), rest) → IsFrame names e text y rest
    on_names true b c d p q r z h = absurd (cc (rw p at h))
    on_names false true true d p q r z h = absurd (cc (rw (p, q, r) at h))
    on_names false true false true p q r z h = absurd (cc (rw (p, q, r, z) at h))
    on_names false true false false p q r z h =
        let x : ℕ × ℕ = (e.size, e.left) in
        let found = ok_is ((tt, Some x), text) ((t, Some y), rest) (rw (p, q, r, z) at h) in
        let same : x ≡ y = some_is x y (ap (λ (m : M). m.0.1) found) in
        let some : least_bytes names ≤ e.size = ltb-false _ _ z in
        record { none_barred = p; named = q; short = ltb-false _ _ r; some = some; size = ap (λ (n : ℕ × ℕ). n.0) (sym same); left = ap (λ (n : ℕ × ℕ). n.1) (sym same); behind = ap (λ (m : M). m.1) found }
    on_names false false c d p q r z h = on_list (is_name e.name (codes "LIST")) refl p q h
      where
        on_list : (l : Bool) → is_name e.name (codes "LIST") ≡ l → is_barred names e.name ≡ false → is_frame names e.name ≡ false → visit_movi names s e text ≡ Ok ((t, Some y), rest) → IsFrame names e text y rest
        on_list true l p q h =
            let first = read_on_ok (content Looked e.size text) list_opened ((t, Some y), rest) (rw (p, q, l) at h) in
            absurd (no_some y (opened_sound first.0.0 first.0.1 t (Some y) rest first.2).1)
        on_list false l p q h =
            let first = read_on_ok (passed (padded e.size) text) (λ _. given (tt, None)) ((t, Some y), rest) (rw (p, q, l) at h) in
            absurd (no_some y (sym (ap (λ (m : M). m.0.1) (ok_is ((tt, None), first.0.1) ((t, Some y), rest) first.2))))

-- movi ends with no further frame
pub record IsEnd (names : Names) (left : ℕ) (text rest : List ℕ) : Type 0 where
  pub chunks : List Chunk
  pub text_is : text ≡ chunks_text chunks ++ rest
  pub each : AreTaken (opens names) chunks
  pub fit : Fit 0 chunks
  pub long : length (chunks_text chunks) ≡ left
  pub run : Run (TakesMovi names) tt chunks tt

-- the next frame, after chunks that are none
pub record IsNext (names : Names) (left : ℕ) (text bytes : List ℕ) (after : ℕ) (rest : List ℕ) : Type 0 where
  pub chunks : List Chunk
  pub frame : Chunk
  pub text_is : text ≡ chunks_text chunks ++ (chunk_text frame ++ rest)
  pub each : AreTaken (opens names) chunks
  pub fit : Fit (length (chunk_text frame) + after) chunks
  pub is : IsChunk frame
  pub bytes_are : frame.bytes ≡ bytes
  pub long : length (chunks_text chunks) + (length (chunk_text frame) + after) ≡ left
  pub run : Run (TakesMovi names) tt chunks tt
  pub none_barred : barred_in names frame ≡ false
  pub named : frame_in names frame ≡ true
  pub short : length bytes ≤ most_bytes names
  pub some : least_bytes names ≤ length bytes

abbrev pub movi_frame : Option (ℕ × ℕ) → Reading (Option (List ℕ × ℕ))
movi_frame None = given None
movi_frame (Some p) = content Kept p.0 >>= λ bytes. given (Some (bytes, p.1))

-- the next frame of a movi, with its bytes
abbrev pub movi_read : Names → ℕ → Reading (Option (List ℕ × ℕ))
movi_read names left = movi_found names left >>= movi_frame

abbrev pub NextIs : Names → ℕ → List ℕ → Option (List ℕ × ℕ) × List ℕ → Type 0
NextIs names left text (None, rest) = IsEnd names left text rest
NextIs names left text (Some p, rest) = IsNext names left text p.0 p.1 rest

pub movi_read_sound : (names : Names) (left : ℕ) (text : List ℕ) (w : Option (List ℕ × ℕ) × List ℕ) → movi_read names left text ≡ Ok w → NextIs names left text w
unfolding movi_found
movi_read_sound names left text w h =
    let first = read_on_ok (movi_found names left text) movi_frame w h in
    let second = read_on_ok (walk_in (rule_of names) (visit_movi names) left tt text) (λ p. given p.1) first.0 first.1 in
    let walked = walk_sound_in (rule_of names) (visit_movi names) (TakesMovi names) (movi_sound names) (halting (rule_of names) (visit_movi names) refl) left tt text second.0 second.1 in
    let same = ok_is (second.0.0.1, second.0.1) first.0 second.2 in
    let Q : Option (ℕ × ℕ) × List ℕ → Type 0 = λ z. movi_frame z.0 z.1 ≡ Ok w in
    on_end second.0.0.1 second.0.1 walked.chunks walked.behind walked.after walked.text_is walked.each walked.fit walked.long walked.run walked.end (subst Q (sym same) first.2)
  where
    on_end : (o : Option (ℕ × ℕ)) (more : List ℕ) (chunks : List Chunk) (behind : List ℕ) (after : ℕ) → text ≡ chunks_text chunks ++ behind → AreTaken (opens names) chunks → Fit after chunks → length (chunks_text chunks) + after ≡ left → Run (TakesMovi names) tt chunks tt →
        Ended (rule_of names) (visit_movi names) after tt behind tt o more → movi_frame o more ≡ Ok w → NextIs names left text w
    on_end None more chunks behind after whole each fit long run end k =
        let P : Option (List ℕ × ℕ) × List ℕ → Type 0 = λ z. NextIs names left text z in
        let here : IsEnd names left text more = record { chunks = chunks; text_is = whole ∙ ap (λ z. chunks_text chunks ++ z) end.2; each = each; fit = subst (λ n. Fit n chunks) end.0 fit; long = omega (arith, long, end.0); run = run } in
        subst P (ok_is (None, more) w k) here
    on_end (Some y) more chunks behind after whole each fit long run end k =
        let e = end.0 in
        let entry = headed_entry refl end.2 in
        let is = movi_stop names tt e end.1 tt y more end.3 in
        let third = read_on_ok (content Kept y.0 more) (λ bytes. given (Some (bytes, y.1))) w k in
        let c = content_sound Kept y.0 more third.0 third.1 in
        let bytes = third.0.0 in
        let size : length bytes ≡ e.size = c.long ∙ is.size in
        let odd : length c.padding ≡ length bytes % 2 = c.odd ∙ ap (λ n. n % 2) (sym c.long) in
        let frame : Chunk = record { name = e.name; size = entry.size; bytes = bytes; padding = c.padding } in
        let other = frame_no_list names e.name is.named in
        let chunk : IsChunk frame = record { named = entry.named; sized = entry.sized; counted = sym (size_whole names e.name (little_number 4 entry.size) other) ∙ entry.counted ∙ sym size; padded = odd; listed = λ l. rw size (entry.listed l) } in
        let here : text ≡ chunks_text chunks ++ (chunk_text frame ++ third.0.1) =
        whole ∙ ap (λ z. chunks_text chunks ++ z) (entry.text_is ∙ ap (λ z. (e.name ++ entry.size) ++ z) (is.behind ∙ c.text_is) ∙ regrouped (e.name ++ entry.size) bytes c.padding third.0.1) in
        let total : length (chunk_text frame) ≡ 8 + padded e.size = omega (arith, entry.named, entry.sized, size, odd, length-append ((e.name ++ entry.size) ++ bytes) c.padding, length-append (e.name ++ entry.size) bytes, length-append e.name entry.size) in
        let room : after ≡ length (chunk_text frame) + y.1 = omega (arith, entry.fits, total, is.left) in
        let next : IsNext names left text bytes y.1 third.0.1 = record { chunks = chunks; frame = frame; text_is = here; each = each; fit = subst (λ n. Fit n chunks) room fit; is = chunk; bytes_are = refl; long = omega (arith, long, entry.fits, total, is.left); run = run; none_barred = name_stands names frame is.none_barred other; named = is.named; short = rw size is.short; some = rw size is.some } in
        let P : Option (List ℕ × ℕ) × List ℕ → Type 0 = λ z. NextIs names left text z in
        let p : List ℕ × ℕ = (bytes, y.1) in
        subst P (ok_is (Some p, third.0.1) w third.2) next
      where
        regrouped : (a b c d : List ℕ) → a ++ ((b ++ c) ++ d) ≡ ((a ++ b) ++ c) ++ d
        regrouped a b c d = simp append_assoc

pub those_both : (test : Chunk → Bool) (xs ys : List Chunk) → those test (xs ++ ys) ≡ those test xs ++ those test ys
those_both test [] ys = refl
those_both test (x ∷ xs) ys = on_test (test x) refl (those_both test xs ys)
  where
    on_test : (b : Bool) → test x ≡ b → those test (xs ++ ys) ≡ those test xs ++ those test ys → those test (x ∷ (xs ++ ys)) ≡ those test (x ∷ xs) ++ those test ys
    on_test true is more = rw is (ap (λ z. x ∷ z) more)
    on_test false is more = rw is more

-- chunks that are no frames
no_frames : (names : Names) (cs : List Chunk) → Run (TakesMovi names) tt cs tt → (those (barred_in names) cs ≡ []) × (those (frame_in names) cs ≡ [])
no_frames names [] run = (refl, refl)
no_frames names (c ∷ cs) run = let more = no_frames names cs run.2 in (rw (rec_stands names c run.1.0 run.1.2) more.0, rw run.1.1 more.1)

pub none_framed : (names : Names) (cs : List Chunk) → AreTaken (opens names) cs → Run (TakesMovi names) tt cs tt → AreFrames names cs []
none_framed names cs each run =
    let none = no_frames names cs run in
    record { each = each; none_barred = none.0; those_of = ap (map (λ (c : Chunk). c.bytes)) none.1; sized = tt }

pub frames_more : (names : Names) (before behind : List Chunk) (c : Chunk) (frames : List (List ℕ)) → AreTaken (opens names) before → Run (TakesMovi names) tt before tt → IsChunk c → barred_in names c ≡ false → frame_in names c ≡ true → length c.bytes ≤ most_bytes names → least_bytes names ≤ length c.bytes →
    AreFrames names behind frames → AreFrames names (before ++ c ∷ behind) (c.bytes ∷ frames)
frames_more names before behind c frames each run is list named short some more =
    let none = no_frames names before run in
    let lists : those (barred_in names) (before ++ c ∷ behind) ≡ [] = those_both (barred_in names) before (c ∷ behind) ∙ rw (none.0, list) more.none_barred in
    let there : those (frame_in names) (before ++ c ∷ behind) ≡ c ∷ those (frame_in names) behind = those_both (frame_in names) before (c ∷ behind) ∙ rw (none.1, named) refl in
    let all : map (λ (c : Chunk). c.bytes) (those (frame_in names) (before ++ c ∷ behind)) ≡ c.bytes ∷ frames = ap (map (λ (c : Chunk). c.bytes)) there ∙ ap (λ z. c.bytes ∷ z) more.those_of in
    record { each = taken_both (opens names) before (c ∷ behind) each (taken_more (opens names) c behind (chunk_beside names c is (frame_no_list names c.name named)) more.each); none_barred = lists; those_of = all; sized = (some, short, more.sized) }

-- the frames after the end of a movi
abbrev pub frames_on : Option Place → Reading (List (List ℕ))
frames_on None = given []
frames_on (Some p) = frames_read p

-- and after a step in an RIFF or a movi without size
abbrev pub frames_stepped : Option Step → Reading (List (List ℕ))
frames_stepped None = given []
frames_stepped (Some (None, p)) = frames_read p
frames_stepped (Some (Some size, p)) = found_read (Some (size, p)) >>= more_frames frames_read

abbrev pub frames_beyond : Open → Place → Reading (List (List ℕ))
frames_beyond Sized place = moved place >>= frames_on
frames_beyond OpenRiff place = open_found place >>= frames_stepped
frames_beyond OpenMovi place = open_found place >>= frames_stepped

abbrev pub frames_after : Place → Reading (List (List ℕ))
frames_after place = frames_beyond place.open_in place

-- a position at which movi has so many bytes left, and so many frames are owed
abbrev pub placed : Place → ℕ → ℕ → Place
placed place movi owed = record { input = place.input; riff = place.riff; movi = movi; names = place.names; owed = owed; open_in = place.open_in }

-- what is after a movi does not depend on its bytes
begun_same : (place : Place) (movi : ℕ) (text : List ℕ) → riff_begun place text ≡ riff_begun (placed place movi place.owed) text
unfolding riff_begun
begun_same place movi text = refl

moved_by_same : (extent : Extent) (place : Place) (movi : ℕ) (text : List ℕ) → moved_by extent place text ≡ moved_by extent (placed place movi place.owed) text
moved_by_same FirstMovi place movi text = refl
moved_by_same EveryRiff place movi text = on_found (movi_sought place.names place.riff text)
  where
    on_found : (z : Result (Option (ℕ × ℕ) × List ℕ) Stop) → read_on z (movi_or_riff place) ≡ read_on z (movi_or_riff (placed place movi place.owed))
    on_found (Err why) = refl
    on_found (Ok (None, rest)) = begun_same place movi rest
    on_found (Ok (Some p, rest)) = refl

pub moved_same : (place : Place) (movi owed : ℕ) → place.owed ≡ owed → (text : List ℕ) → moved place text ≡ moved (placed place movi owed) text
unfolding moved
moved_same place movi owed is text = moved_by_same (extent_of place) place movi text ∙ ap (λ n. moved_by (extent_of place) (placed place movi n) text) is

open_same_at : (place : Place) (movi : ℕ) (text : List ℕ) → open_found place text ≡ open_found (placed place movi place.owed) text
unfolding open_found open_named
open_same_at place movi text = refl

open_same : (place : Place) (movi owed : ℕ) → place.owed ≡ owed → (text : List ℕ) → open_found place text ≡ open_found (placed place movi owed) text
open_same place movi owed is text = open_same_at place movi text ∙ ap (λ n. open_found (placed place movi n) text) is

beyond_same : (o : Open) (place : Place) (movi owed : ℕ) → place.owed ≡ owed → (text : List ℕ) → frames_beyond o place text ≡ frames_beyond o (placed place movi owed) text
beyond_same Sized place movi owed is text = ap (λ z. read_on z frames_on) (moved_same place movi owed is text)
beyond_same OpenRiff place movi owed is text = ap (λ z. read_on z frames_stepped) (open_same place movi owed is text)
beyond_same OpenMovi place movi owed is text = ap (λ z. read_on z frames_stepped) (open_same place movi owed is text)

pub after_same : (place : Place) (movi owed : ℕ) → place.owed ≡ owed → (text : List ℕ) → frames_after place text ≡ frames_after (placed place movi owed) text
after_same place movi owed is text = beyond_same place.open_in place movi owed is text

found_beyond : (o : Open) (place : Place) (movi : ℕ) (text : List ℕ) → beyond o frame_found place text ≡ beyond o frame_found (placed place movi place.owed) text
found_beyond Sized place movi text = ap (λ z. read_on z (sought_on frame_found)) (moved_same place movi place.owed refl text)
found_beyond OpenRiff place movi text = ap (λ z. read_on z (stepped frame_found)) (open_same place movi place.owed refl text)
found_beyond OpenMovi place movi text = ap (λ z. read_on z (stepped frame_found)) (open_same place movi place.owed refl text)

pub found_same : (place : Place) (movi : ℕ) (z : Result (Option (ℕ × ℕ) × List ℕ) Stop) → read_on z (found_or_on frame_found place) ≡ read_on z (found_or_on frame_found (placed place movi place.owed))
found_same place movi (Err why) = refl
found_same place movi (Ok (Some p, rest)) = refl
found_same place movi (Ok (None, rest)) = found_beyond place.open_in place movi rest

-- the first frame after a movi, and the others
beyond_frames : (o : Open) (place : Place) (more : List ℕ) → read_on (read_on (beyond o frame_found place more) found_read) (more_frames frames_read) ≡ frames_beyond o place more
beyond_frames Sized place more = on_moved (moved place more)
  where
    on_moved : (z : Result (Option Place × List ℕ) Stop) → read_on (read_on (read_on z (sought_on frame_found)) found_read) (more_frames frames_read) ≡ read_on z frames_on
    on_moved (Err why) = refl
    on_moved (Ok (None, rest)) = refl
    on_moved (Ok (Some p, rest)) = sym (frames_step p rest)
beyond_frames OpenRiff place more = on_step (open_found place more)
  where
    on_step : (z : Result (Option Step × List ℕ) Stop) → read_on (read_on (read_on z (stepped frame_found)) found_read) (more_frames frames_read) ≡ read_on z frames_stepped
    on_step (Err why) = refl
    on_step (Ok (None, rest)) = refl
    on_step (Ok (Some (None, p), rest)) = sym (frames_step p rest)
    on_step (Ok (Some (Some n, p), rest)) = refl
beyond_frames OpenMovi place more = on_step (open_found place more)
  where
    on_step : (z : Result (Option Step × List ℕ) Stop) → read_on (read_on (read_on z (stepped frame_found)) found_read) (more_frames frames_read) ≡ read_on z frames_stepped
    on_step (Err why) = refl
    on_step (Ok (None, rest)) = refl
    on_step (Ok (Some (None, p), rest)) = sym (frames_step p rest)
    on_step (Ok (Some (Some n, p), rest)) = refl

-- no frame is left in movi
pub frames_none : (place : Place) (text more : List ℕ) → movi_found place.names place.movi text ≡ Ok (None, more) → frames_read place text ≡ frames_after place more
frames_none place text more is =
    frames_step place text
    ∙ ap (λ z. read_on (read_on z found_read) (more_frames frames_read)) (frame_step place text ∙ ap (λ z. read_on z (found_or_on frame_found place)) is)
    ∙ beyond_frames place.open_in place more

-- or one is
pub frame_next : (place : Place) (text : List ℕ) (p : List ℕ × ℕ) (rest : List ℕ) → movi_read place.names place.movi text ≡ Ok (Some p, rest) → frame_read place text ≡ Ok (Some (p.0, frame_at place p.1), rest)
frame_next place text p rest h = ap (λ z. read_on z found_read) (frame_step place text) ∙ on_found (movi_found place.names place.movi text) h
  where
    Framed : Type 0
    Framed = Option (List ℕ × Place) × List ℕ

    on_found : (z : Result (Option (ℕ × ℕ) × List ℕ) Stop) → read_on z movi_frame ≡ Ok (Some p, rest) → read_on (read_on z (found_or_on frame_found place)) found_read ≡ Ok (Some (p.0, frame_at place p.1), rest)
    on_found (Err why) k = absurd (cc)
    on_found (Ok (None, more)) k = absurd (no_some p (sym (ap (λ (z : Option (List ℕ × ℕ) × List ℕ). z.0) (ok_is (None, more) (Some p, rest) k))))
    on_found (Ok (Some y, more)) k =
        let first = read_on_ok (content Kept y.0 more) (λ bytes. given (Some (bytes, y.1))) (Some p, rest) k in
        let made : List ℕ × ℕ = (first.0.0, y.1) in
        let both = ok_is (Some made, first.0.1) (Some p, rest) first.2 in
        let same : made ≡ p = some_is made p (ap (λ (z : Option (List ℕ × ℕ) × List ℕ). z.0) both) in
        let here : Framed → Result Framed Stop = λ z. Ok z in
        ap (λ z. read_on z (λ bytes. given (Some (bytes, frame_at place y.1)))) first.1
        ∙ ap (λ (q : List ℕ × ℕ). here (Some (q.0, frame_at place q.1), first.0.1)) same
        ∙ ap (λ r. here (Some (p.0, frame_at place p.1), r)) (ap (λ (z : Option (List ℕ × ℕ) × List ℕ). z.1) both)

-- what is read as frames are those of the chunks of movi, and those after it
pub record MoviPart (place : Place) (text : List ℕ) (frames : List (List ℕ)) (rest : List ℕ) : Type 0 where
  pub chunks : List Chunk
  pub more : List ℕ
  pub here : List (List ℕ)
  pub later : List (List ℕ)
  pub text_is : text ≡ chunks_text chunks ++ more
  pub long : length (chunks_text chunks) ≡ place.movi
  pub fit : Fit 0 chunks
  pub framed : AreFrames place.names chunks here
  pub parted : frames ≡ here ++ later
  pub after : frames_after (placed place 0 (place.owed - length here)) more ≡ Ok (later, rest)

err_is_no_ok : {X : Type 0} (why : Stop) (p : X × List ℕ) → ◌≡◌ {A = Result (X × List ℕ) Stop} (Err why) (Ok p) → ⊥
err_is_no_ok why p e = absurd (cc)

-- what the record says of a first frame and of the others
part_more : (place : Place) (text bytes : List ℕ) (left : ℕ) (more : List ℕ) (frames : List (List ℕ)) (rest : List ℕ) → IsNext place.names place.movi text bytes left more → MoviPart (frame_at place left) more frames rest → MoviPart place text (bytes ∷ frames) rest
part_more place text bytes left more frames rest next part =
    let c = next.frame in
    let chunks = next.chunks ++ c ∷ part.chunks in
    let apart : chunks_text chunks ≡ chunks_text next.chunks ++ (chunk_text c ++ chunks_text part.chunks) = flat_map-append chunk_text next.chunks (c ∷ part.chunks) in
    let whole : text ≡ chunks_text chunks ++ part.more = next.text_is ∙ ap (λ z. chunks_text next.chunks ++ (chunk_text c ++ z)) part.text_is ∙ regrouped (chunks_text next.chunks) (chunk_text c) (chunks_text part.chunks) part.more ∙ ap (λ z. z ++ part.more) (sym apart) in
    let long : length (chunks_text chunks) ≡ place.movi = ap length apart ∙ length-append (chunks_text next.chunks) (chunk_text c ++ chunks_text part.chunks) ∙ (omega (arith, next.long, part.long, length-append (chunk_text c) (chunks_text part.chunks))) in
    let first : 8 + padded (little_number 4 c.size) ≤ length (chunks_text (c ∷ part.chunks)) + 0 = omega (arith, chunk_fits c 0 next.is, length-append (chunk_text c) (chunks_text part.chunks)) in
    let behind : length (chunk_text c) + left ≤ length (chunks_text (c ∷ part.chunks)) + 0 = omega (arith, part.long, length-append (chunk_text c) (chunks_text part.chunks)) in
    let fit : Fit 0 chunks = fit_both 0 (length (chunk_text c) + left) next.chunks (c ∷ part.chunks) behind next.fit (first, part.fit) in
    let short : length c.bytes ≤ most_bytes place.names = rw next.bytes_are next.short in
    let some : least_bytes place.names ≤ length c.bytes = rw next.bytes_are next.some in
    let framed = frames_more place.names next.chunks part.chunks c part.here next.each next.run next.is next.none_barred next.named short some part.framed in
    let Q : List ℕ → Type 0 = λ b. AreFrames place.names chunks (b ∷ part.here) in
    let owes : place.owed - 1 - length part.here ≡ place.owed - suc (length part.here) = omega arith in
    let R : ℕ → Type 0 = λ n. frames_after (placed place 0 n) part.more ≡ Ok (part.later, rest) in
    record { chunks = chunks; more = part.more; here = bytes ∷ part.here; later = part.later; text_is = whole; long = long; fit = fit; framed = subst Q next.bytes_are framed; parted = ap (λ z. bytes ∷ z) part.parted; after = subst R owes part.after }
  where
    regrouped : (a b c d : List ℕ) → a ++ (b ++ (c ++ d)) ≡ (a ++ (b ++ c)) ++ d
    regrouped a b c d = simp append_assoc

abbrev Shorter : Place → Type 0
Shorter place = (p : Place) (more : List ℕ) (v : List (List ℕ) × List ℕ) → p.movi < place.movi → frames_read p more ≡ Ok v → MoviPart p more v.0 v.1

part_step : (place : Place) (text : List ℕ) (w : List (List ℕ) × List ℕ) → Shorter place → frames_read place text ≡ Ok w → MoviPart place text w.0 w.1
part_step place text w again h = on_found (movi_found place.names place.movi text) refl
  where
    P : List (List ℕ) × List ℕ → Type 0
    P z = MoviPart place text z.0 z.1

    read : read_on (frame_read place text) (more_frames frames_read) ≡ Ok w
    read = sym (frames_step place text) ∙ h

    on_found : (z : Result (Option (ℕ × ℕ) × List ℕ) Stop) → movi_found place.names place.movi text ≡ z → P w
    on_found (Err why) is =
        let none : frame_read place text ≡ Err why = ap (λ z. read_on z found_read) (frame_step place text ∙ ap (λ z. read_on z (found_or_on frame_found place)) is) in
        absurd (err_is_no_ok why w (sym (ap (λ z. read_on z (more_frames frames_read)) none) ∙ read))
    on_found (Ok (None, more)) is =
        let end = movi_read_sound place.names place.movi text (None, more) (ap (λ z. read_on z movi_frame) is) in
        let after : frames_after place more ≡ Ok w = sym (frames_none place text more is) ∙ h in
        let same : frames_after (placed place 0 (place.owed - 0)) more ≡ Ok w = sym (after_same place 0 (place.owed - 0) (omega arith) more) ∙ after in
        record { chunks = end.chunks; more = more; here = []; later = w.0; text_is = end.text_is; long = end.long; fit = end.fit; framed = none_framed place.names end.chunks end.each end.run; parted = refl; after = same }
    on_found (Ok (Some y, more)) is =
        let found : frame_read place text ≡ (content Kept y.0 >>= λ bytes. given (Some (bytes, frame_at place y.1))) more = ap (λ z. read_on z found_read) (frame_step place text ∙ ap (λ z. read_on z (found_or_on frame_found place)) is) in
        let first = read_on_ok (frame_read place text) (more_frames frames_read) w read in
        let second = read_on_ok (content Kept y.0 more) (λ bytes. given (Some (bytes, frame_at place y.1))) first.0 (sym found ∙ first.1) in
        let bytes = second.0.0 in
        let behind = second.0.1 in
        let p : List ℕ × ℕ = (bytes, y.1) in
        let q : List ℕ × Place = (bytes, frame_at place y.1) in
        let there : movi_read place.names place.movi text ≡ Ok (Some p, behind) = ap (λ z. read_on z movi_frame) is ∙ ap (λ z. read_on z (λ bytes. given (Some (bytes, y.1)))) second.1 in
        let next = movi_read_sound place.names place.movi text (Some p, behind) there in
        let Q : Option (List ℕ × Place) × List ℕ → Type 0 = λ z. more_frames frames_read z.0 z.1 ≡ Ok w in
        let others : (frames_read (frame_at place y.1) >>= λ frames. given (bytes ∷ frames)) behind ≡ Ok w = subst Q (sym (ok_is (Some q, behind) first.0 second.2)) first.2 in
        let third = read_on_ok (frames_read (frame_at place y.1) behind) (λ frames. given (bytes ∷ frames)) w others in
        let c = next.frame in
        let less : y.1 < place.movi = omega (arith, next.long, next.is.named, length-append ((c.name ++ c.size) ++ c.bytes) c.padding, length-append (c.name ++ c.size) c.bytes, length-append c.name c.size) in
        let part = again (frame_at place y.1) behind third.0 less third.1 in
        subst P (ok_is (bytes ∷ third.0.0, third.0.1) w third.2) (part_more place text bytes y.1 behind third.0.0 third.0.1 next part)

movi_part_up_to : (most : ℕ) (place : Place) (text : List ℕ) (w : List (List ℕ) × List ℕ) → place.movi ≤ most → frames_read place text ≡ Ok w → MoviPart place text w.0 w.1
movi_part_up_to zero place text w enough h = part_step place text w (λ p more v less k. absurd (omega (arith, enough, less))) h
movi_part_up_to (suc most) place text w enough h = part_step place text w (λ p more v less k. movi_part_up_to most p more v (omega (arith, enough, less)) k) h

-- the frames of a position are those of its movi, and those after it
pub movi_part : (place : Place) (text : List ℕ) (w : List (List ℕ) × List ℕ) → frames_read place text ≡ Ok w → MoviPart place text w.0 w.1
movi_part place text w h = movi_part_up_to place.movi place text w (omega arith) h
