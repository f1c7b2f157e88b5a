-- What is read of an RIFF or a movi without size is what stands there to the end of the input.
use Rattle.std.proofs.Common.{◌≡◌, inl, inr, ℕ, suc, zero, ◌+◌, ◌-◌, ◌%◌, ◌≤◌, ◌<◌, Bool, true, false, Option, Some, None, Result, Ok, List, [], ◌∷◌, ◌++◌, length, codes, ap, ◌∙◌, sym, subst, arith, refl, append_assoc, length-append}
use Rattle.std.specs.Cmp.Lexicographic.{same_text}
use Rattle.byteorder.specs.Endian.{little_number}
use Rattle.ffv1_avi.specs.declared.chunk.Entry.{Entry}
use Rattle.ffv1_avi.specs.declared.place.Extent.TheVariants.{EveryRiff}
use Rattle.ffv1_avi.specs.declared.place.Names.{Names}
use Rattle.ffv1_avi.specs.declared.place.Open.{Open}
use Rattle.ffv1_avi.specs.declared.place.Open.TheVariants.{Sized, OpenRiff, OpenMovi}
use Rattle.ffv1_avi.specs.declared.place.Place.{Place}
use Rattle.ffv1_avi.specs.Chunks.{AreFrames, AreTaken, Chunk, IsChunk, chunk_text, chunks_text}
use Rattle.ffv1_avi.specs.Files.{found_read, frames_read, more_frames}
use Rattle.ffv1_avi.specs.Names.{least_bytes, most_bytes, opens, riff_rule, rule_of}
use Rattle.ffv1_avi.specs.OpenFiles.{ArePieces, IsPiece, Piece, leads_to, piece_chunks, piece_text, pieces_chunks, pieces_text}
use Rattle.ffv1_avi.specs.Opens.{Step, goes_on, open_found, open_framed, open_passed, visit_movi, visit_riff}
use Rattle.ffv1_avi.specs.Padding.{content, padded}
use Rattle.ffv1_avi.specs.Places.{amount, is_open, open_at, open_frame_at}
use Rattle.ffv1_avi.specs.Riffs.{Section}
use Rattle.ffv1_avi.specs.Walk.{entry_of, is_known, is_name, is_sizeless, size_in}
use Rattle.ffv1_reads.specs.Reads.{Kept, Stop, given, ◌>>=◌}
use Rattle.ffv1_reads.proofs.Results.{ok_is, read_on_ok, some_is}
use Rattle.ffv1_avi.proofs.FrameLaws.{frames_after, frames_beyond, frames_more, frames_none, frames_stepped, movi_part, movi_sound, movi_stop, none_framed, placed}
use Rattle.ffv1_avi.proofs.Moves.{movi_empty, step_less}
use Rattle.ffv1_avi.proofs.OpenCases.{IsAhead, IsBare, IsFurther, IsOfMovi, IsOfRiff, IsStep, OpenCase, open_case}
use Rattle.ffv1_avi.proofs.OpenedLists.{name_stands, frame_no_list, size_whole}
use Rattle.ffv1_avi.proofs.PassedBytes.{content_sound}
use Rattle.ffv1_avi.proofs.RiffLaws.{framed_both, riff_sound, riff_stop}
use Rattle.ffv1_avi.proofs.TakenChunks.{as_taken, size_fits, size_listed, taken_even, taken_none, taken_one, text_long}

-- what stands there, and the frames among it
pub record OpenRest (names : Names) (input owed : ℕ) (open_in : Open) (text : List ℕ) (frames : List (List ℕ)) (rest : List ℕ) : Type 0 where
  pub pieces : List Piece
  pub text_is : text ≡ pieces_text pieces
  pub are : ArePieces names input open_in pieces
  pub framed : AreFrames names (pieces_chunks pieces) frames
  pub enough : owed ≤ length frames
  pub none : rest ≡ []

abbrev pub RestOf : Place → List ℕ → List (List ℕ) → List ℕ → Type 0
RestOf place text frames rest = OpenRest place.names place.input place.owed place.open_in text frames rest

-- one more before it
before_rest : (names : Names) (input owed : ℕ) (open_in : Open) (p : Piece) (text more : List ℕ) (here later : List (List ℕ)) (rest : List ℕ) → IsPiece names input open_in p → text ≡ piece_text p ++ more → AreFrames names (piece_chunks p) here →
    OpenRest names (input - length (piece_text p)) (owed - length here) (leads_to p) more later rest → OpenRest names input owed open_in text (here ++ later) rest
before_rest names input owed open_in p text more here later rest is whole framed next =
    let all : text ≡ piece_text p ++ pieces_text next.pieces = whole ∙ ap (λ z. piece_text p ++ z) next.text_is in
    let both = framed_both names (piece_chunks p) (pieces_chunks next.pieces) here later framed next.framed in
    record { pieces = p ∷ next.pieces; text_is = all; are = (is, next.are); framed = both; enough = omega (arith, next.enough, length-append here later); none = next.none }

rest_at : (names : Names) (m n o k : ℕ) (open_in : Open) (text : List ℕ) (frames : List (List ℕ)) (rest : List ℕ) → m ≡ n → o ≡ k → OpenRest names m o open_in text frames rest → OpenRest names n k open_in text frames rest
rest_at names m n o k open_in text frames rest inputs owes h =
    let P : ℕ → Type 0 = λ z. OpenRest names z o open_in text frames rest in
    let Q : ℕ → Type 0 = λ z. OpenRest names n z open_in text frames rest in
    subst Q owes (subst P inputs h)

no_frames : (names : Names) → AreFrames names [] []
no_frames names = record { each = taken_none (opens names); none_barred = refl; those_of = refl; sized = tt }

abbrev Fewer : Place → Type 0
Fewer place = (p : Place) (text : List ℕ) (v : List (List ℕ) × List ℕ) → amount p < amount place → is_open p.open_in ≡ true → 0 < p.input → frames_after p text ≡ Ok v → RestOf p text v.0 v.1

-- frames that are read in a place without a movi are those after it
pub read_after : (next : Place) (text : List ℕ) (w : List (List ℕ) × List ℕ) → next.movi ≡ 0 → frames_read next text ≡ Ok w → frames_after next text ≡ Ok w
read_after next text w none h =
    let empty = ap (λ n. Rattle.ffv1_avi.specs.Files.movi_found next.names n text) none ∙ movi_empty next.names text in
    sym (frames_none next text text empty) ∙ h

module _ (place : Place) (text : List ℕ) (w : List (List ℕ) × List ℕ) (again : Fewer place) where
  abbrev P : List (List ℕ) × List ℕ → Type 0
  P z = RestOf place text z.0 z.1

  -- a further RIFF
  on_further : (next : Place) (more : List ℕ) → amount next < amount place → IsFurther place text next more → frames_read next more ≡ Ok w → P w
  on_further next more less is h =
      let q = open_at place OpenRiff (place.input - 12) 0 in
      let R : Place → Type 0 = λ z. frames_read z more ≡ Ok w in
      let L : Place → Type 0 = λ z. amount z < amount place in
      let later = again q more w (subst L is.place_is less) refl (omega (arith, is.fits)) (read_after q more w refl (subst R is.place_is h)) in
      let long : length (codes "RIFF" ++ is.size ++ codes "AVIX") ≡ 12 = length-append (codes "RIFF" ++ is.size) (codes "AVIX") ∙ ap (λ n. n + length (codes "AVIX")) (length-append (codes "RIFF") is.size) ∙ (omega (arith, is.sized, spelled)) in
      before_rest place.names place.input place.owed place.open_in (Piece.Further is.size) text more [] w.0 w.1 (is.sized, is.fits) is.text_is (no_frames place.names)
      (rest_at place.names (place.input - 12) (place.input - length (codes "RIFF" ++ is.size ++ codes "AVIX")) place.owed (place.owed - 0) OpenRiff more w.0 w.1 (omega (arith, long)) (omega arith) later)
    where
      spelled : (length (codes "RIFF") ≡ 4) × (length (codes "AVIX") ≡ 4)
      spelled = (refl, refl)

  -- a movi without size
  on_bare : (next : Place) (more : List ℕ) → amount next < amount place → IsBare place text next more → frames_read next more ≡ Ok w → P w
  on_bare next more less is h =
      let q = open_at place OpenMovi (place.input - 12) 0 in
      let R : Place → Type 0 = λ z. frames_read z more ≡ Ok w in
      let L : Place → Type 0 = λ z. amount z < amount place in
      let later = again q more w (subst L is.place_is less) refl (omega (arith, is.fits)) (read_after q more w refl (subst R is.place_is h)) in
      let long : length (codes "LIST" ++ is.size ++ codes "movi") ≡ 12 = length-append (codes "LIST" ++ is.size) (codes "movi") ∙ ap (λ n. n + length (codes "movi")) (length-append (codes "LIST") is.size) ∙ (omega (arith, is.sized, spelled)) in
      before_rest place.names place.input place.owed place.open_in (Piece.Unsized is.size) text more [] w.0 w.1 (is.sized, is.unknown, is.stays, is.fits) is.text_is (no_frames place.names)
      (rest_at place.names (place.input - 12) (place.input - length (codes "LIST" ++ is.size ++ codes "movi")) place.owed (place.owed - 0) OpenMovi more w.0 w.1 (omega (arith, long)) (omega arith) later)
    where
      spelled : (length (codes "LIST") ≡ 4) × (length (codes "movi") ≡ 4)
      spelled = (refl, refl)

  -- a list that is not without size has a known one
  known_list : (name : List ℕ) (n : ℕ) → is_sizeless (riff_rule EveryRiff) name n ≡ false → is_name name (codes "LIST") ≡ true → is_known n ≡ true
  known_list name n known list = on_known (is_known n) refl
    where
      on_known : (b : Bool) → is_known n ≡ b → is_known n ≡ true
      on_known true p = p
      on_known false p = absurd (let no : true ≡ false = rw (list, p) at known in cc)

  -- a chunk of RIFF
  on_riff : (next : Place) (more : List ℕ) → amount next < amount place → IsOfRiff place text next more → frames_read next more ≡ Ok w → P w
  on_riff next more less is h = on_found is.found is.visit (subst L is.place_is less) (subst R is.place_is h)
    where
      n : ℕ
      n = little_number 4 is.size

      left : ℕ
      left = place.input - 1 - (8 + padded n)

      e : Entry
      e = entry_of (place.input - 1) is.name n

      R : Place → Type 0
      R z = frames_read z more ≡ Ok w

      L : Place → Type 0
      L z = amount z < amount place

      on_found : (o : Option (ℕ × ℕ)) → visit_riff place.names tt e is.middle ≡ Ok ((tt, o), more) → amount (open_passed place left o) < amount place → frames_read (open_passed place left o) more ≡ Ok w → P w
      on_found None visit less h =
          let passed = riff_sound place.names tt e is.middle tt more is.room visit in
          let c : Chunk = record { name = is.name; size = is.size; bytes = passed.bytes; padding = passed.padding } in
          let odd : length passed.padding ≡ length passed.bytes % 2 = rw passed.long passed.padded_by in
          let chunk : IsChunk c = record { named = is.named; sized = is.sized; counted = sym passed.long; padded = odd; listed = λ l. omega (arith, is.room l, passed.long) } in
          let long = text_long c is.named is.sized odd in
          let whole : text ≡ chunk_text c ++ more = is.text_is ∙ ap (λ z. (is.name ++ is.size) ++ z) passed.text_is ∙ regrouped (is.name ++ is.size) passed.bytes passed.padding more in
          let q = open_passed place left None in
          let later = again q more w less refl (omega arith) (read_after q more w refl h) in
          let input : left + 1 ≡ place.input - length (chunk_text c) = omega (arith, long, passed.long, is.whole) in
          before_rest place.names place.input place.owed place.open_in (Piece.Within (Section.Other c)) text more [] w.0 w.1 ((chunk, passed.takes.0, passed.takes.1), is.no_riff, known_list is.name n is.known, is.stays, omega (arith, is.whole)) whole (no_frames place.names)
          (rest_at place.names (left + 1) (place.input - length (chunk_text c)) place.owed (place.owed - 0) OpenRiff more w.0 w.1 input (omega arith) later)
        where
          regrouped : (a b c d : List ℕ) → a ++ ((b ++ c) ++ d) ≡ ((a ++ b) ++ c) ++ d
          regrouped a b c d = simp append_assoc
      on_found (Some p) visit less h =
          let stop = riff_stop place.names tt e is.middle tt p more visit in
          let q = open_passed place left (Some p) in
          let part = movi_part q more w h in
          let over = placed q 0 (q.owed - length part.here) in
          let named : is.name ≡ codes "LIST" = same_text is.name (codes "LIST") (sym stop.list) in
          let room = is.room stop.list in
          let counted : n ≡ 4 + length (chunks_text part.chunks) = omega (arith, part.long, stop.size, room) in
          let even : length (chunks_text part.chunks) % 2 ≡ 0 = taken_even (opens place.names) part.chunks part.framed.each in
          let later = again over part.more (part.later, w.1) (omega (arith, less)) refl (omega arith) part.after in
          let front = codes "LIST" ++ is.size ++ codes "movi" in
          let long : length front ≡ 12 = length-append (codes "LIST" ++ is.size) (codes "movi") ∙ ap (λ n. n + length (codes "movi")) (length-append (codes "LIST") is.size) ∙ (omega (arith, is.sized, spelled)) in
          let whole : text ≡ (front ++ chunks_text part.chunks) ++ part.more =
          is.text_is ∙ ap (λ z. (z ++ is.size) ++ is.middle) named ∙ ap (λ z. (codes "LIST" ++ is.size) ++ z) stop.text_is ∙ sym (append_assoc (codes "LIST" ++ is.size) (codes "movi") more) ∙ ap (λ z. front ++ z) part.text_is ∙ sym (append_assoc front (chunks_text part.chunks) part.more) in
          let total : length (front ++ chunks_text part.chunks) ≡ 12 + length (chunks_text part.chunks) = length-append front (chunks_text part.chunks) ∙ ap (λ n. n + length (chunks_text part.chunks)) long in
          let input : left + 1 ≡ place.input - length (front ++ chunks_text part.chunks) = omega (arith, total, counted, even, is.whole) in
          let K : List ℕ → Type 0 = λ z. goes_on place.open_in z ≡ false in
          let Q : List (List ℕ) → Type 0 = λ z. RestOf place text z w.1 in
          subst Q (sym part.parted)
          (before_rest place.names place.input place.owed place.open_in (Piece.Within (Section.Movi is.size part.chunks)) text part.more part.here part.later w.1 ((is.sized, counted, part.fit), known_list is.name n is.known stop.list, subst K named is.stays, omega (arith, is.whole)) whole part.framed
          (rest_at place.names (left + 1) (place.input - length (front ++ chunks_text part.chunks)) (place.owed - length part.here) (place.owed - length part.here) OpenRiff part.more part.later w.1 input refl later))
        where
          spelled : (length (codes "LIST") ≡ 4) × (length (codes "movi") ≡ 4)
          spelled = (refl, refl)

  on_ahead : (next : Place) (more : List ℕ) → amount next < amount place → IsAhead place text next more → frames_read next more ≡ Ok w → P w
  on_ahead next more less (inl is) h = on_further next more less is h
  on_ahead next more less (inr (inl is)) h = on_riff next more less is h
  on_ahead next more less (inr (inr is)) h = on_bare next more less is h

  -- a chunk of movi
  on_movi : (s : Step) (more : List ℕ) → amount s.1 < amount place → IsOfMovi place text s more → frames_stepped (Some s) more ≡ Ok w → P w
  on_movi s more less is h = on_found is.found is.visit is.step
    where
      n : ℕ
      n = little_number 4 is.size

      k : ℕ
      k = size_in (rule_of place.names) is.name n

      e : Entry
      e = entry_of (place.input - 1) is.name k

      left : ℕ
      left = place.input - 1 - (8 + padded k)

      fits : padded k ≤ padded n
      fits = size_fits (rule_of place.names) is.name n is.room

      S : Step → Type 0
      S z = (amount z.1 < amount place) × (frames_stepped (Some z) more ≡ Ok w)

      is_step : (o : Option Step) → ◌≡◌ {A = Result (Option Step × List ℕ) Stop} (Ok (o, more)) (Ok (Some s, more)) → Some s ≡ o
      is_step o q = sym (ap (λ (z : Option Step × List ℕ). z.0) (ok_is (o, more) (Some s, more) q))

      regrouped : (a b c d : List ℕ) → a ++ ((b ++ c) ++ d) ≡ ((a ++ b) ++ c) ++ d
      regrouped a b c d = simp append_assoc

      on_found : (o : Option (ℕ × ℕ)) → visit_movi place.names tt e is.middle ≡ Ok ((tt, o), more) → open_framed place left o more ≡ Ok (Some s, more) → P w
      on_found None visit step =
          let q = open_at place OpenMovi (left + 1) 0 in
          let made : Step = (None, q) in
          let there = subst S (some_is s made (is_step (Some made) step)) (less, h) in
          let listed = size_listed (rule_of place.names) is.name n is.room in
          let passed = movi_sound place.names tt e is.middle tt more listed visit in
          let c : Chunk = record { name = is.name; size = is.size; bytes = passed.bytes; padding = passed.padding } in
          let odd : length passed.padding ≡ length passed.bytes % 2 = rw passed.long passed.padded_by in
          let taken = as_taken (rule_of place.names) c is.named is.sized (sym passed.long) odd is.room (λ l. omega (arith, listed l, passed.long)) in
          let long = text_long c is.named is.sized odd in
          let whole : text ≡ chunk_text c ++ more = is.text_is ∙ ap (λ z. (is.name ++ is.size) ++ z) passed.text_is ∙ regrouped (is.name ++ is.size) passed.bytes passed.padding more in
          let later = again q more w there.0 refl (omega arith) (read_after q more w refl there.1) in
          let input : left + 1 ≡ place.input - length (chunk_text c) = omega (arith, long, passed.long, is.whole, fits) in
          let one : AreTaken (opens place.names) (c ∷ []) = taken_one (opens place.names) c taken in
          before_rest place.names place.input place.owed place.open_in (Piece.Beside c) text more [] w.0 w.1 (one, is.no_riff, is.goes, omega (arith, is.whole)) whole (none_framed place.names (c ∷ []) one (tt, passed.takes, refl))
          (rest_at place.names (left + 1) (place.input - length (chunk_text c)) place.owed (place.owed - 0) OpenMovi more w.0 w.1 input (omega arith) later)
      on_found (Some y) visit step =
          let q = open_frame_at place (y.1 + 1) in
          let made : Step = (Some y.0, q) in
          let there = subst S (some_is s made (is_step (Some made) step)) (less, h) in
          let frame = movi_stop place.names tt e is.middle tt y more visit in
          let first = read_on_ok (found_read (Some (y.0, q)) more) (more_frames frames_read) w there.1 in
          let second = read_on_ok (content Kept y.0 more) (λ bytes. given (Some (bytes, q))) first.0 first.1 in
          let c = content_sound Kept y.0 more second.0 second.1 in
          let bytes = second.0.0 in
          let behind = second.0.1 in
          let read : List ℕ × Place = (bytes, q) in
          let N : Option (List ℕ × Place) × List ℕ → Type 0 = λ z. more_frames frames_read z.0 z.1 ≡ Ok w in
          let others : (frames_read q >>= λ frames. given (bytes ∷ frames)) behind ≡ Ok w = subst N (sym (ok_is (Some read, behind) first.0 second.2)) first.2 in
          let third = read_on_ok (frames_read q behind) (λ frames. given (bytes ∷ frames)) w others in
          let later = again q behind third.0 there.0 refl (omega arith) (read_after q behind third.0 refl third.1) in
          let other = frame_no_list place.names is.name frame.named in
          let same : k ≡ n = size_whole place.names is.name n other in
          let size : length bytes ≡ k = c.long ∙ frame.size in
          let odd : length c.padding ≡ length bytes % 2 = c.odd ∙ ap (λ n. n % 2) (sym c.long) in
          let chunk : Chunk = record { name = is.name; size = is.size; bytes = bytes; padding = c.padding } in
          let is_chunk : IsChunk chunk = record { named = is.named; sized = is.sized; counted = sym (size ∙ same); padded = odd; listed = λ l. absurd (let no : true ≡ false = sym l ∙ other in cc) } in
          let long = text_long chunk is.named is.sized odd in
          let whole : text ≡ chunk_text chunk ++ behind = is.text_is ∙ ap (λ z. (is.name ++ is.size) ++ z) (frame.behind ∙ c.text_is) ∙ regrouped (is.name ++ is.size) bytes c.padding behind in
          let stands = name_stands place.names chunk frame.none_barred other in
          let short : length bytes ≤ most_bytes place.names = omega (arith, size, frame.short) in
          let some : least_bytes place.names ≤ length bytes = omega (arith, size, frame.some) in
          let framed = frames_more place.names [] [] chunk [] (taken_none (opens place.names)) refl is_chunk stands frame.named short some (no_frames place.names) in
          let input : y.1 + 1 ≡ place.input - length (chunk_text chunk) = omega (arith, long, size, same, is.whole, frame.left) in
          let Q : List (List ℕ) × List ℕ → Type 0 = λ z. RestOf place text z.0 z.1 in
          subst Q (ok_is (bytes ∷ third.0.0, third.0.1) w third.2)
          (before_rest place.names place.input place.owed place.open_in (Piece.Beside chunk) text behind (bytes ∷ []) third.0.0 third.0.1 (framed.each, is.no_riff, is.goes, omega (arith, is.whole)) whole framed
          (rest_at place.names (y.1 + 1) (place.input - length (chunk_text chunk)) (place.owed - 1) (place.owed - 1) OpenMovi behind third.0.0 third.0.1 input refl later))

  on_case : (o : Option Step) (more : List ℕ) → 0 < place.input → open_found place text ≡ Ok (o, more) → frames_stepped o more ≡ Ok w → P w
  on_case None more some is h = on_end (open_case place text (None, more) is)
    where
      on_end : OpenCase place text None more → P w
      on_end (inl none) = absurd (omega (arith, some, none.0))
      on_end (inr (here, owed, empty, over)) =
          let rest : RestOf place text [] more = record { pieces = []; text_is = empty; are = tt; framed = no_frames place.names; enough = omega (arith, owed); none = over } in
          subst P (ok_is ([], more) w h) rest
  on_case (Some s) more some is h = on_step (open_case place text (Some s, more) is).1 s.0 refl
    where
      less : amount s.1 < amount place
      less = (step_less place text s more is).0

      on_step : IsStep place text s more → (f : Option ℕ) → s.0 ≡ f → P w
      on_step (inl movi) f q = on_movi s more less movi h
      on_step (inr (none, ahead)) f q =
          let made : Step = (None, s.1) in
          let same : s ≡ made = ap (λ (z : Option ℕ). (z, s.1)) none in
          let R : Step → Type 0 = λ z. frames_stepped (Some z) more ≡ Ok w in
          on_ahead s.1 more less ahead (subst R same h)

open_step : (place : Place) (text : List ℕ) (w : List (List ℕ) × List ℕ) → is_open place.open_in ≡ true → 0 < place.input → Fewer place → frames_after place text ≡ Ok w → RestOf place text w.0 w.1
open_step place text w unknown some again h = on_open place.open_in unknown h
  where
    on_open : (o : Open) → is_open o ≡ true → frames_beyond o place text ≡ Ok w → RestOf place text w.0 w.1
    on_open Sized e k = absurd (cc)
    on_open OpenRiff e k =
        let first = read_on_ok (open_found place text) frames_stepped w k in
        on_case place text w again first.0.0 first.0.1 some first.1 first.2
    on_open OpenMovi e k =
        let first = read_on_ok (open_found place text) frames_stepped w k in
        on_case place text w again first.0.0 first.0.1 some first.1 first.2

open_up_to : (most : ℕ) (place : Place) (text : List ℕ) (w : List (List ℕ) × List ℕ) → amount place ≤ most → is_open place.open_in ≡ true → 0 < place.input → frames_after place text ≡ Ok w → RestOf place text w.0 w.1
open_up_to zero place text w enough unknown some h = open_step place text w unknown some (λ p more v less also left k. absurd (omega (arith, enough, less))) h
open_up_to (suc most) place text w enough unknown some h = open_step place text w unknown some (λ p more v less also left k. open_up_to most p more v (omega (arith, enough, less)) also left k) h

pub open_after_sound : (place : Place) (text : List ℕ) (w : List (List ℕ) × List ℕ) → is_open place.open_in ≡ true → 0 < place.input → frames_after place text ≡ Ok w → RestOf place text w.0 w.1
open_after_sound place text w unknown some h = open_up_to (amount place) place text w (omega arith) unknown some h
