-- What comes after a movi in its RIFF, and the RIFFs after that.
use Rattle.std.proofs.Common.{◌≡◌, ◌⊎◌, inl, inr, ℕ, suc, zero, ◌+◌, ◌-◌, ◌%◌, ◌≤◌, ◌<◌, true, false, Option, Some, None, Ok, List, [], ◌∷◌, ◌++◌, length, codes, ap, ◌∙◌, sym, subst, arith, refl, append_assoc, length-append}
use Rattle.std.proofs.lemmas.Grind.{flat_map-append}
use Rattle.byteorder.specs.Endian.{little_number}
use Rattle.ffv1_avi.specs.declared.place.Names.{Names}
use Rattle.ffv1_avi.specs.declared.place.Open.{Open}
use Rattle.ffv1_avi.specs.declared.place.Open.TheVariants.{Sized, OpenRiff}
use Rattle.ffv1_avi.specs.declared.place.Place.{Place}
use Rattle.ffv1_avi.specs.Names.{opens}
use Rattle.ffv1_avi.specs.Chunks.{AreFrames, Chunk, chunks_text}
use Rattle.ffv1_avi.specs.Behind.{begins_another, looked_past}
use Rattle.ffv1_avi.specs.Files.{frames_read, moved, movi_or_riff, movi_sought}
use Rattle.ffv1_avi.specs.OpenFiles.{ArePieces, BeginsOpen, Piece, pieces_chunks, pieces_text}
use Rattle.ffv1_avi.specs.Places.{amount, movi_at, open_at, riff_at}
use Rattle.ffv1_avi.specs.Riffs.{AreRiffs, AreSections, IsRiff, IsSection, Riff, Section, movi_chunks, movis, riff_movis, riff_text, riffs_text, section_text, sections_text}
use Rattle.ffv1_avi.specs.Walk.{is_known}
use Rattle.ffv1_avi.proofs.BegunRiffs.{Begun, FoundOpen, begun_sound}
use Rattle.ffv1_avi.proofs.FrameLaws.{MoviPart, frames_after, frames_beyond, frames_none, frames_on, movi_part, placed}
use Rattle.ffv1_avi.proofs.Moves.{moved_every, movi_empty}
use Rattle.ffv1_avi.proofs.OpenRests.{OpenRest, open_after_sound}
use Rattle.ffv1_avi.proofs.RiffLaws.{FoundEnd, FoundMovi, framed_both, others_movis, others_of, others_text, sections_both, sought_sound}
use Rattle.ffv1_avi.proofs.TakenChunks.{taken_even, taken_none}
use Rattle.ffv1_reads.proofs.Results.{ok_is, read_on_ok}

-- nothing that is read stands after the last RIFF
pub record EndsSized (behind : List ℕ) (last : List Chunk) (rest : List ℕ) : Type 0 where
  pub none : last ≡ []
  pub other : begins_another behind ≡ false
  pub left : rest ≡ looked_past behind

-- or an RIFF without size, with all that comes after it
pub record EndsUnsized (names : Names) (input : ℕ) (behind : List ℕ) (last : List Chunk) (rest : List ℕ) : Type 0 where
  pub pieces : List Piece
  pub text_is : behind ≡ pieces_text pieces
  pub chunks_are : last ≡ pieces_chunks pieces
  pub begins : BeginsOpen pieces
  pub are : ArePieces names input Sized pieces
  pub left : rest ≡ []

abbrev pub Ended : Names → ℕ → List ℕ → List Chunk → List ℕ → Type 0
Ended names input behind last rest = EndsSized behind last rest ⊎ EndsUnsized names input behind last rest

ended_at : (names : Names) (m n : ℕ) (behind : List ℕ) (last : List Chunk) (rest : List ℕ) → m ≡ n → Ended names m behind last rest → Ended names n behind last rest
ended_at names m n behind last rest same h = let P : ℕ → Type 0 = λ k. Ended names k behind last rest in subst P same h

-- what RIFF has after a movi, the RIFFs after it, and what stands after the last one
pub record RiffRest (place : Place) (text : List ℕ) (frames : List (List ℕ)) (rest : List ℕ) : Type 0 where
  pub sections : List Section
  pub riffs : List Riff
  pub behind : List ℕ
  pub last : List Chunk
  pub text_is : text ≡ sections_text sections ++ (riffs_text riffs ++ behind)
  pub long : length (sections_text sections) ≡ place.riff
  pub sections_are : AreSections place.names sections
  pub riffs_are : AreRiffs place.names riffs
  pub bounded : length (riffs_text riffs) < place.input
  pub framed : AreFrames place.names (movis sections ++ (riff_movis riffs ++ last)) frames
  pub enough : place.owed ≤ length frames
  pub ended : Ended place.names (place.input - length (riffs_text riffs)) behind last rest

above : (n : ℕ) → (n ≡ 0 → ⊥) → 0 < n
above zero some = absurd (some refl)
above (suc n) some = omega arith

rest_end : (place : Place) (text more rest : List ℕ) → (place.input ≡ 0 → ⊥) → FoundEnd place.names place.riff text more → (place.owed ≡ 0) × (begins_another more ≡ false) × (rest ≡ looked_past more) → RiffRest place text [] rest
rest_end place text more rest some end (owed, other, left) =
    let whole : text ≡ sections_text (others_of end.chunks) ++ more = end.text_is ∙ ap (λ z. z ++ more) (sym (others_text end.chunks)) in
    let nothing : AreFrames place.names [] [] = record { each = taken_none (opens place.names); none_barred = refl; those_of = refl; sized = tt } in
    let P : List Chunk → Type 0 = λ z. AreFrames place.names (z ++ []) [] in
    record { sections = others_of end.chunks; riffs = []; behind = more; last = []; text_is = whole; long = ap length (others_text end.chunks) ∙ end.long; sections_are = end.sections; riffs_are = tt; bounded = above place.input some; framed = subst P (sym (others_movis end.chunks)) nothing; enough = omega (arith, owed); ended = inl (record { none = refl; other = other; left = left }) }

-- an RIFF without size comes next
rest_open : (place : Place) (text more behind : List ℕ) (frames : List (List ℕ)) (rest : List ℕ) (q : Place) → (place.input ≡ 0 → ⊥) → FoundEnd place.names place.riff text more → FoundOpen place more q behind → OpenRest place.names (place.input - 12) place.owed OpenRiff behind frames rest → RiffRest place text frames rest
rest_open place text more behind frames rest q some end found part =
    let pieces = Piece.Further found.size ∷ part.pieces in
    let front = codes "RIFF" ++ found.size ++ codes "AVIX" in
    let long : length front ≡ 12 = length-append (codes "RIFF" ++ found.size) (codes "AVIX") ∙ ap (λ n. n + length (codes "AVIX")) (length-append (codes "RIFF") found.size) ∙ (omega (arith, found.sized, spelled)) in
    let tail : more ≡ pieces_text pieces = found.text_is ∙ ap (λ z. front ++ z) part.text_is in
    let whole : text ≡ sections_text (others_of end.chunks) ++ ([] ++ more) = end.text_is ∙ ap (λ z. z ++ more) (sym (others_text end.chunks)) in
    let P : List Chunk → Type 0 = λ z. AreFrames place.names (z ++ ([] ++ pieces_chunks part.pieces)) frames in
    let Q : ℕ → Type 0 = λ n. ArePieces place.names n OpenRiff part.pieces in
    let input : place.input - 12 ≡ place.input - 0 - length front = omega (arith, long) in
    let here : EndsUnsized place.names (place.input - 0) more (pieces_chunks part.pieces) rest = record { pieces = pieces; text_is = tail; chunks_are = refl; begins = found.unknown; are = ((found.sized, omega (arith, found.fits)), subst Q input part.are); left = part.none } in
    record { sections = others_of end.chunks; riffs = []; behind = more; last = pieces_chunks part.pieces; text_is = whole; long = ap length (others_text end.chunks) ∙ end.long; sections_are = end.sections; riffs_are = tt; bounded = above place.input some; framed = subst P (sym (others_movis end.chunks)) part.framed; enough = part.enough; ended = inr here }
  where
    spelled : (length (codes "RIFF") ≡ 4) × (length (codes "AVIX") ≡ 4)
    spelled = (refl, refl)

rest_riff : (place : Place) (text more behind : List ℕ) (size : List ℕ) (frames : List (List ℕ)) (rest : List ℕ) → FoundEnd place.names place.riff text more → more ≡ (codes "RIFF" ++ size ++ codes "AVIX") ++ behind → length size ≡ 4 → is_known (little_number 4 size) ≡ true → 4 ≤ little_number 4 size → 8 + little_number 4 size < place.input →
    RiffRest (riff_at place (little_number 4 size)) behind frames rest → RiffRest place text frames rest
rest_riff place text more behind size frames rest end riff sized known room fits part =
    let r : Riff = record { size = size; sections = part.sections } in
    let whole : text ≡ sections_text (others_of end.chunks) ++ (riffs_text (r ∷ part.riffs) ++ part.behind) =
    end.text_is
    ∙ ap (λ z. chunks_text end.chunks ++ z) (riff ∙ ap (λ z. (codes "RIFF" ++ size ++ codes "AVIX") ++ z) part.text_is ∙ regrouped (codes "RIFF" ++ size ++ codes "AVIX") (sections_text part.sections) (riffs_text part.riffs) part.behind)
    ∙ ap (λ z. z ++ (riffs_text (r ∷ part.riffs) ++ part.behind)) (sym (others_text end.chunks)) in
    let is : IsRiff place.names r = record { sized = sized; known = known; counted = omega (arith, part.long, room); each = part.sections_are } in
    let front : length (codes "RIFF" ++ size ++ codes "AVIX") ≡ 12 = length-append (codes "RIFF" ++ size) (codes "AVIX") ∙ ap (λ n. n + length (codes "AVIX")) (length-append (codes "RIFF") size) ∙ (omega (arith, sized, spelled)) in
    let long : length (riff_text r ++ riffs_text part.riffs) ≡ 12 + length (sections_text part.sections) + length (riffs_text part.riffs) = length-append (riff_text r) (riffs_text part.riffs) ∙ ap (λ n. n + length (riffs_text part.riffs)) (length-append (codes "RIFF" ++ size ++ codes "AVIX") (sections_text part.sections) ∙ ap (λ n. n + length (sections_text part.sections)) front) in
    let apart : riff_movis (r ∷ part.riffs) ++ part.last ≡ movis part.sections ++ (riff_movis part.riffs ++ part.last) = append_assoc (movis part.sections) (riff_movis part.riffs) part.last in
    let Q : List Chunk → Type 0 = λ z. AreFrames place.names z frames in
    let framed : AreFrames place.names ([] ++ (riff_movis (r ∷ part.riffs) ++ part.last)) frames = subst Q (sym apart) part.framed in
    let P : List Chunk → Type 0 = λ z. AreFrames place.names (z ++ (riff_movis (r ∷ part.riffs) ++ part.last)) frames in
    let input : place.input - (8 + little_number 4 size) - length (riffs_text part.riffs) ≡ place.input - length (riff_text r ++ riffs_text part.riffs) = omega (arith, long, part.long, room) in
    record { sections = others_of end.chunks; riffs = r ∷ part.riffs; behind = part.behind; last = part.last; text_is = whole; long = ap length (others_text end.chunks) ∙ end.long; sections_are = end.sections; riffs_are = (is, part.riffs_are); bounded = omega (arith, long, part.bounded, part.long, room, fits); framed = subst P (sym (others_movis end.chunks)) framed; enough = part.enough; ended = ended_at place.names (place.input - (8 + little_number 4 size) - length (riffs_text part.riffs)) (place.input - length (riff_text r ++ riffs_text part.riffs)) part.behind part.last rest input part.ended }
  where
    spelled : (length (codes "RIFF") ≡ 4) × (length (codes "AVIX") ≡ 4)
    spelled = (refl, refl)

    regrouped : (a b c d : List ℕ) → a ++ (b ++ (c ++ d)) ≡ ((a ++ b) ++ c) ++ d
    regrouped a b c d = simp append_assoc

rest_movi : (place : Place) (text more : List ℕ) (y : ℕ × ℕ) (frames : List (List ℕ)) (rest : List ℕ) → FoundMovi place.names place.riff text y more → (part : MoviPart (movi_at place y) more frames rest) →
    RiffRest (placed (movi_at place y) 0 (place.owed - length part.here)) part.more part.later rest → RiffRest place text frames rest
rest_movi place text more y frames rest found part after =
    let s = Section.Movi found.size part.chunks in
    let sections = others_of found.chunks ++ s ∷ after.sections in
    let front = codes "LIST" ++ found.size ++ codes "movi" in
    let apart : sections_text sections ≡ chunks_text found.chunks ++ ((front ++ chunks_text part.chunks) ++ sections_text after.sections) = flat_map-append section_text (others_of found.chunks) (s ∷ after.sections) ∙ ap (λ z. z ++ ((front ++ chunks_text part.chunks) ++ sections_text after.sections)) (others_text found.chunks) in
    let whole : text ≡ sections_text sections ++ (riffs_text after.riffs ++ after.behind) =
    found.text_is
    ∙ ap (λ z. chunks_text found.chunks ++ (front ++ z)) (part.text_is ∙ ap (λ z. chunks_text part.chunks ++ z) after.text_is)
    ∙ regrouped (chunks_text found.chunks) front (chunks_text part.chunks) (sections_text after.sections) (riffs_text after.riffs ++ after.behind)
    ∙ ap (λ z. z ++ (riffs_text after.riffs ++ after.behind)) (sym apart) in
    let twelve : length front ≡ 12 = length-append (codes "LIST" ++ found.size) (codes "movi") ∙ ap (λ n. n + length (codes "movi")) (length-append (codes "LIST") found.size) ∙ (omega (arith, found.sized, spelled)) in
    let even : length (chunks_text part.chunks) % 2 ≡ 0 = taken_even (opens place.names) part.chunks part.framed.each in
    let size : length (sections_text sections) ≡ length (chunks_text found.chunks) + (12 + length (chunks_text part.chunks) + length (sections_text after.sections)) =
    ap length apart ∙ length-append (chunks_text found.chunks) ((front ++ chunks_text part.chunks) ++ sections_text after.sections)
    ∙ ap (λ n. length (chunks_text found.chunks) + n) (length-append (front ++ chunks_text part.chunks) (sections_text after.sections) ∙ ap (λ n. n + length (sections_text after.sections)) (length-append front (chunks_text part.chunks) ∙ ap (λ n. n + length (chunks_text part.chunks)) twelve)) in
    let long : length (sections_text sections) ≡ place.riff = omega (arith, size, even, found.long, found.named, part.long, after.long) in
    let is : IsSection place.names s = (found.sized, omega (arith, found.named, part.long), part.fit) in
    let last = riff_movis after.riffs ++ after.last in
    let all : movis sections ++ last ≡ part.chunks ++ (movis after.sections ++ last) =
    ap (λ z. z ++ last) (flat_map-append movi_chunks (others_of found.chunks) (s ∷ after.sections) ∙ ap (λ z. z ++ (part.chunks ++ movis after.sections)) (others_movis found.chunks)) ∙ append_assoc part.chunks (movis after.sections) last in
    let both = framed_both place.names part.chunks (movis after.sections ++ last) part.here part.later part.framed after.framed in
    let P : List Chunk → Type 0 = λ z. AreFrames place.names z (part.here ++ part.later) in
    let Q : List (List ℕ) → Type 0 = λ z. AreFrames place.names (movis sections ++ last) z in
    let count : length frames ≡ length part.here + length part.later = ap length part.parted ∙ length-append part.here part.later in
    record { sections = sections; riffs = after.riffs; behind = after.behind; last = after.last; text_is = whole; long = long; sections_are = sections_both place.names (others_of found.chunks) (s ∷ after.sections) found.sections (is, after.sections_are); riffs_are = after.riffs_are; bounded = after.bounded; framed = subst Q (sym part.parted) (subst P (sym all) both); enough = omega (arith, count, after.enough); ended = after.ended }
  where
    spelled : (length (codes "LIST") ≡ 4) × (length (codes "movi") ≡ 4)
    spelled = (refl, refl)

    regrouped : (a b c d e : List ℕ) → a ++ (b ++ (c ++ (d ++ e))) ≡ (a ++ ((b ++ c) ++ d)) ++ e
    regrouped a b c d e = simp append_assoc

abbrev Fewer : Place → Type 0
Fewer place = (p : Place) (text : List ℕ) (v : List (List ℕ) × List ℕ) → amount p < amount place → p.open_in ≡ Sized → (p.input ≡ 0 → ⊥) → frames_after p text ≡ Ok v → RiffRest p text v.0 v.1

after_step : (place : Place) (text : List ℕ) (w : List (List ℕ) × List ℕ) → place.open_in ≡ Sized → (place.input ≡ 0 → ⊥) → Fewer place → frames_after place text ≡ Ok w → RiffRest place text w.0 w.1
after_step place text w known some again h =
    let first = read_on_ok (moved place text) frames_on w (ap (λ (o : Open). frames_beyond o place text) (sym known) ∙ h) in
    let second = read_on_ok (movi_sought place.names place.riff text) (movi_or_riff place) first.0 (sym (moved_every place some text) ∙ first.1) in
    on_sought second.0.0 second.0.1 second.1 first.0 second.2 first.2
  where
    P : List (List ℕ) × List ℕ → Type 0
    P z = RiffRest place text z.0 z.1

    on_begun : (more : List ℕ) → FoundEnd place.names place.riff text more → (o : Option Place) (behind : List ℕ) → Begun place more (o, behind) → frames_on o behind ≡ Ok w → P w
    on_begun more end None behind begun k = subst P (ok_is ([], behind) w k) (rest_end place text more behind some end begun)
    on_begun more end (Some q) behind (inr begun) k =
        let next = open_at place OpenRiff (place.input - 12) 0 in
        let read : frames_read next behind ≡ Ok w = ap (λ (z : Place). frames_read z behind) (sym begun.place_is) ∙ k in
        let after : frames_after next behind ≡ Ok w = sym (frames_none next behind behind (movi_empty next.names behind)) ∙ read in
        let part = open_after_sound next behind w refl (omega (arith, begun.fits)) after in
        rest_open place text more behind w.0 w.1 q some end begun part
    on_begun more end (Some q) behind (inl begun) k =
        let n = little_number 4 begun.size in
        let next = riff_at place n in
        let read : frames_read next behind ≡ Ok w = ap (λ (z : Place). frames_read z behind) (sym begun.place_is) ∙ k in
        let after : frames_after next behind ≡ Ok w = sym (frames_none next behind behind (movi_empty next.names behind)) ∙ read in
        let part = again next behind w (omega (arith, begun.room, begun.fits)) refl (λ e. omega (arith, e, begun.fits)) after in
        rest_riff place text more behind begun.size w.0 w.1 end begun.text_is begun.sized begun.known begun.room begun.fits part

    on_sought : (o : Option (ℕ × ℕ)) (more : List ℕ) → movi_sought place.names place.riff text ≡ Ok (o, more) → (p : Option Place × List ℕ) → movi_or_riff place o more ≡ Ok p → frames_on p.0 p.1 ≡ Ok w → P w
    on_sought None more is p begun k = on_begun more (sought_sound place.names place.riff text (None, more) is) p.0 p.1 (begun_sound place more p begun) k
    on_sought (Some y) more is p begun k =
        let found = sought_sound place.names place.riff text (Some y, more) is in
        let next = movi_at place y in
        let Q : Option Place × List ℕ → Type 0 = λ z. frames_on z.0 z.1 ≡ Ok w in
        let read : frames_read next more ≡ Ok w = subst Q (sym (ok_is (Some next, more) p begun)) k in
        let part = movi_part next more w read in
        let over = placed next 0 (place.owed - length part.here) in
        let after = again over part.more (part.later, w.1) (omega (arith, found.long)) known some part.after in
        rest_movi place text more y w.0 w.1 found part after

after_up_to : (most : ℕ) (place : Place) (text : List ℕ) (w : List (List ℕ) × List ℕ) → amount place ≤ most → place.open_in ≡ Sized → (place.input ≡ 0 → ⊥) → frames_after place text ≡ Ok w → RiffRest place text w.0 w.1
after_up_to zero place text w enough known some h = after_step place text w known some (λ p more v less sized also k. absurd (omega (arith, enough, less))) h
after_up_to (suc most) place text w enough known some h = after_step place text w known some (λ p more v less sized also k. after_up_to most p more v (omega (arith, enough, less)) sized also k) h

pub after_sound : (place : Place) (text : List ℕ) (w : List (List ℕ) × List ℕ) → place.open_in ≡ Sized → (place.input ≡ 0 → ⊥) → frames_after place text ≡ Ok w → RiffRest place text w.0 w.1
after_sound place text w known some h = after_up_to (amount place) place text w (omega arith) known some h
