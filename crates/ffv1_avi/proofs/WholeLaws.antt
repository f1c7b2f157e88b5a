-- A whole file, of which every RIFF is read.
use Rattle.std.proofs.Common.{◌≡◌, ◌⊎◌, inl, inr, append-nil, ℕ, ◌+◌, ◌-◌, ◌%◌, ◌≤◌, ◌<◌, ◌&&◌, nat_le, nat_lt, Bool, true, false, Option, Some, None, Ok, List, [], ◌∷◌, ◌++◌, length, take, codes, flat_map, ap, ◌∙◌, sym, subst, arith, refl, append_assoc, length-append, min, zero-add}
use Rattle.std.proofs.lemmas.Bool.{le-ltb, leb-false, leb-true, lt-ltb}
use Rattle.byteorder.specs.Endian.{little_number}
use Rattle.ffv1_avi.specs.declared.place.Extent.TheVariants.{EveryRiff}
use Rattle.ffv1_avi.specs.declared.place.Names.{Names}
use Rattle.ffv1_avi.specs.declared.place.Names.TheVariants.{Closed}
use Rattle.ffv1_avi.specs.declared.place.Place.{Place}
use Rattle.ffv1_avi.specs.Behind.{RiffFileThen}
use Rattle.ffv1_avi.specs.Chunks.{AreChunks, AreFrames, AreOthers, AreParts, Chunk, IsStream, Part, chunks_text, first_of, header_chunks, is_list, is_named, streams, those, total_next}
use Rattle.ffv1_avi.specs.Files.{Headers, file_read, frames_read, has_form, no_headers, open_read, owed, place_in, room_in, stream_came, stream_known}
use Rattle.ffv1_reads.specs.Head.{Head}
use Rattle.ffv1_avi.specs.Places.{first_open, first_place, most_input, unsized}
use Rattle.ffv1_avi.specs.OpenFiles.{ArePieces, OpenFile, OpensBehind, OpensMovi, OpensRiff, pieces_chunks, pieces_text, Sizes, sizes_of}
use Rattle.ffv1_avi.specs.declared.place.Open.TheVariants.{Sized, OpenRiff, OpenMovi}
use Rattle.ffv1_avi.specs.Padding.{padded}
use Rattle.ffv1_reads.specs.Reads.{given, ◌>>=◌}
use Rattle.ffv1_avi.specs.Riffs.{AreExtended, AreRiffs, AreSections, RiffFile, names_of, is_total, movis, riff_movis, riffs_text, sections_text, total, total_of}
use Rattle.ffv1_avi.specs.Walk.{is_known, is_name}
use Rattle.ffv1_avi.proofs.OtherStreams.{other_keeps}
use Rattle.ffv1_avi.proofs.FrameLaws.{MoviPart, movi_part, placed, those_both}
use Rattle.ffv1_avi.proofs.HeaderLaws.{StreamTakes, TakesHeader, run_streams}
use Rattle.ffv1_avi.proofs.ListWalks.{Run}
use Rattle.ffv1_avi.proofs.OpenLaws.{IsOpenMovi, IsSizedMovi, known_room, open_sound, open_stays, room_some}
use Rattle.ffv1_avi.proofs.OpenRests.{open_after_sound, read_after}
use Rattle.ffv1_avi.proofs.RiffRests.{Ended, RiffRest, after_sound}
use Rattle.ffv1_avi.proofs.PartLaws.{parts_text}
use Rattle.ffv1_reads.proofs.Results.{read_on_ok}
use Rattle.ffv1_avi.proofs.RiffLaws.{framed_both}
use Rattle.ffv1_avi.proofs.StreamCounts.{run_counted}
use Rattle.ffv1_avi.proofs.StreamLaws.{one_name}
use Rattle.ffv1_avi.proofs.TotalLaws.{TakesTotal}
use Rattle.ffv1_reads.proofs.Results.{ok_is}
use Rattle.ffv1_avi.proofs.TakenChunks.{taken_even}

-- the number of frames after a chunk that may say it
abbrev pub total_after : Option ℕ → Option Chunk → Option ℕ
total_after (Some n) c = Some n
total_after None None = None
total_after None (Some c) = Some (little_number 4 c.bytes)

pub total_twice : (n : Option ℕ) (xs ys : List Chunk) → total_after (total_after n (first_of xs)) (first_of ys) ≡ total_after n (first_of (xs ++ ys))
total_twice (Some n) xs ys = refl
total_twice None [] ys = refl
total_twice None (x ∷ xs) ys = refl

pub total_nothing : (n : Option ℕ) → n ≡ total_after n None
total_nothing None = refl
total_nothing (Some n) = refl

-- what a chunk dmlh says
next_total : (n : Option ℕ) (c : Chunk) (b : Bool) → nat_le 4 (length c.bytes) ≡ b → is_named (codes "dmlh") c ≡ true → total_next c.bytes n ≡ total_after n (first_of (those is_total (c ∷ [])))
next_total (Some n) c b p q = refl
next_total None c true p q = let room : 4 ≤ length c.bytes = leb-true _ _ p in rw (q, p, le-ltb _ _ room) refl
next_total None c false p q = let few : length c.bytes < 4 = leb-false _ _ p in rw (q, p, lt-ltb _ _ few) refl

pub run_total : (cs : List Chunk) (n m : Option ℕ) → Run TakesTotal n cs m → m ≡ total_after n (first_of (those is_total cs))
run_total [] n m run = run ∙ total_nothing n
run_total (c ∷ cs) n m run = on_name (is_named (codes "dmlh") c) refl run.0 run.1 (run_total cs run.0 m run.2)
  where
    parted : those is_total (c ∷ cs) ≡ those is_total (c ∷ []) ++ those is_total cs
    parted = those_both is_total (c ∷ []) cs

    on_name : (a : Bool) → is_named (codes "dmlh") c ≡ a → (k : Option ℕ) → TakesTotal n c.name c.bytes k → m ≡ total_after k (first_of (those is_total cs)) → m ≡ total_after n (first_of (those is_total (c ∷ cs)))
    on_name true p k takes more =
        let next : k ≡ total_after n (first_of (those is_total (c ∷ []))) = (rw p at takes) ∙ next_total n c (nat_le 4 (length c.bytes)) refl p in
        more ∙ ap (λ z. total_after z (first_of (those is_total cs))) next ∙ total_twice n (those is_total (c ∷ [])) (those is_total cs) ∙ ap (λ z. total_after n (first_of z)) (sym parted)
    on_name false p k takes more =
        let next : k ≡ n = rw p at takes in
        let none : those is_total (c ∷ cs) ≡ those is_total cs = rw p refl in
        more ∙ ap (λ z. total_after z (first_of (those is_total cs))) next ∙ ap (λ z. total_after n (first_of z)) (sym none)

abbrev pub all_of : List (List Chunk) → List Chunk
all_of inners = flat_map (λ (cs : List Chunk). cs) inners

-- the chunks of the lists odml, and the number of frames that they say
pub record IsExtended (cs : List Chunk) (n m : Option ℕ) : Type 0 where
  pub inners : List (List Chunk)
  pub are : AreExtended (those (is_list (codes "odml")) cs) inners
  pub says : m ≡ total_after n (first_of (those is_total (all_of inners)))

pub run_extended : (cs : List Chunk) (s t : Headers) → Run (TakesHeader EveryRiff) s cs t → IsExtended cs s.frames t.frames
run_extended [] s t run = record { inners = []; are = tt; says = ap (λ (z : Headers). z.frames) run ∙ total_nothing s.frames }
run_extended (c ∷ cs) s t run =
    on_list (is_name c.name (codes "LIST")) (is_name (take 4 c.bytes) (codes "strl")) (is_name (take 4 c.bytes) (codes "odml")) refl refl refl run.0 run.1 (run_extended cs run.0 t run.2)
  where
    Goal : Type 0
    Goal = IsExtended (c ∷ cs) s.frames t.frames

    -- a chunk that is no list odml
    passing : (m : Headers) → m.frames ≡ s.frames → is_list (codes "odml") c ≡ false → IsExtended cs m.frames t.frames → Goal
    passing m same is more = record { inners = more.inners; are = rw is more.are; says = more.says ∙ ap (λ z. total_after z (first_of (those is_total (all_of more.inners)))) same }

    -- a list odml of these chunks
    extending : (inner : List Chunk) → c.bytes ≡ codes "odml" ++ chunks_text inner → AreChunks inner → {n : Option ℕ} → (more : IsExtended cs n t.frames) → is_list (codes "odml") c ≡ true → t.frames ≡ total_after s.frames (first_of (those is_total (all_of (inner ∷ more.inners)))) → Goal
    extending inner bytes each more is says = record { inners = inner ∷ more.inners; are = rw is (bytes, each, more.are); says = says }

    both_true : (a b : Bool) → a ≡ true → b ≡ true → (a && b) ≡ true
    both_true a b p q = rw (p, q) refl

    known_frames : (o : Option Head) → (stream_known (stream_came EveryRiff s) o).frames ≡ s.frames
    known_frames None = refl
    known_frames (Some head) = refl

    on_stream : (o : Option Head) (b : Bool) (m : Headers) → StreamTakes EveryRiff (stream_came EveryRiff s) o b c.bytes m → m.frames ≡ s.frames
    on_stream (Some head) b m takes = (other_keeps EveryRiff (stream_came EveryRiff s) m c.bytes takes).2
    on_stream None false m takes = ap (λ (z : Headers). z.frames) takes
    on_stream None true m takes = ap (λ (z : Headers). z.frames) takes.1 ∙ known_frames takes.0

    on_list : (a b d : Bool) → is_name c.name (codes "LIST") ≡ a → is_name (take 4 c.bytes) (codes "strl") ≡ b → is_name (take 4 c.bytes) (codes "odml") ≡ d → (m : Headers) → TakesHeader EveryRiff s c.name c.bytes m → IsExtended cs m.frames t.frames → Goal
    on_list false b d p q r m takes more = passing m (ap (λ (z : Headers). z.frames) (rw p at takes)) (rw p refl) more
    on_list true true d p q r m takes more =
        let other : is_name (take 4 c.bytes) (codes "odml") ≡ false = one_name (take 4 c.bytes) (codes "strl") (codes "odml") q refl in
        passing m (on_stream s.head (nat_lt s.passed 100) m (rw (p, q) at takes)) (rw (p, other) refl) more
    on_list true false true p q r m takes more =
        let has = rw (p, q, r) at takes in
        let frames : m.frames ≡ has.3 = ap (λ (z : Headers). z.frames) has.5 in
        let first : m.frames ≡ total_after s.frames (first_of (those is_total has.0)) = frames ∙ run_total has.0 s.frames has.3 has.4 in
        let all : those is_total (has.0 ++ all_of more.inners) ≡ those is_total has.0 ++ those is_total (all_of more.inners) = those_both is_total has.0 (all_of more.inners) in
        let says : t.frames ≡ total_after s.frames (first_of (those is_total (all_of (has.0 ∷ more.inners)))) =
        more.says ∙ ap (λ z. total_after z (first_of (those is_total (all_of more.inners)))) first ∙ total_twice s.frames (those is_total has.0) (those is_total (all_of more.inners)) ∙ ap (λ z. total_after s.frames (first_of z)) (sym all) in
        let list : is_list (codes "odml") c ≡ true = both_true (is_name c.name (codes "LIST")) (is_name (take 4 c.bytes) (codes "odml")) p r in
        extending has.0 has.1 has.2 more list says
    on_list true false false p q r m takes more = passing m (ap (λ (z : Headers). z.frames) (rw (p, q, r) at takes)) (rw (p, r) refl) more

pub owed_total : (c : Option Chunk) → owed (total_after None c) ≡ total_of c
owed_total None = refl
owed_total (Some c) = refl

-- what is known of the streams of a file that was opened
pub record IsHeaded (parts : List Part) (known : Headers) (head : Head) : Type 0 where
  pub before : List Chunk
  pub stream : Chunk
  pub after : List Chunk
  pub extended : List (List Chunk)
  pub parted : streams parts ≡ before ++ stream ∷ after
  pub others : AreOthers EveryRiff before
  pub few : length before < 100
  pub says : IsStream EveryRiff stream head
  pub extended_are : AreExtended (those (is_list (codes "odml")) (flat_map header_chunks parts)) extended
  pub names : Closed known.passed known.streams ≡ names_of before (streams parts)
  pub owes : owed known.frames ≡ total extended

headed_file : (parts : List Part) (known : Headers) (head : Head) → Run (TakesHeader EveryRiff) no_headers (flat_map header_chunks parts) known → known.head ≡ Some head → IsHeaded parts known head
headed_file parts known head run has =
    let cs = flat_map header_chunks parts in
    let found = run_streams EveryRiff cs no_headers known head refl has run in
    let extended = run_extended cs no_headers known run in
    let owes : owed known.frames ≡ total extended.inners = ap owed extended.says ∙ owed_total (first_of (those is_total (all_of extended.inners))) in
    let number : known.passed ≡ length found.before = omega (arith, found.number) in
    let streams_are = run_counted cs no_headers known (omega arith) run in
    let names : Closed known.passed known.streams ≡ names_of found.before (streams parts) = ap (λ n. Closed n known.streams) number ∙ ap (Closed (length found.before)) (streams_are ∙ ap (λ n. min n 100) (zero-add (length (streams parts)))) in
    record { before = found.before; stream = found.stream; after = found.after; extended = extended.inners; parted = found.parted; others = found.others; few = omega (arith, found.few, number); says = found.is; extended_are = extended.are; names = names; owes = owes }

-- a file of which every size is known, and what stands after it; or one in which an RIFF, or the first
-- movi, has none, and after it nothing
abbrev pub IsFile : List ℕ → Head → List (List ℕ) → List ℕ → Type 0
IsFile file head frames rest = RiffFileThen file head frames rest ⊎ (OpenFile file head frames × (rest ≡ []))

module _ (file : List ℕ) (head : Head) (frames : List (List ℕ)) (rest mid riff_size behind : List ℕ) (parts : List Part) (movi_size : List ℕ) (known : Headers) (text_is : file ≡ (codes "RIFF" ++ riff_size ++ codes "AVI ") ++ behind) (top_is : behind ≡ parts_text parts ++ ((codes "LIST" ++ movi_size ++ codes "movi") ++ mid)) (riff_sized : length riff_size ≡ 4) (movi_sized : length movi_size ≡ 4) (each : AreParts parts) (is : IsHeaded parts known head) where
  abbrev front : List ℕ
  front = codes "RIFF" ++ riff_size ++ codes "AVI "

  abbrev movi : List ℕ
  movi = codes "LIST" ++ movi_size ++ codes "movi"

  abbrev said : ℕ
  said = little_number 4 riff_size

  abbrev size : ℕ
  size = little_number 4 movi_size

  abbrev sizes : Sizes
  sizes = sizes_of riff_size (length (parts_text parts)) movi_size

  abbrev names : Names
  names = Closed known.passed known.streams

  abbrev owes : ℕ
  owes = owed known.frames

  abbrev stands : Names
  stands = names_of is.before (streams parts)

  whole_text : file ≡ front ++ (parts_text parts ++ (movi ++ mid))
  whole_text = text_is ∙ ap (λ z. front ++ z) top_is

  -- in an RIFF of a known size
  sized_file : (left : ℕ) → 4 ≤ size → length (parts_text parts) + (8 + padded size) + left ≡ room_in EveryRiff said → is_known said ≡ true → has_form EveryRiff said ≡ true → frames_read (first_place EveryRiff left (size - 4) names owes) mid ≡ Ok (frames, rest) → IsFile file head frames rest
  sized_file left named counted_to riff_known formed read =
      let place = first_place EveryRiff left (size - 4) names owes in
      let part = movi_part place mid (frames, rest) read in
      let after = after_sound (placed place 0 (owes - length part.here)) part.more (part.later, rest) refl (λ e. omega (arith, e)) part.after in
      on_end part after after.ended
    where
      place : Place
      place = first_place EveryRiff left (size - 4) names owes

      four : 4 ≤ said
      four = known_room said riff_known formed

      room : room_in EveryRiff said ≡ said - 4
      room = room_some EveryRiff said four

      on_end : (part : MoviPart place mid frames rest) (after : RiffRest (placed place 0 (owes - length part.here)) part.more part.later rest) → Ended names (most_input - length (riffs_text after.riffs)) after.behind after.last rest → IsFile file head frames rest
      on_end part after end =
          let last = riff_movis after.riffs ++ after.last in
          let chunks = part.chunks ++ (movis after.sections ++ last) in
          let even : length (chunks_text part.chunks) % 2 ≡ 0 = taken_even true part.chunks part.framed.each in
          let counted : size ≡ 4 + length (chunks_text part.chunks) = omega (arith, part.long, named) in
          let filled : said ≡ 4 + length (parts_text parts) + (8 + size) + length (sections_text after.sections) = omega (arith, counted_to, room, four, counted, even, after.long) in
          let both = framed_both names part.chunks (movis after.sections ++ last) part.here part.later part.framed after.framed in
          let P : List (List ℕ) → Type 0 = λ z. AreFrames names chunks z in
          let Q : Names → Type 0 = λ z. AreFrames z chunks frames in
          let framed = subst Q is.names (subst P (sym part.parted) both) in
          let count : length frames ≡ length part.here + length part.later = ap length part.parted ∙ length-append part.here part.later in
          let S : Names → Type 0 = λ z. AreSections z after.sections in
          let T : Names → Type 0 = λ z. AreRiffs z after.riffs in
          let sections_are = subst S is.names after.sections_are in
          let riffs_are = subst T is.names after.riffs_are in
          let enough : total is.extended ≤ length frames = omega (arith, after.enough, is.owes, count) in
          ended_so part after counted filled sections_are riffs_are framed enough end
        where
          ended_so : (part : MoviPart place mid frames rest) (after : RiffRest (placed place 0 (owes - length part.here)) part.more part.later rest) → size ≡ 4 + length (chunks_text part.chunks) → said ≡ 4 + length (parts_text parts) + (8 + size) + length (sections_text after.sections) → AreSections stands after.sections → AreRiffs stands after.riffs →
              AreFrames stands (part.chunks ++ (movis after.sections ++ (riff_movis after.riffs ++ after.last))) frames → total is.extended ≤ length frames → Ended names (most_input - length (riffs_text after.riffs)) after.behind after.last rest → IsFile file head frames rest
          ended_so part after counted filled sections_are riffs_are framed enough (inl end) =
              let all : List ℕ = front ++ (parts_text parts ++ (movi ++ (chunks_text part.chunks ++ (sections_text after.sections ++ riffs_text after.riffs)))) in
              let text : file ≡ all ++ after.behind =
              whole_text ∙ ap (λ z. front ++ (parts_text parts ++ (movi ++ z))) (part.text_is ∙ ap (λ z. chunks_text part.chunks ++ z) after.text_is)
              ∙ regrouped front (parts_text parts) movi (chunks_text part.chunks) (sections_text after.sections) (riffs_text after.riffs) after.behind in
              let none : riff_movis after.riffs ++ after.last ≡ riff_movis after.riffs = ap (λ z. riff_movis after.riffs ++ z) end.none ∙ append-nil (riff_movis after.riffs) in
              let R : List Chunk → Type 0 = λ z. AreFrames stands (part.chunks ++ (movis after.sections ++ z)) frames in
              let here : RiffFile all head frames = record { riff_size = riff_size; parts = parts; movi_size = movi_size; chunks = part.chunks; sections = after.sections; riffs = after.riffs; before = is.before; stream = is.stream; after = is.after; extended = is.extended; bytes = refl; riff_sized = riff_sized; riff_known = riff_known; movi_sized = movi_sized; counted = counted; fit = part.fit; filled = filled; each = each; sections_are = sections_are; riffs_are = riffs_are; bounded = after.bounded; streams_are = is.parted; others = is.others; few = is.few; says = is.says; extended_are = is.extended_are; framed = subst R none framed; enough = enough } in
              inl (record { whole = all; behind = after.behind; bytes = text; is = here; other = end.other; left = end.left })
            where
              regrouped : (a b c d e f g : List ℕ) → a ++ (b ++ (c ++ (d ++ (e ++ (f ++ g))))) ≡ (a ++ (b ++ (c ++ (d ++ (e ++ f))))) ++ g
              regrouped a b c d e f g = simp append_assoc
          ended_so part after counted filled sections_are riffs_are framed enough (inr end) =
              let text : file ≡ front ++ (parts_text parts ++ (movi ++ (chunks_text part.chunks ++ (sections_text after.sections ++ (riffs_text after.riffs ++ pieces_text end.pieces))))) =
              whole_text ∙ ap (λ z. front ++ (parts_text parts ++ (movi ++ z))) (part.text_is ∙ ap (λ z. chunks_text part.chunks ++ z) (after.text_is ∙ ap (λ z. sections_text after.sections ++ (riffs_text after.riffs ++ z)) end.text_is)) in
              let R : List Chunk → Type 0 = λ z. AreFrames stands (part.chunks ++ (movis after.sections ++ (riff_movis after.riffs ++ z))) frames in
              let U : Names → Type 0 = λ z. ArePieces z (most_input - length (riffs_text after.riffs)) Sized end.pieces in
              let opens : OpensBehind stands sizes part.chunks after.sections after.riffs end.pieces = record { known = riff_known; counted = counted; fit = part.fit; filled = filled; sections_are = sections_are; riffs_are = riffs_are; bounded = after.bounded; begins = end.begins; are = subst U is.names end.are } in
              inr (record { riff_size = riff_size; parts = parts; movi_size = movi_size; chunks = part.chunks; sections = after.sections; riffs = after.riffs; pieces = end.pieces; before = is.before; stream = is.stream; after = is.after; extended = is.extended; bytes = text; riff_sized = riff_sized; movi_sized = movi_sized; each = each; opens_so = inr (inr opens); streams_are = is.parted; others = is.others; few = is.few; says = is.says; extended_are = is.extended_are; framed = subst R end.chunks_are framed; enough = enough }, end.left)

  -- in an RIFF without size
  riff_file : (left : ℕ) → 4 ≤ size → length (parts_text parts) + (8 + padded size) + left ≡ room_in EveryRiff said → is_known said ≡ false → has_form EveryRiff said ≡ true → frames_read (unsized Sized (first_place EveryRiff left (size - 4) names owes)) mid ≡ Ok (frames, rest) → IsFile file head frames rest
  riff_file left named counted_to unknown formed read =
      let place = unsized Sized (first_place EveryRiff left (size - 4) names owes) in
      let part = movi_part place mid (frames, rest) read in
      let after = open_after_sound (placed place 0 (owes - length part.here)) part.more (part.later, rest) refl (omega arith) part.after in
      let chunks = part.chunks ++ pieces_chunks after.pieces in
      let even : length (chunks_text part.chunks) % 2 ≡ 0 = taken_even true part.chunks part.framed.each in
      let counted : size ≡ 4 + length (chunks_text part.chunks) = omega (arith, part.long, named) in
      let both = framed_both names part.chunks (pieces_chunks after.pieces) part.here part.later part.framed after.framed in
      let P : List (List ℕ) → Type 0 = λ z. AreFrames names chunks z in
      let Q : Names → Type 0 = λ z. AreFrames z chunks frames in
      let U : Names → Type 0 = λ z. ArePieces z most_input OpenRiff after.pieces in
      let count : length frames ≡ length part.here + length part.later = ap length part.parted ∙ length-append part.here part.later in
      let text : file ≡ front ++ (parts_text parts ++ (movi ++ (chunks_text part.chunks ++ pieces_text after.pieces))) =
      whole_text ∙ ap (λ z. front ++ (parts_text parts ++ (movi ++ z))) (part.text_is ∙ ap (λ z. chunks_text part.chunks ++ z) after.text_is) in
      let opens : OpensRiff stands sizes part.chunks [] [] after.pieces = record { unknown = unknown; formed = formed; counted = counted; fit = part.fit; room = omega (arith, counted_to, counted, even); no_sections = refl; no_riffs = refl; are = subst U is.names after.are } in
      inr (record { riff_size = riff_size; parts = parts; movi_size = movi_size; chunks = part.chunks; sections = []; riffs = []; pieces = after.pieces; before = is.before; stream = is.stream; after = is.after; extended = is.extended; bytes = text; riff_sized = riff_sized; movi_sized = movi_sized; each = each; opens_so = inr (inl opens); streams_are = is.parted; others = is.others; few = is.few; says = is.says; extended_are = is.extended_are; framed = subst Q is.names (subst P (sym part.parted) both); enough = omega (arith, after.enough, is.owes, count) }, after.none)

  -- with a first movi without size
  movi_file : is_known size ≡ false → length (parts_text parts) + 12 ≤ room_in EveryRiff said → (4 ≤ size → room_in EveryRiff said < length (parts_text parts) + (8 + padded size)) → has_form EveryRiff said ≡ true → frames_read (first_open names owes) mid ≡ Ok (frames, rest) → IsFile file head frames rest
  movi_file unknown room bare formed read =
      let place = first_open names owes in
      let after = open_after_sound place mid (frames, rest) refl (omega arith) (read_after place mid (frames, rest) refl read) in
      let Q : Names → Type 0 = λ z. AreFrames z (pieces_chunks after.pieces) frames in
      let U : Names → Type 0 = λ z. ArePieces z most_input OpenMovi after.pieces in
      let text : file ≡ front ++ (parts_text parts ++ (movi ++ ([] ++ pieces_text after.pieces))) = whole_text ∙ ap (λ z. front ++ (parts_text parts ++ (movi ++ z))) after.text_is in
      let opens : OpensMovi stands sizes [] [] [] after.pieces = record { unknown = unknown; formed = formed; room = room; bare = bare; no_chunks = refl; no_sections = refl; no_riffs = refl; are = subst U is.names after.are } in
      inr (record { riff_size = riff_size; parts = parts; movi_size = movi_size; chunks = []; sections = []; riffs = []; pieces = after.pieces; before = is.before; stream = is.stream; after = is.after; extended = is.extended; bytes = text; riff_sized = riff_sized; movi_sized = movi_sized; each = each; opens_so = inl opens; streams_are = is.parted; others = is.others; few = is.few; says = is.says; extended_are = is.extended_are; framed = subst Q is.names after.framed; enough = omega (arith, after.enough, is.owes) }, after.none)

  any_file : (place : Place) → IsSizedMovi EveryRiff said (length (parts_text parts)) movi_size known place ⊎ IsOpenMovi EveryRiff said (length (parts_text parts)) movi_size known place → has_form EveryRiff said ≡ true → frames_read place mid ≡ Ok (frames, rest) → IsFile file head frames rest
  any_file place (inl sized) formed read = on_known (is_known said) refl
    where
      made : Place
      made = first_place EveryRiff sized.left (size - 4) names owes

      there : frames_read (place_in EveryRiff said made) mid ≡ Ok (frames, rest)
      there = ap (λ (p : Place). frames_read p mid) (sym sized.place_is) ∙ read

      on_known : (b : Bool) → is_known said ≡ b → IsFile file head frames rest
      on_known true p = sized_file sized.left sized.named sized.counted p formed (rw p at there)
      on_known false p = riff_file sized.left sized.named sized.counted p formed (rw p at there)
  any_file place (inr other) formed read = movi_file other.unknown other.room other.bare formed (ap (λ (p : Place). frames_read p mid) (sym (open_stays said (first_open names owes) refl) ∙ sym other.place_is) ∙ read)

pub whole_sound : (file : List ℕ) (w : (Head × List (List ℕ)) × List ℕ) → file_read EveryRiff file ≡ Ok w → IsFile file w.0.0 w.0.1 w.1
whole_sound file w h =
    let first = read_on_ok (open_read EveryRiff file) (λ p. (frames_read p.1 >>= λ frames. given (p.0, frames))) w h in
    let head = first.0.0.0 in
    let opening = open_sound EveryRiff file first.0 first.1 in
    let top = opening.top in
    let second = read_on_ok (frames_read first.0.0.1 first.0.1) (λ frames. given (head, frames)) w first.2 in
    let frames = second.0.0 in
    let is = headed_file top.parts top.known head top.run top.head in
    let here = any_file file head frames second.0.1 first.0.1 opening.riff_size opening.behind top.parts top.movi_size top.known opening.text_is top.text_is opening.riff_sized top.movi_sized top.each is first.0.0.1 top.movi opening.riff_formed second.1 in
    let R : (Head × List (List ℕ)) × List ℕ → Type 0 = λ z. IsFile file z.0.0 z.0.1 z.1 in
    let pair : Head × List (List ℕ) = (head, frames) in
    subst R (ok_is (pair, second.0.1) w second.2) here

pub whole : (file : List ℕ) (head : Head) (frames : List (List ℕ)) (rest : List ℕ) → file_read EveryRiff file ≡ Ok ((head, frames), rest) → IsFile file head frames rest
whole file head frames rest h = whole_sound file ((head, frames), rest) h
