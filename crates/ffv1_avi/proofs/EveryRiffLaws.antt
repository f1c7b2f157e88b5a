-- A file of every RIFF, by its chunks, is read.
use Rattle.std.proofs.Common.{true, ◌≡◌, ℕ, ◌+◌, ◌-◌, ◌<◌, Some, None, Result, Ok, List, [], ◌∷◌, ◌++◌, length, codes, flat_map, ap, ◌∙◌, sym, subst, arith, append_assoc, append-nil, length-append, min, zero-add}
use Rattle.std.proofs.lemmas.Grind.{flat_map-append}
use Rattle.byteorder.specs.Endian.{little_number}
use Rattle.ffv1_avi.specs.declared.place.Extent.TheVariants.{EveryRiff}
use Rattle.ffv1_avi.specs.declared.place.Names.{Names}
use Rattle.ffv1_avi.specs.declared.place.Names.TheVariants.{Closed}
use Rattle.ffv1_avi.specs.declared.place.Place.{Place}
use Rattle.ffv1_avi.specs.Chunks.{AreFrames, Chunk, chunks_text, first_of, header_chunks, streams, those, Fit}
use Rattle.ffv1_avi.specs.Behind.{RiffFileThen, looked_past}
use Rattle.ffv1_avi.specs.Edges.{frames_to}
use Rattle.ffv1_avi.specs.Files.{file_read, frames_read, no_headers, open_read, owed}
use Rattle.ffv1_reads.specs.Head.{Head}
use Rattle.ffv1_avi.specs.Places.{most_input}
use Rattle.ffv1_reads.specs.Reads.{Stop, given, read_on, ◌>>=◌}
use Rattle.ffv1_avi.specs.Riffs.{AreRiffs, AreSections, Riff, RiffFile, Section, is_total, movis, names_of, riff_movis, riff_text, riffs_text, sections_text, total}
use Rattle.ffv1_avi.proofs.BegunRiffs.{few_other}
use Rattle.ffv1_avi.proofs.FrameLaws.{frames_after, placed}
use Rattle.ffv1_avi.proofs.MoviFrames.{movi_frames}
use Rattle.ffv1_avi.proofs.HeaderRuns.{Counts, Heads, counts_found, heads}
use Rattle.ffv1_avi.proofs.LaterFrames.{Framed, after_end, behind_over, frames_behind, frames_both, frames_in, framed_apart, in_riff, preceded, preceded_both, riffs_read, sections_read}
use Rattle.ffv1_avi.proofs.OpenLaws.{open_complete}
use Rattle.ffv1_avi.proofs.PartLaws.{parts_text}
use Rattle.ffv1_avi.proofs.StreamCounts.{run_counted}
use Rattle.ffv1_avi.proofs.WholeLaws.{all_of, owed_total}
use Rattle.ffv1_reads.proofs.Results.{ok_is}
use Rattle.ffv1_avi.proofs.TakenChunks.{taken_even}

-- frames of chunks are those among them
pub framed_own : (names : Names) (chunks : List Chunk) (frames : List (List ℕ)) → AreFrames names chunks frames → Framed names chunks
framed_own names chunks frames h =
    let P : List (List ℕ) → Type 0 = λ z. AreFrames names chunks z in
    subst P (sym h.those_of) h

-- the frames of a movi, of what is after it in RIFF, and of RIFFs, and those after them
pub place_read : (input : ℕ) (names : Names) (owed : ℕ) (chunks : List Chunk) (sections : List Section) (riffs : List Riff) (rest : List ℕ) → AreSections names sections → AreRiffs names riffs → length (riffs_text riffs) < input → Fit 0 chunks → Framed names (chunks ++ (movis sections ++ riff_movis riffs)) →
    frames_read (placed (in_riff input names (length (sections_text sections)) 0) (length (chunks_text chunks)) owed) (chunks_text chunks ++ (sections_text sections ++ (riffs_text riffs ++ rest)))
    ≡ preceded (frames_in names (chunks ++ (movis sections ++ riff_movis riffs))) (frames_behind (in_riff (input - length (riffs_text riffs)) names 0 (owed - length (frames_in names (chunks ++ (movis sections ++ riff_movis riffs))))) rest)
place_read input names owed chunks sections riffs rest sections_are riffs_are fits fit framed =
    let first = framed_apart names chunks (movis sections ++ riff_movis riffs) framed in
    let second = framed_apart names (movis sections) (riff_movis riffs) first.1 in
    let some : input ≡ 0 → ⊥ = λ e. omega (arith, e, fits) in
    let left = length (sections_text sections) in
    let fs = frames_in names chunks in
    let gs = frames_in names (movis sections) in
    let hs = frames_in names (riff_movis riffs) in
    let behind = riffs_text riffs ++ rest in
    let room : left ≡ left + 0 = omega arith in
    let more = input - length (riffs_text riffs) in
    let all : fs ++ (gs ++ hs) ≡ frames_in names (chunks ++ (movis sections ++ riff_movis riffs)) = sym (frames_both names chunks (movis sections ++ riff_movis riffs) ∙ ap (λ z. fs ++ z) (frames_both names (movis sections) (riff_movis riffs))) in
    let owes : owed - length fs - length gs - length hs ≡ owed - length (fs ++ (gs ++ hs)) = omega (arith, length-append fs (gs ++ hs), length-append gs hs) in
    movi_frames (in_riff input names left 0) chunks owed (sections_text sections ++ behind) first.0.each fit first.0.none_barred first.0.sized
    ∙ ap (λ n. preceded fs (frames_after (in_riff input names n (owed - length fs)) (sections_text sections ++ behind))) room
    ∙ ap (preceded fs) (sections_read input names 0 (owed - length fs) sections behind some sections_are second.0)
    ∙ ap (λ z. preceded fs (preceded gs z)) (after_end input names (owed - length fs - length gs) behind some)
    ∙ ap (λ z. preceded fs (preceded gs z)) (riffs_read riffs input names (owed - length fs - length gs) rest riffs_are fits second.1)
    ∙ ap (preceded fs) (preceded_both gs hs (frames_behind (in_riff more names 0 (owed - length fs - length gs - length hs)) rest))
    ∙ preceded_both fs (gs ++ hs) (frames_behind (in_riff more names 0 (owed - length fs - length gs - length hs)) rest)
    ∙ ap (λ n. preceded (fs ++ (gs ++ hs)) (frames_behind (in_riff more names 0 n) rest)) owes
    ∙ ap (λ z. preceded z (frames_behind (in_riff more names 0 (owed - length z)) rest)) all

-- the first RIFF of a file
abbrev pub first_riff : {file : List ℕ} {head : Head} {frames : List (List ℕ)} → RiffFile file head frames → List ℕ
first_riff is = (codes "RIFF" ++ is.riff_size ++ codes "AVI ") ++ (parts_text is.parts ++ ((codes "LIST" ++ is.movi_size ++ codes "movi") ++ (chunks_text is.chunks ++ sections_text is.sections)))

-- the number of the stream whose frames count
abbrev number_of : {file : List ℕ} {head : Head} {frames : List (List ℕ)} → RiffFile file head frames → ℕ
number_of is = length is.before

-- which chunks each movi has
abbrev pub names_in : {file : List ℕ} {head : Head} {frames : List (List ℕ)} → RiffFile file head frames → Names
names_in is = names_of is.before (streams is.parts)

-- those are its frames
pub file_framed : {file : List ℕ} {head : Head} {frames : List (List ℕ)} (is : RiffFile file head frames) → Framed (names_in is) (is.chunks ++ (movis is.sections ++ riff_movis is.riffs))
file_framed {frames = frames} is = framed_own (names_in is) (is.chunks ++ (movis is.sections ++ riff_movis is.riffs)) frames is.framed

pub regrouped : (a b c d e f : List ℕ) → (a ++ (b ++ (c ++ (d ++ e)))) ++ f ≡ a ++ (b ++ (c ++ (d ++ (e ++ f))))
regrouped a b c d e f = simp append_assoc

pub file_parts : {file : List ℕ} {head : Head} {frames : List (List ℕ)} (is : RiffFile file head frames) → file ≡ first_riff is ++ riffs_text is.riffs
file_parts is = is.bytes ∙ sym (regrouped (codes "RIFF" ++ is.riff_size ++ codes "AVI ") (parts_text is.parts) (codes "LIST" ++ is.movi_size ++ codes "movi") (chunks_text is.chunks) (sections_text is.sections) (riffs_text is.riffs))

-- what is known of a file's streams
pub file_heads : {file : List ℕ} {head : Head} {frames : List (List ℕ)} (is : RiffFile file head frames) → Heads no_headers (flat_map header_chunks is.parts) is.extended (Some head) (number_of is)
file_heads {head = head} is =
    let P : ℕ → Type 0 = λ n. Counts None 0 (streams is.parts) (Some head) n in
    let same : 0 + number_of is ≡ number_of is = omega arith in
    heads (flat_map header_chunks is.parts) no_headers is.extended (Some head) (number_of is) (subst P same (counts_found 0 (streams is.parts) is.before is.stream is.after head is.streams_are is.others is.says (omega (arith, is.few)))) is.extended_are

-- the place of the first movi
abbrev pub first_at : {file : List ℕ} {head : Head} {frames : List (List ℕ)} → RiffFile file head frames → Place
first_at is = placed (in_riff most_input (names_in is) (length (sections_text is.sections)) 0) (length (chunks_text is.chunks)) (total is.extended)

pub file_opened : {file : List ℕ} {head : Head} {frames : List (List ℕ)} (is : RiffFile file head frames) (rest : List ℕ) →
    open_read EveryRiff ((codes "RIFF" ++ is.riff_size ++ codes "AVI ") ++ (parts_text is.parts ++ ((codes "LIST" ++ is.movi_size ++ codes "movi") ++ rest))) ≡ Ok ((head, first_at is), rest)
file_opened {head = head} {frames = frames} is rest =
    let known = file_heads is in
    let size = little_number 4 is.movi_size in
    let left = length (sections_text is.sections) in
    let framed = framed_apart (names_in is) is.chunks (movis is.sections ++ riff_movis is.riffs) (file_framed is) in
    let even = taken_even true is.chunks framed.0.each in
    let opened = open_complete EveryRiff is.riff_size is.parts is.movi_size left known.known head rest is.riff_sized is.movi_sized (omega (arith, is.counted)) (λ e. is.riff_known) (omega (arith, is.filled, is.counted, even)) is.each known.run known.head_is in
    let room : size - 4 ≡ length (chunks_text is.chunks) = omega (arith, is.counted) in
    let owes : owed known.known.frames ≡ total is.extended = ap owed known.frames_are ∙ owed_total (first_of (those is_total (all_of is.extended))) in
    let streams_are = run_counted (flat_map header_chunks is.parts) no_headers known.known (omega arith) known.run in
    let names : Closed known.known.passed known.known.streams ≡ names_in is = ap (λ n. Closed n known.known.streams) known.number ∙ ap (Closed (length is.before)) (streams_are ∙ ap (λ n. min n 100) (zero-add (length (streams is.parts)))) in
    let made : ℕ → Names → ℕ → Result ((Head × Place) × List ℕ) Stop = λ movi names o. Ok ((head, placed (in_riff most_input names left 0) movi o), rest) in
    opened
    ∙ ap (λ n. made n (Closed known.known.passed known.known.streams) (owed known.known.frames)) room
    ∙ ap (λ z. made (length (chunks_text is.chunks)) z (owed known.known.frames)) names
    ∙ ap (λ n. made (length (chunks_text is.chunks)) (names_in is) n) owes

-- what is known of the RIFFs up to the edge of one
pub riffs_before : (n : Names) (chunks : List Chunk) (sections : List Section) (riffs before after : List Riff) → riffs ≡ before ++ after → AreRiffs n riffs → length (riffs_text riffs) < most_input → Framed n (chunks ++ (movis sections ++ riff_movis riffs)) →
    AreRiffs n before × (length (riffs_text before) < most_input) × Framed n (chunks ++ (movis sections ++ riff_movis before))
riffs_before n chunks sections riffs before after parted riffs_are fewer_are framed_are =
    let P : List Riff → Type 0 = λ z. AreRiffs n z in
    let are = riffs_apart n before after (subst P parted riffs_are) in
    let Q : List Riff → Type 0 = λ z. length (riffs_text z) < most_input in
    let bounded : length (riffs_text (before ++ after)) < most_input = subst Q parted fewer_are in
    let apart : riffs_text (before ++ after) ≡ riffs_text before ++ riffs_text after = flat_map-append riff_text before after in
    let fits : length (riffs_text before) < most_input = fewer (length (riffs_text before)) (length (riffs_text after)) (length (riffs_text (before ++ after))) most_input (ap length apart ∙ length-append (riffs_text before) (riffs_text after)) bounded in
    let movis_are : riff_movis riffs ≡ riff_movis before ++ riff_movis after = ap riff_movis parted ∙ flat_map-append (λ (r : Riff). movis r.sections) before after in
    let R : List Chunk → Type 0 = λ z. Framed n z in
    let whole : chunks ++ (movis sections ++ riff_movis riffs) ≡ (chunks ++ (movis sections ++ riff_movis before)) ++ riff_movis after =
    ap (λ z. chunks ++ (movis sections ++ z)) movis_are ∙ in_a_row chunks (movis sections) (riff_movis before) (riff_movis after) in
    let framed = framed_apart n (chunks ++ (movis sections ++ riff_movis before)) (riff_movis after) (subst R whole framed_are) in
    (are.0, fits, framed.0)
  where
    riffs_apart : (names : Names) (xs ys : List Riff) → AreRiffs names (xs ++ ys) → AreRiffs names xs × AreRiffs names ys
    riffs_apart names [] ys h = (tt, h)
    riffs_apart names (x ∷ xs) ys h = let more = riffs_apart names xs ys h.1 in ((h.0, more.0), more.1)

    fewer : (a b c n : ℕ) → c ≡ a + b → c < n → a < n
    fewer a b c n e h = omega (arith, e, h)

    in_a_row : (a b c d : List Chunk) → a ++ (b ++ (c ++ d)) ≡ (a ++ (b ++ c)) ++ d
    in_a_row a b c d = simp append_assoc

pub file_before : {file : List ℕ} {head : Head} {frames : List (List ℕ)} (is : RiffFile file head frames) (before after : List Riff) → is.riffs ≡ before ++ after →
    AreRiffs (names_in is) before × (length (riffs_text before) < most_input) × Framed (names_in is) (is.chunks ++ (movis is.sections ++ riff_movis before))
file_before is before after parted = riffs_before (names_in is) is.chunks is.sections is.riffs before after parted is.riffs_are is.bounded (file_framed is)

-- a file is read up to the edge of an RIFF, and what is after that
pub file_to : {file : List ℕ} {head : Head} {frames : List (List ℕ)} (is : RiffFile file head frames) (before after : List Riff) (rest : List ℕ) → is.riffs ≡ before ++ after →
    file_read EveryRiff (first_riff is ++ (riffs_text before ++ rest))
    ≡ read_on (preceded (frames_to is before) (frames_behind (in_riff (most_input - length (riffs_text before)) (names_in is) 0 (total is.extended - length (frames_to is before))) rest)) (λ frames. given (head, frames))
file_to {head = head} is before after rest parted =
    let n = names_in is in
    let known = file_before is before after parted in
    ap (file_read EveryRiff) (regrouped (codes "RIFF" ++ is.riff_size ++ codes "AVI ") (parts_text is.parts) (codes "LIST" ++ is.movi_size ++ codes "movi") (chunks_text is.chunks) (sections_text is.sections) (riffs_text before ++ rest))
    ∙ ap (λ z. read_on z (λ p. (frames_read p.1 >>= λ frames. given (p.0, frames)))) (file_opened is (chunks_text is.chunks ++ (sections_text is.sections ++ (riffs_text before ++ rest))))
    ∙ ap (λ z. read_on z (λ frames. given (head, frames))) (place_read most_input n (total is.extended) is.chunks is.sections before rest is.sections_are known.0 known.1 is.fit known.2)

-- a file and what stands after it
pub every_then : (file : List ℕ) (head : Head) (frames : List (List ℕ)) (rest : List ℕ) → RiffFileThen file head frames rest → file_read EveryRiff file ≡ Ok ((head, frames), rest)
every_then file head frames rest h =
    let is = h.is in
    let all = frames_to is is.riffs in
    let same : all ≡ frames = is.framed.those_of in
    let none : total is.extended - length all ≡ 0 = omega (arith, is.enough, ap length same) in
    let parted : file ≡ first_riff is ++ (riffs_text is.riffs ++ h.behind) = h.bytes ∙ ap (λ z. z ++ h.behind) (file_parts is) ∙ append_assoc (first_riff is) (riffs_text is.riffs) h.behind in
    ap (file_read EveryRiff) parted
    ∙ file_to is is.riffs [] h.behind (sym (append-nil is.riffs))
    ∙ ap (λ z. read_on (preceded all z) (λ frames. given (head, frames))) (behind_over (most_input - length (riffs_text is.riffs)) (names_in is) (total is.extended - length all) h.behind none h.other)
    ∙ ap (λ z. Ok ((head, z), looked_past h.behind)) (append-nil all ∙ same)
    ∙ ap (λ z. Ok ((head, frames), z)) (sym h.left)

pub every_complete : (file : List ℕ) (head : Head) (frames : List (List ℕ)) → RiffFile file head frames → file_read EveryRiff file ≡ Ok ((head, frames), [])
every_complete file head frames is =
    let none = few_other [] (omega arith) in
    every_then file head frames [] (record { whole = file; behind = []; bytes = sym (append-nil file); is = is; other = none.0; left = sym none.1 })

-- a file has one head and one list of frames
pub every_only : (file : List ℕ) (head other : Head) (frames others : List (List ℕ)) → RiffFile file head frames → RiffFile file other others → (head ≡ other) × (frames ≡ others)
every_only file head other frames others is also =
    let one : Head × List (List ℕ) = (head, frames) in
    let two : Head × List (List ℕ) = (other, others) in
    let same = ok_is (one, []) (two, []) (sym (every_complete file head frames is) ∙ every_complete file other others also) in
    (ap (λ (z : (Head × List (List ℕ)) × List ℕ). z.0.0) same, ap (λ (z : (Head × List (List ℕ)) × List ℕ). z.0.1) same)

-- whatever stands after it
pub then_only : (file : List ℕ) (head other : Head) (frames others : List (List ℕ)) (rest more : List ℕ) → RiffFileThen file head frames rest → RiffFileThen file other others more → (head ≡ other) × (frames ≡ others) × (rest ≡ more)
then_only file head other frames others rest more is also =
    let one : Head × List (List ℕ) = (head, frames) in
    let two : Head × List (List ℕ) = (other, others) in
    let same = ok_is (one, rest) (two, more) (sym (every_then file head frames rest is) ∙ every_then file other others more also) in
    (ap (λ (z : (Head × List (List ℕ)) × List ℕ). z.0.0) same, ap (λ (z : (Head × List (List ℕ)) × List ℕ). z.0.1) same, ap (λ (z : (Head × List (List ℕ)) × List ℕ). z.1) same)
