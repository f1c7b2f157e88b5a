-- Chunks from the first movi on, by the calls of which the reading of each is made.
use Rattle.std.proofs.Common.{◌≡◌, ◌+◌, ◌-◌, ◌%◌, ◌==◌, ◌&&◌, ◌≤◌, min, ℕ, nat_lt, Option, Some, None, Ok, List, [], ◌∷◌, ◌++◌, length, take, drop, codes, refl, ap, ◌∙◌, subst, arith, append_assoc}
use Rattle.std.proofs.lemmas.Bool.{eqb-true, ltb-false}
use Rattle.std.proofs.lemmas.Bool.Decides.{nat_tests}
use Rattle.byteorder.specs.Endian.{little_number}
use Rattle.ffv1_reads.specs.declared.fault.FileFault.{FileFault}
use Rattle.ffv1_reads.specs.declared.fault.FileFault.TheVariants as fault
use Rattle.ffv1_reads.specs.Ends.{RefusedOrEnds}
use Rattle.std.proofs.Common.{append-nil}
use Rattle.std.proofs.lemmas.List.{length-append}
use Rattle.std.specs.Io.KnownBytes.{Consumes}
use Rattle.ffv1_wire.proofs.Bytes.{consumes_then}
use Rattle.ffv1_reads.specs.Offsets.{ReadsCounted, ReadsWhole, all_bytes}
use Rattle.ffv1_reads.specs.Reads.{Kept, Looked, Want, Read, Reading, Refused, given, passed, read_on, refused, taken, wanted, ◌>>=◌}
use Rattle.ffv1_reads.proofs.EndRefusals.{ends_refused}
use Rattle.ffv1_reads.proofs.OffsetLaws.{counted_given, counted_then, reads_counted}
use Rattle.ffv1_reads.proofs.Reading.{Goes, goes_none, goes_read, goes_refused}
use Rattle.ffv1_reads.proofs.Taking.{Takes, takes_given, takes_if, takes_passed, takes_refused, takes_same, takes_then, takes_wanted}
use Rattle.ffv1_avi.specs.declared.chunk.Entry.{Entry}
use Rattle.ffv1_avi.specs.declared.place.Place.{Place}
use Rattle.ffv1_avi.specs.Opens.{frame_judged, list_opened, visit_movi}
use Rattle.ffv1_avi.specs.Offsets.{chunk_taken, frame_taken, movi_left, movi_taken}
use Rattle.ffv1_avi.specs.Internal.Offsets.{FrameBegins, FrameStarts}
use Rattle.ffv1_avi.specs.Padding.{content, padded}
use Rattle.ffv1_avi.specs.Places.{frame_at}
use Rattle.ffv1_avi.specs.Walk.{Rule, entry_in, entry_judged, is_name, is_sizeless, sizeless_judged, sizeless_or}
use Rattle.ffv1_avi.proofs.TakenChunks.{size_fits}
use Rattle.ffv1_avi.specs.declared.place.Names.{Names}
use Rattle.ffv1_avi.specs.Names.{is_barred, least_bytes, most_bytes, rule_of}
use Rattle.ffv1_avi.specs.Names.{is_frame}

-- a header
abbrev pub Fits : ℕ → Option Entry → Type 0
Fits left None = left ≡ 0
Fits left (Some e) = 8 + (padded e.size + e.left) ≡ left

abbrev pub left_of : ℕ → Option Entry → ℕ
left_of left None = left
left_of left (Some e) = padded e.size + e.left

pub entry_takes : (rule : Rule) (left : ℕ) → Takes (Fits left) left (left_of left) (entry_in rule left)
unfolding entry_in
entry_takes rule left =
    takes_if (left == 0) (given None) _ (λ none. takes_given None (eqb-true left 0 none) refl)
    (λ _. takes_if (nat_lt left 8) (refused fault.Truncated) _ (λ _. takes_refused fault.Truncated)
    (λ long. (let eight : 8 ≤ left = grind (arith, nat_tests, long) in
    takes_then (taken 8) _ (takes_same _ _ (taken 8) (omega (arith, eight)) (takes_wanted Looked 8 (left - 8))) (λ head _. judged (take 4 head) (little_number 4 (drop 4 head))))))
  where
    bare : (name : List ℕ) → Takes (Fits left) (left - 8) (left_of left) (sizeless_judged left name)
    bare name =
        takes_if (nat_lt left 12) (refused fault.Truncated) _ (λ _. takes_refused fault.Truncated)
        (λ fits. (let room : 12 ≤ left = grind (arith, nat_tests, fits) in takes_given _ (omega (arith, room)) (omega (arith, room))))

    faulty : (name : List ℕ) (size : ℕ) (f : FileFault) → Takes (Fits left) (left - 8) (left_of left) (sizeless_or rule left name size f)
    faulty name size f = takes_if (is_sizeless rule name size) (sizeless_judged left name) _ (λ _. bare name) (λ _. takes_refused f)

    judged : (name : List ℕ) (size : ℕ) → Takes (Fits left) (left - 8) (left_of left) (entry_judged rule left name size)
    judged name size =
        takes_if (rule.bars name) (refused fault.NotAvi) _ (λ _. takes_refused fault.NotAvi)
        (λ _. takes_if (nat_lt left (8 + padded size)) (sizeless_or rule left name size fault.Truncated) _ (λ _. faulty name size fault.Truncated)
        (λ fits. (let room : 8 + padded size ≤ left = grind (arith, nat_tests, fits) in
        takes_if (is_name name (codes "LIST") && nat_lt size 4) (sizeless_or rule left name size fault.NotAvi) _ (λ _. faulty name size fault.NotAvi)
        (λ long. (let less = size_fits rule name size (λ l. ltb-false _ _ (rw l at long)) in takes_given _ (omega (arith, room, less)) (omega (arith, room, less)))))))

pub entry_counted : (rule : Rule) (left : ℕ) (e : Entry) {a b : Option (List ℕ)} → Read (entry_in rule left) a b (Some e) → ReadsCounted (entry_in rule left) a b (Some e) 8
entry_counted rule left e read = reads_counted 8 (entry_takes rule left) ((entry_takes rule left).only _ _ _ (read.is [])).0 read

pub entry_end : (rule : Rule) (left : ℕ) {a b : Option (List ℕ)} → Read (entry_in rule left) a b None → left ≡ 0
entry_end rule left read = ((entry_takes rule left).only _ _ _ (read.is [])).0

-- a chunk of movi
abbrev pub visit_left : Entry → Unit {0} × Option (ℕ × ℕ) → ℕ
visit_left e (u, None) = 0
visit_left e (u, Some p) = padded e.size

abbrev pub Same : Entry → Unit {0} × Option (ℕ × ℕ) → Type 0
Same e (u, None) = Unit {0}
Same e (u, Some p) = p ≡ (e.size, e.left)

-- bytes and their padding
pub content_takes : (w : Want) (size : ℕ) → Takes (λ (bytes : List ℕ). Unit {0}) (padded size) (λ _. 0) (content w size)
content_takes w size = takes_then (wanted w size) _ (takes_same (size + size % 2) (padded size) (wanted w size) refl (takes_wanted w size (size % 2))) (λ bytes _. takes_then (passed (size % 2)) _ (takes_same _ _ (passed (size % 2)) (omega arith) (takes_passed (size % 2) 0)) (λ _ _. takes_given bytes tt refl))

pub skipped_takes : (e : Entry) → Takes (Same e) (padded e.size) (visit_left e) (passed (padded e.size) >>= λ _. given (tt {0}, None))
skipped_takes e = takes_then (passed (padded e.size)) _ (takes_same _ _ (passed (padded e.size)) (omega arith) (takes_passed (padded e.size) 0)) (λ _ _. takes_given _ tt refl)

pub opened_takes : (e : Entry) → Takes (Same e) (padded e.size) (visit_left e) (content Looked e.size >>= list_opened)
opened_takes e =
    takes_then (content Looked e.size) list_opened (content_takes Looked e.size)
    (λ own _. takes_if (is_name own (codes "rec ")) (given (tt {0}, None)) _ (λ _. takes_given _ tt refl) (λ _. takes_refused fault.NotAvi))

pub visit_takes : (names : Names) (e : Entry) → Takes (Same e) (padded e.size) (visit_left e) (visit_movi names tt e)
unfolding visit_movi
visit_takes names e =
    takes_if (is_barred names e.name) (refused fault.NotAvi) _ (λ _. takes_refused fault.NotAvi)
    (λ _. takes_if (is_frame names e.name) (frame_judged (least_bytes names) (most_bytes names) e.size e.left) _
    (λ _. takes_if (nat_lt (most_bytes names) e.size) (refused fault.ChunkTooLong) _ (λ _. takes_refused fault.ChunkTooLong)
    (λ _. takes_if (nat_lt e.size (least_bytes names)) (refused fault.EmptyFrame) _ (λ _. takes_refused fault.EmptyFrame) (λ _. takes_given _ refl refl)))
    (λ _. takes_if (is_name e.name (codes "LIST")) (content Looked e.size >>= list_opened) _ (λ _. opened_takes e) (λ _. skipped_takes e)))

pub chunk_passed : (place : Place) (e : Entry) {a b c : Option (List ℕ)} → Read (entry_in (rule_of place.names) place.movi) a b (Some e) → Read (visit_movi place.names tt e) b c (tt, None) → ReadsCounted (chunk_taken place) a c (movi_left place e.left) (8 + (padded e.size + 0))
unfolding chunk_taken
chunk_passed place e {c = c} header visit =
    counted_then (entry_in (rule_of place.names) place.movi) (movi_taken place) (entry_counted (rule_of place.names) place.movi e header)
    (counted_then (visit_movi place.names tt e) (λ p. frame_taken place e.left p.1) (reads_counted (padded e.size) (visit_takes place.names e) (omega arith) visit) (counted_given (movi_left place e.left) c))

-- a frame
content_counted : (size : ℕ) (bytes : List ℕ) {a b c : Option (List ℕ)} → Read (wanted Kept size) a b bytes → Read (passed (size % 2)) b c tt → ReadsCounted (content Kept size) a c bytes (size + (size % 2 + 0))
content_counted size bytes {c = c} read pad =
    counted_then (wanted Kept size) _ (reads_counted {before = size} size (takes_same (size + 0) size (wanted Kept size) (omega arith) (takes_wanted Kept size 0)) (omega arith) read)
    (counted_then (passed (size % 2)) _ (reads_counted {before = size % 2} (size % 2) (takes_same (size % 2 + 0) (size % 2) (passed (size % 2)) (omega arith) (takes_passed (size % 2) 0)) (omega arith) pad) (counted_given bytes c))

-- a chunk of movi that is a frame starts so
pub begins_starts : (to : Place) (size left : ℕ) (old now : Option (List ℕ)) → FrameBegins to old now (size, left) → FrameStarts to old now size (frame_at to left)
unfolding chunk_taken
begins_starts to size left old now h =
    let header = entry_counted (rule_of to.names) to.movi h.entry h.header in
    let visit = reads_counted {x = (tt {0}, Some (size, left))} 0 (visit_takes to.names h.entry) (omega arith) h.visit in
    let none : visit.bytes ≡ [] = no_bytes visit.bytes visit.counted in
    record { bytes = header.bytes ++ visit.bytes; consumed = consumes_then old h.between now header.bytes visit.bytes header.consumed visit.consumed; is = λ rest. leads header.bytes visit.bytes header.is visit.is rest; counted = omega (arith, length-append header.bytes visit.bytes, header.counted, visit.counted) }
  where
    no_bytes : (xs : List ℕ) → length xs ≡ 0 → xs ≡ []
    no_bytes [] h = refl
    no_bytes (x ∷ xs) h = absurd (omega (arith, h))

    leads : (a b : List ℕ) → ((rest : List ℕ) → entry_in (rule_of to.names) to.movi (a ++ rest) ≡ Ok (Some h.entry, rest)) → ((rest : List ℕ) → visit_movi to.names tt h.entry (b ++ rest) ≡ Ok ((tt, Some (size, left)), rest)) → (rest : List ℕ) → chunk_taken to ((a ++ b) ++ rest) ≡ (content Kept size >>= λ bytes. given (frame_at to left)) rest
    leads a b one two rest =
        ap (chunk_taken to) (append_assoc a b rest)
        ∙ ap (λ z. read_on z (movi_taken to)) (one (b ++ rest))
        ∙ ap (λ z. read_on z (λ p. frame_taken to h.entry.left p.1)) (two rest)

pub chunk_started : (to : Place) (size : ℕ) (next : Place) (bytes : List ℕ) {b c d e : Option (List ℕ)} → FrameStarts to b c size next → Read (wanted Kept size) c d bytes → Read (passed (size % 2)) d e tt → ReadsCounted (chunk_taken to) b e next (8 + (size + (size % 2 + 0) + 0))
chunk_started to size next bytes {b = b} {c = c} {d = d} {e = e} starts read pad =
    let body = content_counted size bytes read pad in
    record { bytes = starts.bytes ++ body.bytes; consumed = consumes_then b c e starts.bytes body.bytes starts.consumed body.consumed; is = λ rest. ap (chunk_taken to) (append_assoc starts.bytes body.bytes rest) ∙ starts.is (body.bytes ++ rest) ∙ ap (λ z. read_on z (λ bytes. given next)) (body.is rest); counted = omega (arith, length-append starts.bytes body.bytes, starts.counted, body.counted) }

frame_reached : (to : Place) (size : ℕ) (next : Place) (old now : Option (List ℕ)) (before : ℕ) → FrameStarts to old now size next → Goes (chunk_taken to) old before (content Kept size >>= λ bytes. given next) now before
frame_reached to size next old now before h = record { bytes = h.bytes; consumed = h.consumed; leads = h.is; same = refl }

frame_ends : (to : Place) (size : ℕ) (next : Place) (old now new : Option (List ℕ)) (before last : ℕ) (f : FileFault) → FrameStarts to old now size next → Refused (content Kept size) now new before last f → RefusedOrEnds (chunk_taken to) old new before last f
frame_ends to size next old now new before last f h why = ends_refused (content Kept size) (λ bytes. given next) new last f (frame_reached to size next old now before h) why

pub fill_refused : (to : Place) (size : ℕ) (next : Place) (old now new : Option (List ℕ)) (before mid last : ℕ) (f : FileFault) → FrameStarts to old now size next → mid ≡ before → Refused (wanted Kept size) now new mid last f → RefusedOrEnds (chunk_taken to) old new before last f
fill_refused to size next old now new before mid last f h same why =
    frame_ends to size next old now new before last f h
    (subst (λ n. Refused (content Kept size) now new n last f) same (goes_refused (wanted Kept size) (λ bytes. passed (size % 2) >>= λ _. given bytes) new last f (goes_none (content Kept size) now mid) why))

pub pad_refused : (to : Place) (size : ℕ) (next : Place) (bytes : List ℕ) (old now between new : Option (List ℕ)) (before mid after last : ℕ) (f : FileFault) → FrameStarts to old now size next → mid ≡ before → (after ≡ mid) × Read (wanted Kept size) now between bytes → Refused (passed (size % 2)) between new after last f →
    RefusedOrEnds (chunk_taken to) old new before last f
pad_refused to size next bytes old now between new before mid after last f h same read why =
    frame_ends to size next old now new before last f h
    (subst (λ n. Refused (content Kept size) now new n last f) same (goes_refused (passed (size % 2)) (λ _. given bytes) new last f (goes_read (wanted Kept size) (λ bytes. passed (size % 2) >>= λ _. given bytes) between after bytes (goes_none (content Kept size) now mid) read) why))

-- that was refused
pub entry_refused : (place : Place) (old new : Option (List ℕ)) (before after : ℕ) (f : FileFault) → Refused (entry_in (rule_of place.names) place.movi) old new before after f → RefusedOrEnds (chunk_taken place) old new before after f
unfolding chunk_taken
entry_refused place old new before after f why = ends_refused (entry_in (rule_of place.names) place.movi) (movi_taken place) new after f (goes_none (chunk_taken place) old before) why

pub visit_refused : (place : Place) (e : Entry) (old mid new : Option (List ℕ)) (before between after : ℕ) (f : FileFault) → (between ≡ before) × Read (entry_in (rule_of place.names) place.movi) old mid (Some e) → Refused (visit_movi place.names tt e) mid new between after f → RefusedOrEnds (chunk_taken place) old new before after f
unfolding chunk_taken
visit_refused place e old mid new before between after f header why =
    ends_refused (visit_movi place.names tt e) (λ p. frame_taken place e.left p.1) new after f (goes_read (entry_in (rule_of place.names) place.movi) (movi_taken place) mid between (Some e) (goes_none (chunk_taken place) old before) header) why

-- an offset goes on by one chunk
pub one_more : (offset count size most : ℕ) → min (min (offset + count) most + (8 + size)) most ≡ min (offset + (count + (8 + (size + 0)))) most
one_more offset count size most = grind arith

-- nothing more was read
pub still : {S : Type 0} {element : S → Reading S} {from to : S} {a b c : Option (List ℕ)} {n : ℕ} (rule : Rule) (left : ℕ) → ReadsWhole element from a b to n → Read (entry_in rule left) b c None → ReadsWhole element from a c to n
still {a = a} {b = b} {c = c} rule left h read =
    let all = ((entry_takes rule left).only _ _ _ (read.is [])).1 in
    let empty : read.bytes ≡ [] = none_left read.bytes (omega (arith, all, length-append read.bytes [])) in
    let P : List ℕ → Type 0 = λ z. Consumes a c z in
    record {
      elements = h.elements;
      leads = h.leads;
      consumed = subst P (ap (λ z. all_bytes h.elements ++ z) empty ∙ append-nil (all_bytes h.elements)) (consumes_then a b c (all_bytes h.elements) read.bytes h.consumed read.consumed);
      counted = h.counted;
    }
  where
    none_left : (xs : List ℕ) → length xs ≡ 0 → xs ≡ []
    none_left [] h = refl
    none_left (x ∷ xs) h = absurd (omega (arith, h))

pub counts_none : (offset most : ℕ) → min offset most ≡ min (offset + 0) most
counts_none offset most = grind arith
