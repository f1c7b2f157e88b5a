-- What an element holds that is not divided, a block or none: what is read is that, and that is read.
use Rattle.std.proofs.Common.{Bool, Err, List, Ok, Some, [], ap, append_assoc, arith, drop, false, if◌then◌else◌, length, length-append, nat_lt, refl, slice_index, take, true, ℕ, ◌++◌, ◌+◌, ◌-◌, ◌==◌, ◌∙◌, ◌∷◌, ◌≡◌, ◌≤◌}
use Rattle.std.proofs.lemmas.Bool.{eq-eqb, le-ltb, ne_eqb}
use Rattle.ffv1_reads.specs.declared.fault.FileFault.TheVariants as fault
use Rattle.ffv1_reads.specs.Reads.{Kept, Met, Reading, given, read_on, ◌>>=◌}
use Rattle.ffv1_reads.proofs.WantedBytes.{taken_complete, wanted_complete}
use Rattle.ffv1_ebml.specs.Elements.{data_read}
use Rattle.ffv1_ebml.specs.Sums.{summed}
use Rattle.ffv1_ebml.specs.Vints.{IsVint, data_of, number_of}
use Rattle.ffv1_ebml.specs.declared.sum.Sum.{Sum}
use Rattle.ffv1_ebml.proofs.ElementLaws.{summed_twice}
use Rattle.ffv1_ebml.proofs.VintLaws.{vint_complete}
use Rattle.ffv1_matroska.specs.WrittenIdents.{timestamp}
use Rattle.ffv1_matroska.specs.Segments.{beside_read, timestamp_read}
use Rattle.ffv1_matroska.specs.Blocks.{block_read, block_rest, fields_read, is_unknown, lacing_of, passed_on, time_of}
use Rattle.ffv1_matroska.specs.Elements.{Content, IsContent, IsOwn, Plain, Other, Own, content_frames, content_text}
use Rattle.ffv1_matroska.specs.Places.{closed, frame_at, is_sound, step_to, summed_at, timed_to}
use Rattle.ffv1_matroska.specs.declared.place.Place.{Place}
use Rattle.ffv1_matroska.proofs.FrameTurns.{Turn, kept_by, step_kept}
use Rattle.ffv1_matroska.specs.declared.track.TrackNumbers.{TrackNumbers}

-- content of so many bytes, a block or none
abbrev pub content_read : TrackNumbers → Bool → ℕ → Place → Reading Turn
content_read track is_block size place = (if is_block then block_read track size place else passed_on size place) >>= step_kept

-- the place after some bytes
abbrev pub after_bytes : Place → List ℕ → Place
after_bytes place bytes = summed_at place (summed place.sum bytes)

-- bytes are passed
passed_complete : (place : Place) (bytes rest : List ℕ) (size : ℕ) → length bytes ≡ size → is_sound (after_bytes place bytes) ≡ true →
    passed_on size place (bytes ++ rest) ≡ Ok (Some (step_to (after_bytes place bytes)), rest)
unfolding passed_on
passed_complete place bytes rest size long sound =
    ap (λ z. read_on (read_on z (λ xs. given (summed place.sum xs))) (λ sum. closed (Some (step_to (summed_at place sum))) (summed_at place sum))) (taken_complete size bytes rest long)
    ∙ rw sound refl

-- a Timestamp is no frame, as what is passed is none
pub beside_kept : (ident size : ℕ) (place : Place) (text : List ℕ) → (beside_read ident size place >>= step_kept) text ≡ (passed_on size place >>= step_kept) text
unfolding timestamp_read passed_on
beside_kept ident size place text = on_time (ident == timestamp) refl (nat_lt (length text) size) refl
  where
    now : Place
    now = summed_at place (summed place.sum (take size text))

    on_sound : (b : Bool) → is_sound now ≡ b → read_on (closed (Some (timed_to (number_of (take size text)) now)) now (drop size text)) step_kept ≡ read_on (closed (Some (step_to now)) now (drop size text)) step_kept
    on_sound true sound = rw sound refl
    on_sound false sound = rw sound refl

    on_time : (a : Bool) → (ident == timestamp) ≡ a → (b : Bool) → nat_lt (length text) size ≡ b → (beside_read ident size place >>= step_kept) text ≡ (passed_on size place >>= step_kept) text
    on_time false other b long = rw other refl
    on_time true is true long = rw (is, long) refl
    on_time true is false long = rw (is, long) (on_sound (is_sound now) refl)

index_last : (time : List ℕ) (flags : ℕ) → length time ≡ 2 → slice_index (time ++ flags ∷ []) 2 ≡ flags
index_last [] flags long = absurd (omega (arith, long))
index_last (a ∷ []) flags long = absurd (omega (arith, long))
index_last (a ∷ b ∷ []) flags long = refl
index_last (a ∷ b ∷ c ∷ cs) flags long = absurd (omega (arith, long))

-- a block is read
data_complete : (size : ℕ) (sum : Sum) (number rest : List ℕ) → IsVint number → length number ≤ 8 → length number ≤ size → data_read size sum (number ++ rest) ≡ Ok ((record { value = data_of number; left = size - length number }, summed sum number), rest)
data_complete size sum number rest is few fits = ap (λ z. read_on z (λ bytes. given (record { value = data_of bytes; left = size - length bytes }, summed sum bytes))) (vint_complete 8 size number rest is few fits)

other_complete : (track : TrackNumbers) (place : Place) (number bytes rest : List ℕ) → IsVint number → length number ≤ 8 → (data_of number ≡ track.number → ⊥) → is_unknown track.known (data_of number) ≡ false → is_sound (after_bytes place (number ++ bytes)) ≡ true →
    block_read track (length (number ++ bytes)) place ((number ++ bytes) ++ rest) ≡ Ok (Some (step_to (after_bytes place (number ++ bytes))), rest)
unfolding block_read
other_complete track place number bytes rest is few differ named sound =
    let size = length (number ++ bytes) in
    let parts : size ≡ length number + length bytes = length-append number bytes in
    let fits : length number ≤ size = omega (arith, parts) in
    let left : length bytes ≡ size - length number = omega (arith, parts) in
    let test : (data_of number == track.number) ≡ false = ne_eqb _ _ differ in
    let sums : summed (summed place.sum number) bytes ≡ summed place.sum (number ++ bytes) = summed_twice place.sum number bytes in
    let now : Place = summed_at place (summed place.sum number) in
    let there : is_sound (after_bytes now bytes) ≡ true = rw sums sound in
    ap (block_read track size place) (append_assoc number bytes rest)
    ∙ ap (λ z. read_on z (block_rest track place)) (data_complete size place.sum number (bytes ++ rest) is few fits)
    ∙ rw (test, named) (passed_complete now bytes rest (size - length number) left there)
    ∙ ap (λ s. Ok (Some (step_to (summed_at place s)), rest)) sums

-- one of a number that no track has is refused after that
pub unknown_refused : (track : TrackNumbers) (size : ℕ) (place : Place) (number rest : List ℕ) → IsVint number → length number ≤ 8 → length number ≤ size → (data_of number ≡ track.number → ⊥) → is_unknown track.known (data_of number) ≡ true →
    block_read track size place (number ++ rest) ≡ Err (Met fault.BadElement rest)
unfolding block_read
unknown_refused track size place number rest is few fits differ unknown =
    let test : (data_of number == track.number) ≡ false = ne_eqb _ _ differ in
    ap (λ z. read_on z (block_rest track place)) (data_complete size place.sum number rest is few fits)
    ∙ rw (test, unknown) refl

pub own_complete : (track : TrackNumbers) (place : Place) (number time : List ℕ) (flags : ℕ) (frame rest : List ℕ) → IsOwn track number time flags frame →
    block_read track (length (number ++ ((time ++ flags ∷ []) ++ frame))) place ((number ++ ((time ++ flags ∷ []) ++ frame)) ++ rest)
    ≡ Ok (Some (frame_at (Some (time_of (time ++ flags ∷ []))) (length frame) (after_bytes place (number ++ (time ++ flags ∷ [])))), frame ++ rest)
unfolding block_read fields_read
own_complete track place number time flags frame rest is =
    let fields = time ++ flags ∷ [] in
    let size = length (number ++ (fields ++ frame)) in
    let three : length fields ≡ 3 = length-append time (flags ∷ []) ∙ (omega (arith, is.timed)) in
    let parts : size ≡ length number + (3 + length frame) = length-append number (fields ++ frame) ∙ ap (λ n. length number + n) (length-append fields frame ∙ ap (λ n. n + length frame) three) in
    let fits : length number ≤ size = omega (arith, parts) in
    let left : size - length number ≡ 3 + length frame = omega (arith, parts) in
    let end : 3 + length frame - 3 ≡ length frame = omega arith in
    let test : (data_of number == track.number) ≡ true = eq-eqb _ _ is.own.2 in
    let sums : summed (summed place.sum number) fields ≡ summed place.sum (number ++ fields) = summed_twice place.sum number fields in
    let lacing : (lacing_of flags == 0) ≡ true = eq-eqb _ _ is.unlaced in
    let some : (length frame == 0) ≡ false = ne_eqb _ _ (λ e. omega (arith, e, is.some)) in
    let enough : nat_lt (3 + length frame) 3 ≡ false = le-ltb (3 + length frame) 3 (omega arith) in
    ap (block_read track size place) (regrouped number fields frame rest)
    ∙ ap (λ z. read_on z (block_rest track place)) (data_complete size place.sum number (fields ++ (frame ++ rest)) is.own.0 is.own.1 fits)
    ∙ rw (test, left, enough, taken_complete 3 fields (frame ++ rest) three, index_last time flags is.timed, lacing, end, le-ltb _ _ is.short, some, sums) refl
  where
    regrouped : (a b c d : List ℕ) → (a ++ (b ++ c)) ++ d ≡ a ++ (b ++ (c ++ d))
    regrouped a b c d = simp append_assoc

kept_complete : (place : Place) (frame rest : List ℕ) → is_sound (after_bytes place frame) ≡ true → kept_by (Some (length frame)) place (frame ++ rest) ≡ Ok (Some (frame ∷ [], after_bytes place frame), rest)
kept_complete place frame rest sound =
    ap (λ z. read_on {X = List ℕ × Sum} (read_on z (λ bytes. given (bytes, summed place.sum bytes))) (λ q. closed (Some (q.0 ∷ [], summed_at place q.1)) (summed_at place q.1))) (wanted_complete Kept (length frame) frame rest refl)
    ∙ rw sound refl

pub content_complete : (track : TrackNumbers) (is_block : Bool) (c : Content) (place : Place) (rest : List ℕ) → IsContent track is_block c → is_sound (after_bytes place (content_text c)) ≡ true →
    content_read track is_block (length (content_text c)) place (content_text c ++ rest) ≡ Ok (Some (content_frames c, after_bytes place (content_text c)), rest)
content_complete track is_block (Plain bytes) place rest is sound = rw is (ap (λ z. read_on z step_kept) (passed_complete place bytes rest (length bytes) refl sound))
content_complete track is_block (Other number bytes) place rest is sound = rw is.0 (ap (λ z. read_on z step_kept) (other_complete track place number bytes rest is.1 is.2 is.3 is.4 sound))
content_complete track is_block (Own number time flags frame) place rest is sound =
    let head = number ++ (time ++ flags ∷ []) in
    let now : Place = after_bytes place head in
    let whole : head ++ frame ≡ number ++ ((time ++ flags ∷ []) ++ frame) = append_assoc number (time ++ flags ∷ []) frame in
    let sums : summed (summed place.sum head) frame ≡ summed place.sum (number ++ ((time ++ flags ∷ []) ++ frame)) = summed_twice place.sum head frame ∙ ap (summed place.sum) whole in
    let there : is_sound (after_bytes now frame) ≡ true = rw sums sound in
    rw is.0 (ap (λ z. read_on z step_kept) (own_complete track place number time flags frame rest is.1)
    ∙ kept_complete now frame rest there
    ∙ ap (λ s. Ok (Some (frame ∷ [], summed_at place s), rest)) sums)
