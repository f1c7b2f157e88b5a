-- Fields in memory that pass what they stand in.
use Rattle.std.proofs.Common.{◌≡◌, ◌⊎◌, ◌≤◌, ◌<◌, ◌+◌, ◌-◌, ◌==◌, ◌∙◌, ◌++◌, ◌∷◌, [], ℕ, suc, zero, List, Bool, true, false, not, ◌&&◌, Some, None, Ok, Err, inl, inr, length, refl, ap, arith, append_assoc, length-append}
use Rattle.std.proofs.lemmas.Bool.{eq-eqb, le-ltb, ne_eqb}
use Rattle.ffv1_reads.specs.declared.fault.FileFault.TheVariants as fault
use Rattle.ffv1_reads.specs.Reads.{Kept, Met, read_on}
use Rattle.ffv1_reads.proofs.Results.{cut_back, cut_front}
use Rattle.ffv1_reads.proofs.WantedBytes.{wanted_complete}
use Rattle.ffv1_sum.specs.Sum.{crc_of, number_of as low_number}
use Rattle.ffv1_ebml.specs.Contents.{content_told, first_part, found, found_or_on, found_up_to, part_read, sum_of_part}
use Rattle.ffv1_ebml.specs.Elements.{element_read, is_crc}
use Rattle.ffv1_ebml.specs.Vints.{number_of}
use Rattle.ffv1_ebml.specs.declared.sum.Sum.TheVariants.{Absent}
use Rattle.ffv1_ebml.proofs.MemoryReadings.{part_of_some}
use Rattle.ffv1_matroska.specs.Begun.{AreOther, EntryPasses, Field, FieldPasses, HeaderBegins, IsField, IsNotWrong, Passes, TracksBegin, fields_text, room}
use Rattle.ffv1_matroska.specs.Elements.{tops_text}
use Rattle.ffv1_matroska.specs.Opened.{begin_up_to, ebml, ebml_read, element_or_begun, open_read, tracks, tracks_read}
use Rattle.ffv1_matroska.specs.Opening.{content_kept, doc_type, header_in}
use Rattle.ffv1_matroska.specs.Places.{segment_at}
use Rattle.ffv1_matroska.specs.Segments.{cluster}
use Rattle.ffv1_matroska.specs.Tracks.{entry, first_track, part_or_on, record_in, track_at, track_in, track_type, track_up_to, ◌>>?◌}
use Rattle.ffv1_matroska.proofs.HeaderLaws.{IsHeader, header_complete}
use Rattle.ffv1_matroska.proofs.OpenedLaws.{ident_complete, size_complete, tops_begun}
use Rattle.ffv1_matroska.proofs.PartLaws.{header_is_read}
use Rattle.ffv1_matroska.proofs.PieceLaws.{header_some}
use Rattle.ffv1_matroska.proofs.TrackLaws.{HasStart, header_passes, refused_at, segment_start}
use Rattle.ffv1_matroska.proofs.TrackWalks.{first_fails}

-- the first field
field_first : (f : Field) (more : List ℕ) → IsField f → first_part (((f.ident ++ f.size) ++ f.content) ++ more) ≡ Ok (Some (record { ident = number_of f.ident; content = f.content; rest = more }))
field_first f more is =
    let head = f.ident ++ f.size in
    let xs = (head ++ f.content) ++ more in
    let n = length f.content in
    let long : length xs ≡ length head + (n + length more) = ap length (append_assoc head f.content more) ∙ length-append head (f.content ++ more) ∙ ap (λ k. length head + k) (length-append f.content more) in
    let some : length xs ≡ 0 → ⊥ = λ e. omega (arith, e, long, is.named.0, length-append f.ident f.size) in
    let header : IsHeader (length xs) f.ident f.size (Some n) = record { named = is.named; few = is.few; sized = is.sized; fits = omega (arith, long) } in
    part_of_some xs some
    ∙ ap (λ z. part_read (element_read (length xs) Absent z)) (append_assoc head f.content more)
    ∙ ap part_read (header_complete (length xs) Absent f.ident f.size (f.content ++ more) (Some n) header)
    ∙ rw (cut_front n f.content more refl, cut_back n f.content more refl) refl

-- one that passes its content
passes_first : (ident said bytes : List ℕ) → Passes (length ((ident ++ said) ++ bytes)) ident said → first_part ((ident ++ said) ++ bytes) ≡ Err fault.Truncated
passes_first ident said bytes p =
    let xs = (ident ++ said) ++ bytes in
    let some : length xs ≡ 0 → ⊥ = λ e. omega (arith, e, header_some ident said bytes p.named) in
    part_of_some xs some ∙ ap part_read (header_passes (length xs) Absent ident said bytes p)

-- is met when a field is looked for that does not come before it
found_passes : (most looked_for : ℕ) (fields : List Field) (ident said bytes : List ℕ) → AreOther looked_for fields → Passes (length ((ident ++ said) ++ bytes)) ident said → length fields < most → found_up_to most looked_for (fields_text fields ++ ((ident ++ said) ++ bytes)) ≡ Err fault.Truncated
unfolding found_up_to
found_passes zero looked_for fields ident said bytes others p fits = absurd (omega (arith, fits))
found_passes (suc most) looked_for [] ident said bytes others p fits = ap (found_or_on looked_for (found_up_to most looked_for)) (passes_first ident said bytes p)
found_passes (suc most) looked_for (f ∷ fs) ident said bytes others p fits =
    let more = fields_text fs ++ ((ident ++ said) ++ bytes) in
    let differ : (number_of f.ident == looked_for) ≡ false = ne_eqb _ _ others.1 in
    ap (λ z. found_or_on looked_for (found_up_to most looked_for) (first_part z)) (append_assoc ((f.ident ++ f.size) ++ f.content) (fields_text fs) ((ident ++ said) ++ bytes))
    ∙ ap (found_or_on looked_for (found_up_to most looked_for)) (field_first f more others.0)
    ∙ rw differ (found_passes most looked_for fs ident said bytes others.2 p (omega (arith, fits)))

entry_passes : (most : ℕ) (fields : List Field) (ident said bytes : List ℕ) → AreOther entry fields → Passes (length ((ident ++ said) ++ bytes)) ident said → length fields < most → track_up_to most (fields_text fields ++ ((ident ++ said) ++ bytes)) ≡ Err fault.Truncated
unfolding track_up_to track_at
entry_passes zero fields ident said bytes others p fits = absurd (omega (arith, fits))
entry_passes (suc most) [] ident said bytes others p fits = rw (passes_first ident said bytes p) refl
entry_passes (suc most) (f ∷ fs) ident said bytes others p fits =
    let more = fields_text fs ++ ((ident ++ said) ++ bytes) in
    let differ : (number_of f.ident == entry) ≡ false = ne_eqb _ _ others.1 in
    ap (λ z. first_part z >>? part_or_on (track_up_to most)) (append_assoc ((f.ident ++ f.size) ++ f.content) (fields_text fs) ((ident ++ said) ++ bytes))
    ∙ ap (λ z. z >>? part_or_on (track_up_to most)) (field_first f more others.0)
    ∙ rw differ (entry_passes most fs ident said bytes others.2 p (omega (arith, fits)))

-- there are fewer fields than bytes
few_fields : (looked_for : ℕ) (fields : List Field) → AreOther looked_for fields → length fields ≤ length (fields_text fields)
few_fields looked_for [] others = omega arith
few_fields looked_for (f ∷ fs) others =
    let less = few_fields looked_for fs others.2 in
    omega (arith, less, others.0.named.0, length-append ((f.ident ++ f.size) ++ f.content) (fields_text fs), length-append (f.ident ++ f.size) f.content, length-append f.ident f.size)

fewer_than : (content : List ℕ) (looked_for : ℕ) (h : FieldPasses content looked_for) → length h.fields < length content
fewer_than content looked_for h =
    let few = few_fields looked_for h.fields h.others in
    let some = header_some h.ident h.said h.bytes h.passes.named in
    omega (arith, few, some, ap length h.content_is, length-append (fields_text h.fields) ((h.ident ++ h.said) ++ h.bytes))

-- the CRC-32 of content that one of its elements passes is not wrong
told_so : (content : List ℕ) (looked_for : ℕ) → FieldPasses content looked_for → IsNotWrong content → (content_told content ≡ Ok tt) ⊎ (content_told content ≡ Err fault.Truncated)
told_so content looked_for h sound = on_fields h.fields h.others h.content_is
  where
    tail : List ℕ
    tail = (h.ident ++ h.said) ++ h.bytes

    on_fields : (fields : List Field) → AreOther looked_for fields → content ≡ fields_text fields ++ tail → (content_told content ≡ Ok tt) ⊎ (content_told content ≡ Err fault.Truncated)
    on_fields [] others is = inr (ap content_told is ∙ ap sum_of_part (passes_first h.ident h.said h.bytes h.passes))
    on_fields (f ∷ fs) others is = on_test (is_crc (number_of f.ident) (length f.content) && not (low_number f.content == crc_of more)) refl
      where
        more : List ℕ
        more = fields_text fs ++ tail

        same : content_told content ≡ sum_of_part (Ok (Some (record { ident = number_of f.ident; content = f.content; rest = more })))
        same = ap content_told (is ∙ append_assoc ((f.ident ++ f.size) ++ f.content) (fields_text fs) tail) ∙ ap sum_of_part (field_first f more others.0)

        on_test : (b : Bool) → (is_crc (number_of f.ident) (length f.content) && not (low_number f.content == crc_of more)) ≡ b → (content_told content ≡ Ok tt) ⊎ (content_told content ≡ Err fault.Truncated)
        on_test true t = absurd (sound (same ∙ rw t refl))
        on_test false t = inl (same ∙ rw t refl)

header_truncated : (header : List ℕ) → FieldPasses header doc_type → IsNotWrong header → header_in header ≡ Err fault.Truncated
unfolding header_in
header_truncated header h sound = elim (told_so header doc_type h sound) [ inl good ↦ on_good good | inr bad ↦ rw bad refl ]
  where
    on_good : content_told header ≡ Ok tt → header_in header ≡ Err fault.Truncated
    on_good good =
        let none : found doc_type header ≡ Err fault.Truncated = ap (found_up_to (length header) doc_type) h.content_is ∙ found_passes (length header) doc_type h.fields h.ident h.said h.bytes h.others h.passes (fewer_than header doc_type h) in
        rw (good, none) refl

first_truncated : (content : List ℕ) → FieldPasses content entry → IsNotWrong content → first_track content ≡ Err fault.Truncated
unfolding first_track
first_truncated content h sound = elim (told_so content entry h sound) [ inl good ↦ on_good good | inr bad ↦ rw bad refl ]
  where
    on_good : content_told content ≡ Ok tt → first_track content ≡ Err fault.Truncated
    on_good good = rw good (ap (track_up_to (length content)) h.content_is ∙ entry_passes (length content) h.fields h.ident h.said h.bytes h.others h.passes (fewer_than content entry h))

pub header_field_passes : (file header rest : List ℕ) → HeaderBegins file header rest → FieldPasses header doc_type → IsNotWrong header → open_read file ≡ Err (Met fault.Truncated rest)
unfolding open_read ebml_read content_kept
header_field_passes file header rest b h sound =
    ap open_read b.bytes
    ∙ rw (append_assoc b.ident b.size (header ++ rest), ident_complete ebml b.ident (b.size ++ (header ++ rest)) b.named, size_complete b.size (header ++ rest) (Some (length header)) b.sized, le-ltb _ _ b.short, wanted_complete Kept (length header) header rest refl, header_truncated header h sound) refl

-- a field of a TrackEntry
entry_bad : (most : ℕ) (fields : List Field) (f : Field) (more : List ℕ) → AreOther entry fields → IsField f → number_of f.ident ≡ entry → FieldPasses f.content track_type → length fields < most →
    track_up_to most (fields_text fields ++ (((f.ident ++ f.size) ++ f.content) ++ more)) ≡ Err fault.Truncated
unfolding track_up_to track_at record_in
entry_bad zero fields f more others is named h fits = absurd (omega (arith, fits))
entry_bad (suc most) [] f more others is named h fits =
    let there : (number_of f.ident == entry) ≡ true = eq-eqb _ _ named in
    let none : found track_type f.content ≡ Err fault.Truncated = ap (found_up_to (length f.content) track_type) h.content_is ∙ found_passes (length f.content) track_type h.fields h.ident h.said h.bytes h.others h.passes (fewer_than f.content track_type h) in
    ap (λ z. z >>? part_or_on (track_up_to most)) (field_first f more is) ∙ rw (there, none) refl
entry_bad (suc most) (g ∷ gs) f more others is named h fits =
    let tail = ((f.ident ++ f.size) ++ f.content) ++ more in
    let differ : (number_of g.ident == entry) ≡ false = ne_eqb _ _ others.1 in
    ap (λ z. first_part z >>? part_or_on (track_up_to most)) (append_assoc ((g.ident ++ g.size) ++ g.content) (fields_text gs) tail)
    ∙ ap (λ z. z >>? part_or_on (track_up_to most)) (field_first g (fields_text gs ++ tail) others.0)
    ∙ rw differ (entry_bad most gs f more others.2 is named h (omega (arith, fits)))

-- content that begins with a field is answered, or its CRC-32 is wrong
field_told : (content : List ℕ) (f : Field) (more : List ℕ) → IsField f → content ≡ ((f.ident ++ f.size) ++ f.content) ++ more → IsNotWrong content → content_told content ≡ Ok tt
field_told content f more is whole sound = on_test (is_crc (number_of f.ident) (length f.content) && not (low_number f.content == crc_of more)) refl
  where
    same : content_told content ≡ sum_of_part (Ok (Some (record { ident = number_of f.ident; content = f.content; rest = more })))
    same = ap content_told whole ∙ ap sum_of_part (field_first f more is)

    on_test : (b : Bool) → (is_crc (number_of f.ident) (length f.content) && not (low_number f.content == crc_of more)) ≡ b → content_told content ≡ Ok tt
    on_test true t = absurd (sound (same ∙ rw t refl))
    on_test false t = same ∙ rw t refl

first_entry_truncated : (content : List ℕ) → EntryPasses content → IsNotWrong content → first_track content ≡ Err fault.Truncated
unfolding first_track
first_entry_truncated content h sound = rw (on_fields h.fields h.others h.content_is) (ap (track_up_to (length content)) h.content_is ∙ entry_bad (length content) h.fields h.first h.more h.others h.is h.named h.passes fewer)
  where
    tail : List ℕ
    tail = ((h.first.ident ++ h.first.size) ++ h.first.content) ++ h.more

    fewer : length h.fields < length content
    fewer =
        let few = few_fields entry h.fields h.others in
        let some = header_some h.first.ident h.first.size (h.first.content ++ h.more) h.is.named in
        omega (arith, few, some, ap length h.content_is, length-append (fields_text h.fields) tail, ap length (append_assoc (h.first.ident ++ h.first.size) h.first.content h.more))

    on_fields : (fields : List Field) → AreOther entry fields → content ≡ fields_text fields ++ tail → content_told content ≡ Ok tt
    on_fields [] others is = field_told content h.first h.more h.is is sound
    on_fields (g ∷ gs) others is = field_told content g (fields_text gs ++ tail) others.0 (is ∙ append_assoc ((g.ident ++ g.size) ++ g.content) (fields_text gs) tail) sound

tracks_refused : (file content rest : List ℕ) → TracksBegin file content rest → track_in content ≡ Err fault.Truncated → open_read file ≡ Err (Met fault.Truncated rest)
unfolding begin_up_to tracks_read content_kept
tracks_refused file content rest b bad =
    let one = tops_begun start.most start.base b.before there (head ++ (content ++ rest)) b.before_are b.first (omega (arith, whole, start.fits)) in
    refused_at file _ b.known (Met fault.Truncated rest) b.begins
    (ap (λ k. begin_up_to start.most None (segment_at start.base false k) (tops_text b.before ++ (head ++ (content ++ rest)))) whole ∙ one.2 ∙ on_most one.0 one.1)
  where
    start : HasStart b.known
    start = segment_start b.known

    head : List ℕ
    head = b.ident ++ b.size

    m : ℕ
    m = room b.known - (length (tops_text b.before ++ head) + length content)

    there : ℕ
    there = length head + (length content + m)

    whole : room b.known ≡ length (tops_text b.before) + there
    whole = omega (arith, b.fits, length-append (tops_text b.before) head)

    on_most : (less : ℕ) → there < less → begin_up_to less None (segment_at start.base false there) (head ++ (content ++ rest)) ≡ Err (Met fault.Truncated rest)
    on_most zero less = absurd (omega (arith, less))
    on_most (suc most) less =
        let apart : (number_of b.ident == cluster) ≡ false = ap (λ k. k == cluster) b.named.2 in
        let is : (number_of b.ident == tracks) ≡ true = eq-eqb _ _ b.named.2 in
        ap (λ z. read_on z (element_or_begun (begin_up_to most) None (segment_at start.base false there))) (header_is_read start.base false b.ident b.size (Some (length content)) m (content ++ rest) b.named.0 b.named.1 b.sized)
        ∙ rw (apart, is, le-ltb _ _ b.short, wanted_complete Kept (length content) content rest refl, bad) refl

pub tracks_field_passes : (file content rest : List ℕ) → TracksBegin file content rest → FieldPasses content entry → IsNotWrong content → open_read file ≡ Err (Met fault.Truncated rest)
tracks_field_passes file content rest b h sound = tracks_refused file content rest b (first_fails content fault.Truncated (first_truncated content h sound))

pub entry_field_passes : (file content rest : List ℕ) → TracksBegin file content rest → EntryPasses content → IsNotWrong content → open_read file ≡ Err (Met fault.Truncated rest)
entry_field_passes file content rest b h sound = tracks_refused file content rest b (first_fails content fault.Truncated (first_entry_truncated content h sound))
