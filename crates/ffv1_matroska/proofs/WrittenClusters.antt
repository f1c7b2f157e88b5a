-- Clusters that are written are parts of a Segment, with their frames.
use Rattle.std.proofs.Common.{◌≡◌, ◌≤◌, ◌<◌, ◌-◌, ◌^◌, ◌==◌, ◌∙◌, ◌++◌, ℕ, suc, List, [], ◌∷◌, false, Some, length, refl, sym, ap, arith, inl, inr, append-nil, length-append, true}
use Rattle.std.proofs.lemmas.Bool.{ne_eqb}
use Rattle.std.specs.Int.{bytes_high_first, bytes_low_first}
use Rattle.ffv1_sum.specs.Sum.{crc_of}
use Rattle.ffv1_ebml.specs.Elements.{crc_ident}
use Rattle.ffv1_ebml.specs.Spelled.{IsIdent, SaysSize, ident_bytes, ident_length, long, short}
use Rattle.ffv1_ebml.specs.Vints.{IsVint, length_of, number_of}
use Rattle.ffv1_ebml.proofs.Numbers.{length_high}
use Rattle.ffv1_ebml.proofs.SpelledLaws.{ident_spelled, long_spelled, short_spelled}
use Rattle.ffv1_reads.specs.Head.{frame_limit}
use Rattle.ffv1_matroska.specs.Elements.{AreParts, ArePieces, AreSummed, Content, IsLeaf, IsOwn, IsPart, Leaf, Part, Piece, SaysIdent, part_text, parts_frames, parts_text, pieces_text}
use Rattle.ffv1_matroska.specs.Segments.{block_group, cluster, simple_block}
use Rattle.ffv1_matroska.specs.WrittenFiles.{AreWritten}
use Rattle.ffv1_matroska.specs.WrittenIdents.{timestamp}
use Rattle.ffv1_matroska.specs.Written.{block_header, checked, cluster_content, cluster_element, clusters_from, crc_element}
use Rattle.ffv1_matroska.proofs.SpelledLengths.{ident_most, long_header_long}
use Rattle.ffv1_matroska.proofs.WrittenBytes.{AreBytes, cluster_are}
use Rattle.ffv1_matroska.proofs.WrittenChecks.{crc_is_ident, crc_says}
use Rattle.ffv1_matroska.proofs.WrittenLengths.{checked_long}
use Rattle.ffv1_matroska.specs.Segments.{is_beside}
use Rattle.ffv1_matroska.specs.Segments.{is_filler}
use Rattle.ffv1_matroska.specs.Elements.{stands_single}
use Rattle.ffv1_matroska.specs.Elements.{content_text}
use Rattle.ffv1_matroska.specs.declared.track.TrackNumbers.{TrackNumbers}

-- an ID that is spelled
pub says_ident : (ident : ℕ) → IsIdent ident → SaysIdent (ident_bytes ident) ident
says_ident ident is = let p = ident_spelled ident is in (p.is, p.few, p.number)

-- an element that is no block
plain_leaf : (ident kind : ℕ) (size content : List ℕ) → IsIdent ident → (ident ≡ kind → ⊥) → SaysSize size (Some (length content)) → (track : TrackNumbers) →
    IsLeaf kind track (record { ident = ident_bytes ident; size = size; content = Content.Plain content })
plain_leaf ident kind size content is other says track =
    let p = ident_spelled ident is in
    record { named = p.is; few = p.few; sized = says; holds = rw p.number (ne_eqb ident kind other) }

not_group : (ident : ℕ) → IsIdent ident → (ident ≡ block_group → ⊥) → (number_of (ident_bytes ident) == block_group) ≡ false
not_group ident is other = rw (ident_spelled ident is).number (ne_eqb ident block_group other)

-- what is no BlockGroup and may stand in a Cluster
stands : (ident size : ℕ) → IsIdent ident → stands_single ident size ≡ true → stands_single (number_of (ident_bytes ident)) size ≡ true
stands ident size is may = ap (λ k. stands_single k size) (ident_spelled ident is).number ∙ may

crc_may : (size : ℕ) → stands_single crc_ident size ≡ true
unfolding is_beside is_filler
crc_may size = refl

time_may : (size : ℕ) → size ≡ 8 → stands_single timestamp size ≡ true
unfolding is_beside
time_may size is = ap (stands_single timestamp) is

block_may : (size : ℕ) → stands_single simple_block size ≡ true
block_may size = refl

abbrev crc_leaf : List ℕ → Leaf
crc_leaf content = record { ident = ident_bytes crc_ident; size = short 4; content = Content.Plain (bytes_low_first 0 4 (crc_of content)) }

abbrev time_leaf : ℕ → Leaf
time_leaf number = record { ident = ident_bytes timestamp; size = short 8; content = Content.Plain (bytes_high_first 8 number) }

abbrev block_leaf : List ℕ → Leaf
block_leaf frame = record { ident = ident_bytes simple_block; size = long (length (block_header ++ frame)); content = Content.Own (129 ∷ []) (0 ∷ 0 ∷ []) 128 frame }

abbrev inner_of : ℕ → List ℕ → List Piece
inner_of number frame = Piece.Single (time_leaf number) ∷ Piece.Single (block_leaf frame) ∷ []

abbrev pieces_of : ℕ → List ℕ → List Piece
pieces_of number frame = Piece.Single (crc_leaf (cluster_content number frame)) ∷ inner_of number frame

inner_text : (number : ℕ) (frame : List ℕ) → pieces_text (inner_of number frame) ≡ cluster_content number frame
unfolding cluster_content
inner_text number frame = ap (λ z. ((ident_bytes timestamp ++ short 8) ++ bytes_high_first 8 number) ++ z) (append-nil ((ident_bytes simple_block ++ long (length (block_header ++ frame))) ++ (block_header ++ frame)))

whole_text : (number : ℕ) (frame : List ℕ) → pieces_text (pieces_of number frame) ≡ checked (cluster_content number frame)
unfolding crc_element
whole_text number frame = ap (λ z. ((ident_bytes crc_ident ++ short 4) ++ bytes_low_first 0 4 (crc_of (cluster_content number frame))) ++ z) (inner_text number frame)

time_is : IsIdent timestamp
time_is = inl (omega arith, omega arith)

block_is : IsIdent simple_block
block_is = inl (omega arith, omega arith)

cluster_is : IsIdent cluster
cluster_is = inr (inr (inr (omega arith, omega arith)))

-- the number of the one track, and the numbers of all; and how long a frame lasts
abbrev pub written_numbers : ℕ → TrackNumbers
written_numbers duration = record { number = 1; known = 2; others = 0; duration = duration }

one_is : IsVint (129 ∷ [])
unfolding length_of
one_is = (omega arith, refl)

own_leaf : (duration : ℕ) (frame : List ℕ) → 0 < length frame → length frame ≤ frame_limit → IsLeaf simple_block (written_numbers duration) (block_leaf frame)
own_leaf duration frame some few =
    let p = ident_spelled simple_block block_is in
    let own : IsOwn (written_numbers duration) (129 ∷ []) (0 ∷ 0 ∷ []) 128 frame = record { own = (one_is, omega arith, refl); timed = refl; unlaced = refl; some = some; short = few } in
    let long_enough : length (block_header ++ frame) < 2 ^ 56 - 1 = omega (arith, length-append block_header frame, few) in
    record { named = p.is; few = p.few; sized = long_spelled (length (block_header ++ frame)) long_enough; holds = (rw p.number refl, own) }

pieces_are : (duration number : ℕ) (frame : List ℕ) → 0 < length frame → length frame ≤ frame_limit → ArePieces (written_numbers duration) (pieces_of number frame)
pieces_are duration number frame some few =
    let low = bytes_low_first 0 4 (crc_of (cluster_content number frame)) in
    let crc = plain_leaf crc_ident simple_block (short 4) low crc_is_ident (λ same. omega (arith, same)) (short_spelled 4 (omega arith)) (written_numbers duration) in
    let time = plain_leaf timestamp simple_block (short 8) (bytes_high_first 8 number) time_is (λ same. omega (arith, same)) (rw (length_high 8 number) (short_spelled 8 (omega arith))) (written_numbers duration) in (
      (crc, not_group crc_ident crc_is_ident (λ same. omega (arith, same)), stands crc_ident (length low) crc_is_ident (crc_may (length low))),
      (
        (time, not_group timestamp time_is (λ same. omega (arith, same)), stands timestamp (length (bytes_high_first 8 number)) time_is (time_may (length (bytes_high_first 8 number)) (length_high 8 number))),
        ((own_leaf duration frame some few, not_group simple_block block_is (λ same. omega (arith, same)), stands simple_block (length (content_text (block_leaf frame).content)) block_is (block_may (length (content_text (block_leaf frame).content)))), tt),
      ),
    )

pieces_summed : (number : ℕ) (frame : List ℕ) → AreBytes frame → AreSummed (pieces_of number frame)
pieces_summed number frame bytes = λ _. crc_says (cluster_content number frame) (cluster_are number frame bytes) ∙ ap crc_of (sym (inner_text number frame))

abbrev pub cluster_part : ℕ → List ℕ → Part
cluster_part number frame = Part.Sized (ident_bytes cluster) (long (length (checked (cluster_content number frame)))) (pieces_of number frame)

part_is : (duration number : ℕ) (frame : List ℕ) → 0 < length frame → length frame ≤ frame_limit → AreBytes frame → length (checked (cluster_content number frame)) < 2 ^ 56 - 1 → IsPart (written_numbers duration) (cluster_part number frame)
part_is duration number frame some few bytes short_enough =
    let whole = whole_text number frame in
    (says_ident cluster cluster_is, rw whole (long_spelled (length (checked (cluster_content number frame))) short_enough), pieces_are duration number frame some few, pieces_summed number frame bytes)

part_is_text : (number : ℕ) (frame : List ℕ) → part_text (cluster_part number frame) ≡ cluster_element number frame
unfolding cluster_element
part_is_text number frame = ap (λ z. (ident_bytes cluster ++ long (length (checked (cluster_content number frame)))) ++ z) (whole_text number frame)

-- all Clusters
abbrev pub cluster_parts : ℕ → List (List ℕ) → List Part
cluster_parts number [] = []
cluster_parts number (frame ∷ frames) = cluster_part number frame ∷ cluster_parts (suc number) frames

pub parts_are_text : (number : ℕ) (frames : List (List ℕ)) → parts_text (cluster_parts number frames) ≡ clusters_from number frames
unfolding clusters_from
parts_are_text number [] = refl
parts_are_text number (frame ∷ frames) = both (part_is_text number frame) (parts_are_text (suc number) frames)
  where
    both : {a b c d : List ℕ} → a ≡ b → c ≡ d → a ++ c ≡ b ++ d
    both p q = cc

pub parts_have : (number : ℕ) (frames : List (List ℕ)) → parts_frames (cluster_parts number frames) ≡ frames
parts_have number [] = refl
parts_have number (frame ∷ frames) = ap (λ z. frame ∷ z) (parts_have (suc number) frames)

content_short : (number : ℕ) (frame : List ℕ) → length frame ≤ frame_limit → length (checked (cluster_content number frame)) < 2 ^ 56 - 1
unfolding cluster_content ident_length
content_short number frame few =
    let block = (ident_bytes simple_block ++ long (length (block_header ++ frame))) ++ (block_header ++ frame) in
    let time = (ident_bytes timestamp ++ short 8) ++ bytes_high_first 8 number in
    let a = length-append time block in
    let b = length-append (ident_bytes simple_block ++ long (length (block_header ++ frame))) (block_header ++ frame) in
    let c : length time ≡ 10 = refl in
    let d = length-append block_header frame in
    let e = long_header_long simple_block (length (block_header ++ frame)) in
    let f = ident_most simple_block in
    omega (arith, checked_long (time ++ block), a, b, c, d, e, f, few)

pub parts_are : (duration number : ℕ) (frames : List (List ℕ)) → AreWritten frames → AreParts (written_numbers duration) (cluster_parts number frames)
parts_are duration number [] written = tt
parts_are duration number (frame ∷ frames) written =
    let one = written.0 in
    (part_is duration number frame one.0 one.1 one.2 (content_short number frame one.1), parts_are duration (suc number) frames written.1)
