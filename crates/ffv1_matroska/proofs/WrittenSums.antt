-- Elements whose CRC-32 goes over what ends them, which is written after the rest.
use Rattle.std.proofs.Common.{◌≡◌, ◌+◌, ◌∙◌, ◌++◌, ℕ, List, fold, bit_xor, length, sym, ap, append_assoc, arith, length-append}
use Rattle.std.proofs.lemmas.List.Sums.{fold-append}
use Rattle.ffv1_sum.specs.Sum.{byte_step, crc_of, turned}
use Rattle.ffv1_reads.specs.Head.{Head}
use Rattle.ffv1_ebml.specs.Spelled.{ident_bytes, long, number_element}
use Rattle.ffv1_matroska.specs.Opened.{tracks}
use Rattle.ffv1_matroska.specs.Segments.{cluster, simple_block}
use Rattle.ffv1_matroska.specs.Tracks.{codec_private, entry}
use Rattle.ffv1_matroska.specs.Written.{block_header, checked, cluster_content, cluster_element, crc_element, entry_element, entry_fields, long_element, private_content, tracks_element}
use Rattle.ffv1_matroska.specs.WrittenIdents.{timestamp}
use Rattle.ffv1_matroska.specs.declared.track_entry.TrackEntry.{TrackEntry}
use Rattle.ffv1_matroska.proofs.WrittenLengths.{checked_long}

-- the sum of two parts
pub crc_of_two : (xs ys : List ℕ) → bit_xor (fold byte_step (fold byte_step turned xs) ys) turned ≡ crc_of (xs ++ ys)
crc_of_two xs ys = ap (λ z. bit_xor z turned) (sym (fold-append byte_step turned xs ys))

pub crc_of_three : (xs ys zs : List ℕ) → bit_xor (fold byte_step (fold byte_step (fold byte_step turned xs) ys) zs) turned ≡ crc_of (xs ++ (ys ++ zs))
crc_of_three xs ys zs = ap (λ z. bit_xor z turned) (sym (fold-append byte_step (fold byte_step turned xs) ys zs)) ∙ crc_of_two xs (ys ++ zs)

-- a header, a sum, and a content of which the end comes last
pub ended_by : (header sum begin end : List ℕ) → ((header ++ sum) ++ begin) ++ end ≡ header ++ (sum ++ (begin ++ end))
ended_by header sum begin end = simp append_assoc

-- Tracks, put together from the inside out
pub tracks_put : (head : Head) (details : TrackEntry) (begin r content inner front : List ℕ) (n m k : ℕ) →
    begin ++ r ≡ private_content details.codec_id head → k ≡ length begin + length r →
    content ≡ (entry_fields head details ++ (ident_bytes codec_private ++ long k)) ++ begin →
    m ≡ length content + length r → inner ≡ (ident_bytes entry ++ long m) ++ content →
    n ≡ 6 + length inner + length r → front ≡ ((ident_bytes tracks ++ long n) ++ crc_element (inner ++ r)) ++ inner →
    front ++ r ≡ tracks_element head details
unfolding tracks_element entry_element
tracks_put head details begin r content inner front n m k whole k_is content_is m_is inner_is n_is front_is =
    let fields = entry_fields head details in
    let held = private_content details.codec_id head in
    let config = long_element codec_private held in
    let k_same : k ≡ length held = k_is ∙ sym (length-append begin r) ∙ ap length whole in
    let header = ident_bytes codec_private ++ long (length held) in
    let a : content ++ r ≡ fields ++ config = rw (content_is, k_same) (regrouped fields header begin r ∙ ap (λ z. fields ++ (header ++ z)) whole) in
    let m_same : m ≡ length (fields ++ config) = m_is ∙ sym (length-append content r) ∙ ap length a in
    let b : inner ++ r ≡ long_element entry (fields ++ config) = rw (inner_is, m_same) (append_assoc (ident_bytes entry ++ long (length (fields ++ config))) content r ∙ ap (λ z. (ident_bytes entry ++ long (length (fields ++ config))) ++ z) a) in
    let n_same : n ≡ length (checked (inner ++ r)) = omega (arith, n_is, checked_long (inner ++ r), length-append inner r) in
    let header = ident_bytes tracks ++ long (length (checked (inner ++ r))) in
    let c : front ++ r ≡ header ++ (crc_element (inner ++ r) ++ (inner ++ r)) = rw (front_is, n_same) (ended_by header (crc_element (inner ++ r)) inner r) in
    c ∙ ap (λ z. long_element tracks (checked z)) b
  where
    regrouped : (a b c d : List ℕ) → ((a ++ b) ++ c) ++ d ≡ a ++ (b ++ (c ++ d))
    regrouped a b c d = simp append_assoc

-- and a Cluster
pub cluster_put : (number : ℕ) (frame content front : List ℕ) (n m : ℕ) →
    m ≡ 4 + length frame → content ≡ (number_element timestamp 8 number ++ (ident_bytes simple_block ++ long m)) ++ block_header →
    n ≡ 6 + length content + length frame → front ≡ ((ident_bytes cluster ++ long n) ++ crc_element (content ++ frame)) ++ content →
    front ++ frame ≡ cluster_element number frame
unfolding cluster_element cluster_content
cluster_put number frame content front n m m_is content_is n_is front_is =
    let time = number_element timestamp 8 number in
    let m_same : m ≡ length (block_header ++ frame) = m_is ∙ sym (length-append block_header frame) in
    let a : content ++ frame ≡ cluster_content number frame = rw (content_is, m_same) (regrouped time (ident_bytes simple_block ++ long (length (block_header ++ frame))) block_header frame) in
    let n_same : n ≡ length (checked (content ++ frame)) = omega (arith, n_is, checked_long (content ++ frame), length-append content frame) in
    let header = ident_bytes cluster ++ long (length (checked (content ++ frame))) in
    let c : front ++ frame ≡ header ++ (crc_element (content ++ frame) ++ (content ++ frame)) = rw (front_is, n_same) (ended_by header (crc_element (content ++ frame)) content frame) in
    c ∙ ap (λ z. long_element cluster (checked z)) a
  where
    regrouped : (a b c d : List ℕ) → ((a ++ b) ++ c) ++ d ≡ a ++ (b ++ (c ++ d))
    regrouped a b c d = simp append_assoc
