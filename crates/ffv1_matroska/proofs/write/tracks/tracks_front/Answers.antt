-- Tracks up to the configuration record, after which so many bytes stand that are 0.
use Rattle.std.proofs.Common.{◌≡◌, ◌+◌, ◌++◌, ◌∙◌, length, ap, arith, refl}
use Rattle.std.proofs.Common.{length-append}
use Rattle.ffv1_reads.specs.Head.{head_of}
use Rattle.ffv1_ebml.specs.Spelled.{ident_bytes, long}
use Rattle.ffv1_matroska.specs.Tracks.{codec_private, entry}
use Rattle.ffv1_matroska.specs.Written.{crc_element, entry_fields, private_content, private_front}
use Rattle.ffv1_matroska.proofs.WrittenSums.{crc_of_three, tracks_put}
use Rattle.ffv1_matroska.proofs.write.tracks.tracks_front.Goals as goal

pub returns : goal.returns
returns g c =
    let h = head_of c.args.head.now in
    let id = c.args.details.codec_id in
    let begin = private_front id h in
    let r = c.args.head.now.config_record.items ++ c.args.zeros.now in
    let content = c.put.new.self in
    let inner = c.put-2.new.self in
    let k = length c.as_slice-record.result.now + length c.args.zeros.now in
    let record_is : c.as_slice-record.result.now ≡ c.args.head.now.config_record.items =
    c.as_slice-record.ensures.value in
    let long_is : k ≡ length r = omega (
      arith,
      ap length record_is,
      length-append c.args.head.now.config_record.items c.args.zeros.now,
    ) in
    let whole : begin ++ r ≡ private_content id h = ap (λ z. begin ++
    (c.args.head.now.config_record.items ++ z)) c.requires.zeros in
    let front_long : c.len.result ≡ length begin = c.len.ensures.value ∙
    ap length c.private_front-front.ensures.value in
    let sum_is : c.sum.new.self ≡ c.long-3.new.self ++ crc_element (inner ++ r) =
    c.sum.ensures.value (inner ++ r) (rw (
      c.more-3.ensures,
      c.more-2.ensures,
      c.more.ensures,
      c.as_slice-3.ensures,
      record_is,
    ) (crc_of_three inner c.args.head.now.config_record.items c.args.zeros.now)) in
    let content_is : content ≡ (entry_fields h c.args.details ++
    (ident_bytes codec_private ++ long (c.len.result + k))) ++ begin =
    rw (
      c.put.ensures.value,
      c.long.ensures.value,
      c.entry_fields-content.ensures.value,
      c.as_slice.ensures,
      c.private_front-front.ensures.value,
    ) refl in
    let inner_is : inner ≡ (ident_bytes entry ++ long (c.len-2.result + k)) ++ content =
    rw (c.put-2.ensures.value, c.long-2.ensures.value, c.new-entry.ensures, c.as_slice-2.ensures)
    refl in
    let k_is : c.len.result + k ≡ length begin + length r = omega (arith, front_long, long_is) in
    let m_is : c.len-2.result + k ≡ length content + length r =
    omega (arith, long_is, c.len-2.ensures.value) in
    let n_is : 6 + c.len-3.result + k ≡ 6 + length inner + length r =
    omega (arith, long_is, c.len-3.ensures.value) in
    tracks_put h c.args.details begin r content inner c.put-3.new.self (6 + c.len-3.result + k)
    (c.len-2.result + k) (c.len.result + k) whole k_is content_is m_is inner_is n_is
    (rw (
      c.put-3.ensures.value,
      sum_is,
      c.long-3.ensures.value,
      c.new-tracks.ensures,
      c.as_slice-4.ensures,
    ) refl)
