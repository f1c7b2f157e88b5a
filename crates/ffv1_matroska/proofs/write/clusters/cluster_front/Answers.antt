-- A Cluster up to its frame, which ends it.
use Rattle.std.proofs.Common.{◌≡◌, ◌+◌, ◌++◌, length, arith, refl}
use Rattle.ffv1_ebml.specs.Spelled.{ident_bytes, long, number_element}
use Rattle.ffv1_matroska.specs.Segments.{simple_block}
use Rattle.ffv1_matroska.specs.WrittenIdents.{timestamp}
use Rattle.ffv1_matroska.specs.Written.{block_header, crc_element}
use Rattle.ffv1_matroska.proofs.WrittenSums.{cluster_put, crc_of_two}
use Rattle.ffv1_matroska.proofs.write.clusters.cluster_front.Goals as goal

pub returns : goal.returns
returns c =
    let f = c.args.frame.now in
    let content = c.put.new.self in
    let k = length f in
    let sum_is : c.sum.new.self ≡ c.long-2.new.self ++ crc_element (content ++ f) =
    c.sum.ensures.value (content ++ f) (rw (
      c.more-2.ensures,
      c.more.ensures,
      c.as_slice.ensures,
    ) (crc_of_two content f)) in
    let content_is : content ≡ (number_element timestamp 8 c.args.number ++
    (ident_bytes simple_block ++ long (4 + k))) ++ block_header =
    rw (
      c.put.ensures.value,
      c.long.ensures.value,
      c.number.ensures.value,
      c.new-content.ensures,
    ) refl in
    let n_is : 6 + c.len.result + k ≡ 6 + length content + length f =
    omega (arith, c.len.ensures.value) in
    cluster_put c.args.number f content c.put-2.new.self (6 + c.len.result + k) (4 + k) refl
    content_is n_is
    (rw (
      c.put-2.ensures.value,
      sum_is,
      c.long-2.ensures.value,
      c.new-front.ensures,
      c.as_slice-2.ensures,
    ) refl)
