-- Cues up to the first of them.
use Rattle.std.proofs.Common.{◌≡◌, ◌-◌, ◌∙◌, ◌++◌, arith, length, refl, append_assoc}
use Rattle.ffv1_ebml.specs.Spelled.{ident_bytes, long}
use Rattle.ffv1_matroska.specs.WrittenIdents.{cues}
use Rattle.ffv1_matroska.specs.Written.{checked, crc_element, cues_element, cues_from}
use Rattle.ffv1_matroska.proofs.WrittenLengths.{checked_long, cues_from_long}
use Rattle.ffv1_matroska.proofs.write.cues.cues_front.Goals as goal

pub returns : goal.returns
unfolding cues_element
returns c =
    let s = c.args.stride in
    let ps = c.args.places.now in
    let all = cues_from 0 s ps in
    let size : c.cues_size.result - 12 ≡ length (checked all) =
    omega (arith, c.cues_size.ensures.value, checked_long all, cues_from_long 0 s ps) in
    let header = ident_bytes cues ++ long (length (checked all)) in
    let front : c.sum.new.self ≡ header ++ crc_element all = c.sum.ensures.value all
    c.sum_of_cues.ensures ∙ rw (c.long.ensures.value, c.new-front.ensures, size) refl in
    rw front (append_assoc header (crc_element all) all)
