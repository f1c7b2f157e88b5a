-- Both openings have one length.
use Rattle.std.proofs.Common.{◌≡◌, refl, length, Option, Some, None}
use Rattle.ffv1_ebml.specs.Spelled.{ident_length, long}
use Rattle.ffv1_reads.specs.Head.{Head}
use Rattle.ffv1_matroska.specs.Written.{crc_element, ebml_header, info_content, opening, seek_element, seeks, void_element}
use Rattle.ffv1_matroska.specs.declared.write.opening.Finish.{Finish}

pub opening_long : (head : Head) (finish : Option Finish) → length (opening head finish) ≡ 200
unfolding opening ebml_header seeks seek_element info_content void_element crc_element ident_length long
opening_long head None = refl
opening_long head (Some f) = refl
