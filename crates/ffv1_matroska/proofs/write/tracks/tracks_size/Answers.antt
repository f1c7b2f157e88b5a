-- The bytes of Tracks.
use Rattle.std.proofs.Common.{◌≡◌, ◌∙◌, length, ap, arith}
use Rattle.ffv1_reads.specs.Head.{head_of}
use Rattle.ffv1_matroska.specs.Written.{entry_fields}
use Rattle.ffv1_matroska.proofs.WrittenLengths.{tracks_long}
use Rattle.ffv1_matroska.proofs.write.tracks.tracks_size.Goals as goal

pub returns-clause-value : goal.returns-clause-value
returns-clause-value g c =
    let h = head_of c.args.head.now in
    let fields : c.len-fields.result ≡ length (entry_fields h c.args.details) =
    c.len-fields.ensures.value ∙ ap length c.entry_fields.ensures.value in
    let len : c.len-len.result ≡ length h.config_record = omega (arith, c.len-len.ensures) in
    let beside = c.beside_record.ensures.value h len in
    omega (arith, fields, tracks_long h c.args.details, beside, len)
