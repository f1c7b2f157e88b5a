-- One that does, by the same configuration once more.
use Rattle.std.proofs.Common.{ap, sym, ◌∙◌}
use Rattle.ffv1_codec.specs.Answer.{Decoder}
use Rattle.ffv1_codec.specs.Length.{Encoding}
use Rattle.ffv1_video.proofs.KeptLines.{zeros_kept}
use Rattle.ffv1_pack.proofs.verifying.VerifyingEncoder.verifying.Goals as goal

pub invariant_of-result : goal.invariant_of-result
invariant_of-result g c =
    let same = c.requires ∙ sym (ap (λ (e : Encoding). e.accepted) c.new-3.ensures) in (
      ap (λ (d : Decoder). d.accepted) c.in_ok-decoder.ensures.ok ∙ same,
      zeros_kept
          c.new-3.result.accepted c.args.again c.in_ok-kept.kept same c.in_ok-kept.ensures.ok,
    )
