-- What encodes the pictures of a video, in a profile that reads its depth, and decodes each frame
-- again if the choice asks for that.
use Rattle.std.proofs.Common.{sym, ◌∙◌}
use Rattle.ffv1_pack.proofs.FrameBack.{same_accepted}
use Rattle.ffv1_pack.proofs.encoding.encoder_for.Goals as goal

pub verifying-requires : goal.verifying-requires
verifying-requires g c =
    same_accepted c.in_ok-again.again c.in_ok-checked.checked
    (c.in_ok-again.ensures.ok.configuration ∙ sym c.in_ok-checked.ensures.ok.configuration)
    (c.in_ok-again.ensures.profile ∙ sym c.in_ok-checked.ensures.profile)
    c.record_has_one_configuration.ensures.table c.in_ok-again.ensures.ok.accepted
    c.in_ok-checked.ensures.ok.accepted
