-- An encoder that decodes each frame again, if that is asked.
use Rattle.std.specs.Prelude.{◌≡◌, Bool, Option, Some, None, ⊤}
use Rattle.ffv1_record.specs.Accepted.{Accepted}
use Rattle.ffv1_pack.specs.declared.verifying.Back.{Back}
use Rattle.ffv1_video.specs.KeptLines.{IsKeptFor}

-- its configuration, and whether it decodes each frame again
pub record Verifying : Type 0 where
  pub accepted : Accepted
  pub verifies : Bool

-- if there is a decoder, it is one of this configuration, and its lines are kept for that
abbrev pub IsBackFor : {A : Type 0} → Accepted → Option (Back A) → Type 0
IsBackFor a None = ⊤
IsBackFor a (Some back) = (back.decoder.accepted ≡ a) × IsKeptFor a back.kept
