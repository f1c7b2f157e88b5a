use Rattle.std.proofs.Common.{◌≡◌, ◌≤◌, ℕ, length}
use Rattle.ffv1_outline.specs.AviOutline.{avi_step, first_video, video_header}
use Rattle.ffv1_outline.specs.Tracks.{tracks_up_to}
use Rattle.ffv1_outline.proofs.avi_outline.video_header.Given as goal

abbrev pub invariant-loop-step : goal.invariant-loop-step
invariant-loop-step l =
    (n : ℕ) × (length l.rest ≤ n)
    × (first_video (tracks_up_to avi_step n l.rest) ≡ video_header l.hdrl)

abbrev pub decreases-loop-step : goal.decreases-loop-step
decreases-loop-step l = length l.rest
