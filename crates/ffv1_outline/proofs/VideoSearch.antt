-- The first stream of video is looked for.
use Rattle.std.proofs.Common.{◌≡◌, ◌<◌, ◌≤◌, ◌∙◌, ℕ, zero, suc, List, [], Option, Some, None, true, false, length, refl, ap, arith}
use Rattle.ffv1_outline.specs.AviOutline.{first_video, header_in, is_video}
use Rattle.ffv1_outline.specs.Tracks.{Step, tracks_on, tracks_up_to, with_track}

pub video_none : (step : List ℕ → Option Step) (n : ℕ) (xs : List ℕ) → step xs ≡ None → first_video (tracks_up_to step n xs) ≡ []
unfolding first_video tracks_up_to
video_none step zero xs is = refl
video_none step (suc n) xs is = ap (λ z. first_video (tracks_on (tracks_up_to step n) z)) is

found : (track : Option (List ℕ)) (tracks : List (List ℕ)) → is_video (header_in track) ≡ true → first_video (with_track track tracks) ≡ header_in track
unfolding first_video
found None tracks is = absurd (cc)
found (Some track) tracks is = rw is refl

passed : (track : Option (List ℕ)) (tracks : List (List ℕ)) → is_video (header_in track) ≡ false → first_video (with_track track tracks) ≡ first_video tracks
unfolding first_video
passed None tracks is = refl
passed (Some track) tracks is = rw is refl

pub video_here : (step : List ℕ → Option Step) (n : ℕ) (xs : List ℕ) (s : Step) → length xs ≤ n → step xs ≡ Some s → length s.rest < length xs → is_video (header_in s.track) ≡ true → first_video (tracks_up_to step n xs) ≡ header_in s.track
unfolding tracks_up_to
video_here step zero xs s few is less video = absurd (omega (arith, few, less))
video_here step (suc n) xs s few is less video =
    ap (λ z. first_video (tracks_on (tracks_up_to step n) z)) is ∙ found s.track (tracks_up_to step n s.rest) video

pub video_on : (step : List ℕ → Option Step) (n : ℕ) (xs : List ℕ) (s : Step) → length xs ≤ n → step xs ≡ Some s → length s.rest < length xs → is_video (header_in s.track) ≡ false → (m : ℕ) × (length s.rest ≤ m) × (first_video (tracks_up_to step n xs) ≡ first_video (tracks_up_to step m s.rest))
unfolding tracks_up_to
video_on step zero xs s few is less other = absurd (omega (arith, few, less))
video_on step (suc n) xs s few is less other =
    (n, omega (arith, few, less), ap (λ z. first_video (tracks_on (tracks_up_to step n) z)) is ∙ passed s.track (tracks_up_to step n s.rest) other)
