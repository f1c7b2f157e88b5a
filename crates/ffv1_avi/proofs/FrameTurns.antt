-- The frames of a file, one after the other.
use Rattle.std.proofs.Common.{◌≡◌, ℕ, suc, zero, ◌≤◌, ◌<◌, Option, Some, None, Result, Ok, Err, List, [], ◌∷◌, ap, ◌∙◌, sym, subst, arith, refl}
use Rattle.ffv1_avi.specs.declared.place.Place.{Place}
use Rattle.ffv1_avi.specs.Files.{found_read, frame_found, frame_read, frames_read, frames_up_to, more_frames}
use Rattle.ffv1_avi.specs.Places.{amount, extent_of}
use Rattle.ffv1_reads.specs.Reads.{Kept, Stop, given, read_on}
use Rattle.ffv1_avi.specs.Padding.{content}
use Rattle.ffv1_avi.proofs.Moves.{frame_ends, frame_less_at}
use Rattle.ffv1_reads.proofs.Results.{read_on_ok}
use Rattle.ffv1_reads.proofs.Results.{ok_is, some_is}

no_some : {X : Type 0} (x : X) → ◌≡◌ {A = Option X} (Some x) None → ⊥
no_some x e = absurd (cc)

-- less is left after a frame, and as much is read
pub read_less : (place : Place) (text : List ℕ) (p : List ℕ × Place) (rest : List ℕ) → frame_read place text ≡ Ok (Some p, rest) → (amount p.1 < amount place) × (extent_of p.1 ≡ extent_of place)
read_less place text p rest h =
    let first = read_on_ok (frame_found place text) found_read (Some p, rest) h in
    on_found first.0.0 first.0.1 first.1 first.2
  where
    Goal : Type 0
    Goal = (amount p.1 < amount place) × (extent_of p.1 ≡ extent_of place)

    on_found : (o : Option (ℕ × Place)) (more : List ℕ) → frame_found place text ≡ Ok (o, more) → found_read o more ≡ Ok (Some p, rest) → Goal
    on_found None more is k = absurd (no_some p (sym (ap (λ (z : Option (List ℕ × Place) × List ℕ). z.0) (ok_is (None, more) (Some p, rest) k))))
    on_found (Some y) more is k =
        let second = read_on_ok (content Kept y.0 more) (λ bytes. given (Some (bytes, y.1))) (Some p, rest) k in
        let made : List ℕ × Place = (second.0.0, y.1) in
        let same : made ≡ p = some_is made p (ap (λ (z : Option (List ℕ × Place) × List ℕ). z.0) (ok_is (Some made, second.0.1) (Some p, rest) second.2)) in
        let P : List ℕ × Place → Type 0 = λ z. (amount z.1 < amount place) × (extent_of z.1 ≡ extent_of place) in
        let less = frame_less_at place y.1 y.0 text more is in
        subst P same (less.0, less.1)

frames_none : (most : ℕ) (place : Place) (text : List ℕ) → amount place ≡ 0 → frames_up_to most place text ≡ Ok ([], text)
unfolding frames_up_to
frames_none zero place text none = refl
frames_none (suc most) place text none = ap (λ z. read_on z (more_frames (frames_up_to most))) (frame_ends place (omega (arith, none)) (omega (arith, none)) text)

frames_enough : (f g : ℕ) (place : Place) (text : List ℕ) → amount place ≤ f → amount place ≤ g → frames_up_to f place text ≡ frames_up_to g place text
unfolding frames_up_to
frames_enough zero zero place text h k = refl
frames_enough zero (suc g) place text h k = sym (frames_none (suc g) place text (omega (arith, h)))
frames_enough (suc f) zero place text h k = frames_none (suc f) place text (omega (arith, k))
frames_enough (suc f) (suc g) place text h k = on_frame (λ p more. frames_enough f g p more) (frame_read place text) refl
  where
    Same : Type 0
    Same = (p : Place) (more : List ℕ) → amount p ≤ f → amount p ≤ g → frames_up_to f p more ≡ frames_up_to g p more

    on_frame : Same → (z : Result (Option (List ℕ × Place) × List ℕ) Stop) → frame_read place text ≡ z → read_on z (more_frames (frames_up_to f)) ≡ read_on z (more_frames (frames_up_to g))
    on_frame same (Err e) is = refl
    on_frame same (Ok (None, rest)) is = refl
    on_frame same (Ok (Some p, rest)) is =
        let less = read_less place text p rest is in
        ap (λ z. read_on z (λ frames. given (p.0 ∷ frames))) (same p.1 rest (omega (arith, less.0, h)) (omega (arith, less.0, k)))

-- the frames are the next one and those after it
pub frames_step : (place : Place) (text : List ℕ) → frames_read place text ≡ read_on (frame_read place text) (more_frames frames_read)
unfolding frames_up_to
frames_step place text = frames_enough (amount place) (suc (amount place)) place text (omega arith) (omega arith) ∙ on_frame (frame_read place text) refl
  where
    on_frame : (z : Result (Option (List ℕ × Place) × List ℕ) Stop) → frame_read place text ≡ z → read_on z (more_frames (frames_up_to (amount place))) ≡ read_on z (more_frames frames_read)
    on_frame (Err e) is = refl
    on_frame (Ok (None, rest)) is = refl
    on_frame (Ok (Some p, rest)) is =
        let less = read_less place text p rest is in
        ap (λ z. read_on z (λ frames. given (p.0 ∷ frames))) (frames_enough (amount place) (amount p.1) p.1 rest (omega (arith, less.0)) (omega arith))
