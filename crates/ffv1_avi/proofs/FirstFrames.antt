-- Frames of the first movi, if that is read alone.
use Rattle.std.proofs.Common.{◌≡◌, ◌==◌, ℕ, Bool, true, false, Option, Some, None, Result, Ok, Err, List, ap, ◌∙◌, refl}
use Rattle.std.proofs.lemmas.Bool.{eqb-true}
use Rattle.ffv1_reads.specs.Reads.{Kept, Reading, Stop, given, read_on, ◌>>=◌}
use Rattle.ffv1_avi.specs.declared.place.Extent.TheVariants.{FirstMovi, EveryRiff}
use Rattle.ffv1_avi.specs.declared.place.Place.{Place}
use Rattle.ffv1_avi.specs.Files.{found_or_on, found_read, frame_found, frame_read, movi_found}
use Rattle.ffv1_avi.specs.Padding.{content}
use Rattle.ffv1_avi.specs.Places.{extent_of, frame_at}
use Rattle.ffv1_avi.proofs.Moves.{beyond_first, frame_step}

abbrev pub first_framed : Place → Option (ℕ × ℕ) → Reading (Option (List ℕ × Place))
first_framed place None = given None
first_framed place (Some p) = content Kept p.0 >>= λ bytes. given (Some (bytes, frame_at place p.1))

abbrev pub first_read : Place → Reading (Option (List ℕ × Place))
first_read place = movi_found place.names place.movi >>= first_framed place

pub first_input : (place : Place) → extent_of place ≡ FirstMovi → place.input ≡ 0
first_input place first = on_input (place.input == 0) refl
  where
    on_input : (b : Bool) → (place.input == 0) ≡ b → place.input ≡ 0
    on_input true is = eqb-true place.input 0 is
    on_input false is = absurd (let no : EveryRiff ≡ FirstMovi = rw is at first in cc)

pub first_is : (place : Place) → place.input ≡ 0 → (text : List ℕ) → frame_read place text ≡ first_read place text
first_is place none text = ap (λ z. read_on z found_read) (frame_step place text) ∙ on_found (movi_found place.names place.movi text)
  where
    on_found : (z : Result (Option (ℕ × ℕ) × List ℕ) Stop) → read_on (read_on z (found_or_on frame_found place)) found_read ≡ read_on z (first_framed place)
    on_found (Err why) = refl
    on_found (Ok (Some p, rest)) = refl
    on_found (Ok (None, rest)) = ap (λ z. read_on z found_read) (beyond_first place.open_in frame_found place none rest)
