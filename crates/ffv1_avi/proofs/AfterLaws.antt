-- Bytes after the last RIFF of a file that are refused.
use Rattle.std.proofs.Common.{◌≡◌, ℕ, ◌-◌, ◌<◌, true, false, Err, List, [], ◌++◌, length, codes, ap, ◌∙◌, sym, subst, append_assoc, append-nil}
use Rattle.byteorder.specs.Endian.{little_number}
use Rattle.ffv1_reads.specs.Behind.{begins_file}
use Rattle.ffv1_reads.specs.declared.fault.FileFault.TheVariants as fault
use Rattle.ffv1_avi.specs.declared.place.Place.{Place}
use Rattle.ffv1_avi.specs.Edges.{GivesThen, frames_to}
use Rattle.ffv1_avi.specs.Files.{riff_begun}
use Rattle.ffv1_reads.specs.Head.{Head}
use Rattle.ffv1_avi.specs.Places.{most_input}
use Rattle.ffv1_reads.specs.Reads.{Met, Stop}
use Rattle.ffv1_avi.specs.Riffs.{RiffFile, riffs_text, total}
use Rattle.ffv1_avi.specs.Walk.{is_name}
use Rattle.ffv1_avi.proofs.BegunRiffs.{file_there, form_there, small_there}
use Rattle.ffv1_avi.proofs.EveryRiffLaws.{file_parts, first_riff, names_in}
use Rattle.ffv1_avi.proofs.GivenFrames.{file_then}
use Rattle.ffv1_avi.proofs.LaterFrames.{in_riff}

-- after the last RIFF
abbrev last : {file : List ℕ} {head : Head} {frames : List (List ℕ)} → RiffFile file head frames → Place
last is = in_riff (most_input - length (riffs_text is.riffs)) (names_in is) 0 (total is.extended - length (frames_to is is.riffs))

-- if what is after the last RIFF is refused, all frames are given before
refused_after : (file : List ℕ) (head : Head) (frames : List (List ℕ)) (is : RiffFile file head frames) (rest : List ℕ) (why : Stop) → riff_begun (last is) rest ≡ Err why → GivesThen (file ++ rest) head frames why
refused_after file head frames is rest why h =
    let whole : first_riff is ++ (riffs_text is.riffs ++ rest) ≡ file ++ rest = sym (append_assoc (first_riff is) (riffs_text is.riffs) rest) ∙ ap (λ z. z ++ rest) (sym (file_parts is)) in
    let P : List ℕ → Type 0 = λ z. GivesThen z head frames why in
    let Q : List (List ℕ) → Type 0 = λ z. GivesThen (first_riff is ++ (riffs_text is.riffs ++ rest)) head z why in
    subst P whole (subst Q is.framed.those_of (file_then is is.riffs [] rest why (sym (append-nil is.riffs)) h))

-- another file
pub file_after : (file : List ℕ) (head : Head) (frames : List (List ℕ)) → RiffFile file head frames → (name rest : List ℕ) → is_name name (codes "RIFF") ≡ false → begins_file name ≡ true → GivesThen (file ++ (name ++ rest)) head frames (Met fault.Another rest)
file_after file head frames is name rest no_riff begins = refused_after file head frames is (name ++ rest) (Met fault.Another rest) (file_there (last is) name rest no_riff begins)

pub form_after : (file : List ℕ) (head : Head) (frames : List (List ℕ)) → RiffFile file head frames → (size form rest : List ℕ) → length size ≡ 4 → length form ≡ 4 → is_name form (codes "AVIX") ≡ false → GivesThen (file ++ ((codes "RIFF" ++ size ++ form) ++ rest)) head frames (Met fault.Another rest)
form_after file head frames is size form rest sized formed other = refused_after file head frames is ((codes "RIFF" ++ size ++ form) ++ rest) (Met fault.Another rest) (form_there (last is) size form rest sized formed other)

-- an RIFF too small for its form
pub small_after : (file : List ℕ) (head : Head) (frames : List (List ℕ)) → RiffFile file head frames → (size rest : List ℕ) → length size ≡ 4 → 0 < little_number 4 size → little_number 4 size < 4 → GivesThen (file ++ ((codes "RIFF" ++ size ++ codes "AVIX") ++ rest)) head frames (Met fault.NotAvi rest)
small_after file head frames is size rest sized some small = refused_after file head frames is ((codes "RIFF" ++ size ++ codes "AVIX") ++ rest) (Met fault.NotAvi rest) (small_there (last is) size rest sized some small)
