-- An empty chunk of the stream, if every RIFF is read.
use Rattle.std.proofs.Common.{◌≡◌, ◌+◌, ◌-◌, ◌≤◌, ℕ, Bool, true, false, Some, Ok, List, [], ◌∷◌, ◌++◌, length, codes, ap, ◌∙◌, sym, subst, arith, refl, append-nil, length-append}
use Rattle.ffv1_avi.specs.declared.place.Names.{Names}
use Rattle.ffv1_avi.specs.declared.place.Names.TheVariants.{Any, Closed}
use Rattle.ffv1_avi.specs.declared.place.Place.{Place}
use Rattle.ffv1_avi.specs.Chunks.{Chunk, IsChunk, chunk_text}
use Rattle.ffv1_avi.specs.Files.{frame_read}
use Rattle.ffv1_avi.specs.Names.{is_barred, is_frame, least_bytes}
use Rattle.ffv1_avi.specs.Places.{frame_at}
use Rattle.ffv1_avi.specs.Walk.{is_name}
use Rattle.ffv1_avi.proofs.FrameLaws.{frame_next, movi_read}
use Rattle.ffv1_avi.proofs.MoviFrames.{movi_there}
use Rattle.ffv1_avi.proofs.OpenedLists.{list_no_frame}

-- a size of none
abbrev pub zeros : List ℕ
zeros = 0 ∷ 0 ∷ 0 ∷ 0 ∷ []

frame_stands : (names : Names) (name : List ℕ) → is_frame names name ≡ true → is_barred names name ≡ false
frame_stands Any name named = on_list (is_name name (codes "LIST")) refl
  where
    on_list : (b : Bool) → is_name name (codes "LIST") ≡ b → b ≡ false
    on_list true list = absurd (let no : true ≡ false = sym named ∙ list_no_frame Any name list in cc)
    on_list false list = refl
frame_stands (Closed stream streams) name named = rw named refl

pub again_read : (place : Place) (stream streams : ℕ) (name rest : List ℕ) → place.names ≡ Closed stream streams → length name ≡ 4 → is_frame place.names name ≡ true → 8 ≤ place.movi →
    frame_read place ((name ++ (0 ∷ 0 ∷ 0 ∷ 0 ∷ [])) ++ rest) ≡ Ok (Some ([], frame_at place (place.movi - 8)), rest)
again_read place stream streams name rest closed four named room =
    let c : Chunk = record { name = name; size = zeros; bytes = []; padding = [] } in
    let same : chunk_text c ≡ name ++ zeros = append-nil ((name ++ zeros) ++ []) ∙ append-nil (name ++ zeros) in
    let spelled : length zeros ≡ 4 = refl in
    let long : length (chunk_text c) ≡ 8 = ap length same ∙ length-append name zeros ∙ (omega (arith, four, spelled)) in
    let left = place.movi - 8 in
    let size : place.movi ≡ length (chunk_text c) + left = omega (arith, long, room) in
    let listed : is_name name (codes "LIST") ≡ true → 4 ≤ 0 = λ list. absurd (let no : true ≡ false = sym named ∙ list_no_frame place.names name list in cc) in
    let is : IsChunk c = record { named = four; sized = refl; counted = refl; padded = refl; listed = listed } in
    let P : Names → Type 0 = λ z. least_bytes z ≤ 0 in
    let least : least_bytes place.names ≤ 0 = subst P (sym closed) (omega arith) in
    let read = movi_there place.names c left rest is (frame_stands place.names name named) named (omega arith) least in
    frame_next place ((name ++ zeros) ++ rest) ([], left) rest
    (ap (λ n. movi_read place.names n ((name ++ zeros) ++ rest)) size
    ∙ ap (λ z. movi_read place.names (length (chunk_text c) + left) (z ++ rest)) (sym same)
    ∙ read)
