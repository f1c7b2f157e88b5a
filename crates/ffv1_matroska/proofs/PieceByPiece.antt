-- A file as a writer writes it, piece by piece.
use Rattle.std.proofs.Common.{◌≡◌, ◌<◌, ◌+◌, ◌∙◌, ◌++◌, ℕ, List, [], ◌∷◌, Option, Some, None, length, take, drop, refl, sym, ap, arith, append_assoc, append-nil, length-append}
use Rattle.std.proofs.lemmas.Grind.{common_steps}
use Rattle.ffv1_reads.specs.Head.{Head}
use Rattle.ffv1_wire.specs.Patches.{patched}
use Rattle.ffv1_matroska.specs.Writers.{cues_in, file_bytes, finished_opening, piece, piece_of, writing_of}
use Rattle.ffv1_matroska.specs.Written.{begun_of, cluster_element, clusters_from, cues_of, finish_of, finished_of, open_of, opening, to_clusters, tracks_element}
use Rattle.ffv1_matroska.specs.declared.track_entry.TrackEntry.{TrackEntry}
use Rattle.ffv1_matroska.specs.declared.write.opening.Finish.{Finish}
use Rattle.ffv1_matroska.proofs.Growing.{clusters_snoc}
use Rattle.ffv1_matroska.proofs.OpeningLength.{opening_long}
use Rattle.ffv1_matroska.proofs.Pieces.{piece_first, piece_next}

-- the first frame
first_piece : (head : Head) (details : TrackEntry) (frame : List ℕ) → to_clusters None head details (frame ∷ []) ≡ piece head details 0 frame
unfolding clusters_from
first_piece head details frame = ap (λ z. opening head None ++ tracks_element head details ++ z) (append-nil (cluster_element 0 frame)) ∙ sym (piece_first head details 0 frame refl)

-- another one
next_piece : (head : Head) (details : TrackEntry) (frames : List (List ℕ)) (frame : List ℕ) → (length frames ≡ 0 → ⊥) → to_clusters None head details (frames ++ frame ∷ []) ≡ to_clusters None head details frames ++ piece head details (length frames) frame
next_piece head details frames frame some =
    let front = opening head None ++ tracks_element head details in
    let one = cluster_element (0 + length frames) frame in
    let same : 0 + length frames ≡ length frames = omega arith in
    ap (λ z. front ++ z) (clusters_snoc 0 frames frame) ∙ sym (append_assoc front (clusters_from 0 frames) one)
    ∙ ap (λ z. (front ++ clusters_from 0 frames) ++ z) (ap (λ k. cluster_element k frame) same ∙ sym (piece_next head details (length frames) frame some))

pub more_begun : (head : Head) (details : TrackEntry) (frames : List (List ℕ)) (frame : List ℕ) → begun_of head details (frames ++ frame ∷ []) ≡ begun_of head details frames ++ piece_of (writing_of head details frames) frame
more_begun head details [] frame = first_piece head details frame
more_begun head details (f ∷ fs) frame = next_piece head details (f ∷ fs) frame (λ none. omega (arith, none))

pub open_at_last : (head : Head) (details : TrackEntry) (frames : List (List ℕ)) → 0 < length frames → begun_of head details frames ++ cues_in (writing_of head details frames) ≡ open_of head details frames
open_at_last head details [] some = absurd (omega (arith, some))
open_at_last head details (f ∷ fs) some = refl

-- a file by its opening and all after that
rest_of : Head → TrackEntry → List (List ℕ) → List ℕ
rest_of head details frames = tracks_element head details ++ (clusters_from 0 frames ++ cues_of head details frames)

regrouped : (a b c d : List ℕ) → ((a ++ b) ++ c) ++ d ≡ a ++ (b ++ (c ++ d))
regrouped a b c d = simp append_assoc

pub file_parts : (finish : Option Finish) (head : Head) (details : TrackEntry) (frames : List (List ℕ)) → to_clusters finish head details frames ++ cues_of head details frames ≡ opening head finish ++ (tracks_element head details ++ (clusters_from 0 frames ++ cues_of head details frames))
file_parts finish head details frames = regrouped (opening head finish) (tracks_element head details) (clusters_from 0 frames) (cues_of head details frames)

pub whole_long : (head : Head) (details : TrackEntry) (frames : List (List ℕ)) → file_bytes (writing_of head details frames) ≡ length (open_of head details frames)
whole_long head details frames =
    let a = opening head None in
    let b = tracks_element head details in
    let c = clusters_from 0 frames in
    let d = cues_of head details frames in
    omega (arith, length-append ((a ++ b) ++ c) d, length-append (a ++ b) c, length-append a b, opening_long head None)

over_first : (xs ys zs : List ℕ) → length xs ≡ length ys → patched (xs ++ zs) 0 ys ≡ ys ++ zs
over_first xs ys zs e =
    let front : take 0 (xs ++ zs) ≡ [] = refl in
    let behind : drop (0 + length ys) (xs ++ zs) ≡ zs = grind (arith, common_steps, e) in
    ap (λ z. ys ++ z) behind

pub over_whole : (head : Head) (details : TrackEntry) (frames : List (List ℕ)) → patched (open_of head details frames) 0 (finished_opening (writing_of head details frames)) ≡ finished_of head details frames
over_whole head details frames =
    let new = opening head (Some (finish_of head details frames)) in
    let rest = tracks_element head details ++ (clusters_from 0 frames ++ cues_of head details frames) in
    ap (λ z. patched z 0 new) (file_parts None head details frames)
    ∙ over_first (opening head None) new rest (opening_long head None ∙ sym (opening_long head (Some (finish_of head details frames))))
    ∙ sym (file_parts (Some (finish_of head details frames)) head details frames)
