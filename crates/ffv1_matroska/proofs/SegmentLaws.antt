-- The parts of a Segment, one after the other, are read as their frames.
use Rattle.std.proofs.Common.{◌≡◌, ◌<◌, ◌+◌, ◌==◌, ◌||◌, ◌∙◌, ◌++◌, ◌∷◌, [], ℕ, List, Bool, true, false, Some, None, Ok, length, refl, sym, ap, arith, append_assoc, length-append}
use Rattle.std.proofs.lemmas.Bool.{eq-eqb, ne_eqb}
use Rattle.ffv1_reads.specs.Reads.{read_on}
use Rattle.ffv1_ebml.specs.Elements.{first_read}
use Rattle.ffv1_ebml.specs.Vints.{number_of}
use Rattle.ffv1_ebml.specs.declared.sum.Sum.TheVariants.{Absent}
use Rattle.ffv1_matroska.specs.Elements.{AreLoose, AreParts, ArePieces, IsPart, IsPiece, Part, Piece, Top, Sized, Unsized, part_frames, part_text, parts_frames, parts_text, piece_frames, piece_ident, piece_text, pieces_frames, pieces_text}
use Rattle.ffv1_matroska.specs.Files.{frames_read}
use Rattle.ffv1_matroska.specs.Places.{cluster_entered, segment_at}
use Rattle.ffv1_matroska.specs.Segments.{cluster, cluster_child, header_read, is_filler, is_of_cluster, other_read, segment_child, segment_read, step_read}
use Rattle.ffv1_matroska.specs.declared.place.Place.{Place}
use Rattle.ffv1_matroska.proofs.FrameTurns.{added, added_none, added_twice, as_frames, frames_turn, led, run, run_on, run_turn, step_kept, turn_added, turn_read}
use Rattle.ffv1_matroska.proofs.PartLaws.{cluster_complete, filler_only, loose_after, of_cluster_apart, segment_header, top_complete}
use Rattle.ffv1_matroska.proofs.PieceLaws.{child_complete, piece_content, piece_parts}
use Rattle.ffv1_matroska.specs.declared.track.TrackNumbers.{TrackNumbers}

-- an element after the header of a Cluster of unknown size is read as one of a Cluster
pub loose_child : (track : TrackNumbers) (n size m : ℕ) (base : Place) → (is_of_cluster n || is_filler n) ≡ true → segment_child track n (segment_at base true m) (Some size) ≡ cluster_child track n size (segment_at base true m)
unfolding segment_child other_read cluster_child
loose_child track n size m base h = on_test (is_of_cluster n) refl h
  where
    place : Place
    place = segment_at base true m

    no : (n == cluster) ≡ false
    no = of_cluster_apart n h

    passed : is_filler n ≡ true → other_read n size place ≡ cluster_child track n size place
    passed f = let only = filler_only n f in rw (only.no_section, f, only.no_block, only.no_group, only.beside size, only.no_time) refl

    on_test : (b : Bool) → is_of_cluster n ≡ b → (b || is_filler n) ≡ true → segment_child track n place (Some size) ≡ cluster_child track n size place
    on_test true t h = rw (no, t) refl
    on_test false t h = rw (no, t) (passed h)

loose_piece : (track : TrackNumbers) (base : Place) (p : Piece) (m : ℕ) (rest : List ℕ) → IsPiece track p → (is_of_cluster (piece_ident p) || is_filler (piece_ident p)) ≡ true →
    run track (segment_at base true (length (piece_text p) + m)) (piece_text p ++ rest) ≡ added (piece_frames p) (run track (segment_at base true m) rest)
loose_piece track base p m rest is loose =
    let h = piece_parts track p is in
    let head = h.ident ++ h.size in
    let body = piece_content p in
    let place : Place = segment_at base true m in
    let parts : length (piece_text p) ≡ length head + length body = ap length h.text_is ∙ length-append head body in
    let long : length (piece_text p) + m ≡ length head + (length body + m) = omega (arith, parts) in
    let whole : piece_text p ++ rest ≡ head ++ (body ++ rest) = ap (λ z. z ++ rest) h.text_is ∙ append_assoc head body rest in
    run_turn track (segment_at base true (length (piece_text p) + m)) (piece_text p ++ rest)
    ∙ ap (λ k. run_on track (turn_read track (segment_at base true k) (piece_text p ++ rest))) long
    ∙ ap (λ z. run_on track (turn_read track (segment_at base true (length head + (length body + m))) z)) whole
    ∙ ap (run_on track) (segment_header track base true h.ident h.size (Some (length body)) m (body ++ rest) h.named h.few h.sized)
    ∙ ap (λ k. run_on track (read_on (segment_child track k place (Some (length body)) (body ++ rest)) step_kept)) h.number
    ∙ ap (λ r. run_on track (read_on (r (body ++ rest)) step_kept)) (loose_child track (piece_ident p) (length body) m base loose)
    ∙ child_complete track place Absent p rest is refl

pub loose_complete : (track : TrackNumbers) (base : Place) (ps : List Piece) (m : ℕ) (rest : List ℕ) → ArePieces track ps → AreLoose ps →
    run track (segment_at base true (length (pieces_text ps) + m)) (pieces_text ps ++ rest) ≡ added (pieces_frames ps) (run track (segment_at base true m) rest)
loose_complete track base [] m rest are loose =
    let none : 0 + m ≡ m = omega arith in
    ap (λ k. run track (segment_at base true k) rest) none ∙ sym (added_none _)
loose_complete track base (p ∷ ps) m rest are loose =
    let long : length (piece_text p ++ pieces_text ps) + m ≡ length (piece_text p) + (length (pieces_text ps) + m) = omega (arith, length-append (piece_text p) (pieces_text ps)) in
    ap (λ n. run track (segment_at base true n) ((piece_text p ++ pieces_text ps) ++ rest)) long
    ∙ ap (run track (segment_at base true (length (piece_text p) + (length (pieces_text ps) + m)))) (append_assoc (piece_text p) (pieces_text ps) rest)
    ∙ loose_piece track base p (length (pieces_text ps) + m) (pieces_text ps ++ rest) are.0 loose.0
    ∙ ap (added (piece_frames p)) (loose_complete track base ps m rest are.1 loose.1)
    ∙ added_twice (piece_frames p) (pieces_frames ps) _

-- a part of a Segment
abbrev pub after_part : Bool → Part → Bool
after_part loose (Top t) = loose_after loose t
after_part loose (Sized ident size ps) = false
after_part loose (Unsized ident size ps) = true

part_complete : (track : TrackNumbers) (base : Place) (loose : Bool) (p : Part) (m : ℕ) (rest : List ℕ) → IsPart track p →
    run track (segment_at base loose (length (part_text p) + m)) (part_text p ++ rest) ≡ added (part_frames p) (run track (segment_at base (after_part loose p) m) rest)
unfolding segment_child
part_complete track base loose (Top t) m rest is = top_complete track base loose t m rest is ∙ sym (added_none _)
part_complete track base loose (Sized ident size ps) m rest is =
    let head = ident ++ size in
    let body = pieces_text ps in
    let long : length (head ++ body) + m ≡ length head + (length body + m) = omega (arith, length-append head body) in
    let there : (number_of ident == cluster) ≡ true = eq-eqb _ _ is.0.2 in
    let turn : turn_read track (segment_at base loose (length (head ++ body) + m)) ((head ++ body) ++ rest) ≡ Ok (Some ([], cluster_entered (segment_at base loose m) (length body)), body ++ rest) =
    ap (λ k. turn_read track (segment_at base loose k) ((head ++ body) ++ rest)) long
    ∙ ap (turn_read track (segment_at base loose (length head + (length body + m)))) (append_assoc head body rest)
    ∙ segment_header track base loose ident size (Some (length body)) m (body ++ rest) is.0.0 is.0.1 is.1
    ∙ rw there refl in
    turn_added track (segment_at base loose (length (head ++ body) + m)) (cluster_entered (segment_at base loose m) (length body)) ((head ++ body) ++ rest) (body ++ rest) [] turn
    ∙ added_none _ ∙ cluster_complete track (segment_at base loose m) ps rest is.2 is.3
part_complete track base loose (Unsized ident size ps) m rest is =
    let head = ident ++ size in
    let body = pieces_text ps in
    let long : length (head ++ body) + m ≡ length head + (0 + (length body + m)) = omega (arith, length-append head body) in
    let there : (number_of ident == cluster) ≡ true = eq-eqb _ _ is.0.2 in
    let turn : turn_read track (segment_at base loose (length (head ++ body) + m)) ((head ++ body) ++ rest) ≡ Ok (Some ([], segment_at base true (length body + m)), body ++ rest) =
    ap (λ k. turn_read track (segment_at base loose k) ((head ++ body) ++ rest)) long
    ∙ ap (turn_read track (segment_at base loose (length head + (0 + (length body + m))))) (append_assoc head body rest)
    ∙ segment_header track base loose ident size None (length body + m) (body ++ rest) is.0.0 is.0.1 is.1
    ∙ rw there refl in
    turn_added track (segment_at base loose (length (head ++ body) + m)) (segment_at base true (length body + m)) ((head ++ body) ++ rest) (body ++ rest) [] turn
    ∙ added_none _ ∙ loose_complete track base ps m rest is.2 is.3

pub parts_run : (track : TrackNumbers) (base : Place) (loose : Bool) (ps : List Part) (m : ℕ) (rest : List ℕ) → AreParts track ps →
    (l : Bool) × (run track (segment_at base loose (length (parts_text ps) + m)) (parts_text ps ++ rest) ≡ added (parts_frames ps) (run track (segment_at base l m) rest))
parts_run track base loose [] m rest are =
    let none : 0 + m ≡ m = omega arith in
    (loose, ap (λ k. run track (segment_at base loose k) rest) none ∙ sym (added_none _))
parts_run track base loose (p ∷ ps) m rest are =
    let long : length (part_text p ++ parts_text ps) + m ≡ length (part_text p) + (length (parts_text ps) + m) = omega (arith, length-append (part_text p) (parts_text ps)) in
    let next = parts_run track base (after_part loose p) ps m rest are.1 in (
      next.0,
      ap (λ n. run track (segment_at base loose n) ((part_text p ++ parts_text ps) ++ rest)) long
          ∙ ap (run track (segment_at base loose (length (part_text p) + (length (parts_text ps) + m)))) (append_assoc (part_text p) (parts_text ps) rest)
          ∙ part_complete track base loose p (length (parts_text ps) + m) (parts_text ps ++ rest) are.0
          ∙ ap (added (part_frames p)) next.1
          ∙ added_twice (part_frames p) (parts_frames ps) _,
    )

pub parts_complete : (track : TrackNumbers) (base : Place) (loose : Bool) (ps : List Part) (m : ℕ) (rest : List ℕ) → AreParts track ps →
    (l : Bool) × (frames_read track (segment_at base loose (length (parts_text ps) + m)) (parts_text ps ++ rest) ≡ led (parts_frames ps) (frames_read track (segment_at base l m) rest))
parts_complete track base loose ps m rest are =
    let all = parts_run track base loose ps m rest are in
    (all.0, as_frames track (segment_at base loose (length (parts_text ps) + m)) (segment_at base all.0 m) (parts_text ps ++ rest) rest (parts_frames ps) all.1)

-- the end of a Segment
pub segment_done : (track : TrackNumbers) (base : Place) (loose : Bool) (rest : List ℕ) → frames_read track (segment_at base loose 0) rest ≡ Ok ([], rest)
unfolding step_read segment_read header_read
segment_done track base loose rest = frames_turn track (segment_at base loose 0) rest

pub input_done : (track : TrackNumbers) (base : Place) (loose : Bool) (m : ℕ) → base.endless ≡ true → 0 < m → frames_read track (segment_at base loose m) [] ≡ Ok ([], [])
unfolding step_read segment_read header_read first_read
input_done track base loose m endless some =
    let left : (m == 0) ≡ false = ne_eqb _ _ (λ e. omega (arith, e, some)) in
    frames_turn track (segment_at base loose m) [] ∙ rw (left, endless) refl
