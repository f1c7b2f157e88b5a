-- The parts of a Segment are read as their frames.
use Rattle.ffv1_matroska.proofs.ListedElements.{piece_inside}
use Rattle.std.proofs.Common.{◌≡◌, ◌⊎◌, ◌≤◌, ◌<◌, ◌+◌, ◌-◌, ◌==◌, ◌||◌, ◌&&◌, ◌∙◌, ◌++◌, ◌∷◌, [], ℕ, List, Bool, true, false, if◌then◌else◌, Option, Some, Result, Ok, inl, inr, length, refl, sym, ap, subst, arith, append_assoc, length-append}
use Rattle.std.proofs.lemmas.Bool.{cases_eq, eq-eqb, eqb-true, ne_eqb}
use Rattle.ffv1_reads.specs.Reads.{Stop, given, read_on, ◌>>=◌}
use Rattle.ffv1_reads.proofs.WantedBytes.{taken_complete}
use Rattle.ffv1_sum.specs.Sum.{number_of as low_number, turned}
use Rattle.ffv1_ebml.specs.Elements.{crc_ident, element_read, first_read, is_crc}
use Rattle.ffv1_ebml.specs.Spelled.{SaysSize}
use Rattle.ffv1_ebml.specs.Sums.{summed}
use Rattle.ffv1_ebml.specs.Vints.{IsVint, number_of}
use Rattle.ffv1_ebml.specs.declared.element.Element.{Element}
use Rattle.ffv1_ebml.specs.declared.sum.Sum.{Sum}
use Rattle.ffv1_ebml.specs.declared.sum.Sum.TheVariants.{Absent, Begins, Awaits}
use Rattle.ffv1_ebml.proofs.ContentTold.{content_good}
use Rattle.ffv1_matroska.specs.WrittenIdents.{timestamp}
use Rattle.ffv1_matroska.specs.Blocks.{passed_on}
use Rattle.ffv1_matroska.specs.Elements.{ArePieces, AreSummed, Content, IsContent, IsLeaf, IsPiece, IsTopLevel, Leaf, Piece, Single, Group, Plain, Other, Own, TopLevel, content_frames, content_text, leaf_frames, leaf_text, leaves_text, piece_frames, piece_ident, piece_text, pieces_frames, pieces_text, top_text}
use Rattle.ffv1_matroska.specs.Files.{frames_read}
use Rattle.ffv1_matroska.specs.Internal.{bytes_of}
use Rattle.ffv1_matroska.specs.Places.{closed, cluster_at, cluster_entered, is_sound, segment_at, step_to, summed_at}
use Rattle.ffv1_matroska.specs.Segments.{block_group, cluster, first_child, header_read, is_beside, is_filler, is_of_cluster, is_section, other_read, segment_child, segment_read, segment_rest, simple_block, step_read}
use Rattle.ffv1_matroska.specs.declared.place.Place.{Place}
use Rattle.ffv1_matroska.proofs.FrameTurns.{added, added_none, added_twice, frames_turn, run, run_on, run_turn, step_kept, turn_added, turn_read}
use Rattle.ffv1_matroska.proofs.HeaderLaws.{IsHeader, header_complete}
use Rattle.ffv1_matroska.proofs.PieceLaws.{IsPast, child_complete, cluster_header, differs, header_some, piece_content, piece_parts, pieces_part, pieces_some, sound_cluster, sound_met, summed_none}
use Rattle.ffv1_matroska.specs.Elements.{stands_single}
use Rattle.ffv1_matroska.specs.declared.track.TrackNumbers.{TrackNumbers}

-- if a Cluster has nothing left, the Segment is read on
pub cluster_end : (track : TrackNumbers) (base : Place) (s : Sum) (text : List ℕ) → frames_read track (cluster_at base 0 s) text ≡ frames_read track (segment_at base base.loose base.segment) text
unfolding step_read segment_read header_read
cluster_end track base s text = frames_turn track (cluster_at base 0 s) text ∙ sym (frames_turn track (segment_at base base.loose base.segment) text)

-- the same, of frames one by one
pub run_end : (track : TrackNumbers) (base : Place) (s : Sum) (text : List ℕ) → run track (cluster_at base 0 s) text ≡ run track (segment_at base base.loose base.segment) text
unfolding step_read segment_read header_read
run_end track base s text = run_turn track (cluster_at base 0 s) text ∙ sym (run_turn track (segment_at base base.loose base.segment) text)

-- a CRC-32 is no block and no BlockGroup
pub crc_number : (n size : ℕ) → is_crc n size ≡ true → (n ≡ crc_ident) × (size ≡ 4)
crc_number n size h = on_tests (n == crc_ident) (size == 4) refl refl
  where
    on_tests : (a b : Bool) → (n == crc_ident) ≡ a → (size == 4) ≡ b → (n ≡ crc_ident) × (size ≡ 4)
    on_tests true true s t = (eqb-true _ _ s, eqb-true _ _ t)
    on_tests true false s t = absurd (cc (rw (s, t) at h))
    on_tests false b s t = absurd (cc (rw s at h))

no_frames : (track : TrackNumbers) (c : Content) → IsContent track false c → content_frames c ≡ []
no_frames track (Plain bytes) is = refl
no_frames track (Other number rest) is = absurd (cc (is.0))
no_frames track (Own number time flags frame) is = absurd (cc (is.0))

pub crc_frames : (track : TrackNumbers) (l : Leaf) → IsLeaf simple_block track l → is_crc (number_of l.ident) (length (content_text l.content)) ≡ true → leaf_frames l ≡ []
crc_frames track l is crc =
    let same = crc_number (number_of l.ident) (length (content_text l.content)) crc in
    let none : (number_of l.ident == simple_block) ≡ false = differs (number_of l.ident) crc_ident simple_block same.0 refl in
    no_frames track l.content (rw (← none) is.holds)

-- the first element of a Cluster, its CRC-32
crc_complete : (track : TrackNumbers) (base : Place) (l : Leaf) (m : ℕ) (rest : List ℕ) → IsLeaf simple_block track l → is_crc (number_of l.ident) (length (content_text l.content)) ≡ true → (number_of l.ident == block_group) ≡ false → stands_single (number_of l.ident) (length (content_text l.content)) ≡ true →
    is_sound (cluster_at base m (Awaits (low_number (content_text l.content)) turned)) ≡ true →
    run track (cluster_at base (length (leaf_text l) + m) Begins) (leaf_text l ++ rest) ≡ run track (cluster_at base m (Awaits (low_number (content_text l.content)) turned)) rest
unfolding first_child
crc_complete track base l m rest is crc apart stands sound =
    let p = Single l in
    let body = content_text l.content in
    let four = crc_number (number_of l.ident) (length body) crc in
    run_turn track (cluster_at base (length (leaf_text l) + m) Begins) (leaf_text l ++ rest)
    ∙ ap (run_on track) (cluster_header track base p (piece_parts track p (is, apart, stands)) m Begins rest (piece_inside track p (is, apart, stands)))
    ∙ rw (crc, taken_complete 4 body rest four.1, sound) (added_none _)

-- or another one, without one
plain_complete : (track : TrackNumbers) (base : Place) (p : Piece) (m : ℕ) (rest : List ℕ) → IsPiece track p → is_crc (piece_ident p) (length (piece_content p)) ≡ false → is_sound (cluster_at base m Absent) ≡ true →
    run track (cluster_at base (length (piece_text p) + m) Begins) (piece_text p ++ rest) ≡ added (piece_frames p) (run track (cluster_at base m Absent) rest)
unfolding first_child
plain_complete track base p m rest is no_crc sound =
    run_turn track (cluster_at base (length (piece_text p) + m) Begins) (piece_text p ++ rest)
    ∙ ap (run_on track) (cluster_header track base p (piece_parts track p is) m Begins rest (piece_inside track p is))
    ∙ rw no_crc (child_complete track (cluster_at base m Absent) Absent p rest is sound)

-- elements of a Cluster after the first are sound
rest_sound : (track : TrackNumbers) (base : Place) (ps : List Piece) (m : ℕ) (s : Sum) → ArePieces track ps → is_sound (cluster_at base m (summed s (pieces_text ps))) ≡ true → is_sound (cluster_at base (length (pieces_text ps) + m) s) ≡ true
rest_sound track base [] m s each h =
    let none : 0 + m ≡ m = omega arith in
    ap (λ n. is_sound (cluster_at base n s)) none ∙ ap (λ (z : Sum). is_sound (cluster_at base m z)) (sym (summed_none s)) ∙ h
rest_sound track base (q ∷ qs) m s each h = sound_cluster base (length (pieces_text (q ∷ qs)) + m) s (omega (arith, pieces_some track q qs each.0))

-- the elements of a Cluster, after a first one that was read
after_first : (track : TrackNumbers) (base : Place) (p : Piece) (ps : List Piece) (m : ℕ) (s : Sum) (frames : List (List ℕ)) (rest : List ℕ) → ArePieces track ps → IsPast s → is_sound (cluster_at base m (summed s (pieces_text ps))) ≡ true →
    run track (cluster_at base (length (piece_text p) + (length (pieces_text ps) + m)) Begins) (piece_text p ++ (pieces_text ps ++ rest)) ≡ added frames (run track (cluster_at base (length (pieces_text ps) + m) s) (pieces_text ps ++ rest)) →
    run track (cluster_at base (length (pieces_text (p ∷ ps)) + m) Begins) (pieces_text (p ∷ ps) ++ rest) ≡ added (frames ++ pieces_frames ps) (run track (cluster_at base m (summed s (pieces_text ps))) rest)
after_first track base p ps m s frames rest are past sound first =
    let long : length (piece_text p ++ pieces_text ps) + m ≡ length (piece_text p) + (length (pieces_text ps) + m) = omega (arith, length-append (piece_text p) (pieces_text ps)) in
    ap (λ n. run track (cluster_at base n Begins) ((piece_text p ++ pieces_text ps) ++ rest)) long
    ∙ ap (run track (cluster_at base (length (piece_text p) + (length (pieces_text ps) + m)) Begins)) (append_assoc (piece_text p) (pieces_text ps) rest)
    ∙ first
    ∙ ap (added frames) (pieces_part track base ps m s rest are past sound)
    ∙ added_twice frames (pieces_frames ps) _

plain_first : (track : TrackNumbers) (base : Place) (p : Piece) (ps : List Piece) (m : ℕ) (rest : List ℕ) → IsPiece track p → ArePieces track ps → is_crc (piece_ident p) (length (piece_content p)) ≡ false →
    run track (cluster_at base (length (pieces_text (p ∷ ps)) + m) Begins) (pieces_text (p ∷ ps) ++ rest) ≡ added (pieces_frames (p ∷ ps)) (run track (cluster_at base m Absent) rest)
plain_first track base p ps m rest is are no_crc =
    let sound : is_sound (cluster_at base m Absent) ≡ true = sound_met (cluster_at base m Absent) 0 Absent refl in
    after_first track base p ps m Absent (piece_frames p) rest are tt sound (plain_complete track base p (length (pieces_text ps) + m) (pieces_text ps ++ rest) is no_crc (rest_sound track base ps m Absent are sound))

summed_first : (track : TrackNumbers) (base : Place) (l : Leaf) (ps : List Piece) (m : ℕ) (rest : List ℕ) → IsPiece track (Single l) → ArePieces track ps → is_crc (number_of l.ident) (length (content_text l.content)) ≡ true →
    is_sound (cluster_at base m (summed (Awaits (low_number (content_text l.content)) turned) (pieces_text ps))) ≡ true →
    run track (cluster_at base (length (pieces_text (Single l ∷ ps)) + m) Begins) (pieces_text (Single l ∷ ps) ++ rest)
    ≡ added (pieces_frames (Single l ∷ ps)) (run track (cluster_at base m (summed (Awaits (low_number (content_text l.content)) turned) (pieces_text ps))) rest)
summed_first track base l ps m rest is are crc sound =
    let s = Awaits (low_number (content_text l.content)) turned in
    after_first track base (Single l) ps m s [] rest are tt sound (crc_complete track base l (length (pieces_text ps) + m) (pieces_text ps ++ rest) is.0 crc is.1 is.2 (rest_sound track base ps m s are sound) ∙ sym (added_none _))
    ∙ ap (λ fs. added (fs ++ pieces_frames ps) (run track (cluster_at base m (summed s (pieces_text ps))) rest)) (sym (crc_frames track l is.0 crc))

-- elements of a Cluster that has so many bytes more
pub first_part : (track : TrackNumbers) (base : Place) (ps : List Piece) (m : ℕ) (rest : List ℕ) → ArePieces track ps → (0 < m) ⊎ AreSummed ps →
    (s : Sum) × (run track (cluster_at base (length (pieces_text ps) + m) Begins) (pieces_text ps ++ rest) ≡ added (pieces_frames ps) (run track (cluster_at base m s) rest))
first_part track base [] m rest are sums =
    let none : 0 + m ≡ m = omega arith in
    (Begins, ap (λ n. run track (cluster_at base n Begins) rest) none ∙ sym (added_none _))
first_part track base (Single l ∷ ps) m rest are sums = on_crc (is_crc (number_of l.ident) (length (content_text l.content))) refl
  where
    s : Sum
    s = summed (Awaits (low_number (content_text l.content)) turned) (pieces_text ps)

    sound : is_crc (number_of l.ident) (length (content_text l.content)) ≡ true → (0 < m) ⊎ AreSummed (Single l ∷ ps) → is_sound (cluster_at base m s) ≡ true
    sound t (inl some) = sound_cluster base m s some
    sound t (inr each) = sound_met (cluster_at base m s) 0 s (eq-eqb _ _ (each t))

    on_crc : (b : Bool) → is_crc (number_of l.ident) (length (content_text l.content)) ≡ b →
        (s : Sum) × (run track (cluster_at base (length (pieces_text (Single l ∷ ps)) + m) Begins) (pieces_text (Single l ∷ ps) ++ rest) ≡ added (pieces_frames (Single l ∷ ps)) (run track (cluster_at base m s) rest))
    on_crc true t = (s, summed_first track base l ps m rest are.0 are.1 t (sound t sums))
    on_crc false t = (Absent, plain_first track base (Single l) ps m rest are.0 are.1 t)
first_part track base (Group ident size ls ∷ ps) m rest are sums =
    let other : (number_of ident == crc_ident) ≡ false = differs (number_of ident) block_group crc_ident are.0.0.2 refl in
    let no_crc : is_crc (number_of ident) (length (leaves_text ls)) ≡ false = rw other refl in
    (Absent, plain_first track base (Group ident size ls) ps m rest are.0 are.1 no_crc)

-- all that it has
pub cluster_complete : (track : TrackNumbers) (base : Place) (ps : List Piece) (rest : List ℕ) → ArePieces track ps → AreSummed ps →
    run track (cluster_entered base (length (pieces_text ps))) (pieces_text ps ++ rest) ≡ added (pieces_frames ps) (run track (segment_at base false base.segment) rest)
cluster_complete track base ps rest are sums =
    let now = segment_at base false base.segment in
    let none : length (pieces_text ps) ≡ length (pieces_text ps) + 0 = omega arith in
    let part = first_part track now ps 0 rest are (inr sums) in
    ap (λ n. run track (cluster_at now n Begins) (pieces_text ps ++ rest)) none ∙ part.1 ∙ ap (added (pieces_frames ps)) (run_end track now part.0 rest)

-- the header of an element of a Segment
pub header_there : (place : Place) (text : List ℕ) → 0 < place.segment → 0 < length text → header_read place text ≡ (element_read place.segment Absent >>= λ p. given (Some p.0)) text
unfolding header_read first_read
header_there place [] some there = absurd (omega (arith, there))
header_there place (b ∷ bs) some there = on_endless place.endless refl
  where
    left : (place.segment == 0) ≡ false
    left = ne_eqb _ _ (λ e. omega (arith, e, some))

    on_endless : (e : Bool) → place.endless ≡ e → header_read place (b ∷ bs) ≡ (element_read place.segment Absent >>= λ p. given (Some p.0)) (b ∷ bs)
    on_endless true e = rw (left, e) refl
    on_endless false e = rw (left, e) refl

pub header_is_read : (base : Place) (loose : Bool) (ident size : List ℕ) (known : Option ℕ) (m : ℕ) (rest : List ℕ) → IsVint ident → length ident ≤ 4 → SaysSize size known →
    header_read (segment_at base loose (length (ident ++ size) + (bytes_of known + m))) ((ident ++ size) ++ rest) ≡ Ok (Some (record { ident = number_of ident; size = known; left = m }), rest)
header_is_read base loose ident size known m rest named few sized =
    let n = length (ident ++ size) + (bytes_of known + m) in
    let place : Place = segment_at base loose n in
    let there : 0 < length ((ident ++ size) ++ rest) = header_some ident size rest named in
    let some : 0 < n = omega (arith, header_some ident size [] named, length-append (ident ++ size) []) in
    let header : IsHeader n ident size known = record { named = named; few = few; sized = sized; fits = omega arith } in
    let left : n - length (ident ++ size) - bytes_of known ≡ m = omega arith in
    let made : ℕ → Element = λ k. record { ident = number_of ident; size = known; left = k } in
    let answer : ℕ → Result (Option Element × List ℕ) Stop = λ k. Ok (Some (made k), rest) in
    header_there place ((ident ++ size) ++ rest) some there
    ∙ ap (λ z. read_on z (λ p. given (Some p.0))) (header_complete n Absent ident size rest known header)
    ∙ ap answer left

pub segment_header : (track : TrackNumbers) (base : Place) (loose : Bool) (ident size : List ℕ) (known : Option ℕ) (m : ℕ) (rest : List ℕ) → IsVint ident → length ident ≤ 4 → SaysSize size known →
    turn_read track (segment_at base loose (length (ident ++ size) + (bytes_of known + m))) ((ident ++ size) ++ rest) ≡ (segment_child track (number_of ident) (segment_at base loose m) known >>= step_kept) rest
unfolding step_read segment_read
segment_header track base loose ident size known m rest named few sized =
    ap (λ z. read_on (read_on z (segment_rest track (segment_at base loose (length (ident ++ size) + (bytes_of known + m))))) step_kept) (header_is_read base loose ident size known m rest named few sized)

-- IDs that are apart
pub of_cluster_apart : (n : ℕ) → (is_of_cluster n || is_filler n) ≡ true → (n == cluster) ≡ false
unfolding is_of_cluster is_filler
of_cluster_apart n h = elim (cases_eq n cluster) [ inl same ↦ absurd (no same h) | inr other ↦ ne_eqb _ _ other ]
  where
    no : n ≡ cluster → (is_of_cluster n || is_filler n) ≡ true → ⊥
    no same h = let P : ℕ → Type 0 = λ k. (is_of_cluster k || is_filler k) ≡ true in cc (subst P same h)

filler_is : (n : ℕ) → is_filler n ≡ true → (n ≡ 236) ⊎ (n ≡ crc_ident)
unfolding is_filler
filler_is n h = on_test (n == 236) refl
  where
    on_test : (b : Bool) → (n == 236) ≡ b → (n ≡ 236) ⊎ (n ≡ crc_ident)
    on_test true t = inl (eqb-true _ _ t)
    on_test false t = inr (eqb-true _ _ (let k : (n == crc_ident) ≡ true = rw t at h in k))

-- what Void and CRC-32 are not
pub record IsFillerOnly (n : ℕ) : Type 0 where
  pub no_section : is_section n ≡ false
  pub no_cluster : is_of_cluster n ≡ false
  pub no_block : (n == simple_block) ≡ false
  pub no_group : (n == block_group) ≡ false
  pub no_other : (n == cluster) ≡ false
  pub no_time : (n == timestamp) ≡ false
  pub beside : (size : ℕ) → is_beside n size ≡ true

pub filler_only : (n : ℕ) → is_filler n ≡ true → IsFillerOnly n
unfolding is_section is_of_cluster is_beside is_filler
filler_only n h = elim (filler_is n h) [
  | inl same ↦ record { no_section = ap is_section same; no_cluster = ap is_of_cluster same; no_block = ap (λ k. k == simple_block) same; no_group = ap (λ k. k == block_group) same; no_other = ap (λ k. k == cluster) same; no_time = ap (λ k. k == timestamp) same; beside = λ size. ap (λ k. is_beside k size) same }
  | inr same ↦ record { no_section = ap is_section same; no_cluster = ap is_of_cluster same; no_block = ap (λ k. k == simple_block) same; no_group = ap (λ k. k == block_group) same; no_other = ap (λ k. k == cluster) same; no_time = ap (λ k. k == timestamp) same; beside = λ size. ap (λ k. is_beside k size) same }
]

section_is_none : (n m : ℕ) → is_section n ≡ true → is_section m ≡ false → n ≡ m → ⊥
section_is_none n m is none same = let e : ◌≡◌ {A = Bool} true false = sym is ∙ ap is_section same ∙ none in cc

of_cluster_section : (n : ℕ) → is_section n ≡ true → is_of_cluster n ≡ false
unfolding is_of_cluster is_section
of_cluster_section n h =
    let a : (n == simple_block) ≡ false = ne_eqb _ _ (section_is_none n simple_block h refl) in
    let b : (n == block_group) ≡ false = ne_eqb _ _ (section_is_none n block_group h refl) in
    let c : (n == 231) ≡ false = ne_eqb _ _ (section_is_none n 231 h refl) in
    let d : (n == 167) ≡ false = ne_eqb _ _ (section_is_none n 167 h refl) in
    let e : (n == 171) ≡ false = ne_eqb _ _ (section_is_none n 171 h refl) in
    let f : (n == 22612) ≡ false = ne_eqb _ _ (section_is_none n 22612 h refl) in
    let g : (n == 175) ≡ false = ne_eqb _ _ (section_is_none n 175 h refl) in
    rw (a, b, c, d, e, f, g) refl

pub top_only : (n : ℕ) → (is_section n || is_filler n) ≡ true → ((n == cluster) ≡ false) × (is_of_cluster n ≡ false)
unfolding is_section
top_only n h = on_test (is_section n) refl h
  where
    on_test : (b : Bool) → is_section n ≡ b → (b || is_filler n) ≡ true → ((n == cluster) ≡ false) × (is_of_cluster n ≡ false)
    on_test true t h = (ne_eqb _ _ (section_is_none n cluster t refl), of_cluster_section n t)
    on_test false t h = let only = filler_only n h in (only.no_other, only.no_cluster)

-- after an element without frames a Cluster of unknown size has ended, if it was no filler
abbrev pub loose_after : Bool → TopLevel → Bool
loose_after loose t = if is_section (number_of t.ident) then false else loose

pub and_false : (b : Bool) → (b && false) ≡ false
and_false true = refl
and_false false = refl

passed_here : (base : Place) (loose : Bool) (m : ℕ) (bytes rest : List ℕ) → passed_on (length bytes) (segment_at base loose m) (bytes ++ rest) ≡ Ok (Some (step_to (segment_at base loose m)), rest)
unfolding passed_on
passed_here base loose m bytes rest = ap (λ z. read_on (read_on z (λ xs. given (summed Absent xs))) (λ sum. closed (Some (step_to (summed_at (segment_at base loose m) sum))) (summed_at (segment_at base loose m) sum))) (taken_complete (length bytes) bytes rest refl)

other_complete : (track : TrackNumbers) (base : Place) (loose : Bool) (t : TopLevel) (m : ℕ) (rest : List ℕ) → IsTopLevel t →
    other_read (number_of t.ident) (length t.content) (segment_at base loose m) (t.content ++ rest) ≡ Ok (Some (step_to (segment_at base (loose_after loose t) m)), rest)
unfolding other_read
other_complete track base loose t m rest is = on_test (is_section (number_of t.ident)) refl is.known
  where
    n : ℕ
    n = number_of t.ident

    on_test : (b : Bool) → is_section n ≡ b → (b || is_filler n) ≡ true → other_read n (length t.content) (segment_at base loose m) (t.content ++ rest) ≡ Ok (Some (step_to (segment_at base (loose_after loose t) m)), rest)
    on_test true s k = rw (s, content_good t.content rest (is.told s)) refl
    on_test false s k = rw (s, k) (passed_here base loose m t.content rest)

pub top_complete : (track : TrackNumbers) (base : Place) (loose : Bool) (t : TopLevel) (m : ℕ) (rest : List ℕ) → IsTopLevel t →
    run track (segment_at base loose (length (top_text t) + m)) (top_text t ++ rest) ≡ run track (segment_at base (loose_after loose t) m) rest
unfolding segment_child
top_complete track base loose t m rest is =
    let head = t.ident ++ t.size in
    let n = number_of t.ident in
    let only = top_only n is.known in
    let no : (loose && is_of_cluster n) ≡ false = ap (λ b. loose && b) only.1 ∙ and_false loose in
    let long : length (top_text t) + m ≡ length head + (length t.content + m) = omega (arith, length-append head t.content) in
    let turn : turn_read track (segment_at base loose (length (top_text t) + m)) (top_text t ++ rest) ≡ Ok (Some ([], segment_at base (loose_after loose t) m), rest) =
    ap (λ k. turn_read track (segment_at base loose k) (top_text t ++ rest)) long
    ∙ ap (turn_read track (segment_at base loose (length head + (length t.content + m)))) (append_assoc head t.content rest)
    ∙ segment_header track base loose t.ident t.size (Some (length t.content)) m (t.content ++ rest) is.named is.few is.sized
    ∙ rw (only.0, no) (ap (λ z. read_on z step_kept) (other_complete track base loose t m rest is)) in
    turn_added track (segment_at base loose (length (top_text t) + m)) (segment_at base (loose_after loose t) m) (top_text t ++ rest) rest [] turn ∙ added_none _
