-- Elements of a BlockGroup, of a Cluster and of a Segment are read as their frames.
use Rattle.ffv1_matroska.proofs.ListedElements.{piece_inside}
use Rattle.std.proofs.Common.{◌≡◌, ◌≤◌, ◌<◌, ◌+◌, ◌-◌, ◌==◌, ◌||◌, ◌∙◌, ◌++◌, ◌∷◌, [], ℕ, List, Bool, true, false, suc, zero, nat_lt, Some, Ok, Err, ◌⊎◌, inl, inr, length, refl, sym, ap, subst, arith, append_assoc, length-append}
use Rattle.std.proofs.lemmas.Bool.{eq-eqb, lt-ltb, ne_eqb}
use Rattle.ffv1_reads.specs.Reads.{Met, given, read_on, ◌>>=◌}
use Rattle.ffv1_ebml.specs.Elements.{element_read}
use Rattle.ffv1_ebml.specs.Spelled.{SaysSize}
use Rattle.ffv1_ebml.specs.Sums.{is_met, summed}
use Rattle.ffv1_ebml.specs.Vints.{IsVint, number_of}
use Rattle.ffv1_ebml.specs.declared.sum.Sum.{Sum}
use Rattle.ffv1_ebml.specs.declared.sum.Sum.TheVariants.{Absent, Begins, Awaits}
use Rattle.ffv1_ebml.proofs.ElementLaws.{summed_twice}
use Rattle.ffv1_matroska.specs.Elements.{AreLeaves, ArePieces, Content, Plain, Other, Own, HasIdent, content_frames, IsContent, IsLeaf, IsPiece, Leaf, Piece, Single, Group, content_text, leaf_frames, leaf_text, leaves_frames, leaves_text, piece_frames, piece_ident, piece_text, pieces_frames, pieces_text, stands_single}
use Rattle.ffv1_matroska.specs.Places.{cluster_at, group_at, is_sound}
use Rattle.ffv1_matroska.specs.Segments.{block, block_group, block_sought, child_by, cluster_child, cluster_read, cluster_rest, group_child, group_read, group_rest, is_beside, known_child, simple_block, step_read, is_outside}
use Rattle.ffv1_matroska.specs.declared.place.Place.{Place}
use Rattle.ffv1_matroska.proofs.BlockLaws.{after_bytes, beside_kept, content_complete, content_read}
use Rattle.ffv1_matroska.proofs.FrameTurns.{added, added_none, added_twice, run, run_on, run_turn, step_kept, turn_added, turn_read}
use Rattle.ffv1_matroska.proofs.HeaderLaws.{IsHeader, header_complete, header_inside, header_of}
use Rattle.ffv1_matroska.proofs.GroupTurns.{group_turn}
use Rattle.ffv1_matroska.proofs.SoughtBlocks.{found_sought, none_sought, passed_sought}
use Rattle.ffv1_reads.proofs.WantedBytes.{taken_complete}
use Rattle.ffv1_reads.specs.declared.fault.FileFault.TheVariants as fault
use Rattle.ffv1_matroska.specs.declared.track.TrackNumbers.{TrackNumbers}

pub summed_none : (s : Sum) → summed s [] ≡ s
summed_none Absent = refl
summed_none Begins = refl
summed_none (Awaits stated so_far) = refl

-- a Cluster that has bytes left is sound, and so is one whose sum is met
or_middle : (a c : Bool) → ((a || true) || c) ≡ true
or_middle true c = refl
or_middle false c = refl

or_last : (a b : Bool) → ((a || b) || true) ≡ true
or_last true b = refl
or_last false true = refl
or_last false false = refl

pub sound_group : (base : Place) (n : ℕ) (s : Sum) → 0 < n → is_sound (group_at base n s) ≡ true
sound_group base n s some = rw (lt-ltb _ _ some) (or_middle (nat_lt 0 base.cluster) (is_met s))

pub sound_cluster : (base : Place) (n : ℕ) (s : Sum) → 0 < n → is_sound (cluster_at base n s) ≡ true
sound_cluster base n s some = rw (lt-ltb _ _ some) refl

pub sound_met : (base : Place) (n : ℕ) (s : Sum) → is_met s ≡ true → is_sound (group_at base n s) ≡ true
sound_met base n s met = rw met (or_last (nat_lt 0 base.cluster) (nat_lt 0 n))

-- an element has bytes
pub header_some : (ident size : List ℕ) (rest : List ℕ) → IsVint ident → 0 < length ((ident ++ size) ++ rest)
header_some ident size rest is = omega (arith, is.0, length-append (ident ++ size) rest, length-append ident size)

-- an element of a BlockGroup
leaf_turn : (track : TrackNumbers) (base : Place) (l : Leaf) (m : ℕ) (s : Sum) (rest : List ℕ) → IsLeaf block track l → is_sound (group_at base m (summed s (leaf_text l))) ≡ true →
    turn_read track (group_at base (length (leaf_text l) + m) s) (leaf_text l ++ rest) ≡ Ok (Some (leaf_frames l, group_at base m (summed s (leaf_text l))), rest)
unfolding step_read group_read group_child
leaf_turn track base l m s rest is sound =
    let n = length (leaf_text l) + m in
    let place : Place = group_at base n s in
    let head = l.ident ++ l.size in
    let body = content_text l.content in
    let parts : length (leaf_text l) ≡ length head + length body = length-append head body in
    let some : 0 < n = omega (arith, header_some l.ident l.size body is.named) in
    let header : IsHeader n l.ident l.size (Some (length body)) = record { named = is.named; few = is.few; sized = is.sized; fits = omega (arith, parts) } in
    let left : n - length head - length body ≡ m = omega (arith, parts) in
    let sums : summed (summed s head) body ≡ summed s (leaf_text l) = summed_twice s head body in
    let now : Place = group_at base m (summed s head) in
    let there : is_sound (after_bytes now body) ≡ true = rw sums sound in
    rw (lt-ltb 0 n some) (
    ap (λ z. read_on (read_on (element_read n s z) (group_rest track place)) step_kept) (append_assoc head body rest)
    ∙ ap (λ z. read_on (read_on z (group_rest track place)) step_kept) (header_complete n s l.ident l.size (body ++ rest) (Some (length body)) header)
    ∙ ap (λ k. content_read track (number_of l.ident == block) (length body) (group_at base k (summed s head)) (body ++ rest)) left
    ∙ content_complete track (number_of l.ident == block) l.content now rest is.holds there
    ∙ ap (λ (z : Sum). Ok (Some (leaf_frames l, group_at base m z), rest)) sums)

-- before elements of it a group is sound, if it is after them
leaves_sound_at : (track : TrackNumbers) (base : Place) (ls : List Leaf) (m : ℕ) (s : Sum) → AreLeaves block track ls → is_sound (group_at base m (summed s (leaves_text ls))) ≡ true → is_sound (group_at base (length (leaves_text ls) + m) s) ≡ true
leaves_sound_at track base [] m s are h =
    let none : 0 + m ≡ m = omega arith in
    ap (λ n. is_sound (group_at base n s)) none ∙ ap (λ (z : Sum). is_sound (group_at base m z)) (sym (summed_none s)) ∙ h
leaves_sound_at track base (k ∷ ks) m s are h = sound_group base (length (leaves_text (k ∷ ks)) + m) s (omega (arith, header_some k.ident k.size (content_text k.content) are.0.named, length-append (leaf_text k) (leaves_text ks)))

-- elements of a BlockGroup that has so many bytes more
pub leaves_part : (track : TrackNumbers) (base : Place) (ls : List Leaf) (m : ℕ) (s : Sum) (rest : List ℕ) → AreLeaves block track ls → is_sound (group_at base m (summed s (leaves_text ls))) ≡ true →
    run track (group_at base (length (leaves_text ls) + m) s) (leaves_text ls ++ rest) ≡ added (leaves_frames ls) (run track (group_at base m (summed s (leaves_text ls))) rest)
leaves_part track base [] m s rest are sound =
    let none : 0 + m ≡ m = omega arith in
    ap (λ n. run track (group_at base n s) rest) none ∙ ap (λ (z : Sum). run track (group_at base m z) rest) (sym (summed_none s)) ∙ sym (added_none _)
leaves_part track base (l ∷ ls) m s rest are sound =
    let more = length (leaves_text ls) + m in
    let after = summed s (leaf_text l) in
    let sums : summed after (leaves_text ls) ≡ summed s (leaf_text l ++ leaves_text ls) = summed_twice s (leaf_text l) (leaves_text ls) in
    let there : is_sound (group_at base m (summed after (leaves_text ls))) ≡ true = rw sums sound in
    let long : length (leaf_text l ++ leaves_text ls) + m ≡ length (leaf_text l) + more = omega (arith, length-append (leaf_text l) (leaves_text ls)) in
    let next : is_sound (group_at base more after) ≡ true = leaves_sound_at track base ls m after are.1 there in
    ap (λ n. run track (group_at base n s) ((leaf_text l ++ leaves_text ls) ++ rest)) long
    ∙ ap (run track (group_at base (length (leaf_text l) + more) s)) (append_assoc (leaf_text l) (leaves_text ls) rest)
    ∙ turn_added track (group_at base (length (leaf_text l) + more) s) (group_at base more after) (leaf_text l ++ (leaves_text ls ++ rest)) (leaves_text ls ++ rest) (leaf_frames l) (leaf_turn track base l more s (leaves_text ls ++ rest) are.0 next)
    ∙ ap (added (leaf_frames l)) (leaves_part track base ls m after rest are.1 there)
    ∙ added_twice (leaf_frames l) (leaves_frames ls) _
    ∙ ap (λ (z : Sum). added (leaf_frames l ++ leaves_frames ls) (run track (group_at base m z) rest)) sums

-- all that it has
pub leaves_complete : (track : TrackNumbers) (base : Place) (ls : List Leaf) (s : Sum) (rest : List ℕ) → AreLeaves block track ls → is_sound (group_at base 0 (summed s (leaves_text ls))) ≡ true →
    run track (group_at base (length (leaves_text ls)) s) (leaves_text ls ++ rest) ≡ added (leaves_frames ls) (run track (group_at base 0 (summed s (leaves_text ls))) rest)
leaves_complete track base ls s rest are sound =
    let none : length (leaves_text ls) ≡ length (leaves_text ls) + 0 = omega arith in
    ap (λ n. run track (group_at base n s) (leaves_text ls ++ rest)) none ∙ leaves_part track base ls 0 s rest are sound

-- the header of an element of a BlockGroup
leaf_header : (l : Leaf) (m : ℕ) (s : Sum) (rest : List ℕ) (kind : ℕ) (track : TrackNumbers) → IsLeaf kind track l →
    (0 < length (leaf_text l) + m) × (element_read (length (leaf_text l) + m) s (leaf_text l ++ rest) ≡ Ok ((header_of (length (leaf_text l) + m) l.ident l.size (Some (length (content_text l.content))), summed s (l.ident ++ l.size)), content_text l.content ++ rest))
leaf_header l m s rest kind track is =
    let n = length (leaf_text l) + m in
    let head = l.ident ++ l.size in
    let body = content_text l.content in
    let parts : length (leaf_text l) ≡ length head + length body = length-append head body in
    let header : IsHeader n l.ident l.size (Some (length body)) = record { named = is.named; few = is.few; sized = is.sized; fits = omega (arith, parts) } in (
      omega (arith, header_some l.ident l.size body is.named),
      ap (element_read n s) (append_assoc head body rest) ∙ header_complete n s l.ident l.size (body ++ rest) (Some (length body)) header,
    )

-- an element of a BlockGroup before its first Block, or that
sought_leaf : (most : ℕ) (track : TrackNumbers) (base : Place) (l : Leaf) (m : ℕ) (s : Sum) (rest : List ℕ) → IsLeaf block track l → (number_of l.ident == block) ≡ false →
    block_sought (suc most) track (group_at base (length (leaf_text l) + m) s) (leaf_text l ++ rest) ≡ block_sought most track (group_at base m (summed s (leaf_text l))) rest
sought_leaf most track base l m s rest is other =
    let n = length (leaf_text l) + m in
    let head = l.ident ++ l.size in
    let body = content_text l.content in
    let h = leaf_header l m s rest block track is in
    let left : n - length head - length body ≡ m = omega (arith, length-append head body) in
    passed_sought most track (group_at base n s) (leaf_text l ++ rest) (body ++ rest) rest (header_of n l.ident l.size (Some (length body)), summed s head) (length body) (summed (summed s head) body) (ne_eqb n 0 (λ e. omega (arith, e, h.0))) h.1 other refl (ap (λ z. read_on z (λ bytes. given (summed (summed s head) bytes))) (taken_complete (length body) body rest refl))
    ∙ ap (λ k. block_sought most track (group_at base k (summed (summed s head) body)) rest) left
    ∙ ap (λ (z : Sum). block_sought most track (group_at base m z) rest) (summed_twice s head body)

sought_block : (most : ℕ) (track : TrackNumbers) (base : Place) (l : Leaf) (m : ℕ) (s : Sum) (rest : List ℕ) → IsLeaf block track l → (number_of l.ident == block) ≡ true →
    run_on track (read_on (block_sought (suc most) track (group_at base (length (leaf_text l) + m) s) (leaf_text l ++ rest)) step_kept) ≡ run track (group_at base (length (leaf_text l) + m) s) (leaf_text l ++ rest)
sought_block most track base l m s rest is ours =
    let n = length (leaf_text l) + m in
    let place : Place = group_at base n s in
    let head = l.ident ++ l.size in
    let body = content_text l.content in
    let h = leaf_header l m s rest block track is in
    ap (λ z. run_on track (read_on z step_kept)) (found_sought most track place (leaf_text l ++ rest) (body ++ rest) (header_of n l.ident l.size (Some (length body)), summed s head) (ne_eqb n 0 (λ e. omega (arith, e, h.0))) h.1 ours)
    ∙ sym (run_turn track place (leaf_text l ++ rest) ∙ ap (run_on track) (group_turn track place (leaf_text l ++ rest) h.0))

-- what is no block has no frames
no_frames : (track : TrackNumbers) (c : Content) → IsContent track false c → content_frames c ≡ []
no_frames track (Plain bytes) is = refl
no_frames track (Other number rest) is = refl
no_frames track (Own number time flags frame) is = absurd (cc (is.0))

-- elements of it up to a position from which it is sought as they are read; or one of them is it
abbrev pub Agrees : TrackNumbers → Place → ℕ → List ℕ → Type 0
Agrees track base m rest =
    (k : ℕ) (x : Sum) → m ≤ k → run_on track (read_on (block_sought k track (group_at base m x) rest) step_kept) ≡ run track (group_at base m x) rest

pub sought_agrees : (most : ℕ) (track : TrackNumbers) (base : Place) (ls : List Leaf) (m : ℕ) (s : Sum) (rest : List ℕ) → length (leaves_text ls) + m ≤ most → AreLeaves block track ls → is_sound (group_at base m (summed s (leaves_text ls))) ≡ true → HasIdent block ls ⊎ Agrees track base m rest →
    run_on track (read_on (block_sought most track (group_at base (length (leaves_text ls) + m) s) (leaves_text ls ++ rest)) step_kept) ≡ run track (group_at base (length (leaves_text ls) + m) s) (leaves_text ls ++ rest)
sought_agrees most track base [] m s rest fits are sound (inl has) = absurd has
sought_agrees most track base [] m s rest fits are sound (inr agrees) =
    let none : 0 + m ≡ m = omega arith in
    let P : ℕ → Type 0 = λ n. run_on track (read_on (block_sought most track (group_at base n s) rest) step_kept) ≡ run track (group_at base n s) rest in
    subst P (sym none) (agrees most s (omega (arith, fits)))
sought_agrees zero track base (l ∷ ls) m s rest fits are sound has = absurd (omega (arith, fits, header_some l.ident l.size (content_text l.content) are.0.named, length-append (leaf_text l) (leaves_text ls)))
sought_agrees (suc most) track base (l ∷ ls) m s rest fits are sound has = whole (on_block (number_of l.ident == block) refl (λ less good on. sought_agrees most track base ls m (summed s (leaf_text l)) rest less are.1 good on))
  where
    more : ℕ
    more = length (leaves_text ls) + m

    behind : List ℕ
    behind = leaves_text ls ++ rest

    after : Sum
    after = summed s (leaf_text l)

    Here : ℕ → List ℕ → Type 0
    Here n text = run_on track (read_on (block_sought (suc most) track (group_at base n s) text) step_kept) ≡ run track (group_at base n s) text

    whole : Here (length (leaf_text l) + more) (leaf_text l ++ behind) → Here (length (leaf_text l ++ leaves_text ls) + m) ((leaf_text l ++ leaves_text ls) ++ rest)
    whole h =
        let long : length (leaf_text l) + more ≡ length (leaf_text l ++ leaves_text ls) + m = omega (arith, length-append (leaf_text l) (leaves_text ls)) in
        let P : ℕ → Type 0 = λ n. Here n ((leaf_text l ++ leaves_text ls) ++ rest) in
        let Q : List ℕ → Type 0 = λ t. Here (length (leaf_text l) + more) t in
        subst P long (subst Q (sym (append_assoc (leaf_text l) (leaves_text ls) rest)) h)

    there : is_sound (group_at base m (summed after (leaves_text ls))) ≡ true
    there = ap (λ (z : Sum). is_sound (group_at base m z)) (summed_twice s (leaf_text l) (leaves_text ls)) ∙ sound

    later : (number_of l.ident == block) ≡ false → HasIdent block (l ∷ ls) ⊎ Agrees track base m rest → HasIdent block ls ⊎ Agrees track base m rest
    later other (inl (inl is)) = absurd (cc (eq-eqb _ _ is, other))
    later other (inl (inr has)) = inl has
    later other (inr agrees) = inr agrees

    Again : Type 0
    Again = more ≤ most → is_sound (group_at base m (summed after (leaves_text ls))) ≡ true → HasIdent block ls ⊎ Agrees track base m rest →
        run_on track (read_on (block_sought most track (group_at base more after) behind) step_kept) ≡ run track (group_at base more after) behind

    on_block : (b : Bool) → (number_of l.ident == block) ≡ b → Again → Here (length (leaf_text l) + more) (leaf_text l ++ behind)
    on_block true t again = sought_block most track base l more s behind are.0 t
    on_block false t again =
        let none : leaf_frames l ≡ [] = no_frames track l.content (rw (← t) are.0.holds) in
        ap (λ z. run_on track (read_on z step_kept)) (sought_leaf most track base l more s behind are.0 t)
        ∙ again (omega (arith, fits, header_some l.ident l.size (content_text l.content) are.0.named, length-append (leaf_text l) (leaves_text ls), length-append (l.ident ++ l.size) (content_text l.content))) there (later t has)
        ∙ sym (turn_added track (group_at base (length (leaf_text l) + more) s) (group_at base more after) (leaf_text l ++ behind) behind (leaf_frames l) (leaf_turn track base l more s behind are.0 (leaves_sound_at track base ls m after are.1 there)) ∙ ap (λ fs. added fs (run track (group_at base more after) behind)) none)

-- all that it has, and one is it
sought_complete : (track : TrackNumbers) (base : Place) (ls : List Leaf) (s : Sum) (rest : List ℕ) → AreLeaves block track ls → HasIdent block ls → is_sound (group_at base 0 (summed s (leaves_text ls))) ≡ true →
    run_on track (read_on (block_sought (length (leaves_text ls)) track (group_at base (length (leaves_text ls)) s) (leaves_text ls ++ rest)) step_kept) ≡ run track (group_at base (length (leaves_text ls)) s) (leaves_text ls ++ rest)
sought_complete track base ls s rest are has sound =
    let n = length (leaves_text ls) in
    let none : n + 0 ≡ n = omega arith in
    let P : ℕ → Type 0 = λ j. run_on track (read_on (block_sought n track (group_at base j s) (leaves_text ls ++ rest)) step_kept) ≡ run track (group_at base j s) (leaves_text ls ++ rest) in
    subst P none (sought_agrees n track base ls 0 s rest (omega arith) are sound (inl has))

-- none of them is it
pub sought_none : (most : ℕ) (track : TrackNumbers) (base : Place) (ls : List Leaf) (s : Sum) (rest : List ℕ) → length (leaves_text ls) ≤ most → AreLeaves block track ls → (HasIdent block ls → ⊥) →
    block_sought most track (group_at base (length (leaves_text ls)) s) (leaves_text ls ++ rest) ≡ Err (Met fault.BadElement rest)
sought_none most track base [] s rest fits are without = none_sought most track (group_at base 0 s) rest refl
sought_none zero track base (l ∷ ls) s rest fits are without = absurd (omega (arith, fits, header_some l.ident l.size (content_text l.content) are.0.named, length-append (leaf_text l) (leaves_text ls)))
sought_none (suc most) track base (l ∷ ls) s rest fits are without =
    ap (λ n. block_sought (suc most) track (group_at base n s) ((leaf_text l ++ leaves_text ls) ++ rest)) (length-append (leaf_text l) (leaves_text ls))
    ∙ ap (block_sought (suc most) track (group_at base (length (leaf_text l) + length (leaves_text ls)) s)) (append_assoc (leaf_text l) (leaves_text ls) rest)
    ∙ sought_leaf most track base l (length (leaves_text ls)) s (leaves_text ls ++ rest) are.0 (ne_eqb _ _ (λ e. without (inl e)))
    ∙ sought_none most track base ls (summed s (leaf_text l)) rest (omega (arith, fits, header_some l.ident l.size (content_text l.content) are.0.named, length-append (leaf_text l) (leaves_text ls), length-append (l.ident ++ l.size) (content_text l.content))) are.1 (λ has. without (inr has))

-- what an element of a Cluster has after its header, and that header
abbrev pub piece_content : Piece → List ℕ
piece_content (Single l) = content_text l.content
piece_content (Group ident size ls) = leaves_text ls

-- a number that is one is no other
pub differs : (n a b : ℕ) → n ≡ a → (a == b) ≡ false → (n == b) ≡ false
differs n a b is apart = ap (λ z. z == b) is ∙ apart

-- an element of a Cluster after its header: one that is not divided
single_complete : (track : TrackNumbers) (base : Place) (s : Sum) (l : Leaf) (rest : List ℕ) → IsLeaf simple_block track l → (number_of l.ident == block_group) ≡ false → stands_single (number_of l.ident) (length (content_text l.content)) ≡ true → is_sound (group_at base 0 (summed s (content_text l.content))) ≡ true →
    (cluster_child track (number_of l.ident) (length (content_text l.content)) (group_at base 0 s) >>= step_kept) (content_text l.content ++ rest) ≡ Ok (Some (leaf_frames l, group_at base 0 (summed s (content_text l.content))), rest)
unfolding cluster_child
single_complete track base s l rest is apart stands sound = on_test (number_of l.ident == simple_block) refl
  where
    size : ℕ
    size = length (content_text l.content)

    now : Place
    now = group_at base 0 s

    on_test : (b : Bool) → (number_of l.ident == simple_block) ≡ b →
        (cluster_child track (number_of l.ident) size now >>= step_kept) (content_text l.content ++ rest) ≡ Ok (Some (leaf_frames l, group_at base 0 (summed s (content_text l.content))), rest)
    on_test true t = let holds : IsContent track true l.content = rw (← t) is.holds in rw t (content_complete track true l.content now rest holds sound)
    on_test false t = let holds : IsContent track false l.content = rw (← t) is.holds in let beside : is_beside (number_of l.ident) size ≡ true = rw t at stands in rw (t, apart, beside) (beside_kept (number_of l.ident) size now (content_text l.content ++ rest) ∙ content_complete track false l.content now rest holds sound)

-- or any
pub child_complete : (track : TrackNumbers) (base : Place) (s : Sum) (p : Piece) (rest : List ℕ) → IsPiece track p → is_sound (group_at base 0 (summed s (piece_content p))) ≡ true →
    run_on track ((cluster_child track (piece_ident p) (length (piece_content p)) (group_at base 0 s) >>= step_kept) (piece_content p ++ rest))
    ≡ added (piece_frames p) (run track (group_at base 0 (summed s (piece_content p))) rest)
unfolding cluster_child
child_complete track base s (Single l) rest is sound = ap (run_on track) (single_complete track base s l rest is.0 is.1 is.2 sound)
child_complete track base s (Group ident size ls) rest is sound =
    let no_block : (number_of ident == simple_block) ≡ false = differs (number_of ident) block_group simple_block is.0.2 refl in
    let group : (number_of ident == block_group) ≡ true = eq-eqb _ _ is.0.2 in
    rw (no_block, group) (sought_complete track base ls s rest is.2 is.3 sound ∙ leaves_complete track base ls s rest is.2 sound)

-- its header
pub record HasParts (p : Piece) : Type 0 where
  pub ident : List ℕ
  pub size : List ℕ
  pub text_is : piece_text p ≡ (ident ++ size) ++ piece_content p
  pub named : IsVint ident
  pub few : length ident ≤ 4
  pub number : number_of ident ≡ piece_ident p
  pub sized : SaysSize size (Some (length (piece_content p)))

pub piece_parts : (track : TrackNumbers) (p : Piece) → IsPiece track p → HasParts p
piece_parts track (Single l) is = record { ident = l.ident; size = l.size; text_is = refl; named = is.0.named; few = is.0.few; number = refl; sized = is.0.sized }
piece_parts track (Group ident size ls) is = record { ident = ident; size = size; text_is = refl; named = is.0.0; few = is.0.1; number = refl; sized = is.1 }

-- the first element of a Cluster was read
abbrev pub IsPast : Sum → Type 0
IsPast Absent = Unit {0}
IsPast Begins = ⊥
IsPast (Awaits stated so_far) = Unit {0}

pub past_summed : (s : Sum) (bytes : List ℕ) → IsPast s → IsPast (summed s bytes)
past_summed Absent bytes h = tt
past_summed Begins bytes h = absurd h
past_summed (Awaits stated so_far) bytes h = tt

pub by_past : (track : TrackNumbers) (ident size : ℕ) (place : Place) (s : Sum) → IsPast s → child_by track ident size place s ≡ cluster_child track ident size place
by_past track ident size place Absent h = refl
by_past track ident size place Begins h = absurd h
by_past track ident size place (Awaits stated so_far) h = refl

-- an element of a Cluster is read by what comes after its header
pub known_header : (track : TrackNumbers) (base : Place) (ident size : List ℕ) (k m : ℕ) (s : Sum) (rest : List ℕ) → IsVint ident → length ident ≤ 4 → SaysSize size (Some k) → is_outside (number_of ident) ≡ false →
    turn_read track (cluster_at base (length (ident ++ size) + (k + m)) s) ((ident ++ size) ++ rest)
    ≡ (child_by track (number_of ident) k (cluster_at base m (summed s (ident ++ size))) (summed s (ident ++ size)) >>= step_kept) rest
unfolding step_read cluster_read known_child
known_header track base ident size k m s rest named few sized inside =
    let head = ident ++ size in
    let n = length head + (k + m) in
    let some : 0 < n = omega (arith, header_some ident size [] named, length-append head []) in
    let header : IsHeader n ident size (Some k) = record { named = named; few = few; sized = sized; fits = omega arith } in
    let left : n - length head - k ≡ m = omega arith in
    rw (lt-ltb 0 n some) (
    ap (λ z. read_on (read_on z (cluster_rest track (cluster_at base n s))) step_kept) (header_inside is_outside n s ident size rest (Some k) header inside)
    ∙ ap (λ j. read_on (child_by track (number_of ident) k (cluster_at base j (summed s head)) (summed s head) rest) step_kept) left)

pub cluster_header : (track : TrackNumbers) (base : Place) (p : Piece) (h : HasParts p) (m : ℕ) (s : Sum) (rest : List ℕ) → is_outside (piece_ident p) ≡ false →
    turn_read track (cluster_at base (length (piece_text p) + m) s) (piece_text p ++ rest)
    ≡ (child_by track (piece_ident p) (length (piece_content p)) (cluster_at base m (summed s (h.ident ++ h.size))) (summed s (h.ident ++ h.size)) >>= step_kept) (piece_content p ++ rest)
cluster_header track base p h m s rest inside =
    let head = h.ident ++ h.size in
    let body = piece_content p in
    let long : length (piece_text p) + m ≡ length head + (length body + m) = omega (arith, ap length h.text_is, length-append head body) in
    let whole : piece_text p ++ rest ≡ head ++ (body ++ rest) = ap (λ z. z ++ rest) h.text_is ∙ append_assoc head body rest in
    ap (λ n. turn_read track (cluster_at base n s) (piece_text p ++ rest)) long
    ∙ ap (turn_read track (cluster_at base (length head + (length body + m)) s)) whole
    ∙ known_header track base h.ident h.size (length body) m s (body ++ rest) h.named h.few h.sized (ap is_outside h.number ∙ inside)
    ∙ ap (λ j. read_on (child_by track j (length body) (cluster_at base m (summed s head)) (summed s head) (body ++ rest)) step_kept) h.number

pub piece_complete : (track : TrackNumbers) (base : Place) (p : Piece) (m : ℕ) (s : Sum) (rest : List ℕ) → IsPiece track p → IsPast s → is_sound (cluster_at base m (summed s (piece_text p))) ≡ true →
    run track (cluster_at base (length (piece_text p) + m) s) (piece_text p ++ rest) ≡ added (piece_frames p) (run track (cluster_at base m (summed s (piece_text p))) rest)
piece_complete track base p m s rest is past sound =
    let h = piece_parts track p is in
    let head = h.ident ++ h.size in
    let body = piece_content p in
    let now : Place = cluster_at base m (summed s head) in
    let sums : summed (summed s head) body ≡ summed s (piece_text p) = summed_twice s head body ∙ ap (summed s) (sym h.text_is) in
    let there : is_sound (group_at now 0 (summed (summed s head) body)) ≡ true = rw sums sound in
    run_turn track (cluster_at base (length (piece_text p) + m) s) (piece_text p ++ rest)
    ∙ ap (run_on track) (cluster_header track base p h m s rest (piece_inside track p is))
    ∙ ap (λ r. run_on track (read_on (r (body ++ rest)) step_kept)) (by_past track (piece_ident p) (length body) now (summed s head) (past_summed s head past))
    ∙ child_complete track now (summed s head) p rest is there
    ∙ ap (λ (z : Sum). added (piece_frames p) (run track (cluster_at base m z) rest)) sums

pub pieces_some : (track : TrackNumbers) (p : Piece) (ps : List Piece) → IsPiece track p → 0 < length (pieces_text (p ∷ ps))
pieces_some track p ps is =
    let h = piece_parts track p is in
    omega (arith, header_some h.ident h.size (piece_content p) h.named, ap length h.text_is, length-append (piece_text p) (pieces_text ps))

-- elements of a Cluster that has so many bytes more
pub pieces_part : (track : TrackNumbers) (base : Place) (ps : List Piece) (m : ℕ) (s : Sum) (rest : List ℕ) → ArePieces track ps → IsPast s → is_sound (cluster_at base m (summed s (pieces_text ps))) ≡ true →
    run track (cluster_at base (length (pieces_text ps) + m) s) (pieces_text ps ++ rest) ≡ added (pieces_frames ps) (run track (cluster_at base m (summed s (pieces_text ps))) rest)
pieces_part track base [] m s rest are past sound =
    let none : 0 + m ≡ m = omega arith in
    ap (λ n. run track (cluster_at base n s) rest) none ∙ ap (λ (z : Sum). run track (cluster_at base m z) rest) (sym (summed_none s)) ∙ sym (added_none _)
pieces_part track base (p ∷ ps) m s rest are past sound =
    let more = length (pieces_text ps) + m in
    let after = summed s (piece_text p) in
    let sums : summed after (pieces_text ps) ≡ summed s (piece_text p ++ pieces_text ps) = summed_twice s (piece_text p) (pieces_text ps) in
    let there : is_sound (cluster_at base m (summed after (pieces_text ps))) ≡ true = rw sums sound in
    let long : length (piece_text p ++ pieces_text ps) + m ≡ length (piece_text p) + more = omega (arith, length-append (piece_text p) (pieces_text ps)) in
    ap (λ n. run track (cluster_at base n s) ((piece_text p ++ pieces_text ps) ++ rest)) long
    ∙ ap (run track (cluster_at base (length (piece_text p) + more) s)) (append_assoc (piece_text p) (pieces_text ps) rest)
    ∙ piece_complete track base p more s (pieces_text ps ++ rest) are.0 past (on_more ps are.1 there)
    ∙ ap (added (piece_frames p)) (pieces_part track base ps m after rest are.1 (past_summed s (piece_text p) past) there)
    ∙ added_twice (piece_frames p) (pieces_frames ps) _
    ∙ ap (λ (z : Sum). added (piece_frames p ++ pieces_frames ps) (run track (cluster_at base m z) rest)) sums
  where
    on_more : (ps : List Piece) → ArePieces track ps → is_sound (cluster_at base m (summed (summed s (piece_text p)) (pieces_text ps))) ≡ true → is_sound (cluster_at base (length (pieces_text ps) + m) (summed s (piece_text p))) ≡ true
    on_more [] each h =
        let none : 0 + m ≡ m = omega arith in
        ap (λ n. is_sound (cluster_at base n (summed s (piece_text p)))) none ∙ ap (λ (z : Sum). is_sound (cluster_at base m z)) (sym (summed_none (summed s (piece_text p)))) ∙ h
    on_more (q ∷ qs) each h = sound_cluster base (length (pieces_text (q ∷ qs)) + m) (summed s (piece_text p)) (omega (arith, pieces_some track q qs each.0))
