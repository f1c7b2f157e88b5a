-- What is read in a Cluster is its elements.
use Rattle.ffv1_ebml.proofs.OutsideLaws.{in_read}
use Rattle.std.proofs.Common.{◌≡◌, ◌⊎◌, inl, inr, Err, ◌≤◌, ◌<◌, ◌+◌, ◌==◌, ◌∙◌, ◌++◌, ◌∷◌, [], ℕ, suc, zero, List, Bool, true, false, nat_lt, Option, Some, None, Ok, length, refl, sym, ap, subst, arith, append_assoc, length-append}
use Rattle.std.proofs.lemmas.Bool.{cases_eq, eqb-true, lt-ltb}
use Rattle.ffv1_reads.specs.declared.fault.FileFault.TheVariants as fault
use Rattle.ffv1_reads.specs.Reads.{Met, read_on, taken, ◌>>=◌}
use Rattle.ffv1_reads.proofs.Results.{ok_is, read_on_ok}
use Rattle.ffv1_reads.proofs.WantedBytes.{taken_sound}
use Rattle.ffv1_sum.specs.Sum.{crc_of, number_of as low_number, turned}
use Rattle.ffv1_ebml.specs.Elements.{crc_ident, is_crc, element_in}
use Rattle.ffv1_ebml.specs.Spelled.{SaysSize}
use Rattle.ffv1_ebml.specs.Sums.{is_met, summed}
use Rattle.ffv1_ebml.specs.Vints.{IsVint, number_of}
use Rattle.ffv1_ebml.specs.declared.element.Element.{Element}
use Rattle.ffv1_ebml.specs.declared.sum.Sum.{Sum}
use Rattle.ffv1_ebml.specs.declared.sum.Sum.TheVariants.{Absent, Begins, Awaits}
use Rattle.ffv1_ebml.proofs.ElementLaws.{summed_twice}
use Rattle.ffv1_matroska.specs.Elements.{HasIdent, ArePieces, AreSummed, IsContent, IsLeaf, IsPiece, Leaf, Piece, Single, Group, Plain, content_text, leaf_frames, leaves_text, piece_frames, piece_ident, piece_text, pieces_frames, pieces_text, stands_single}
use Rattle.ffv1_matroska.specs.Files.{frames_read}
use Rattle.ffv1_matroska.specs.Places.{closed, cluster_at, cluster_entered, group_at, is_sound, segment_at, step_to}
use Rattle.ffv1_matroska.specs.Segments.{block, block_group, block_sought, child_by, cluster_child, cluster_read, cluster_rest, crc_read, first_child, is_beside, is_filler, known_child, simple_block, step_read, is_outside}
use Rattle.ffv1_matroska.specs.declared.place.Place.{Place}
use Rattle.ffv1_matroska.specs.declared.place.Step.{Step}
use Rattle.ffv1_matroska.proofs.BlockLaws.{beside_kept, content_read}
use Rattle.ffv1_matroska.proofs.FrameTurns.{Turn, step_kept, turn_read, turns_on}
use Rattle.ffv1_matroska.proofs.GroupTurns.{sought_frames}
use Rattle.ffv1_matroska.proofs.HeaderLaws.{HasHeader, header_sound}
use Rattle.ffv1_matroska.proofs.PartLaws.{cluster_end, crc_number}
use Rattle.ffv1_matroska.proofs.PieceLaws.{sought_none, sound_group, IsPast, by_past, differs, past_summed, piece_content, summed_none}
use Rattle.ffv1_matroska.proofs.ReadBlocks.{closed_sound, content_sound}
use Rattle.ffv1_matroska.proofs.ReadPieces.{GoesOn, HasLeaves, leaves_sound, led_sound, turn_goes, turn_sound}
use Rattle.ffv1_matroska.proofs.StepBounds.{err_is_no_ok}
use Rattle.ffv1_matroska.specs.declared.track.TrackNumbers.{TrackNumbers}

-- bytes of the header of an element, of this ID and size
pub record IsNamed (ident size : List ℕ) (number n : ℕ) : Type 0 where
  pub named : IsVint ident
  pub few : length ident ≤ 4
  pub is : number_of ident ≡ number
  pub sized : SaysSize size (Some n)

-- an element of a Cluster after its header, and what is read after it
pub record HasChild (track : TrackNumbers) (base : Place) (s : Sum) (ident size : List ℕ) (n : ℕ) (text : List ℕ) (w : List (List ℕ) × List ℕ) : Type 0 where
  pub piece : Piece
  pub is : IsPiece track piece
  pub ident_is : piece_ident piece ≡ number_of ident
  pub whole : piece_text piece ≡ (ident ++ size) ++ piece_content piece
  pub more : List ℕ
  pub text_is : text ≡ piece_content piece ++ more
  pub long : length (piece_content piece) ≡ n
  pub sound : is_sound (group_at base 0 (summed s (piece_content piece))) ≡ true
  pub after : GoesOn track (group_at base 0 (summed s (piece_content piece))) more (piece_frames piece) w

-- one that is not divided
single_sound : (track : TrackNumbers) (base : Place) (s : Sum) (ident size : List ℕ) (number n : ℕ) (text : List ℕ) (w : List (List ℕ) × List ℕ) (b : Bool) → IsNamed ident size number n → (number == simple_block) ≡ b → (number == block_group) ≡ false → stands_single number n ≡ true →
    read_on (content_read track b n (group_at base 0 s) text) (turns_on track) ≡ Ok w → HasChild track base s ident size n text w
single_sound track base s ident size number n text w b is test apart stands h =
    let first = read_on_ok (content_read track b n (group_at base 0 s) text) (turns_on track) w h in
    let c = content_sound track b n (group_at base 0 s) text first.0.0 first.0.1 first.1 in
    let body = content_text c.content in
    let l : Leaf = record { ident = ident; size = size; content = c.content } in
    let kind : (number_of ident == simple_block) ≡ b = ap (λ k. k == simple_block) is.is ∙ test in
    let other : (number_of ident == block_group) ≡ false = ap (λ k. k == block_group) is.is ∙ apart in
    let beside : stands_single (number_of ident) (length body) ≡ true = ap (λ k. stands_single k (length body)) is.is ∙ ap (stands_single number) c.long ∙ stands in
    let holds : IsContent track (number_of ident == simple_block) c.content = rw kind c.is in
    let sized : SaysSize size (Some (length body)) = rw c.long is.sized in
    record {
      piece = Single l;
      is = (record { named = is.named; few = is.few; sized = sized; holds = holds }, other, beside);
      ident_is = refl;
      whole = refl;
      more = first.0.1;
      text_is = c.text_is;
      long = c.long;
      sound = c.sound;
      after = turn_goes track first.0.0 (group_at base 0 (summed s body)) first.0.1 (leaf_frames l) w c.turn first.2;
    }

-- a BlockGroup that was read has a Block
has_or_none : (ls : List Leaf) → HasIdent block ls ⊎ (HasIdent block ls → ⊥)
has_or_none [] = inr (λ has. has)
has_or_none (l ∷ ls) = on_first (cases_eq (number_of l.ident) block) (has_or_none ls)
  where
    on_first : (number_of l.ident ≡ block) ⊎ (number_of l.ident ≡ block → ⊥) → HasIdent block ls ⊎ (HasIdent block ls → ⊥) → HasIdent block (l ∷ ls) ⊎ (HasIdent block (l ∷ ls) → ⊥)
    on_first (inl is) more = inl (inl is)
    on_first (inr other) (inl has) = inl (inr has)
    on_first (inr other) (inr none) = inr (λ has. on_both has)
      where
        on_both : HasIdent block (l ∷ ls) → ⊥
        on_both (inl is) = other is
        on_both (inr has) = none has

sought_has : (track : TrackNumbers) (base : Place) (n : ℕ) (s : Sum) (text : List ℕ) (w : List (List ℕ) × List ℕ) (ls : HasLeaves track base n s text w) →
    read_on (read_on (block_sought n track (group_at base n s) text) step_kept) (turns_on track) ≡ Ok w → HasIdent block ls.leaves ⊎ (HasIdent block ls.leaves → ⊥) → HasIdent block ls.leaves
sought_has track base n s text w ls h (inl has) = has
sought_has track base n s text w ls h (inr none) =
    let refused : block_sought n track (group_at base n s) text ≡ Err (Met fault.BadElement ls.more) =
    ap (block_sought n track (group_at base n s)) ls.text_is
    ∙ ap (λ k. block_sought n track (group_at base k s) (leaves_text ls.leaves ++ ls.more)) (sym ls.long)
    ∙ sought_none n track base ls.leaves s ls.more (omega (arith, ls.long)) ls.are none in
    absurd (err_is_no_ok (Met fault.BadElement ls.more) w (ap (λ z. read_on (read_on z step_kept) (turns_on track)) (sym refused) ∙ h))

-- or a BlockGroup
group_sound : (track : TrackNumbers) (base : Place) (s : Sum) (ident size : List ℕ) (n : ℕ) (text : List ℕ) (w : List (List ℕ) × List ℕ) → IsNamed ident size block_group n →
    read_on (read_on (block_sought n track (group_at base n s) text) step_kept) (turns_on track) ≡ Ok w → HasChild track base s ident size n text w
group_sound track base s ident size n text w is h =
    let on = sought_frames n track (group_at base n s) text w h in
    let ls = leaves_sound n track base n s text w (omega arith) (sound_group base n s on.0) on.1 in
    let has = sought_has track base n s text w ls h (has_or_none ls.leaves) in
    let sized : SaysSize size (Some (length (leaves_text ls.leaves))) = rw ls.long is.sized in
    record {
      piece = Group ident size ls.leaves;
      is = ((is.named, is.few, is.is), sized, ls.are, has);
      ident_is = refl;
      whole = refl;
      more = ls.more;
      text_is = ls.text_is;
      long = ls.long;
      sound = ls.sound;
      after = ls.after;
    }

pub child_sound : (track : TrackNumbers) (base : Place) (s : Sum) (ident size : List ℕ) (number n : ℕ) (text : List ℕ) (w : List (List ℕ) × List ℕ) → IsNamed ident size number n →
    read_on ((cluster_child track number n (group_at base 0 s) >>= step_kept) text) (turns_on track) ≡ Ok w → HasChild track base s ident size n text w
unfolding cluster_child
child_sound track base s ident size number n text w is h = on_tests (number == simple_block) (number == block_group) refl refl h
  where
    on_tests : (a b : Bool) → (number == simple_block) ≡ a → (number == block_group) ≡ b → read_on ((cluster_child track number n (group_at base 0 s) >>= step_kept) text) (turns_on track) ≡ Ok w → HasChild track base s ident size n text w
    on_tests true b p q h = single_sound track base s ident size number n text w true is p (differs number simple_block block_group (eqb-true _ _ p) refl) (rw p refl) (rw p at h)
    on_tests false true p q h =
        let group : IsNamed ident size block_group n = record { named = is.named; few = is.few; is = is.is ∙ eqb-true _ _ q; sized = is.sized } in
        group_sound track base s ident size n text w group (rw (p, q) at h)
    on_tests false false p q h = on_beside (is_beside number n) refl
      where
        on_beside : (d : Bool) → is_beside number n ≡ d → HasChild track base s ident size n text w
        on_beside true r = single_sound track base s ident size number n text w false is p q (rw (p, r) refl) (ap (λ z. read_on z (turns_on track)) (sym (beside_kept number n (group_at base 0 s) text)) ∙ rw (p, q, r) at h)
        on_beside false r = absurd (cc (rw (p, q, r) at h))

-- an element of a Cluster with its header
pub record HasPiece (track : TrackNumbers) (base : Place) (c : ℕ) (s : Sum) (text : List ℕ) (w : List (List ℕ) × List ℕ) : Type 0 where
  pub piece : Piece
  pub is : IsPiece track piece
  pub more : List ℕ
  pub text_is : text ≡ piece_text piece ++ more
  pub left : ℕ
  pub fits : length (piece_text piece) + left ≡ c
  pub sound : is_sound (cluster_at base left (summed s (piece_text piece))) ≡ true
  pub after : GoesOn track (cluster_at base left (summed s (piece_text piece))) more (piece_frames piece) w

-- a header was read in a Cluster, of an element of known size, and a turn after it
pub record HasHeadTurn (track : TrackNumbers) (base : Place) (c : ℕ) (s : Sum) (text : List ℕ) (o : Turn) (rest : List ℕ) : Type 0 where
  pub ident : List ℕ
  pub size : List ℕ
  pub number : ℕ
  pub n : ℕ
  pub left : ℕ
  pub more : List ℕ
  pub is : IsNamed ident size number n
  pub text_is : text ≡ (ident ++ size) ++ more
  pub fits : length (ident ++ size) + (n + left) ≡ c
  pub read : (child_by track number n (cluster_at base left (summed s (ident ++ size))) (summed s (ident ++ size)) >>= step_kept) more ≡ Ok (o, rest)

pub head_turn : (track : TrackNumbers) (base : Place) (c : ℕ) (s : Sum) (text : List ℕ) (o : Turn) (rest : List ℕ) → 0 < c → turn_read track (cluster_at base c s) text ≡ Ok (o, rest) → HasHeadTurn track base c s text o rest
unfolding step_read cluster_read known_child
head_turn track base c s text o rest some h =
    let place : Place = cluster_at base c s in
    let test : nat_lt 0 c ≡ true = lt-ltb _ _ some in
    let whole : read_on (read_on (element_in is_outside c s text) (cluster_rest track place)) step_kept ≡ Ok (o, rest) = rw test at h in
    let first = read_on_ok (read_on (element_in is_outside c s text) (cluster_rest track place)) step_kept (o, rest) whole in
    let second = read_on_ok (element_in is_outside c s text) (cluster_rest track place) first.0 first.1 in
    on_size second.0.0 second.0.1 first.0 (header_sound c s text second.0.0 second.0.1 (in_read is_outside c s text second.0 second.1).0) second.0.0.0.size refl second.2 first.2
  where
    on_size : (p : Element × Sum) (more : List ℕ) (q : Option Step × List ℕ) → HasHeader c s text p more → (size : Option ℕ) → p.0.size ≡ size →
        known_child track p.0.ident (cluster_at base p.0.left p.1) p.0.size more ≡ Ok q → step_kept q.0 q.1 ≡ Ok (o, rest) → HasHeadTurn track base c s text o rest
    on_size p more q h None z child kept = absurd (err_is_no_ok (Met fault.BadElement more) q (rw z at child))
    on_size p more q h (Some n) z child kept =
        let P : Sum → Type 0 = λ k. (child_by track p.0.ident n (cluster_at base p.0.left k) k >>= step_kept) more ≡ Ok (o, rest) in
        let read : P p.1 = ap (λ z. read_on z step_kept) (rw z at child) ∙ kept in
        record {
          ident = h.ident;
          size = h.size;
          number = p.0.ident;
          n = n;
          left = p.0.left;
          more = more;
          is = record { named = h.is.named; few = h.is.few; is = h.number; sized = rw z at h.is.sized };
          text_is = h.text_is;
          fits = rw z at h.left_is;
          read = subst P h.sum_is read;
        }

-- and what is read on
record HasKnown (track : TrackNumbers) (base : Place) (c : ℕ) (s : Sum) (text : List ℕ) (w : List (List ℕ) × List ℕ) : Type 0 where
  ident : List ℕ
  size : List ℕ
  number : ℕ
  n : ℕ
  left : ℕ
  more : List ℕ
  is : IsNamed ident size number n
  text_is : text ≡ (ident ++ size) ++ more
  fits : length (ident ++ size) + (n + left) ≡ c
  read : read_on ((child_by track number n (cluster_at base left (summed s (ident ++ size))) (summed s (ident ++ size)) >>= step_kept) more) (turns_on track) ≡ Ok w

known_sound : (track : TrackNumbers) (base : Place) (c : ℕ) (s : Sum) (text : List ℕ) (w : List (List ℕ) × List ℕ) → 0 < c → frames_read track (cluster_at base c s) text ≡ Ok w → HasKnown track base c s text w
known_sound track base c s text w some h =
    let turn = turn_sound track (cluster_at base c s) text w h in
    let k = head_turn track base c s text turn.turn turn.more some turn.read in
    record { ident = k.ident; size = k.size; number = k.number; n = k.n; left = k.left; more = k.more; is = k.is; text_is = k.text_is; fits = k.fits; read = ap (λ z. read_on z (turns_on track)) k.read ∙ turn.on }

-- with what it holds
piece_of : (track : TrackNumbers) (base : Place) (c : ℕ) (s : Sum) (text : List ℕ) (w : List (List ℕ) × List ℕ) (k : HasKnown track base c s text w) →
    HasChild track (cluster_at base k.left (summed s (k.ident ++ k.size))) (summed s (k.ident ++ k.size)) k.ident k.size k.n k.more w → HasPiece track base c s text w
piece_of track base c s text w k child =
    let head = k.ident ++ k.size in
    let body = piece_content child.piece in
    let sums : summed (summed s head) body ≡ summed s (piece_text child.piece) = summed_twice s head body ∙ ap (summed s) (sym child.whole) in
    let P : Sum → Type 0 = λ z. is_sound (cluster_at base k.left z) ≡ true in
    let Q : Sum → Type 0 = λ z. GoesOn track (cluster_at base k.left z) child.more (piece_frames child.piece) w in
    record {
      piece = child.piece;
      is = child.is;
      more = child.more;
      text_is = k.text_is ∙ ap (λ z. head ++ z) child.text_is ∙ sym (append_assoc head body child.more) ∙ ap (λ z. z ++ child.more) (sym child.whole);
      left = k.left;
      fits = omega (arith, k.fits, child.long, ap length child.whole, length-append head body);
      sound = subst P sums child.sound;
      after = subst Q sums child.after;
    }

piece_sound : (track : TrackNumbers) (base : Place) (c : ℕ) (s : Sum) (text : List ℕ) (w : List (List ℕ) × List ℕ) → 0 < c → IsPast s → frames_read track (cluster_at base c s) text ≡ Ok w → HasPiece track base c s text w
piece_sound track base c s text w some past h =
    let k = known_sound track base c s text w some h in
    let now = summed s (k.ident ++ k.size) in
    let place : Place = cluster_at base k.left now in
    let read : read_on ((cluster_child track k.number k.n place >>= step_kept) k.more) (turns_on track) ≡ Ok w =
    ap (λ r. read_on (read_on (r k.more) step_kept) (turns_on track)) (sym (by_past track k.number k.n place now (past_summed s (k.ident ++ k.size) past))) ∙ k.read in
    piece_of track base c s text w k (child_sound track place now k.ident k.size k.number k.n k.more w k.is read)

-- the elements of a Cluster, and what is read after them
pub record HasPieces (track : TrackNumbers) (base : Place) (c : ℕ) (s : Sum) (text : List ℕ) (w : List (List ℕ) × List ℕ) : Type 0 where
  pub pieces : List Piece
  pub are : ArePieces track pieces
  pub more : List ℕ
  pub text_is : text ≡ pieces_text pieces ++ more
  pub long : length (pieces_text pieces) ≡ c
  pub met : is_met (summed s (pieces_text pieces)) ≡ true
  pub after : GoesOn track (segment_at base base.loose base.segment) more (pieces_frames pieces) w

no_pieces : (track : TrackNumbers) (base : Place) (s : Sum) (text : List ℕ) (w : List (List ℕ) × List ℕ) → is_sound (cluster_at base 0 s) ≡ true → frames_read track (cluster_at base 0 s) text ≡ Ok w → HasPieces track base 0 s text w
no_pieces track base s text w sound read =
    record { pieces = []; are = tt; more = text; text_is = refl; long = refl; met = ap is_met (summed_none s) ∙ sound; after = record { later = w.0; read = sym (cluster_end track base s text) ∙ read; all = refl } }

some_piece : (track : TrackNumbers) (base : Place) (c : ℕ) (s : Sum) (text : List ℕ) (w : List (List ℕ) × List ℕ) (p : HasPiece track base c s text w) → HasPieces track base p.left (summed s (piece_text p.piece)) p.more (p.after.later, w.1) → HasPieces track base c s text w
some_piece track base c s text w p next =
    let front = piece_text p.piece in
    let back = pieces_text next.pieces in
    let here = piece_frames p.piece in
    record {
      pieces = p.piece ∷ next.pieces;
      are = (p.is, next.are);
      more = next.more;
      text_is = p.text_is ∙ ap (λ z. front ++ z) next.text_is ∙ sym (append_assoc front back next.more);
      long = length-append front back ∙ (omega (arith, next.long, p.fits));
      met = ap is_met (sym (summed_twice s front back)) ∙ next.met;
      after = record { later = next.after.later; read = next.after.read; all = p.after.all ∙ ap (λ z. here ++ z) next.after.all ∙ sym (append_assoc here (pieces_frames next.pieces) next.after.later) };
    }

piece_long : (track : TrackNumbers) (p : Piece) → IsPiece track p → 1 ≤ length (piece_text p)
piece_long track (Single l) is = omega (arith, is.0.named.0, length-append (l.ident ++ l.size) (content_text l.content), length-append l.ident l.size)
piece_long track (Group ident size ls) is = omega (arith, is.0.0.0, length-append (ident ++ size) (leaves_text ls), length-append ident size)

pieces_sound : (most : ℕ) (track : TrackNumbers) (base : Place) (c : ℕ) (s : Sum) (text : List ℕ) (w : List (List ℕ) × List ℕ) → c ≤ most → is_sound (cluster_at base c s) ≡ true → IsPast s → frames_read track (cluster_at base c s) text ≡ Ok w → HasPieces track base c s text w
pieces_sound most track base zero s text w fits sound past read = no_pieces track base s text w sound read
pieces_sound zero track base (suc c) s text w fits sound past read = absurd (omega (arith, fits))
pieces_sound (suc most) track base (suc c) s text w fits sound past read =
    let p = piece_sound track base (suc c) s text w (omega arith) past read in
    some_piece track base (suc c) s text w p (pieces_sound most track base p.left (summed s (piece_text p.piece)) p.more (p.after.later, w.1) (omega (arith, p.fits, piece_long track p.piece p.is, fits)) p.sound (past_summed s (piece_text p.piece) past) p.after.read)

-- all elements of a Cluster, with its sum
pub record HasCluster (track : TrackNumbers) (base : Place) (c : ℕ) (text : List ℕ) (w : List (List ℕ) × List ℕ) : Type 0 where
  pub pieces : List Piece
  pub are : ArePieces track pieces
  pub sums : AreSummed pieces
  pub more : List ℕ
  pub text_is : text ≡ pieces_text pieces ++ more
  pub long : length (pieces_text pieces) ≡ c
  pub after : GoesOn track (segment_at base base.loose base.segment) more (pieces_frames pieces) w

no_sum : (p : Piece) (ps : List Piece) → is_crc (piece_ident p) (length (piece_content p)) ≡ false → AreSummed (p ∷ ps)
no_sum (Single l) ps none = λ crc. absurd (cc (sym none ∙ crc))
no_sum (Group ident size ls) ps none = tt

-- a CRC-32 may stand in a Cluster
crc_stands : (ident size : ℕ) → ident ≡ crc_ident → stands_single ident size ≡ true
unfolding is_beside is_filler
crc_stands ident size is = ap (λ k. stands_single k size) is

is_crc_at : (track : TrackNumbers) (base : Place) (c : ℕ) (text : List ℕ) (w : List (List ℕ) × List ℕ) → 0 < c → frames_read track (cluster_at base c Begins) text ≡ Ok w → HasCluster track base c text w
unfolding first_child
is_crc_at track base c text w some h = on_test known (is_crc known.number known.n) refl known.read
  where
    known : HasKnown track base c Begins text w
    known = known_sound track base c Begins text w some h

    with_sum : (k : HasKnown track base c Begins text w) (p : Piece) (s : Sum) (more : List ℕ) (on : List (List ℕ)) → IsPiece track p → (frames : List (List ℕ)) → frames ≡ piece_frames p →
        text ≡ piece_text p ++ more → length (piece_text p) + k.left ≡ c → w.0 ≡ frames ++ on → ((ps : HasPieces track base k.left s more (on, w.1)) → AreSummed (p ∷ ps.pieces)) → HasPieces track base k.left s more (on, w.1) → HasCluster track base c text w
    with_sum k p s more on is frames same whole fits all sums next =
        let front = piece_text p in
        let back = pieces_text next.pieces in
        record {
          pieces = p ∷ next.pieces;
          are = (is, next.are);
          sums = sums next;
          more = next.more;
          text_is = whole ∙ ap (λ z. front ++ z) next.text_is ∙ sym (append_assoc front back next.more);
          long = length-append front back ∙ (omega (arith, next.long, fits));
          after = record { later = next.after.later; read = next.after.read; all = all ∙ ap (λ z. z ++ on) same ∙ ap (λ z. piece_frames p ++ z) next.after.all ∙ sym (append_assoc (piece_frames p) (pieces_frames next.pieces) next.after.later) };
        }

    plain : (k : HasKnown track base c Begins text w) → is_crc k.number k.n ≡ false → read_on ((cluster_child track k.number k.n (cluster_at base k.left Absent) >>= step_kept) k.more) (turns_on track) ≡ Ok w → HasCluster track base c text w
    plain k t h =
        let head = k.ident ++ k.size in
        let child = child_sound track (cluster_at base k.left Absent) Absent k.ident k.size k.number k.n k.more w k.is h in
        let body = piece_content child.piece in
        let next = pieces_sound k.left track base k.left Absent child.more (child.after.later, w.1) (omega arith) child.sound tt child.after.read in
        let none : is_crc (piece_ident child.piece) (length body) ≡ false = ap (λ n. is_crc n (length body)) (child.ident_is ∙ k.is.is) ∙ ap (is_crc k.number) child.long ∙ t in
        with_sum k child.piece Absent child.more child.after.later child.is (piece_frames child.piece) refl
        (k.text_is ∙ ap (λ z. head ++ z) child.text_is ∙ sym (append_assoc head body child.more) ∙ ap (λ z. z ++ child.more) (sym child.whole))
        (omega (arith, k.fits, child.long, ap length child.whole, length-append head body)) child.after.all (λ ps. no_sum child.piece ps.pieces none) next

    stated : (k : HasKnown track base c Begins text w) → is_crc k.number k.n ≡ true → read_on ((crc_read (cluster_at base k.left Begins) >>= step_kept) k.more) (turns_on track) ≡ Ok w → HasCluster track base c text w
    stated k t h =
        let first = read_on_ok ((crc_read (cluster_at base k.left Begins) >>= step_kept) k.more) (turns_on track) w h in
        let second = read_on_ok (crc_read (cluster_at base k.left Begins) k.more) step_kept first.0 first.1 in
        let third = read_on_ok (taken 4 k.more) (λ bytes. closed (Some (step_to (cluster_at base k.left (Awaits (low_number bytes) turned)))) (cluster_at base k.left (Awaits (low_number bytes) turned))) second.0 second.1 in
        let parts = taken_sound 4 k.more third.0 third.1 in
        let bytes = third.0.0 in
        let s = Awaits (low_number bytes) turned in
        let shut = closed_sound (Some (step_to (cluster_at base k.left s))) (cluster_at base k.left s) third.0.1 second.0.0 second.0.1 third.2 in
        let P : Option Step → Type 0 = λ z. step_kept z second.0.1 ≡ Ok first.0 in
        let made : Turn = Some ([], cluster_at base k.left s) in
        let same = ok_is (made, second.0.1) first.0 (subst P shut.value second.2) in
        let Q : Turn × List ℕ → Type 0 = λ z. turns_on track z.0 z.1 ≡ Ok w in
        let on = led_sound track (cluster_at base k.left s) second.0.1 [] w (subst Q (sym same) first.2) in
        let R : List ℕ → Type 0 = λ z. frames_read track (cluster_at base k.left s) z ≡ Ok (on.later, w.1) in
        let next = pieces_sound k.left track base k.left s third.0.1 (on.later, w.1) (omega arith) shut.sound tt (subst R (sym shut.text_is) on.read) in
        let crc = crc_number k.number k.n t in
        let l : Leaf = record { ident = k.ident; size = k.size; content = Plain bytes } in
        let number : number_of k.ident ≡ crc_ident = k.is.is ∙ crc.0 in
        let sized : SaysSize k.size (Some (length bytes)) = rw (parts.1 ∙ sym crc.1) k.is.sized in
        let leaf : IsLeaf simple_block track l = record { named = k.is.named; few = k.is.few; sized = sized; holds = ap (λ n. n == simple_block) number } in
        let head = k.ident ++ k.size in
        with_sum k (Single l) s third.0.1 on.later (leaf, ap (λ n. n == block_group) number, crc_stands (number_of k.ident) (length bytes) number) [] refl
        (k.text_is ∙ ap (λ z. head ++ z) parts.0 ∙ sym (append_assoc head bytes third.0.1))
        (omega (arith, k.fits, parts.1, crc.1, length-append head bytes)) on.all (λ ps crc. eqb-true (low_number bytes) (crc_of (pieces_text ps.pieces)) ps.met) next

    on_test : (k : HasKnown track base c Begins text w) (b : Bool) → is_crc k.number k.n ≡ b → read_on ((first_child track k.number k.n (cluster_at base k.left Begins) >>= step_kept) k.more) (turns_on track) ≡ Ok w → HasCluster track base c text w
    on_test k true t h = stated k t (rw t at h)
    on_test k false t h = plain k t (rw t at h)

pub cluster_sound : (track : TrackNumbers) (base : Place) (c : ℕ) (text : List ℕ) (w : List (List ℕ) × List ℕ) → frames_read track (cluster_entered base c) text ≡ Ok w → HasCluster track (segment_at base false base.segment) c text w
cluster_sound track base zero text w read =
    let now = segment_at base false base.segment in
    record { pieces = []; are = tt; sums = tt; more = text; text_is = refl; long = refl; after = record { later = w.0; read = sym (cluster_end track now Begins text) ∙ read; all = refl } }
cluster_sound track base (suc c) text w read = is_crc_at track (segment_at base false base.segment) (suc c) text w (omega arith) read
