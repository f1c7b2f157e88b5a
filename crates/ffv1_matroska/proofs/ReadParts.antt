-- What is read in a Segment is its parts, one after the other.
use Rattle.std.proofs.Common.{◌≡◌, ◌⊎◌, ◌≤◌, ◌<◌, ◌+◌, ◌==◌, ◌||◌, ◌∙◌, ◌++◌, ◌∷◌, [], ℕ, suc, zero, List, Bool, true, false, Option, Some, None, Result, Ok, inl, inr, length, refl, sym, ap, subst, arith, append_assoc, length-append}
use Rattle.std.proofs.lemmas.Bool.{eqb-true}
use Rattle.ffv1_reads.specs.declared.fault.FileFault.TheVariants as fault
use Rattle.ffv1_reads.specs.Reads.{Met, Stop, given, read_on, ◌>>=◌}
use Rattle.ffv1_reads.proofs.Results.{ok_is, read_on_ok}
use Rattle.ffv1_ebml.specs.Contents.{content_told}
use Rattle.ffv1_ebml.specs.Elements.{content_passed}
use Rattle.ffv1_ebml.specs.Spelled.{SaysSize}
use Rattle.ffv1_ebml.specs.declared.element.Element.{Element}
use Rattle.ffv1_ebml.specs.declared.sum.Sum.{Sum}
use Rattle.ffv1_ebml.specs.declared.sum.Sum.TheVariants.{Absent}
use Rattle.ffv1_matroska.specs.Blocks.{passed_on}
use Rattle.ffv1_matroska.specs.Elements.{AreLoose, AreParts, ArePieces, IsPart, IsPiece, IsTopLevel, Part, Piece, Top, Sized, Unsized, TopLevel, part_frames, part_text, parts_frames, parts_text, piece_frames, piece_ident, piece_text, pieces_frames, pieces_text}
use Rattle.ffv1_matroska.specs.Files.{frames_read}
use Rattle.ffv1_matroska.specs.Places.{cluster_entered, group_at, segment_at, step_to}
use Rattle.ffv1_matroska.specs.Segments.{cluster, cluster_child, header_read, is_filler, is_of_cluster, is_section, other_read, segment_child, segment_read, segment_rest, step_read}
use Rattle.ffv1_matroska.specs.declared.place.Place.{Place}
use Rattle.ffv1_matroska.specs.declared.place.Step.{Step}
use Rattle.ffv1_matroska.proofs.FileLaws.{HasEnded}
use Rattle.ffv1_matroska.proofs.FrameTurns.{Turn, step_kept, turns_on}
use Rattle.ffv1_matroska.proofs.HeaderLaws.{HasHeader}
use Rattle.ffv1_matroska.proofs.PieceLaws.{piece_content}
use Rattle.ffv1_matroska.proofs.ReadBlocks.{passed_on_sound}
use Rattle.ffv1_matroska.proofs.ReadClusters.{IsNamed, child_sound, cluster_sound}
use Rattle.ffv1_matroska.proofs.ReadPieces.{HasTurn, led_sound, turn_sound}
use Rattle.ffv1_matroska.proofs.ReadSegments.{Headed, content_passed_sound, headed_sound}
use Rattle.ffv1_matroska.proofs.SegmentLaws.{loose_child}
use Rattle.ffv1_matroska.proofs.StepBounds.{err_is_no_ok}
use Rattle.ffv1_matroska.specs.declared.track.TrackNumbers.{TrackNumbers}

-- what is read of a Segment: elements of a Cluster of unknown size, and then parts
pub record HasSegment (track : TrackNumbers) (base : Place) (loose : Bool) (n : ℕ) (text : List ℕ) (w : List (List ℕ) × List ℕ) : Type 0 where
  pub pieces : List Piece
  pub parts : List Part
  pub none : loose ≡ false → pieces ≡ []
  pub are : ArePieces track pieces
  pub are_loose : AreLoose pieces
  pub are_parts : AreParts track parts
  pub text_is : text ≡ pieces_text pieces ++ (parts_text parts ++ w.1)
  pub left : ℕ
  pub fits : length (pieces_text pieces) + (length (parts_text parts) + left) ≡ n
  pub ended : HasEnded base left w.1
  pub all : w.0 ≡ pieces_frames pieces ++ parts_frames parts

-- the header of an element, and what is read after it
record HasElement (track : TrackNumbers) (base : Place) (loose : Bool) (n : ℕ) (text : List ℕ) (w : List (List ℕ) × List ℕ) : Type 0 where
  e : Element
  s : Sum
  more : List ℕ
  head : HasHeader n Absent text (e, s) more
  read : read_on ((segment_child track e.ident (segment_at base loose e.left) e.size >>= step_kept) more) (turns_on track) ≡ Ok w

-- the end, or an element
abbrev EndOrElement : TrackNumbers → Place → Bool → ℕ → List ℕ → List (List ℕ) × List ℕ → Type 0
EndOrElement track base loose n text w = ((HasEnded base n w.1 × (text ≡ w.1)) × (w.0 ≡ [])) ⊎ HasElement track base loose n text w

element_sound : (track : TrackNumbers) (base : Place) (loose : Bool) (n : ℕ) (text : List ℕ) (w : List (List ℕ) × List ℕ) → frames_read track (segment_at base loose n) text ≡ Ok w → EndOrElement track base loose n text w
unfolding step_read segment_read
element_sound track base loose n text w h =
    let place : Place = segment_at base loose n in
    let turn = turn_sound track place text w h in
    let first = read_on_ok (read_on (header_read place text) (segment_rest track place)) step_kept (turn.turn, turn.more) turn.read in
    let second = read_on_ok (header_read place text) (segment_rest track place) first.0 first.1 in
    on_header turn second.0.0 second.0.1 first.0 (headed_sound base loose n text second.0.0 second.0.1 second.1) second.2 first.2
  where
    on_header : (turn : HasTurn track (segment_at base loose n) text w) (o : Option Element) (more : List ℕ) (q : Option Step × List ℕ) → Headed base n text o more → segment_rest track (segment_at base loose n) o more ≡ Ok q → step_kept q.0 q.1 ≡ Ok (turn.turn, turn.more) → EndOrElement track base loose n text w
    on_header turn None more q headed child kept =
        let P : Option Step × List ℕ → Type 0 = λ z. step_kept z.0 z.1 ≡ Ok (turn.turn, turn.more) in
        let same = ok_is (None, more) (turn.turn, turn.more) (subst P (sym (ok_is (None, more) q child)) kept) in
        let Q : Turn × List ℕ → Type 0 = λ z. turns_on track z.0 z.1 ≡ Ok w in
        let end = ok_is ([], more) w (subst Q (sym same) turn.on) in
        let rest : more ≡ w.1 = ap (λ (z : List (List ℕ) × List ℕ). z.1) end in
        let R : List ℕ → Type 0 = λ z. HasEnded base n z in
        inl ((subst R rest headed.1, headed.0 ∙ rest), ap (λ (z : List (List ℕ) × List ℕ). z.0) (sym end))
    on_header turn (Some e) more q headed child kept =
        inr (record { e = e; s = headed.0; more = more; head = headed.1; read = ap (λ z. read_on (read_on z step_kept) (turns_on track)) child ∙ ap (λ z. read_on z (turns_on track)) kept ∙ turn.on })

-- a turn that gives no frame
no_frame : (track : TrackNumbers) (place : Place) (more : List ℕ) (w : List (List ℕ) × List ℕ) → read_on {X = Turn} (Ok (Some ([], place), more)) (turns_on track) ≡ Ok w → frames_read track place more ≡ Ok w
no_frame track place more w h =
    let on = led_sound track place more [] w h in
    let answer : List (List ℕ) → Result (List (List ℕ) × List ℕ) Stop = λ z. Ok (z, w.1) in
    on.read ∙ ap answer (sym on.all)

-- parts alone
pub record HasTail (track : TrackNumbers) (base : Place) (n : ℕ) (text : List ℕ) (w : List (List ℕ) × List ℕ) : Type 0 where
  pub parts : List Part
  pub are : AreParts track parts
  pub text_is : text ≡ parts_text parts ++ w.1
  pub left : ℕ
  pub fits : length (parts_text parts) + left ≡ n
  pub ended : HasEnded base left w.1
  pub all : w.0 ≡ parts_frames parts

pub tail_of : (track : TrackNumbers) (base : Place) (n : ℕ) (text : List ℕ) (w : List (List ℕ) × List ℕ) → HasSegment track base false n text w → HasTail track base n text w
tail_of track base n text w h =
    let none : h.pieces ≡ [] = h.none refl in
    let long : length (pieces_text h.pieces) ≡ 0 = ap (λ ps. length (pieces_text ps)) none in
    record {
      parts = h.parts;
      are = h.are_parts;
      text_is = h.text_is ∙ ap (λ ps. pieces_text ps ++ (parts_text h.parts ++ w.1)) none;
      left = h.left;
      fits = omega (arith, h.fits, long);
      ended = h.ended;
      all = h.all ∙ ap (λ ps. pieces_frames ps ++ parts_frames h.parts) none;
    }

-- a part before others
add_part : (track : TrackNumbers) (base : Place) (loose : Bool) (n m : ℕ) (text more : List ℕ) (w : List (List ℕ) × List ℕ) (p : Part) (later : List (List ℕ)) → IsPart track p → text ≡ part_text p ++ more → length (part_text p) + m ≡ n → w.0 ≡ part_frames p ++ later →
    HasTail track base m more (later, w.1) → HasSegment track base loose n text w
add_part track base loose n m text more w p later is whole long all tail =
    let front = part_text p in
    let back = parts_text tail.parts in
    record {
      pieces = [];
      parts = p ∷ tail.parts;
      none = λ l. refl;
      are = tt;
      are_loose = tt;
      are_parts = (is, tail.are);
      text_is = whole ∙ ap (λ z. front ++ z) tail.text_is ∙ sym (append_assoc front back w.1);
      left = tail.left;
      fits = omega (arith, tail.fits, long, length-append front back);
      ended = tail.ended;
      all = all ∙ ap (λ z. part_frames p ++ z) tail.all;
    }

-- an element of a Cluster of unknown size before others
add_piece : (track : TrackNumbers) (base : Place) (n m : ℕ) (text more : List ℕ) (w : List (List ℕ) × List ℕ) (p : Piece) (later : List (List ℕ)) → IsPiece track p → (is_of_cluster (piece_ident p) || is_filler (piece_ident p)) ≡ true → text ≡ piece_text p ++ more → length (piece_text p) + m ≡ n → w.0 ≡ piece_frames p ++ later →
    HasSegment track base true m more (later, w.1) → HasSegment track base true n text w
add_piece track base n m text more w p later is loose whole long all next =
    let front = piece_text p in
    let back = pieces_text next.pieces in
    let parts = parts_text next.parts in
    record {
      pieces = p ∷ next.pieces;
      parts = next.parts;
      none = λ l. absurd (cc l);
      are = (is, next.are);
      are_loose = (loose, next.are_loose);
      are_parts = next.are_parts;
      text_is = whole ∙ ap (λ z. front ++ z) next.text_is ∙ sym (append_assoc front back (parts ++ w.1));
      left = next.left;
      fits = omega (arith, next.fits, long, length-append front back);
      ended = next.ended;
      all = all ∙ ap (λ z. piece_frames p ++ z) next.all ∙ sym (append_assoc (piece_frames p) (pieces_frames next.pieces) (parts_frames next.parts));
    }

abbrev Again : TrackNumbers → Place → ℕ → Type 0
Again track base n = (loose : Bool) (m : ℕ) (more : List ℕ) (w : List (List ℕ) × List ℕ) → m < n → frames_read track (segment_at base loose m) more ≡ Ok w → HasSegment track base loose m more w

-- one that holds no frames
top_sound : (track : TrackNumbers) (base : Place) (loose : Bool) (n : ℕ) (text : List ℕ) (w : List (List ℕ) × List ℕ) (e : Element) (s : Sum) (more : List ℕ) (h : HasHeader n Absent text (e, s) more) (k : ℕ) → e.size ≡ Some k → Again track base n →
    (bytes rest : List ℕ) → more ≡ bytes ++ rest → length bytes ≡ k → (is_section e.ident || is_filler e.ident) ≡ true → (is_section e.ident ≡ true → content_told bytes ≡ Ok tt) → frames_read track (segment_at base false e.left) rest ≡ Ok w → HasSegment track base loose n text w
top_sound track base loose n text w e s more h k z again bytes rest split long known told read =
    let head = h.ident ++ h.size in
    let t : TopLevel = record { ident = h.ident; size = h.size; content = bytes } in
    let says : SaysSize h.size (Some k) = rw z at h.is.sized in
    let fit : length head + (k + e.left) ≡ n = rw z at h.left_is in
    let sized : SaysSize h.size (Some (length bytes)) = rw long says in
    let is : IsTopLevel t = record { named = h.is.named; few = h.is.few; sized = sized; known = rw h.number known; told = λ sec. told (ap is_section (sym h.number) ∙ sec) } in
    let some : 1 ≤ length head = omega (arith, h.is.named.0, length-append h.ident h.size) in
    let next = again false e.left rest w (omega (arith, fit, some)) read in
    add_part track base loose n e.left text rest w (Top t) w.0 is (h.text_is ∙ ap (λ z. head ++ z) split ∙ sym (append_assoc head bytes rest)) (omega (arith, fit, long, length-append head bytes)) refl (tail_of track base e.left rest w next)

-- an element that holds no frames was read: one that is known, or a filler if no Cluster of unknown
-- size goes on
other_sound : (track : TrackNumbers) (base : Place) (loose : Bool) (n : ℕ) (text : List ℕ) (w : List (List ℕ) × List ℕ) (e : Element) (s : Sum) (more : List ℕ) (h : HasHeader n Absent text (e, s) more) (k : ℕ) → e.size ≡ Some k → Again track base n →
    (is_filler e.ident ≡ true → loose ≡ false) → read_on ((other_read e.ident k (segment_at base loose e.left) >>= step_kept) more) (turns_on track) ≡ Ok w → HasSegment track base loose n text w
unfolding other_read
other_sound track base loose n text w e s more h k z again calm read = on_tests (is_section e.ident) (is_filler e.ident) refl refl read
  where
    place : Place
    place = segment_at base loose e.left

    on_tests : (a b : Bool) → is_section e.ident ≡ a → is_filler e.ident ≡ b → read_on ((other_read e.ident k place >>= step_kept) more) (turns_on track) ≡ Ok w → HasSegment track base loose n text w
    on_tests true b p q r =
        let whole : read_on (read_on (read_on (content_passed k more) (λ _. given (Some (step_to (segment_at base false e.left))))) step_kept) (turns_on track) ≡ Ok w = rw p at r in
        let first = read_on_ok (read_on (read_on (content_passed k more) (λ _. given (Some (step_to (segment_at base false e.left))))) step_kept) (turns_on track) w whole in
        let second = read_on_ok (read_on (content_passed k more) (λ _. given (Some (step_to (segment_at base false e.left))))) step_kept first.0 first.1 in
        let third = read_on_ok (content_passed k more) (λ _. given (Some (step_to (segment_at base false e.left)))) second.0 second.1 in
        let c = content_passed_sound k more third.0 third.1 in
        let rest = third.0.1 in
        let made : Turn = Some ([], segment_at base false e.left) in
        let step : Option Step = Some (step_to (segment_at base false e.left)) in
        let P : Option Step × List ℕ → Type 0 = λ z. step_kept z.0 z.1 ≡ Ok first.0 in
        let Q : Turn × List ℕ → Type 0 = λ z. turns_on track z.0 z.1 ≡ Ok w in
        let same = ok_is (made, rest) first.0 (subst P (sym (ok_is (step, rest) second.0 third.2)) second.2) in
        let on = no_frame track (segment_at base false e.left) rest w (subst Q (sym same) first.2) in
        top_sound track base loose n text w e s more h k z again c.bytes rest c.text_is c.long (rw p refl) (λ _. c.told) on
    on_tests false true p q r =
        let first = read_on_ok ((passed_on k place >>= step_kept) more) (turns_on track) w (rw (p, q) at r) in
        let second = read_on_ok (passed_on k place more) step_kept first.0 first.1 in
        let c = passed_on_sound k place more second.0.0 second.0.1 second.1 in
        let rest = second.0.1 in
        let made : Turn = Some ([], place) in
        let P : Option Step → Type 0 = λ z. step_kept z rest ≡ Ok first.0 in
        let Q : Turn × List ℕ → Type 0 = λ z. turns_on track z.0 z.1 ≡ Ok w in
        let same = ok_is (made, rest) first.0 (subst P c.step second.2) in
        let R : Bool → Type 0 = λ l. frames_read track (segment_at base l e.left) rest ≡ Ok w in
        let on = subst R (calm q) (no_frame track place rest w (subst Q (sym same) first.2)) in
        top_sound track base loose n text w e s more h k z again c.bytes rest c.text_is c.long (rw (p, q) refl) (λ sec. absurd (cc (sym p ∙ sec))) on
    on_tests false false p q r = absurd (err_is_no_ok (Met fault.BadElement more) w (rw (p, q) at r))

-- an element of a Cluster of unknown size was read
loose_sound : (track : TrackNumbers) (base : Place) (n : ℕ) (text : List ℕ) (w : List (List ℕ) × List ℕ) (e : Element) (s : Sum) (more : List ℕ) (h : HasHeader n Absent text (e, s) more) (k : ℕ) → e.size ≡ Some k → Again track base n →
    (is_of_cluster e.ident || is_filler e.ident) ≡ true → read_on ((segment_child track e.ident (segment_at base true e.left) (Some k) >>= step_kept) more) (turns_on track) ≡ Ok w → HasSegment track base true n text w
loose_sound track base n text w e s more h k z again loose read =
    let place : Place = segment_at base true e.left in
    let named : IsNamed h.ident h.size e.ident k = record { named = h.is.named; few = h.is.few; is = h.number; sized = rw z at h.is.sized } in
    let fit : length (h.ident ++ h.size) + (k + e.left) ≡ n = rw z at h.left_is in
    let child_read : read_on ((cluster_child track e.ident k (group_at place 0 Absent) >>= step_kept) more) (turns_on track) ≡ Ok w =
    ap (λ r. read_on (read_on (r more) step_kept) (turns_on track)) (sym (loose_child track e.ident k e.left base loose)) ∙ read in
    let child = child_sound track place Absent h.ident h.size e.ident k more w named child_read in
    let head = h.ident ++ h.size in
    let body = piece_content child.piece in
    let whole : text ≡ piece_text child.piece ++ child.more = h.text_is ∙ ap (λ z. head ++ z) child.text_is ∙ sym (append_assoc head body child.more) ∙ ap (λ z. z ++ child.more) (sym child.whole) in
    let long : length (piece_text child.piece) + e.left ≡ n = omega (arith, fit, child.long, ap length child.whole, length-append head body) in
    let some : 1 ≤ length head = omega (arith, h.is.named.0, length-append h.ident h.size) in
    let number : piece_ident child.piece ≡ e.ident = child.ident_is ∙ h.number in
    let next = again true e.left child.more (child.after.later, w.1) (omega (arith, fit, some)) child.after.read in
    add_piece track base n e.left text child.more w child.piece child.after.later child.is (rw number loose) whole long child.after.all next

-- any element was read
any_sound : (track : TrackNumbers) (base : Place) (loose : Bool) (n : ℕ) (text : List ℕ) (w : List (List ℕ) × List ℕ) (e : Element) (s : Sum) (more : List ℕ) (h : HasHeader n Absent text (e, s) more) → Again track base n → (size : Option ℕ) → e.size ≡ size →
    read_on ((segment_child track e.ident (segment_at base loose e.left) size >>= step_kept) more) (turns_on track) ≡ Ok w → HasSegment track base loose n text w
unfolding segment_child
any_sound track base loose n text w e s more h again None z read = on_test (e.ident == cluster) refl read
  where
    head : List ℕ
    head = h.ident ++ h.size

    on_test : (b : Bool) → (e.ident == cluster) ≡ b → read_on ((segment_child track e.ident (segment_at base loose e.left) None >>= step_kept) more) (turns_on track) ≡ Ok w → HasSegment track base loose n text w
    on_test false t r = absurd (err_is_no_ok (Met fault.BadElement more) w (rw t at r))
    on_test true t r =
        let on = no_frame track (segment_at base true e.left) more w (rw t at r) in
        let fit : length head + (0 + e.left) ≡ n = rw z at h.left_is in
        let says : SaysSize h.size None = rw z at h.is.sized in
        let some : 1 ≤ length head = omega (arith, h.is.named.0, length-append h.ident h.size) in
        let next = again true e.left more w (omega (arith, fit, some)) on in
        let p : Part = Unsized h.ident h.size next.pieces in
        let body = pieces_text next.pieces in
        let back = parts_text next.parts ++ w.1 in
        let tail : HasTail track base (length (parts_text next.parts) + next.left) back (parts_frames next.parts, w.1) = record { parts = next.parts; are = next.are_parts; text_is = refl; left = next.left; fits = refl; ended = next.ended; all = refl } in
        add_part track base loose n (length (parts_text next.parts) + next.left) text back w p (parts_frames next.parts) ((h.is.named, h.is.few, h.number ∙ eqb-true _ _ t), says, next.are, next.are_loose)
        (h.text_is ∙ ap (λ z. head ++ z) next.text_is ∙ sym (append_assoc head body back)) (omega (arith, fit, next.fits, length-append head body)) next.all tail
any_sound track base loose n text w e s more h again (Some k) z read = on_test (e.ident == cluster) refl read
  where
    head : List ℕ
    head = h.ident ++ h.size

    on_loose : (l : Bool) (b : Bool) → (is_of_cluster e.ident || is_filler e.ident) ≡ b → (e.ident == cluster) ≡ false → read_on ((segment_child track e.ident (segment_at base l e.left) (Some k) >>= step_kept) more) (turns_on track) ≡ Ok w → HasSegment track base l n text w
    on_loose false b p t r = other_sound track base false n text w e s more h k z again (λ _. refl) (rw t at r)
    on_loose true true p t r = loose_sound track base n text w e s more h k z again p r
    on_loose true false p t r = on_parts (is_of_cluster e.ident) refl p
      where
        on_parts : (c : Bool) → is_of_cluster e.ident ≡ c → (c || is_filler e.ident) ≡ false → HasSegment track base true n text w
        on_parts true q none = absurd (cc none)
        on_parts false q none = other_sound track base true n text w e s more h k z again (λ f. absurd (cc (sym none ∙ f))) (rw (t, q) at r)

    on_test : (b : Bool) → (e.ident == cluster) ≡ b → read_on ((segment_child track e.ident (segment_at base loose e.left) (Some k) >>= step_kept) more) (turns_on track) ≡ Ok w → HasSegment track base loose n text w
    on_test false t r = on_loose loose (is_of_cluster e.ident || is_filler e.ident) refl t r
    on_test true t r =
        let on = no_frame track (cluster_entered (segment_at base loose e.left) k) more w (rw t at r) in
        let c = cluster_sound track (segment_at base loose e.left) k more w on in
        let fit : length head + (k + e.left) ≡ n = rw z at h.left_is in
        let body = pieces_text c.pieces in
        let known : SaysSize h.size (Some k) = rw z at h.is.sized in
        let says : SaysSize h.size (Some (length body)) = rw c.long known in
        let some : 1 ≤ length head = omega (arith, h.is.named.0, length-append h.ident h.size) in
        let next = again false e.left c.more (c.after.later, w.1) (omega (arith, fit, some)) c.after.read in
        add_part track base loose n e.left text c.more w (Sized h.ident h.size c.pieces) c.after.later ((h.is.named, h.is.few, h.number ∙ eqb-true _ _ t), says, c.are, c.sums)
        (h.text_is ∙ ap (λ z. head ++ z) c.text_is ∙ sym (append_assoc head body c.more)) (omega (arith, fit, c.long, length-append head body)) c.after.all (tail_of track base e.left c.more (c.after.later, w.1) next)

pub segment_sound : (most : ℕ) (track : TrackNumbers) (base : Place) (loose : Bool) (n : ℕ) (text : List ℕ) (w : List (List ℕ) × List ℕ) → n < most → frames_read track (segment_at base loose n) text ≡ Ok w → HasSegment track base loose n text w
segment_sound zero track base loose n text w fits read = absurd (omega (arith, fits))
segment_sound (suc most) track base loose n text w fits read = on_end (element_sound track base loose n text w read) (λ l m more v less r. segment_sound most track base l m more v (omega (arith, less, fits)) r)
  where
    on_end : EndOrElement track base loose n text w → Again track base n → HasSegment track base loose n text w
    on_end (inl ((ended, same), none)) again = record { pieces = []; parts = []; none = λ l. refl; are = tt; are_loose = tt; are_parts = tt; text_is = same; left = n; fits = omega arith; ended = ended; all = none }
    on_end (inr el) again = any_sound track base loose n text w el.e el.s el.more el.head again el.e.size refl el.read
